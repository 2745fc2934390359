-- the bytes up to the first newline belong to the line: it is too long with them, or ends there, or goes on
use Rattle.std.proofs.Common.{◌≡◌, ◌+◌, ◌-◌, ◌<◌, ◌≤◌, ◌∷◌, ◌++◌, ℕ, List, true, false, is_some, not, length, length-append, take, drop, ap, ◌∙◌, arith}
use Rattle.std.proofs.lemmas.Bool.Decides.{nat_tests}
use Rattle.std.proofs.lemmas.List.{length-take}
use Rattle.std.proofs.Math.Nat.{min-le_left}
use Rattle.std.specs.Vec.{vec_len}
use Rattle.xl_lines.specs.declared.limits.Overrun.TheVariants.{LongLine}
use Rattle.xl_lines.specs.declared.machine.Next.TheVariants as next
use Rattle.xl_lines.specs.Lines.{whole_line}
use Rattle.xl_lines.specs.Rules.{refused}
use Rattle.xl_lines.specs.Running.{told_at, soon_at}
use Rattle.xl_lines.proofs.Newlines.{finds_newline}
use Rattle.xl_lines.proofs.Parts.{first_end, one_line-append, one_line-first, one_line-none, fewer, cut_newline, told_long, told_none, told_joined}
use Rattle.xl_lines.proofs.Runs.{write_from}
use Rattle.xl_lines.proofs.Telling.{LineEnds, tells_from, front_from, less_from, tells_refused, tells_none, tells_line, front_of_line, less_of_line}
use Rattle.xl_lines.proofs.Soon.{puts_none, soon_none, puts_line, soon_joined}
use Rattle.xl_lines.proofs.lines.Lines.take_part.Goals as goal
use Rattle.xl_lines.proofs.lines.Lines.take_part.Goals.{Then-is_long_with, After-answer}

-- the line is too long
long : (g : _) (c : Then-is_long_with g) (rest : List ℕ) → told_at c.args.self.now.limits g.M.Machine.rules c.args.self.now.left (g.M.Machine.state c.args.self.now.machine) c.args.self.now.line.items (c.args.bytes.now ++ rest) ≡ refused (g.M.Machine.rules.overrun (g.M.Machine.state c.args.self.now.machine) LongLine)
long g c rest =
    let self = c.args.self.now in
    let bytes = c.args.bytes.now in
    let newline = c.newline_in-newline.result in
    let beyond : self.limits.bytes < length self.line.items + first_end bytes newline = omega (arith, self.line.ok.0, c.unwrap_or-count.ensures) in
    told_long self.limits g.M.Machine.rules self.left (g.M.Machine.state c.args.self.now.machine) self.line.items bytes newline self.one_line (finds_newline c.args.bytes.now _ c.newline_in-newline.ensures) beyond rest

-- the bytes are cut at their first newline
cut : (g : _) (c : After-answer g) (rest : List ℕ) → c.args.bytes.now ++ rest ≡ take c.unwrap_or-count.result c.args.bytes.now ++ (10 ∷ (drop (c.unwrap_or-count.result + 1) c.args.bytes.now ++ rest))
cut g c rest =
    let found : is_some c.newline_in-newline.result ≡ true = c.is_none.ensures ∙ ap not c.if-is_none.false in
    cut_newline c.args.bytes.now c.newline_in-newline.result c.unwrap_or-count.result (finds_newline c.args.bytes.now _ c.newline_in-newline.ensures) found c.unwrap_or-count.ensures rest

-- they are joined to what had come of it
whole : (g : _) (c : After-answer g) → c.whole_line-whole.result.now ≡ c.args.self.now.line.items ++ take c.unwrap_or-count.result c.args.bytes.now
whole g c = c.whole_line-whole.ensures ∙ ap (λ line. whole_line c.in_ok-had_begun.had_begun line (take c.unwrap_or-count.result c.args.bytes.now)) c.deref.ensures.value ∙ c.in_ok-had_begun.ensures.ok

-- so with its newline it is the next line that is told
ends : (g : _) (c : After-answer g) → LineEnds c.join.new.self.limits c.whole_line-whole.result.now c.before_newline-line.result.now
ends g c =
    let self = c.args.self.now in
    let last = take c.unwrap_or-count.result c.args.bytes.now in
    let short : vec_len self.line + c.unwrap_or-count.result ≤ self.limits.bytes = grind (arith, nat_tests) in
    record {
      one_line = rw (whole g c) (one_line-append self.line.items last self.one_line (one_line-first c.args.bytes.now c.newline_in-newline.result c.unwrap_or-count.result (finds_newline c.args.bytes.now _ c.newline_in-newline.ensures) c.unwrap_or-count.ensures));
      short = rw (whole g c, c.in_ok-had_begun.ensures.limits) (omega (arith, short, self.line.ok.0, length-append self.line.items last, length-take c.unwrap_or-count.result c.args.bytes.now, min-le_left c.unwrap_or-count.result (length c.args.bytes.now)));
      handed_on = c.before_newline-line.ensures;
    }

-- of all the bytes that is told which is told of it
newline : (g : _) (c : After-answer g) (rest : List ℕ) → told_at c.args.self.now.limits g.M.Machine.rules c.args.self.now.left (g.M.Machine.state c.args.self.now.machine) c.args.self.now.line.items (c.args.bytes.now ++ rest) ≡ told_at c.join.new.self.limits g.M.Machine.rules c.join.new.self.left (g.M.Machine.state c.join.new.self.machine) c.whole_line-whole.result.now (10 ∷ (drop (c.unwrap_or-count.result + 1) c.args.bytes.now ++ rest))
newline g c rest =
    let self = c.args.self.now in
    let joined = c.join.new.self in
    ap (told_at self.limits g.M.Machine.rules self.left (g.M.Machine.state self.machine) self.line.items) (cut g c rest)
    ∙ told_joined self.limits g.M.Machine.rules self.left (g.M.Machine.state self.machine) self.line.items (take c.unwrap_or-count.result c.args.bytes.now) joined.limits joined.left c.whole_line-whole.result.now c.in_ok-had_begun.ensures.limits c.in_ok-had_begun.ensures.left (whole g c) (g.M.Machine.state joined.machine) (ap g.M.Machine.state c.in_ok-had_begun.ensures.machine) (10 ∷ (drop (c.unwrap_or-count.result + 1) c.args.bytes.now ++ rest))

newline_soon : (g : _) (c : After-answer g) (rest : List ℕ) → soon_at c.args.self.now.limits g.M.Machine.rules c.args.self.now.left (g.M.Machine.state c.args.self.now.machine) c.args.self.now.line.items (c.args.bytes.now ++ rest) ≡ soon_at c.join.new.self.limits g.M.Machine.rules c.join.new.self.left (g.M.Machine.state c.join.new.self.machine) c.whole_line-whole.result.now (10 ∷ (drop (c.unwrap_or-count.result + 1) c.args.bytes.now ++ rest))
newline_soon g c rest =
    let self = c.args.self.now in
    let joined = c.join.new.self in
    ap (soon_at self.limits g.M.Machine.rules self.left (g.M.Machine.state self.machine) self.line.items) (cut g c rest)
    ∙ soon_joined self.limits g.M.Machine.rules self.left (g.M.Machine.state self.machine) self.line.items (take c.unwrap_or-count.result c.args.bytes.now) joined.limits joined.left c.whole_line-whole.result.now c.in_ok-had_begun.ensures.limits c.in_ok-had_begun.ensures.left (whole g c) (g.M.Machine.state joined.machine) (ap g.M.Machine.state c.in_ok-had_begun.ensures.machine) (10 ∷ (drop (c.unwrap_or-count.result + 1) c.args.bytes.now ++ rest))

pub put-requires-clause-one_line : goal.put-requires-clause-one_line
put-requires-clause-one_line g c =
    one_line-none c.args.bytes.now c.newline_in-newline.result (finds_newline c.args.bytes.now _ c.newline_in-newline.ensures) (c.is_none.ensures ∙ ap not c.if-is_none.true)

pub returns-in-Line-clause-fewer : goal.returns-in-Line-clause-fewer
returns-in-Line-clause-fewer g c =
    let self = c.args.self.now in
    let joined = c.join.new.self in
    let none : vec_len c.clear.new.self ≡ 0 = omega (arith, c.clear.new.self.ok.0, ap (λ items. length items) c.clear.ensures.items) in
    let short : vec_len self.line + c.unwrap_or-count.result ≤ self.limits.bytes = grind (arith, nat_tests) in
    fewer self.limits joined.limits self.left (joined.left - 1) (vec_len self.line) (vec_len c.clear.new.self) c.unwrap_or-count.result c.in_ok-had_begun.ensures.limits (omega (arith, c.in_ok-had_begun.ensures.left, c.in_ok-answer.ensures.within c.in-Line.is)) none short

pub join-requires-clause-one_line : goal.join-requires-clause-one_line
join-requires-clause-one_line g c = one_line-first c.args.bytes.now c.newline_in-newline.result c.unwrap_or-count.result (finds_newline c.args.bytes.now _ c.newline_in-newline.ensures) c.unwrap_or-count.ensures

pub returns-in_err-refuse-clause-front : goal.returns-in_err-refuse-clause-front
returns-in_err-refuse-clause-front g c rest = front_from (long g (goal.at.returns-in_err-refuse-clause-front g c).Then-is_long_with rest) c.refuse.ensures.front

pub returns-then-is_long_with-clause-ok : goal.returns-then-is_long_with-clause-ok
returns-then-is_long_with-clause-ok g c rest = tells_from (long g (goal.at.returns-then-is_long_with-clause-ok g c).Then-is_long_with rest) (tells_refused _ c.in_ok-refuse.ensures.held)

pub returns-then-is_long_with-clause-front : goal.returns-then-is_long_with-clause-front
returns-then-is_long_with-clause-front g c rest = front_from (long g (goal.at.returns-then-is_long_with-clause-front g c).Then-is_long_with rest) c.refuse.ensures.front

pub returns-then-is_none-clause-ok : goal.returns-then-is_none-clause-ok
returns-then-is_none-clause-ok g c rest =
    let self = c.args.self.now in
    let none : is_some c.newline_in-newline.result ≡ false = c.is_none.ensures ∙ ap not c.if-is_none.true in
    tells_from (told_none self.limits g.M.Machine.rules self.left (g.M.Machine.state c.args.self.now.machine) self.line.items c.args.bytes.now c.newline_in-newline.result c.unwrap_or-count.result none c.unwrap_or-count.ensures c.put.new.self.limits c.put.new.self.left c.put.new.self.line.items c.in_ok-put.ensures.limits c.in_ok-put.ensures.left c.in_ok-put.ensures.ok (g.M.Machine.state c.put.new.self.machine) (ap g.M.Machine.state c.in_ok-put.ensures.machine) rest) (tells_none _ _)

pub returns-in_err-answer-clause-front : goal.returns-in_err-answer-clause-front
returns-in_err-answer-clause-front g c rest = front_from (newline g (goal.at.returns-in_err-answer-clause-front g c).After-answer rest) (front_of_line g.M.Machine.rules _ c.join.new.self.left (ends g (goal.at.returns-in_err-answer-clause-front g c).After-answer) c.answer.ensures.front (drop (c.unwrap_or-count.result + 1) c.args.bytes.now ++ rest))

pub returns-in-Line-clause-ok : goal.returns-in-Line-clause-ok
returns-in-Line-clause-ok g c rest =
    rw c.clear.ensures.items (tells_from (newline g (goal.at.returns-in-Line-clause-ok g c).After-answer rest) (tells_line g.M.Machine.rules _ c.join.new.self.left next.Line _ (g.M.Machine.state c.answer.new.machine) (ends g (goal.at.returns-in-Line-clause-ok g c).After-answer) (rw c.in-Line.is at c.in_ok-answer.ensures.step) c.in_ok-answer.ensures.held (drop (c.unwrap_or-count.result + 1) c.args.bytes.now ++ rest)))

pub returns-in-Line-clause-front : goal.returns-in-Line-clause-front
returns-in-Line-clause-front g c rest = front_from (newline g (goal.at.returns-in-Line-clause-front g c).After-answer rest) (front_of_line g.M.Machine.rules _ c.join.new.self.left (ends g (goal.at.returns-in-Line-clause-front g c).After-answer) c.answer.ensures.front (drop (c.unwrap_or-count.result + 1) c.args.bytes.now ++ rest))

pub returns-in-Refused-clause-ok : goal.returns-in-Refused-clause-ok
returns-in-Refused-clause-ok g c rest =
    tells_from (newline g (goal.at.returns-in-Refused-clause-ok g c).After-answer rest) (tells_line g.M.Machine.rules _ c.join.new.self.left next.Refused _ (g.M.Machine.state c.answer.new.machine) (ends g (goal.at.returns-in-Refused-clause-ok g c).After-answer) (rw c.in-Refused.is at c.in_ok-answer.ensures.step) c.in_ok-answer.ensures.held (drop (c.unwrap_or-count.result + 1) c.args.bytes.now ++ rest))

pub returns-in-Refused-clause-front : goal.returns-in-Refused-clause-front
returns-in-Refused-clause-front g c rest = front_from (newline g (goal.at.returns-in-Refused-clause-front g c).After-answer rest) (front_of_line g.M.Machine.rules _ c.join.new.self.left (ends g (goal.at.returns-in-Refused-clause-front g c).After-answer) c.answer.ensures.front (drop (c.unwrap_or-count.result + 1) c.args.bytes.now ++ rest))

pub returns-in_err-refuse-clause-less : goal.returns-in_err-refuse-clause-less
returns-in_err-refuse-clause-less g c is rest =
    less_from (long g (goal.at.returns-in_err-refuse-clause-less g c).Then-is_long_with rest) (c.refuse.ensures.less (write_from c.from_residual.result c.refuse.result c.in_err-refuse.field-0.0 c.from_residual.ensures.1 c.in_err-refuse.was is))

pub returns-in_err-answer-clause-less : goal.returns-in_err-answer-clause-less
returns-in_err-answer-clause-less g c is rest =
    less_from (newline g (goal.at.returns-in_err-answer-clause-less g c).After-answer rest) (less_of_line g.M.Machine.rules _ c.join.new.self.left (ends g (goal.at.returns-in_err-answer-clause-less g c).After-answer) (c.answer.ensures.less (write_from c.from_residual-in_err-answer.result c.answer.result c.in_err-answer.field-0.0 c.from_residual-in_err-answer.ensures.1 c.in_err-answer.was is)) (drop (c.unwrap_or-count.result + 1) c.args.bytes.now ++ rest))

pub returns-in-Found-clause-ok : goal.returns-in-Found-clause-ok
returns-in-Found-clause-ok g c rest =
    tells_from (newline g (goal.at.returns-in-Found-clause-ok g c).After-answer rest) (tells_line g.M.Machine.rules _ c.join.new.self.left next.Found _ (g.M.Machine.state c.answer.new.machine) (ends g (goal.at.returns-in-Found-clause-ok g c).After-answer) (rw c.in-Found.is at c.in_ok-answer.ensures.step) c.in_ok-answer.ensures.held (drop (c.unwrap_or-count.result + 1) c.args.bytes.now ++ rest))

pub returns-in-Found-clause-front : goal.returns-in-Found-clause-front
returns-in-Found-clause-front g c rest = front_from (newline g (goal.at.returns-in-Found-clause-front g c).After-answer rest) (front_of_line g.M.Machine.rules _ c.join.new.self.left (ends g (goal.at.returns-in-Found-clause-front g c).After-answer) c.answer.ensures.front (drop (c.unwrap_or-count.result + 1) c.args.bytes.now ++ rest))

pub returns-then-is_none-clause-soon : goal.returns-then-is_none-clause-soon
returns-then-is_none-clause-soon g c =
    let self = c.args.self.now in
    let none : is_some c.newline_in-newline.result ≡ false = c.is_none.ensures ∙ ap not c.if-is_none.true in
    puts_none _ _ _ (soon_none self.limits g.M.Machine.rules self.left (g.M.Machine.state self.machine) self.line.items c.args.bytes.now c.newline_in-newline.result c.unwrap_or-count.result none c.unwrap_or-count.ensures c.put.new.self.limits c.put.new.self.left c.put.new.self.line.items c.in_ok-put.ensures.limits c.in_ok-put.ensures.left c.in_ok-put.ensures.ok (g.M.Machine.state c.put.new.self.machine) (ap g.M.Machine.state c.in_ok-put.ensures.machine))

pub returns-in-Line-clause-soon : goal.returns-in-Line-clause-soon
returns-in-Line-clause-soon g c =
    let joined = c.join.new.self in
    let puts = puts_line joined.limits g.M.Machine.rules joined.left _ _ _ (ends g (goal.at.returns-in-Line-clause-soon g c).After-answer) (rw c.in-Line.is at c.in_ok-answer.ensures.step) c.in_ok-answer.ensures.held c.clear.ensures.items in
    record {
      written = puts.written;
      held = puts.held;
      parts = λ rest.
          newline_soon g (goal.at.returns-in-Line-clause-soon g c).After-answer rest
          ∙ puts.parts (drop (c.unwrap_or-count.result + 1) c.args.bytes.now ++ rest);
    }
