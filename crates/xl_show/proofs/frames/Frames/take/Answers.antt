-- bytes put behind those that have come tell the same as before, and a byte beyond the most is refused as the limit
use Rattle.std.proofs.Common.{◌≡◌, ◌+◌, List, ℕ, ◌++◌, length, take, drop, sym, ap, ◌∙◌, arith, append_assoc, length-append}
use Rattle.std.proofs.lemmas.List.{take-append-drop, length-take}
use Rattle.xl_lines.specs.Rules.{refused}
use Rattle.xl_lines.proofs.Runs.{write_from}
use Rattle.xl_lines.proofs.Telling.{tells_from, tells_none, tells_refused, front_from, less_from}
use Rattle.xl_show.specs.Shown.{told_from}
use Rattle.xl_show.specs.Texts.{limit_line}
use Rattle.xl_show.specs.Limits.{most_bytes}
use Rattle.xl_show.proofs.Short.{need_fits}
use Rattle.xl_show.proofs.Telling.{told_limit}
use Rattle.xl_lines.proofs.Soon.{puts_none}
use Rattle.xl_show.proofs.Soon.{soon_taken}
use Rattle.xl_show.proofs.frames.Frames.take.Goals as goal
use Rattle.xl_show.proofs.frames.Frames.take.Goals.{Then-room-eq0}

-- a byte too many comes
limit : (g : _) (c : Then-room-eq0 g) (rest : List ℕ) → told_from c.args.self.now.place c.args.self.now.count (c.args.self.now.begun.items ++ (c.args.bytes.now ++ rest)) ≡ refused limit_line
limit g c rest =
    let self = c.args.self.now in
    let full : self.place + length self.begun.items ≡ most_bytes = omega (arith, self.within, self.begun.ok.0, c.len.ensures, c.if-room-eq0.true) in
    told_limit self.place self.count self.begun.items (omega (arith, full)) c.args.lack c.requires.lacks full (c.args.bytes.now ++ rest) (omega (arith, c.requires.some, length-append c.args.bytes.now rest))

pub returns-in_err-refuse-clause-front : goal.returns-in_err-refuse-clause-front
returns-in_err-refuse-clause-front g c = λ rest. front_from (limit g (goal.at.returns-in_err-refuse-clause-front g c).Then-room-eq0 rest) c.refuse.ensures.front

pub returns-in_err-refuse-clause-less : goal.returns-in_err-refuse-clause-less
returns-in_err-refuse-clause-less g c = λ is rest.
    less_from (limit g (goal.at.returns-in_err-refuse-clause-less g c).Then-room-eq0 rest)
    (c.refuse.ensures.less (write_from c.from_residual.result c.refuse.result c.in_err-refuse.field-0.0 c.from_residual.ensures.1 c.in_err-refuse.was is))

pub returns-then-room-eq0-clause-ok : goal.returns-then-room-eq0-clause-ok
returns-then-room-eq0-clause-ok g c = λ rest. tells_from (limit g (goal.at.returns-then-room-eq0-clause-ok g c).Then-room-eq0 rest) (tells_refused _ c.in_ok-refuse.ensures.held)

pub returns-then-room-eq0-clause-front : goal.returns-then-room-eq0-clause-front
returns-then-room-eq0-clause-front g c = λ rest. front_from (limit g (goal.at.returns-then-room-eq0-clause-front g c).Then-room-eq0 rest) c.refuse.ensures.front

-- the bytes are put with those that have come
taken : (place count place' count' n : ℕ) (begun begun' bytes rest : List ℕ) → begun' ≡ begun ++ take n bytes → place' ≡ place → count' ≡ count → told_from place count (begun ++ (bytes ++ rest)) ≡ told_from place' count' (begun' ++ (drop n bytes ++ rest))
taken place count place' count' n begun begun' bytes rest eb ep ec =
    rw (eb, ep, ec) (ap (told_from place count)
    (ap (λ (xs : List ℕ). begun ++ (xs ++ rest)) (sym (take-append-drop n bytes))
    ∙ ap (λ (xs : List ℕ). begun ++ xs) (append_assoc (take n bytes) (drop n bytes) rest)
    ∙ sym (append_assoc begun (take n bytes) (drop n bytes ++ rest))))

pub returns-clause-ok : goal.returns-clause-ok
returns-clause-ok g c = λ rest.
    let self = c.args.self.now in
    let new = c.put.new.self in
    tells_from (taken self.place self.count new.place new.count c.min-count.result self.begun.items new.begun.items c.args.bytes.now rest c.in_ok-put.ensures.begun c.in_ok-put.ensures.place c.in_ok-put.ensures.count) (tells_none _ _)

pub put-requires-clause-short : goal.put-requires-clause-short
put-requires-clause-short g c =
    let self = c.args.self.now in
    let fits = need_fits self.begun.items c.args.lack c.requires.lacks in
    omega (arith, fits, self.begun.ok.0, length-take c.min-count.result c.args.bytes.now, c.min.ensures, c.min-count.ensures)

pub returns-clause-soon : goal.returns-clause-soon
returns-clause-soon g c =
    puts_none _ _ _ (λ rest. soon_taken c.min-count.result c.args.self.now.place c.put.new.self.place c.args.self.now.begun.items c.put.new.self.begun.items c.args.bytes.now rest c.in_ok-put.ensures.begun c.in_ok-put.ensures.place)
