-- what was written, before what the bytes left tell, is what all tell, and each look and each taking keeps it so
use Rattle.std.proofs.Common.{◌≡◌, ◌++◌, ℕ, List, [], ◌∷◌, length, length-drop, ap, subst, arith, refl, ◌∙◌}
use Rattle.std.proofs.lemmas.Bool.Decides.{nat_tests}
use Rattle.std.proofs.lemmas.List.{take_rest}
use Rattle.xl_lines.specs.Running.{Tells, Puts}
use Rattle.xl_lines.specs.Soon.{silence}
use Rattle.xl_lines.proofs.Runs.{write_from, ok_exact}
use Rattle.xl_lines.proofs.Telling.{tells_then, tells_front, tells_less}
use Rattle.xl_show.specs.Shown.{told_from}
use Rattle.xl_wire.specs.Frames.{decoded_of}
use Rattle.xl_lines.proofs.Soon.{puts_then, puts_rest, puts_all, puts_later, puts_open}
use Rattle.xl_show.specs.Soon.{soon_from}
use Rattle.xl_show.proofs.Soon.{puts_more, soon_begun}
use Rattle.xl_show.proofs.frames.FramesTeller.feed.Goals as goal
use Rattle.xl_show.proofs.frames.FramesTeller.feed.Goals.{In-Lacks}

empty : (xs : List ℕ) → length xs ≡ 0 → xs ≡ []
empty [] none = refl
empty (x ∷ xs) none = absurd (omega arith)

pub returns-in_err-advance-clause-front : goal.returns-in_err-advance-clause-front
returns-in_err-advance-clause-front g c = λ more. tells_front (c.loop-lack.invariant.tells more) (c.advance.ensures.front (c.loop-lack.rest.now ++ more))

pub returns-in_err-advance-clause-less : goal.returns-in_err-advance-clause-less
returns-in_err-advance-clause-less g c = λ is more.
    tells_less (c.loop-lack.invariant.tells more)
    (c.advance.ensures.less (write_from c.from_residual.result c.advance.result c.in_err-advance.field-0.0 c.from_residual.ensures.1 c.in_err-advance.was is) (c.loop-lack.rest.now ++ more))

pub loop-lack-preserved-in-Frame : goal.loop-lack-preserved-in-Frame
loop-lack-preserved-in-Frame g c =
    let follows = rw c.in-Frame.is at c.in_ok-advance.ensures.follows in
    record {
      reach = omega (arith, follows.0, c.loop-lack.invariant.reach);
      tells = λ more. tells_then (c.loop-lack.invariant.tells more) (rw c.in-Frame.is at (c.in_ok-advance.ensures.ok (c.loop-lack.rest.now ++ more)));
      soon = puts_then c.loop-lack.invariant.soon (puts_more _ _ c.loop-lack.rest.now (rw c.in-Frame.is at c.in_ok-advance.ensures.soon));
      writes = ok_exact c.advance.result _ _ _ c.in_ok-advance.was c.advance.ensures.cause ∙ c.loop-lack.invariant.writes;
    }

pub returns-in-Refused-clause-ok : goal.returns-in-Refused-clause-ok
returns-in-Refused-clause-ok g c = λ more.
    tells_then (c.loop-lack.invariant.tells more) (rw c.in-Refused.is at (c.in_ok-advance.ensures.ok (c.loop-lack.rest.now ++ more)))

pub returns-in-Refused-clause-front : goal.returns-in-Refused-clause-front
returns-in-Refused-clause-front g c = λ more. tells_front (c.loop-lack.invariant.tells more) (c.advance.ensures.front (c.loop-lack.rest.now ++ more))

pub returns-in-Lacks-clause-ok : goal.returns-in-Lacks-clause-ok
returns-in-Lacks-clause-ok g c = λ more.
    let rest = c.loop-lack.rest.now in
    let none : length rest ≡ 0 = grind (arith, nat_tests) in
    let new = c.advance.new.self in
    subst (λ (xs : List ℕ). Tells (g.O.Sink.held c.args.output.now) (g.O.Sink.held c.advance.new.output) (told_from c.args.self.now.place c.args.self.now.count (c.args.self.now.begun.items ++ (c.args.bytes.now ++ more))) (told_from new.place new.count (new.begun.items ++ (xs ++ more)))) (empty rest none)
    (tells_then (c.loop-lack.invariant.tells more) (rw c.in-Lacks.is at (c.in_ok-advance.ensures.ok (rest ++ more))))

pub returns-in-Lacks-clause-front : goal.returns-in-Lacks-clause-front
returns-in-Lacks-clause-front g c = λ more. tells_front (c.loop-lack.invariant.tells more) (c.advance.ensures.front (c.loop-lack.rest.now ++ more))

pub returns-in_err-count-in-Lacks-2-clause-front : goal.returns-in_err-count-in-Lacks-2-clause-front
returns-in_err-count-in-Lacks-2-clause-front g c = λ more.
    tells_front (tells_then (c.loop-lack.invariant.tells more) (rw c.in-Lacks-2.is at (c.in_ok-advance.ensures.ok (c.loop-lack.rest.now ++ more)))) (c.take.ensures.front more)

pub returns-in_err-count-in-Lacks-2-clause-less : goal.returns-in_err-count-in-Lacks-2-clause-less
returns-in_err-count-in-Lacks-2-clause-less g c = λ is more.
    tells_less (tells_then (c.loop-lack.invariant.tells more) (rw c.in-Lacks-2.is at (c.in_ok-advance.ensures.ok (c.loop-lack.rest.now ++ more))))
    (c.take.ensures.less (write_from c.from_residual-in_err-count-in-Lacks-2.result c.take.result c.in_err-count-in-Lacks-2.field-0.0 c.from_residual-in_err-count-in-Lacks-2.ensures.1 c.in_err-count-in-Lacks-2.was is) more)

pub loop-lack-preserved : goal.loop-lack-preserved
loop-lack-preserved g c =
    let rest = c.loop-lack.rest.now in
    let follows = rw c.in-Lacks-2.is at c.in_ok-advance.ensures.follows in
    let same = ap (λ begun. length begun.items) follows.0 in
    let some = rw c.in-Taken.is at c.in_ok-count-in-Lacks-2.ensures.some in
    let goes = rw c.in-Taken.is at c.in_ok-count-in-Lacks-2.ensures.goes in
    rw take_rest (record {
      reach = omega (arith, follows.1, same, some.1, goes.0, c.loop-lack.invariant.reach, length-drop c.in-Taken.count rest);
      tells = λ more.
          tells_then (tells_then (c.loop-lack.invariant.tells more) (rw c.in-Lacks-2.is at (c.in_ok-advance.ensures.ok (rest ++ more)))) (rw c.in-Taken.is at (c.in_ok-count-in-Lacks-2.ensures.ok more));
      soon = puts_then (puts_then c.loop-lack.invariant.soon (puts_more _ _ rest (rw c.in-Lacks-2.is at c.in_ok-advance.ensures.soon))) (rw c.in-Taken.is at c.in_ok-count-in-Lacks-2.ensures.soon);
      writes =
          ok_exact c.take.result _ _ _ c.in_ok-count-in-Lacks-2.was c.take.ensures.cause
          ∙ (ok_exact c.advance.result _ _ _ c.in_ok-advance.was c.advance.ensures.cause ∙ c.loop-lack.invariant.writes);
    })

pub returns-in-Refused-2-clause-ok : goal.returns-in-Refused-2-clause-ok
returns-in-Refused-2-clause-ok g c = λ more.
    tells_then (tells_then (c.loop-lack.invariant.tells more) (rw c.in-Lacks-2.is at (c.in_ok-advance.ensures.ok (c.loop-lack.rest.now ++ more)))) (rw c.in-Refused-2.is at (c.in_ok-count-in-Lacks-2.ensures.ok more))

pub returns-in-Refused-2-clause-front : goal.returns-in-Refused-2-clause-front
returns-in-Refused-2-clause-front g c = λ more.
    tells_front (tells_then (c.loop-lack.invariant.tells more) (rw c.in-Lacks-2.is at (c.in_ok-advance.ensures.ok (c.loop-lack.rest.now ++ more)))) (c.take.ensures.front more)

-- bytes of the next frame lack, and none are left
begun : (g : _) (c : In-Lacks g) → soon_from c.advance.new.self.place (c.advance.new.self.begun.items ++ []) ≡ silence
begun g c =
    let new = c.advance.new.self in
    let follows = rw c.in-Lacks.is at c.in_ok-advance.ensures.follows in
    soon_begun new.place new.begun.items c.in-Lacks.field-0 (ap (λ begun. decoded_of begun.items) follows.0 ∙ follows.3) (omega (arith, new.within, new.begun.ok.0))

told : (g : _) (c : In-Lacks g) → length c.loop-lack.rest.now ≡ 0 → Puts (g.O.Sink.held c.args.output.now) (g.O.Sink.held c.advance.new.output) (λ more. soon_from c.args.self.now.place (c.args.self.now.begun.items ++ (c.args.bytes.now ++ more))) (λ more. soon_from c.advance.new.self.place (c.advance.new.self.begun.items ++ more))
told g c none =
    puts_rest (λ (more : List ℕ). soon_from c.advance.new.self.place (c.advance.new.self.begun.items ++ more)) c.loop-lack.rest.now none (puts_then c.loop-lack.invariant.soon (puts_more _ _ c.loop-lack.rest.now (rw c.in-Lacks.is at c.in_ok-advance.ensures.soon)))

pub returns-in-Lacks-clause-soon : goal.returns-in-Lacks-clause-soon
returns-in-Lacks-clause-soon g c is =
    let at = (goal.at.returns-in-Lacks-clause-soon g c).In-Lacks in
    let none : length c.loop-lack.rest.now ≡ 0 = grind (arith, nat_tests) in
    puts_all (λ more. soon_from c.args.self.now.place (c.args.self.now.begun.items ++ more)) (λ (more : List ℕ). soon_from c.advance.new.self.place (c.advance.new.self.begun.items ++ more)) c.args.bytes.now
    (told g at none) (ap (λ told. told.text) (begun g at))

pub returns-in-Lacks-clause-later : goal.returns-in-Lacks-clause-later
returns-in-Lacks-clause-later g c is =
    let at = (goal.at.returns-in-Lacks-clause-later g c).In-Lacks in
    let none : length c.loop-lack.rest.now ≡ 0 = grind (arith, nat_tests) in
    puts_later (λ more. soon_from c.args.self.now.place (c.args.self.now.begun.items ++ more)) (λ (more : List ℕ). soon_from c.advance.new.self.place (c.advance.new.self.begun.items ++ more)) c.args.bytes.now
    (told g at none) (ap (λ told. told.text) (begun g at))

pub returns-in-Lacks-clause-unended : goal.returns-in-Lacks-clause-unended
returns-in-Lacks-clause-unended g c is =
    let at = (goal.at.returns-in-Lacks-clause-unended g c).In-Lacks in
    let none : length c.loop-lack.rest.now ≡ 0 = grind (arith, nat_tests) in
    puts_open (λ more. soon_from c.args.self.now.place (c.args.self.now.begun.items ++ more)) (λ (more : List ℕ). soon_from c.advance.new.self.place (c.advance.new.self.begun.items ++ more)) c.args.bytes.now
    (told g at none) (ap (λ told. told.closed) (begun g at))
