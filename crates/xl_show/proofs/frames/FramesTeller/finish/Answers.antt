-- each frame told leaves the rest to tell, and once bytes lack and no more come, only the end is left
use Rattle.std.proofs.Common.{◌≡◌, ◌++◌, [], false, ap, arith, ◌∙◌}
use Rattle.std.proofs.lemmas.Result.{IfOk-weaker}
use Rattle.xl_lines.proofs.Runs.{write_from, ok_exact}
use Rattle.xl_lines.proofs.Telling.{tells_then, tells_front, tells_less, tells_all_then, tells_all_refused, all_from, front_from, less_from}
use Rattle.xl_show.specs.Shown.{told_at_end, told_from}
use Rattle.xl_show.proofs.Telling.{told_end}
use Rattle.xl_show.proofs.frames.FramesTeller.finish.Goals as goal
use Rattle.xl_show.proofs.frames.FramesTeller.finish.Goals.{In-Lacks}
use Rattle.xl_wire.specs.Frames.{decoded_of}

-- no more bytes come
ends : (g : _) (c : In-Lacks g) → told_from c.advance.new.self.place c.advance.new.self.count (c.advance.new.self.begun.items ++ []) ≡ told_at_end false c.advance.new.self.place c.advance.new.self.count c.in-Lacks.lack c.advance.new.self.begun.items
ends g c =
    let new = c.advance.new.self in
    let follows = rw c.in-Lacks.is at c.in_ok-advance.ensures.follows in
    told_end new.place new.count new.begun.items (omega (arith, new.within, new.begun.ok.0)) c.in-Lacks.lack (ap (λ begun. decoded_of begun.items) follows.0 ∙ follows.3)

pub returns-in_err-advance-clause-less : goal.returns-in_err-advance-clause-less
returns-in_err-advance-clause-less g c = λ is.
    tells_less (c.loop-lack.invariant.tells [])
    (c.advance.ensures.less (write_from c.from_residual.result c.advance.result c.in_err-advance.field-0.0 c.from_residual.ensures.1 c.in_err-advance.was is) [])

pub loop-lack-preserved : goal.loop-lack-preserved
loop-lack-preserved g c = record {
  tells = λ more. tells_then (c.loop-lack.invariant.tells more) (rw c.in-Frame.is at (c.in_ok-advance.ensures.ok more));
  writes = ok_exact c.advance.result _ _ _ c.in_ok-advance.was c.advance.ensures.cause ∙ c.loop-lack.invariant.writes;
}

pub returns-in-Refused-clause-ok : goal.returns-in-Refused-clause-ok
returns-in-Refused-clause-ok g c = tells_all_refused (tells_then (c.loop-lack.invariant.tells []) (rw c.in-Refused.is at (c.in_ok-advance.ensures.ok [])))

pub returns-in-Refused-clause-front : goal.returns-in-Refused-clause-front
returns-in-Refused-clause-front g c = tells_front (c.loop-lack.invariant.tells []) (c.advance.ensures.front [])

pub returns-in-Lacks-clause-ok : goal.returns-in-Lacks-clause-ok
returns-in-Lacks-clause-ok g c =
    IfOk-weaker c.end.result _ _
    (λ verdict all. tells_all_then (tells_then (c.loop-lack.invariant.tells []) (rw c.in-Lacks.is at (c.in_ok-advance.ensures.ok []))) (all_from (ends g (goal.at.returns-in-Lacks-clause-ok g c).In-Lacks) all)) c.end.ensures.all

pub returns-in-Lacks-clause-front : goal.returns-in-Lacks-clause-front
returns-in-Lacks-clause-front g c =
    tells_front (tells_then (c.loop-lack.invariant.tells []) (rw c.in-Lacks.is at (c.in_ok-advance.ensures.ok []))) (front_from (ends g (goal.at.returns-in-Lacks-clause-front g c).In-Lacks) c.end.ensures.front)

pub returns-in-Lacks-clause-less : goal.returns-in-Lacks-clause-less
returns-in-Lacks-clause-less g c = λ is.
    tells_less (tells_then (c.loop-lack.invariant.tells []) (rw c.in-Lacks.is at (c.in_ok-advance.ensures.ok []))) (less_from (ends g (goal.at.returns-in-Lacks-clause-less g c).In-Lacks) (c.end.ensures.less is))
