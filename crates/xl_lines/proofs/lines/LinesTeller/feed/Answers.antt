-- each part leaves to tell what is told of the bytes behind it, and a line that has only begun tells nothing
use Rattle.xl_lines.specs.Running.{soon_at}
use Rattle.std.proofs.Common.{◌∙◌, ap, sym, ◌+◌, ◌-◌, ◌≤◌, ℕ, arith, length-drop}
use Rattle.std.proofs.lemmas.Bool.{eqb-true}
use Rattle.std.proofs.lemmas.List.{take_rest}
use Rattle.xl_lines.proofs.Runs.{write_from, ok_exact}
use Rattle.xl_lines.proofs.Telling.{tells_then, tells_front, tells_less}
use Rattle.xl_lines.proofs.Soon.{puts_then, puts_rest, puts_all, puts_later, puts_open, soon_at-begun}
use Rattle.xl_lines.proofs.lines.LinesTeller.feed.Goals as goal

fewer_still : (new mid old all rest count : ℕ) → new + count ≤ mid → mid + all ≤ old + rest → count ≤ rest → new + all ≤ old + (rest - count)
fewer_still new mid old all rest count a b c = omega arith

pub loop-rest-preserved : goal.loop-rest-preserved
loop-rest-preserved g c = rw take_rest (record {
  limits = c.in_ok-count.ensures.limits ∙ c.loop-rest.invariant.limits;
  fewer = rw length-drop (fewer_still _ _ _ _ _ _ (rw c.in-Taken.is at c.in_ok-count.ensures.fewer) c.loop-rest.invariant.fewer (rw c.in-Taken.is at c.in_ok-count.ensures.some).1);
  tells = λ more. tells_then (c.loop-rest.invariant.tells more) (rw c.in-Taken.is at (c.in_ok-count.ensures.ok more));
  soon = puts_then c.loop-rest.invariant.soon (rw c.in-Taken.is at c.in_ok-count.ensures.soon);
  writes = ok_exact c.take_part.result _ _ _ c.in_ok-count.was c.take_part.ensures.cause ∙ c.loop-rest.invariant.writes;
})

pub returns-in-Refused-clause-ok : goal.returns-in-Refused-clause-ok
returns-in-Refused-clause-ok g c more = tells_then (c.loop-rest.invariant.tells more) (rw c.in-Refused.is at (c.in_ok-count.ensures.ok more))

pub returns-in-Refused-clause-front : goal.returns-in-Refused-clause-front
returns-in-Refused-clause-front g c more = tells_front (c.loop-rest.invariant.tells more) (c.take_part.ensures.front more)

pub returns-in_err-count-clause-less : goal.returns-in_err-count-clause-less
returns-in_err-count-clause-less g c is more =
    tells_less (c.loop-rest.invariant.tells more) (c.take_part.ensures.less (write_from c.from_residual.result c.take_part.result c.in_err-count.field-0.0 c.from_residual.ensures.1 c.in_err-count.was is) more)

pub returns-in-Found-clause-ok : goal.returns-in-Found-clause-ok
returns-in-Found-clause-ok g c more = tells_then (c.loop-rest.invariant.tells more) (rw c.in-Found.is at (c.in_ok-count.ensures.ok more))

pub returns-in-Found-clause-front : goal.returns-in-Found-clause-front
returns-in-Found-clause-front g c more = tells_front (c.loop-rest.invariant.tells more) (c.take_part.ensures.front more)

pub returns-clause-soon : goal.returns-clause-soon
returns-clause-soon g c is =
    let self = c.args.self.now in
    let later = c.loop-rest.self in
    let now = soon_at later.limits g.M.Machine.rules later.left (g.M.Machine.state later.machine) later.line.items in
    puts_all (soon_at self.limits g.M.Machine.rules self.left (g.M.Machine.state self.machine) self.line.items) now c.args.bytes.now
    (puts_rest now c.loop-rest.rest.now (eqb-true _ _ (sym c.is_empty.ensures ∙ c.loop-rest-test.false)) c.loop-rest.invariant.soon)
    (ap (λ told. told.text) (soon_at-begun later.limits g.M.Machine.rules later.left (g.M.Machine.state later.machine) later.line.items later.one_line (omega (arith, later.short, later.line.ok.0))))

pub returns-clause-later : goal.returns-clause-later
returns-clause-later g c is =
    let self = c.args.self.now in
    let later = c.loop-rest.self in
    let now = soon_at later.limits g.M.Machine.rules later.left (g.M.Machine.state later.machine) later.line.items in
    puts_later (soon_at self.limits g.M.Machine.rules self.left (g.M.Machine.state self.machine) self.line.items) now c.args.bytes.now
    (puts_rest now c.loop-rest.rest.now (eqb-true _ _ (sym c.is_empty.ensures ∙ c.loop-rest-test.false)) c.loop-rest.invariant.soon)
    (ap (λ told. told.text) (soon_at-begun later.limits g.M.Machine.rules later.left (g.M.Machine.state later.machine) later.line.items later.one_line (omega (arith, later.short, later.line.ok.0))))

pub returns-clause-unended : goal.returns-clause-unended
returns-clause-unended g c is =
    let self = c.args.self.now in
    let later = c.loop-rest.self in
    let now = soon_at later.limits g.M.Machine.rules later.left (g.M.Machine.state later.machine) later.line.items in
    puts_open (soon_at self.limits g.M.Machine.rules self.left (g.M.Machine.state self.machine) self.line.items) now c.args.bytes.now
    (puts_rest now c.loop-rest.rest.now (eqb-true _ _ (sym c.is_empty.ensures ∙ c.loop-rest-test.false)) c.loop-rest.invariant.soon)
    (ap (λ told. told.closed) (soon_at-begun later.limits g.M.Machine.rules later.left (g.M.Machine.state later.machine) later.line.items later.one_line (omega (arith, later.short, later.line.ok.0))))
