-- what was taken stands at the front of the room and the rest still waits, so each place has a report left for it
use Rattle.std.proofs.Common.{◌∙◌, ap, arith, ◌<◌, length, get_or, replicate}
use Rattle.std.proofs.lemmas.List.{get_or_default, length-drop}
use Rattle.xl_core.specs.declared.report.Report.{Report}
use Rattle.xl_core.proofs.Handing.{given_more}
use Rattle.xl_core.proofs.the_core.untaken.take_reports.Goals as goal

any : Report
any = record { seq = 0; id = record { 0 = replicate 32 0 } }

pub take_report-requires-clause-some : goal.take_report-requires-clause-some
take_report-requires-clause-some c =
    omega (arith, ap length c.loop-place.invariant.given.held, length-drop c.loop-place.place c.args.untaken.now.items, c.loop-place-test.true, c.min-count.ensures, c.len.ensures.len)

pub loop-place-preserved : goal.loop-place-preserved
loop-place-preserved c =
    let was = c.loop-place.invariant in
    let left = c.loop-place.untaken.items in
    let first : Report = get_or left 0 any in
    let some : 0 < length left = omega (arith, ap length was.given.held, length-drop c.loop-place.place c.args.untaken.now.items, c.loop-place-test.true, c.min-count.ensures, c.len.ensures.len) in
    record {
      given = given_more c.args.untaken.now.items left c.take_report.new.untaken.items c.args.room.now c.loop-place.room c.take_report.new.room c.loop-place.place first
          (omega (arith, c.loop-place-test.true, c.min-count.ensures, c.len.ensures.len)) (omega (arith, c.loop-place-test.true, c.min-count.ensures, c.loop-place.auto.room)) was.given (get_or_default left 0 first any some)
          (c.take_report.ensures.given any) (ap (λ q. q.items) c.take_report.ensures.taken);
      lost = ap (λ q. q.lost) c.take_report.ensures.taken ∙ was.lost;
    }
