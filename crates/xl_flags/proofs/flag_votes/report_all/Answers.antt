use Rattle.std.proofs.Common.{◌∙◌, arith, List}
use Rattle.xl_flags.specs.declared.amendment.Amendment.{Amendment}
use Rattle.xl_flags.specs.declared.news.FlagLine.{FlagLine}
use Rattle.xl_flags.specs.Kept.{line_list, after_report, row_news}
use Rattle.xl_flags.proofs.Reporting.{changed_front, said_more}
use Rattle.xl_flags.proofs.flag_votes.report_all.Goals as goal

pub loop-place-preserved : goal.loop-place-preserved
loop-place-preserved c =
    let f : Amendment → Amendment = after_report c.args.node c.args.close c.args.counted.now in
    let g : Amendment → List FlagLine = row_news c.args.node c.args.seq c.args.close c.args.counted.now in
    record {
      rows = changed_front f c.args.amendments.now c.loop-place.amendments c.loop-place.place c.report-line.new.self _ c.loop-place-test.true c.loop-place.invariant.rows c.report-line.ensures.row;
      said = said_more f g c.args.amendments.now c.loop-place.amendments c.loop-place.place _ c.args.lines.now.items c.loop-place.lines.items c.push_line.new.lines.items
          (line_list c.report-line.result) c.loop-place-test.true c.loop-place.invariant.rows c.loop-place.invariant.said c.report-line.ensures.news c.push_line.ensures.said;
      room = omega (arith, c.push_line.ensures.room, c.loop-place.invariant.room);
      capacity = c.push_line.ensures.capacity ∙ c.loop-place.invariant.capacity;
    }
