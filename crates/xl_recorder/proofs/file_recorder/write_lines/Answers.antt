use Rattle.xl_recorder.proofs.Taking.{done_more, done_stops}
use Rattle.xl_recorder.proofs.file_recorder.write_lines.Goals as goal

pub loop-entry-preserved : goal.loop-entry-preserved
loop-entry-preserved g c =
    done_more _ _ _ c.loop-entry.lines c.loop-entry.left _ _ c.loop-entry.invariant c.in-Some.entry c.next.new.self
    c.in-Some.ensures.next c.write_line.new.lines c.in_ok-write_line.ensures.behind c.in_ok-write_line.ensures.written

pub loop-entry-preserved-in_ok-write_line : goal.loop-entry-preserved-in_ok-write_line
loop-entry-preserved-in_ok-write_line g c =
    done_more _ _ _ c.loop-entry.lines c.loop-entry.left _ _ c.loop-entry.invariant c.in-Some.entry c.next.new.self
    c.in-Some.ensures.next c.write_line.new.lines c.in_ok-write_line.ensures.behind c.in_ok-write_line.ensures.written

pub returns-in_err-write_line-clause-written : goal.returns-in_err-write_line-clause-written
returns-in_err-write_line-clause-written g c =
    done_stops _ _ _ c.loop-entry.lines c.loop-entry.left _ _ c.loop-entry.invariant c.in-Some.entry c.next.new.self
    c.in-Some.ensures.next c.from_residual.result c.write_line.result c.in_err-write_line.field-0.0 _ _
    c.from_residual.ensures.1 c.in_err-write_line.was c.write_line.ensures.written
