use Rattle.std.proofs.Common.{length}
use Rattle.xl_recorder.specs.Parts.{part}
use Rattle.xl_recorder.proofs.Taking.{Done}
use Rattle.xl_recorder.proofs.file_recorder.write_lines.Given as goal

-- the entries before those that are left are written
abbrev pub invariant-loop-entry : goal.invariant-loop-entry
invariant-loop-entry g l =
    Done l.initial.lines l.fn.entries
    (part l.initial.room (g.S.Sink.held l.initial.sink) (g.S.Sink.faults l.initial.sink)) l.lines l.left
    (part l.room (g.S.Sink.held l.sink) (g.S.Sink.faults l.sink))

abbrev pub decreases-loop-entry : goal.decreases-loop-entry
decreases-loop-entry g l = length l.left
