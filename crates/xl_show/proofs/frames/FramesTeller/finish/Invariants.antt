use Rattle.std.proofs.Common.{◌≡◌, ◌++◌, ℕ, List, length}
use Rattle.xl_lines.specs.Running.{Tells}
use Rattle.xl_show.specs.Shown.{told_from}
use Rattle.xl_show.proofs.frames.FramesTeller.finish.Given as goal

abbrev pub invariant-loop-lack : goal.invariant-loop-lack
invariant-loop-lack g l = record {
  tells : (more : List ℕ) → Tells (g.O.Sink.held l.initial.output) (g.O.Sink.held l.output) (told_from l.initial.self.place l.initial.self.count (l.initial.self.begun.items ++ more)) (told_from l.self.place l.self.count (l.self.begun.items ++ more));
  writes : g.O.Sink.faults l.output ≡ g.O.Sink.faults l.initial.output;
}

abbrev pub decreases-loop-lack : goal.decreases-loop-lack
decreases-loop-lack g l = length l.self.begun.items
