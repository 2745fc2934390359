use Rattle.std.proofs.Common.{◌≡◌, ◌+◌, ◌*◌, ◌++◌, ℕ, List, length}
use Rattle.xl_lines.specs.Running.{Tells, Puts}
use Rattle.xl_show.specs.Shown.{told_from}
use Rattle.xl_show.specs.Soon.{soon_from}
use Rattle.xl_show.proofs.frames.FramesTeller.feed.Given as goal

-- what has come and what is still to be taken stay together
abbrev pub invariant-loop-lack : goal.invariant-loop-lack
invariant-loop-lack g l = record {
  reach : l.self.place + length l.self.begun.items + length l.rest ≡ l.initial.self.place + length l.initial.self.begun.items + length l.initial.rest;
  tells : (more : List ℕ) → Tells (g.O.Sink.held l.initial.output) (g.O.Sink.held l.output) (told_from l.initial.self.place l.initial.self.count (l.initial.self.begun.items ++ (l.initial.rest ++ more))) (told_from l.self.place l.self.count (l.self.begun.items ++ (l.rest ++ more)));
  soon : Puts (g.O.Sink.held l.initial.output) (g.O.Sink.held l.output) (λ more. soon_from l.initial.self.place (l.initial.self.begun.items ++ (l.initial.rest ++ more))) (λ more. soon_from l.self.place (l.self.begun.items ++ (l.rest ++ more)));
  writes : g.O.Sink.faults l.output ≡ g.O.Sink.faults l.initial.output;
}

abbrev pub decreases-loop-lack : goal.decreases-loop-lack
decreases-loop-lack g l = 2 * length l.rest + length l.self.begun.items
