use Rattle.std.proofs.Common.{◌≡◌, ◌+◌, ◌≤◌, ◌++◌, ℕ, List, length}
use Rattle.std.specs.Vec.{vec_len}
use Rattle.xl_lines.specs.Running.{Tells, Puts, told_at, soon_at, bytes_to_come}
use Rattle.xl_lines.proofs.lines.LinesTeller.feed.Given as goal

abbrev pub invariant-loop-rest : goal.invariant-loop-rest
invariant-loop-rest g l = record {
  limits : l.self.limits ≡ l.initial.self.limits;
  fewer : bytes_to_come l.self.limits l.self.left (vec_len l.self.line) + length l.bytes ≤ bytes_to_come l.initial.self.limits l.initial.self.left (vec_len l.initial.self.line) + length l.rest;
  tells : (more : List ℕ) → Tells (g.O.Sink.held l.initial.output) (g.O.Sink.held l.output) (told_at l.initial.self.limits g.M.Machine.rules l.initial.self.left (g.M.Machine.state l.initial.self.machine) l.initial.self.line.items (l.bytes ++ more)) (told_at l.self.limits g.M.Machine.rules l.self.left (g.M.Machine.state l.self.machine) l.self.line.items (l.rest ++ more));
  soon : Puts (g.O.Sink.held l.initial.output) (g.O.Sink.held l.output) (λ more. soon_at l.initial.self.limits g.M.Machine.rules l.initial.self.left (g.M.Machine.state l.initial.self.machine) l.initial.self.line.items (l.bytes ++ more)) (λ more. soon_at l.self.limits g.M.Machine.rules l.self.left (g.M.Machine.state l.self.machine) l.self.line.items (l.rest ++ more));
  writes : g.O.Sink.faults l.output ≡ g.O.Sink.faults l.initial.output;
}

abbrev pub decreases-loop-rest : goal.decreases-loop-rest
decreases-loop-rest g l = length l.rest
