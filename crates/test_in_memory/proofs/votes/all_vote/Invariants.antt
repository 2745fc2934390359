use Rattle.std.proofs.Common.{◌≡◌, ◌<◌, ◌≤◌, ℕ, false, length}
use Rattle.xl_ledger.specs.Votes.{has_voted}
use Rattle.test_in_memory.proofs.votes.all_vote.Given as goal

abbrev pub invariant-loop-n : goal.invariant-loop-n
invariant-loop-n g l = record {
  goes : g.B.Branch.goes_with l.branch l.registry.headers;
  room : g.B.Branch.room l.branch ≡ l.members;
  few : length (g.B.Branch.votes l.branch) ≤ l.n;
  later : (m : ℕ) → l.n < m → has_voted (g.B.Branch.votes l.branch) m ≡ false;
}
