use Rattle.test_in_memory.specs.Ballots.{IsReady}
use Rattle.test_in_memory.proofs.ballot.differing_from.Given as goal

-- both forms have the votes that they were given
abbrev pub invariant-loop : goal.invariant-loop
invariant-loop g l =
    IsReady g.A.Branch.goes_with g.A.Branch.votes g.A.Branch.room l.one
    × IsReady g.B.Branch.goes_with g.B.Branch.votes g.B.Branch.room l.other
