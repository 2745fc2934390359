use Rattle.std.proofs.Common.{◌≡◌, ◌≤◌, length, take, fold, replicate}
use Rattle.std.specs.Prelude.{All}
use Rattle.xl_disputes.specs.Standings.{stand, with_one}
use Rattle.xl_disputes.specs.declared.shares.TheConstants.{PLACES}
use Rattle.xl_disputes.proofs.shares.Shares.count_standings.Given as goal

-- the positions so far are counted
abbrev pub invariant-loop-position : goal.invariant-loop-position
invariant-loop-position l = record {
  counted : l.weights ≡ fold (λ weights position. with_one (stand l.self position) weights) (replicate PLACES 0) (take l.position-index l.positions);
  places : length l.weights ≡ PLACES;
  few : All (λ weight. weight ≤ l.position-index) l.weights;
}
