use Rattle.std.proofs.Common.{◌≡◌, length, take}
use Rattle.std.specs.Prelude.{map}
use Rattle.std.specs.List.{range_with_len}
use Rattle.xl_nunl.specs.Rings.{score_in}
use Rattle.xl_negative.proofs.scores.all_scores.Given as goal

-- the walk stays on its ledgers, and the scores of the numbers so far stand at the front
abbrev pub invariant-loop-below : goal.invariant-loop-below
invariant-loop-below l = record {
  size : length l.scores ≡ 64;
  stays : l.walk.ledgers ≡ l.registry;
  put : take l.below l.scores ≡ map (λ m. score_in l.registry.headers l.heard m l.flag) (range_with_len 1 l.below);
}
