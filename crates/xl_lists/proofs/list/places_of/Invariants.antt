use Rattle.std.proofs.Common.{◌≡◌, take, drop, find}
use Rattle.xl_lists.specs.Lists.{is_outside}
use Rattle.xl_lists.proofs.list.places_of.Given as goal

abbrev pub invariant-loop-place : goal.invariant-loop-place
invariant-loop-place l = record {
  placed : take l.place l.places ≡ take l.place l.numbers;
  rest : find is_outside (drop l.place l.numbers) ≡ find is_outside l.numbers;
}
