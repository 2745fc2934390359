use Rattle.std.proofs.Common.{◌≡◌, length}
use Rattle.std.specs.Prelude.{All}
use Rattle.xl_told.specs.Hashed.{IsSpelled}
use Rattle.xl_told.proofs.hashed.spell_each.Given as goal

abbrev pub invariant-loop : goal.invariant-loop
invariant-loop l = All IsSpelled l.spelled.items × (length l.spelled.items ≡ l.counter)
