-- What a pool ends as, where a `&mut` to one of its values is returned.
-- Source: Rust's mutable borrows, which leave what was last written through them.
use Rattle.std.specs.Prelude.{Option, List}
use Rattle.std.specs.Borrow.{Lends, LendsIf, Fml, RattleType, MutBor}
use Rattle.xl_pool.specs.Pools.{Slot, with_value}
use Rattle.xl_pool.specs.contracts.pool.Pool.{the_row}
use Rattle.xl_pool.specs.declared.name.Name.{Name}

module _ (T : RattleType) (pool : MutBor (List (Slot T.Denot))) (name : Name) where
  -- once the borrow r ends, the name has the last value written through r
  abbrev pub lends_value : MutBor T.Denot → Fml
  lends_value r = Lends (the_row T) T pool r (with_value pool.now name)

  -- the same where r is a reference, and at `None` the pool stays as it is
  abbrev pub lends_get : Option (MutBor T.Denot) → Fml
  lends_get r = LendsIf (the_row T) T pool r (with_value pool.now name) pool.now
