-- Passes are joined one by one.
use Rattle.std.proofs.Common.{◌≡◌, List, ◌∷◌, map, refl, ap, ◌∙◌}
use Rattle.std.specs.List.{AllByRecursion}
use mathlib.Core.List.{IsPrefix}
use Rattle.xl_turns.specs.declared.view.Knowledge.{Knowledge}
use Rattle.xl_turns.specs.declared.pass.Pass.{Pass}
use Rattle.xl_turns.specs.Knowing.{joined}
use Rattle.xl_turns.specs.Passes.{known}
use Rattle.xl_turns.proofs.Prefixes.{prefix_all, prefix_trans}
use Rattle.xl_store.specs.declared.entry.Entry.{Entry}
use Rattle.xl_store.specs.declared.store.Store.{Store}
use Rattle.xl_store.specs.Stores.{IsOf}
use Rattle.xl_workers.specs.declared.worker.Worker.{Worker}
use Rattle.xl_workers.specs.Joining.{joined_all, knows, IsHis, HasSeen}

module _ {B K L : Type 0} where
  -- so many workers are left to be joined
  pub record SomeJoined (store : Store B K) (one : Pass Entry) (all : List (Worker L))
      (now : Pass Entry) (rest : List (Worker L)) : Type 0 where
    pub pass : IsOf store now
    pub left : AllByRecursion (IsHis store) rest
    pub joins : joined_all (known now) (map knows rest) ≡ joined_all (known one) (map knows all)
    pub first : IsPrefix (known one).seen (known now).seen
    pub each : (later : List Entry) → IsPrefix (known now).seen later → AllByRecursion (HasSeen later) rest
        → AllByRecursion (HasSeen later) all

  pub joining_starts : (store : Store B K) (first : Pass Entry) (all : List (Worker L)) → IsOf store first
      → AllByRecursion (IsHis store) all → SomeJoined store first all first all
  joining_starts store first all is his = record {
    pass = is;
    left = his;
    joins = refl;
    first = prefix_all (known first).seen;
    each = λ later p h. h;
  }

  pub joining_next : (store : Store B K) (one : Pass Entry) (all : List (Worker L)) (pass new : Pass Entry)
      (rest : List (Worker L)) (worker : Worker L)
      → IsOf store new
      → known new ≡ joined (known pass) (known worker.pass)
      → IsPrefix (known pass).seen (known new).seen
      → IsPrefix (known worker.pass).seen (known new).seen
      → SomeJoined store one all pass (worker ∷ rest)
      → SomeJoined store one all new rest
  joining_next store one all pass new rest worker is join a b j = record {
    pass = is;
    left = j.left.1;
    joins = ap (λ (k : Knowledge Entry). joined_all k (map knows rest)) join ∙ j.joins;
    first = prefix_trans (known one).seen (known pass).seen (known new).seen j.first a;
    each = λ later p h. j.each later (prefix_trans (known pass).seen (known new).seen later a p)
        (prefix_trans (known worker.pass).seen (known new).seen later b p, h);
  }
