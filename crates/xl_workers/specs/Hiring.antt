-- Workers are made of peers, and a porter of the door, each with a part of one pass.
-- Source: what the code of this crate relies on. No public clause cites this file.
use Rattle.std.specs.Prelude.{◌≡◌, ◌+◌, ◌^◌, ◌≤◌, List, [], ◌++◌, map, length}
use Rattle.std.specs.declared.option.Option.{Option}
use Rattle.std.specs.List.{AllByRecursion}
use Rattle.xl_turns.specs.declared.pass.Pass.{Pass}
use Rattle.xl_turns.specs.Knowing.{first_part, second_part}
use Rattle.xl_turns.specs.Passes.{known}
use Rattle.xl_store.specs.declared.entry.Entry.{Entry}
use Rattle.xl_store.specs.declared.store.Store.{Store}
use Rattle.xl_store.specs.Stores.{IsOf}
use Rattle.xl_workers.specs.declared.hiring.Crew.{Crew}
use Rattle.xl_workers.specs.declared.linking.Peer.{Peer}
use Rattle.xl_workers.specs.declared.worker.Worker.{Worker}
use Rattle.xl_workers.specs.Pairing.{total}
use Rattle.xl_workers.specs.Serving.{IsPeer, IsReady, peer_of, share_of, IsFresh}

module _ {B K L : Type 0} where
  -- This many peers are left. Each other one has a worker, with a part of the pass and no places yet
  pub record Hired (store : Store B K) (one : Pass Entry) (all : List (Peer L))
      (now : Pass Entry) (rest : List (Peer L)) (workers : List (Worker L)) : Type 0 where
    pub pass : IsOf store now
    pub ready : AllByRecursion (IsReady store) workers
    pub fresh : AllByRecursion IsFresh workers
    pub shares : (known now).share + total share_of workers ≡ (known one).share
    pub mine : (known now).mine ≡ (known one).mine
    pub seen : (known now).seen ≡ (known one).seen
    pub each : map peer_of workers ++ rest ≡ all
    pub peers : AllByRecursion (IsPeer store) rest
    pub enough : 2 ^ length rest ≤ (known now).share
    pub long : length workers + length rest ≡ length all

module _ {B K L D : Type 0} where
  -- the porter has half of a pass and the door, and the workers have parts of the other half
  pub record HiredAll (store : Store B K) (one : Pass Entry) (all : List (Peer L)) (opened : Option D)
      (now : Pass Entry) (crew : Crew L D) : Type 0 where
    pub half : Pass Entry
    pub first : known half ≡ first_part (known one)
    pub second : known crew.porter.pass ≡ second_part (known one)
    pub pass : IsOf store crew.porter.pass
    pub door : crew.porter.door ≡ opened
    pub hired : Hired store half all now [] crew.workers.items
