-- Workers: each serves one member over its link, with a pass of its own. Source: this project's own.
use Rattle.std.specs.Prelude.{◌≡◌, ℕ, ◌<◌, Bool, List, [], length, slice_index_or, IsSome}
use Rattle.xl_tags.specs.Rings.{key_of}
use Rattle.xl_turns.specs.Passes.{known}
use Rattle.xl_links.specs.Links.{Wire}
use Rattle.xl_store.specs.declared.store.Store.{Store}
use Rattle.xl_store.specs.Stores.{start_of, turns_of, IsOf}
use Rattle.xl_peers.specs.declared.ends.Served.{Served}
use Rattle.xl_peers.specs.Serving.{Serves}
use Rattle.xl_workers.specs.declared.linking.Peer.{Peer}
use Rattle.xl_workers.specs.declared.worker.Worker.{Worker}

module _ {L : Type 0} where
  abbrev pub peer_of : Worker L → Peer L
  peer_of worker = worker.peer

  abbrev pub share_of : Worker L → ℕ
  share_of worker = (known worker.pass).share

  -- its pass made nothing yet
  abbrev pub IsFresh : Worker L → Type 0
  IsFresh worker = (known worker.pass).mine ≡ []

module _ {B K L : Type 0} where
  -- the member is a peer of the core
  abbrev pub IsPeer : Store B K → Peer L → Type 0
  IsPeer store peer = IsSome (key_of (start_of store).node.keys peer.member)

  -- the worker's pass is of this store, and its member a peer of the core
  abbrev pub IsReady : Store B K → Worker L → Type 0
  IsReady store worker = IsOf store worker.pass × IsPeer store worker.peer

  -- it served its member over its link
  pub record HasServed (store : Store B K) (may_give : ℕ → Bool) (shows : L → Wire) (old new : Worker L) : Type 0 where
    pub pass : IsOf store new.pass
    pub why : Served
    pub serves : Serves (start_of store) (turns_of store) may_give old.peer.member
        (known old.pass) (shows old.peer.link) why (known new.pass) (shows new.peer.link)

  abbrev pub AreReady : Store B K → List (Worker L) → Type 0
  AreReady store workers =
      (i : ℕ) (d : Worker L) → i < length workers → IsReady store (slice_index_or workers i d)

  abbrev pub HaveServed : Store B K → (ℕ → Bool) → (L → Wire) → List (Worker L) → List (Worker L) → Type 0
  HaveServed store may_give shows old new =
      (i : ℕ) (d : Worker L)
      → i < length old
      → HasServed store may_give shows (slice_index_or old i d) (slice_index_or new i d)
