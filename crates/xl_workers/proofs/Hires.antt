-- One worker more.
use Rattle.std.proofs.Common.{◌≡◌, ◌^◌, ◌≤◌, List, [], ◌∷◌, ◌++◌, length, map, refl, ap, ◌∙◌, arith, append_assoc, length-append}
use Rattle.std.proofs.Math.Nat.{pow-suc}
use Rattle.std.proofs.lemmas.Nat.{pow_pos}
use Rattle.std.proofs.lemmas.List.{map-append}
use Rattle.std.specs.List.{AllByRecursion}
use Rattle.xl_turns.specs.declared.view.Knowledge.{Knowledge}
use Rattle.xl_turns.specs.declared.pass.Pass.{Pass}
use Rattle.xl_turns.specs.Knowing.{first_part, second_part}
use Rattle.xl_turns.specs.Passes.{known}
use Rattle.xl_store.specs.declared.entry.Entry.{Entry}
use Rattle.xl_store.specs.declared.store.Store.{Store}
use Rattle.xl_store.specs.Stores.{IsOf}
use Rattle.xl_workers.specs.declared.linking.Peer.{Peer}
use Rattle.xl_workers.specs.declared.worker.Worker.{Worker}
use Rattle.xl_workers.specs.Serving.{IsPeer, IsReady, peer_of, share_of, IsFresh}
use Rattle.xl_workers.specs.Hiring.{Hired}
use Rattle.xl_workers.proofs.Pairs.{all_more, total_more}

module _ {B K L : Type 0} (store : Store B K) (one : Pass Entry) (all : List (Peer L)) where
  pub hired_none : IsOf store one → AllByRecursion (IsPeer store) all → 2 ^ length all ≤ (known one).share
      → Hired store one all one all []
  hired_none is peers enough = record {
    pass = is;
    ready = tt;
    fresh = tt;
    shares = omega arith;
    mine = refl;
    seen = refl;
    each = refl;
    peers = peers;
    enough = enough;
    long = omega arith;
  }

  pub may_split : (now : Pass Entry) (rest : List (Peer L)) (peer : Peer L) (workers : List (Worker L))
      → Hired store one all now (peer ∷ rest) workers → 2 ≤ (known now).share
  may_split now rest peer workers h =
      let e = pow-suc 2 (length rest) in
      let p = pow_pos (length rest) in
      let f = h.enough in
      omega (arith, e, p, f)

  pub hired_more : (now first : Pass Entry) (rest : List (Peer L)) (workers : List (Worker L)) (worker : Worker L)
      → Hired store one all now (worker.peer ∷ rest) workers
      → IsOf store first → IsOf store worker.pass
      → known first ≡ first_part (known now) → known worker.pass ≡ second_part (known now)
      → Hired store one all first rest (workers ++ worker ∷ [])
  hired_more now first rest workers worker h is his a b =
      let s = ap (λ (k : Knowledge Entry). k.share) a in
      let t = ap (λ (k : Knowledge Entry). k.share) b in
      let e = pow-suc 2 (length rest) in
      let f = h.enough in
      record {
        pass = is;
        ready = all_more (IsReady store) workers worker h.ready (his, h.peers.0);
        fresh = all_more IsFresh workers worker h.fresh (ap (λ (k : Knowledge Entry). k.mine) b);
        shares = omega (arith, total_more share_of workers worker, s, t, h.shares);
        mine = ap (λ (k : Knowledge Entry). k.mine) a ∙ h.mine;
        seen = ap (λ (k : Knowledge Entry). k.seen) a ∙ h.seen;
        each = ap (λ (l : List (Peer L)). l ++ rest) (map-append peer_of workers (worker ∷ []))
            ∙ append_assoc (map peer_of workers) (worker.peer ∷ []) rest ∙ h.each;
        peers = h.peers.1;
        enough = omega (arith, s, e, f);
        long = omega (arith, length-append workers (worker ∷ []), h.long);
      }
