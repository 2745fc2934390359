-- A heartbeat's pass and the workers' passes of one whole pass.
use Rattle.std.proofs.Common.{◌≡◌, ℕ, ◌*◌, ◌^◌, ◌≤◌, Option, List, map, sym, ap, ◌∙◌, subst, arith, append-nil, ◌∷◌}
use Rattle.std.proofs.lemmas.Nat.{pow_below}
use Rattle.xl_turns.specs.declared.view.Knowledge.{Knowledge}
use Rattle.xl_turns.specs.declared.pass.Pass.{Pass}
use Rattle.xl_turns.specs.Knowing.{first_part, second_part}
use Rattle.xl_turns.specs.Passes.{known}
use mathlib.Core.List.{IsPrefix}
use Rattle.xl_store.specs.declared.entry.Entry.{Entry}
use Rattle.xl_store.specs.declared.store.Store.{Store}
use Rattle.xl_heartbeat.specs.declared.pulse.Pulse.{Pulse}
use Rattle.xl_heartbeat.specs.declared.ends.BeatEnd.{BeatEnd}
use Rattle.xl_heartbeat.specs.Outputs.{Output}
use Rattle.xl_workers.specs.declared.linking.Peer.{Peer}
use Rattle.xl_workers.specs.declared.hiring.Crew.{Crew}
use Rattle.xl_workers.specs.Serving.{peer_of}
use Rattle.xl_workers.specs.Hiring.{HiredAll}
use Rattle.xl_workers.specs.Sharing.{Setting, merge_all}
use Rattle.xl_workers.specs.Working.{AreAll, Worked}

-- half of the whole is enough for a porter and 64 workers
pub enough_left : (n : ℕ) (pass first : Knowledge Entry) → pass.share ≡ 2 ^ 126 → first ≡ first_part pass → n ≤ 64
    → 2 * 2 ^ n ≤ first.share
enough_left n pass first whole a few =
    let s = ap (λ (k : Knowledge Entry). k.share) a in
    let p = pow_below n 65 (omega (arith, few)) in
    omega (arith, s, p, whole)

module _ {B K L D : Type 0} (store : Store B K) (pass first heart now : Pass Entry) (peers : List (Peer L))
    (door : Option D) (crew : Crew L D) (h : HiredAll store first peers door now crew)
    (a : known first ≡ first_part (known pass)) (b : known heart ≡ second_part (known pass)) where
  pub are_all : (known pass).share ≡ 2 ^ 126 → AreAll now heart crew.porter.pass crew.workers.items
  are_all whole = record {
    shares =
        let s = ap (λ (k : Knowledge Entry). k.share) a in
        let t = ap (λ (k : Knowledge Entry). k.share) b in
        let v = ap (λ (k : Knowledge Entry). k.share) h.first in
        let w = ap (λ (k : Knowledge Entry). k.share) h.second in
        let u = h.hired.shares in
        omega (arith, s, t, u, v, w, whole);
    idle = ap (λ (k : Knowledge Entry). k.mine) b;
    quiet = ap (λ (k : Knowledge Entry). k.mine) h.second;
    fresh = h.hired.fresh;
  }

  pub same_peers : map peer_of crew.workers.items ≡ peers
  same_peers = sym (append-nil (map peer_of crew.workers.items)) ∙ h.hired.each

  pub same_mine : (known now).mine ≡ (known pass).mine
  same_mine = h.hired.mine ∙ ap (λ (k : Knowledge Entry). k.mine) h.first ∙ ap (λ (k : Knowledge Entry). k.mine) a

  pub same_seen : (known now).seen ≡ (known pass).seen
  same_seen = h.hired.seen ∙ ap (λ (k : Knowledge Entry). k.seen) h.first ∙ ap (λ (k : Knowledge Entry). k.seen) a

-- of the pass that came before only its places and what it had seen count
pub worked_from : (s : Setting) (pulse : Pulse) (door : Option (List ℕ)) (members : List ℕ) (old first new : Knowledge Entry) (o1 o2 : Output)
    (end : BeatEnd) → first.mine ≡ old.mine → first.seen ≡ old.seen
    → Worked s pulse door members first o1 end new o2 → Worked s pulse door members old o1 end new o2
worked_from s pulse door members old first new o1 o2 end mine seen w = record {
  calls = w.calls;
  beat = w.beat;
  gate = w.gate;
  parts = w.parts;
  share = w.share;
  begins = subst (λ (l : List Entry). IsPrefix l new.seen) seen w.begins;
  mine = w.mine ∙ ap (λ (l : List ℕ). merge_all l (w.beat ∷ w.gate ∷ w.parts)) mine;
  written = w.written;
  beating = w.beating;
  attending = w.attending;
  serving = w.serving;
}
