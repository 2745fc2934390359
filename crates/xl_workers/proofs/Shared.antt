-- The places of a closed history are those of its parts.
use Rattle.std.proofs.Common.{◌≡◌, ◌≤◌, ◌+◌, ◌++◌, Bool, ℕ, Option, Some, None, List, [], ◌∷◌, length, map, refl, sym, ap, ◌∙◌, subst, arith}
use Rattle.std.proofs.Math.Nat.{le-max_left, le-max_right}
use Rattle.std.specs.List.{AllByRecursion, flat_map}
use mathlib.Core.List.{IsPrefix}
use Rattle.xl_turns.specs.declared.view.Knowledge.{Knowledge}
use Rattle.xl_turns.specs.declared.pass.Pass.{Pass}
use Rattle.xl_turns.specs.Knowing.{all_shares, joined}
use Rattle.xl_turns.specs.Places.{merge}
use Rattle.xl_turns.specs.Passes.{known}
use Rattle.xl_turns.proofs.Prefixes.{prefix_trans}
use Rattle.xl_links.specs.Doors.{Doorway}
use Rattle.xl_links.specs.Links.{Wire}
use Rattle.xl_links.specs.Requests.{Offers}
use Rattle.xl_core.specs.Core.{Core}
use Rattle.xl_store.specs.declared.entry.Entry.{Entry}
use Rattle.xl_store.specs.declared.store.Store.{Store}
use Rattle.xl_store.specs.Calls.{Call, Made}
use Rattle.xl_store.specs.Stores.{start_of, turns_of}
use Rattle.xl_store.proofs.Making.{rise_wider, prefix_length}
use Rattle.xl_store.proofs.Journals.{stand_in_longer}
use Rattle.xl_peers.specs.declared.ends.Served.{Served}
use Rattle.xl_peers.specs.declared.ends.Served.TheVariants as served
use Rattle.xl_peers.specs.Serving.{Deed, IsReason, calls_in}
use Rattle.xl_door.specs.declared.ends.Attended.{Attended}
use Rattle.xl_door.specs.declared.ends.Attended.TheVariants as attended
use Rattle.xl_door.specs.Attending as attending
use Rattle.xl_door.specs.Rounds as rounds
use Rattle.xl_heartbeat.specs.declared.pulse.Pulse.{Pulse}
use Rattle.xl_heartbeat.specs.declared.ends.BeatEnd.{BeatEnd}
use Rattle.xl_heartbeat.specs.declared.ends.Ending.{Ending}
use Rattle.xl_heartbeat.specs.declared.ends.Ending.TheVariants as ending
use Rattle.xl_heartbeat.specs.declared.ends.Stopping.{Stopping}
use Rattle.xl_heartbeat.specs.declared.ends.Stopping.TheVariants as stopping
use Rattle.xl_heartbeat.specs.Outputs.{Output}
use Rattle.xl_heartbeat.specs.Beats.{Heartbeat, IsStop, IsFull, stop_calls}
use Rattle.xl_heartbeat.proofs.Pulses.{reason_later}
use Rattle.xl_workers.specs.declared.worker.Worker.{Worker}
use Rattle.xl_workers.specs.Pairing.{Paired, total}
use Rattle.xl_workers.specs.declared.porter.Porter.{Porter}
use Rattle.xl_workers.specs.Linking.{member_of, IsAsTold, IsDoor}
use Rattle.xl_workers.specs.Doors.{AttendsIf, HasKept}
use Rattle.xl_workers.specs.Serving.{HasServed, HaveServed, peer_of, share_of, IsFresh}
use Rattle.xl_workers.specs.Joining.{joined_all, knows, IsHis, HasSeen}
use Rattle.xl_workers.specs.Sharing.{Setting, setting, Stands, BeatPart, DoorIf, ServePart, IsFilled, IsFilledBehind, merge_all}
use Rattle.xl_workers.specs.Working.{AreAll, Closes, Worked}
use Rattle.xl_workers.proofs.Pairs.{paired_at, paired_map, paired_sum, paired_all, paired_with, both_all, all_of_map, map_twice, sum_map}

-- what a pass without places made stands in each longer history, at the places that it has then
pub stands : (start : Core) (old new : Knowledge Entry) (calls : List Call) (history : List Entry)
    → Made start old new calls → old.mine ≡ [] → IsPrefix new.seen history → Stands start history new.mine calls
stands start old new calls history made none seen =
    let mine : new.mine ≡ made.places = made.mine ∙ ap (λ (l : List ℕ). l ++ made.places) none in
    subst (λ (ps : List ℕ). Stands start history ps calls) (sym mine)
    (record {
      at = stand_in_longer start new.seen history made.places calls seen made.stand;
      rise = rise_wider (length old.seen) (length new.seen) 0 (length history) made.places (omega arith)
          (prefix_length new.seen history seen) made.rise;
    })

-- what is said of the drawn tickets holds of the entries of a history that has as many
pub stop_longer : (turns drawn n : ℕ) (stop : Stopping) → drawn ≤ n → n ≤ turns → IsStop turns drawn stop
    → IsStop turns n stop
stop_longer turns drawn n stopping.Done le most r = r
stop_longer turns drawn n (stopping.StoreFull k) le most r = let e = r.1 in (r.0, omega (arith, le, most, e))

pub full_longer : (turns drawn n : ℕ) (end : Ending) → drawn ≤ n → n ≤ turns → IsFull turns drawn end
    → IsFull turns n end
full_longer turns drawn n (ending.StoreFull k) le most r = let e = r.1 in (r.0, omega (arith, le, most, e))
full_longer turns drawn n other le most r = r

filled : (turns : ℕ) (deeds : List Deed) (k : Knowledge Entry) (why : Served) (history : List Entry)
    → k.drawn ≤ length history → length history ≤ turns → IsReason turns deeds k why → IsFilled turns history why
filled turns deeds k served.Stopped history le most r = tt
filled turns deeds k (served.StoreFull n) history le most r = let e = r.1 in (r.0, omega (arith, le, most, e))

filled_behind : (turns : ℕ) (k : Knowledge Entry) (why : Attended) (history : List Entry) → k.drawn ≤ length history
    → length history ≤ turns → attending.IsReason turns k why → IsFilledBehind turns history why
filled_behind turns k attended.Stopped history le most r = tt
filled_behind turns k (attended.StoreFull n) history le most r = let e = r.1 in (r.0, omega (arith, le, most, e))

joined_mine : (k : Knowledge Entry) (ks : List (Knowledge Entry))
    → (joined_all k ks).mine ≡ merge_all k.mine (map (λ (x : Knowledge Entry). x.mine) ks)
joined_mine k [] = refl
joined_mine k (x ∷ ks) = joined_mine (joined k x) ks

joined_share : (k : Knowledge Entry) (ks : List (Knowledge Entry))
    → (joined_all k ks).share ≡ k.share + total (λ (x : Knowledge Entry). x.share) ks
joined_share k [] = omega arith
joined_share k (x ∷ ks) = let e = joined_share (joined k x) ks in omega (arith, e)

joined_drawn : (k : Knowledge Entry) (ks : List (Knowledge Entry)) → k.drawn ≤ (joined_all k ks).drawn
joined_drawn k [] = omega arith
joined_drawn k (x ∷ ks) =
    let e = joined_drawn (joined k x) ks in let m = le-max_left k.drawn x.drawn in omega (arith, e, m)

module _ {L : Type 0} where
  -- the worker's pass knows of no more tickets
  abbrev KnowsUpTo : ℕ → Worker L → Type 0
  KnowsUpTo n worker = (known worker.pass).drawn ≤ n

  joined_each : (k : Knowledge Entry) (ws : List (Worker L)) (n : ℕ) → (joined_all k (map knows ws)).drawn ≤ n
      → AllByRecursion (KnowsUpTo n) ws
  joined_each k [] n le = tt
  joined_each k (w ∷ ws) n le =
      let e = joined_drawn (joined k (knows w)) (map knows ws) in
      let m = le-max_right k.drawn (knows w).drawn in
      (omega (arith, e, m, le), joined_each (joined k (knows w)) ws n le)

  pub seen_more : (seen history : List Entry) (ws : List (Worker L)) → IsPrefix seen history
      → AllByRecursion (HasSeen seen) ws → AllByRecursion (HasSeen history) ws
  seen_more seen history [] p h = tt
  seen_more seen history (w ∷ ws) p h =
      (prefix_trans (known w.pass).seen seen history h.0 p, seen_more seen history ws p h.1)

-- what a porter did stands in each history that begins with what its pass has seen
module _ {D : Type 0} (start : Core) (turns : ℕ) (may : ℕ → Bool) (gives : Offers) (doors : D → Doorway)
    (old new : Knowledge Entry) (history : List Entry) (idle : old.mine ≡ []) (seen : IsPrefix new.seen history)
    (drawn : new.drawn ≤ length history) (most : length history ≤ turns) where
  pub door_part : (address : Option (List ℕ)) (door after : Option D) → IsDoor gives.door doors address door
      → AttendsIf start turns may doors door after old new → DoorIf (setting start turns may gives) address history new.mine
  door_part None None after is did = ap (λ (k : Knowledge Entry). k.mine) did ∙ idle
  door_part None (Some door) after is did = absurd is
  door_part (Some address) None after is did = absurd is
  door_part (Some address) (Some door) None is did = absurd did
  door_part (Some address) (Some door) (Some after) is did = record {
    old = old;
    new = new;
    old_door = doors door;
    new_door = doors after;
    why = did.0;
    told = is;
    attends = did.1;
    stand = stands start old new (flat_map rounds.calls_in did.1.attending.rounds ++ attending.last_calls did.0) history
        did.1.attending.made idle seen;
    filled = filled_behind turns new did.0 history drawn most did.1.reason;
  }

-- without a door a porter's pass has the share that it had, and with one too
pub same_part : {D : Type 0} (start : Core) (turns : ℕ) (may : ℕ → Bool) (doors : D → Doorway) (door after : Option D)
    (old new : Knowledge Entry) → AttendsIf start turns may doors door after old new → new.share ≡ old.share
same_part start turns may doors None after old new did = ap (λ (k : Knowledge Entry). k.share) did
same_part start turns may doors (Some door) None old new did = absurd did
same_part start turns may doors (Some door) (Some after) old new did = did.1.attending.made.share

module _ {B K L D : Type 0} (store : Store B K) (may : ℕ → Bool) (shows : L → Wire) (doors : D → Doorway) where
  pub pairs_served : (old new : List (Worker L)) → HaveServed store may shows old new → length new ≡ length old
      → Paired (HasServed store may shows) old new
  pairs_served old new h long = paired_at (HasServed store may shows) old new long h

  pub all_his : (old new : List (Worker L)) → HaveServed store may shows old new → length new ≡ length old
      → AllByRecursion (IsHis store) new
  all_his old new h long =
      paired_all (HasServed store may shows) (IsHis store) (λ x y p. p.pass) old new (pairs_served old new h long)

  same_share : (old new : Worker L) → HasServed store may shows old new → share_of new ≡ share_of old
  same_share old new h = h.serves.serving.made.share

  -- what the run, and then the joins, left of the passes
  pub record Joined (pulse : Pulse) (first heart beaten one pass : Pass Entry) (old_output new_output : Output)
      (end : BeatEnd) (porter kept : Porter D) (old new : List (Worker L)) : Type 0 where
    pub beating : Heartbeat (start_of store) (turns_of store) may pulse (known heart) old_output end
        (known beaten) new_output
    pub served : HaveServed store may shows old new
    pub long : length new ≡ length old
    pub join : known one ≡ joined (known first) (known beaten)
    pub first_seen : IsPrefix (known first).seen (known one).seen
    pub beat_seen : IsPrefix (known beaten).seen (known one).seen
    pub keeping : HasKept store may doors porter kept
    pub joins : known pass ≡ joined_all (joined (known one) (known kept.pass)) (map knows new)
    pub kept_seen : IsPrefix (known kept.pass).seen (known pass).seen
    pub one_seen : IsPrefix (known one).seen (known pass).seen
    pub each : AllByRecursion (HasSeen (known pass).seen) new
    pub all : AreAll first heart porter.pass old

  module _ (pulse : Pulse) (first heart beaten one pass : Pass Entry) (old_output new_output : Output)
      (end : BeatEnd) (porter kept : Porter D) (old new : List (Worker L))
      (j : Joined pulse first heart beaten one pass old_output new_output end porter kept old new) where
    -- what the heartbeat and the porter left
    abbrev two : Knowledge Entry
    two = joined (known one) (known kept.pass)

    -- all shares came together
    whole_share : (known pass).share ≡ all_shares
    whole_share =
        let pairs = pairs_served old new j.served j.long in
        let sums = paired_sum (HasServed store may shows) share_of same_share old new pairs in
        let a = ap (λ (k : Knowledge Entry). k.share) j.joins in
        let b = joined_share two (map knows new) in
        let g = same_part (start_of store) (turns_of store) may doors porter.door kept.door (known porter.pass)
        (known kept.pass) j.keeping.attends in
        let c = sum_map knows (λ (k : Knowledge Entry). k.share) new in
        let d = ap (λ (k : Knowledge Entry). k.share) j.join in
        let e = j.beating.made.share in
        let f = j.all.shares in
        omega (arith, sums, a, b, c, d, e, f, g)

    pub pass_mine : (known pass).mine
        ≡ merge_all (merge (merge (known first).mine (known beaten).mine) (known kept.pass).mine)
        (map (λ (w : Worker L). (known w.pass).mine) new)
    pass_mine =
        ap (λ (k : Knowledge Entry). k.mine) j.joins
        ∙ joined_mine two (map knows new)
        ∙ ap (λ (k : Knowledge Entry).
        merge_all (merge k.mine (known kept.pass).mine) (map (λ (x : Knowledge Entry). x.mine) (map knows new))) j.join
        ∙ ap (merge_all (merge (merge (known first).mine (known beaten).mine) (known kept.pass).mine))
        (map_twice knows (λ (k : Knowledge Entry). k.mine) new)

    beat_drawn : (known beaten).drawn ≤ (known pass).drawn
    beat_drawn =
        let a = ap (λ (k : Knowledge Entry). k.drawn) j.joins in
        let b = joined_drawn two (map knows new) in
        let e = le-max_left (known one).drawn (known kept.pass).drawn in
        let d = ap (λ (k : Knowledge Entry). k.drawn) j.join in
        let m = le-max_right (known first).drawn (known beaten).drawn in
        omega (arith, a, b, d, e, m)

    kept_drawn : (known kept.pass).drawn ≤ (known pass).drawn
    kept_drawn =
        let a = ap (λ (k : Knowledge Entry). k.drawn) j.joins in
        let b = joined_drawn two (map knows new) in
        let m = le-max_right (known one).drawn (known kept.pass).drawn in
        omega (arith, a, b, m)

    beat_in_pass : IsPrefix (known beaten).seen (known pass).seen
    beat_in_pass = prefix_trans (known beaten).seen (known one).seen (known pass).seen j.beat_seen j.one_seen

    module _ (gives : Offers) where
      -- what the workers stand on
      abbrev at_store : Setting
      at_store = setting (start_of store) (turns_of store) may gives

      beat_part : (history : List Entry) → Closes (turns_of store) (known pass) history
          → BeatPart at_store pulse history end j.beating.calls (known beaten).mine
      beat_part history close =
          let le = close.drawn in
          let le' = beat_drawn in
          let le'' : (known beaten).drawn ≤ length history = omega (arith, le, le') in
          record {
            phase = j.beating.phase;
            run = j.beating.run;
            stand = stands (start_of store) (known heart) (known beaten) (j.beating.calls ++ stop_calls end.stop)
                history j.beating.made j.all.idle
                (prefix_trans (known beaten).seen (known pass).seen history beat_in_pass close.begins);
            reason = reason_later (turns_of store) j.beating.calls j.beating.phase (known beaten).drawn (length history)
                end.run (λ e. let most = close.limit in omega (arith, le'', most, e)) j.beating.reason;
            stopped = stop_longer (turns_of store) (known beaten).drawn (length history) end.stop le'' close.limit
                j.beating.stopped;
          }

      -- what a worker did stands in each history that begins with what its pass has seen
      serve_part : (history : List Entry) → length history ≤ turns_of store → (x y : Worker L)
          → IsFresh x × IsAsTold gives.links shows x.peer
          → HasServed store may shows x y × (HasSeen history y × KnowsUpTo (length history) y)
          → ServePart at_store history (member_of (peer_of x)) (known y.pass).mine
      serve_part history most x y fresh h =
          let s = h.0.serves in
          record {
            old = known x.pass;
            new = known y.pass;
            old_link = shows x.peer.link;
            new_link = shows y.peer.link;
            why = h.0.why;
            told = fresh.1;
            serves = s;
            stand = stands (start_of store) (known x.pass) (known y.pass) (flat_map calls_in s.serving.deeds) history
                s.serving.made fresh.0 h.1.0;
            filled = filled (turns_of store) s.serving.deeds (known y.pass) h.0.why history h.1.1 most s.reason;
          }

      serve_parts : (history : List Entry) → Closes (turns_of store) (known pass) history
          → AllByRecursion (IsAsTold gives.links shows) (map peer_of old)
          → Paired (ServePart at_store history) (map member_of (map peer_of old))
          (map (λ (w : Worker L). (known w.pass).mine) new)
      serve_parts history close told =
          let P = λ (x y : Worker L).
          HasServed store may shows x y × (HasSeen history y × KnowsUpTo (length history) y) in
          let pairs = paired_with (HasServed store may shows)
          (λ y. HasSeen history y × KnowsUpTo (length history) y) old new
          (pairs_served old new j.served j.long)
          (both_all (HasSeen history) (KnowsUpTo (length history)) new
          (seen_more (known pass).seen history new close.begins j.each)
          (joined_each two new (length history)
          (subst (λ (k : Knowledge Entry). k.drawn ≤ length history) j.joins close.drawn))) in
          subst
          (λ (ms : List ℕ).
          Paired (ServePart at_store history) ms (map (λ (w : Worker L). (known w.pass).mine) new))
          (sym (map_twice peer_of member_of old))
          (paired_map P (ServePart at_store history) (λ x. IsFresh x × IsAsTold gives.links shows x.peer)
          (λ x. member_of (peer_of x)) (λ w. (known w.pass).mine) (serve_part history close.limit) old new
          (both_all IsFresh (λ x. IsAsTold gives.links shows x.peer) old j.all.fresh
          (all_of_map (IsAsTold gives.links shows) peer_of old told))
          pairs)

      gate_part : (address : Option (List ℕ)) → IsDoor gives.door doors address porter.door
          → (history : List Entry) → Closes (turns_of store) (known pass) history
          → DoorIf at_store address history (known kept.pass).mine
      gate_part address is history close =
          let le = close.drawn in
          let le' = kept_drawn in
          door_part (start_of store) (turns_of store) may gives doors (known porter.pass) (known kept.pass) history
          j.all.quiet (prefix_trans (known kept.pass).seen (known pass).seen history j.kept_seen close.begins)
          (omega (arith, le, le')) close.limit address porter.door kept.door is j.keeping.attends

      pub worked : (address : Option (List ℕ)) → IsDoor gives.door doors address porter.door
          → AllByRecursion (IsAsTold gives.links shows) (map peer_of old)
          → Worked at_store pulse address (map member_of (map peer_of old)) (known first) old_output end
          (known pass) new_output
      worked address is told = record {
        calls = j.beating.calls;
        beat = (known beaten).mine;
        gate = (known kept.pass).mine;
        parts = map (λ (w : Worker L). (known w.pass).mine) new;
        share = whole_share;
        begins = prefix_trans (known first).seen (known one).seen (known pass).seen j.first_seen j.one_seen;
        mine = pass_mine;
        written = j.beating.written;
        beating = beat_part;
        attending = gate_part address is;
        serving = λ history close. serve_parts history close told;
      }
