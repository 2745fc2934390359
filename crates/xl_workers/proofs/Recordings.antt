-- All that a store hands on is what it handed on to the heartbeat and to the last reports.
use Rattle.std.proofs.Common.{◌≡◌, ◌≤◌, ℕ, ◌+◌, Bool, false, List, [], ◌∷◌, ◌++◌, length, map, sym, ap, ◌∙◌, subst, arith, Option, Some, None}
use Rattle.std.specs.Prelude.{slice_get}
use Rattle.std.specs.List.{AllByRecursion, flat_map}
use Rattle.std.proofs.lemmas.Grind.{flat_map-append}
use mathlib.Core.List.{IsPrefix}
use Rattle.xl_base.specs.declared.ids.TxId.{TxId}
use Rattle.xl_turns.specs.declared.view.Knowledge.{Knowledge}
use Rattle.xl_turns.specs.declared.pass.Pass.{Pass}
use Rattle.xl_turns.specs.Knowing.{newcomer}
use Rattle.xl_turns.specs.Passes.{known}
use Rattle.xl_turns.proofs.Prefixes.{prefix_trans}
use Rattle.xl_links.specs.Doors.{Doorway}
use Rattle.xl_links.specs.Links.{Wire}
use Rattle.xl_core.specs.Core.{Core}
use Rattle.xl_store.specs.declared.entry.Entry.{Entry}
use Rattle.xl_store.specs.declared.retention.Batch.{Batch}
use Rattle.xl_store.specs.declared.retention.Retention.{Retention}
use Rattle.xl_store.specs.declared.store.Store.{Store}
use Rattle.xl_store.specs.Calls.{Call, Made, Rise}
use Rattle.xl_store.specs.Recording.{RecordsIf, all_batches, batch_at, batches_at, takes_in}
use Rattle.xl_store.specs.Stores.{start_of, turns_of}
use Rattle.xl_peers.specs.Serving as serving
use Rattle.xl_door.specs.Attending.{last_calls}
use Rattle.xl_door.specs.Rounds as rounds
use Rattle.xl_heartbeat.specs.declared.pulse.Pulse.{Pulse}
use Rattle.xl_heartbeat.specs.declared.ends.BeatEnd.{BeatEnd}
use Rattle.xl_heartbeat.specs.Outputs.{Output}
use Rattle.xl_heartbeat.specs.Recording.{Recorded}
use Rattle.xl_heartbeat.proofs.Recording.{IsQuiet, quiet_places, quiet_batch, in_longer, records_none, records_both}
use Rattle.xl_workers.specs.declared.porter.Porter.{Porter}
use Rattle.xl_workers.specs.declared.worker.Worker.{Worker}
use Rattle.xl_workers.specs.Pairing.{Paired}
use Rattle.xl_workers.specs.Doors.{AttendsIf}
use Rattle.xl_workers.specs.Joining.{HasSeen}
use Rattle.xl_workers.specs.Serving.{HasServed, IsFresh}
use Rattle.xl_workers.specs.Sharing.{merge_all}
use Rattle.xl_workers.specs.Submits.{Submitted}
use Rattle.xl_workers.specs.Working.{RecordsAll}
use Rattle.xl_workers.proofs.Merges.{IsSorted, IsSilent, none_of_silent, silent_but_second}
use Rattle.xl_workers.proofs.Quiet.{quiet_submits, quiet_serving, quiet_attending}
use Rattle.xl_workers.proofs.Shared.{Joined, stands, pairs_served, pass_mine, seen_more}

-- the entry at the place takes no reports
abbrev pub IsQuietAt : List Entry → ℕ → Type 0
IsQuietAt history p = takes_in (slice_get history p) ≡ false

-- these places rise, and none of their entries takes reports
record IsTraceless (history : List Entry) (places : List ℕ) : Type 0 where
  pub quiet : AllByRecursion (IsQuietAt history) places
  pub sorted : IsSorted places

low_rise : (low : ℕ) (places : List ℕ) (high bound : ℕ) → bound ≤ low → Rise low places high
    → AllByRecursion (λ p. bound ≤ p) places
low_rise low [] high bound le rise = tt
low_rise low (p ∷ ps) high bound le rise =
    let first = rise.0 in
    (omega (arith, le, first), low_rise (p + 1) ps high bound (omega (arith, le, first)) rise.1)

sorted_rise : (low : ℕ) (places : List ℕ) (high : ℕ) → Rise low places high → IsSorted places
sorted_rise low [] high rise = tt
sorted_rise low (p ∷ ps) high rise = (low_rise (p + 1) ps high p (omega arith) rise.1, sorted_rise (p + 1) ps high rise.1)

traceless_none : (history : List Entry) (places : List ℕ) → places ≡ [] → IsTraceless history places
traceless_none history places none =
    subst (λ (ps : List ℕ). IsTraceless history ps) (sym none) (record { quiet = tt; sorted = tt })

-- a pass that made quiet calls
traceless : (start : Core) (old new : Knowledge Entry) (calls : List Call) (history : List Entry)
    → Made start old new calls → old.mine ≡ [] → IsPrefix new.seen history → AllByRecursion IsQuiet calls
    → IsTraceless history new.mine
traceless start old new calls history made idle seen quiet =
    let s = stands start old new calls history made idle seen in
    record {
      quiet = quiet_places start history new.mine calls s.at quiet;
      sorted = sorted_rise 0 new.mine (length history) s.rise;
    }

module _ (r : Retention) (history : List Entry) where
  all_silent : (places : List ℕ) → AllByRecursion (IsQuietAt history) places
      → AllByRecursion (IsSilent (batch_at r history)) places
  all_silent [] quiet = tt
  all_silent (p ∷ ps) quiet = (quiet_batch r history p quiet.0, all_silent ps quiet.1)

  each_silent : (parts : List (List ℕ)) → AllByRecursion (IsTraceless history) parts
      → AllByRecursion (AllByRecursion (IsSilent (batch_at r history))) parts
  each_silent [] all = tt
  each_silent (ps ∷ parts) all = (all_silent ps all.0.quiet, each_silent parts all.1)

  each_sorted : (parts : List (List ℕ)) → AllByRecursion (IsTraceless history) parts → AllByRecursion IsSorted parts
  each_sorted [] all = tt
  each_sorted (ps ∷ parts) all = (all.0.sorted, each_sorted parts all.1)

  -- of all places only those beside the first and before the others have batches
  batches_beside : (first beat : List ℕ) (parts : List (List ℕ)) → IsSorted beat
      → AllByRecursion (IsQuietAt history) first → AllByRecursion (IsTraceless history) parts
      → batches_at r history (merge_all first (beat ∷ parts)) ≡ batches_at r history beat
  batches_beside first beat parts sorted quiet all =
      silent_but_second (batch_at r history) first beat parts sorted (each_sorted parts all) (all_silent first quiet)
      (each_silent parts all)

-- what was submitted by the first pass takes no reports
quiet_first : (start : Core) (may : ℕ → Bool) (old new : Knowledge Entry) (ids : List TxId) (history : List Entry)
    → old ≡ newcomer → Submitted start may old ids new → IsPrefix new.seen history
    → AllByRecursion (IsQuietAt history) new.mine
quiet_first start may old new ids history first sub seen =
    (traceless start old new sub.calls history sub.made (ap (λ (k : Knowledge Entry). k.mine) first) seen
    (quiet_submits may ids sub.calls sub.each)).quiet

module _ {R : Type 0} (records : R → Batch → R → Type 0) (r : Retention) (turns : ℕ) where
  -- nothing but submits happened
  pub submits_recorded : (start : Core) (may : ℕ → Bool) (old new : Knowledge Entry) (ids : List TxId) (o : Option R)
      → old ≡ newcomer → Submitted start may old ids new → RecordsAll records r turns new o o
  submits_recorded start may old new ids o first sub = λ history close all.
      subst (λ (bs : List Batch). RecordsIf records bs o o)
      (sym (ap (batches_at r history) (sym all)
      ∙ none_of_silent (batch_at r history) new.mine
      (all_silent r history new.mine (quiet_first start may old new ids history first sub close.begins))))
      (records_none records o)

  -- nothing happened
  pub nothing_recorded : (new : Knowledge Entry) (o : Option R) → new ≡ newcomer → RecordsAll records r turns new o o
  nothing_recorded new o first = λ history close all.
      subst (λ (bs : List Batch). RecordsIf records bs o o)
      (sym (ap (batches_at r history) (sym all)
      ∙ ap (λ (k : Knowledge Entry). batches_at r history k.mine) first))
      (records_none records o)

-- what a porter did takes no reports
traceless_gate : {D : Type 0} (start : Core) (turns : ℕ) (may : ℕ → Bool) (doors : D → Doorway) (door after : Option D)
    (old new : Knowledge Entry) (history : List Entry) → AttendsIf start turns may doors door after old new
    → old.mine ≡ [] → IsPrefix new.seen history → IsTraceless history new.mine
traceless_gate start turns may doors None after old new history did idle seen =
    traceless_none history new.mine (ap (λ (k : Knowledge Entry). k.mine) did ∙ idle)
traceless_gate start turns may doors (Some door) None old new history did idle seen = absurd did
traceless_gate start turns may doors (Some door) (Some after) old new history did idle seen =
    let a = did.1.attending in
    traceless start old new (flat_map rounds.calls_in a.rounds ++ last_calls did.0) history a.made idle seen
    (quiet_attending may a.rounds did.0 a.each)

module _ {B K L D : Type 0} (store : Store B K) (may : ℕ → Bool) (shows : L → Wire) (doors : D → Doorway) where
  traceless_parts : (history : List Entry) (old new : List (Worker L)) → Paired (HasServed store may shows) old new
      → AllByRecursion IsFresh old → AllByRecursion (HasSeen history) new
      → AllByRecursion (IsTraceless history) (map (λ (w : Worker L). (known w.pass).mine) new)
  traceless_parts history [] [] pairs fresh seen = tt
  traceless_parts history [] (y ∷ ys) pairs fresh seen = absurd pairs
  traceless_parts history (x ∷ xs) [] pairs fresh seen = absurd pairs
  traceless_parts history (x ∷ xs) (y ∷ ys) pairs fresh seen =
      let s = pairs.0.serves.serving in (
        traceless (start_of store) (known x.pass) (known y.pass) (flat_map serving.calls_in s.deeds) history s.made fresh.0
            seen.0 (quiet_serving may x.peer.member s.deeds pairs.0.serves.round s.run),
        traceless_parts history xs ys pairs.1 fresh.1 seen.1,
      )

  module _ {pulse : Pulse} {first heart beaten one pass : Pass Entry} {old_output new_output : Output}
      {end : BeatEnd} {porter kept : Porter D} {old new : List (Worker L)}
      (j : Joined store may shows doors pulse first heart beaten one pass old_output new_output end porter kept old new)
    where
      -- of what all did together only the heartbeat's calls take reports
      only_beats : (r : Retention) (history : List Entry) → IsPrefix (known pass).seen history
          → AllByRecursion (IsQuietAt history) (known first).mine
          → batches_at r history (known pass).mine ≡ batches_at r history (known beaten).mine
      only_beats r history begins quiet =
          let start = start_of store in
          let beat = stands start (known heart) (known beaten) _ history j.beating.made j.all.idle
          (prefix_trans (known beaten).seen (known pass).seen history
          (prefix_trans (known beaten).seen (known one).seen (known pass).seen j.beat_seen j.one_seen) begins) in
          let gate = traceless_gate start (turns_of store) may doors porter.door kept.door (known porter.pass)
          (known kept.pass) history j.keeping.attends j.all.quiet
          (prefix_trans (known kept.pass).seen (known pass).seen history j.kept_seen begins) in
          let parts = traceless_parts history old new (pairs_served store may shows doors old new j.served j.long)
          j.all.fresh (seen_more (known pass).seen history new begins j.each) in
          ap (batches_at r history)
          (pass_mine store may shows doors pulse first heart beaten one pass old_output new_output end porter kept old new j)
          ∙ batches_beside r history (known first).mine (known beaten).mine
          ((known kept.pass).mine ∷ map (λ (w : Worker L). (known w.pass).mine) new)
          (sorted_rise 0 (known beaten).mine (length history) beat.rise) quiet (gate, parts)

      -- what the first pass submitted takes no reports
      pub still_quiet : (fresh mid : Knowledge Entry) (ids : List TxId) → fresh ≡ newcomer
          → Submitted (start_of store) may fresh ids mid
          → (known first).mine ≡ mid.mine → (known first).seen ≡ mid.seen
          → (history : List Entry) → IsPrefix (known pass).seen history
          → AllByRecursion (IsQuietAt history) (known first).mine
      still_quiet fresh mid ids none sub mine seen history begins =
          let begun = subst (λ (l : List Entry). IsPrefix l history) seen
          (prefix_trans (known first).seen (known one).seen history j.first_seen
          (prefix_trans (known one).seen (known pass).seen history j.one_seen begins)) in
          subst (λ (l : List ℕ). AllByRecursion (IsQuietAt history) l) (sym mine)
          (quiet_first (start_of store) may fresh mid ids history none sub begun)

      -- so all that is handed on was recorded by the heartbeat, and then by the last reports
      pub all_recorded : {R : Type 0} (records : R → Batch → R → Type 0) (r : Retention) (before mid after : Option R)
          (last : Knowledge Entry)
          → ((history : List Entry) → IsPrefix (known pass).seen history
          → AllByRecursion (IsQuietAt history) (known first).mine)
          → Recorded records r (start_of store) (known heart) (known beaten) before mid
          → Recorded records r (start_of store) (known pass) last mid after
          → RecordsAll records r (turns_of store) last before after
      all_recorded records r before mid after last quiet beats ends = λ history close all.
          let start = start_of store in
          let begins = prefix_trans (known pass).seen last.seen history ends.made.begins close.begins in
          let seen = prefix_trans (known beaten).seen (known pass).seen history
          (prefix_trans (known beaten).seen (known one).seen (known pass).seen j.beat_seen j.one_seen) begins in
          let places : (known beaten).mine ≡ beats.made.places =
          beats.made.mine ∙ ap (λ (l : List ℕ). l ++ beats.made.places) j.all.idle in
          let first : batches_at r history (known pass).mine ≡ batches_at r (known beaten).seen beats.made.places =
          only_beats r history begins (quiet history begins)
          ∙ ap (batches_at r history) places
          ∙ in_longer r start (known heart) (known beaten) beats.calls history beats.made seen in
          let second = in_longer r start (known pass) last ends.calls history ends.made close.begins in
          let whole : all_batches r history
          ≡ batches_at r (known beaten).seen beats.made.places ++ batches_at r last.seen ends.made.places =
          ap (batches_at r history) (sym all ∙ ends.made.mine)
          ∙ flat_map-append (batch_at r history) (known pass).mine ends.made.places
          ∙ ap (λ (l : List Batch). l ++ batches_at r history ends.made.places) first
          ∙ ap (λ (l : List Batch). batches_at r (known beaten).seen beats.made.places ++ l) second in
          subst (λ (bs : List Batch). RecordsIf records bs before after) (sym whole)
          (records_both records (batches_at r (known beaten).seen beats.made.places)
          (batches_at r last.seen ends.made.places) before mid after beats.handed ends.handed)
