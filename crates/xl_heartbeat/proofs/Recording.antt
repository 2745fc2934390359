-- What is recorded goes on as the calls do.
use Rattle.std.proofs.Common.{◌≡◌, ◌≤◌, ◌<◌, ℕ, ◌+◌, suc, zero, Bool, true, false, cond, List, [], ◌∷◌, ◌++◌, length, take, map, refl, sym, ap, ◌∙◌, subst, arith, append_assoc, append-nil, length-append, Option, Some, None}
use Rattle.std.specs.Prelude.{slice_get}
use Rattle.std.specs.List.{AllByRecursion}
use Rattle.std.specs.Option.{option_to_list}
use Rattle.std.proofs.lemmas.Grind.{flat_map-append}
use Rattle.std.proofs.lemmas.List.{append_cancel_left, take_all}
use mathlib.Core.List.{IsPrefix}
use Rattle.xl_turns.specs.declared.view.Knowledge.{Knowledge}
use Rattle.xl_turns.specs.declared.pass.Pass.{Pass}
use Rattle.xl_turns.specs.Passes.{known}
use Rattle.xl_lists.specs.Lists.{TrustedList}
use Rattle.xl_core.specs.declared.refusal.Refusal.{Refusal}
use Rattle.xl_core.specs.declared.report.Report.{Report}
use Rattle.xl_core.specs.Core.{Core}
use Rattle.xl_store.specs.declared.entry.Entry.{Entry}
use Rattle.xl_store.specs.declared.retention.Batch.{Batch}
use Rattle.xl_store.specs.declared.retention.Retention.{Retention}
use Rattle.xl_store.specs.declared.store.Store.{Store}
use Rattle.xl_store.specs.declared.store.StoreEnd.{StoreEnd}
use Rattle.xl_store.specs.Calls.{Call, Made, Rise, StandAt, calls_of}
use Rattle.xl_store.specs.Entries.{reply_of}
use Rattle.xl_store.specs.Retentions.{handed_on, takes_reports}
use Rattle.xl_store.specs.Recording.{Records, RecordsIf, batch_at, batches_at, takes_in}
use Rattle.xl_store.specs.Stores.{start_of, retention_of, HandedOut, Refused}
use Rattle.xl_store.proofs.Journals.{get_last}
use Rattle.xl_store.proofs.Making.{made_none, made_both}
use Rattle.xl_heartbeat.specs.declared.ends.Stopping.{Stopping}
use Rattle.xl_heartbeat.specs.declared.ends.Stopping.TheVariants as stopping
use Rattle.xl_heartbeat.specs.Relisting.{Relists, relist}
use Rattle.xl_heartbeat.specs.Beats.{stop_calls}
use Rattle.xl_heartbeat.specs.Recording.{Recorded}

-- no reports are taken by the call
abbrev pub IsQuiet : Call → Type 0
IsQuiet call = takes_reports call.event ≡ false

head_of : {A : Type 0} (x y : A) (xs ys : List A) → x ∷ xs ≡ y ∷ ys → x ≡ y
head_of x y xs ys e = cc

tail_of : {A : Type 0} (x y : A) (xs ys : List A) → x ∷ xs ≡ y ∷ ys → xs ≡ ys
tail_of x y xs ys e = cc

some_of : (x y : Call) → Some x ≡ Some y → x ≡ y
some_of x y e = cc

get_before : (xs ys : List Entry) (p : ℕ) → p < length xs → slice_get (xs ++ ys) p ≡ slice_get xs p
get_before [] ys p below = absurd (omega (arith, below))
get_before (x ∷ xs) ys zero below = refl
get_before (x ∷ xs) ys (suc p) below = get_before xs ys p (omega (arith, below))

take_before : (n : ℕ) (xs ys : List Entry) → n ≤ length xs → take n (xs ++ ys) ≡ take n xs
take_before zero xs ys below = refl
take_before (suc n) [] ys below = absurd (omega (arith, below))
take_before (suc n) (x ∷ xs) ys below = ap (λ (l : List Entry). x ∷ l) (take_before n xs ys (omega (arith, below)))

-- the entry at the place of a call has its event
quiet_entry : (core : Core) (es : List Entry) (p : ℕ) (call : Call) → slice_get (calls_of core es) p ≡ Some call
    → IsQuiet call → takes_in (slice_get es p) ≡ false
quiet_entry core [] p call there quiet = refl
quiet_entry core (e ∷ es) zero call there quiet =
    ap (λ (c : Call). takes_reports c.event)
    (some_of (record { event = e.event; answer = (reply_of core e).answer }) call there) ∙ quiet
quiet_entry core (e ∷ es) (suc p) call there quiet = quiet_entry (reply_of core e).core es p call there quiet

-- at places of calls by which no reports are taken there are no batches
pub quiet_places : (start : Core) (history : List Entry) (places : List ℕ) (calls : List Call)
    → StandAt start history places calls → AllByRecursion IsQuiet calls
    → AllByRecursion (λ p. takes_in (slice_get history p) ≡ false) places
quiet_places start history [] calls stand quiet = tt
quiet_places start history (p ∷ ps) [] stand quiet = absurd cc
quiet_places start history (p ∷ ps) (c ∷ cs) stand quiet =
    let all = calls_of start history in (
      quiet_entry start history p c
          (head_of (slice_get all p) (Some c) (map (slice_get all) ps) (map Some cs) stand) quiet.0,
      quiet_places start history ps cs
          (tail_of (slice_get all p) (Some c) (map (slice_get all) ps) (map Some cs) stand) quiet.1,
    )

module _ (r : Retention) where
  pub quiet_batch : (history : List Entry) (p : ℕ) → takes_in (slice_get history p) ≡ false
      → batch_at r history p ≡ []
  quiet_batch history p quiet = rw quiet refl

  no_batches : (history : List Entry) (places : List ℕ)
      → AllByRecursion (λ p. takes_in (slice_get history p) ≡ false) places → batches_at r history places ≡ []
  no_batches history [] quiet = refl
  no_batches history (p ∷ ps) quiet =
      ap (λ (l : List Batch). l ++ batches_at r history ps) (quiet_batch history p quiet.0)
      ∙ no_batches history ps quiet.1

  -- a place of a history is that of a longer one
  at_longer : (xs ys : List Entry) (p : ℕ) → p < length xs → batch_at r (xs ++ ys) p ≡ batch_at r xs p
  at_longer xs ys p below =
      ap (λ (o : Option Entry).
      cond (takes_in o) (option_to_list (handed_on r (take (p + 1) (xs ++ ys)))) []) (get_before xs ys p below)
      ∙ ap (λ (l : List Entry). cond (takes_in (slice_get xs p)) (option_to_list (handed_on r l)) [])
      (take_before (p + 1) xs ys (omega (arith, below)))

  rise_low : (low : ℕ) (places : List ℕ) (high : ℕ) → Rise low places high → low ≤ high
  rise_low low [] high rise = rise
  rise_low low (p ∷ ps) high rise =
      let rest = rise_low (p + 1) ps high rise.1 in
      let first = rise.0 in
      omega (arith, rest, first)

  over_longer : (xs ys : List Entry) (low : ℕ) (places : List ℕ) → Rise low places (length xs)
      → batches_at r (xs ++ ys) places ≡ batches_at r xs places
  over_longer xs ys low [] rise = refl
  over_longer xs ys low (p ∷ ps) rise =
      let below = rise_low (p + 1) ps (length xs) rise.1 in
      ap (λ (l : List Batch). l ++ batches_at r (xs ++ ys) ps) (at_longer xs ys p (omega (arith, below)))
      ∙ ap (λ (l : List Batch). batch_at r xs p ++ l) (over_longer xs ys (p + 1) ps rise.1)

  -- so are all places at which calls were made
  pub in_longer : (start : Core) (old new : Knowledge Entry) (calls : List Call) (history : List Entry)
      (made : Made start old new calls) → IsPrefix new.seen history
      → batches_at r history made.places ≡ batches_at r new.seen made.places
  in_longer start old new calls history made begins =
      subst (λ (h : List Entry). batches_at r h made.places ≡ batches_at r new.seen made.places) begins.1
      (over_longer new.seen begins.0 (length old.seen) made.places made.rise)

-- reports that are taken hand on what is handed on of all that was seen
taken_batches : (r : Retention) (earlier : List Entry) (e : Entry) → takes_reports e.event ≡ true
    → batches_at r (earlier ++ e ∷ []) (length earlier ∷ []) ≡ option_to_list (handed_on r (earlier ++ e ∷ []))
taken_batches r earlier e takes =
    let all : List Entry = earlier ++ e ∷ [] in
    let here : takes_in (slice_get all (length earlier)) ≡ true = ap takes_in (get_last earlier [] e) ∙ takes in
    let whole : take (length earlier + 1) all ≡ all =
    take_all (length earlier + 1) all (omega (arith, length-append earlier (e ∷ []))) in
    let one : batch_at r all (length earlier) ≡ option_to_list (handed_on r all) =
    ap (λ (b : Bool). cond b (option_to_list (handed_on r (take (length earlier + 1) all))) []) here
    ∙ ap (λ (l : List Entry). option_to_list (handed_on r l)) whole in
    ap (λ (l : List Batch). l ++ []) one ∙ append-nil (option_to_list (handed_on r all))

module _ {R : Type 0} (records : R → Batch → R → Type 0) where
  -- nothing was handed to it
  pub records_none : (o : Option R) → RecordsIf records [] o o
  records_none None = refl
  records_none (Some recorder) = refl

  -- one batch was
  pub records_one : (batch : Batch) (old new : R) → records old batch new → Records records (batch ∷ []) old new
  records_one batch old new h = (new, h, refl)

  then_records : (xs ys : List Batch) (old mid new : R) → Records records xs old mid → Records records ys mid new
      → Records records (xs ++ ys) old new
  then_records [] ys old mid new a b = subst (λ (it : R). Records records ys it new) a b
  then_records (x ∷ xs) ys old mid new a b = (a.0, a.1, then_records xs ys a.0 mid new a.2 b)

  -- first these, then those
  pub records_both : (xs ys : List Batch) (old mid new : Option R) → RecordsIf records xs old mid
      → RecordsIf records ys mid new → RecordsIf records (xs ++ ys) old new
  records_both xs ys None mid new a b = subst (λ (o : Option R). RecordsIf records ys o new) a b
  records_both xs ys (Some old) None new a b = absurd a
  records_both xs ys (Some old) (Some mid) None a b = absurd b
  records_both xs ys (Some old) (Some mid) (Some new) a b = then_records xs ys old mid new a b

  module _ (r : Retention) (start : Core) where
    -- calls by which no reports are taken
    pub recorded_quiet : (old new : Knowledge Entry) (calls : List Call) (o : Option R) → Made start old new calls
        → AllByRecursion IsQuiet calls → Recorded records r start old new o o
    recorded_quiet old new calls o made quiet = record {
      calls = calls;
      made = made;
      handed = subst (λ (bs : List Batch). RecordsIf records bs o o)
          (sym (no_batches r new.seen made.places
          (quiet_places start new.seen made.places calls made.stand quiet)))
          (records_none o);
    }

    pub recorded_same : (k : Knowledge Entry) (o : Option R) → Recorded records r start k k o o
    recorded_same k o = recorded_quiet k k [] o (made_none start k k refl refl refl) tt

    -- first some calls, then others
    pub recorded_both : (old mid new : Knowledge Entry) (a b c : Option R) → Recorded records r start old mid a b
        → Recorded records r start mid new b c → Recorded records r start old new a c
    recorded_both old mid new a b c one two =
        let made = made_both start old mid new one.calls two.calls one.made two.made in
        let p = one.made.places in
        let q = two.made.places in
        let places : made.places ≡ p ++ q = append_cancel_left old.mine made.places (p ++ q)
        (sym made.mine ∙ two.made.mine ∙ ap (λ (l : List ℕ). l ++ q) one.made.mine ∙ append_assoc old.mine p q) in
        let all : batches_at r new.seen made.places ≡ batches_at r mid.seen p ++ batches_at r new.seen q =
        ap (batches_at r new.seen) places
        ∙ flat_map-append (batch_at r new.seen) p q
        ∙ ap (λ (l : List Batch). l ++ batches_at r new.seen q)
        (in_longer r start old mid one.calls new.seen one.made two.made.begins) in
        record {
          calls = one.calls ++ two.calls;
          made = made;
          handed = subst (λ (bs : List Batch). RecordsIf records bs a c) (sym all)
              (records_both (batches_at r mid.seen p) (batches_at r new.seen q) a b c one.handed two.handed);
        }

  module _ {B K : Type 0} (store : Store B K) where
    -- the call had no turn
    pub recorded_refused : (old new : Pass Entry) (e : StoreEnd) (o : Option R) → Refused store old e new
        → Recorded records (retention_of store) (start_of store) (known old) (known new) o o
    recorded_refused old new e o refused =
        recorded_quiet (retention_of store) (start_of store) (known old) (known new) [] o refused.made tt

    -- reports were taken, and what that handed on was recorded
    pub recorded_taken : (old new : Pass Entry) (written : ℕ) (room after : List Report)
        (batch : Option Batch) (o o' : Option R)
        → HandedOut store old written room after new
        → batch ≡ handed_on (retention_of store) (known new).seen
        → RecordsIf records (option_to_list batch) o o'
        → Recorded records (retention_of store) (start_of store) (known old) (known new) o o'
    recorded_taken old new written room after batch o o' out is handed =
        let made = out.called.made in
        let last = out.called.last in
        let r = retention_of store in
        let here : made.places ≡ length last.earlier ∷ [] =
        append_cancel_left (known old).mine made.places (length last.earlier ∷ []) (sym made.mine ∙ last.mine) in
        let one = taken_batches r last.earlier last.entry (ap takes_reports last.tells) in
        let all : batches_at r (known new).seen made.places ≡ option_to_list batch =
        ap (batches_at r (known new).seen) here
        ∙ subst (λ (s : List Entry).
        batches_at r s (length last.earlier ∷ []) ≡ option_to_list (handed_on r s)) (sym last.seen) one
        ∙ ap option_to_list (sym is) in
        record {
          calls = _;
          made = made;
          handed = subst (λ (bs : List Batch). RecordsIf records bs o o') (sym all) handed;
        }

-- a list that is asked for takes no reports
quiet_relist : (now : ℕ) (list : TrustedList) (refusal : Option Refusal)
    → AllByRecursion IsQuiet (relist now list refusal ∷ [])
quiet_relist now list None = (refl, tt)
quiet_relist now list (Some why) = (refl, tt)

pub quiet_asked : (made : Option TrustedList) (now : ℕ) (set next : TrustedList) (calls : List Call)
    → Relists made now set calls next → AllByRecursion IsQuiet calls
quiet_asked made now set next calls (Relists.stays same) = tt
quiet_asked made now set next calls (Relists.follows list refusal other) = quiet_relist now list refusal

pub quiet_stop : (stop : Stopping) → AllByRecursion IsQuiet (stop_calls stop)
quiet_stop stopping.Done = (refl, tt)
quiet_stop (stopping.StoreFull n) = tt
