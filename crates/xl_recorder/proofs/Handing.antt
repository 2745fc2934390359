-- What is handed on over a history stands one behind the other in it.
use Rattle.std.proofs.Common.{◌≡◌, ◌+◌, ◌-◌, ◌<◌, ◌≤◌, ◌++◌, ℕ, zero, suc, Bool, true, false, cond, not, List, [], ◌∷◌, Option, Some, refl, sym, ap, ◌∙◌, subst, arith, length, length-append, append-nil, take, reverse}
use Rattle.std.specs.Prelude.{slice_get}
use Rattle.std.specs.List.{prefix_len}
use Rattle.std.specs.Option.{option_to_list}
use Rattle.std.proofs.lemmas.Grind.{flat_map-append}
use Rattle.std.proofs.lemmas.List.{length-reverse, length-take-le, reverse-append, take-append-drop, take-append-le}
use Rattle.std.proofs.lemmas.List.Sums.{prefix_len-le-length}
use Rattle.std.proofs.Math.Seq.{take-append_seam, take-length}
use Rattle.xl_turns.specs.Places.{all_below}
use Rattle.xl_store.specs.declared.entry.Entry.{Entry}
use Rattle.xl_store.specs.declared.retention.Batch.{Batch}
use Rattle.xl_store.specs.declared.retention.Retention.TheVariants.{Passing}
use Rattle.xl_store.specs.Recording.{Records, batch_at, batches_at, takes_in}
use Rattle.xl_store.specs.Retentions.{from_place, handed_on, takes_reports, through_reports}
use Rattle.xl_recorder.specs.Recorders.{HasRecorded, IsRecorded, Opened, Recording, Takes}

-- HOW FAR REPORTS WERE TAKEN

through_below : (es : List Entry) → through_reports es ≤ length es
through_below es = omega arith

through_more : (es : List Entry) (e : Entry)
    → through_reports (es ++ e ∷ []) ≡ cond (takes_reports e.event) (length es + 1) (through_reports es)
through_more es e =
    (λ i. length-append es (e ∷ []) i - prefix_len (λ (x : Entry). not (takes_reports x.event)) (reverse-append es (e ∷ []) i))
    ∙ by (takes_reports e.event)
  where
    by : (b : Bool)
        → length es + 1 - cond (not b) (1 + prefix_len (λ (x : Entry). not (takes_reports x.event)) (reverse es)) 0
        ≡ cond b (length es + 1) (through_reports es)
    by true = omega arith
    by false =
        omega (arith, prefix_len-le-length (λ (x : Entry). not (takes_reports x.event)) (reverse es), length-reverse es)

-- ONE BATCH BEHIND THE OTHER

records_then : {R : Type 0} (records : R → Batch → R → Type 0) (xs ys : List Batch) (old new : R)
    → Records records (xs ++ ys) old new → (mid : R) × Records records xs old mid × Records records ys mid new
records_then records [] ys old new r = (old, refl, r)
records_then records (x ∷ xs) ys old new r =
    let rest = records_then records xs ys r.0 new r.2 in (rest.0, (r.0, r.1, rest.1), rest.2)

-- an element that stands at a place
element : {A : Type 0} (xs : List A) (n : ℕ) → n < length xs
    → (x : A) × (slice_get xs n ≡ Some x) × (take (suc n) xs ≡ take n xs ++ x ∷ [])
element {A} [] n below = absurd (omega (arith, below))
element {A} (x ∷ xs) zero below = (x, refl, refl)
element {A} (x ∷ xs) (suc n) below =
    let it = element xs n (omega (arith, below)) in (it.0, it.1, ap (λ (ys : List A). x ∷ ys) it.2)

-- what stands up to the last taking of reports
abbrev taken : List Entry → List Entry
taken es = take (through_reports es) es

module _ {R : Type 0} (seen_so : R → Recording) (o : Opened) (history : List Entry) where
  abbrev TakesSo : R → Batch → R → Type 0
  TakesSo a batch b = Takes (seen_so a) batch (seen_so b)

  -- a batch that begins behind these entries is recorded with them
  handed : (es : List Entry) (place : ℕ) (mid new : R) → place ≤ length es → HasRecorded o (take place es) (seen_so mid)
      → TakesSo mid (from_place place es) new → HasRecorded o es (seen_so new)
  handed es place mid new within so takes =
      subst (λ (xs : List Entry). HasRecorded o xs (seen_so new)) (take-append-drop place es)
      (takes.onward o (take place es) so (sym (length-take-le place es within)))

  module _ (front : List Entry) (e : Entry) (mid new : R) (so : HasRecorded o (taken front) (seen_so mid)) where
    -- if no reports are taken it is as before
    silent : takes_reports e.event ≡ false → mid ≡ new → HasRecorded o (taken (front ++ e ∷ [])) (seen_so new)
    silent quiet same =
        let place : through_reports (front ++ e ∷ []) ≡ through_reports front =
        through_more front e ∙ ap (λ (b : Bool). cond b (length front + 1) (through_reports front)) quiet in
        let all : taken front ≡ taken (front ++ e ∷ []) =
        sym (take-append-le (through_reports front) front (e ∷ []) (through_below front))
        ∙ ap (λ (n : ℕ). take n (front ++ e ∷ [])) (sym place) in
        subst (λ (xs : List Entry). HasRecorded o xs (seen_so new)) all
        (subst (λ (r : R). HasRecorded o (taken front) (seen_so r)) same so)

    -- and else all entries are handed on
    heard : takes_reports e.event ≡ true → TakesSo mid (from_place (through_reports front) (front ++ e ∷ [])) new
        → HasRecorded o (taken (front ++ e ∷ [])) (seen_so new)
    heard loud takes =
        let es : List Entry = front ++ e ∷ [] in
        let long : length es ≡ length front + 1 = length-append front (e ∷ []) in
        let place : through_reports es ≡ length es =
        through_more front e ∙ ap (λ (b : Bool). cond b (length front + 1) (through_reports front)) loud ∙ sym long in
        let all : es ≡ taken es = sym (take-length es) ∙ ap (λ (n : ℕ). take n es) (sym place) in
        let before : HasRecorded o (take (through_reports front) es) (seen_so mid) =
        subst (λ (xs : List Entry). HasRecorded o xs (seen_so mid))
        (sym (take-append-le (through_reports front) front (e ∷ []) (through_below front))) so in
        subst (λ (xs : List Entry). HasRecorded o xs (seen_so new)) all
        (handed es (through_reports front) mid new (omega (arith, through_below front, long)) before takes)

  -- what the entry behind a front of the history hands on
  at_place : (n : ℕ) (e : Entry) → slice_get history n ≡ Some e → take (n + 1) history ≡ take n history ++ e ∷ []
      → length (take n history) ≡ n
      → batch_at Passing history n
      ≡ cond (takes_reports e.event) (from_place (through_reports (take n history)) (take n history ++ e ∷ []) ∷ []) []
  at_place n e here up long =
      let front : List Entry = take n history in
      let last : take (length (front ++ e ∷ []) - 1) (front ++ e ∷ []) ≡ front =
      ap (λ (k : ℕ). take k (front ++ e ∷ []))
      (omega (arith, length-append front (e ∷ []))) ∙ take-append_seam front (e ∷ []) in
      ap (λ (found : Option Entry). cond (takes_in found) (option_to_list (handed_on Passing (take (n + 1) history))) []) here
      ∙ ap (λ (es : List Entry). cond (takes_reports e.event) (option_to_list (handed_on Passing es)) []) up
      ∙ ap (λ (es : List Entry). cond (takes_reports e.event) (from_place (through_reports es) (front ++ e ∷ []) ∷ []) []) last

  one_more : (n : ℕ) (e : Entry) (mid new : R) → slice_get history n ≡ Some e
      → take (n + 1) history ≡ take n history ++ e ∷ [] → length (take n history) ≡ n
      → HasRecorded o (taken (take n history)) (seen_so mid)
      → Records TakesSo (batch_at Passing history n) mid new
      → HasRecorded o (taken (take (n + 1) history)) (seen_so new)
  one_more n e mid new here up long so records =
      let front : List Entry = take n history in
      subst (λ (es : List Entry). HasRecorded o (taken es) (seen_so new)) (sym up)
      (by (takes_reports e.event) refl
      (subst (λ (batches : List Batch). Records TakesSo batches mid new) (at_place n e here up long) records))
    where
      by : (b : Bool) → takes_reports e.event ≡ b
          → Records TakesSo (cond b (from_place (through_reports (take n history)) (take n history ++ e ∷ []) ∷ []) []) mid new
          → HasRecorded o (taken (take n history ++ e ∷ [])) (seen_so new)
      by true loud r =
          subst (λ (x : R). HasRecorded o (taken (take n history ++ e ∷ [])) (seen_so x)) (sym r.2)
          (heard (take n history) e mid r.0 so loud r.1)
      by false quiet r = silent (take n history) e mid new so quiet (sym r)

  next_place : (n : ℕ) (mid new : R) → n < length history → HasRecorded o (taken (take n history)) (seen_so mid)
      → Records TakesSo (batch_at Passing history n) mid new
      → HasRecorded o (taken (take (suc n) history)) (seen_so new)
  next_place n mid new below so records =
      let it = element history n below in
      let one : n + 1 ≡ suc n = omega arith in
      subst (λ (k : ℕ). HasRecorded o (taken (take k history)) (seen_so new)) one
      (one_more n it.0 mid new it.1 (ap (λ (k : ℕ). take k history) one ∙ it.2)
      (length-take-le n history (omega (arith, below))) so records)

  all_up_to : (n : ℕ) (old new : R) → n ≤ length history → HasRecorded o [] (seen_so old)
      → Records TakesSo (batches_at Passing history (all_below n)) old new
      → HasRecorded o (taken (take n history)) (seen_so new)
  all_up_to zero old new within so records = subst (λ (r : R). HasRecorded o [] (seen_so r)) (sym records) so
  all_up_to (suc n) old new within so records =
      let apart : batches_at Passing history (all_below n ++ n ∷ [])
      ≡ batches_at Passing history (all_below n) ++ batch_at Passing history n =
      flat_map-append (batch_at Passing history) (all_below n) (n ∷ [])
      ∙ ap (λ (bs : List Batch). batches_at Passing history (all_below n) ++ bs) (append-nil (batch_at Passing history n)) in
      let two = records_then TakesSo (batches_at Passing history (all_below n)) (batch_at Passing history n) old new
      (subst (λ (bs : List Batch). Records TakesSo bs old new) apart records) in
      next_place n two.0 new (omega (arith, within)) (all_up_to n old two.0 (omega (arith, within)) so two.1) two.2

pub is_recorded : {R : Type 0} (seen_so : R → Recording) → IsRecorded seen_so
is_recorded {R} seen_so o history old mid so records =
    let taken_so : HasRecorded o (taken history) (seen_so mid) =
    subst (λ (es : List Entry). HasRecorded o (taken es) (seen_so mid)) (take-length history)
    (all_up_to seen_so o history (length history) old mid (omega arith) so records) in (
      taken_so,
      λ new takes. handed seen_so o history history (through_reports history) mid new (through_below history) taken_so takes,
    )
