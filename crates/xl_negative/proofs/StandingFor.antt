-- What is kept of what a node heard stands for the list of all that it heard.
use Rattle.std.proofs.Common.{◌≡◌, ℕ, zero, suc, ◌+◌, ◌-◌, ◌≤◌, List, [], ◌∷◌, get_or, set, replicate, refl, ap, ap₂, ◌∙◌, arith, cond, Option, Some, None}
use Rattle.std.specs.Prelude.{map}
use Rattle.std.specs.List.{range_with_len}
use Rattle.xl_base.specs.declared.ids.LedgerId.{LedgerId}
use Rattle.xl_ledger.specs.declared.header.Header.{Header}
use Rattle.xl_lists.specs.declared.said.SaidLedger.{SaidLedger}
use Rattle.xl_lists.specs.Lists.{TrustedList}
use Rattle.xl_nunl.specs.Heard.{score_of}
use Rattle.xl_nunl.specs.Rings.{IsKept, score_in}
use Rattle.xl_nunl.proofs.Kept.{rings}
use Rattle.xl_sched.specs.declared.event.What.{What}
use Rattle.xl_sched.specs.declared.event.What.TheVariants as what
use Rattle.xl_world.specs.Schedule.{node_asked}
use Rattle.xl_negative.specs.declared.hearing.Heard.{Heard}
use Rattle.xl_negative.specs.Listing.{list_keeping, scores_of}
use Rattle.xl_negative.specs.Ringing.{Places, kept_scores, ring_keeping}
use Rattle.xl_negative.specs.Seats.{Seat, after_what, empty_seat, seat_anew, after_hearing, hears, leaving_out, with_full_list, no_seats, seat_at, with_forgetting, with_hearing, with_leaving_out, with_listing}
use Rattle.xl_negative.specs.Writing.{Change, change_at, change_by, change_of, flag_in, is_flag}

-- ONE SEAT

pub record StandsFor (p : Seat Places) (q : Seat (List SaidLedger)) : Type 0 where
  pub full : p.full ≡ q.full
  pub negative : p.negative ≡ q.negative
  pub heard : IsKept p.heard q.heard

empty_stands : StandsFor (empty_seat ring_keeping) (empty_seat list_keeping)
empty_stands = record { full = refl; negative = refl; heard = rings.begun }

module _ (p : Seat Places) (q : Seat (List SaidLedger)) (is : StandsFor p q) where
  hearing_stands : (said : SaidLedger) → StandsFor (after_hearing ring_keeping p said) (after_hearing list_keeping q said)
  hearing_stands said = record { full = is.full; negative = is.negative; heard = rings.goes_on p.heard q.heard said is.heard }

  forgetting_stands : StandsFor (seat_anew ring_keeping p) (seat_anew list_keeping q)
  forgetting_stands = record { full = is.full; negative = is.negative; heard = rings.begun }

  listing_stands : (list : TrustedList) → StandsFor (with_full_list p list) (with_full_list q list)
  listing_stands list = record { full = refl; negative = refl; heard = is.heard }

  leaving_stands : (negative : List ℕ) → StandsFor (leaving_out p negative) (leaving_out q negative)
  leaving_stands negative = record { full = is.full; negative = refl; heard = is.heard }

-- SCORES

-- from a member's number on, of members alone
scored_same : (ledgers : List Header) (places : Places) (heard : List SaidLedger) (flag : ℕ) → IsKept places heard → (n m : ℕ) → 1 ≤ m → m + n ≤ 65 →
    map (λ k. score_in ledgers places k flag) (range_with_len m n) ≡ map (λ k. score_of ledgers heard k flag) (range_with_len m n)
scored_same ledgers places heard flag is zero m low high = refl
scored_same ledgers places heard flag is (suc n) m low high =
    ap₂ (λ (x : ℕ) (xs : List ℕ). x ∷ xs) (rings.scores ledgers places heard m flag low (omega (arith, high)) is)
    (scored_same ledgers places heard flag is n (m + 1) (omega arith) (omega (arith, high)))

scores_same : (ledgers : List Header) (places : Places) (heard : List SaidLedger) (flag : ℕ) → IsKept places heard → kept_scores ledgers places flag ≡ scores_of ledgers heard flag
unfolding kept_scores scores_of
scores_same ledgers places heard flag is = scored_same ledgers places heard flag is 64 1 (omega arith) (omega arith)

-- what a node changes
module _ (p : Seat Places) (q : Seat (List SaidLedger)) (is : StandsFor p q) (i : ℕ) (ledgers : List Header) where
  by_same : (flag : Option ℕ) (full : Option TrustedList) → change_by ring_keeping p i ledgers flag full ≡ change_by list_keeping q i ledgers flag full
  by_same None full = refl
  by_same (Some flag) None = refl
  by_same (Some flag) (Some full) =
      ap (λ (negative : List ℕ). change_of full.members negative (kept_scores ledgers p.heard flag) i) is.negative
      ∙ ap (λ (scores : List ℕ). change_of full.members q.negative scores i) (scores_same ledgers p.heard q.heard flag is.heard)

  pub change_same : (seq : ℕ) (id : LedgerId) → change_at ring_keeping p i ledgers seq id ≡ change_at list_keeping q i ledgers seq id
  change_same seq id =
      ap (λ (c : Option Change). cond (is_flag seq) c None)
      (by_same (flag_in ledgers seq id) p.full ∙ ap (change_by list_keeping q i ledgers (flag_in ledgers seq id)) is.full)

-- ALL SEATS

abbrev pub AllStandFor : List (Seat Places) → List (Seat (List SaidLedger)) → Type 0
AllStandFor [] [] = Unit {0}
AllStandFor [] (q ∷ qs) = ⊥
AllStandFor (p ∷ ps) [] = ⊥
AllStandFor (p ∷ ps) (q ∷ qs) = StandsFor p q × AllStandFor ps qs

none_stand : (n : ℕ) → AllStandFor (replicate n (empty_seat ring_keeping)) (replicate n (empty_seat list_keeping))
none_stand zero = tt
none_stand (suc n) = (empty_stands, none_stand n)

pub first_stand : AllStandFor (no_seats ring_keeping) (no_seats list_keeping)
unfolding no_seats
first_stand = none_stand 64

there_stands : (ps : List (Seat Places)) (qs : List (Seat (List SaidLedger))) → AllStandFor ps qs → (k : ℕ) → StandsFor (get_or ps k (empty_seat ring_keeping)) (get_or qs k (empty_seat list_keeping))
there_stands [] [] stand k = empty_stands
there_stands [] (q ∷ qs) stand k = absurd stand
there_stands (p ∷ ps) [] stand k = absurd stand
there_stands (p ∷ ps) (q ∷ qs) stand zero = stand.0
there_stands (p ∷ ps) (q ∷ qs) stand (suc k) = there_stands ps qs stand.1 k

set_stand : (ps : List (Seat Places)) (qs : List (Seat (List SaidLedger))) → AllStandFor ps qs → (k : ℕ) (p : Seat Places) (q : Seat (List SaidLedger)) → StandsFor p q → AllStandFor (set ps k p) (set qs k q)
set_stand [] [] stand k p q is = tt
set_stand [] (y ∷ qs) stand k p q is = absurd stand
set_stand (x ∷ ps) [] stand k p q is = absurd stand
set_stand (x ∷ ps) (y ∷ qs) stand zero p q is = (is, stand.1)
set_stand (x ∷ ps) (y ∷ qs) stand (suc k) p q is = (stand.0, set_stand ps qs stand.1 k p q is)

module _ (ps : List (Seat Places)) (qs : List (Seat (List SaidLedger))) (stand : AllStandFor ps qs) where
  pub seat_stands : (i : ℕ) → StandsFor (seat_at ring_keeping ps i) (seat_at list_keeping qs i)
  seat_stands i = there_stands ps qs stand (i - 1)

  hearing_stand : (h : Heard) → AllStandFor (with_hearing ring_keeping ps h) (with_hearing list_keeping qs h)
  hearing_stand h = set_stand ps qs stand (h.node - 1) _ _ (hearing_stands (seat_at ring_keeping ps h.node) (seat_at list_keeping qs h.node) (seat_stands h.node) h.said)

  forgetting_stand : (i : ℕ) → AllStandFor (with_forgetting ring_keeping ps i) (with_forgetting list_keeping qs i)
  forgetting_stand i = set_stand ps qs stand (i - 1) _ _ (forgetting_stands (seat_at ring_keeping ps i) (seat_at list_keeping qs i) (seat_stands i))

  pub listing_stand : (i : ℕ) (list : TrustedList) → AllStandFor (with_listing ring_keeping ps i list) (with_listing list_keeping qs i list)
  listing_stand i list = set_stand ps qs stand (i - 1) _ _ (listing_stands (seat_at ring_keeping ps i) (seat_at list_keeping qs i) (seat_stands i) list)

  pub leaving_stand : (i : ℕ) (negative : List ℕ) → AllStandFor (with_leaving_out ring_keeping ps i negative) (with_leaving_out list_keeping qs i negative)
  leaving_stand i negative = set_stand ps qs stand (i - 1) _ _ (leaving_stands (seat_at ring_keeping ps i) (seat_at list_keeping qs i) (seat_stands i) negative)

  pub what_stand : (w : What) → AllStandFor (after_what ring_keeping ps w) (after_what list_keeping qs w)
  what_stand (what.Restart node) = forgetting_stand node
  what_stand (what.Cut new ask) = forgetting_stand (node_asked ask)
  what_stand (what.List node list) = listing_stand node list
  what_stand other = stand

pub hears_stand : (hs : List Heard) (ps : List (Seat Places)) (qs : List (Seat (List SaidLedger))) → AllStandFor ps qs → AllStandFor (hears ring_keeping ps hs) (hears list_keeping qs hs)
hears_stand [] ps qs stand = stand
hears_stand (h ∷ hs) ps qs stand = hears_stand hs (with_hearing ring_keeping ps h) (with_hearing list_keeping qs h) (hearing_stand ps qs stand h)
