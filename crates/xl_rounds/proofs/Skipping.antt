-- Places with no proposal are passed over.
use Rattle.std.proofs.Common.{◌≡◌, ℕ, zero, suc, ◌+◌, ◌-◌, ◌≤◌, ◌<◌, Bool, false, List, ◌++◌, length, take, drop, set, get_or, map, arith, ap, subst, sym, ◌∙◌, refl, Option, None}
use Rattle.std.specs.Prelude.{count_by}
use Rattle.std.proofs.lemmas.List.{set-get_or}
use Rattle.std.proofs.lemmas.List.Sums.{count_by_more_no}
use Rattle.xl_wire.specs.declared.proposal.Proposal.{Proposal}
use Rattle.xl_ledger.specs.declared.header.Header.{Header}
use Rattle.xl_rounds.specs.Rounds.{Round}
use Rattle.xl_rounds.specs.Proposals.{later_of, with_handed, with_all_handed}
use Rattle.xl_rounds.proofs.PositionLaws.{map_next, AreWritten, none_written}
use Rattle.xl_rounds.proofs.StartLaws.{handed_more}

-- what holds at a place, and goes on from each place to the next, holds at a later place
pub skipped : (Q : ℕ → Type 0) (from to : ℕ) → from ≤ to → ((i : ℕ) → from ≤ i → i < to → Q i → Q (i + 1)) → Q from → Q to
skipped Q from to later step start =
    let whole : from + (to - from) ≡ to = omega arith in
    subst Q whole (walked (to - from) (omega arith))
  where
    walked : (n : ℕ) → n ≤ to - from → Q (from + n)
    walked zero within = let here : from ≡ from + 0 = omega arith in subst Q here start
    walked (suc n) within =
        let next : from + n + 1 ≡ from + suc n = omega arith in
        subst Q next (step (from + n) (omega arith) (omega arith) (walked n (omega arith)))

-- no proposal stands from a place up to another
abbrev pub ArePassed : List (Option Proposal) → ℕ → ℕ → Type 0
ArePassed proposals from to = (i : ℕ) → from ≤ i → i < to → get_or proposals i None ≡ None

-- a change of each place that leaves None as it is
pub changes_skipped : (f : Option Proposal → Option Proposal) → f None ≡ None → (xs now : List (Option Proposal)) (from to : ℕ) → from ≤ to → to ≤ length xs → ArePassed now from to →
    now ≡ map f (take from xs) ++ drop from xs → now ≡ map f (take to xs) ++ drop to xs
changes_skipped f stays xs now from to later within passed start =
    skipped (λ i. now ≡ map f (take i xs) ++ drop i xs) from to later step start
  where
    step : (i : ℕ) → from ≤ i → i < to → now ≡ map f (take i xs) ++ drop i xs → now ≡ map f (take (i + 1) xs) ++ drop (i + 1) xs
    step i after before is =
        let none : f (get_or now i None) ≡ get_or now i None = ap f (passed i after before) ∙ stays ∙ sym (passed i after before) in
        sym (set-get_or now i None) ∙ ap (λ p. set now i p) (sym none) ∙ ap (λ ys. set ys i (f (get_or ys i None))) is ∙ map_next f xs i None (omega (arith, before, within))

-- the close times
pub times_skipped : (members : List (Option Proposal)) (from to len : ℕ) (room : List ℕ) → from ≤ to → to ≤ length members → ArePassed members from to →
    AreWritten members from len room → AreWritten members to len room
times_skipped members from to len room later within passed =
    skipped (λ i. AreWritten members i len room) from to later (λ i after before. none_written members i len room (omega (arith, before, within)) (passed i after before))

-- a count of positions
pub count_skipped : (p : Option Proposal → Bool) → p None ≡ false → (members : List (Option Proposal)) (from to count : ℕ) → from ≤ to → to ≤ length members → ArePassed members from to →
    count ≡ count_by p (take from members) → count ≡ count_by p (take to members)
count_skipped p not_none members from to count later within passed =
    skipped (λ i. count ≡ count_by p (take i members)) from to later
    (λ i after before is. is ∙ sym (count_by_more_no p members i None (omega (arith, before, within)) (ap p (passed i after before) ∙ not_none)))

-- later proposals that are handed
pub handed_skipped : (ledgers : List Header) (now : ℕ) (start r : Round) (from to : ℕ) → from ≤ to → ArePassed r.later from to →
    r ≡ with_all_handed ledgers from now start → r ≡ with_all_handed ledgers to now start
handed_skipped ledgers now start r from to later passed =
    skipped (λ i. r ≡ with_all_handed ledgers i now start) from to later step
  where
    step : (i : ℕ) → from ≤ i → i < to → r ≡ with_all_handed ledgers i now start → r ≡ with_all_handed ledgers (i + 1) now start
    step i after before is =
        let place : i + 1 - 1 ≡ i = omega arith in
        let none : later_of r (i + 1) ≡ None = ap (λ k. get_or r.later k None) place ∙ passed i after before in
        handed_more ledgers i (i + 1) now start r r refl is (sym (ap (λ p. with_handed ledgers (i + 1) p now r) none))
