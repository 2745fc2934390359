-- What is kept at each step makes reports agree.
use Rattle.std.proofs.Common.{◌≡◌, ℕ, ◌<◌, ◌≤◌, Bool, true, false, List, [], ◌∷◌, ◌++◌, refl, arith, ap, sym, ◌∙◌, inl, inr, Option, Some, None, subst}
use Rattle.std.specs.Prelude.{◌==◌, ◌&&◌, ◌||◌, ◌⊎◌, IsTrue, IfSome}
use Rattle.std.proofs.lemmas.Bool.{and_from, eq-eqb, or_right, or_left, and_parts, or_cases, eqb-true}
use Rattle.std.proofs.lemmas.List.Folds.{list_any-append}
use Rattle.std.proofs.lemmas.Slice.Eq.{bytes_eq-Decides}
use Rattle.xl_base.specs.Ids.{same_id}
use Rattle.xl_base.specs.declared.ids.LedgerId.{LedgerId}
use Rattle.xl_lists.specs.Lists.{is_on}
use Rattle.xl_lists.specs.Quorums.{Enough}
use Rattle.xl_lists.specs.declared.said.SaidLedger.{SaidLedger}
use Rattle.xl_lists.specs.declared.report.Report.{Report}
use Rattle.xl_lists.specs.Agreement.{has_said, with_said, vouches, IsGenuine, IsBacked, KeptFacts, Agree, IsLawful}
use Rattle.xl_lists.proofs.Counting.{quorums_share, count_weaker}
use Rattle.std.proofs.lemmas.List.Elements.{All-append, All-weaker}

-- ids that are the same are equal
pub same_id-true : (a b : LedgerId) → same_id a b ≡ true → a ≡ b
same_id-true a b h = ap (λ (bytes : List ℕ). let id : LedgerId = record { 0 = bytes } in id) ((bytes_eq-Decides a.0 b.0).0 h)

pub same_id_itself : (a : LedgerId) → same_id a a ≡ true
same_id_itself a = (bytes_eq-Decides a.0 a.0).1 refl

-- who vouches and is no liar said so
said_by_honest : (liar said : Bool) → liar ≡ false → (liar || said) ≡ true → said ≡ true
said_by_honest liar said e h = cc

-- two reports of one sequence, each with its quorum
two_reports : (liars : List ℕ) (said : List SaidLedger) → ((m s : ℕ) (a b : LedgerId) → IsTrue (has_said said m s a) → IsTrue (has_said said m s b) → a ≡ b) →
    (r q : Report) → IsBacked liars said r → IsBacked liars said q → Enough liars r.list q.list → r.seq ≡ q.seq → r.id ≡ q.id
two_reports liars said once r q backed_r backed_q enough same_seq =
    let found = quorums_share (vouches liars said r.seq r.id) (vouches liars said q.seq q.id) (is_on liars) r.list.members q.list.members
    backed_r.once backed_q.once (omega (arith, backed_r.quorum, backed_q.quorum, enough)) in
    let m : ℕ = found.0 in
    let first : has_said said m r.seq r.id ≡ true = said_by_honest (is_on liars m) _ found.1.honest found.1.first in
    let second : has_said said m q.seq q.id ≡ true = said_by_honest (is_on liars m) _ found.1.honest found.1.second in
    once m q.seq r.id q.id (subst (λ (s : ℕ). has_said said m s r.id ≡ true) same_seq first) second

-- Reports agree where their quorums are enough.
pub law_of_agreement : {liars : List ℕ} {said : List SaidLedger} {reports : List Report} {Holds : ℕ → ℕ → Type 0} {Each : (SaidLedger → Type 0) → Type 0} →
    KeptFacts liars said reports Holds Each → Agree liars reports
law_of_agreement {liars} {said} kept i d i_in j e j_in enough same_seq =
    two_reports liars said kept.once _ _ (kept.backed i d i_in) (kept.backed j e j_in) enough same_seq

-- what was said stays said
said_stays : (said : List SaidLedger) (spoken : Option SaidLedger) (m s : ℕ) (id : LedgerId) → IsTrue (has_said said m s id) → IsTrue (has_said (with_said said spoken) m s id)
said_stays said None m s id h = h
said_stays said (Some x) m s id h = list_any-append (λ y. y.member == m && y.seq == s && same_id y.id id) said (x ∷ []) ∙ or_left _ _ h

-- a test that passes tells all three
is_that : (x : SaidLedger) (m s : ℕ) (id : LedgerId) → (((x.member == m && x.seq == s) && same_id x.id id) || false) ≡ true → (x.member ≡ m) × (x.seq ≡ s) × (x.id ≡ id)
is_that x m s id h =
    elim (or_cases _ false h) [
      | inl here ↦
          let both = and_parts (x.member == m && x.seq == s) _ here in
          let first = and_parts (x.member == m) _ both.0 in
          (eqb-true _ _ first.0, eqb-true _ _ first.1, same_id-true _ _ both.1)
      | inr never ↦ cc
    ]

-- what was said now was said before, or is what is said in this step
said_now : (said : List SaidLedger) (spoken : Option SaidLedger) (m s : ℕ) (id : LedgerId) → IsTrue (has_said (with_said said spoken) m s id) →
    IsTrue (has_said said m s id) ⊎ ((x : SaidLedger) × (spoken ≡ Some x) × (x.member ≡ m) × (x.seq ≡ s) × (x.id ≡ id))
said_now said None m s id h = inl h
said_now said (Some x) m s id h =
    elim (or_cases (has_said said m s id) _ (sym (list_any-append (λ y. y.member == m && y.seq == s && same_id y.id id) said (x ∷ [])) ∙ h))
    [ inl before ↦ inl before | inr here ↦ let that = is_that x m s id here in inr (x, refl, that.0, that.1, that.2) ]

-- who vouched still does
pub vouches_still : (liars : List ℕ) (said : List SaidLedger) (spoken : Option SaidLedger) (m s : ℕ) (id : LedgerId) →
    IsTrue (vouches liars said s id m) → IsTrue (vouches liars (with_said said spoken) s id m)
vouches_still liars said spoken m s id h =
    elim (or_cases (is_on liars m) (has_said said m s id) h)
    [ inl liar ↦ or_left _ _ liar | inr said' ↦ or_right _ _ (said_stays said spoken m s id said') ]

-- so a quorum is still a quorum
pub backed_still : (liars : List ℕ) (said : List SaidLedger) (spoken : Option SaidLedger) (r : Report) → IsBacked liars said r → IsBacked liars (with_said said spoken) r
backed_still liars said spoken r backed = record {
  once = backed.once;
  quorum = omega (arith, backed.quorum, count_weaker (vouches liars said r.seq r.id) (vouches liars (with_said said spoken) r.seq r.id) (λ m. vouches_still liars said spoken m r.seq r.id) r.list.members);
}

-- what is said in a step is said then
pub now_said : (said : List SaidLedger) (x : SaidLedger) → IsTrue (has_said (with_said said (Some x)) x.member x.seq x.id)
now_said said x =
    list_any-append (λ y. y.member == x.member && y.seq == x.seq && same_id y.id x.id) said (x ∷ [])
    ∙ or_right _ _ (or_left _ false (and_from _ _ (and_from _ _ (eq-eqb x.member x.member refl) (eq-eqb x.seq x.seq refl)) (same_id_itself x.id)))

some_once : (x y : SaidLedger) → Some x ≡ Some y → x ≡ y
some_once x y e = cc

-- what a step says is above all that its member said before
above_all : {liars : List ℕ} {said : List SaidLedger} {reports : List Report} {spoken : Option SaidLedger} {arisen : List Report} {Holds Holds' : ℕ → ℕ → Type 0} {Each : (SaidLedger → Type 0) → Type 0} →
    KeptFacts liars said reports Holds Each → IsLawful liars said spoken arisen Holds Holds' → (x : SaidLedger) → spoken ≡ Some x → (id : LedgerId) → ¬ IsTrue (has_said said x.member x.seq id)
above_all {Holds = Holds} kept lawful x now id before =
    let above : (k : ℕ) × (k < x.seq) × Holds x.member k = subst (λ o. IfSome o (λ y. (k : ℕ) × (k < y.seq) × Holds y.member k)) now lawful.above in
    omega (arith, kept.saved x.member x.seq above.0 id before above.2)

-- A lawful step keeps what is kept, if what stands anywhere after it is genuine.
pub kept_by_step : {liars : List ℕ} {said : List SaidLedger} {reports : List Report} {spoken : Option SaidLedger} {arisen : List Report} {Holds Holds' : ℕ → ℕ → Type 0} {Each Each' : (SaidLedger → Type 0) → Type 0} →
    KeptFacts liars said reports Holds Each → IsLawful liars said spoken arisen Holds Holds' → Each' (IsGenuine liars (with_said said spoken)) →
    KeptFacts liars (with_said said spoken) (reports ++ arisen) Holds' Each'
kept_by_step {liars} {said} {reports} {spoken} {arisen} {Holds' = Holds'} kept lawful genuine = record {
  saved = λ m s n id h holds.
      let before = lawful.rises m n holds in
      elim (said_now said spoken m s id h) [
        | inl old ↦ omega (arith, kept.saved m s before.0 id old before.2)
        | inr (x, now, same_m, same_s, _) ↦
            let saved : (n : ℕ) → Holds' x.member n → x.seq ≤ n = subst (λ o. IfSome o (λ y. (n : ℕ) → Holds' y.member n → y.seq ≤ n)) now lawful.saved in
            omega (arith, saved n (subst (λ k. Holds' k n) (sym same_m) holds))
      ];
  once = λ m s a b first second.
      elim (said_now said spoken m s a first) [
        | inl old_a ↦ elim (said_now said spoken m s b second) [
          | inl old_b ↦ kept.once m s a b old_a old_b
          | inr (y, now, same_m, same_s, _) ↦ absurd (above_all kept lawful y now a (rw (same_m, same_s) old_a))
        ]
        | inr (x, now, same_m, same_s, same_a) ↦ elim (said_now said spoken m s b second) [
          | inl old_b ↦ absurd (above_all kept lawful x now b (rw (same_m, same_s) old_b))
          | inr (y, also, _, _, same_b) ↦ sym same_a ∙ ap (λ (z : SaidLedger). z.id) (some_once x y (sym now ∙ also)) ∙ same_b
        ]
      ];
  genuine = genuine;
  backed = All-append (IsBacked liars (with_said said spoken)) _ _ (All-weaker (IsBacked liars said) (IsBacked liars (with_said said spoken)) (backed_still liars said spoken) _ kept.backed) lawful.backed;
}
