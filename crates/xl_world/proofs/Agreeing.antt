-- The test of the code says that reports agree.
use Rattle.std.proofs.Common.{◌≡◌, ℕ, Bool, true, false, List, refl, ap, sym, ◌∙◌, inl, inr, subst}
use Rattle.std.specs.Prelude.{◌==◌, ◌&&◌, ◌↔◌, All, IsTrue, not}
use Rattle.std.specs.List.{list_all}
use Rattle.std.proofs.lemmas.Bool.{or_cases, eqb-true, eq-eqb, cases_Bool, not-true, or_left, or_right}
use Rattle.std.proofs.lemmas.List.Elements.{All-weaker}
use Rattle.std.proofs.lemmas.List.Sums.{AllPass-from_list_all, list_all-from_AllPass}
use Rattle.xl_base.specs.Ids.{same_id}
use Rattle.xl_lists.specs.declared.report.Report.{Report}
use Rattle.xl_lists.proofs.Agreement.{same_id-true, same_id_itself}
use Rattle.xl_world.specs.Seen.{agrees_at, accords}
use Rattle.xl_world.specs.Headline.{AgreeAt}

-- two reports agree where one is not of its number, or they have one id if they have one sequence
abbrev TwoAgree : ℕ → ℕ → Report → Report → Type 0
TwoAgree i j r q = r.node ≡ i → q.node ≡ j → r.seq ≡ q.seq → r.id ≡ q.id

third : (a b c : Bool) → not (a && (b && not c)) ≡ true → a ≡ true → b ≡ true → c ≡ true
third true true true h p q = refl
third true true false h p q = cc
third true false c h p q = cc
third false b c h p q = cc

if_third : (a b c : Bool) → (a ≡ true → b ≡ true → c ≡ true) → not (a && (b && not c)) ≡ true
if_third true true true h = refl
if_third true true false h = let never = h refl refl in cc
if_third true false c h = refl
if_third false b c h = refl

-- at two reports, one of them of i
two_agree : (i j : ℕ) (r q : Report) → agrees_at j r q ≡ true → TwoAgree i j r q
two_agree i j r q h of_i of_j same = same_id-true r.id q.id (third (q.node == j) (r.seq == q.seq) (same_id r.id q.id) h (eq-eqb _ _ of_j) (eq-eqb _ _ same))

two_tested : (i j : ℕ) (r q : Report) → (r.node == i) ≡ true → TwoAgree i j r q → agrees_at j r q ≡ true
two_tested i j r q of_i agree =
    if_third (q.node == j) (r.seq == q.seq) (same_id r.id q.id)
    (λ of_j same. subst (λ id. same_id r.id id ≡ true) (agree (eqb-true _ _ of_i) (eqb-true _ _ of_j) (eqb-true _ _ same)) (same_id_itself r.id))

-- at one report
one_agrees : (i j : ℕ) (rs : List Report) (r : Report) → accords i j rs r ≡ true → All (TwoAgree i j r) rs
one_agrees i j rs r h =
    elim (or_cases (not (r.node == i)) _ h) [
      | inl other ↦ λ k d _ of_i. let never = not-true (r.node == i) other in let is = eq-eqb r.node i of_i in cc
      | inr each ↦ All-weaker (λ q. agrees_at j r q ≡ true) _ (λ q. two_agree i j r q) rs (AllPass-from_list_all _ rs each)
    ]

one_tested : (i j : ℕ) (rs : List Report) (r : Report) → All (TwoAgree i j r) rs → accords i j rs r ≡ true
one_tested i j rs r each =
    elim (cases_Bool (r.node == i)) [
      | inl is ↦ or_right _ _ (list_all-from_AllPass _ rs (All-weaker (λ q. TwoAgree i j r q) _ (λ q. two_tested i j r q is) rs each))
      | inr is_not ↦ or_left _ _ (ap not is_not)
    ]

pub tested : (i j : ℕ) (rs : List Report) → (list_all (accords i j rs) rs ≡ true) ↔ AgreeAt rs i j
tested i j rs = (
  (λ h. All-weaker (λ r. accords i j rs r ≡ true) _ (one_agrees i j rs) rs (AllPass-from_list_all _ rs h)),
  (λ each. list_all-from_AllPass _ rs (All-weaker (λ r. All (TwoAgree i j r) rs) _ (one_tested i j rs) rs each)),
)

-- so does the answer of the code
pub answer_tells : (i j : ℕ) (items now : List Report) (b : Bool) → b ≡ list_all (accords i j now) now → now ≡ items → IsTrue b ↔ AgreeAt items i j
answer_tells i j items now b is same =
    subst (λ rs. IsTrue b ↔ AgreeAt rs i j) same ((λ h. (tested i j now).0 (sym is ∙ h)), (λ each. is ∙ (tested i j now).1 each))
