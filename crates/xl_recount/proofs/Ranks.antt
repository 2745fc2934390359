-- The order of children, and which child leads.
use Rattle.std.proofs.Common.{◌≡◌, ◌≢◌, ◌⊎◌, ℕ, ◌+◌, ◌<◌, ◌==◌, Bool, true, false, not, cond, List, [], ◌∷◌, ◌++◌, length, Option, Some, None, sym, ap, subst, ◌∙◌, arith, inl, inr}
use Rattle.std.specs.Ordering.{is_gt}
use Rattle.std.proofs.lemmas.Bool.{eq-eqb}
use Rattle.std.proofs.lemmas.Bool.Decides.{nat_tests, eqb_tells}
use Rattle.std.proofs.lemmas.List.Sums.{sum_by_push}
use Rattle.xl_ledger.specs.declared.header.Header.{Header}
use Rattle.xl_ledger.specs.Chains.{AreLedgers}
use Rattle.xl_ledger.specs.Votes.{follows}
use Rattle.xl_ledger.proofs.Ranks.{gt_then, gt_or}
use Rattle.xl_recount.specs.Children.{votes_for, child_rank, IsOther, IsCounted, Leads}
use Rattle.xl_ledger.proofs.Finding.{false_if, some_is, follows_is}

pub other_if : (a b : ℕ) (n : Bool) → n ≡ not (a == b) → n ≡ true → a ≢ b
other_if a b n d other e = true_is_false (sym other ∙ d ∙ ap not (same (a == b) (grind (arith, nat_tests))))
  where
    same : (t : Bool) → t ≡ true → t ≡ true
    same t e = e

    true_is_false : true ≡ false → ⊥
    true_is_false e = cc

module _ (ls : List Header) (ok : AreLedgers ls) (all : List (Option ℕ)) where
  -- ---- one more vote

  push_count : (some : List (Option ℕ)) (o : Option ℕ) (c : ℕ) → votes_for (some ++ o ∷ []) c ≡ votes_for some c + cond (follows o c) 1 0
  push_count some o c = sum_by_push (λ (x : Option ℕ). cond (follows x c) 1 0) some o

  pub leads_none : (some : List (Option ℕ)) (out best : Option ℕ) → Leads ls all some out best → Leads ls all (some ++ None ∷ []) out best
  leads_none some out None leads = λ c counted. leads c (omega (arith, push_count some None c, counted.0), counted.1)
  leads_none some out (Some b) leads = ((omega (arith, push_count some None b, leads.0.0), leads.0.1), λ c counted. leads.1 c (omega (arith, push_count some None c, counted.0), counted.1))

  counted_before : (some : List (Option ℕ)) (out : Option ℕ) (d c : ℕ) → c ≢ d → IsCounted (some ++ Some d ∷ []) out c → IsCounted some out c
  counted_before some out d c other counted =
      let fails : follows (Some d) c ≡ false = false_if (follows (Some d) c) (λ t. other (sym (some_is d c (follows_is (Some d) c t)))) in
      let none : ◌≡◌ {A = ℕ} (cond (follows (Some d) c) 1 0) 0 = ap (λ (b : Bool). let n : ℕ = cond b 1 0 in n) fails in
      (omega (arith, push_count some (Some d) c, counted.0, none), counted.1)

  counted_still : (some : List (Option ℕ)) (out : Option ℕ) (o : Option ℕ) (c : ℕ) → IsCounted some out c → IsCounted (some ++ o ∷ []) out c
  counted_still some out o c counted = (omega (arith, push_count some o c, counted.0), counted.1)

  counted_new : (some : List (Option ℕ)) (out : Option ℕ) (d : ℕ) → IsOther out d → IsCounted (some ++ Some d ∷ []) out d
  counted_new some out d other =
      let one : ◌≡◌ {A = ℕ} (cond (d == d) 1 0) 1 = ap (λ (b : Bool). let n : ℕ = cond b 1 0 in n) (let t : (d == d) ≡ true = grind (arith, nat_tests) in t) in
      (omega (arith, push_count some (Some d) d, one), other)

  same_or : (c d : ℕ) → (c ≡ d) ⊎ (c ≢ d)
  same_or c d = elim (eqb_tells c d) [ inl h ↦ inl h.1 | inr h ↦ inr h.1 ]

  -- the child is the one that is left out
  pub leads_out : (some : List (Option ℕ)) (d : ℕ) (best : Option ℕ) → Leads ls all some (Some d) best → Leads ls all (some ++ Some d ∷ []) (Some d) best
  leads_out some d None leads = λ c counted. leads c (counted_before some (Some d) d c counted.1 counted)
  leads_out some d (Some b) leads = (counted_still some (Some d) (Some d) b leads.0, λ c counted. leads.1 c (counted_before some (Some d) d c counted.1 counted))

  -- it is the first
  pub leads_first : (some : List (Option ℕ)) (out : Option ℕ) (d : ℕ) → IsOther out d → Leads ls all some out None → Leads ls all (some ++ Some d ∷ []) out (Some d)
  leads_first some out d other leads = (
    counted_new some out d other,
    λ c counted. elim (same_or c d) [
      | inl same ↦ inl same
      | inr differs ↦ absurd (leads c (counted_before some out d c differs counted))
    ],
  )

  -- it ranks above the best
  pub leads_new : (some : List (Option ℕ)) (out : Option ℕ) (d b : ℕ) → IsOther out d → is_gt (child_rank ls all d b) ≡ true → Leads ls all some out (Some b) → Leads ls all (some ++ Some d ∷ []) out (Some d)
  leads_new some out d b other gt leads = (
    counted_new some out d other,
    λ c counted. elim (same_or c d) [
      | inl same ↦ inl same
      | inr differs ↦ elim (leads.1 c (counted_before some out d c differs counted)) [
        | inl is ↦ inr (subst (λ (x : ℕ). is_gt (child_rank ls all d x) ≡ true) (sym is) gt)
        | inr more ↦ inr (gt_then ls ok (votes_for all) d b c gt more)
      ]
    ],
  )

  -- it doesn't
  pub leads_old : (some : List (Option ℕ)) (out : Option ℕ) (d b : ℕ) → d < length ls → b < length ls → is_gt (child_rank ls all d b) ≡ false → Leads ls all some out (Some b) → Leads ls all (some ++ Some d ∷ []) out (Some b)
  leads_old some out d b ld lb le leads = (
    counted_still some out (Some d) b leads.0,
    λ c counted. elim (same_or c d) [
      | inl same ↦ elim (same_or c b) [
        | inl is ↦ inl is
        | inr differs ↦ inr (subst (λ (x : ℕ). is_gt (child_rank ls all b x) ≡ true) (sym same) (gt_or ls ok (votes_for all) d b ld lb (λ e. differs (same ∙ e)) le))
      ]
      | inr differs ↦ leads.1 c (counted_before some out d c differs counted)
    ],
  )

pub other_by : (out : Option ℕ) (d : ℕ) → follows out d ≡ false → IsOther out d
other_by None d e = tt
other_by (Some b) d e = λ same. let t : (b == d) ≡ true = eq-eqb b d (sym same) in let f : true ≡ false = sym t ∙ e in cc

module _ (ls : List Header) (ok : AreLedgers ls) (all : List (Option ℕ)) where
  -- the best after one more vote, in each case
  pub better_out : (some : List (Option ℕ)) (out best child : Option ℕ) (d : ℕ) → child ≡ Some d → follows out d ≡ true → Leads ls all some out best → Leads ls all (some ++ child ∷ []) out best
  better_out some out best child d is t leads =
      let same : Some d ≡ out = sym (follows_is out d t) in
      subst (λ (o : Option ℕ). Leads ls all (some ++ o ∷ []) out best) (sym is)
      (subst (λ (o : Option ℕ). Leads ls all (some ++ Some d ∷ []) o best) same (leads_out ls ok all some d best (subst (λ (o : Option ℕ). Leads ls all some o best) (sym same) leads)))

  pub better_new : (some : List (Option ℕ)) (out best child : Option ℕ) (d b : ℕ) → child ≡ Some d → best ≡ Some b → follows out d ≡ false → is_gt (child_rank ls all d b) ≡ true → Leads ls all some out best → Leads ls all (some ++ child ∷ []) out (Some d)
  better_new some out best child d b is has f gt leads =
      subst (λ (o : Option ℕ). Leads ls all (some ++ o ∷ []) out (Some d)) (sym is) (leads_new ls ok all some out d b (other_by out d f) gt (subst (λ (o : Option ℕ). Leads ls all some out o) has leads))

  pub better_old : (some : List (Option ℕ)) (out best child : Option ℕ) (d b : ℕ) → child ≡ Some d → best ≡ Some b → d < length ls → b < length ls → is_gt (child_rank ls all d b) ≡ false → Leads ls all some out best → Leads ls all (some ++ child ∷ []) out (Some b)
  better_old some out best child d b is has ld lb le leads =
      subst (λ (o : Option ℕ). Leads ls all (some ++ o ∷ []) out (Some b)) (sym is) (leads_old ls ok all some out d b ld lb le (subst (λ (o : Option ℕ). Leads ls all some out o) has leads))

  pub better_none : (some : List (Option ℕ)) (out best child : Option ℕ) → child ≡ None → Leads ls all some out best → Leads ls all (some ++ child ∷ []) out best
  better_none some out best child is leads = subst (λ (o : Option ℕ). Leads ls all (some ++ o ∷ []) out best) (sym is) (leads_none ls ok all some out best leads)
