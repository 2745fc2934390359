-- The members in force rise, so they are a list.
use Rattle.std.proofs.Common.{◌≡◌, ℕ, zero, suc, ◌+◌, ◌*◌, ◌/◌, ◌<◌, ◌≤◌, ◌==◌, Bool, true, false, cond, List, [], ◌∷◌, ◌++◌, length, Option, Some, None, Ok, refl, sym, ap, ap₂, subst, ◌∙◌, inl, inr, arith}
use Rattle.std.specs.Prelude.{filter, find, nat_lt, ◌||◌, not, option_map}
use Rattle.std.specs.List.{range_with_len}
use Rattle.std.proofs.lemmas.Bool.{cases_Bool, cases_eq, cond-true, cond-false}
use Rattle.std.proofs.lemmas.Bool.Decides.{nat_tests}
use Rattle.std.proofs.lemmas.List.Folds.{list_any-append}
use Rattle.xl_base.specs.Refusals.{refused_if, first_of, unless_refused}
use Rattle.xl_lists.specs.declared.refusal.ListRefusal.{ListRefusal}
use Rattle.xl_lists.specs.declared.refusal.ListRefusal.TheVariants.{Empty, TooMany, OutOfRange, Repeated, Quorum}
use Rattle.xl_lists.specs.Lists.{TrustedList, is_on, is_outside, repeated_after, is_quorum, all_numbers, rising, list_of}
use Rattle.xl_publish.specs.Forces.{usual_list}
use Rattle.xl_publish.specs.Rolls.{RisesFrom}
use Rattle.xl_base.specs.Members.{greatest_node_no}

-- ---- they rise

rises_more : (before m : ℕ) (ms : List ℕ) → before ≤ m → RisesFrom m ms → RisesFrom before ms
rises_more before m [] le h = tt
rises_more before m (k ∷ ms) le h = (omega (arith, h.0), h.1, h.2)

rises_filter : (p : ℕ → Bool) (before a n : ℕ) → before < a → a + n ≤ (greatest_node_no + 1) → RisesFrom before (filter p (range_with_len a n))
rises_filter p before a zero lt le = tt
rises_filter p before a (suc n) lt le =
    let rest : RisesFrom a (filter p (range_with_len (a + 1) n)) = rises_filter p a (a + 1) n (omega arith) (omega arith) in
    elim (cases_Bool (p a)) [
      | inl kept ↦ subst (RisesFrom before) (sym (cond-true (p a) (a ∷ filter p (range_with_len (a + 1) n)) (filter p (range_with_len (a + 1) n)) kept)) (lt, omega arith, rest)
      | inr lost ↦ subst (RisesFrom before) (sym (cond-false (p a) (a ∷ filter p (range_with_len (a + 1) n)) (filter p (range_with_len (a + 1) n)) lost))
          (rises_more before a (filter p (range_with_len (a + 1) n)) (omega arith) rest)
    ]

pub rises_passed : (p : ℕ → Bool) → RisesFrom 0 (filter p all_numbers)
unfolding all_numbers
rises_passed p = rises_filter p 0 1 64 (omega arith) (omega arith)

-- ---- rising members are a list

few_from : (before : ℕ) (ms : List ℕ) → before ≤ 64 → RisesFrom before ms → before + length ms ≤ 64
few_from before [] le h = omega arith
few_from before (m ∷ ms) le h = omega (arith, h.0, few_from m ms h.1 h.2)

pub few : (ms : List ℕ) → RisesFrom 0 ms → length ms ≤ 64
few ms h = omega (arith, few_from 0 ms (omega arith) h)

inside : (before m : ℕ) → before < m → m ≤ 64 → is_outside m ≡ false
inside before m lt le = grind (arith, nat_tests)

none_outside : (before : ℕ) (ms : List ℕ) → RisesFrom before ms → find is_outside ms ≡ None
none_outside before [] h = refl
none_outside before (m ∷ ms) h =
    cond-false (is_outside m) (Some m) (find is_outside ms) (inside before m h.0 h.1) ∙ none_outside m ms h.2

neither_on : (seen last : Bool) → seen ≡ false → last ≡ false → (seen || (last || false)) ≡ false
neither_on true last h k = absurd cc
neither_on false true h k = absurd cc
neither_on false false h k = refl

differs : (a b : ℕ) → b < a → (a == b) ≡ false
differs a b lt = grind (arith, nat_tests)

none_repeated : (before : ℕ) (seen ms : List ℕ) → ((m : ℕ) → before < m → is_on seen m ≡ false) → RisesFrom before ms → repeated_after seen ms ≡ None
none_repeated before seen [] new h = refl
none_repeated before seen (m ∷ ms) new h =
    cond-false (is_on seen m) (Some m) (repeated_after (seen ++ m ∷ []) ms) (new m h.0)
    ∙ none_repeated m (seen ++ m ∷ []) ms
    (λ k lt. list_any-append (λ (j : ℕ). k == j) seen (m ∷ []) ∙ neither_on (is_on seen k) (k == m) (new k (omega (arith, h.0, lt))) (differs k m lt))
    h.2

-- ---- rising members by rising number are the same list

alike_above : (m : ℕ) (ms : List ℕ) (a n : ℕ) → m < a →
    filter (is_on (m ∷ ms)) (range_with_len a n) ≡ filter (is_on ms) (range_with_len a n)
alike_above m ms a zero lt = refl
alike_above m ms a (suc n) lt =
    rw (differs a m lt) (ap (λ (xs : List ℕ). cond (is_on ms a) (a ∷ xs) xs) (alike_above m ms (a + 1) n (omega arith)))

apart : (a b : ℕ) → a < b → (a == b) ≡ false
apart a b lt = grind (arith, nat_tests)

below : (k before : ℕ) (ms : List ℕ) → k ≤ before → RisesFrom before ms → is_on ms k ≡ false
below k before [] le h = refl
below k before (m ∷ ms) le h = rw (apart k m (omega (arith, h.0))) (below k m ms (omega (arith, h.0)) h.2)

first_on : (m : ℕ) (ms : List ℕ) (k : ℕ) → k ≡ m → is_on (m ∷ ms) k ≡ true
first_on m ms k is = let same : (k == m) ≡ true = grind (arith, nat_tests) in rw same refl

risen : (n before : ℕ) (ms : List ℕ) → before + n ≡ 64 → RisesFrom before ms →
    filter (is_on ms) (range_with_len (before + 1) n) ≡ ms
risen zero before [] last h = refl
risen zero before (m ∷ ms) last h = absurd (omega (arith, last, h.0, h.1))
risen (suc n) before [] last h = risen n (before + 1) [] (omega arith) tt
risen (suc n) before (m ∷ ms) last h =
    let rest = filter (is_on (m ∷ ms)) (range_with_len (before + 1 + 1) n) in
    elim (cases_eq (before + 1) m) [
      | inl is ↦ cond-true (is_on (m ∷ ms) (before + 1)) ((before + 1) ∷ rest) rest (first_on m ms (before + 1) is)
          ∙ ap₂ (λ (x : ℕ) (xs : List ℕ). x ∷ xs) is
          (alike_above m ms (before + 1 + 1) n (omega (arith, is))
          ∙ risen n (before + 1) ms (omega arith) (subst (λ (k : ℕ). RisesFrom k ms) (sym is) h.2))
      | inr isnt ↦
          let later : RisesFrom (before + 1) (m ∷ ms) = (omega (arith, isnt, h.0), h.1, h.2) in
          cond-false (is_on (m ∷ ms) (before + 1)) ((before + 1) ∷ rest) rest (below (before + 1) (before + 1) (m ∷ ms) (omega arith) later)
          ∙ risen n (before + 1) (m ∷ ms) (omega arith) later
    ]

stays : (ms : List ℕ) → RisesFrom 0 ms → rising ms ≡ ms
unfolding all_numbers
stays ms h = risen 64 0 ms refl h

usual_quorum : (quorum n : ℕ) → 1 ≤ n → quorum ≤ n → n < 2 * quorum → not (is_quorum quorum n) ≡ false
usual_quorum quorum n some within majority = grind (arith, nat_tests)

not_empty : (n : ℕ) → 1 ≤ n → (n == 0) ≡ false
not_empty n some = grind (arith, nat_tests)

not_many : (n : ℕ) → n ≤ 64 → nat_lt 64 n ≡ false
not_many n few = grind (arith, nat_tests)

no_cause : (empty many : Bool) (outside repeated : Option ℕ) (quorum : Bool) (n : ℕ) (cause : ListRefusal) → empty ≡ false → many ≡ false → outside ≡ None → repeated ≡ None → quorum ≡ false →
    first_of (refused_if empty Empty ∷ refused_if many (TooMany n) ∷ option_map OutOfRange outside ∷ option_map Repeated repeated ∷ refused_if quorum cause ∷ []) ≡ None
no_cause empty many outside repeated quorum n cause e m o r q = rw (e, m, o, r, q) refl

pub is_list : (ms : List ℕ) (quorum : ℕ) → RisesFrom 0 ms → 1 ≤ length ms → quorum ≡ (4 * length ms + 4) / 5 → quorum ≤ length ms → length ms < 2 * quorum →
    list_of ms quorum ≡ Ok (usual_list ms)
is_list ms quorum h some is within majority =
    ap (λ (r : Option ListRefusal). unless_refused r (trusted (rising ms) quorum))
    (no_cause (length ms == 0) (nat_lt 64 (length ms)) (find is_outside ms) (repeated_after [] ms) (not (is_quorum quorum (length ms))) (length ms) (Quorum quorum (length ms))
    (not_empty (length ms) some) (not_many (length ms) (few ms h)) (none_outside 0 ms h) (none_repeated 0 [] ms (λ m lt. refl) h) (usual_quorum quorum (length ms) some within majority))
    ∙ ap₂ (λ (members : List ℕ) (q : ℕ). Ok (trusted members q)) (stays ms h) is
  where
    trusted : List ℕ → ℕ → TrustedList
    trusted members q = record { members = members; quorum = q }
