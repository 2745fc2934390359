-- In whatever order and however often rolls come, the greatest of each publisher is kept.
use Rattle.std.proofs.Common.{◌≡◌, ◌≢◌, ℕ, ◌+◌, ◌==◌, Bool, true, false, cond, List, [], ◌∷◌, ◌++◌, length, get_or, Option, Some, None, refl, sym, ap, subst, ◌∙◌, inl, inr, arith}
use Rattle.std.specs.Prelude.{is_none}
use Rattle.std.proofs.lemmas.Bool.{cases_Bool, cond-true, cond-false, eqb-true}
use Rattle.std.proofs.lemmas.Bool.Decides.{nat_tests}
use Rattle.std.proofs.lemmas.List.{ext_get_or}
use Rattle.xl_base.specs.Refusals.{first_of}
use Rattle.xl_publish.specs.declared.refusal.RollRefusal.{RollRefusal}
use Rattle.xl_lists.specs.Lists.{TrustedList}
use Rattle.xl_publish.specs.Fields.{publisher_in}
use Rattle.xl_publish.specs.Forces.{list_at}
use Rattle.xl_publish.specs.Orders.{greater, greatest_from}
use Rattle.xl_publish.specs.Refusing.{of_publisher, tag_refusal, said_refusal, shape_refusal, refusal_of, IsPublisher}
use Rattle.xl_publish.specs.Registers.{Register, IsRegister, no_publishers, kept_of, took_of, after_took, after_key, after_roll}
use Rattle.xl_publish.specs.Runs.{Act, Key, Rolled, after_act, after_from, after, taken_from, taken_in, rolls_of, AreSame, KeepsTheGreatest, IsInAnyOrder, KeepsGreatest, KeepsAlike, ListsAlike}
use Rattle.xl_publish.proofs.Among.{among_filtered, among_all, among_passes}
use Rattle.xl_publish.proofs.OrderLaws.{same_greatest}
use Rattle.xl_publish.proofs.RegisterLaws.{Places, at_place, has_place, took_same, took_other, none_yet, register_first, register_key, kept_key, register_took}

-- a roll that is taken comes from a publisher with a key
keyed : (shape : Option RollRefusal) (key : Option (List ℕ)) (bytes : List ℕ) → is_none (first_of (shape ∷ tag_refusal key bytes ∷ said_refusal bytes ∷ [])) ≡ true →
    (k : List ℕ) × (key ≡ Some k)
keyed (Some refusal) key bytes h = absurd cc
keyed None None bytes h = absurd cc
keyed None (Some k) bytes h = (k, refl)

pub known_taken : (keys : Places) (bytes : List ℕ) → length keys ≡ 16 → is_none (refusal_of keys bytes) ≡ true → IsPublisher (publisher_in bytes)
known_taken keys bytes long h =
    let key = keyed (shape_refusal bytes) (of_publisher keys (publisher_in bytes)) bytes h in
    has_place keys (publisher_in bytes) key.0 long key.1

-- the roll goes to its publisher alone
one_roll : (register : Register) (bytes : List ℕ) (p : ℕ) (rest : List (List ℕ)) → IsRegister register → IsPublisher (publisher_in bytes) →
    greatest_from (kept_of (after_took register (took_of (kept_of register (publisher_in bytes)) bytes) bytes) p) rest
    ≡ greatest_from (kept_of register p) (cond (publisher_in bytes == p) (bytes ∷ rest) rest)
one_roll register bytes p rest ok known =
    elim (cases_Bool (publisher_in bytes == p)) [
      | inl same ↦
          let is : publisher_in bytes ≡ p = eqb-true (publisher_in bytes) p same in
          let here : kept_of (after_took register (took_of (kept_of register (publisher_in bytes)) bytes) bytes) p ≡ Some (greater (kept_of register p) bytes) =
          ap (kept_of (after_took register (took_of (kept_of register (publisher_in bytes)) bytes) bytes)) (sym is)
          ∙ took_same register (kept_of register (publisher_in bytes)) bytes ok known refl
          ∙ ap (λ (k : ℕ). Some (greater (kept_of register k) bytes)) is in
          ap (λ (k : Option (List ℕ)). greatest_from k rest) here
          ∙ sym (ap (greatest_from (kept_of register p)) (cond-true (publisher_in bytes == p) (bytes ∷ rest) rest same))
      | inr another ↦
          let other : p ≢ publisher_in bytes = λ e. absurd (differ p (publisher_in bytes) e another) in
          ap (λ (k : Option (List ℕ)). greatest_from k rest) (took_other register (took_of (kept_of register (publisher_in bytes)) bytes) bytes p known.0 other)
          ∙ sym (ap (greatest_from (kept_of register p)) (cond-false (publisher_in bytes == p) (bytes ∷ rest) rest another))
    ]
  where
    differ : (a b : ℕ) → a ≡ b → (b == a) ≡ false → ⊥
    differ a b e h = grind (arith, nat_tests)

kept_after : (register : Register) (acts : List Act) (p : ℕ) → IsRegister register →
    kept_of (after_from register acts) p ≡ greatest_from (kept_of register p) (rolls_of p (taken_from register acts))
kept_after register [] p ok = refl
kept_after register (Key publisher key ∷ acts) p ok =
    kept_after (after_key register publisher key) acts p (register_key register publisher key ok)
    ∙ ap (λ (k : Places). greatest_from (of_publisher k p) (rolls_of p (taken_from (after_key register publisher key) acts))) (kept_key register publisher key)
kept_after register (Rolled bytes ∷ acts) p ok =
    let next = after_took register (took_of (kept_of register (publisher_in bytes)) bytes) bytes in
    let P : Bool → Type 0 = λ t. kept_of (after_from (cond t next register) acts) p
    ≡ greatest_from (kept_of register p) (rolls_of p (cond t (bytes ∷ []) [] ++ taken_from (cond t next register) acts)) in
    elim (cases_Bool (is_none (refusal_of register.keys bytes))) [
      | inl taken ↦
          let known = known_taken register.keys bytes ok.keys taken in
          subst P (sym taken)
          (kept_after next acts p (register_took register (kept_of register (publisher_in bytes)) bytes ok)
          ∙ one_roll register bytes p (rolls_of p (taken_from next acts)) ok known)
      | inr refused ↦ subst P (sym refused) (kept_after register acts p ok)
    ]

register_after : (register : Register) (acts : List Act) → IsRegister register → IsRegister (after_from register acts)
register_after register [] ok = ok
register_after register (Key publisher key ∷ acts) ok = register_after (after_key register publisher key) acts (register_key register publisher key ok)
register_after register (Rolled bytes ∷ acts) ok =
    register_after (after_roll register bytes) acts
    (elim (cases_Bool (is_none (refusal_of register.keys bytes))) [
      | inl taken ↦ subst R (sym taken) (register_took register (kept_of register (publisher_in bytes)) bytes ok)
      | inr refused ↦ subst R (sym refused) ok
    ])
  where
    R : Bool → Type 0
    R t = IsRegister (cond t (after_took register (took_of (kept_of register (publisher_in bytes)) bytes) bytes) register)

pub keeps_greatest : KeepsGreatest
keeps_greatest acts p =
    kept_after no_publishers acts p register_first ∙ ap (λ (k : Option (List ℕ)). greatest_from k (rolls_of p (taken_in acts))) (none_yet p)

same_of : (p : ℕ) (a b : List (List ℕ)) → AreSame a b → AreSame (rolls_of p a) (rolls_of p b)
same_of p a b same roll = (
  λ h. among_filtered (λ (r : List ℕ). publisher_in r == p) b roll ((same roll).0 (among_all (λ (r : List ℕ). publisher_in r == p) a roll h)) (among_passes (λ (r : List ℕ). publisher_in r == p) a roll h),
  λ h. among_filtered (λ (r : List ℕ). publisher_in r == p) a roll ((same roll).1 (among_all (λ (r : List ℕ). publisher_in r == p) b roll h)) (among_passes (λ (r : List ℕ). publisher_in r == p) b roll h),
)

kept_alike : (a b : List Act) (p : ℕ) → AreSame (taken_in a) (taken_in b) → kept_of (after a) p ≡ kept_of (after b) p
kept_alike a b p same =
    keeps_greatest a p ∙ same_greatest (rolls_of p (taken_in a)) (rolls_of p (taken_in b)) (same_of p (taken_in a) (taken_in b) same) ∙ sym (keeps_greatest b p)

-- the place of a publisher
place_is : (places : Places) (i : ℕ) → get_or places i None ≡ of_publisher places (i + 1)
place_is places i = ap (λ (k : ℕ). get_or places k None) (omega arith) ∙ sym (at_place places (i + 1) (omega arith))

pub keeps_alike : KeepsAlike
keeps_alike a b same =
    let first = register_after no_publishers a register_first in
    let second = register_after no_publishers b register_first in
    ext_get_or None (after a).kept (after b).kept (first.kept ∙ sym second.kept)
    (λ i h. place_is (after a).kept i ∙ kept_alike a b (i + 1) same ∙ sym (place_is (after b).kept i))

pub lists_alike : ListsAlike
lists_alike a b now threshold same = ap (λ (kept : Places). list_at kept now threshold) (keeps_alike a b same)

-- ---- from a run on

after_more : (register : Register) (acts : List Act) (act : Act) → after_from register (acts ++ act ∷ []) ≡ after_act (after_from register acts) act
after_more register [] act = refl
after_more register (first ∷ acts) act = after_more (after_act register first) acts act

pub greatest_then : (old new : Register) (bytes : List ℕ) → new ≡ after_roll old bytes → KeepsTheGreatest old bytes new
greatest_then old new bytes is acts p led =
    let run : new ≡ after (acts ++ Rolled bytes ∷ []) = is ∙ ap (λ (r : Register). after_roll r bytes) led ∙ sym (after_more no_publishers acts (Rolled bytes)) in
    ap (λ (r : Register). kept_of r p) run ∙ keeps_greatest (acts ++ Rolled bytes ∷ []) p

pub alike_from : (register : Register) (now threshold : ℕ) (list : Option TrustedList) → list ≡ list_at register.kept now threshold → IsInAnyOrder register now threshold list
alike_from register now threshold list is acts others led same =
    is ∙ ap (λ (r : Register). list_at r.kept now threshold) led ∙ lists_alike acts others now threshold same
