-- How a list of free slots stays one.
use Rattle.std.proofs.Common.{◌≡◌, ◌≢◌, ℕ, zero, suc, ◌+◌, ◌<◌, List, length, get_or, set, Option, Some, None, refl, sym, ap, subst, ◌∙◌, arith, length-set}
use Rattle.std.proofs.lemmas.List.{get_or-set_same, get_or-set_other, get_or_past}
use Rattle.xl_pool.specs.Entries.{IsFreeList}

-- a slot that leads to another one is there
pub linked_within : (links : List (Option ℕ)) (slot next : ℕ) → get_or links slot None ≡ Some next → slot < length links
linked_within links slot next found = grind (arith, get_or_past)

-- a slot begins one list of free slots at most
pub same_count : (links : List (Option ℕ)) (m n slot : ℕ) → IsFreeList links m slot → IsFreeList links n slot → m ≡ n
same_count links zero zero slot p q = refl
same_count links zero (suc n) slot p q = absurd (omega (arith, linked_within links slot _ q.1))
same_count links (suc m) zero slot p q = absurd (omega (arith, linked_within links slot _ p.1))
same_count links (suc m) (suc n) slot p q =
    let first = p.1 in
    let second = q.1 in
    let same : q.0 ≡ p.0 = cc in
    ap suc (same_count links m n p.0 p.2 (subst (IsFreeList links n) same q.2))

-- a write at a slot that begins no shorter list keeps the list
pub kept_by_write : (links : List (Option ℕ)) (slot : ℕ) (link : Option ℕ) (n first : ℕ) → ((m : ℕ) → m < n → IsFreeList links (suc m) slot → ⊥) → IsFreeList links n first → IsFreeList (set links slot link) n first
kept_by_write links slot link zero first off p = p ∙ sym (length-set links slot link)
kept_by_write links slot link (suc n) first off p =
    let other : first ≢ slot = λ same. off n (omega arith) (subst (IsFreeList links (suc n)) same p) in
    let kept : get_or (set links slot link) first None ≡ Some p.0 = get_or-set_other links slot first link None other ∙ p.1 in
    (p.0, kept, kept_by_write links slot link n p.0 (λ m below. off m (omega arith)) p.2)

-- the first free slot leaves the list
pub without_first : (links : List (Option ℕ)) (n first next : ℕ) → get_or links first None ≡ Some next → IsFreeList links (suc n) first → IsFreeList (set links first None) n next
without_first links n first next found p =
    let listed = p.1 in
    let same : p.0 ≡ next = cc in
    let off : (m : ℕ) → m < n → IsFreeList links (suc m) first → ⊥ = λ m below q. omega (arith, same_count links (suc m) (suc n) first q p) in
    kept_by_write links first None n next off (subst (IsFreeList links n) same p.2)

-- a slot that isn't free becomes the first of the list
pub with_first : (links : List (Option ℕ)) (n first slot : ℕ) → slot < length links → get_or links slot None ≡ None → IsFreeList links n first → IsFreeList (set links slot (Some first)) (suc n) slot
with_first links n first slot within held p =
    let off : (m : ℕ) → m < n → IsFreeList links (suc m) slot → ⊥ = λ m below q. let listed = q.1 in cc in
    (first, get_or-set_same links slot (Some first) None within, kept_by_write links slot (Some first) n first off p)

-- links that each lead to the slot after are a list from each slot on
pub in_order : (links : List (Option ℕ)) (n slot : ℕ) → ((i : ℕ) → i < length links → get_or links i None ≡ Some (i + 1)) → slot + n ≡ length links → IsFreeList links n slot
in_order links zero slot each rest = omega arith
in_order links (suc n) slot each rest = (slot + 1, each slot (omega arith), in_order links n (slot + 1) each (omega arith))
