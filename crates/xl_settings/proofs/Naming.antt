-- Whom a list that publishers make has, a kept roll names.
use Rattle.std.proofs.Common.{◌≡◌, ◌∙◌, ◌⊎◌, ◌≤◌, ◌+◌, ℕ, Bool, true, false, List, [], ◌∷◌, Option, Some, None, IfSome, refl, sym, ap, subst, cond, length, filter, map, not, ◌==◌, ◌&&◌, ◌||◌, nat_eq, nat_le, arith, inl, inr}
use Rattle.std.specs.List.{count_by, list_all}
use Rattle.std.proofs.lemmas.Bool.{and_from, and_parts, cases_Bool, cond-true, cond-false, or_left, or_right, true≢false}
use Rattle.std.proofs.lemmas.Bool.Decides.{nat_tests}
use Rattle.std.proofs.lemmas.Option.{same_Some}
use Rattle.xl_lists.specs.Lists.{TrustedList, all_numbers, is_on}
use Rattle.xl_lists.proofs.Counting.{count_by-cons}
use Rattle.xl_publish.specs.Fields.{members_in}
use Rattle.xl_publish.specs.Forces.{is_in_force, is_named, is_supported, list_at, list_of, members_at, names_in, stands_for, usual_list}
use Rattle.xl_settings.specs.Different.{are_different}
use Rattle.xl_settings.specs.Peers.{PeerSetting, are_peers, is_peer}

-- ---- who is supported is named

stands_named : (now m : ℕ) (kept : Option (List ℕ)) → stands_for now m kept ≡ true → names_in m kept ≡ true
stands_named now m None e = cc
stands_named now m (Some roll) e = (and_parts (is_in_force now roll) (is_on (members_in roll) m) e).1

rest : (b : Bool) (n : ℕ) → b ≡ false → 1 ≤ cond b 1 0 + n → 1 ≤ n
rest true n is some = absurd (true≢false is)
rest false n is some = omega (arith, some)

supported_named : (kept : List (Option (List ℕ))) (now m : ℕ) → 1 ≤ count_by (stands_for now m) kept
    → is_named kept m ≡ true
supported_named [] now m some = absurd (omega (arith, some))
supported_named (roll ∷ kept) now m some =
    let more = count_by-cons (stands_for now m) roll kept in
    elim (cases_Bool (stands_for now m roll)) [
      | inl stands ↦ or_left (names_in m roll) (is_named kept m) (stands_named now m roll stands)
      | inr lacks ↦ or_right (names_in m roll) (is_named kept m)
          (supported_named kept now m (rest (stands_for now m roll) (count_by (stands_for now m) kept) lacks
          (omega (arith, some, more))))
    ]

least_count : (least n : ℕ) → 1 ≤ least → nat_le least n ≡ true → 1 ≤ n
least_count least n low is = grind (arith, nat_tests, low, is)

named_by_support : (kept : List (Option (List ℕ))) (now threshold m : ℕ) → 1 ≤ threshold
    → is_supported kept now threshold m ≡ true → is_named kept m ≡ true
named_by_support kept now threshold m low is =
    supported_named kept now m (least_count threshold (count_by (stands_for now m) kept) low is)

-- ---- what holds of more holds of fewer

-- what holds of more, or of itself, holds of fewer
all_joined : (q more fewer : ℕ → Bool) → ((m : ℕ) → fewer m ≡ true → (more m ≡ true) ⊎ (q m ≡ true)) → (xs : List ℕ)
    → list_all q (filter more xs) ≡ true → list_all q (filter fewer xs) ≡ true
all_joined q more fewer within [] all = refl
all_joined q more fewer within (x ∷ xs) all =
    elim (cases_Bool (fewer x)) [
      | inl few ↦
          ap (list_all q) (cond-true (fewer x) (x ∷ filter fewer xs) (filter fewer xs) few)
          ∙ and_from (q x) (list_all q (filter fewer xs)) (this (within x few))
          (all_joined q more fewer within xs (tail (more x) all))
      | inr none ↦
          ap (list_all q) (cond-false (fewer x) (x ∷ filter fewer xs) (filter fewer xs) none)
          ∙ all_joined q more fewer within xs (tail (more x) all)
    ]
  where
    tail : (b : Bool) → list_all q (cond b (x ∷ filter more xs) (filter more xs)) ≡ true
        → list_all q (filter more xs) ≡ true
    tail true h = (and_parts (q x) (list_all q (filter more xs)) h).1
    tail false h = h

    this : (more x ≡ true) ⊎ (q x ≡ true) → q x ≡ true
    this (inl many) =
        (and_parts (q x) (list_all q (filter more xs))
        (sym (ap (list_all q) (cond-true (more x) (x ∷ filter more xs) (filter more xs) many)) ∙ all)).0
    this (inr so) = so

all_of_fewer : (q more fewer : ℕ → Bool) → ((m : ℕ) → fewer m ≡ true → more m ≡ true) → (xs : List ℕ)
    → list_all q (filter more xs) ≡ true → list_all q (filter fewer xs) ≡ true
all_of_fewer q more fewer within = all_joined q more fewer (λ m few. inl (within m few))

-- peers that meet all members of these meet those of fewer
peers_of_fewer : (me : ℕ) (peers : List PeerSetting) (more fewer : List ℕ)
    → (list_all (λ m. m == me || is_peer peers m) more ≡ true
    → list_all (λ m. m == me || is_peer peers m) fewer ≡ true)
    → are_peers me more peers ≡ true → are_peers me fewer peers ≡ true
peers_of_fewer me peers more fewer still met =
    let a = not (is_peer peers me) in
    let b = are_different nat_eq (map (λ peer. peer.number) peers) in
    let outer = and_parts a (b && list_all (λ m. m == me || is_peer peers m) more) met in
    let inner = and_parts b (list_all (λ m. m == me || is_peer peers m) more) outer.1 in
    and_from a (b && list_all (λ m. m == me || is_peer peers m) fewer) outer.0
    (and_from b (list_all (λ m. m == me || is_peer peers m) fewer) inner.0 (still inner.1))

-- members that were named before, or are peers or me, are met as those before were
pub met_later : (me : ℕ) (peers : List PeerSetting) (first kept : List (Option (List ℕ)))
    → ((m : ℕ) → is_named kept m ≡ true
    → (is_named first m ≡ true) ⊎ ((m == me || is_peer peers m) ≡ true))
    → are_peers me (filter (is_named first) all_numbers) peers ≡ true
    → are_peers me (filter (is_named kept) all_numbers) peers ≡ true
met_later me peers first kept within met =
    peers_of_fewer me peers (filter (is_named first) all_numbers) (filter (is_named kept) all_numbers)
    (all_joined (λ m. m == me || is_peer peers m) (is_named first) (is_named kept) within all_numbers) met

-- ---- the list in force

pub supported_met : (me : ℕ) (peers : List PeerSetting) (kept : List (Option (List ℕ))) (second threshold : ℕ)
    → 1 ≤ threshold → are_peers me (filter (is_named kept) all_numbers) peers ≡ true
    → are_peers me (members_at kept second threshold) peers ≡ true
supported_met me peers kept second threshold low met =
    peers_of_fewer me peers (filter (is_named kept) all_numbers) (members_at kept second threshold)
    (all_of_fewer (λ m. m == me || is_peer peers m) (is_named kept) (is_supported kept second threshold)
    (λ m is. named_by_support kept second threshold m low is) all_numbers) met

made_of : (P : List ℕ → Type 0) (members : List ℕ) (list : TrustedList) → P members → list_of members ≡ Some list
    → P list.members
made_of P members list h e = go (length members == 0) e
  where
    go : (b : Bool) → cond b None (Some (usual_list members)) ≡ Some list → P list.members
    go true e = cc
    go false e = subst (λ (l : TrustedList). P l.members) (same_Some (usual_list members) list e) h

-- whoever is on the list in force is a peer, or me
pub force_met : (me : ℕ) (peers : List PeerSetting) (kept : List (Option (List ℕ))) (second threshold : ℕ)
    (list : TrustedList) → 1 ≤ threshold → are_peers me (filter (is_named kept) all_numbers) peers ≡ true
    → list_at kept second threshold ≡ Some list → are_peers me list.members peers ≡ true
force_met me peers kept second threshold list low met e = go (threshold == 0) e
  where
    go : (b : Bool) → cond b None (list_of (members_at kept second threshold)) ≡ Some list
        → are_peers me list.members peers ≡ true
    go true e = cc
    go false e =
        made_of (λ (ms : List ℕ). are_peers me ms peers ≡ true) (members_at kept second threshold) list
        (supported_met me peers kept second threshold low met) e

pub if_some : {A : Type 0} (o : Option A) (P : A → Type 0) → ((x : A) → o ≡ Some x → P x) → IfSome o P
if_some None P h = tt
if_some (Some x) P h = h x refl
