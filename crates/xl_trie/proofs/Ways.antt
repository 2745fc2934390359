-- The way to a ledger, and what the chains of ledgers say of it.
use Rattle.std.proofs.Common.{◌≡◌, ℕ, zero, suc, ◌+◌, ◌<◌, ◌≤◌, ◌==◌, true, List, [], ◌∷◌, ◌++◌, length, get_or, take, drop, Some, slice_get, refl, sym, ap, ◌∙◌, arith, inl, inr}
use Rattle.xl_trie.proofs.Common.{cases_Bool, cases_lt, eqb-true, eq-eqb, length-append, length-drop, take-append-le, drop-append-le, list_any_at, slice_get_within, slice_get-get_or, get_or_from_slice_get, Header, seq_at, parent_of, chain, last_common, common_of, AreLedgers, is_on_chain, slice_get-front, HasParent, parent_known, parent_of_known, seq_of_root, seq_of_added, chain_of_root, chain_more, length-chain, chain_ends, of_chain, way, OnWay, take_all}
use Rattle.xl_trie.proofs.Fronts.{shared, shared_low}
use Rattle.xl_trie.proofs.Listing.{some_is, at_in, any_in}
use Rattle.std.proofs.lemmas.List.{drop-take, same_from_push}

first_of : {X : Type 0} (xs : List X) (x : X) → slice_get xs 0 ≡ Some x → xs ≡ x ∷ drop 1 xs
first_of [] x e = absurd cc
first_of (y ∷ xs) x e = let same : y ≡ x = cc in ap (λ z. z ∷ xs) same

common_get : (last : ℕ) (xs ys : List ℕ) → last_common last xs ys ≡ get_or (last ∷ xs) (shared xs ys) 0
common_get last [] ys = refl
common_get last (x ∷ xs) [] = refl
common_get last (x ∷ xs) (y ∷ ys) =
    let more : suc (shared xs ys) ≡ 1 + shared xs ys = omega arith in
    grind (arith, cases_Bool (x == y), common_get x xs ys, ap (λ k. get_or (last ∷ x ∷ xs) k 0) more)

pub length_way : (hs : List Header) (x : ℕ) → length (way hs x) ≡ seq_at hs x
unfolding way
length_way hs x = length-drop 1 (chain hs x) ∙ omega (arith, length-chain hs x)

module _ (hs : List Header) (ok : AreLedgers hs) where
  -- what stands on a chain has a front of it for its own
  at_end : (x s y : ℕ) → seq_at hs x ≤ s → slice_get (chain hs x) s ≡ Some y → chain hs y ≡ take (suc s) (chain hs x)
  at_end x s y ge at =
      let inside = slice_get_within (chain hs x) s y at in
      let last : s ≡ seq_at hs x = omega (arith, length-chain hs x) in
      let same : x ≡ y = some_is x y (sym (chain_ends hs x) ∙ ap (slice_get (chain hs x)) (sym last) ∙ at) in
      ap (chain hs) (sym same) ∙ sym (take_all (suc s) (chain hs x) (omega (arith, length-chain hs x)))

  chain_front : (n x s y : ℕ) → x ≤ n → x < length hs → slice_get (chain hs x) s ≡ Some y → chain hs y ≡ take (suc s) (chain hs x)
  chain_front n zero s y le known at = at_end zero s y (omega (arith, seq_of_root hs ok)) at
  chain_front zero (suc x) s y le known at = absurd (omega arith)
  chain_front (suc n) (suc x) s y le known at = elim (cases_lt s (seq_at hs (suc x))) [
    | inr ge ↦ at_end (suc x) s y ge at
    | inl lt ↦
        let has = parent_known hs ok (suc x) (omega arith) known in
        let more : chain hs (suc x) ≡ chain hs has.0 ++ suc x ∷ [] = chain_more hs ok (suc x) has.0 (omega arith) has.1 in
        let small : suc s ≤ length (chain hs has.0) = omega (arith, length-chain hs has.0, has.1.next) in
        let there : slice_get (chain hs has.0) s ≡ Some y = sym (slice_get-front (chain hs has.0) (suc x ∷ []) s small) ∙ ap (λ (xs : List ℕ). slice_get xs s) (sym more) ∙ at in
        chain_front n has.0 s y (omega (arith, has.1.earlier)) (omega (arith, has.1.earlier)) there
        ∙ sym (take-append-le (suc s) (chain hs has.0) (suc x ∷ []) small) ∙ ap (take (suc s)) (sym more)
  ]

  pub way_at : (x s y : ℕ) → x < length hs → slice_get (chain hs x) s ≡ Some y → way hs y ≡ take s (way hs x)
  unfolding way
  way_at x s y known at = ap (drop 1) (chain_front x x s y (omega arith) known at) ∙ ap (λ n. drop 1 (take n (chain hs x))) (let e : suc s ≡ 1 + s = omega arith in e) ∙ drop-take 1 s (chain hs x)

  pub way_root : way hs 0 ≡ []
  unfolding way
  way_root = ap (drop 1) (chain_of_root hs ok)

  -- the way to a ledger is the way to its parent, and the ledger
  pub way_more : (x p : ℕ) → 0 < x → HasParent hs ok x p → way hs x ≡ way hs p ++ x ∷ []
  unfolding way
  way_more x p some has = ap (drop 1) (chain_more hs ok x p some has) ∙ drop-append-le 1 (chain hs p) (x ∷ []) (omega (arith, length-chain hs p))

  pub root_if : (x : ℕ) → x < length hs → length (way hs x) ≡ 0 → x ≡ 0
  root_if zero known e = refl
  root_if (suc x) known e = absurd (omega (arith, length_way hs (suc x), seq_of_added hs ok (suc x) (omega arith) known))

  -- one ledger has one way
  pub way_one : (a b : ℕ) → a < length hs → b < length hs → way hs a ≡ way hs b → a ≡ b
  way_one zero b ka kb e = sym (root_if b kb (sym (ap (length {A = ℕ}) e) ∙ ap (length {A = ℕ}) way_root))
  way_one (suc a) zero ka kb e = root_if (suc a) ka (ap (length {A = ℕ}) (e ∙ way_root))
  way_one (suc a) (suc b) ka kb e =
      let p = parent_known hs ok (suc a) (omega arith) ka in
      let q = parent_known hs ok (suc b) (omega arith) kb in
      (same_from_push (way hs p.0) (way hs q.0) (suc a) (suc b) (sym (way_more (suc a) p.0 (omega arith) p.1) ∙ e ∙ way_more (suc b) q.0 (omega arith) q.1)).1

  -- what stands on the way
  pub record Stop (x k : ℕ) : Type 0 where
    pub ledger : ℕ
    pub known : ledger < length hs
    pub at : slice_get (chain hs x) k ≡ Some ledger
    pub is : way hs ledger ≡ take k (way hs x)

  pub stop_at : (x k : ℕ) → x < length hs → k ≤ length (way hs x) → Stop x k
  stop_at x k known le =
      let y = get_or (chain hs x) k 0 in
      let at : slice_get (chain hs x) k ≡ Some y = slice_get-get_or (chain hs x) k 0 (omega (arith, length-chain hs x, length_way hs x)) in
      record { ledger = y; known = (of_chain hs ok x known k y at).known; at = at; is = way_at x k y known at }

  -- a parent, by ways
  pub parent_if : (c p : ℕ) → c < length hs → p < length hs → length (way hs c) ≡ length (way hs p) + 1 → take (length (way hs p)) (way hs c) ≡ way hs p → parent_of hs c ≡ Some p
  parent_if zero p kc kp long on = absurd (omega (arith, ap (length {A = ℕ}) way_root))
  parent_if (suc c) p kc kp long on =
      let has = parent_known hs ok (suc c) (omega arith) kc in
      let more = way_more (suc c) has.0 (omega arith) has.1 in
      let size : length (way hs p) ≡ length (way hs has.0) = omega (arith, ap (length {A = ℕ}) more, length-append (way hs has.0) (suc c ∷ [])) in
      let front : take (length (way hs p)) (way hs has.0 ++ suc c ∷ []) ≡ way hs has.0 =
      take-append-le (length (way hs p)) (way hs has.0) (suc c ∷ []) (omega arith) ∙ take_all (length (way hs p)) (way hs has.0) (omega arith) in
      let same : has.0 ≡ p = way_one has.0 p (omega (arith, has.1.earlier)) kp (sym front ∙ ap (take (length (way hs p))) (sym more) ∙ on) in
      parent_of_known hs ok (suc c) has.0 (omega arith) has.1 ∙ ap Some same

  pub record IsParent (c p : ℕ) : Type 0 where
    pub known : p < length hs
    pub long : length (way hs c) ≡ length (way hs p) + 1
    pub on : take (length (way hs p)) (way hs c) ≡ way hs p

  pub of_parent : (c p : ℕ) → c < length hs → parent_of hs c ≡ Some p → IsParent c p
  of_parent zero p kc e = absurd cc
  of_parent (suc c) p kc e =
      let has = parent_known hs ok (suc c) (omega arith) kc in
      let same : has.0 ≡ p = some_is has.0 p (sym (parent_of_known hs ok (suc c) has.0 (omega arith) has.1) ∙ e) in
      let more : way hs (suc c) ≡ way hs p ++ suc c ∷ [] = way_more (suc c) has.0 (omega arith) has.1 ∙ ap (λ q. way hs q ++ suc c ∷ []) same in
      record {
        known = omega (arith, has.1.earlier, same);
        long = ap (length {A = ℕ}) more ∙ length-append (way hs p) (suc c ∷ []);
        on = ap (take (length (way hs p))) more ∙ take-append-le (length (way hs p)) (way hs p) (suc c ∷ []) (omega arith) ∙ take_all (length (way hs p)) (way hs p) (omega arith);
      }

  -- the ways of ledgers are no longer than their places
  pub way_short : (n x : ℕ) → x ≤ n → x < length hs → length (way hs x) ≤ x
  way_short n zero le known = omega (arith, ap (length {A = ℕ}) way_root)
  way_short zero (suc x) le known = absurd (omega arith)
  way_short (suc n) (suc x) le known =
      let has = parent_known hs ok (suc x) (omega arith) known in
      let short = way_short n has.0 (omega (arith, has.1.earlier)) (omega (arith, has.1.earlier)) in
      omega (arith, short, has.1.earlier, ap (length {A = ℕ}) (way_more (suc x) has.0 (omega arith) has.1), length-append (way hs has.0) (suc x ∷ []))

  chain_cons : (x : ℕ) → x < length hs → chain hs x ≡ 0 ∷ way hs x
  unfolding way
  chain_cons x known =
      let y = get_or (chain hs x) 0 0 in
      let at : slice_get (chain hs x) 0 ≡ Some y = slice_get-get_or (chain hs x) 0 0 (omega (arith, length-chain hs x)) in
      let is = of_chain hs ok x known 0 y at in
      let none : y ≡ 0 = root_if y is.known (length_way hs y ∙ is.seq) in
      first_of (chain hs x) y at ∙ ap (λ z. z ∷ drop 1 (chain hs x)) none

  -- the last common ledger, by ways
  pub common_way : (a b : ℕ) → a < length hs → b < length hs → way hs (common_of hs a b) ≡ take (shared (way hs a) (way hs b)) (way hs a)
  common_way a b ka kb =
      let k = shared (way hs a) (way hs b) in
      let whole : common_of hs a b ≡ get_or (0 ∷ way hs a) k 0 =
      ap (λ xs. last_common 0 xs (chain hs b)) (chain_cons a ka) ∙ ap (last_common 0 (0 ∷ way hs a)) (chain_cons b kb) ∙ common_get 0 (way hs a) (way hs b) in
      let size = shared_low (way hs a) (way hs b) in
      let at : slice_get (0 ∷ way hs a) k ≡ Some (get_or (0 ∷ way hs a) k 0) = slice_get-get_or (0 ∷ way hs a) k 0 (omega (arith, size)) in
      way_at a k (common_of hs a b) ka (ap (λ xs. slice_get xs k) (chain_cons a ka) ∙ at ∙ ap Some (sym whole))

  pub common_known : (a b : ℕ) → a < length hs → b < length hs → common_of hs a b < length hs
  common_known a b ka kb =
      let k = shared (way hs a) (way hs b) in
      let whole : common_of hs a b ≡ get_or (0 ∷ way hs a) k 0 =
      ap (λ xs. last_common 0 xs (chain hs b)) (chain_cons a ka) ∙ ap (last_common 0 (0 ∷ way hs a)) (chain_cons b kb) ∙ common_get 0 (way hs a) (way hs b) in
      let at : slice_get (0 ∷ way hs a) k ≡ Some (get_or (0 ∷ way hs a) k 0) = slice_get-get_or (0 ∷ way hs a) k 0 (omega (arith, shared_low (way hs a) (way hs b))) in
      (of_chain hs ok a ka k (common_of hs a b) (ap (λ xs. slice_get xs k) (chain_cons a ka) ∙ at ∙ ap Some (sym whole))).known

  -- a ledger on the chain of another, by ways
  pub on_true : (x v : ℕ) → v < length hs → is_on_chain hs x v ≡ true → OnWay hs x v
  on_true x v known e =
      let found = any_in (λ y. y == x) (chain hs v) e in
      let r = at_in (chain hs v) found.0 0 found.1 in
      let at : slice_get (chain hs v) r.0 ≡ Some x = slice_get-get_or (chain hs v) r.0 0 r.1 ∙ ap Some (r.2 ∙ eqb-true found.0 x found.2) in
      let is = way_at v r.0 x known at in
      let own = (of_chain hs ok v known r.0 x at).seq in
      let size : length (way hs x) ≡ r.0 = length_way hs x ∙ own in
      let low = slice_get_within (chain hs v) r.0 x at in
      (omega (arith, length-chain hs v, length_way hs v), ap (λ k. take k (way hs v)) size ∙ sym is)

  pub on_from : (x v : ℕ) → x < length hs → v < length hs → OnWay hs x v → is_on_chain hs x v ≡ true
  on_from x v kx kv on =
      let s = stop_at v (length (way hs x)) kv on.0 in
      let same : s.ledger ≡ x = way_one s.ledger x s.known kx (s.is ∙ on.1) in
      list_any_at (λ y. y == x) (chain hs v) (length (way hs x)) s.ledger (slice_get_within (chain hs v) (length (way hs x)) s.ledger s.at) (eq-eqb (get_or (chain hs v) (length (way hs x)) s.ledger) x (get_or_from_slice_get (chain hs v) (length (way hs x)) s.ledger s.ledger s.at ∙ same))
