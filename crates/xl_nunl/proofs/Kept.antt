-- What is kept in rings has all that a score asks of what was heard.
use Rattle.std.proofs.Common.{◌≡◌, ◌≢◌, ℕ, zero, suc, ◌+◌, ◌-◌, ◌*◌, ◌%◌, ◌<◌, ◌≤◌, Bool, true, false, cond, List, [], ◌∷◌, ◌++◌, Option, Some, None, length, get_or, set, replicate, take, drop, append-nil, length-set, get_or-set_other, refl, sym, ap, ◌∙◌, arith}
use Rattle.std.specs.Prelude.{◌==◌, nat_lt, count_by, find}
use Rattle.std.specs.List.{range_with_len}
use Rattle.std.proofs.lemmas.Bool.{and_left, and_right, and_from, or_parts, or_from, cond-true, cond-false, eqb-true, eqb-false, ltb-false, le-ltb, ne_eqb, true≢false}
use Rattle.std.proofs.lemmas.Grind.{get_or-set_at}
use Rattle.std.proofs.lemmas.List.{reverse-append, length-replicate, drop_all, take_all}
use Rattle.std.proofs.Math.Nat.{mod-lt}
use Rattle.xl_ledger.specs.declared.header.Header.{Header}
use Rattle.xl_ledger.specs.Chains.{id_at, seq_at}
use Rattle.xl_ledger.specs.Jumps.{ancestor_of}
use Rattle.xl_lists.specs.declared.said.SaidLedger.{SaidLedger}
use Rattle.xl_lists.specs.Lists.{is_outside}
use Rattle.xl_lists.proofs.Counting.{count_by-cons}
use Rattle.xl_nunl.specs.Heard.{agrees, is_alike, last_heard, names, score_of}
use Rattle.xl_nunl.specs.Rings.{IsKept, RingsAreEnough, agrees_in, last_kept, nothing_kept, place_of, score_in, with_heard}
use Rattle.xl_nunl.proofs.Rings.{none_heard}

-- ---- nothing is kept

abbrev Places : Type 0
Places = List (Option SaidLedger)

nothing_begins : IsKept nothing_kept []
unfolding nothing_kept
nothing_begins = record { long = length-replicate {A = Option SaidLedger} 32768 None; last = none_heard (replicate {A = Option SaidLedger} 32768 None) 32768 refl }

no_places : (n : ℕ) (places : Places) → length places ≡ n → ((k : ℕ) → k < length places → get_or places k None ≡ None) → places ≡ replicate n None
no_places zero [] is none = refl
no_places zero (x ∷ xs) is none = absurd (omega (arith, is))
no_places (suc n) [] is none = absurd (omega (arith, is))
no_places (suc n) (x ∷ xs) is none =
    ap (λ (y : Option SaidLedger). y ∷ xs) (none 0 (omega arith))
    ∙ ap (λ (ys : Places). None ∷ ys) (no_places n xs (omega (arith, is)) (λ k within. none (suc k) (omega (arith, within))))

pub nothing_left : (places : Places) → length places ≡ 32768 → ((k : ℕ) → k < length places → get_or places k None ≡ None) → places ≡ nothing_kept
unfolding nothing_kept
nothing_left places is none = no_places 32768 places is none

pub nothing_is : (places : Places) → places ≡ replicate 32768 None → places ≡ nothing_kept
unfolding nothing_kept
nothing_is places is = is

-- what a loop over all places leaves
pub written_back : {X : Type 0} (len : ℕ) (items now : List X) → len ≡ length items → length now ≡ length items →
    take len (now ++ drop (length now) items) ≡ now
written_back {X = X} len items now is same =
    ap (λ (xs : List X). take len (now ++ xs)) (drop_all (length now) items (omega (arith, same)))
    ∙ ap (take len) (append-nil now)
    ∙ take_all len now (omega (arith, is, same))

-- ---- something more

inside : (k : ℕ) → is_outside k ≡ false → (1 ≤ k) × (k ≤ 64)
inside k not_out =
    let parts = or_parts (k == 0) (nat_lt 64 k) not_out in
    let some : k ≢ 0 = eqb-false k 0 parts.0 in
    (omega (arith, some), ltb-false 64 k parts.1)

pub not_outside : (k : ℕ) → 1 ≤ k → k ≤ 64 → is_outside k ≡ false
not_outside k low high = or_from (k == 0) (nat_lt 64 k) (ne_eqb k 0 (λ e. omega (arith, e, low))) (le-ltb 64 k high)

another : (k m : ℕ) → is_outside k ≡ true → 1 ≤ m → m ≤ 64 → (k == m) ≡ false
another k m out low high = ne_eqb k m (λ e. true≢false (sym out ∙ ap is_outside e ∙ not_outside m low high))

apart : (m n a b : ℕ) → 1 ≤ m → 1 ≤ n → a < 512 → b < 512 → (m - 1) * 512 + a ≡ (n - 1) * 512 + b → (m ≡ n) × (a ≡ b)
apart m n a b m_low n_low a_high b_high same =
    (omega (arith, m_low, n_low, a_high, b_high, same), omega (arith, m_low, n_low, a_high, b_high, same))

within : (m s : ℕ) → 1 ≤ m → m ≤ 64 → place_of m s < 32768
within m s low high = let rest : s % 512 < 512 = mod-lt s (omega arith) in omega (arith, low, high, rest)

last_more : (heard : List SaidLedger) (x : SaidLedger) (m s : ℕ) → last_heard (heard ++ x ∷ []) m s ≡ cond (is_alike m s x) (Some x) (last_heard heard m s)
last_more heard x m s = ap (find (is_alike m s)) (reverse-append heard (x ∷ []))

put_more : (places : Places) (x : SaidLedger) (m s : ℕ) → length places ≡ 32768 → 1 ≤ m → m ≤ 64 → 1 ≤ x.member → x.member ≤ 64 →
    get_or (set places (place_of x.member x.seq) (Some x)) (place_of m s) None ≡ cond (is_alike m s x) (Some x) (last_kept places m s)
put_more places x m s long low high x_low x_high = by_member (x.member == m) refl
  where
    a_rest : x.seq % 512 < 512
    a_rest = mod-lt x.seq (omega arith)

    b_rest : s % 512 < 512
    b_rest = mod-lt s (omega arith)

    elsewhere : is_alike m s x ≡ false → (place_of m s ≡ place_of x.member x.seq → ⊥) →
        get_or (set places (place_of x.member x.seq) (Some x)) (place_of m s) None ≡ cond (is_alike m s x) (Some x) (last_kept places m s)
    elsewhere other apart_from =
        get_or-set_other places (place_of x.member x.seq) (place_of m s) (Some x) None apart_from
        ∙ sym (cond-false (is_alike m s x) (Some x) (last_kept places m s) other)

    by_rest : (b : Bool) → x.member ≡ m → (x.member == m) ≡ true → (x.seq % 512 == s % 512) ≡ b →
        get_or (set places (place_of x.member x.seq) (Some x)) (place_of m s) None ≡ cond (is_alike m s x) (Some x) (last_kept places m s)
    by_rest true same told is =
        let rests : x.seq % 512 ≡ s % 512 = eqb-true (x.seq % 512) (s % 512) is in
        let here : place_of m s ≡ place_of x.member x.seq = omega (arith, same, rests) in
        get_or-set_at places (place_of x.member x.seq) (place_of m s) (Some x) None here (omega (arith, within x.member x.seq x_low x_high, long))
        ∙ sym (cond-true (is_alike m s x) (Some x) (last_kept places m s) (and_from (x.member == m) (x.seq % 512 == s % 512) told is))
    by_rest false same told is =
        elsewhere (and_right (x.member == m) (x.seq % 512 == s % 512) is)
        (λ e. eqb-false (x.seq % 512) (s % 512) is (sym (apart m x.member (s % 512) (x.seq % 512) low x_low b_rest a_rest e).1))

    by_member : (b : Bool) → (x.member == m) ≡ b →
        get_or (set places (place_of x.member x.seq) (Some x)) (place_of m s) None ≡ cond (is_alike m s x) (Some x) (last_kept places m s)
    by_member true is = by_rest (x.seq % 512 == s % 512) (eqb-true x.member m is) is refl
    by_member false is =
        elsewhere (and_left (x.member == m) (x.seq % 512 == s % 512) is)
        (λ e. eqb-false x.member m is (sym (apart m x.member (s % 512) (x.seq % 512) low x_low b_rest a_rest e).0))

kept_more : (places : Places) (x : SaidLedger) (m s : ℕ) → length places ≡ 32768 → 1 ≤ m → m ≤ 64 →
    last_kept (with_heard places x) m s ≡ cond (is_alike m s x) (Some x) (last_kept places m s)
kept_more places x m s long low high = by (is_outside x.member) refl
  where
    by : (b : Bool) → is_outside x.member ≡ b → last_kept (with_heard places x) m s ≡ cond (is_alike m s x) (Some x) (last_kept places m s)
    by true out =
        ap (λ (ps : Places). last_kept ps m s) (cond-true (is_outside x.member) places (set places (place_of x.member x.seq) (Some x)) out)
        ∙ sym (cond-false (is_alike m s x) (Some x) (last_kept places m s) (and_left (x.member == m) (x.seq % 512 == s % 512) (another x.member m out low high)))
    by false not_out =
        let bounds = inside x.member not_out in
        ap (λ (ps : Places). last_kept ps m s) (cond-false (is_outside x.member) places (set places (place_of x.member x.seq) (Some x)) not_out)
        ∙ put_more places x m s long low high bounds.0 bounds.1

still_long : (places : Places) (x : SaidLedger) → length (with_heard places x) ≡ length places
still_long places x = by (is_outside x.member)
  where
    by : (b : Bool) → length (cond b places (set places (place_of x.member x.seq) (Some x))) ≡ length places
    by true = refl
    by false = length-set places (place_of x.member x.seq) (Some x)

more_kept : (places : Places) (heard : List SaidLedger) (x : SaidLedger) → IsKept places heard → IsKept (with_heard places x) (heard ++ x ∷ [])
more_kept places heard x is = record {
  long = still_long places x ∙ is.long;
  last = λ m s low high.
      kept_more places x m s is.long low high
      ∙ ap (λ (o : Option SaidLedger). cond (is_alike m s x) (Some x) o) (is.last m s low high)
      ∙ sym (last_more heard x m s);
}

-- ---- scores

same_count : (f g : ℕ → Bool) → ((s : ℕ) → f s ≡ g s) → (xs : List ℕ) → count_by f xs ≡ count_by g xs
same_count f g same [] = refl
same_count f g same (x ∷ xs) =
    count_by-cons f x xs
    ∙ ap (λ (b : Bool). cond b 1 0 + count_by f xs) (same x)
    ∙ ap (λ (n : ℕ). cond (g x) 1 0 + n) (same_count f g same xs)
    ∙ sym (count_by-cons g x xs)

same_scores : (ledgers : List Header) (places : Places) (heard : List SaidLedger) (m flag : ℕ) → 1 ≤ m → m ≤ 64 → IsKept places heard →
    score_in ledgers places m flag ≡ score_of ledgers heard m flag
unfolding score_in score_of
same_scores ledgers places heard m flag low high is =
    same_count (agrees_in ledgers places m flag) (agrees ledgers heard m flag)
    (λ s. ap (λ (o : Option SaidLedger). names o s (id_at ledgers (ancestor_of ledgers flag s))) (is.last m s low high)) (range_with_len (seq_at ledgers flag - 255) 256)

pub rings : RingsAreEnough
rings = record { begun = nothing_begins; goes_on = more_kept; scores = same_scores }
