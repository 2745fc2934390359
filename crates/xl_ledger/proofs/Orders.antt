-- Votes in another order say the same: each definition on votes reads nothing but their counts.
use Rattle.std.proofs.Common.{◌≡◌, ℕ, zero, suc, ◌+◌, ◌-◌, ◌<◌, ◌==◌, ◌&&◌, ◌||◌, Bool, true, false, cond, not, max, List, [], ◌∷◌, ◌++◌, length, Option, Some, None, refl, sym, ap, subst, ◌∙◌, arith}
use Rattle.std.specs.Prelude.{nat_lt, filter, find, count_by, All}
use Rattle.std.specs.Ordering.{nat_cmp, ordering_then, is_gt}
use Rattle.std.specs.List.{list_any, list_all, range_with_len}
use Rattle.std.proofs.Math.Path.{fun_ext}
use Rattle.std.proofs.lemmas.Bool.{eq-eqb, or_parts}
use Rattle.std.proofs.lemmas.Bool.Decides.{nat_tests}
use Rattle.std.proofs.lemmas.List.Sums.{sum_by-cons, sum_by-append}
use Rattle.std.proofs.lemmas.List.Elements.{All-nil, All-cons, All-head, All-tail, filter-append}
use Rattle.xl_ledger.specs.declared.header.Header.{Header}
use Rattle.xl_ledger.specs.declared.vote.Vote.{Vote}
use Rattle.xl_ledger.specs.Chains.{parent_of, seq_at}
use Rattle.xl_ledger.specs.Votes.{AreKnown, has_voted, without, AreSame, tip_of, branch_of, uncommitted, follows, candidates, id_rank, best_of, others, margin, is_on_chain, unless_too_few, next_of, or_stay, prefer, preferred_of}

-- ---- counts

pub count-cons : (p : Vote → Bool) (v : Vote) (votes : List Vote) → count_by p (v ∷ votes) ≡ cond (p v) 1 0 + count_by p votes
count-cons p v votes = sum_by-cons (λ w. cond (p w) 1 0) v votes

pub count-append : (p : Vote → Bool) (a b : List Vote) → count_by p (a ++ b) ≡ count_by p a + count_by p b
count-append p a b = sum_by-append (λ w. cond (p w) 1 0) a b

pub count-all : (votes : List Vote) → count_by (λ v. true) votes ≡ length votes
count-all [] = refl
count-all (v ∷ votes) = omega (arith, count-cons (λ v. true) v votes, count-all votes)

-- a test finds a vote exactly where it counts one
pub any-count : (p : Vote → Bool) (votes : List Vote) → list_any p votes ≡ nat_lt 0 (count_by p votes)
any-count p [] = refl
any-count p (v ∷ votes) = ap (λ (b : Bool). p v || b) (any-count p votes) ∙ more (p v) (count_by p votes) ∙ ap (λ (n : ℕ). nat_lt 0 n) (sym (count-cons p v votes))
  where
    more : (b : Bool) (n : ℕ) → (b || nat_lt 0 n) ≡ nat_lt 0 (cond b 1 0 + n)
    more true n = grind (arith, nat_tests)
    more false n = grind (arith, nat_tests)

-- what passes both tests
pub count-filter : (p q : Vote → Bool) (votes : List Vote) → count_by p (filter q votes) ≡ count_by (λ v. q v && p v) votes
count-filter p q [] = refl
count-filter p q (v ∷ votes) = more (q v) ∙ omega (arith, count-filter p q votes, count-cons (λ w. q w && p w) v votes)
  where
    more : (b : Bool) → count_by p (cond b (v ∷ filter q votes) (filter q votes)) ≡ cond (b && p v) 1 0 + count_by p (filter q votes)
    more true = count-cons p v (filter q votes)
    more false = omega arith

-- votes are for the first n ledgers exactly where none beyond them is counted
abbrev is_beyond : ℕ → Vote → Bool
is_beyond n v = not (nat_lt v.ledger n)

abbrev beyond : ℕ → Vote → ℕ
beyond n v = cond (is_beyond n v) 1 0

count-beyond : (n : ℕ) (votes : List Vote) → All (λ v. v.ledger < n) votes → count_by (is_beyond n) votes ≡ 0
count-beyond n [] all = refl
count-beyond n (v ∷ votes) all =
    let head : v.ledger < n = All-head (λ w. w.ledger < n) v votes all in
    let rest = count-beyond n votes (All-tail (λ w. w.ledger < n) v votes all) in
    let none : beyond n v ≡ 0 = grind (arith, nat_tests, head) in
    omega (arith, count-cons (is_beyond n) v votes)

all-within : (n : ℕ) (votes : List Vote) → count_by (is_beyond n) votes ≡ 0 → All (λ v. v.ledger < n) votes
all-within n [] none = All-nil (λ w. w.ledger < n)
all-within n (v ∷ votes) none =
    let sum = count-cons (is_beyond n) v votes in
    let head : beyond n v ≡ 0 = omega (arith, sum) in
    All-cons (λ w. w.ledger < n) v votes (grind (arith, nat_tests, head)) (all-within n votes (omega (arith, sum)))

-- ---- the same votes

pub same_refl : (votes : List Vote) → AreSame votes votes
same_refl votes p = refl

pub same_trans : (a b c : List Vote) → AreSame a b → AreSame b c → AreSame a c
same_trans a b c left right p = left p ∙ right p

pub same_append : (a b c d : List Vote) → AreSame a b → AreSame c d → AreSame (a ++ c) (b ++ d)
same_append a b c d left right p = omega (arith, count-append p a c, count-append p b d, left p, right p)

-- a vote that is moved to the end
pub moved_last : (a : List Vote) (v : Vote) (b : List Vote) → AreSame (a ++ v ∷ b) (a ++ b ++ v ∷ [])
moved_last a v b p =
    omega (arith, count-append p a (v ∷ b), count-cons p v b, count-append p (a ++ b) (v ∷ []), count-append p a b, count-cons p v [])

-- ---- a member's vote

pub without_alike : (votes moved : List Vote) → AreSame votes moved → (member : ℕ) → AreSame (without votes member) (without moved member)
without_alike votes moved same member p =
    count-filter p (λ v. not (v.member == member)) votes ∙ same (λ v. not (v.member == member) && p v) ∙ sym (count-filter p (λ v. not (v.member == member)) moved)

-- who has no vote takes none away
pub without_none : (votes : List Vote) (member : ℕ) → has_voted votes member ≡ false → without votes member ≡ votes
without_none [] member none = refl
without_none (v ∷ votes) member none =
    let parts = or_parts (v.member == member) (has_voted votes member) none in
    rw (parts.0, without_none votes member parts.1) refl

-- the one vote of a member is taken out
pub without_one : (a : List Vote) (v : Vote) (b : List Vote) (member : ℕ) → v.member ≡ member → has_voted a member ≡ false → has_voted b member ≡ false → without (a ++ v ∷ b) member ≡ a ++ b
without_one a v b member own before after =
    filter-append (λ w. not (w.member == member)) a (v ∷ b)
    ∙ rw (without_none a member before, eq-eqb v.member member own, without_none b member after) refl

-- a first vote, wherever it stands, is as one that comes after the others
pub voted_first : (a : List Vote) (w : Vote) (b votes : List Vote) → AreSame (a ++ b) votes → AreSame (a ++ w ∷ b) (votes ++ w ∷ [])
voted_first a w b votes same =
    same_trans (a ++ w ∷ b) (a ++ b ++ w ∷ []) (votes ++ w ∷ []) (moved_last a w b) (same_append (a ++ b) votes (w ∷ []) (w ∷ []) same (same_refl (w ∷ [])))

-- the one vote of a member is taken back, and then it may vote again in the same place
module _ (a : List Vote) (v : Vote) (b votes : List Vote) (member : ℕ) (own : v.member ≡ member) (before : has_voted a member ≡ false) (after : has_voted b member ≡ false) (same : AreSame (a ++ v ∷ b) votes) where
  pub taken_back : AreSame (a ++ b) (without votes member)
  taken_back = subst (λ (c : List Vote). AreSame c (without votes member)) (without_one a v b member own before after) (without_alike (a ++ v ∷ b) votes same member)

  pub voted_again : (w : Vote) → AreSame (a ++ w ∷ b) (without votes member ++ w ∷ [])
  voted_again w = voted_first a w b (without votes member) taken_back

-- ---- what is read from the counts

module _ (votes moved : List Vote) (same : AreSame votes moved) where
  pub tip_alike : (ledger : ℕ) → tip_of votes ledger ≡ tip_of moved ledger
  tip_alike ledger = same (λ v. v.ledger == ledger)

  pub length_alike : length votes ≡ length moved
  length_alike = sym (count-all votes) ∙ same (λ v. true) ∙ count-all moved

  -- nobody has voted exactly where no vote is counted
  pub has_voted_alike : (member : ℕ) → has_voted votes member ≡ has_voted moved member
  has_voted_alike member = any-count (λ v. v.member == member) votes ∙ ap (λ (n : ℕ). nat_lt 0 n) (same (λ v. v.member == member)) ∙ sym (any-count (λ v. v.member == member) moved)

module _ (ledgers : List Header) (votes moved : List Vote) (same : AreSame votes moved) where
  pub branch_alike : (ledger : ℕ) → branch_of ledgers votes ledger ≡ branch_of ledgers moved ledger
  branch_alike ledger = same (λ v. is_on_chain ledgers ledger v.ledger)

  pub uncommitted_alike : (seq largest : ℕ) → uncommitted ledgers votes seq largest ≡ uncommitted ledgers moved seq largest
  uncommitted_alike seq largest = same (λ v. nat_lt (seq_at ledgers v.ledger) (max seq largest))

  pub known_alike : AreKnown ledgers votes → AreKnown ledgers moved
  known_alike known = all-within (length ledgers) moved (sym (same (is_beyond (length ledgers))) ∙ count-beyond (length ledgers) votes known)

  branches : branch_of ledgers votes ≡ branch_of ledgers moved
  branches = fun_ext branch_alike

  pub candidates_alike : (ledger : ℕ) → candidates ledgers votes ledger ≡ candidates ledgers moved ledger
  candidates_alike ledger = ap (λ (branch : ℕ → ℕ). filter (λ c. follows (parent_of ledgers c) ledger && nat_lt 0 (branch c)) (range_with_len 0 (length ledgers))) branches

  pub best_alike : (some : List ℕ) → best_of ledgers votes some ≡ best_of ledgers moved some
  best_alike some = ap (λ (branch : ℕ → ℕ). find (λ c. list_all (λ d. d == c || is_gt (ordering_then (nat_cmp (branch c) (branch d)) (id_rank ledgers c d))) some) some) branches

  pub margin_alike : (best : ℕ) (second : Option ℕ) → margin ledgers votes best second ≡ margin ledgers moved best second
  margin_alike best None = branch_alike best
  margin_alike best (Some second) = ap (λ (branch : ℕ → ℕ). branch best - branch second + cond (is_gt (id_rank ledgers best second)) 1 0) branches

  pub next_alike : (largest ledger : ℕ) → next_of ledgers votes largest ledger ≡ next_of ledgers moved largest ledger
  next_alike largest ledger =
      too_few (best_of ledgers votes (candidates ledgers votes ledger)) ∙ ap (λ (some : List ℕ). unless_too_few ledgers moved largest ledger some (best_of ledgers votes some)) (candidates_alike ledger)
      ∙ ap (unless_too_few ledgers moved largest ledger (candidates ledgers moved ledger)) (best_alike (candidates ledgers moved ledger))
    where
      too_few : (best : Option ℕ) → unless_too_few ledgers votes largest ledger (candidates ledgers votes ledger) best ≡ unless_too_few ledgers moved largest ledger (candidates ledgers votes ledger) best
      too_few None = refl
      too_few (Some best) =
          let seq : ℕ = seq_at ledgers ledger + 1 in
          let some : List ℕ = others best (candidates ledgers votes ledger) in
          rw (uncommitted_alike seq largest, margin_alike best (best_of ledgers votes some), best_alike some) refl

  prefer_alike : (largest n ledger : ℕ) → prefer ledgers votes largest n ledger ≡ prefer ledgers moved largest n ledger
  prefer_alike largest zero ledger = refl
  prefer_alike largest (suc n) ledger =
      ap (λ (next : Option ℕ). or_stay ledger next (prefer ledgers votes largest n)) (next_alike largest ledger)
      ∙ ap (λ (go : ℕ → ℕ). or_stay ledger (next_of ledgers moved largest ledger) go) (fun_ext (prefer_alike largest n))

pub preferred_alike : (ledgers : List Header) (votes moved : List Vote) → AreSame votes moved → (largest : ℕ) → preferred_of ledgers votes largest ≡ preferred_of ledgers moved largest
preferred_alike ledgers [] [] same largest = refl
preferred_alike ledgers [] (v ∷ moved) same largest = absurd (omega (arith, length_alike [] (v ∷ moved) same))
preferred_alike ledgers (u ∷ votes) [] same largest = absurd (omega (arith, length_alike (u ∷ votes) [] same))
preferred_alike ledgers (u ∷ votes) (v ∷ moved) same largest = ap Some (prefer_alike ledgers (u ∷ votes) (v ∷ moved) same largest (length ledgers) 0)
