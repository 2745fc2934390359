-- What the loops of a walk keep: on the way up to an ancestor, and from two ledgers up to their last common one.
use Rattle.std.proofs.Common.{◌≡◌, ◌≢◌, ◌⊎◌, ℕ, zero, suc, ◌+◌, ◌-◌, ◌*◌, ◌^◌, ◌<◌, ◌≤◌, List, length, slice_get, Some, refl, sym, ap, subst, ◌∙◌, arith, inl, inr}
use Rattle.std.proofs.lemmas.Bool.{cases_lt}
use Rattle.std.proofs.lemmas.Bool.Decides.{eqb_tells}
use Rattle.std.proofs.lemmas.Option.{get_or_from_slice_get}
use Rattle.std.proofs.lemmas.Nat.{pow_pos}
use Rattle.std.proofs.Math.Pow.{pow_mono}
use Rattle.xl_ledger.specs.declared.header.Header.{Header}
use Rattle.xl_ledger.specs.Registries.{Ledgers}
use Rattle.xl_ledger.specs.Chains.{seq_at, chain, common_of, AreLedgers}
use Rattle.xl_ledger.specs.Jumps.{ancestor_of, jump_of}
use Rattle.xl_base.specs.Counts.{one_more}
use Rattle.xl_ledger.specs.Walks.{Walked, GoesOn, TakesStep}
use Rattle.xl_ledger.specs.Limits.{levels}
use Rattle.xl_ledger.proofs.ChainLaws.{seq_of_added, IsAt}
use Rattle.xl_ledger.proofs.Ancestors.{double, at_ancestor, own_ancestor, is_ancestor, ancestor_twice, is_jump, jump_twice}
use Rattle.xl_ledger.proofs.Meeting.{common_leveled_left, common_leveled_right, common_rises, common_parent}
use Rattle.xl_ledger.proofs.Walking.{goes_from, goes_then}

-- a power that is below another one is of a lower exponent
pub lower_power : (i j : ℕ) → 2 ^ i < 2 ^ j → i < j
lower_power i j lt = elim (cases_lt i j) [ inl low ↦ low | inr ge ↦ (let more : 2 ^ j ≤ 2 ^ i = pow_mono ge in absurd (omega arith)) ]

-- ---- up to an ancestor

-- it is on the way; at most so many bits has the number of places that are left; and it took no more jumps than bits are done
pub record Climbs (start now : Walked) (ledger seq at : ℕ) : Type 0 where
  pub known : at < length start.ledgers.headers
  pub above : seq ≤ seq_at start.ledgers.headers at
  pub lower : seq_at start.ledgers.headers at ≤ seq_at start.ledgers.headers ledger
  pub same : ancestor_of start.ledgers.headers at seq ≡ ancestor_of start.ledgers.headers ledger seq
  pub goes_on : GoesOn start now
  pub bits : ℕ
  pub near : bits < levels → seq_at start.ledgers.headers at < seq + 2 ^ bits
  pub few : now.taken + bits ≤ start.taken + levels
  pub moved : ((at ≡ ledger) × (now ≡ start)) ⊎ (TakesStep start now × (seq < seq_at start.ledgers.headers ledger))

pub climbs_from : (start : Walked) (ledger seq : ℕ) → ledger < length start.ledgers.headers → seq ≤ seq_at start.ledgers.headers ledger → Climbs start start ledger seq ledger
climbs_from start ledger seq known above = record {
  known = known;
  above = above;
  lower = omega arith;
  same = refl;
  goes_on = goes_from start;
  bits = levels;
  near = λ lt. absurd (omega arith);
  few = omega arith;
  moved = inl (refl, refl);
}

module _ (start now : Walked) (ledger seq at s : ℕ) (c : Climbs start now ledger seq at) (ok : AreLedgers now.ledgers.headers) (read : s ≡ seq_at now.ledgers.headers at) (low : s < 262144) (further : seq < s) where
  abbrev pub hs : List Header
  hs = start.ledgers.headers

  known_ledgers : AreLedgers hs
  known_ledgers = subst (λ (r : Ledgers). AreLedgers r.headers) c.goes_on.stays ok

  own : s ≡ seq_at hs at
  own = read ∙ ap (λ (r : Ledgers). seq_at r.headers at) c.goes_on.stays

  -- the highest bit of what is left
  module _ (level : ℕ) (reaches : 2 ^ level ≤ s - seq) (highest : s - seq < 2 * 2 ^ level) where
    pub bit_within : level < levels
    bit_within = lower_power level levels (omega arith)

    bit_lower : level < c.bits
    bit_lower = elim (cases_lt c.bits levels) [ inl lt ↦ lower_power level c.bits (omega (arith, c.near lt, own)) | inr ge ↦ omega (arith, bit_within) ]

    module _ (up : ℕ) (value : up ≡ jump_of now.ledgers.headers at level) where
      is : up ≡ jump_of hs at level
      is = value ∙ ap (λ (r : Ledgers). jump_of r.headers at level) c.goes_on.stays

      jumped : IsAt hs known_ledgers at (seq_at hs at - 2 ^ level) up
      jumped = subst (λ (x : ℕ). IsAt hs known_ledgers at (seq_at hs at - 2 ^ level) x) (sym is) (is_jump hs known_ledgers at level c.known)

      pub falls : seq_at hs up < seq_at hs at
      falls = omega (arith, jumped.seq, own, pow_pos level)

      pub climbs_on : (next : Walked) → GoesOn now next → next.taken ≡ one_more now.taken → Climbs start next ledger seq up
      climbs_on next goes step =
          let below : seq ≤ seq_at hs at - 2 ^ level = omega (arith, own, reaches) in
          record {
            known = jumped.known;
            above = omega (arith, jumped.seq, below);
            lower = omega (arith, jumped.seq, c.lower);
            same = ap (λ (x : ℕ). ancestor_of hs x seq) is ∙ ancestor_twice hs known_ledgers at (seq_at hs at - 2 ^ level) seq c.known (omega arith) below ∙ c.same;
            goes_on = goes_then start now next c.goes_on goes;
            bits = level;
            near = λ lt. omega (arith, jumped.seq, own, highest, reaches);
            few = omega (arith, step, c.few, bit_lower);
            moved = inr (omega (arith, step, c.goes_on.later), omega (arith, own, c.lower));
          }

pub has_climbed : (start now : Walked) (ledger seq at s : ℕ) → Climbs start now ledger seq at → seq ≤ seq_at start.ledgers.headers ledger → s ≡ seq_at now.ledgers.headers at → s ≤ seq → seq_at start.ledgers.headers at ≡ seq
has_climbed start now ledger seq at s c above read le =
    let same : seq_at now.ledgers.headers at ≡ seq_at start.ledgers.headers at = ap (λ (r : Ledgers). seq_at r.headers at) c.goes_on.stays in
    omega (arith, c.above)

pub climbed_to : (start now : Walked) (ledger seq at : ℕ) → Climbs start now ledger seq at → seq ≤ seq_at start.ledgers.headers ledger → seq_at start.ledgers.headers at ≡ seq → slice_get (chain start.ledgers.headers ledger) seq ≡ Some at
climbed_to start now ledger seq at c above own =
    at_ancestor start.ledgers.headers ledger seq above ∙ ap Some (sym c.same ∙ own_ancestor start.ledgers.headers at seq (sym own))

-- at the ledger's own sequence no step was taken
pub stood : (start now : Walked) (ledger seq at : ℕ) → Climbs start now ledger seq at → seq ≡ seq_at start.ledgers.headers ledger → now ≡ start
stood start now ledger seq at c own = elim c.moved [ inl h ↦ h.1 | inr h ↦ absurd (omega (arith, h.1)) ]

-- ---- up to the last common ledger

-- the two are apart, and a jump of this level leads both to one ledger
pub record AreApart (ls : List Header) (a b left right level : ℕ) : Type 0 where
  pub left_known : left < length ls
  pub right_known : right < length ls
  pub one_seq : seq_at ls left ≡ seq_at ls right
  pub differ : left ≢ right
  pub same : common_of ls left right ≡ common_of ls a b
  pub agree : jump_of ls left level ≡ jump_of ls right level
  pub within : level ≤ levels

-- two steps a level; but not at each level, since no chain is long enough
abbrev pub IsFew : List Header → ℕ → ℕ → ℕ → ℕ → Type 0
IsFew ls taken now left level = (now + 2 * level ≤ taken + 34) ⊎ ((now + 2 * level ≤ taken + 36) × (seq_at ls left < 2 ^ level))

module _ (ls : List Header) (ok : AreLedgers ls) where
  pub root_if : (place : ℕ) → place < length ls → seq_at ls place ≡ 0 → place ≡ 0
  root_if zero within e = refl
  root_if (suc place) within e = absurd (omega (arith, seq_of_added ls ok (suc place) (omega arith) within))

  pub ancestor_root : (place s : ℕ) → place < length ls → s ≡ 0 → ancestor_of ls place s ≡ 0
  ancestor_root place s within e =
      let at = is_ancestor ls ok place 0 within (omega arith) in
      ap (ancestor_of ls place) e ∙ root_if (ancestor_of ls place 0) at.known at.seq

  pub apart_from : (a b : ℕ) → a < length ls → b < length ls → seq_at ls a ≡ seq_at ls b → seq_at ls a < 262144 → a ≢ b → AreApart ls a b a b levels
  apart_from a b a_known b_known one_seq low differ = record {
    left_known = a_known;
    right_known = b_known;
    one_seq = one_seq;
    differ = differ;
    same = refl;
    agree = ancestor_root a (seq_at ls a - 2 ^ levels) a_known (omega arith) ∙ sym (ancestor_root b (seq_at ls b - 2 ^ levels) b_known (omega arith));
    within = omega arith;
  }

  -- a jump that leads both to one ledger isn't taken
  pub apart_lower : (a b left right level : ℕ) → AreApart ls a b left right level → 0 < level → jump_of ls left (level - 1) ≡ jump_of ls right (level - 1) → AreApart ls a b left right (level - 1)
  apart_lower a b left right level d some agree = record {
    left_known = d.left_known;
    right_known = d.right_known;
    one_seq = d.one_seq;
    differ = d.differ;
    same = d.same;
    agree = agree;
    within = omega (arith, d.within);
  }

  jump_seq : (place level up : ℕ) → place < length ls → up ≡ jump_of ls place level → IsAt ls ok place (seq_at ls place - 2 ^ level) up
  jump_seq place level up within is = subst (λ (x : ℕ). IsAt ls ok place (seq_at ls place - 2 ^ level) x) (sym is) (is_jump ls ok place level within)

  -- one that doesn't is
  pub apart_higher : (a b left right level up_left up_right : ℕ) → AreApart ls a b left right level → 0 < level → up_left ≡ jump_of ls left (level - 1) → up_right ≡ jump_of ls right (level - 1) → up_left ≢ up_right
      → AreApart ls a b up_left up_right (level - 1)
  apart_higher a b left right level up_left up_right d some left_is right_is differ =
      let n : ℕ = level - 1 in
      let one : suc n ≡ level = omega arith in
      let l = jump_seq left n up_left d.left_known left_is in
      let r = jump_seq right n up_right d.right_known right_is in
      let s : ℕ = seq_at ls left - 2 ^ n in
      let left_at : up_left ≡ ancestor_of ls left s = left_is in
      let right_at : up_right ≡ ancestor_of ls right s = right_is ∙ ap (λ (k : ℕ). ancestor_of ls right (k - 2 ^ n)) (sym d.one_seq) in
      let risen : common_of ls (ancestor_of ls left s) (ancestor_of ls right s) ≡ common_of ls left right =
      common_rises ls ok left right s d.left_known d.right_known (omega arith) (omega (arith, d.one_seq)) (λ e. differ (left_at ∙ e ∙ sym right_at)) in
      record {
        left_known = l.known;
        right_known = r.known;
        one_seq = l.seq ∙ ap (λ (k : ℕ). k - 2 ^ n) d.one_seq ∙ sym r.seq;
        differ = differ;
        same = ap (λ (x : ℕ). common_of ls x up_right) left_at ∙ ap (common_of ls (ancestor_of ls left s)) right_at ∙ risen ∙ d.same;
        agree = ap (λ (x : ℕ). jump_of ls x n) left_is ∙ jump_twice ls ok left n d.left_known ∙ ap (jump_of ls left) one ∙ d.agree ∙ sym (ap (jump_of ls right) one)
            ∙ sym (ap (λ (x : ℕ). jump_of ls x n) right_is ∙ jump_twice ls ok right n d.right_known);
        within = omega (arith, d.within);
      }

  pub few_lower : (taken now left level : ℕ) → 0 < level → IsFew ls taken now left level → IsFew ls taken now left (level - 1)
  few_lower taken now left level some few = elim few [ inl h ↦ inl (omega arith) | inr h ↦ inl (omega (arith, h.0)) ]

  pub few_higher : (taken now next left level up : ℕ) → 0 < level → left < length ls → up ≡ jump_of ls left (level - 1) → next ≤ now + 2 → IsFew ls taken now left level → IsFew ls taken next up (level - 1)
  few_higher taken now next left level up some within is step few =
      let n : ℕ = level - 1 in
      let twice : 2 ^ level ≡ 2 ^ n + 2 ^ n = ap (λ (k : ℕ). 2 ^ k) (let back : level ≡ suc n = omega arith in back) ∙ double n in
      elim few [ inl h ↦ inl (omega arith) | inr h ↦ inr (omega (arith, h.0), omega (arith, h.1, (jump_seq left n up within is).seq, pow_pos n)) ]

  -- at the end both follow the last common ledger
  pub met : (a b left right level up : ℕ) → AreApart ls a b left right level → level ≡ 0 → up ≡ jump_of ls left 0 → up ≡ common_of ls a b
  met a b left right level up d e is =
      is ∙ common_parent ls ok left right d.left_known d.right_known d.one_seq d.differ (ap (jump_of ls left) (sym e) ∙ d.agree ∙ ap (jump_of ls right) e) ∙ d.same

  -- which is known
  pub met_known : (a b left right level up : ℕ) → AreApart ls a b left right level → up ≡ jump_of ls left 0 → up < length ls
  met_known a b left right level up d is = (jump_seq left 0 up d.left_known is).known

  pub few_met : (taken now a b left right level : ℕ) → AreApart ls a b left right level → level ≡ 0 → IsFew ls taken now left level → now ≤ taken + 34
  few_met taken now a b left right level d e few = elim few [
    | inl h ↦ omega arith
    | inr h ↦
        let power : 2 ^ level ≡ 1 = ap (λ (k : ℕ). 2 ^ k) e in
        let none : seq_at ls left ≡ 0 = omega (arith, h.1) in
        absurd (d.differ (root_if left d.left_known none ∙ sym (root_if right d.right_known (sym d.one_seq ∙ none))))
  ]

-- ---- to one sequence first

pub ancestor_told : (ls : List Header) (place s x : ℕ) → slice_get (chain ls place) s ≡ Some x → ancestor_of ls place s ≡ x
ancestor_told ls place s x e = get_or_from_slice_get (chain ls place) s x 0 e

module _ (start mid : Walked) (a b s at : ℕ) (ok : AreLedgers start.ledgers.headers) (goes : GoesOn start mid) where
  pub leveled_left : (result : ℕ) → a < length start.ledgers.headers → s ≡ seq_at start.ledgers.headers b → s ≤ seq_at start.ledgers.headers a → slice_get (chain start.ledgers.headers a) s ≡ Some at
      → result ≡ common_of mid.ledgers.headers at b → result ≡ common_of start.ledgers.headers a b
  leveled_left result known e le told is =
      is ∙ ap (λ (r : Ledgers). common_of r.headers at b) goes.stays ∙ ap (λ (x : ℕ). common_of start.ledgers.headers x b) (sym (ancestor_told start.ledgers.headers a s at told))
      ∙ common_leveled_left start.ledgers.headers ok a b s known e le

  pub leveled_right : (result : ℕ) → b < length start.ledgers.headers → s ≡ seq_at start.ledgers.headers a → s ≤ seq_at start.ledgers.headers b → slice_get (chain start.ledgers.headers b) s ≡ Some at
      → result ≡ common_of mid.ledgers.headers a at → result ≡ common_of start.ledgers.headers a b
  leveled_right result known e le told is =
      is ∙ ap (λ (r : Ledgers). common_of r.headers a at) goes.stays ∙ ap (common_of start.ledgers.headers a) (sym (ancestor_told start.ledgers.headers b s at told))
      ∙ common_leveled_right start.ledgers.headers ok a b s known e le

  -- from one ledger to itself the walk stands
  pub stands_right : (last : Walked) → s ≡ seq_at start.ledgers.headers a → slice_get (chain start.ledgers.headers b) s ≡ Some at → (s ≡ seq_at start.ledgers.headers b → mid ≡ start) → (a ≡ at → last ≡ mid) → a ≡ b → last ≡ start
  stands_right last read told first second one =
      let own : s ≡ seq_at start.ledgers.headers b = read ∙ ap (seq_at start.ledgers.headers) one in
      second (one ∙ sym (own_ancestor start.ledgers.headers b s own) ∙ ancestor_told start.ledgers.headers b s at told) ∙ first own

  -- where no step was taken to one sequence, the two still differ
  pub steps_right : (last : Walked) → GoesOn mid last → slice_get (chain start.ledgers.headers b) s ≡ Some at → (s ≢ seq_at start.ledgers.headers b → TakesStep start mid) → (a ≢ at → TakesStep mid last) → a ≢ b → TakesStep start last
  steps_right last on told first second differ = elim (eqb_tells s (seq_at start.ledgers.headers b)) [
    | inl h ↦
        let still : at ≡ b = sym (ancestor_told start.ledgers.headers b s at told) ∙ own_ancestor start.ledgers.headers b s h.1 in
        let step : TakesStep mid last = second (λ e. differ (e ∙ still)) in
        omega (arith, step, goes.later)
    | inr h ↦
        let step : TakesStep start mid = first h.1 in
        omega (arith, step, on.later)
  ]
