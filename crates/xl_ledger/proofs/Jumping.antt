-- Jumps as they are stored: they stay right as a header is added, and those of the new ledger are filled from its parent's.
use Rattle.std.proofs.Common.{◌≡◌, ℕ, suc, ◌+◌, ◌-◌, ◌^◌, ◌<◌, ◌≤◌, ◌==◌, List, [], ◌∷◌, ◌++◌, length, get_or, set, replicate, Some, None, Option, slice_get, refl, sym, ap, subst, ◌∙◌, arith, inl, inr}
use Rattle.std.proofs.lemmas.Bool.{cases_lt}
use Rattle.std.proofs.lemmas.Bool.Decides.{nat_tests}
use Rattle.std.proofs.lemmas.Nat.{pow_pos}
use Rattle.std.proofs.lemmas.List.{length-append, length-map, length-replicate, length-set, get_or-replicate, get_or-set_same, get_or-set_other}
use Rattle.std.proofs.lemmas.List.Quantifiers.{position-Some}
use Rattle.std.proofs.lemmas.Option.{slice_get_read, slice_get-get_or, get_or_from_slice_get}
use Rattle.xl_base.specs.Ids.{same_id}
use Rattle.xl_ledger.specs.declared.header.Header.{Header}
use Rattle.xl_ledger.specs.declared.ledger.Ledger.{Ledger}
use Rattle.xl_ledger.specs.Limits.{levels}
use Rattle.xl_ledger.specs.Chains.{root_id, ids, header_at, seq_at, place_of, parent_of, Joins, AreLedgers}
use Rattle.xl_ledger.specs.Jumps.{ancestor_of, jump_of, AreJumps, AreJumpsBelow}
use Rattle.xl_ledger.specs.Tables.{headers_of, HaveJumps, IsIndexed}
use Rattle.xl_ledger.proofs.ChainLaws.{unless, HasParent, length-ids}
use Rattle.xl_ledger.proofs.Growing.{header_at-new, seq_at-more, chain-more, place_of-more, AreLedgers-more}
use Rattle.xl_ledger.proofs.Walking.{told_parent}
use Rattle.xl_ledger.proofs.Ancestors.{double, own_ancestor, is_ancestor, ancestor_twice, ancestor_parent, is_jump}

-- all jumps of the root lead to the root
pub jumps_of_root : (ls : List Header) → AreLedgers ls → (jumps : List ℕ) → jumps ≡ replicate levels 0 → AreJumps ls 0 jumps
jumps_of_root ls ok jumps e level lt =
    let here : get_or jumps level 0 ≡ 0 = ap (λ (xs : List ℕ). get_or xs level 0) e ∙ get_or-replicate levels level 0 0 lt in
    let long : level < length jumps = omega (arith, ap length e, length-replicate levels (let root : ℕ = 0 in root)) in
    let root : get_or jumps level 0 ≡ jump_of ls 0 level = omega (arith, (is_jump ls ok 0 level ok.some).earlier) in
    slice_get-get_or jumps level 0 long ∙ ap Some root

module _ (ls : List Header) (ok : AreLedgers ls) (h : Header) where
  ancestor_of-more : (place s : ℕ) → place < length ls → ancestor_of (ls ++ h ∷ []) place s ≡ ancestor_of ls place s
  ancestor_of-more place s lt = ap (λ (xs : List ℕ). get_or xs s 0) (chain-more ls ok h place lt)

  -- a known ledger keeps its jumps
  pub jumps-more : (place : ℕ) (jumps : List ℕ) → place < length ls → AreJumps ls place jumps → AreJumps (ls ++ h ∷ []) place jumps
  jumps-more place jumps lt are level within =
      are level within ∙ ap (λ (n : ℕ). Some (ancestor_of ls place (n - 2 ^ level))) (sym (seq_at-more ls ok h place lt))
      ∙ ap Some (sym (ancestor_of-more place (seq_at (ls ++ h ∷ []) place - 2 ^ level) lt))

  -- the new ledger has those below its parent
  pub jumps-new : (parent : ℕ) (jumps : List ℕ) → Joins ls h → place_of ls h.parent ≡ Some parent → AreJumpsBelow ls parent jumps → AreJumps (ls ++ h ∷ []) (length ls) jumps
  jumps-new parent jumps joins follows are level within =
      let more = ls ++ h ∷ [] in
      let n = length ls in
      let some = ok.some in
      let all : AreLedgers more = AreLedgers-more ls ok h joins in
      let known : parent < length ls = omega (arith, (position-Some (same_id h.parent) (ids ls) parent root_id follows).0, length-ids ls) in
      let is : parent_of more n ≡ Some parent = unless (n == 0) None (place_of more (header_at more n).parent) (grind (arith, nat_tests))
      ∙ ap (λ (x : Header). place_of more x.parent) (header_at-new ls h some) ∙ place_of-more ls h some h.parent parent follows in
      let has : HasParent more all n parent = told_parent more all n parent some (omega (arith, length-append ls (h ∷ []))) is in
      let seq : seq_at more n ≡ seq_at ls parent + 1 = has.next ∙ ap (λ (k : ℕ). k + 1) (seq_at-more ls ok h parent known) in
      let low : seq_at more n - 2 ^ level ≤ seq_at more parent = omega (arith, has.next, pow_pos level) in
      are level within ∙ ap (λ (k : ℕ). Some (ancestor_of ls parent (k - 2 ^ level))) (sym seq)
      ∙ ap Some (sym (ancestor_parent more all n parent (seq_at more n - 2 ^ level) some has low ∙ ancestor_of-more parent (seq_at more n - 2 ^ level) known))

-- ---- filling

pub have_jumps : (ledgers : List Ledger) (table : List (Option ℕ)) → IsIndexed ledgers table → HaveJumps ledgers
have_jumps ledgers table ok = record { known = ok.known; each = λ place l found. (ok.each place l found).jumps }

-- so many jumps are filled, and this is where the last of them leads to
pub record IsFilled (ls : List Header) (parent : ℕ) (jumps : List ℕ) (n at : ℕ) : Type 0 where
  pub long : length jumps ≡ levels
  pub each : (level : ℕ) → level < n → get_or jumps level 0 ≡ ancestor_of ls parent (seq_at ls parent + 1 - 2 ^ level)
  pub last : at ≡ ancestor_of ls parent (seq_at ls parent + 1 - 2 ^ (n - 1))
  pub known : at < length ls

pub filled_all : (ls : List Header) (parent n at : ℕ) (jumps : List ℕ) → IsFilled ls parent jumps n at → levels ≤ n → AreJumpsBelow ls parent jumps
filled_all ls parent n at jumps f all level lt = slice_get-get_or jumps level 0 (omega (arith, f.long)) ∙ ap Some (f.each level (omega arith))

module _ (ledgers : List Ledger) (ok : HaveJumps ledgers) (parent : ℕ) (known : parent < length ledgers) where
  count : length (headers_of ledgers) ≡ length ledgers
  count = length-map ledgers (λ l. l.header)

  pub filled_first : (jumps : List ℕ) → jumps ≡ replicate levels parent → IsFilled (headers_of ledgers) parent jumps 1 parent
  filled_first jumps e =
      let hs = headers_of ledgers in
      let own : seq_at hs parent + 1 - 2 ^ 0 ≡ seq_at hs parent = omega arith in
      let is : parent ≡ ancestor_of hs parent (seq_at hs parent + 1 - 2 ^ 0) = sym (own_ancestor hs parent (seq_at hs parent + 1 - 2 ^ 0) own) in
      let first : get_or jumps 0 0 ≡ parent = ap (λ (xs : List ℕ). get_or xs 0 0) e in
      record {
        long = ap length e ∙ length-replicate levels parent;
        each = λ level lt. let zero_is : 0 ≡ level = omega arith in subst (λ (k : ℕ). get_or jumps k 0 ≡ ancestor_of hs parent (seq_at hs parent + 1 - 2 ^ k)) zero_is (first ∙ is);
        last = is;
        known = omega (arith, count);
      }

  -- the next is as far again from where the last leads to
  pub filled_next : (jumps : List ℕ) (n at i next d : ℕ) (l : Ledger) → IsFilled (headers_of ledgers) parent jumps n at → 1 ≤ n → n < levels → i ≡ at → l ≡ get_or ledgers i l → next ≡ get_or l.jumps (n - 1) d
      → IsFilled (headers_of ledgers) parent (set jumps n next) (n + 1) next
  filled_next jumps n at i next d l f some lt place read next_read = record {
    long = length-set jumps n next ∙ f.long;
    each = λ level within. elim (cases_lt level n) [
      | inl lower ↦ get_or-set_other jumps n level next 0 (omega arith) ∙ f.each level lower
      | inr ge ↦
          let same : n ≡ level = omega arith in
          subst (λ (k : ℕ). get_or (set jumps n next) k 0 ≡ ancestor_of hs parent (seq_at hs parent + 1 - 2 ^ k)) same (get_or-set_same jumps n next 0 (omega (arith, f.long)) ∙ is)
    ];
    last = is ∙ ap (λ (k : ℕ). ancestor_of hs parent (seq_at hs parent + 1 - 2 ^ k)) (let back : n ≡ n + 1 - 1 = omega arith in back);
    known = omega (arith, ap (λ (x : ℕ). x) is, (is_ancestor hs ok.known parent (seq_at hs parent + 1 - 2 ^ n) (omega (arith, count)) (omega (arith, pow_pos n))).known);
  }
    where
      hs : List Header
      hs = headers_of ledgers

      stands : slice_get ledgers at ≡ Some l
      stands = slice_get_read ledgers (length ledgers) at l refl (omega (arith, f.known, count)) (read ∙ ap (λ (k : ℕ). get_or ledgers k l) place)

      jumps_on : next ≡ jump_of hs at (n - 1)
      jumps_on = next_read ∙ get_or_from_slice_get l.jumps (n - 1) (jump_of hs at (n - 1)) d ((ok.each at l stands) (n - 1) (omega arith))

      is : next ≡ ancestor_of hs parent (seq_at hs parent + 1 - 2 ^ n)
      is =
          let s : ℕ = seq_at hs parent + 1 - 2 ^ (n - 1) in
          let low : s ≤ seq_at hs parent = omega (arith, pow_pos (n - 1)) in
          let own : seq_at hs at ≡ s = ap (seq_at hs) f.last ∙ (is_ancestor hs ok.known parent s (omega (arith, count)) low).seq in
          let twice : 2 ^ n ≡ 2 ^ (n - 1) + 2 ^ (n - 1) = ap (λ (k : ℕ). 2 ^ k) (let back : n ≡ suc (n - 1) = omega arith in back) ∙ double (n - 1) in
          jumps_on ∙ ap (λ (k : ℕ). ancestor_of hs at (k - 2 ^ (n - 1))) own ∙ ap (λ (x : ℕ). ancestor_of hs x (s - 2 ^ (n - 1))) f.last
          ∙ ancestor_twice hs ok.known parent s (s - 2 ^ (n - 1)) (omega (arith, count)) low (omega arith) ∙ ap (ancestor_of hs parent) (omega (arith, twice))
