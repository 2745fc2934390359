-- The child that leads by its votes is the best candidate, and its margin is as the votes say.
use Rattle.std.proofs.Common.{◌≡◌, ◌⊎◌, ℕ, zero, suc, ◌+◌, ◌-◌, ◌<◌, ◌≤◌, ◌==◌, ◌||◌, ◌&&◌, Bool, true, false, not, cond, List, [], ◌∷◌, length, Option, Some, None, slice_get, refl, sym, ap, subst, ◌∙◌, arith, inl, inr}
use Rattle.std.specs.Ordering.{nat_cmp, ordering_then, is_gt}
use Rattle.std.specs.Prelude.{IfSome, nat_lt}
use Rattle.std.specs.List.{list_all, range_with_len, AllByRecursion}
use Rattle.std.proofs.lemmas.Bool.{eqb-true, eq-eqb}
use Rattle.std.proofs.lemmas.Bool.Decides.{nat_tests}
use Rattle.std.proofs.lemmas.List.Elements.{recursion_from_All}
use Rattle.std.proofs.lemmas.List.FromFn.{length-range_with_len, get_or-range_with_len}
use Rattle.std.proofs.lemmas.Option.{slice_get_within, slice_get-get_or, get_or_from_slice_get}
use Rattle.xl_ledger.specs.declared.header.Header.{Header}
use Rattle.xl_ledger.specs.declared.vote.Vote.{Vote}
use Rattle.xl_ledger.specs.Chains.{seq_at, parent_of, AreLedgers}
use Rattle.xl_ledger.specs.Votes.{AreKnown, follows, branch_of, id_rank, rank, candidates, best_of, others, margin, uncommitted, unless_too_few, next_of, or_stay, prefer}
use Rattle.xl_ledger.proofs.Walking.{told_parent}
use Rattle.xl_recount.specs.Children.{towards, children_of, votes_for, child_rank, IsOther, Leads, AreChildren, margin_of}
use Rattle.xl_ledger.proofs.Finding.{false_if, follows_is, follows_some, find_only, find_none, all_if, all_at, of_filter, in_filter}
use Rattle.xl_recount.proofs.Towards.{of_towards, counted, branch_of_child}
use Rattle.xl_ledger.proofs.Ranks.{gt_back}

both_true : (a b : Bool) → a ≡ true → b ≡ true → (a && b) ≡ true
both_true true b p q = q
both_true false b p q = absurd cc

parts : (a b : Bool) → (a && b) ≡ true → (a ≡ true) × (b ≡ true)
parts true b e = (refl, e)
parts false b e = absurd cc

either : (a b : Bool) → (a || b) ≡ true → (a ≡ true) ⊎ (b ≡ true)
either true b e = inl refl
either false b e = inr e

either_left : (a b : Bool) → a ≡ true → (a || b) ≡ true
either_left true b e = refl
either_left false b e = absurd cc

either_right : (a b : Bool) → b ≡ true → (a || b) ≡ true
either_right true b e = refl
either_right false b e = e

lt_of : (n : ℕ) → nat_lt 0 n ≡ true → 0 < n
lt_of zero e = absurd cc
lt_of (suc n) e = omega arith

lt_test : (n : ℕ) → 0 < n → nat_lt 0 n ≡ true
lt_test n lt = grind (arith, nat_tests)

-- the candidates, but for one that is left out
abbrev pub picked : Option ℕ → List ℕ → List ℕ
picked None some = some
picked (Some out) some = others out some

module _ (ls : List Header) (ok : AreLedgers ls) (votes : List Vote) (known : AreKnown ls votes) (from : ℕ) where
  abbrev children : List (Option ℕ)
  children = children_of ls votes from

  abbrev some : List ℕ
  some = candidates ls votes from

  pub record IsCandidate (c : ℕ) : Type 0 where
    pub within : c < length ls
    pub child : parent_of ls c ≡ Some from
    pub has : 0 < votes_for children c

  pub candidate_if : (c : ℕ) → 0 < votes_for children c → IsCandidate c
  candidate_if c has =
      let t = counted ls ok votes from c (recursion_from_All (λ v. v.ledger < length ls) votes known) has in
      record { within = t.1.known; child = t.1.child; has = has }

  test : ℕ → Bool
  test c = follows (parent_of ls c) from && nat_lt 0 (branch_of ls votes c)

  of_candidates : (i c : ℕ) → slice_get some i ≡ Some c → IsCandidate c
  of_candidates i c e =
      let found = of_filter (λ c. follows (parent_of ls c) from && nat_lt 0 (branch_of ls votes c)) (range_with_len 0 (length ls)) i c e in
      let both = parts (follows (parent_of ls c) from) (nat_lt 0 (branch_of ls votes c)) found.passes in
      let child = follows_is (parent_of ls c) from both.0 in
      let lt = slice_get_within (range_with_len 0 (length ls)) found.at c found.stands in
      let size = length-range_with_len 0 (length ls) in
      let place : c ≡ found.at = sym (get_or_from_slice_get (range_with_len 0 (length ls)) found.at c 0 found.stands) ∙ get_or-range_with_len 0 (length ls) found.at 0 (omega arith) ∙ omega arith in
      record { within = omega arith; child = child; has = subst (λ (n : ℕ). 0 < n) (branch_of_child ls ok votes from c child known) (lt_of (branch_of ls votes c) both.1) }

  pub record Is (xs : List ℕ) (c : ℕ) : Type 0 where
    pub at : ℕ
    pub stands : slice_get xs at ≡ Some c

  in_candidates : (c : ℕ) → IsCandidate c → Is some c
  in_candidates c is =
      let size = length-range_with_len 0 (length ls) in
      let stands : slice_get (range_with_len 0 (length ls)) c ≡ Some c =
      slice_get-get_or (range_with_len 0 (length ls)) c 0 (omega (arith, is.within)) ∙ ap Some (get_or-range_with_len 0 (length ls) c 0 is.within ∙ omega arith) in
      let more : 0 < branch_of ls votes c = subst (λ (n : ℕ). 0 < n) (sym (branch_of_child ls ok votes from c is.child known)) is.has in
      let kept = in_filter (λ c. follows (parent_of ls c) from && nat_lt 0 (branch_of ls votes c)) (range_with_len 0 (length ls)) c c stands (both_true (follows (parent_of ls c) from) (nat_lt 0 (branch_of ls votes c)) (follows_some (parent_of ls c) from is.child) (lt_test (branch_of ls votes c) more)) in
      record { at = kept.at; stands = kept.stands }

  of_picked : (out : Option ℕ) (i c : ℕ) → slice_get (picked out some) i ≡ Some c → IsCandidate c × IsOther out c
  of_picked None i c e = (of_candidates i c e, tt)
  of_picked (Some b) i c e =
      let found = of_filter (λ c. not (c == b)) some i c e in
      (of_candidates found.at c found.stands, λ same. let t : (c == b) ≡ true = eq-eqb c b same in let n : not (c == b) ≡ false = ap not t in let p : not (c == b) ≡ true = found.passes in let z : true ≡ false = sym p ∙ n in cc)

  in_picked : (out : Option ℕ) (c : ℕ) → IsCandidate c → IsOther out c → Is (picked out some) c
  in_picked None c is other = in_candidates c is
  in_picked (Some b) c is other =
      let there = in_candidates c is in
      let kept = in_filter (λ c. not (c == b)) some there.at c there.stands (ap not (false_if (c == b) (λ t. other (eqb-true c b t)))) in
      record { at = kept.at; stands = kept.stands }

  same_rank : (a b : ℕ) → IsCandidate a → IsCandidate b → rank ls votes a b ≡ child_rank ls children a b
  same_rank a b ca cb =
      ap (λ (n : ℕ). ordering_then (nat_cmp n (branch_of ls votes b)) (id_rank ls a b)) (branch_of_child ls ok votes from a ca.child known)
      ∙ ap (λ (n : ℕ). ordering_then (nat_cmp (votes_for children a) n) (id_rank ls a b)) (branch_of_child ls ok votes from b cb.child known)

  -- the leading child is the best candidate
  pub best_is : (out best : Option ℕ) → Leads ls children children out best → best_of ls votes (picked out some) ≡ best
  best_is out None leads = find_none (λ c. list_all (λ d. d == c || is_gt (rank ls votes c d)) (picked out some)) (picked out some)
      (λ i x at. let is = of_picked out i x at in absurd (leads x (is.0.has, is.1)))
  best_is out (Some b) leads =
      let cb = candidate_if b leads.0.0 in
      let there = in_picked out b cb leads.0.1 in
      let above : (d : ℕ) → IsCandidate d → IsOther out d → (d ≡ b) ⊎ (is_gt (child_rank ls children b d) ≡ true) = λ d cd od. leads.1 d (cd.has, od) in
      let leads_all : list_all (λ d. d == b || is_gt (rank ls votes b d)) (picked out some) ≡ true =
      all_if (λ d. d == b || is_gt (rank ls votes b d)) (picked out some) (λ i d at. let is = of_picked out i d at in elim (above d is.0 is.1) [
        | inl same ↦ either_left (d == b) (is_gt (rank ls votes b d)) (eq-eqb d b same)
        | inr gt ↦ either_right (d == b) (is_gt (rank ls votes b d)) (ap is_gt (same_rank b d cb is.0) ∙ gt)
      ]) in
      let only : (i x : ℕ) → slice_get (picked out some) i ≡ Some x → list_all (λ d. d == x || is_gt (rank ls votes x d)) (picked out some) ≡ true → x ≡ b =
      λ i x at all. let is = of_picked out i x at in
      elim (either (b == x) (is_gt (rank ls votes x b)) (all_at (λ d. d == x || is_gt (rank ls votes x d)) (picked out some) there.at b all there.stands)) [
        | inl same ↦ sym (eqb-true b x same)
        | inr gt ↦ elim (above x is.0 is.1) [
          | inl same ↦ same
          | inr more ↦ let less = gt_back ls ok (votes_for children) b x more in let f : true ≡ false = sym gt ∙ ap is_gt (same_rank x b is.0 cb) ∙ less in absurd cc
        ]
      ] in
      find_only (λ c. list_all (λ d. d == c || is_gt (rank ls votes c d)) (picked out some)) (picked out some) there.at b there.stands leads_all only

  pub margin_is : (b : ℕ) (second : Option ℕ) → 0 < votes_for children b → Leads ls children children (Some b) second → margin ls votes b second ≡ margin_of ls children b second
  margin_is b None has leads = branch_of_child ls ok votes from b (candidate_if b has).child known
  margin_is b (Some s) has leads =
      ap (λ (n : ℕ). n - branch_of ls votes s + cond (is_gt (id_rank ls b s)) 1 0) (branch_of_child ls ok votes from b (candidate_if b has).child known)
      ∙ ap (λ (n : ℕ). votes_for children b - n + cond (is_gt (id_rank ls b s)) 1 0) (branch_of_child ls ok votes from s (candidate_if s leads.0.0).child known)

  seq_of_child : (b : ℕ) → IsCandidate b → seq_at ls b ≡ seq_at ls from + 1
  seq_of_child b is = (told_parent ls ok b from (has_parent b is.child) is.within is.child).next
    where
      has_parent : (c : ℕ) → parent_of ls c ≡ Some from → 0 < c
      has_parent zero e = absurd cc
      has_parent (suc c) e = omega arith

  pub next_none : (largest : ℕ) → Leads ls children children None None → None ≡ next_of ls votes largest from
  next_none largest leads = ap (unless_too_few ls votes largest from some) (sym (best_is None None leads))

  pub next_some : (largest b : ℕ) (second : Option ℕ) → Leads ls children children None (Some b) → Leads ls children children (Some b) second
      → next_of ls votes largest from ≡ cond (nat_lt (uncommitted ls votes (seq_at ls b) largest) (margin_of ls children b second)) (Some b) None
  next_some largest b second first later =
      ap (unless_too_few ls votes largest from some) (best_is None (Some b) first)
      ∙ ap (λ (o : Option ℕ). cond (nat_lt (uncommitted ls votes (seq_at ls from + 1) largest) (margin ls votes b o)) (Some b) None) (best_is (Some b) second later)
      ∙ ap (λ (n : ℕ). cond (nat_lt (uncommitted ls votes (seq_at ls from + 1) largest) n) (Some b) None) (margin_is b second first.0.0 later)
      ∙ ap (λ (s : ℕ). cond (nat_lt (uncommitted ls votes s largest) (margin_of ls children b second)) (Some b) None) (sym (seq_of_child b (candidate_if b first.0.0)))

-- ---- picking, and going on

module _ (ls : List Header) (ok : AreLedgers ls) where
  child_known : (from to : ℕ) → to < length ls → IfSome (towards ls from to) (λ c. c < length ls)
  child_known from to within = by_cases (towards ls from to) refl
    where
      by_cases : (o : Option ℕ) → towards ls from to ≡ o → IfSome o (λ c. c < length ls)
      by_cases None e = tt
      by_cases (Some c) e = (of_towards ls ok from to c within e).known

  each_known : (votes : List Vote) (from : ℕ) → AllByRecursion (λ v. v.ledger < length ls) votes → AreChildren ls (children_of ls votes from)
  each_known [] from known = tt
  each_known (v ∷ votes) from known = (child_known from v.ledger known.0, each_known votes from known.1)

  pub children_known : (votes : List Vote) (from : ℕ) (cs : List (Option ℕ)) → AreKnown ls votes → cs ≡ children_of ls votes from → AreChildren ls cs
  children_known votes from cs known e = subst (λ (x : List (Option ℕ)). AreChildren ls x) (sym e) (each_known votes from (recursion_from_All (λ v. v.ledger < length ls) votes known))

  leads_of : (cs ds : List (Option ℕ)) (out best best' : Option ℕ) → cs ≡ ds → best ≡ best' → Leads ls cs cs out best → Leads ls ds ds out best'
  leads_of cs ds out best best' e f leads = subst (λ (o : Option ℕ). Leads ls ds ds out o) f (subst (λ (x : List (Option ℕ)). Leads ls x x out best) e leads)

  pub picks_none : (votes : List Vote) (from largest : ℕ) (cs : List (Option ℕ)) (best : Option ℕ) → AreKnown ls votes → cs ≡ children_of ls votes from → best ≡ None → Leads ls cs cs None best → None ≡ next_of ls votes largest from
  picks_none votes from largest cs best known e none leads = next_none ls ok votes known from largest (leads_of cs (children_of ls votes from) None best None e none leads)

  pub picks : (votes : List Vote) (from largest b seq u m : ℕ) (cs : List (Option ℕ)) (best second : Option ℕ) → AreKnown ls votes → cs ≡ children_of ls votes from → best ≡ Some b
      → Leads ls cs cs None best → Leads ls cs cs (Some b) second → seq ≡ seq_at ls b → u ≡ uncommitted ls votes seq largest → m ≡ margin_of ls cs b second
      → next_of ls votes largest from ≡ cond (nat_lt u m) (Some b) None
  picks votes from largest b seq u m cs best second known e is first later seq_is u_is m_is =
      next_some ls ok votes known from largest b second (leads_of cs (children_of ls votes from) None best (Some b) e is first) (leads_of cs (children_of ls votes from) (Some b) second second e refl later)
      ∙ ap (λ (n : ℕ). cond (nat_lt n (margin_of ls (children_of ls votes from) b second)) (Some b) None) (ap (λ (s : ℕ). uncommitted ls votes s largest) (sym seq_is) ∙ sym u_is)
      ∙ ap (λ (n : ℕ). cond (nat_lt u n) (Some b) None) (ap (λ (x : List (Option ℕ)). margin_of ls x b second) (sym e) ∙ sym m_is)

pub chosen : (u m b : ℕ) (o : Option ℕ) → o ≡ cond (nat_lt u m) (Some b) None → u < m → Some b ≡ o
chosen u m b o e lt = sym (e ∙ by_cases (nat_lt u m) (grind (arith, nat_tests)))
  where
    by_cases : (t : Bool) → t ≡ true → cond t (Some b) None ≡ Some b
    by_cases true t = refl
    by_cases false t = absurd cc

pub not_chosen : (u m b : ℕ) (o : Option ℕ) → o ≡ cond (nat_lt u m) (Some b) None → m ≤ u → None ≡ o
not_chosen u m b o e le = sym (e ∙ by_cases (nat_lt u m) (grind (arith, nat_tests)))
  where
    by_cases : (t : Bool) → t ≡ false → cond t (Some b) None ≡ None
    by_cases true t = absurd cc
    by_cases false t = refl

pub prefer_stays : (ls : List Header) (votes : List Vote) (largest n x : ℕ) → next_of ls votes largest x ≡ None → prefer ls votes largest n x ≡ x
prefer_stays ls votes largest zero x e = refl
prefer_stays ls votes largest (suc n) x e = ap (λ (o : Option ℕ). or_stay x o (λ next. prefer ls votes largest n next)) e

pub prefer_goes : (ls : List Header) (votes : List Vote) (largest n m x c : ℕ) → n ≡ suc m → next_of ls votes largest x ≡ Some c → prefer ls votes largest n x ≡ prefer ls votes largest m c
prefer_goes ls votes largest n m x c is e = ap (λ (k : ℕ). prefer ls votes largest k x) is ∙ ap (λ (o : Option ℕ). or_stay x o (λ next. prefer ls votes largest m next)) e
