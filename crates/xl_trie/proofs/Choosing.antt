-- The best of the candidates, by the spans below a node.
use Rattle.std.proofs.Common.{◌≡◌, ◌≢◌, ◌⊎◌, ℕ, ◌+◌, ◌-◌, ◌<◌, ◌≤◌, ◌==◌, ◌||◌, Bool, true, false, not, cond, List, Option, Some, None, sym, ap, subst, ◌∙◌, arith, inl, inr}
use Rattle.xl_trie.proofs.Common.{cases_eq, cases_Bool, nat_cmp, ordering_then, is_gt, list_all, nat_lt, cases_Bool, eqb-true, eq-eqb, eqb-false, ne_eqb, or_cases, lt-ltb, le-ltb, not-true, not_from_false, Header, Vote, seq_at, AreLedgers, branch_of, uncommitted, id_rank, rank, candidates, best_of, others, margin, unless_too_few, next_of, Name, Span, In, IsKid, AreSpans, leads, lead, IsBest, GoesTo, or_left, or_right}
use Rattle.xl_trie.proofs.Listing.{some_is, true_false, all_if, all_at, find_in, find_no, in_filter, to_filter}
use Rattle.xl_trie.proofs.Ways.{length_way, of_parent}
use Rattle.xl_ledger.proofs.Ranks.{gt_back, gt_or}
use Rattle.xl_trie.proofs.Firsts.{of_candidates, to_candidates, first_is, first_of}

bit_le : (b : Bool) → cond {A = ℕ} b 1 0 ≤ 1
bit_le b = grind (arith, cases_Bool b)

module _ (hs : List Header) (ok : AreLedgers hs) (votes : List Vote) where
  -- the one that ranks above each other
  pub best_is : (some : List ℕ) (c : ℕ) → In c some → ((d : ℕ) → In d some → (d ≡ c) ⊎ (is_gt (rank hs votes c d) ≡ true)) → best_of hs votes some ≡ Some c
  best_is some c i above =
      find_in (λ x. list_all (λ d. d == x || is_gt (rank hs votes x d)) some) some c i
      (all_if (λ d. d == c || is_gt (rank hs votes c d)) some (λ d j. elim (above d j) [
        | inl same ↦ or_left (d == c) (is_gt (rank hs votes c d)) (eq-eqb d c same)
        | inr gt ↦ or_right (d == c) (is_gt (rank hs votes c d)) gt
      ]))
      (λ x j t. elim (or_cases (c == x) (is_gt (rank hs votes x c)) (all_at (λ d. d == x || is_gt (rank hs votes x d)) some t c i)) [
        | inl same ↦ sym (eqb-true c x same)
        | inr gt ↦ elim (above x j) [
          | inl same ↦ same
          | inr more ↦ true_false (is_gt (rank hs votes x c)) gt (gt_back hs ok (branch_of hs votes) c x more)
        ]
      ])

  pub best_none : (some : List ℕ) → ((d : ℕ) → In d some → ⊥) → best_of hs votes some ≡ None
  best_none some none = find_no (λ x. list_all (λ d. d == x || is_gt (rank hs votes x d)) some) some (λ x i. absurd (none x i))

  pub in_others : (c d : ℕ) (some : List ℕ) → In d (others c some) → In d some × (d ≢ c)
  in_others c d some i = let f = in_filter (λ x. not (x == c)) some d i in (f.0, eqb-false d c (not-true (d == c) f.1))

  pub to_others : (c d : ℕ) (some : List ℕ) → In d some → d ≢ c → In d (others c some)
  to_others c d some i other = to_filter (λ x. not (x == c)) some d i (not_from_false (d == c) (ne_eqb d c other))

  -- where the best of the candidates and the second are known
  pub next_if : (largest x best u l : ℕ) (second : Option ℕ) → best_of hs votes (candidates hs votes x) ≡ Some best → best_of hs votes (others best (candidates hs votes x)) ≡ second → u ≡ uncommitted hs votes (seq_at hs x + 1) largest → l ≡ margin hs votes best second → next_of hs votes largest x ≡ cond (nat_lt u l) (Some best) None
  next_if largest x best u l second first then few ahead =
      ap (unless_too_few hs votes largest x (candidates hs votes x)) first
      ∙ ap (λ o. cond {A = Option ℕ} (nat_lt (uncommitted hs votes (seq_at hs x + 1) largest) (margin hs votes best o)) (Some best) None) then
      ∙ ap (λ k. cond {A = Option ℕ} (nat_lt k (margin hs votes best second)) (Some best) None) (sym few)
      ∙ ap (λ k. cond {A = Option ℕ} (nat_lt u k) (Some best) None) (sym ahead)

  pub next_none : (largest x : ℕ) → ((d : ℕ) → In d (candidates hs votes x) → ⊥) → next_of hs votes largest x ≡ None
  next_none largest x none = ap (unless_too_few hs votes largest x (candidates hs votes x)) (best_none (candidates hs votes x) none)

module _ (hs : List Header) (ok : AreLedgers hs) (votes : List Vote) (S : Name → Option Span) (T : AreSpans hs votes S None) (a : Name) (n : Span) (e : S a ≡ Some n) where
  alike : (b d : Name) (m o : Span) → IsKid S a b m → IsKid S a d o → leads hs m o ≡ is_gt (rank hs votes m.first o.first)
  alike b d m o p q =
      let fm = first_is hs ok votes S T a n e b m p in
      let fo = first_is hs ok votes S T a n e d o q in
      ap (λ k. is_gt (ordering_then (nat_cmp k o.branch) (id_rank hs m.first o.first))) (sym fm.counted)
      ∙ ap (λ k. is_gt (ordering_then (nat_cmp (branch_of hs votes m.first) k) (id_rank hs m.first o.first))) (sym fo.counted)

  -- whom no other child leads ranks above it
  above_other : (b d : Name) (m o : Span) → IsKid S a b m → IsKid S a d o → leads hs o m ≡ false → (o.first ≡ m.first) ⊎ (is_gt (rank hs votes m.first o.first) ≡ true)
  above_other b d m o p q none = grind (arith, cases_eq o.first m.first, gt_or hs ok (branch_of hs votes) o.first m.first (T.linked.first d o q.0) (T.linked.first b m p.0), alike d b o m q p, none)

  pub first_best : (b : Name) → (best : IsBest hs S a None (Some b)) → best_of hs votes (candidates hs votes n.ledger) ≡ Some best.0.first
  first_best b best =
      best_is hs ok votes (candidates hs votes n.ledger) best.0.first
      (to_candidates hs ok votes n.ledger best.0.first (first_is hs ok votes S T a n e b best.0 best.1).candidate)
      (λ d i.
      let f = first_of hs ok votes S T a n e d (of_candidates hs ok votes n.ledger d i) in
      elim (best.3 f.name f.node f.kid) [
        | inl empty ↦ absurd empty
        | inr (inl wrong) ↦ absurd cc
        | inr (inr less) ↦ subst (λ x. (x ≡ best.0.first) ⊎ (is_gt (rank hs votes best.0.first x) ≡ true)) f.is (above_other b f.name best.0 f.node best.1 f.kid less)
      ])

  pub second_none : (b : Name) (m : Span) → IsKid S a b m → IsBest hs S a (Some b) None → best_of hs votes (others m.first (candidates hs votes n.ledger)) ≡ None
  second_none b m p none =
      best_none hs ok votes (others m.first (candidates hs votes n.ledger)) (λ d i.
      let o = in_others hs ok votes m.first d (candidates hs votes n.ledger) i in
      let f = first_of hs ok votes S T a n e d (of_candidates hs ok votes n.ledger d o.0) in
      grind (arith, none f.name f.node f.kid, o.1, f.is, f.kid.0, p.0))

  pub second_some : (b s : Name) (m : Span) → IsKid S a b m → (second : IsBest hs S a (Some b) (Some s)) → best_of hs votes (others m.first (candidates hs votes n.ledger)) ≡ Some second.0.first
  second_some b s m p second =
      let differs : second.0.first ≢ m.first = λ same. second.2 (ap Some (sym (T.linked.apart a s b second.0 m second.1 p same))) in
      best_is hs ok votes (others m.first (candidates hs votes n.ledger)) second.0.first
      (to_others hs ok votes m.first second.0.first (candidates hs votes n.ledger) (to_candidates hs ok votes n.ledger second.0.first (first_is hs ok votes S T a n e s second.0 second.1).candidate) differs)
      (λ d i.
      let o = in_others hs ok votes m.first d (candidates hs votes n.ledger) i in
      let f = first_of hs ok votes S T a n e d (of_candidates hs ok votes n.ledger d o.0) in
      elim (second.3 f.name f.node f.kid) [
        | inl empty ↦ absurd empty
        | inr (inl same) ↦
            let own : f.node ≡ m = some_is f.node m (sym f.kid.0 ∙ ap S (sym (some_is b f.name same)) ∙ p.0) in
            absurd (o.1 (sym f.is ∙ ap (λ (x : Span). x.first) own))
        | inr (inr less) ↦ subst (λ x. (x ≡ second.0.first) ⊎ (is_gt (rank hs votes second.0.first x) ≡ true)) f.is (above_other s f.name second.0 f.node second.1 f.kid less)
      ])

  -- the lead is the margin of the definitions, and no more than the votes
  pub lead_some : (b s : Name) (m o : Span) → IsKid S a b m → IsKid S a s o → lead hs m (Some o) ≡ margin hs votes m.first (Some o.first)
  lead_some b s m o p q =
      ap (λ k. k - o.branch + cond {A = ℕ} (is_gt (id_rank hs m.first o.first)) 1 0) (sym (first_is hs ok votes S T a n e b m p).counted)
      ∙ ap (λ k. branch_of hs votes m.first - k + cond {A = ℕ} (is_gt (id_rank hs m.first o.first)) 1 0) (sym (first_is hs ok votes S T a n e s o q).counted)

  pub lead_few : (b s : Name) (m o : Span) → IsKid S a b m → IsKid S a s o → lead hs m (Some o) ≤ m.branch
  lead_few b s m o p q =
      let fm = first_is hs ok votes S T a n e b m p in
      let fo = first_is hs ok votes S T a n e s o q in
      omega (arith, fm.candidate.some, fm.counted, fo.candidate.some, fo.counted, bit_le (is_gt (id_rank hs m.first o.first)))

  -- a child's first ledger has the next sequence
  pub first_seq : (b : Name) (m : Span) → IsKid S a b m → seq_at hs m.first ≡ seq_at hs n.ledger + 1
  first_seq b m p =
      let f = first_is hs ok votes S T a n e b m p in
      omega (arith, (of_parent hs ok m.first n.ledger f.candidate.known f.candidate.parent).long, length_way hs m.first, length_way hs n.ledger)

  -- where no child is left out and none is best there is none
  pub goes_nowhere : (largest : ℕ) → IsBest hs S a None None → next_of hs votes largest n.ledger ≡ None
  goes_nowhere largest none = next_none hs ok votes largest n.ledger (λ d i.
      let f = first_of hs ok votes S T a n e d (of_candidates hs ok votes n.ledger d i) in
      elim (none f.name f.node f.kid) [ inl empty ↦ empty | inr wrong ↦ absurd cc ])

  -- the choice, from what the code knows of it
  module _ (largest u l s : ℕ) (b : Name) (best : IsBest hs S a None (Some b)) (m : Span) (there : S b ≡ Some m) (read : s ≡ seq_at hs m.first) (few : u ≡ uncommitted hs votes s largest) where
    own : best.0 ≡ m
    own = some_is best.0 m (sym best.1.0 ∙ there)

    kid : IsKid S a b m
    kid = subst (λ (x : Span). IsKid S a b x) own best.1

    here : best_of hs votes (candidates hs votes n.ledger) ≡ Some m.first
    here = first_best b best ∙ ap (λ (x : Span). Some x.first) own

    below : u ≡ uncommitted hs votes (seq_at hs n.ledger + 1) largest
    below = few ∙ ap (λ k. uncommitted hs votes k largest) (read ∙ first_seq b m kid)

    pub record Choice : Type 0 where
      pub is : next_of hs votes largest n.ledger ≡ cond (nat_lt u l) (Some m.first) None
      pub more : l ≤ m.branch

    pub choice_one : IsBest hs S a (Some b) None → l ≡ lead hs m None → Choice
    choice_one none ahead = record {
      is = next_if hs ok votes largest n.ledger m.first u l None here (second_none b m kid none) below (ahead ∙ sym (first_is hs ok votes S T a n e b m kid).counted);
      more = omega (arith, ahead);
    }

    pub choice_two : (t : Name) (o : Span) → IsBest hs S a (Some b) (Some t) → S t ≡ Some o → l ≡ lead hs m (Some o) → Choice
    choice_two t o second at ahead =
        let same = some_is second.0 o (sym second.1.0 ∙ at) in
        let other : IsKid S a t o = subst (λ (x : Span). IsKid S a t x) same second.1 in
        record {
          is = next_if hs ok votes largest n.ledger m.first u l (Some o.first) here (second_some b t m kid second ∙ ap (λ (x : Span). Some x.first) same) below (ahead ∙ lead_some b t m o kid other);
          more = omega (arith, ahead, lead_few b t m o kid other);
        }

    pub chosen : Choice → u < l → GoesTo hs votes S largest a n.ledger (Some b)
    chosen c lt = (m, kid, c.is ∙ ap (λ t. cond {A = Option ℕ} t (Some m.first) None) (lt-ltb u l lt), omega (arith, lt, c.more, below))

    pub not_chosen : Choice → l ≤ u → GoesTo hs votes S largest a n.ledger None
    not_chosen c le = c.is ∙ ap (λ t. cond {A = Option ℕ} t (Some m.first) None) (le-ltb u l le)
