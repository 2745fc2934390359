-- Along a span the votes go on as long as more are for it than are uncommitted.
use Rattle.std.proofs.Common.{◌≡◌, ℕ, zero, suc, ◌+◌, ◌-◌, ◌<◌, ◌≤◌, cond, List, length, take, Option, Some, None, slice_get, refl, sym, ap, subst, ◌∙◌, arith, inl}
use Rattle.xl_trie.proofs.Common.{nat_lt, max, ltb-true, lt-ltb, le-ltb, Header, Vote, seq_at, chain, AreLedgers, uncommitted, candidates, others, next_of, or_stay, prefer, Name, Span, In, IsKid, AreSpans, EndsAt, way, OnWay, length-take-le}
use Rattle.xl_trie.proofs.Listing.{count_le}
use Rattle.xl_trie.proofs.Trees.{on_self, front_of, on_through, same_ledger, begin_size, begin_on, hung, through, span_branch}
use Rattle.xl_trie.proofs.Ways.{length_way, way_at, way_short, stop_at, parent_if, of_parent}
use Rattle.xl_trie.proofs.Firsts.{IsCandidate, of_candidates, to_candidates, has_vote, first_is}
use Rattle.xl_trie.proofs.Choosing.{best_is, best_none, in_others, next_if, first_seq}

module _ (hs : List Header) (ok : AreLedgers hs) (votes : List Vote) (largest : ℕ) where
  pub stays : (x : ℕ) → next_of hs votes largest x ≡ None → EndsAt hs votes largest x x
  stays x none zero le = refl
  stays x none (suc k) le = ap (λ o. or_stay x o (λ y. prefer hs votes largest k y)) none

  goes_on : (x c r : ℕ) → x < length hs → next_of hs votes largest x ≡ Some c → seq_at hs c ≡ seq_at hs x + 1 → EndsAt hs votes largest c r → EndsAt hs votes largest x r
  goes_on x c r known next up ends zero le = absurd (omega (arith, way_short hs ok x x (omega arith) known, length_way hs x))
  goes_on x c r known next up ends (suc k) le = ap (λ o. or_stay x o (λ y. prefer hs votes largest k y)) next ∙ ends k (omega arith)

  unc_rises : (s t : ℕ) → s ≤ t → uncommitted hs votes s largest ≤ uncommitted hs votes t largest
  unc_rises s t le = count_le (λ (v : Vote). nat_lt (seq_at hs v.ledger) (max s largest)) (λ (v : Vote). nat_lt (seq_at hs v.ledger) (max t largest)) votes
      (λ v i e. let h = ltb-true (seq_at hs v.ledger) (max s largest) e in lt-ltb (seq_at hs v.ledger) (max t largest) (omega arith))

module _ (hs : List Header) (ok : AreLedgers hs) (votes : List Vote) (largest : ℕ) (S : Name → Option Span) (T : AreSpans hs votes S None) (a : Name) (s : Span) (e : S a ≡ Some s) (b : Name) (t : Span) (kid : IsKid S a b t) where
  -- a ledger inside the span or at its end
  record Stands (c k : ℕ) : Type 0 where
    pub known : c < length hs
    pub on : OnWay hs c t.ledger
    pub size : length (way hs c) ≡ k
    pub below : length (way hs s.ledger) < k

  stands_at : (c k : ℕ) → c < length hs → length (way hs s.ledger) < k → k ≤ length (way hs t.ledger) → way hs c ≡ take k (way hs t.ledger) → Stands c k
  stands_at c k known lo hi is =
      let size = ap (length {A = ℕ}) is ∙ length-take-le k (way hs t.ledger) hi in
      record { known = known; on = (omega (arith, size, hi), ap (λ j. take j (way hs t.ledger)) size ∙ sym is); size = size; below = lo }

  -- inside the span there is one candidate, and all votes of the span are for it
  inside : (c d k : ℕ) → Stands c k → Stands d (k + 1) → next_of hs votes largest c ≡ cond (nat_lt (uncommitted hs votes (k + 1) largest) t.branch) (Some d) None
  inside c d k C D =
      let counted = span_branch hs ok S T.linked votes None T a b s t d e kid D.known D.on (omega (arith, D.size, D.below)) in
      let f = first_is hs ok votes S T a s e b t kid in
      let is : IsCandidate hs ok votes c d = record { known = D.known; parent = parent_if hs ok d c D.known C.known (omega (arith, C.size, D.size)) (front_of hs c d t.ledger C.on D.on (omega (arith, C.size, D.size))).1; some = omega (arith, counted, f.candidate.some, f.counted) } in
      let only : (x : ℕ) → In x (candidates hs votes c) → x ≡ d = λ x i.
      (let cand = of_candidates hs ok votes c x i in
      let v = has_vote hs ok votes S T x cand.some in
      let p = of_parent hs ok x c cand.known cand.parent in
      let far = on_through hs c x v.vote.ledger (omega (arith, p.long), p.on) v.on in
      let whole = through hs ok S T.linked votes None T a b s t c v.vote e kid C.on (omega (arith, C.size, C.below)) v.there far in
      same_ledger hs ok x d cand.known D.known (front_of hs x d v.vote.ledger v.on (on_through hs d t.ledger v.vote.ledger D.on whole) (omega (arith, p.long, C.size, D.size))) (omega (arith, p.long, C.size, D.size))) in
      let best = best_is hs ok votes (candidates hs votes c) d (to_candidates hs ok votes c d is) (λ x i. inl (only x i)) in
      let second = best_none hs ok votes (others d (candidates hs votes c)) (λ x i. let o = in_others hs ok votes d x (candidates hs votes c) i in o.1 (only x o.0)) in
      next_if hs ok votes largest c d (uncommitted hs votes (k + 1) largest) t.branch None best second (ap (λ q. uncommitted hs votes q largest) (omega (arith, length_way hs c, C.size))) (sym counted)

  -- the ledger after one inside the span
  after : (c k : ℕ) → Stands c k → k < length (way hs t.ledger) → (d : ℕ) × Stands d (k + 1)
  after c k C lt =
      let d = stop_at hs ok t.ledger (k + 1) (T.linked.known b t kid.0) (omega (arith, lt)) in
      (d.ledger, stands_at d.ledger (k + 1) d.known (omega (arith, C.below)) (omega (arith, lt)) d.is)

  -- down to a ledger of the span
  runs : (steps c k y l r : ℕ) → Stands c k → Stands y l → l ≡ steps + k → uncommitted hs votes l largest < t.branch → EndsAt hs votes largest y r → EndsAt hs votes largest c r
  runs zero c k y l r C Y sum more ends =
      subst (λ x. EndsAt hs votes largest x r) (same_ledger hs ok y c Y.known C.known (front_of hs y c t.ledger Y.on C.on (omega (arith, Y.size, C.size, sum))) (omega (arith, Y.size, C.size, sum))) ends
  runs (suc steps) c k y l r C Y sum more ends =
      let d = after c k C (omega (arith, Y.on.0, Y.size, sum)) in
      let small : uncommitted hs votes (k + 1) largest < t.branch = omega (arith, more, unc_rises hs ok votes largest (k + 1) l (omega (arith, sum))) in
      let next : next_of hs votes largest c ≡ Some d.0 = inside c d.0 k C d.1 ∙ ap (λ q. cond {A = Option ℕ} q (Some d.0) None) (lt-ltb (uncommitted hs votes (k + 1) largest) t.branch small) in
      goes_on hs ok votes largest c d.0 r C.known next (omega (arith, C.size, d.1.size, length_way hs c, length_way hs d.0)) (runs steps d.0 (k + 1) y l r d.1 Y (omega (arith, sum)) more ends)

  halts : (y l : ℕ) → Stands y l → l < length (way hs t.ledger) → t.branch ≤ uncommitted hs votes (l + 1) largest → EndsAt hs votes largest y y
  halts y l Y hi few =
      let d = after y l Y hi in
      stays hs ok votes largest y (inside y d.0 l Y d.1 ∙ ap (λ q. cond {A = Option ℕ} q (Some d.0) None) (le-ltb (uncommitted hs votes (l + 1) largest) t.branch few))

  -- from the span above
  module _ (next : next_of hs votes largest s.ledger ≡ Some t.first) where
    from_above : (y l r : ℕ) → Stands y l → uncommitted hs votes l largest < t.branch → EndsAt hs votes largest y r → EndsAt hs votes largest s.ledger r
    from_above y l r Y more ends =
        let h = hung hs ok S T.linked a b s t e kid in
        let size = begin_size hs ok t.ledger s.ledger t.first h.above h.first in
        let F : Stands t.first (length (way hs s.ledger) + 1) = record { known = T.linked.first b t kid.0; on = begin_on hs ok t.ledger s.ledger t.first h.above h.first; size = size; below = omega arith } in
        goes_on hs ok votes largest s.ledger t.first r (T.linked.known a s e) next (first_seq hs ok votes S T a s e b t kid)
        (runs (l - (length (way hs s.ledger) + 1)) t.first (length (way hs s.ledger) + 1) y l r F Y (omega (arith, Y.below)) more ends)

    -- all along the span
    pub whole_span : (r : ℕ) → uncommitted hs votes (seq_at hs t.ledger) largest < t.branch → EndsAt hs votes largest t.ledger r → EndsAt hs votes largest s.ledger r
    whole_span r more ends =
        from_above t.ledger (seq_at hs t.ledger) r (record { known = T.linked.known b t kid.0; on = on_self hs t.ledger; size = length_way hs t.ledger; below = omega (arith, (hung hs ok S T.linked a b s t e kid).above, length_way hs t.ledger) }) more ends

    -- as far as the votes are for it
    pub part_span : (l y : ℕ) → slice_get (chain hs t.ledger) l ≡ Some y → y < length hs → seq_at hs s.ledger < l → l < seq_at hs t.ledger → uncommitted hs votes l largest < t.branch → t.branch ≤ uncommitted hs votes (l + 1) largest → EndsAt hs votes largest s.ledger y
    part_span l y at ky lo hi more few =
        let Y = stands_at y l ky (omega (arith, lo, length_way hs s.ledger)) (omega (arith, hi, length_way hs t.ledger)) (way_at hs ok t.ledger l y (T.linked.known b t kid.0) at) in
        from_above y l y Y more (halts y l Y (omega (arith, hi, length_way hs t.ledger)) few)
