-- A span is split where the way to a ledger leaves it: t, that of a's child k, at the ledger l, under the new name d.
use Rattle.std.proofs.Common.{◌≡◌, ◌≢◌, ◌⊎◌, ℕ, ◌+◌, ◌<◌, ◌==◌, List, length, take, Option, Some, None, refl, sym, ap, subst, ◌∙◌, arith, inl, inr}
use Rattle.xl_trie.proofs.Common.{cases_lt, eqb-true, Header, Vote, seq_at, common_of, AreLedgers, tip_of, Name, Span, Place, IsSplit, IsKid, hung_at, IsPlace, AreLinked, HasFork, IsHalfNeeded, AreSpans, IsRoot, way, OnWay, IsBegin, take-length, length-take-le}
use Rattle.xl_trie.proofs.Fronts.{shared, shared_low, shared_low_right, shared_same, shared_most}
use Rattle.xl_trie.proofs.Listing.{some_is, none_some, counted}
use Rattle.xl_trie.proofs.Placing.{zero_if}
use Rattle.xl_trie.proofs.Relinking.{Other, other_at, relinked}
use Rattle.xl_trie.proofs.Trees.{Hung, hung, one_name, front_of, begin_up, kid_differs, over_of, span_branch, needed_on, fork_moved}
use Rattle.xl_trie.proofs.Ways.{length_way, common_way}

-- where the ways part
pub record Parting (hs : List Header) (s t : Span) (to l : ℕ) : Type 0 where
  pub lower : length (way hs s.ledger) < length (way hs l)
  pub inside : length (way hs l) < length (way hs t.ledger)
  pub on_t : OnWay hs l t.ledger
  pub on_to : OnWay hs l to
  pub most : length (way hs l) ≡ shared (way hs t.ledger) (way hs to)

module _ (hs : List Header) (ok : AreLedgers hs) (S : Name → Option Span) (L : AreLinked hs S) (a k : Name) (to : ℕ) (P : IsPlace hs S to (record { at = a; within = Some k })) where
  pub parting : (l : ℕ) → way hs l ≡ take (shared (way hs P.enters.0.ledger) (way hs to)) (way hs P.enters.0.ledger) → Parting hs P.span P.enters.0 to l
  parting l is =
      let s = P.span in
      let t = P.enters.0 in
      let h = hung hs ok S L a k s t P.there P.enters.1 in
      let n = shared (way hs t.ledger) (way hs to) in
      let low = shared_low (way hs t.ledger) (way hs to) in
      let right = shared_low_right (way hs t.ledger) (way hs to) in
      let size : length (way hs l) ≡ n = ap (length {A = ℕ}) is ∙ length-take-le n (way hs t.ledger) low in
      let deep = shared_most (way hs t.ledger) (way hs to) (length (way hs s.ledger) + 1) (omega (arith, h.above)) (omega (arith, P.enters.2.0)) (sym h.first ∙ P.enters.2.1) in
      let short : n < length (way hs t.ledger) = elim (cases_lt n (length (way hs t.ledger))) [
        | inl lt ↦ lt
        | inr ge ↦
            let all = shared_same (way hs t.ledger) (way hs to) (length (way hs t.ledger)) ge in
            let far : OnWay hs t.ledger to = (omega (arith, ge, right), sym all ∙ take-length (way hs t.ledger)) in
            absurd (let le = P.deepest k t P.enters.1.0 far in omega (arith, le, h.above))
      ] in
      record {
        lower = omega (arith, size, deep);
        inside = omega (arith, size, short);
        on_t = (omega (arith, size, low), ap (λ j. take j (way hs t.ledger)) size ∙ sym is);
        on_to = (omega (arith, size, right), ap (λ j. take j (way hs to)) size ∙ sym (shared_same (way hs t.ledger) (way hs to) n (omega arith)) ∙ sym is);
        most = size;
      }

module _ (hs : List Header) (ok : AreLedgers hs) (votes : List Vote) (S S' : Name → Option Span) (V : AreSpans hs votes S None) (a k d : Name) (to l begin : ℕ) (kl : l < length hs) (kb : begin < length hs) (P : IsPlace hs S to (record { at = a; within = Some k })) (Q : Parting hs P.span P.enters.0 to l) (starts : IsBegin hs P.enters.0.ledger l begin) (I : IsSplit S S' a d k P.enters.0 l begin) where
  abbrev t : Span
  t = P.enters.0

  abbrev front : Span
  front = record { ledger = l; first = P.enters.0.first; parent = Some a; tip = 0; branch = P.enters.0.branch }

  h : Hung hs P.span P.enters.0
  h = hung hs ok S V.linked a k P.span P.enters.0 P.there P.enters.1

  off : (b : Name) (u : Span) → S b ≡ Some u → b ≢ d
  off b u e same = none_some u (sym I.fresh ∙ ap S (sym same) ∙ e)

  stays : (b : Name) (u : Span) → S b ≡ Some u → b ≢ k → S' b ≡ Some u
  stays b u e other = I.others b (off b u e) other ∙ e

  -- no span ends there yet
  new : (b : Name) (u : Span) → S b ≡ Some u → u.ledger ≡ l → ⊥
  new b u e same = let le = P.deepest b u e (subst (λ x. OnWay hs x to) (sym same) Q.on_to) in omega (arith, le, Q.lower, ap (λ x. length (way hs x)) same)

  -- no child of d was there
  childless : (b : Name) (u : Span) → IsKid S d b u → ⊥
  childless b u p = let o = over_of hs ok S V.linked d b u p in off d o.0 o.1 refl

  a_not_k : a ≢ k
  a_not_k = kid_differs hs ok S V.linked a k P.span P.enters.0 P.there P.enters.1

  -- a span is the front, or one that was there, and only that of k is another
  record Was (b : Name) (u : Span) : Type 0 where
    pub span : Span
    pub there : S b ≡ Some span
    pub ledger : u.ledger ≡ span.ledger
    pub tip : span.tip ≡ u.tip
    pub branch : u.branch ≡ span.branch
    pub is : ((b ≡ k) × (u ≡ hung_at P.enters.0 (Some d) begin)) ⊎ ((b ≢ k) × (u ≡ span))

  from : (b : Name) (u : Span) → S' b ≡ Some u → ((b ≡ d) × (u ≡ front)) ⊎ ((b ≢ d) × Was b u)
  from b u e = grind (arith, one_name b d, one_name b k, I.front, I.rest, I.others b, P.enters.1.0)

  to_new : (b : Name) (u : Span) → S b ≡ Some u → (w : Span) × (S' b ≡ Some w) × (u.ledger ≡ w.ledger)
  to_new b u e = grind (arith, one_name b k, I.rest, I.others b, off b u e, P.enters.1.0)

  -- the two new ones hang at different spans
  never : (b : Name) (u w : Span) → u.parent ≡ Some b → u ≡ front → w.parent ≡ Some b → w ≡ hung_at P.enters.0 (Some d) begin → ⊥
  never b u w p i q j = off a P.span P.there (sym (some_is b a (sym p ∙ ap (λ (x : Span). x.parent) i)) ∙ some_is b d (sym q ∙ ap (λ (x : Span). x.parent) j))

  other_front : Other hs S S' d front
  other_front = record {
    known = kl;
    first = V.linked.first k P.enters.0 P.enters.1.0;
    hangs = record { name = a; over = P.span; is = refl; there = stays a P.span P.there a_not_k; above = Q.lower; on = front_of hs P.span.ledger l to P.on Q.on_to (omega (arith, Q.lower)); first = begin_up hs l t.ledger P.span.ledger t.first Q.on_t Q.lower h.first };
    one = λ c w g same. elim (from c w g) [ inl i ↦ i.0 | inr i ↦ absurd (new c i.1.span i.1.there (sym i.1.ledger ∙ same)) ];
    apart = λ b c w p q same. grind (arith, from c w q.0, never b front w p.1 refl q.1, V.linked.apart a c k w P.enters.0, P.enters.1, p.1, q.1, same);
  }

  other_rest : Other hs S S' k (hung_at P.enters.0 (Some d) begin)
  other_rest = record {
    known = V.linked.known k P.enters.0 P.enters.1.0;
    first = kb;
    hangs = record { name = d; over = front; is = refl; there = I.front; above = Q.inside; on = Q.on_t; first = starts };
    one = λ c w g same. grind (arith, from c w g, new k P.enters.0 P.enters.1.0, V.linked.one c k, P.enters.1.0, same);
    apart = λ b c w p q same. grind (arith, from c w q.0, never b w (hung_at P.enters.0 (Some d) begin) q.1, childless c w, p.1, q.1);
  }

  linked : AreLinked hs S'
  linked = relinked hs S S' V.linked
      (λ b u e. elim (from b u e) [
        | inl i ↦ inr (other_at hs S S' d b front u i.0 i.1 other_front)
        | inr i ↦ elim i.1.is [
          | inl j ↦ inr (other_at hs S S' k b (hung_at P.enters.0 (Some d) begin) u j.0 j.1 other_rest)
          | inr j ↦ inl (record { span = u; there = i.1.there ∙ ap Some (sym j.1); ledger = refl; first = refl; parent = refl })
        ]
      ])
      (λ b u e p h. to_new h.name h.over h.there)

  fork_to : (b : Name) → HasFork S b → HasFork S' b
  fork_to b = fork_moved S S' b k d (λ p q. off d p q.0 refl) (λ c p q. (
    (λ other. (p, (stays c p q.0 other, q.1))),
    (λ same.
        let own : p ≡ P.enters.0 = some_is p P.enters.0 (sym q.0 ∙ ap S same ∙ P.enters.1.0) in
        (front, (I.front, sym P.enters.1.1 ∙ ap (λ (x : Span). x.parent) (sym own) ∙ q.1))),
  ))

  pub split_spans : AreSpans hs votes S' (Some d)
  split_spans = record {
    known = V.known;
    linked = linked;
    voted = λ v i. let u = V.voted v i in let w = to_new u.0 u.1 u.2 in (u.0, w.0, w.1, sym w.2 ∙ u.3);
    counted = record {
      tip = λ b u e. elim (from b u e) [
        | inl i ↦ subst (λ (x : Span). x.tip ≡ tip_of votes x.ledger) (sym i.1) (sym (zero_if (tip_of votes l) (λ some.
            let v = counted (λ (w : Vote). w.ledger == l) votes some in
            let o = V.voted v.0 v.1 in
            new o.0 o.1 o.2 (o.3 ∙ eqb-true v.0.ledger l v.2))))
        | inr i ↦ sym i.1.tip ∙ V.counted.tip b i.1.span i.1.there ∙ ap (tip_of votes) (sym i.1.ledger)
      ];
      branch = λ b u e. grind (arith, from b u e, span_branch hs ok S V.linked votes None V a k P.span P.enters.0 l P.there P.enters.1 kl Q.on_t Q.lower, V.counted.branch b);
    };
    needed = λ b u e but. elim (from b u e) [
      | inl i ↦ absurd (but (ap Some (sym i.0)))
      | inr i ↦ needed_on S S' b i.1.span u (V.needed b i.1.span i.1.there (λ none. none_some b none)) (sym i.1.ledger) i.1.tip (fork_to b)
    ];
  }

  pub split_half : IsHalfNeeded S' d
  split_half = (front, I.front, inr (k, hung_at P.enters.0 (Some d) begin, (I.rest, refl)))

  -- the way goes on below the front, and not into the rest
  pub split_place : IsPlace hs S' to (record { at = d; within = None })
  split_place = record {
    span = front;
    there = I.front;
    on = Q.on_to;
    deepest = λ b u e far. grind (arith, from b u e, P.deepest b, Q.lower);
    enters = λ c u p far. elim (from c u p.0) [
      | inl i ↦ off a P.span P.there (sym (some_is d a (sym p.1 ∙ ap (λ (x : Span). x.parent) i.1)))
      | inr i ↦ elim i.1.is [
        | inl j ↦
            let begin_to : IsBegin hs to l begin = ap (way hs) (sym (ap (λ (x : Span). x.first) j.1)) ∙ far.1 in
            let deep = shared_most (way hs t.ledger) (way hs to) (length (way hs l) + 1) (omega (arith, Q.inside)) (omega (arith, far.0)) (sym starts ∙ begin_to) in
            omega (arith, deep, Q.most)
        | inr j ↦ childless c u (i.1.there ∙ ap Some (sym j.1), p.1)
      ]
    ];
  }

  pub split_root : (root : Name) → IsRoot S root → IsRoot S' root
  split_root root r = let o = to_new root r.0 r.1 in (o.0, o.1, sym o.2 ∙ r.2)

-- ---- from what a walk tells

pub within_place : (hs : List Header) (S : Name → Option Span) (to : ℕ) (p : Place) (k : Name) → IsPlace hs S to p → p.within ≡ Some k → IsPlace hs S to (record { at = p.at; within = Some k })
within_place hs S to p k P is = subst (λ (w : Option Name). let q : Place = record { at = p.at; within = w } in IsPlace hs S to q) is P

-- the spans once one is split
pub record Forked (hs : List Header) (votes : List Vote) (S S' : Name → Option Span) (to : ℕ) (d : Name) : Type 0 where
  pub spans : AreSpans hs votes S' (Some d)
  pub half : IsHalfNeeded S' d
  pub place : IsPlace hs S' to (record { at = d; within = None })
  pub root : (root : Name) → IsRoot S root → IsRoot S' root

module _ (hs : List Header) (ok : AreLedgers hs) (votes : List Vote) (S : Name → Option Span) (V : AreSpans hs votes S None) (to : ℕ) (kt : to < length hs) (p : Place) (k : Name) (P : IsPlace hs S to p) (within : p.within ≡ Some k) (under : Span) (e : S k ≡ Some under) (l : ℕ) (is : l ≡ common_of hs under.ledger to) where
  abbrev inside : IsPlace hs S to (record { at = p.at; within = Some k })
  inside = within_place hs S to p k P within

  own : under ≡ inside.enters.0
  own = some_is under inside.enters.0 (sym e ∙ inside.enters.1.0)

  pub parted : Parting hs inside.span inside.enters.0 to l
  parted = parting hs ok S V.linked p.at k to inside l (subst (λ (x : Span). way hs l ≡ take (shared (way hs x.ledger) (way hs to)) (way hs x.ledger)) own (ap (way hs) is ∙ common_way hs ok under.ledger to (V.linked.known k under e) kt))

  pub deeper_under : seq_at hs l < seq_at hs under.ledger
  deeper_under = omega (arith, parted.inside, length_way hs l, length_way hs under.ledger, ap (λ (x : Span). length (way hs x.ledger)) own)

  pub forked : (S' : Name → Option Span) (d : Name) (begin : ℕ) → l < length hs → begin < length hs → IsBegin hs under.ledger l begin → ((t : Span) → IsKid S p.at k t → IsSplit S S' p.at d k t l begin) → Forked hs votes S S' to d
  forked S' d begin kl kb starts I =
      let starts_at = subst (λ (x : Span). IsBegin hs x.ledger l begin) own starts in
      let split = I inside.enters.0 inside.enters.1 in
      record {
        spans = split_spans hs ok votes S S' V p.at k d to l begin kl kb inside parted starts_at split;
        half = split_half hs ok votes S S' V p.at k d to l begin kl kb inside parted starts_at split;
        place = split_place hs ok votes S S' V p.at k d to l begin kl kb inside parted starts_at split;
        root = split_root hs ok votes S S' V p.at k d to l begin kl kb inside parted starts_at split;
      }
