-- Counts, as a vote comes or goes.
use Rattle.std.proofs.Common.{◌≡◌, ◌≢◌, ◌⊎◌, ℕ, ◌<◌, ◌==◌, List, length, Option, Some, None, refl, sym, ap, subst, ◌∙◌, arith, inl, inr}
use Rattle.xl_trie.proofs.Common.{cases_lt, cases_eq, cases_Bool, ne_eqb, eq-eqb, Header, Vote, AreLedgers, is_on_chain, tip_of, branch_of, Name, Span, Change, changed_count, with_counts, AreRecounted, IsChange, In, Becomes, AreLinked, HasFork, AreSpans, way, OnWay}
use Rattle.xl_trie.proofs.Listing.{some_is, none_some, all_of}
use Rattle.xl_trie.proofs.Relinking.{relinked}
use Rattle.xl_trie.proofs.Trees.{one_name, on_self, front_of, on_through, same_ledger, root_short, nearest, known_vote, needed_on}
use Rattle.xl_trie.proofs.Ways.{on_true, on_from}

-- how far down a span ends
abbrev pub depth : List Header → Option Span → ℕ
depth hs None = 0
depth hs (Some s) = length (way hs s.ledger)

-- spans with the same links
pub record SameLinks (old new : Name → Option Span) : Type 0 where
  pub to : (a : Name) (s : Span) → old a ≡ Some s → (t : Span) × (new a ≡ Some t) × (s.ledger ≡ t.ledger)
  pub from : (a : Name) (t : Span) → new a ≡ Some t → (s : Span) × (old a ≡ Some s) × (s.ledger ≡ t.ledger) × (s.first ≡ t.first) × (s.parent ≡ t.parent)

module _ (hs : List Header) (S S' : Name → Option Span) (K : SameLinks S S') where
  pub linked_on : AreLinked hs S → AreLinked hs S'
  linked_on L = relinked hs S S' L (λ a t e. let s = K.from a t e in inl (record { span = s.0; there = s.1; ledger = s.2; first = s.3; parent = s.4 })) (λ a t e k h. K.to h.name h.over h.there)

  pub fork_on : (to_parent : (a : Name) (s : Span) → S a ≡ Some s → (t : Span) × (S' a ≡ Some t) × (s.parent ≡ t.parent)) (a : Name) → HasFork S a → HasFork S' a
  fork_on to a (b, c, s, t, p, q, differ) = let u = to b s p.0 in let w = to c t q.0 in (b, c, u.0, w.0, (u.1, sym u.2 ∙ p.1), (w.1, sym w.2 ∙ q.1), differ)

-- one span's counts change
pub counts_keep : (S S' : Name → Option Span) (a : Name) (s : Span) (tip branch : ℕ) → S a ≡ Some s → Becomes S S' a (Some (with_counts s tip branch)) → SameLinks S S'
counts_keep S S' a s tip branch e B = record {
  to = λ b u f. grind (arith, one_name b a, B.changed, B.others b);
  from = λ b t f. grind (arith, one_name b a, B.changed, B.others b);
}

-- ---- the counts of the spans above one

module _ (hs : List Header) (ok : AreLedgers hs) (change : Change) (S S1 : Name → Option Span) (L : AreLinked hs S) (a : Name) (s : Span) (e : S a ≡ Some s) (B : Becomes S S1 a (Some (with_counts s s.tip (changed_count change s.branch)))) where
  -- the span itself, or one that is left as it was
  first_step : (b : Name) (u : Span) → S b ≡ Some u → ((b ≡ a) × (u ≡ s)) ⊎ ((b ≢ a) × (S1 b ≡ Some u))
  first_step b u f = grind (arith, one_name b a, B.others b)

  -- one above it is another one
  above_differs : (b : Name) (u : Span) → S b ≡ Some u → OnWay hs u.ledger s.ledger → b ≢ a → length (way hs u.ledger) < length (way hs s.ledger)
  above_differs b u f on other = grind (arith, cases_lt (length (way hs u.ledger)) (length (way hs s.ledger)), L.one b a u s f e, same_ledger hs ok u.ledger s.ledger (L.known b u f) (L.known a s e) on, other)

  back_one : (S' : Name → Option Span) → ((b : Name) (t : Span) → S' b ≡ Some t → (u : Span) × (S1 b ≡ Some u)) → (b : Name) (t : Span) → S' b ≡ Some t → (u : Span) × (S b ≡ Some u)
  back_one S' back b t f = grind (arith, one_name b a, B.others b, back b t f)

  -- where it is the highest
  pub recounted_top : s.parent ≡ None → AreRecounted hs S S1 change s.ledger
  recounted_top top = record {
    each = λ b u f. elim (first_step b u f) [
      | inl h ↦ (changed_count change s.branch, ap S1 h.0 ∙ B.changed ∙ ap (λ (x : Span). Some (with_counts x x.tip (changed_count change s.branch))) (sym h.1), inl (subst (λ (x : Span). OnWay hs x.ledger s.ledger) (sym h.1) (on_self hs s.ledger), ap (λ (x : Span). changed_count change x.branch) (sym h.1)))
      | inr h ↦ (u.branch, h.1, inr ((λ on. let lt = above_differs b u f on h.0 in elim (L.hangs a s e) [ inl root ↦ omega (arith, lt, root_short hs ok s.ledger root.1) | inr g ↦ none_some g.name (sym top ∙ g.is) ]), refl))
    ];
    back = back_one S1 (λ b t f. (t, f));
  }

  -- where another is above it
  pub recounted_on : (over : Name) → s.parent ≡ Some over → (S2 : Name → Option Span) → ((o : Span) → S1 over ≡ Some o → AreRecounted hs S1 S2 change o.ledger) → AreRecounted hs S S2 change s.ledger
  recounted_on over up S2 more = elim (L.hangs a s e) [
    | inl root ↦ absurd (none_some over (sym root.0 ∙ up))
    | inr h ↦
        let name : h.name ≡ over = some_is h.name over (sym h.is ∙ up) in
        let low = h.above in
        let differ : over ≢ a = λ same. omega (arith, low, ap (λ (x : Span). length (way hs x.ledger)) (some_is h.over s (sym h.there ∙ ap S (name ∙ same) ∙ e))) in
        let R = more h.over (B.others over differ ∙ ap S (sym name) ∙ h.there) in
        record {
          each = λ b u f. elim (first_step b u f) [
            | inl i ↦
                let r = R.each a (with_counts s s.tip (changed_count change s.branch)) B.changed in
                let off : OnWay hs s.ledger h.over.ledger → ⊥ = λ on. omega (arith, on.0, low) in
                elim r.2 [
                  | inl wrong ↦ absurd (off wrong.0)
                  | inr stays ↦ (r.0, ap S2 i.0 ∙ r.1 ∙ ap (λ (x : Span). Some (with_counts x x.tip r.0)) (sym i.1), inl (subst (λ (x : Span). OnWay hs x.ledger s.ledger) (sym i.1) (on_self hs s.ledger), stays.1 ∙ ap (λ (x : Span). changed_count change x.branch) (sym i.1)))
                ]
            | inr i ↦
                let r = R.each b u i.1 in
                elim r.2 [
                  | inl on ↦ (r.0, r.1, inl (on_through hs u.ledger h.over.ledger s.ledger on.0 h.on, on.1))
                  | inr off ↦ (r.0, r.1, inr ((λ on. off.0 (front_of hs u.ledger h.over.ledger s.ledger on h.on (nearest hs ok S L (length (way hs u.ledger)) b a u s (omega arith) f e on (above_differs b u f on i.0) h))), off.1))
                ]
          ];
          back = back_one S2 R.back;
        }
  ]

-- ---- a vote for the ledger of a span comes or goes

module _ (hs : List Header) (ok : AreLedgers hs) (change : Change) (v : Vote) (votes now : List Vote) (C : IsChange change v votes now) (S S1 S2 : Name → Option Span) (a : Name) (s : Span) (e : S a ≡ Some s) (for : s.ledger ≡ v.ledger) (V : AreSpans hs votes S (Some a)) (B : Becomes S S1 a (Some (with_counts s (changed_count change s.tip) s.branch))) (R : AreRecounted hs S1 S2 change s.ledger) where
  keep1 : SameLinks S S1
  keep1 = counts_keep S S1 a s (changed_count change s.tip) s.branch e B

  -- what a span was, and which counts have changed
  record Was (b : Name) (t : Span) : Type 0 where
    pub span : Span
    pub there : S b ≡ Some span
    pub ledger : span.ledger ≡ t.ledger
    pub first : span.first ≡ t.first
    pub parent : span.parent ≡ t.parent
    pub tip : ((b ≡ a) × (t.tip ≡ changed_count change span.tip)) ⊎ ((b ≢ a) × (t.tip ≡ span.tip))
    pub branch : (OnWay hs t.ledger s.ledger × (t.branch ≡ changed_count change span.branch)) ⊎ ((OnWay hs t.ledger s.ledger → ⊥) × (t.branch ≡ span.branch))

  to_new : (b : Name) (u : Span) → S b ≡ Some u → (t : Span) × (S2 b ≡ Some t) × Was b t
  to_new b u f = elim (one_name b a) [
    | inl same ↦ let r = R.each a (with_counts s (changed_count change s.tip) s.branch) B.changed in (with_counts s (changed_count change s.tip) r.0, ap S2 same ∙ r.1, grind (arith, r.2, same, e))
    | inr other ↦ let r = R.each b u (B.others b other ∙ f) in (with_counts u u.tip r.0, r.1, grind (arith, r.2, f, other))
  ]

  was : (b : Name) (t : Span) → S2 b ≡ Some t → Was b t
  was b t f =
      let u = R.back b t f in
      let w = keep1.from b u.0 u.1 in
      let n = to_new b w.0 w.1 in
      subst (Was b) (some_is n.0 t (sym n.1 ∙ f)) n.2

  links : SameLinks S S2
  links = record {
    to = λ b u f. let n = to_new b u f in let w = n.2 in (n.0, n.1, ap (λ (x : Span). x.ledger) (some_is u w.span (sym f ∙ w.there)) ∙ w.ledger);
    from = λ b t f. let w = was b t f in (w.span, w.there, w.ledger, w.first, w.parent);
  }

  now_known : (w : Vote) → In w now → w.ledger < length hs
  now_known w i = elim (C.from w i) [
    | inl j ↦ known_vote hs ok S V.linked votes (Some a) V w j
    | inr same ↦ subst (λ (x : Vote). x.ledger < length hs) (sym same) (subst (λ x. x < length hs) for (V.linked.known a s e))
  ]

  tip_now : (b : Name) (t : Span) → S2 b ≡ Some t → t.tip ≡ tip_of now t.ledger
  tip_now b t f =
      let w = was b t f in
      let before : w.span.tip ≡ tip_of votes t.ledger = V.counted.tip b w.span w.there ∙ ap (tip_of votes) w.ledger in
      let counts = C.counts (λ (x : Vote). x.ledger == t.ledger) in
      grind (arith, w.tip, before, counts, cases_eq v.ledger t.ledger, eq-eqb v.ledger t.ledger, ne_eqb v.ledger t.ledger, for, e, w.there, w.ledger, V.linked.one b a w.span s w.there e)

  branch_now : (b : Name) (t : Span) → S2 b ≡ Some t → t.branch ≡ branch_of hs now t.ledger
  branch_now b t f =
      let w = was b t f in
      let before : w.span.branch ≡ branch_of hs votes t.ledger = V.counted.branch b w.span w.there ∙ ap (branch_of hs votes) w.ledger in
      let counts = C.counts (λ (x : Vote). is_on_chain hs t.ledger x.ledger) in
      let kt : t.ledger < length hs = subst (λ x. x < length hs) w.ledger (V.linked.known b w.span w.there) in
      let ks : v.ledger < length hs = subst (λ x. x < length hs) for (V.linked.known a s e) in
      grind (arith, w.branch, before, counts, cases_Bool (is_on_chain hs t.ledger v.ledger), on_from hs ok t.ledger v.ledger kt ks, on_true hs ok t.ledger v.ledger ks, for)

  pub recounted : AreSpans hs now S2 (Some a)
  recounted = record {
    known = all_of (λ (w : Vote). w.ledger < length hs) now now_known;
    linked = linked_on hs S S2 links V.linked;
    voted = λ w i. elim (C.from w i) [
      | inl j ↦ let u = V.voted w j in let t = links.to u.0 u.1 u.2 in (u.0, t.0, t.1, sym t.2 ∙ u.3)
      | inr same ↦ let t = links.to a s e in (a, t.0, t.1, sym t.2 ∙ for ∙ ap (λ (x : Vote). x.ledger) (sym same))
    ];
    counted = record { tip = tip_now; branch = branch_now };
    needed = λ b t f but.
        let w = was b t f in
        elim w.tip [
          | inl i ↦ absurd (but (ap Some (sym i.0)))
          | inr i ↦ needed_on S S2 b w.span t (V.needed b w.span w.there but) w.ledger (sym i.1)
              (fork_on hs S S2 links (λ c u g. let n = to_new c u g in (n.0, n.1, ap (λ (x : Span). x.parent) (some_is u n.2.span (sym g ∙ n.2.there)) ∙ n.2.parent)) b)
        ];
  }

-- spans end where they ended
pub ends_on : (hs : List Header) (change : Change) (S S1 S2 : Name → Option Span) (x : ℕ) → SameLinks S S1 → AreRecounted hs S1 S2 change x → (a : Name) (s : Span) → S a ≡ Some s → (t : Span) × (S2 a ≡ Some t) × (t.ledger ≡ s.ledger)
ends_on hs change S S1 S2 x K R a s e = let u = K.to a s e in let r = R.each a u.0 u.1 in (with_counts u.0 u.0.tip r.0, r.1, sym u.2)
