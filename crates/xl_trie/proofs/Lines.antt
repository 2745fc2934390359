-- Lines of siblings, as nodes come, go, hang and are taken off.
use Rattle.std.proofs.Common.{arith, ◌≡◌, ◌≢◌, ◌⊎◌, List, [], ◌∷◌, Option, Some, None, refl, sym, ap, subst, ◌∙◌, inl, inr}
use Rattle.xl_trie.proofs.Common.{Slot, get, Updates, Name, Node, Span, In, span_of, spans, Leads, HasKids, AllKids, AllHang}
use Rattle.xl_trie.proofs.Listing.{some_is, none_some}
use Rattle.xl_trie.proofs.Trees.{one_name}

pub came_from : (old new : List (Slot Node)) (x : Name) (v : Node) → Updates old new x (Some v) → (a : Name) (m : Node) → get new a ≡ Some m → ((a ≡ x) × (m ≡ v)) ⊎ ((a ≢ x) × (get old a ≡ Some m))
came_from old new x v up a m e = grind (arith, one_name a x, up.changed, up.others a)

-- a line whose names lead on as before
pub leads_frame : (old new : List (Slot Node)) (at : Option Name) (ks : List Name) → Leads old at ks → ((b : Name) (n : Node) → In b ks → get old b ≡ Some n → (m : Node) × (get new b ≡ Some m) × (m.sibling ≡ n.sibling)) → Leads new at ks
leads_frame old new at [] leads same = leads
leads_frame old new at (b ∷ ks) leads same =
    let m = same b leads.1.0 (inl refl) leads.1.1 in
    (leads.0, (m.0, m.1, subst (λ s. Leads new s ks) (sym m.2) (leads_frame old new leads.1.0.sibling ks leads.1.2 (λ c n i e. same c n (inr i) e))))

-- a node whose children stay
pub kids_kept : (old new : List (Slot Node)) (a : Name) (n o : Node) → HasKids old a n → o.child ≡ n.child
    → ((b : Name) (m : Node) → get old b ≡ Some m → m.span.parent ≡ Some a → (k : Node) × (get new b ≡ Some k) × (k.sibling ≡ m.sibling) × (k.span.parent ≡ m.span.parent))
    → ((b : Name) (k : Node) → get new b ≡ Some k → k.span.parent ≡ Some a → (m : Node) × (get old b ≡ Some m) × (m.span.parent ≡ Some a)) → HasKids new a o
kids_kept old new a n o has child stay back = record {
  kids = has.kids;
  leads = subst (λ s. Leads new s has.kids) (sym child) (leads_frame old new n.child has.kids has.leads (λ b m i e.
      let kid = has.each b i in
      let k = stay b m e (ap (λ (x : Node). x.span.parent) (some_is m kid.0 (sym e ∙ kid.1)) ∙ kid.2) in (k.0, k.1, k.2)));
  apart = has.apart;
  each = λ b i. let kid = has.each b i in let k = stay b kid.0 kid.1 kid.2 in (k.0, k.1, k.3 ∙ kid.2);
  all = λ b k e p. let m = back b k e p in has.all b m.0 m.1 m.2;
}

module _ (old new : List (Slot Node)) (K : AllKids old) (x : Name) where
  -- a node with the same links
  pub same_kids : (n v : Node) → get old x ≡ Some n → Updates old new x (Some v) → v.child ≡ n.child → v.sibling ≡ n.sibling → v.span.parent ≡ n.span.parent → AllKids new
  same_kids n v e up child sibling parent a o f = elim (came_from old new x v up a o f) [
    | inl h ↦ kids_kept old new a n o (K a n (ap (get old) h.0 ∙ e)) (ap (λ (y : Node). y.child) h.1 ∙ child) stay back
    | inr h ↦ kids_kept old new a o o (K a o h.1) refl stay back
  ]
    where
      stay : (b : Name) (m : Node) → get old b ≡ Some m → m.span.parent ≡ Some a → (k : Node) × (get new b ≡ Some k) × (k.sibling ≡ m.sibling) × (k.span.parent ≡ m.span.parent)
      stay b m g p = grind (arith, one_name b x, up.changed, up.others b)

      back : (b : Name) (k : Node) → get new b ≡ Some k → k.span.parent ≡ Some a → (m : Node) × (get old b ≡ Some m) × (m.span.parent ≡ Some a)
      back b k g p = grind (arith, one_name b x, up.changed, up.others b)

  -- a node that hangs nowhere comes
  pub kids_taken : (v : Node) → get old x ≡ None → AllHang (spans old) → Updates old new x (Some v) → v.child ≡ None → v.span.parent ≡ None → AllKids new
  kids_taken v fresh hang up child parent a o f = elim (came_from old new x v up a o f) [
    | inl h ↦ record {
      kids = [];
      leads = ap (λ (y : Node). y.child) h.1 ∙ child;
      apart = tt;
      each = λ b i. absurd i;
      all = λ b m g p. let w = back b m g p in let t = hang b w.0.span a (ap span_of w.1) w.2 in absurd (none_some t.0 (sym (ap span_of fresh) ∙ ap (spans old) (sym h.0) ∙ t.1));
    }
    | inr h ↦ kids_kept old new a o o (K a o h.1) refl (λ b m g p. (m, up.others b (λ same. none_some m (sym fresh ∙ ap (get old) (sym same) ∙ g)) ∙ g, refl, refl)) back
  ]
    where
      back : (b : Name) (k : Node) → get new b ≡ Some k → k.span.parent ≡ Some a → (m : Node) × (get old b ≡ Some m) × (m.span.parent ≡ Some a)
      back b k g p = grind (arith, one_name b x, up.changed, up.others b)

  -- a node that hangs nowhere goes
  pub kids_given : (n : Node) → get old x ≡ Some n → n.span.parent ≡ None → Updates old new x None → AllKids new
  kids_given n e parent up a o f =
      kids_kept old new a o o (K a o (old_of a o f)) refl
      (λ b m g p. (m, up.others b (λ same. none_some a (sym parent ∙ ap (λ (y : Node). y.span.parent) (some_is n m (sym e ∙ ap (get old) (sym same) ∙ g)) ∙ p)) ∙ g, refl, refl))
      (λ b k g p. (k, old_of b k g, p))
    where
      old_of : (b : Name) (k : Node) → get new b ≡ Some k → get old b ≡ Some k
      old_of b k g = sym (up.others b (λ same. none_some k (sym up.changed ∙ ap (get new) (sym same) ∙ g))) ∙ g

-- ---- c is hung at x

module _ (p0 p1 p2 : List (Slot Node)) (K : AllKids p0) (x c : Name) (xn cn v w : Node) (e : get p0 x ≡ Some xn) (f : get p0 c ≡ Some cn) (free : cn.span.parent ≡ None) (differ : x ≢ c) (up1 : Updates p0 p1 c (Some v)) (up2 : Updates p1 p2 x (Some w)) (v_parent : v.span.parent ≡ Some x) (v_child : v.child ≡ cn.child) (v_sibling : v.sibling ≡ xn.child) (w_span : w.span ≡ xn.span) (w_child : w.child ≡ Some c) (w_sibling : w.sibling ≡ xn.sibling) where
  at_c : get p2 c ≡ Some v
  at_c = up2.others c (λ same. differ (sym same)) ∙ up1.changed

  stay : (b : Name) (m : Node) → get p0 b ≡ Some m → b ≢ c → (k : Node) × (get p2 b ≡ Some k) × (k.sibling ≡ m.sibling) × (k.span.parent ≡ m.span.parent)
  stay b m g other = grind (arith, one_name b x, up1.changed, up1.others b, up2.changed, up2.others b)

  back : (b : Name) (k : Node) → get p2 b ≡ Some k → ((b ≡ c) × (k ≡ v)) ⊎ ((b ≢ c) × ((m : Node) × (get p0 b ≡ Some m) × (m.span ≡ k.span) × (b ≢ x → m ≡ k)))
  back b k g = grind (arith, one_name b x, one_name b c, up1.changed, up1.others b, up2.changed, up2.others b)

  kid_of : (a b : Name) (m : Node) → get p0 b ≡ Some m → m.span.parent ≡ Some a → b ≢ c
  kid_of a b m g p same = none_some a (sym free ∙ ap (λ (y : Node). y.span.parent) (some_is cn m (sym f ∙ ap (get p0) (sym same) ∙ g)) ∙ p)

  others : (a : Name) (n o : Node) → a ≢ x → get p0 a ≡ Some n → o.child ≡ n.child → HasKids p2 a o
  others a n o other g child = kids_kept p0 p2 a n o (K a n g) child (λ b m h p. stay b m h (kid_of a b m h p)) (λ b k h p. elim (back b k h) [
    | inl is ↦ absurd (other (some_is a x (sym p ∙ ap (λ (y : Node). y.span.parent) is.1 ∙ v_parent)))
    | inr is ↦ (is.1.0, is.1.1, ap (λ (s : Span). s.parent) is.1.2 ∙ p)
  ])

  at_x : HasKids p2 x w
  at_x =
      let has = K x xn e in
      record {
        kids = c ∷ has.kids;
        leads = (w_child, (v, at_c, subst (λ s. Leads p2 s has.kids) (sym v_sibling) (leads_frame p0 p2 xn.child has.kids has.leads (λ b m i g. let k = has.each b i in let s = stay b m g (kid_of x b k.0 k.1 k.2) in (s.0, s.1, s.2)))));
        apart = ((λ i. let k = has.each c i in kid_of x c k.0 k.1 k.2 refl), has.apart);
        each = λ b i. elim i [
          | inl same ↦ (v, ap (get p2) same ∙ at_c, v_parent)
          | inr j ↦ let k = has.each b j in let s = stay b k.0 k.1 (kid_of x b k.0 k.1 k.2) in (s.0, s.1, s.3 ∙ k.2)
        ];
        all = λ b k h p. elim (back b k h) [ inl is ↦ inl is.0 | inr is ↦ inr (has.all b is.1.0 is.1.1 (ap (λ (s : Span). s.parent) is.1.2 ∙ p)) ];
      }

  pub kids_hung : AllKids p2
  kids_hung a o g = elim (one_name a x) [
    | inl same ↦ subst (λ (y : Node). HasKids p2 a y) (some_is w o (sym up2.changed ∙ ap (get p2) (sym same) ∙ g)) (subst (λ (y : Name). HasKids p2 y w) (sym same) at_x)
    | inr other ↦ elim (back a o g) [
      | inl is ↦ others a cn o other (ap (get p0) is.0 ∙ f) (ap (λ (y : Node). y.child) is.1 ∙ v_child)
      | inr is ↦ others a is.1.0 o other is.1.1 (ap (λ (y : Node). y.child) (sym (is.1.3 other)))
    ]
  ]
