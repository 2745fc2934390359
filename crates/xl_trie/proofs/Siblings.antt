-- A way along siblings, and how many names may have nodes.
use Rattle.std.proofs.Common.{◌≡◌, ◌≢◌, ◌⊎◌, ℕ, ◌+◌, ◌≤◌, List, [], ◌∷◌, length, Option, Some, None, IsSome, refl, sym, ap, subst, ◌∙◌, arith, inl, inr}
use Rattle.xl_trie.proofs.Common.{Slot, get, live, Name, Node, Span, In, Apart, span_of, spans, IsKid, Leads, HasKids, IsBefore}
use Rattle.xl_trie.proofs.Listing.{some_is, none_some, is_some_if}
use Rattle.xl_trie.proofs.Naming.{few_names, node_of}

module _ (nodes : List (Slot Node)) where
  pub kid_in : (a b : Name) (n : Node) (s : Span) → (has : HasKids nodes a n) → IsKid (spans nodes) a b s → In b has.kids
  kid_in a b n s has kid = let m = node_of nodes b s kid.0 in has.all b m.0 m.1 (ap (λ (x : Span). x.parent) m.2 ∙ kid.1)

  -- the first child, and the others after it
  pub first_kid : (a k : Name) (n : Node) → (has : HasKids nodes a n) → n.child ≡ Some k → (m : Node) × (get nodes k ≡ Some m) × (m.span.parent ≡ Some a)
      × (m.sibling ≡ None → (b : Name) (s : Span) → IsKid (spans nodes) a b s → b ≡ k) × ((d : Name) → m.sibling ≡ Some d → (k ≢ d) × ((o : Node) × (get nodes d ≡ Some o) × (o.span.parent ≡ Some a)))
  first_kid a k n has child = by_line has.kids has.leads has.apart has.each (λ b s kid. kid_in a b n s has kid)
    where
      by_line : (ks : List Name) → Leads nodes n.child ks → Apart ks → ((b : Name) → In b ks → (m : Node) × (get nodes b ≡ Some m) × (m.span.parent ≡ Some a)) → ((b : Name) (s : Span) → IsKid (spans nodes) a b s → In b ks)
          → (m : Node) × (get nodes k ≡ Some m) × (m.span.parent ≡ Some a) × (m.sibling ≡ None → (b : Name) (s : Span) → IsKid (spans nodes) a b s → b ≡ k) × ((d : Name) → m.sibling ≡ Some d → (k ≢ d) × ((o : Node) × (get nodes d ≡ Some o) × (o.span.parent ≡ Some a)))
      by_line [] leads apart each all = absurd (none_some k (sym leads ∙ child))
      by_line (j ∷ []) leads apart each all =
          let same : j ≡ k = some_is j k (sym leads.0 ∙ child) in
          let m = each j (inl refl) in
          let own : leads.1.0 ≡ m.0 = some_is leads.1.0 m.0 (sym leads.1.1 ∙ m.1) in
          (m.0, ap (get nodes) (sym same) ∙ m.1, m.2, (λ none b s kid. elim (all b s kid) [ inl is ↦ is ∙ same | inr wrong ↦ absurd wrong ]), (λ d next. absurd (none_some d (sym leads.1.2 ∙ ap (λ (x : Node). x.sibling) own ∙ next))))
      by_line (j ∷ i ∷ ks) leads apart each all =
          let same : j ≡ k = some_is j k (sym leads.0 ∙ child) in
          let m = each j (inl refl) in
          let own : leads.1.0 ≡ m.0 = some_is leads.1.0 m.0 (sym leads.1.1 ∙ m.1) in
          let o = each i (inr (inl refl)) in
          let to : m.0.sibling ≡ Some i = ap (λ (x : Node). x.sibling) (sym own) ∙ leads.1.2.0 in (
            m.0,
            ap (get nodes) (sym same) ∙ m.1,
            m.2,
            (λ none. absurd (none_some i (sym none ∙ to))),
            (λ d next.
                let is : i ≡ d = some_is i d (sym to ∙ next) in
                ((λ kd. apart.0 (inl (same ∙ kd ∙ sym is))), (o.0, ap (get nodes) (sym is) ∙ o.1, o.2))),
          )

  -- of the children of a that aren't still to come, none leads to c
  abbrev pub NoneLeads : Name → Name → List Name → Type 0
  NoneLeads a c rest = (b : Name) (m : Node) → get nodes b ≡ Some m → m.span.parent ≡ Some a → In b rest ⊎ (m.sibling ≢ Some c)

  pub none_leads : (a c : Name) → NoneLeads a c [] → IsBefore nodes a c None
  none_leads a c none b m e p = elim (none b m e p) [ inl empty ↦ absurd empty | inr other ↦ other ]

module _ (nodes : List (Slot Node)) (a : Name) where
  -- the children that are still to come are no more than the steps that are left, and of the others this holds
  pub record Looks (Seen : List Name → Type 0) (at : Option Name) (left : ℕ) : Type 0 where
    pub rest : List Name
    pub leads : Leads nodes at rest
    pub few : length rest ≤ left
    pub kids : (b : Name) → In b rest → (m : Node) × (get nodes b ≡ Some m) × (m.span.parent ≡ Some a)
    pub seen : Seen rest

  pub looks_from : (Seen : List Name → Type 0) (n : Node) (left : ℕ) → left ≡ live nodes → (has : HasKids nodes a n) → Seen has.kids → Looks Seen n.child left
  looks_from Seen n left all has start = record {
    rest = has.kids;
    leads = has.leads;
    few = omega (arith, all, few_names nodes has.kids has.apart (λ b i. ((has.each b i).0, (has.each b i).1)));
    kids = has.each;
    seen = start;
  }

  -- none is to come where the line ends, or no step is left
  ended : (Seen : List Name → Type 0) (at : Option Name) (left : ℕ) (rest : List Name) → Leads nodes at rest → length rest ≤ left → (at ≡ None) ⊎ (left ≡ 0) → Seen rest → Seen []
  ended Seen at left [] leads few end so = so
  ended Seen at left (b ∷ rest) leads few end so = absurd (elim end [ inl none ↦ none_some b (sym none ∙ leads.0) | inr zero ↦ omega (arith, few, zero) ])

  pub looked : (Seen : List Name → Type 0) (at : Option Name) (left : ℕ) → Looks Seen at left → (at ≡ None) ⊎ (left ≡ 0) → Seen []
  looked Seen at left l end = ended Seen at left l.rest l.leads l.few end l.seen

  pub no_kids : (b : Name) (n : Node) (s : Span) → (has : HasKids nodes a n) → n.child ≡ None → IsKid (spans nodes) a b s → ⊥
  no_kids b n s has none kid = ended (λ rest. In b rest) n.child (length has.kids) has.kids has.leads (omega arith) (inl none) (kid_in nodes a b n s has kid)

  -- the name that comes is that of a child
  pub record Comes (Seen : List Name → Type 0) (name : Name) (left : ℕ) : Type 0 where
    pub node : Node
    pub there : get nodes name ≡ Some node
    pub parent : node.span.parent ≡ Some a
    pub rest : List Name
    pub leads : Leads nodes node.sibling rest
    pub few : length rest + 1 ≤ left
    pub kids : (b : Name) → In b rest → (m : Node) × (get nodes b ≡ Some m) × (m.span.parent ≡ Some a)
    pub seen : Seen (name ∷ rest)

  comes_of : (Seen : List Name → Type 0) (at : Option Name) (left : ℕ) (name : Name) (rest : List Name) → Leads nodes at rest → length rest ≤ left → ((b : Name) → In b rest → (m : Node) × (get nodes b ≡ Some m) × (m.span.parent ≡ Some a)) → at ≡ Some name → Seen rest → Comes Seen name left
  comes_of Seen at left name [] leads few kids is so = absurd (none_some name (sym leads ∙ is))
  comes_of Seen at left name (b ∷ rest) leads few kids is so =
      let same : b ≡ name = some_is b name (sym leads.0 ∙ is) in
      let kid = kids b (inl refl) in
      let own : leads.1.0 ≡ kid.0 = some_is leads.1.0 kid.0 (sym leads.1.1 ∙ kid.1) in
      record {
        node = kid.0;
        there = ap (get nodes) (sym same) ∙ kid.1;
        parent = kid.2;
        rest = rest;
        leads = subst (λ (x : Node). Leads nodes x.sibling rest) own leads.1.2;
        few = omega arith;
        kids = λ c i. kids c (inr i);
        seen = subst (λ (x : Name). Seen (x ∷ rest)) same so;
      }

  pub comes : (Seen : List Name → Type 0) (at : Option Name) (left : ℕ) (name : Name) → Looks Seen at left → at ≡ Some name → Comes Seen name left
  comes Seen at left name l is = comes_of Seen at left name l.rest l.leads l.few l.kids is l.seen

  -- and it goes on at its sibling
  pub looks_on : (Seen Next : List Name → Type 0) (at : Option Name) (left more : ℕ) (name : Name) (n : Node) → Looks Seen at left → at ≡ Some name → get nodes name ≡ Some n → more + 1 ≡ left → ((rest : List Name) → n.span.parent ≡ Some a → Seen (name ∷ rest) → Next rest) → Looks Next n.sibling more
  looks_on Seen Next at left more name n l is there one next =
      let c = comes Seen at left name l is in
      let own : c.node ≡ n = some_is c.node n (sym c.there ∙ there) in
      record {
        rest = c.rest;
        leads = subst (λ (x : Node). Leads nodes x.sibling c.rest) own c.leads;
        few = omega (arith, c.few, one);
        kids = c.kids;
        seen = next c.rest (ap (λ (x : Node). x.span.parent) (sym own) ∙ c.parent) c.seen;
      }

  pub stands_next : (Seen : List Name → Type 0) (at : Option Name) (left : ℕ) (name : Name) → Looks Seen at left → at ≡ Some name → IsSome (spans nodes name)
  stands_next Seen at left name l is = let c = comes Seen at left name l is in is_some_if (spans nodes name) c.node.span (ap span_of c.there)
