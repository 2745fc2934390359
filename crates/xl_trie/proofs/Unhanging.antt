-- The line of siblings without one that is taken off: c, a child of x.
use Rattle.std.proofs.Common.{arith, ◌≡◌, ◌≢◌, ◌⊎◌, List, [], ◌∷◌, Option, Some, None, refl, sym, ap, subst, ◌∙◌, inl, inr}
use Rattle.xl_trie.proofs.Common.{Slot, get, Updates, Name, Node, Span, In, Apart, Leads, HasKids, AllKids, IsBefore, LeadsNow}
use Rattle.xl_trie.proofs.Lines.{came_from, leads_frame, kids_kept}
use Rattle.xl_trie.proofs.Listing.{some_is, none_some}
use Rattle.xl_trie.proofs.Trees.{one_name}

-- the name before one that isn't the first
leader : (nodes : List (Slot Node)) (at : Option Name) (k : Name) (ks : List Name) → Leads nodes at (k ∷ ks) → (c : Name) → In c ks → (b : Name) × (n : Node) × In b (k ∷ ks) × (get nodes b ≡ Some n) × (n.sibling ≡ Some c)
leader nodes at k [] leads c i = absurd i
leader nodes at k (j ∷ ks) leads c (inl same) = (k, leads.1.0, inl refl, leads.1.1, leads.1.2.0 ∙ ap Some (sym same))
leader nodes at k (j ∷ ks) leads c (inr i) = let r = leader nodes leads.1.0.sibling j ks leads.1.2 c i in (r.0, r.1, inr r.2, r.3, r.4)

module _ (p0 p1 p2 : List (Slot Node)) (K : AllKids p0) (x c : Name) (xn cn v : Node) (last : Option Name) (e : get p0 x ≡ Some xn) (f : get p0 c ≡ Some cn) (kid : cn.span.parent ≡ Some x) (differ : x ≢ c) (before : IsBefore p0 x c last) (up1 : LeadsNow p0 p1 x last cn.sibling) (up2 : Updates p1 p2 c (Some v)) (v_parent : v.span.parent ≡ None) (v_child : v.child ≡ cn.child) where
  -- what a name has after the first write
  record Slid (b : Name) (n : Node) : Type 0 where
    pub node : Node
    pub there : get p1 b ≡ Some node
    pub span : node.span ≡ n.span
    pub child : b ≢ x → node.child ≡ n.child
    pub sibling : last ≢ Some b → node.sibling ≡ n.sibling

  slid : (l : Option Name) → last ≡ l → LeadsNow p0 p1 x l cn.sibling → (b : Name) (n : Node) → get p0 b ≡ Some n → Slid b n
  slid None is now b n g = grind (arith, one_name b x, now.1, now.2.changed, now.2.others b)
  slid (Some l) is now b n g = grind (arith, one_name b l, now.1, now.2.changed, now.2.others b)

  slid_from : (l : Option Name) → LeadsNow p0 p1 x l cn.sibling → (b : Name) (k : Node) → get p1 b ≡ Some k → (n : Node) × (get p0 b ≡ Some n)
  slid_from None now b k g = elim (came_from p0 p1 x (record { span = now.0.span; child = cn.sibling; sibling = now.0.sibling }) now.2 b k g) [ inl h ↦ (now.0, ap (get p0) h.0 ∙ now.1) | inr h ↦ (k, h.1) ]
  slid_from (Some l) now b k g = elim (came_from p0 p1 l (record { span = now.0.span; child = now.0.child; sibling = cn.sibling }) now.2 b k g) [ inl h ↦ (now.0, ap (get p0) h.0 ∙ now.1) | inr h ↦ (k, h.1) ]

  stay : (b : Name) (m : Node) → get p0 b ≡ Some m → b ≢ c → (k : Node) × (get p2 b ≡ Some k) × (k.span ≡ m.span) × (b ≢ x → k.child ≡ m.child) × (last ≢ Some b → k.sibling ≡ m.sibling)
  stay b m g other = let s = slid last refl up1 b m g in (s.node, up2.others b other ∙ s.there, s.span, s.child, s.sibling)

  back : (b : Name) (k : Node) → get p2 b ≡ Some k → k.span.parent ≡ Some x ⊎ (b ≢ c) → (b ≢ c) × ((m : Node) × (get p0 b ≡ Some m) × (m.span ≡ k.span))
  back b k g some = grind (arith, came_from p1 p2 c v up2 b k g, some, v_parent, slid_from last up1 b k, slid last refl up1 b)

  -- the line without c
  record Cut (ks : List Name) (at : Option Name) : Type 0 where
    pub names : List Name
    pub leads : Leads p2 at names
    pub apart : Apart names
    pub from : (b : Name) → In b names → In b ks × (b ≢ c)
    pub to : (b : Name) → In b ks → b ≢ c → In b names
    pub has : In c ks

  -- where c is first
  first_cut : (ks : List Name) → Leads p0 (Some c) ks → Apart ks → ((b : Name) → In b ks → last ≢ Some b) → Cut ks cn.sibling
  first_cut [] leads apart none = absurd (none_some c (sym leads))
  first_cut (k ∷ ks) leads apart none =
      let same : k ≡ c = some_is k c (sym leads.0) in
      let own : leads.1.0 ≡ cn = some_is leads.1.0 cn (sym leads.1.1 ∙ ap (get p0) same ∙ f) in
      let off : (b : Name) → In b ks → b ≢ c = λ b i is. apart.0 (subst (λ (y : Name). In y ks) (is ∙ sym same) i) in
      record {
        names = ks;
        leads = leads_frame p0 p2 cn.sibling ks (subst (λ (y : Node). Leads p0 y.sibling ks) own leads.1.2) (λ b n i g. let s = stay b n g (off b i) in (s.0, s.1, s.4 (none b (inr i))));
        apart = apart.1;
        from = λ b i. (inr i, off b i);
        to = λ b i other. elim i [ inl is ↦ absurd (other (is ∙ same)) | inr j ↦ j ];
        has = inl (sym same);
      }

  -- where another leads to it
  later_cut : (l : Name) (ln : Node) → last ≡ Some l → get p0 l ≡ Some ln → ln.sibling ≡ Some c → (m : Node) × (get p1 l ≡ Some m) × (m.sibling ≡ cn.sibling) → (at : Option Name) (ks : List Name) → Leads p0 at ks → Apart ks → In l ks → Cut ks at
  later_cut l ln is there next now at [] leads apart i = absurd i
  later_cut l ln is there next now at (k ∷ ks) leads apart i = elim (one_name k l) [
    | inl same ↦
        let own : leads.1.0 ≡ ln = some_is leads.1.0 ln (sym leads.1.1 ∙ ap (get p0) same ∙ there) in
        let line : Leads p0 (Some c) ks = subst (λ s. Leads p0 s ks) (ap (λ (y : Node). y.sibling) own ∙ next) leads.1.2 in
        let r = first_cut ks line apart.1 (λ b j is_b. apart.0 (subst (λ (y : Name). In y ks) (some_is b l (sym is_b ∙ is) ∙ sym same) j)) in
        let k_not : k ≢ c = λ is_c. apart.0 (subst (λ (y : Name). In y ks) (sym is_c) r.has) in
        record {
          names = k ∷ r.names;
          leads = (leads.0, (now.0, up2.others k k_not ∙ ap (get p1) same ∙ now.1, subst (λ s. Leads p2 s r.names) (sym now.2) r.leads));
          apart = ((λ j. apart.0 (r.from k j).0), r.apart);
          from = λ b j. elim j [ inl is_k ↦ (inl is_k, (λ is_c. k_not (sym is_k ∙ is_c))) | inr h ↦ let g = r.from b h in (inr g.0, g.1) ];
          to = λ b j other. elim j [ inl is_k ↦ inl is_k | inr h ↦ inr (r.to b h other) ];
          has = inr r.has;
        }
    | inr other ↦
        let j : In l ks = elim i [ inl same ↦ absurd (other (sym same)) | inr h ↦ h ] in
        let r = later_cut l ln is there next now leads.1.0.sibling ks leads.1.2 apart.1 j in
        let k_not : k ≢ c = λ is_c. apart.0 (subst (λ (y : Name). In y ks) (sym is_c) r.has) in
        let s = stay k leads.1.0 leads.1.1 k_not in
        record {
          names = k ∷ r.names;
          leads = (leads.0, (s.0, s.1, subst (λ q. Leads p2 q r.names) (sym (s.4 (λ is_k. other (some_is k l (sym is_k ∙ is))))) r.leads));
          apart = ((λ h. apart.0 (r.from k h).0), r.apart);
          from = λ b h. elim h [ inl is_k ↦ (inl is_k, (λ is_c. k_not (sym is_k ∙ is_c))) | inr g ↦ let q = r.from b g in (inr q.0, q.1) ];
          to = λ b h other. elim h [ inl is_k ↦ inl is_k | inr g ↦ inr (r.to b g other) ];
          has = inr r.has;
        }
  ]

  cut : (l : Option Name) → last ≡ l → IsBefore p0 x c l → LeadsNow p0 p1 x l cn.sibling → (o : Node) → get p1 x ≡ Some o → Cut (K x xn e).kids o.child
  cut None is none now o g = first (K x xn e).kids (K x xn e).leads (K x xn e).apart (K x xn e).each ((K x xn e).all c cn f kid)
    where
      child : o.child ≡ cn.sibling
      child = ap (λ (y : Node). y.child) (some_is o (record { span = now.0.span; child = cn.sibling; sibling = now.0.sibling }) (sym g ∙ now.2.changed))

      first : (ks : List Name) → Leads p0 xn.child ks → Apart ks → ((b : Name) → In b ks → (m : Node) × (get p0 b ≡ Some m) × (m.span.parent ≡ Some x)) → In c ks → Cut ks o.child
      first [] leads apart each i = absurd i
      first (k ∷ ks) leads apart each i = elim i [
        | inl same ↦ subst (Cut (k ∷ ks)) (sym child) (first_cut (k ∷ ks) (subst (λ q. Leads p0 q (k ∷ ks)) (leads.0 ∙ ap Some (sym same)) leads) apart (λ b j is_b. none_some b (sym is ∙ is_b)))
        | inr j ↦
            let b = leader p0 xn.child k ks leads c j in
            let m = each b.0 b.2 in
            absurd (none b.0 m.0 m.1 m.2 (ap (λ (y : Node). y.sibling) (some_is m.0 b.1 (sym m.1 ∙ b.3)) ∙ b.4))
      ]
  cut (Some l) is there now o g =
      let has = K x xn e in
      let own : now.0 ≡ there.0 = some_is now.0 there.0 (sym now.1 ∙ there.1) in
      let s = slid (Some l) is now x xn e in
      let child : o.child ≡ xn.child = same_child o g in
      subst (Cut has.kids) (sym child) (later_cut l there.0 is there.1 there.3 (record { span = now.0.span; child = now.0.child; sibling = cn.sibling }, now.2.changed, refl) xn.child has.kids has.leads has.apart (has.all l there.0 there.1 there.2))
    where
      same_child : (o : Node) → get p1 x ≡ Some o → o.child ≡ xn.child
      same_child o g = grind (arith, one_name x l, now.1, now.2.changed, now.2.others x)

  -- the child before c hangs at x
  last_kid : (l : Option Name) → IsBefore p0 x c l → (b : Name) (m : Node) → l ≡ Some b → get p0 b ≡ Some m → m.span.parent ≡ Some x
  last_kid None before b m is g = absurd (none_some b is)
  last_kid (Some l) before b m is g = ap (λ (y : Node). y.span.parent) (some_is m before.0 (sym g ∙ ap (get p0) (sym (some_is l b is)) ∙ before.1)) ∙ before.2

  others : (a : Name) (n o : Node) → a ≢ x → get p0 a ≡ Some n → o.child ≡ n.child → HasKids p2 a o
  others a n o other g child = kids_kept p0 p2 a n o (K a n g) child
      (λ b m h p.
      let s = stay b m h (λ same. other (some_is a x (sym p ∙ ap (λ (y : Node). y.span.parent) (some_is m cn (sym h ∙ ap (get p0) same ∙ f)) ∙ kid))) in
      (s.0, s.1, s.4 (λ is_b. other (some_is a x (sym p ∙ last_kid last before b m is_b h))), ap (λ (t : Span). t.parent) s.2))
      (λ b k h p. let m = back b k h (inr (λ same. none_some a (sym v_parent ∙ ap (λ (y : Node). y.span.parent) (some_is v k (sym up2.changed ∙ ap (get p2) (sym same) ∙ h)) ∙ p))) in (m.1.0, m.1.1, ap (λ (t : Span). t.parent) m.1.2 ∙ p))

  pub kids_unhung : AllKids p2
  kids_unhung a o g = elim (one_name a x) [
    | inl same ↦
        let there : get p1 x ≡ Some o = sym (up2.others x differ) ∙ ap (get p2) (sym same) ∙ g in
        let r = cut last refl before up1 o there in
        let has = K x xn e in
        subst (λ (y : Name). HasKids p2 y o) (sym same) (record {
          kids = r.names;
          leads = r.leads;
          apart = r.apart;
          each = λ b i. let j = r.from b i in let k = has.each b j.0 in let s = stay b k.0 k.1 j.1 in (s.0, s.1, ap (λ (t : Span). t.parent) s.2 ∙ k.2);
          all = λ b m h p. let k = back b m h (inl p) in r.to b (has.all b k.1.0 k.1.1 (ap (λ (t : Span). t.parent) k.1.2 ∙ p)) k.0;
        })
    | inr other ↦ elim (came_from p1 p2 c v up2 a o g) [
      | inl h ↦ others a cn o other (ap (get p0) h.0 ∙ f) (ap (λ (y : Node). y.child) h.1 ∙ v_child)
      | inr h ↦
          let n = slid_from last up1 a o h.1 in
          let s = slid last refl up1 a n.0 n.1 in
          others a n.0 o other n.1 (ap (λ (y : Node). y.child) (some_is o s.node (sym h.1 ∙ s.there)) ∙ s.child other)
    ]
  ]
