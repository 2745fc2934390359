-- The names of all nodes of a pool, each once.
use Rattle.std.proofs.Common.{◌≡◌, ℕ, ◌+◌, ◌≤◌, cond, Bool, List, length, is_some, Option, Some, None, refl, sym, ap, subst, ◌∙◌, arith}
use Rattle.std.proofs.lemmas.List.FromFn.{fill_by_all}
use Rattle.std.proofs.lemmas.List.Folds.{fold-map}
use Rattle.std.proofs.lemmas.List.Sums.{length-filter}
use Rattle.std.specs.Prelude.{filter}
use Rattle.xl_trie.proofs.Common.{map, range_with_len, length-map, Slot, empty_slot, slot_at, get, live, Name, given_own, of_found, found_within, Node, Span, In, Apart, span_of, spans}
use Rattle.xl_trie.proofs.Listing.{some_is, some_of, is_some_if, in_range, in_filter, to_filter, in_map, to_map, apart_le, apart_map, filter_apart, range_apart}

module _ (nodes : List (Slot Node)) where
  -- the name under which a slot is found
  abbrev name_at : ℕ → Name
  name_at i = record { slot = i; generation = (slot_at nodes i).generation }

  abbrev is_held : ℕ → Bool
  is_held i = is_some (slot_at nodes i).value

  abbrev pub names_of : List Name
  names_of = map name_at (filter is_held (range_with_len 0 (length nodes)))

  pub names_apart : Apart (names_of)
  names_apart = apart_map name_at (filter is_held (range_with_len 0 (length nodes))) (filter_apart is_held (range_with_len 0 (length nodes)) (range_apart 0 (length nodes))) (λ a b i j e. ap (λ (x : Name). x.slot) e)

  pub names_many : length (names_of) ≡ live nodes
  names_many =
      length-map (filter is_held (range_with_len 0 (length nodes))) name_at
      ∙ length-filter is_held (range_with_len 0 (length nodes))
      ∙ sym (fold-map (λ (n : ℕ) (s : Slot Node). n + cond (is_some s.value) 1 0) (slot_at nodes) 0 (range_with_len 0 (length nodes)))
      ∙ ap live (sym (fill_by_all (slot_at nodes) nodes (length nodes) empty_slot refl (λ k lt. refl)))

  live_in : (b : Name) (n : Node) → get nodes b ≡ Some n → In b (names_of)
  live_in b n e =
      let found = is_some_if (get nodes b) n e in
      let own = of_found (slot_at nodes b.slot) b.generation found in
      let kept = to_filter is_held (range_with_len 0 (length nodes)) b.slot (in_range (length nodes) b.slot (found_within nodes b found)) own.1 in
      subst (λ g. let x : Name = record { slot = b.slot; generation = g } in In x (names_of)) own.0 (to_map name_at (filter is_held (range_with_len 0 (length nodes))) b.slot kept)

  in_live : (b : Name) → In b (names_of) → (n : Node) × (get nodes b ≡ Some n)
  in_live b i =
      let r = in_map name_at (filter is_held (range_with_len 0 (length nodes))) b i in
      let v = some_of (slot_at nodes r.0).value (in_filter is_held (range_with_len 0 (length nodes)) r.0 r.1).1 in
      (v.0, ap (get nodes) r.2 ∙ given_own (slot_at nodes r.0) (slot_at nodes r.0).generation refl ∙ v.1)

  -- names with values are no more than the values
  pub few_names : (ks : List Name) → Apart ks → ((b : Name) → In b ks → (n : Node) × (get nodes b ≡ Some n)) → length ks ≤ live nodes
  few_names ks apart held = let le = apart_le ks (names_of) apart (λ b i. live_in b (held b i).0 (held b i).1) in omega (arith, le, names_many)

  -- the node of a span
  pub node_of : (b : Name) (s : Span) → spans nodes b ≡ Some s → (m : Node) × (get nodes b ≡ Some m) × (m.span ≡ s)
  node_of b s e = by_node (get nodes b) e
    where
      by_node : (o : Option Node) → span_of o ≡ Some s → (m : Node) × (o ≡ Some m) × (m.span ≡ s)
      by_node None e = absurd cc
      by_node (Some m) e = (m, refl, some_is m.span s e)

  -- the names with spans are the names of nodes
  pub has_span : (b : Name) → In b (names_of) → (s : Span) × (spans nodes b ≡ Some s)
  has_span b i = let n = in_live b i in (n.0.span, ap span_of n.1)

  pub span_named : (b : Name) (s : Span) → spans nodes b ≡ Some s → In b (names_of)
  span_named b s e = let n = node_of b s e in live_in b n.0 n.1
