-- Without votes the root alone has a node.
use Rattle.std.proofs.Common.{◌≡◌, ℕ, ◌<◌, ◌==◌, List, [], length, replicate, Some, None, refl, sym, ap, subst, ◌∙◌, arith, inl, inr}
use Rattle.xl_trie.proofs.Common.{cases_lt, cond_both, get_or-replicate, get_or_past, length-replicate, Header, AreLedgers, Slot, empty_slot, slot_at, get, Updates, Name, Node, Span, span_of, spans, GoesWith}
use Rattle.xl_trie.proofs.Listing.{none_some}
use Rattle.xl_trie.proofs.Naming.{node_of}
use Rattle.xl_trie.proofs.Trees.{one_name}
use Rattle.xl_trie.proofs.Ways.{way_root}

-- an empty pool has no names
empty_finds : (n : ℕ) (a : Name) → get {T = Node} (replicate n empty_slot) a ≡ None
empty_finds n a = cond_both ((slot_at {T = Node} (replicate n empty_slot) a.slot).generation == a.generation) (slot_at {T = Node} (replicate n empty_slot) a.slot).value None (λ v. v ≡ None) (λ _. none) (λ _. refl)
  where
    none : (slot_at {T = Node} (replicate n empty_slot) a.slot).value ≡ None
    none = elim (cases_lt a.slot n) [
      | inl lt ↦ ap (λ (s : Slot Node). s.value) (get_or-replicate n a.slot empty_slot empty_slot lt)
      | inr ge ↦ ap (λ (s : Slot Node). s.value) (get_or_past (replicate {A = Slot Node} n empty_slot) a.slot empty_slot (omega (arith, ge, length-replicate n (empty_slot {T = Node}))))
    ]

module _ (hs : List Header) (ok : AreLedgers hs) (n : ℕ) (old new : List (Slot Node)) (root : Name) (top : Node) (child : top.child ≡ None) (span : top.span ≡ record { ledger = 0; first = 0; parent = None; tip = 0; branch = 0 }) (empty : old ≡ replicate n empty_slot) (up : Updates old new root (Some top)) where
  only : (a : Name) (m : Node) → get new a ≡ Some m → (a ≡ root) × (m ≡ top)
  only a m e =
      let none : get old a ≡ None = ap (λ (p : List (Slot Node)). get p a) empty ∙ empty_finds n a in
      grind (arith, one_name a root, up.changed, up.others a, none)

  by_root : (P : Span → Type 0) → P (record { ledger = 0; first = 0; parent = None; tip = 0; branch = 0 }) → (a : Name) (s : Span) → spans new a ≡ Some s → P s
  by_root P p a s e = let m = node_of new a s e in subst P (sym span ∙ ap (λ (x : Node). x.span) (sym (only a m.0 m.1).1) ∙ m.2) p

  is_root : (a : Name) (s : Span) → spans new a ≡ Some s → a ≡ root
  is_root a s e = let m = node_of new a s e in (only a m.0 m.1).0

  pub opened : GoesWith hs [] new root
  opened = (
    record {
      spans = record {
        known = λ k d lt. absurd (omega (arith, lt));
        linked = record {
          known = by_root (λ s. s.ledger < length hs) ok.some;
          first = by_root (λ s. s.first < length hs) ok.some;
          one = λ a b s t e f same. is_root a s e ∙ sym (is_root b t f);
          hangs = λ a s e. inl (by_root (λ s. (s.parent ≡ None) × (s.ledger ≡ 0)) (refl, refl) a s e);
          apart = λ a b c s t p q same. is_root b s p.0 ∙ sym (is_root c t q.0);
        };
        voted = λ v i. absurd i;
        counted = record { tip = by_root (λ s. s.tip ≡ 0) refl; branch = by_root (λ s. s.branch ≡ 0) refl };
        needed = λ a s e _. inl (by_root (λ s. s.ledger ≡ 0) refl a s e);
      };
      kids = λ a m e. record {
        kids = [];
        leads = ap (λ (x : Node). x.child) (only a m e).1 ∙ child;
        apart = tt;
        each = λ b i. absurd i;
        all = λ b o f p. absurd (none_some a (sym (by_root (λ s. s.parent ≡ None) refl b o.span (ap span_of f)) ∙ p));
      };
    },
    (top.span, ap span_of up.changed, ap (λ (s : Span). s.ledger) span),
    way_root hs ok,
    tt,
  )
