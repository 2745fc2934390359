-- The deepest span that ends on a way, and what its place tells of votes.
use Rattle.std.proofs.Common.{◌≡◌, ◌≢◌, ℕ, ◌<◌, ◌≤◌, ◌==◌, true, false, List, length, Option, Some, None, sym, ap, subst, ◌∙◌, arith, inl, inr}
use Rattle.xl_trie.proofs.Common.{cases_lt, eqb-true, Header, Vote, seq_at, AreLedgers, is_on_chain, tip_of, branch_of, Name, Span, Place, IsKid, BeginsAt, Enters, EntersAt, IsPlace, AreLinked, AreSpans, HasSpan, way, OnWay, IsBegin}
use Rattle.xl_trie.proofs.Listing.{some_is, true_false, counted}
use Rattle.xl_trie.proofs.Trees.{on_self, front_of, on_through, begin_up, same_ledger, hung, one_kid, leads_to, toward, toward_vote, known_vote, span_branch}
use Rattle.xl_trie.proofs.Ways.{length_way, way_one, on_true, on_from}

pub zero_if : (n : ℕ) → (0 < n → ⊥) → n ≡ 0
zero_if n none = elim (cases_lt 0 n) [ inl some ↦ absurd (none some) | inr le ↦ omega (arith, le) ]

module _ (hs : List Header) (ok : AreLedgers hs) (S : Name → Option Span) (L : AreLinked hs S) (to : ℕ) (kt : to < length hs) (a : Name) (s : Span) (e : S a ≡ Some s) (on : OnWay hs s.ledger to) where
  -- none is deeper, where no child ends on the way
  deepest_if : ((c : Name) (t : Span) → IsKid S a c t → OnWay hs t.ledger to → ⊥) → (b : Name) (t : Span) → S b ≡ Some t → OnWay hs t.ledger to → length (way hs t.ledger) ≤ length (way hs s.ledger)
  deepest_if none b t f far = elim (cases_lt (length (way hs s.ledger)) (length (way hs t.ledger))) [
    | inr le ↦ le
    | inl lt ↦
        let u = toward hs ok S L (length (way hs t.ledger)) a b s t e f (omega arith) (front_of hs s.ledger t.ledger to on far (omega (arith, lt))) lt in
        absurd (none u.name u.span u.kid (on_through hs u.span.ledger t.ledger to u.on far))
  ]

  pub place_end : seq_at hs to ≤ seq_at hs s.ledger → IsPlace hs S to (record { at = a; within = None })
  place_end le = record {
    span = s;
    there = e;
    on = on;
    deepest = λ b t f far. omega (arith, le, far.0, length_way hs to, length_way hs s.ledger);
    enters = λ c t kid enters. omega (arith, le, enters.0, length_way hs to, length_way hs s.ledger);
  }

  module _ (next : ℕ) (next_is : IsBegin hs to s.ledger next) (kn : next < length hs) where
    first_is : (c : Name) (t : Span) → IsKid S a c t → IsBegin hs to s.ledger t.first → t.first ≡ next
    first_is c t kid begin = way_one hs ok t.first next (L.first c t kid.0) kn (begin ∙ sym next_is)

    pub place_none : BeginsAt S a next None → IsPlace hs S to (record { at = a; within = None })
    place_none none =
        let empty : (c : Name) (t : Span) → IsKid S a c t → IsBegin hs to s.ledger t.first → ⊥ = λ c t kid begin. elim (none c t kid) [ inl wrong ↦ wrong | inr other ↦ other (first_is c t kid begin) ] in
        record {
          span = s;
          there = e;
          on = on;
          deepest = deepest_if (λ c t kid far. empty c t kid (leads_to hs ok S L a c s t to e kid far));
          enters = λ c t kid enters. empty c t kid enters.1;
        }

    pub place_within : seq_at hs s.ledger < seq_at hs to → (c : Name) → BeginsAt S a next (Some c) → (t : Span) → S c ≡ Some t → is_on_chain hs t.ledger to ≡ false → IsPlace hs S to (record { at = a; within = Some c })
    place_within lt c begins t there off =
        let own = some_is begins.0 t (sym begins.1.0 ∙ there) in
        let kid : IsKid S a c t = subst (IsKid S a c) own begins.1 in
        let begin : IsBegin hs to s.ledger t.first = ap (way hs) (ap (λ (x : Span). x.first) (sym own) ∙ begins.2) ∙ next_is in
        record {
          span = s;
          there = e;
          on = on;
          deepest = deepest_if (λ d u is far.
              let one = one_kid hs ok S L a d c s u t to is kid (leads_to hs ok S L a d s u to e is far) begin in
              let span : u ≡ t = some_is u t (sym is.0 ∙ ap S one ∙ there) in
              true_false (is_on_chain hs t.ledger to) (on_from hs ok t.ledger to (L.known c t there) kt (subst (λ (x : Span). OnWay hs x.ledger to) span far)) off);
          enters = (t, kid, ((omega (arith, lt, length_way hs to, length_way hs s.ledger)), begin));
        }

-- a child is deeper
pub deeper : (hs : List Header) (ok : AreLedgers hs) (S : Name → Option Span) (L : AreLinked hs S) (a b : Name) (s t : Span) → S a ≡ Some s → IsKid S a b t → seq_at hs s.ledger < seq_at hs t.ledger
deeper hs ok S L a b s t e kid = let h = hung hs ok S L a b s t e kid in omega (arith, h.above, length_way hs s.ledger, length_way hs t.ledger)

-- ---- how many votes a ledger has, from the place of its way

module _ (hs : List Header) (ok : AreLedgers hs) (S : Name → Option Span) (votes : List Vote) (but : Option Name) (V : AreSpans hs votes S but) (x : ℕ) (kx : x < length hs) (p : Place) (P : IsPlace hs S x p) where
  -- a ledger at which a span ends has its place there
  pub at_span : HasSpan S x → P.span.ledger ≡ x
  at_span of =
      let le = P.deepest of.0 of.1 of.2 (subst (λ y. OnWay hs y x) (sym of.3) (on_self hs x)) in
      same_ledger hs ok P.span.ledger x (V.linked.known p.at P.span P.there) kx P.on (omega (arith, le, ap (λ y. length (way hs y)) of.3))

  pub tip_none : P.span.ledger ≢ x → 0 ≡ tip_of votes x
  tip_none other = sym (zero_if (tip_of votes x) (λ some.
      let v = counted (λ (w : Vote). w.ledger == x) votes some in
      other (at_span (subst (HasSpan S) (eqb-true v.0.ledger x v.2) (V.voted v.0 v.1)))))

  pub below : P.span.ledger ≢ x → length (way hs P.span.ledger) < length (way hs x)
  below other = grind (arith, cases_lt (length (way hs P.span.ledger)) (length (way hs x)), same_ledger hs ok P.span.ledger x (V.linked.known p.at P.span P.there) kx P.on, other)

  -- inside a span it has those of the span
  pub branch_inside : P.span.ledger ≢ x → (c : Name) (t : Span) → IsKid S p.at c t → is_on_chain hs x t.ledger ≡ true → t.branch ≡ branch_of hs votes x
  branch_inside other c t kid is = sym (span_branch hs ok S V.linked votes but V p.at c P.span t x P.there kid kx (on_true hs ok x t.ledger (V.linked.known c t kid.0) is) (below other))

  -- a ledger with votes below its place is inside a child's span
  record Inside : Type 0 where
    pub name : Name
    pub span : Span
    pub kid : IsKid S p.at name span
    pub enters : Enters hs P.span span x
    pub inside : is_on_chain hs x span.ledger ≡ true

  inside_if : P.span.ledger ≢ x → 0 < branch_of hs votes x → Inside
  inside_if other some =
      let v = counted (λ (w : Vote). is_on_chain hs x w.ledger) votes some in
      let on = on_true hs ok x v.0.ledger (known_vote hs ok S V.linked votes but V v.0 v.1) v.2 in
      let lt = below other in
      let u = toward_vote hs ok S V.linked votes but V p.at P.span v.0 P.there v.1 (on_through hs P.span.ledger x v.0.ledger P.on on) (omega (arith, lt, on.0)) in
      let h = hung hs ok S V.linked p.at u.name P.span u.span P.there u.kid in
      let short : length (way hs x) < length (way hs u.span.ledger) = grind (arith, cases_lt (length (way hs x)) (length (way hs u.span.ledger)), P.deepest u.name u.span u.kid.0, front_of hs u.span.ledger x v.0.ledger u.on on, h.above) in
      let inside = front_of hs x u.span.ledger v.0.ledger on u.on (omega (arith, short)) in
      record { name = u.name; span = u.span; kid = u.kid; enters = (lt, begin_up hs x u.span.ledger P.span.ledger u.span.first inside lt h.first); inside = on_from hs ok x u.span.ledger kx (V.linked.known u.name u.span u.kid.0) inside }

  -- elsewhere it has none
  pub branch_none : P.span.ledger ≢ x → p.within ≡ None → 0 ≡ branch_of hs votes x
  branch_none other none = sym (zero_if (branch_of hs votes x) (λ some.
      let u = inside_if other some in
      (subst (EntersAt hs S p.at P.span x) none P.enters) u.name u.span u.kid u.enters))

  pub branch_outside : P.span.ledger ≢ x → (c : Name) (t : Span) → p.within ≡ Some c → S c ≡ Some t → is_on_chain hs x t.ledger ≡ false → 0 ≡ branch_of hs votes x
  branch_outside other c t some there off = sym (zero_if (branch_of hs votes x) (λ more.
      let u = inside_if other more in
      let w = subst (EntersAt hs S p.at P.span x) some P.enters in
      let one = one_kid hs ok S V.linked p.at u.name c P.span u.span w.0 x u.kid w.1 u.enters.1 w.2.1 in
      let span : u.span ≡ t = some_is u.span t (sym u.kid.0 ∙ ap S one ∙ there) in
      true_false (is_on_chain hs x t.ledger) (subst (λ (y : Span). is_on_chain hs x y.ledger ≡ true) span u.inside) off))
