-- The tree of spans: which is the nearest above another, and which child leads to one below.
use Rattle.std.proofs.Common.{◌≡◌, ◌≢◌, ◌⊎◌, ℕ, zero, suc, ◌+◌, ◌<◌, ◌≤◌, List, [], length, take, Option, Some, sym, ap, subst, ◌∙◌, arith, inl, inr}
use Rattle.xl_trie.proofs.Common.{cases_eq, cases_lt, Header, Vote, AreLedgers, is_on_chain, branch_of, Name, Span, In, IsKid, Hangs, AreLinked, HasFork, IsNeeded, AreSpans, way, OnWay, IsBegin, take-length, length-take-le, take-take}
use Rattle.xl_trie.proofs.Listing.{some_is, none_some, all_in, count_same}
use Rattle.xl_trie.proofs.Ways.{way_one, way_root, on_true, on_from}

-- names are one or differ
pub one_name : (a b : Name) → (a ≡ b) ⊎ (a ≢ b)
one_name a b = grind (arith, cases_eq a.slot b.slot, cases_eq a.generation b.generation)

module _ (hs : List Header) where
  pub on_self : (x : ℕ) → OnWay hs x x
  on_self x = (omega arith, take-length (way hs x))

  -- a front of a front
  pub front_of : (x y to : ℕ) → OnWay hs x to → OnWay hs y to → length (way hs x) ≤ length (way hs y) → OnWay hs x y
  front_of x y to p q le = (le, ap (take (length (way hs x))) (sym q.1) ∙ take-take (length (way hs x)) (length (way hs y)) (way hs to) le ∙ p.1)

  pub on_through : (x y to : ℕ) → OnWay hs x y → OnWay hs y to → OnWay hs x to
  on_through x y to p q = (omega (arith, p.0, q.0), sym (take-take (length (way hs x)) (length (way hs y)) (way hs to) p.0) ∙ ap (take (length (way hs x))) q.1 ∙ p.1)

  -- the root is on each way
  pub empty_on : (x to : ℕ) → way hs x ≡ [] → OnWay hs x to
  empty_on x to empty = let none : length (way hs x) ≡ 0 = ap (length {A = ℕ}) empty in (omega (arith, none), ap (λ k. take k (way hs to)) none ∙ sym empty)

  -- ways begin alike where one is a front of the other
  begins : (x y over : ℕ) → OnWay hs x y → length (way hs over) < length (way hs x) → take (length (way hs over) + 1) (way hs x) ≡ take (length (way hs over) + 1) (way hs y)
  begins x y over on lt = ap (take (length (way hs over) + 1)) (sym on.1) ∙ take-take (length (way hs over) + 1) (length (way hs x)) (way hs y) (omega (arith, lt))

  pub begin_down : (x y over begin : ℕ) → OnWay hs x y → length (way hs over) < length (way hs x) → IsBegin hs x over begin → IsBegin hs y over begin
  begin_down x y over begin on lt is = is ∙ begins x y over on lt

  pub begin_up : (x y over begin : ℕ) → OnWay hs x y → length (way hs over) < length (way hs x) → IsBegin hs y over begin → IsBegin hs x over begin
  begin_up x y over begin on lt is = is ∙ sym (begins x y over on lt)

module _ (hs : List Header) (ok : AreLedgers hs) where
  pub same_ledger : (x y : ℕ) → x < length hs → y < length hs → OnWay hs x y → length (way hs y) ≤ length (way hs x) → x ≡ y
  same_ledger x y kx ky on le = way_one hs ok x y kx ky (sym on.1 ∙ ap (λ k. take k (way hs y)) (let e : length (way hs x) ≡ length (way hs y) = omega (arith, le, on.0) in e) ∙ take-length (way hs y))

  pub root_short : (x : ℕ) → x ≡ 0 → length (way hs x) ≡ 0
  root_short x is = ap (λ y. length (way hs y)) is ∙ ap (length {A = ℕ}) (way_root hs ok)

  pub root_on : (x to : ℕ) → x ≡ 0 → OnWay hs x to
  root_on x to is = empty_on hs x to (ap (way hs) is ∙ way_root hs ok)

  -- what begins there has the next place on the way
  pub begin_size : (x over begin : ℕ) → length (way hs over) < length (way hs x) → IsBegin hs x over begin → length (way hs begin) ≡ length (way hs over) + 1
  begin_size x over begin lt is = ap (length {A = ℕ}) is ∙ length-take-le (length (way hs over) + 1) (way hs x) (omega (arith, lt))

  pub begin_on : (x over begin : ℕ) → length (way hs over) < length (way hs x) → IsBegin hs x over begin → OnWay hs begin x
  begin_on x over begin lt is = let size = begin_size x over begin lt is in (omega (arith, size, lt), ap (λ k. take k (way hs x)) size ∙ sym is)

-- how t hangs at s
pub record Hung (hs : List Header) (s t : Span) : Type 0 where
  pub above : length (way hs s.ledger) < length (way hs t.ledger)
  pub on : OnWay hs s.ledger t.ledger
  pub first : IsBegin hs t.ledger s.ledger t.first

module _ (hs : List Header) (ok : AreLedgers hs) (S : Name → Option Span) (L : AreLinked hs S) where
  pub hung : (a b : Name) (s t : Span) → S a ≡ Some s → IsKid S a b t → Hung hs s t
  hung a b s t e kid = grind (arith, L.hangs b t kid.0, e, kid.1)

  -- a span and what it hangs at aren't the same
  pub kid_differs : (a b : Name) (s t : Span) → S a ≡ Some s → IsKid S a b t → a ≢ b
  kid_differs a b s t e kid same = let h = hung a b s t e kid in omega (arith, h.above, ap (λ (x : Span). length (way hs x.ledger)) (some_is s t (sym e ∙ ap S same ∙ kid.0)))

  -- what a child hangs at
  pub over_of : (a b : Name) (t : Span) → IsKid S a b t → (s : Span) × (S a ≡ Some s)
  over_of a b t kid = elim (L.hangs b t kid.0) [ inl root ↦ absurd (none_some a (sym root.0 ∙ kid.1)) | inr h ↦ (h.over, ap S (sym (some_is h.name a (sym h.is ∙ kid.1))) ∙ h.there) ]

  -- spans at one ledger are one
  pub one_span : (a b : Name) (s t : Span) → S a ≡ Some s → S b ≡ Some t → OnWay hs s.ledger t.ledger → length (way hs t.ledger) ≤ length (way hs s.ledger) → a ≡ b
  one_span a b s t e f on le = L.one a b s t e f (same_ledger hs ok s.ledger t.ledger (L.known a s e) (L.known b t f) on le)

  -- children of one into which one way goes are one
  pub one_kid : (a b c : Name) (s t u : Span) (to : ℕ) → IsKid S a b t → IsKid S a c u → IsBegin hs to s.ledger t.first → IsBegin hs to s.ledger u.first → b ≡ c
  one_kid a b c s t u to p q it iu = L.apart a b c t u p q (way_one hs ok t.first u.first (L.first b t p.0) (L.first c u q.0) (it ∙ sym iu))

  -- each hangs at the nearest one above it
  pub nearest : (n : ℕ) (a b : Name) (s t : Span) → length (way hs s.ledger) ≤ n → S a ≡ Some s → S b ≡ Some t → OnWay hs s.ledger t.ledger → length (way hs s.ledger) < length (way hs t.ledger) → (h : Hangs hs S t) → length (way hs s.ledger) ≤ length (way hs h.over.ledger)
  nearest zero a b s t few e f on lt h = omega (arith, few)
  nearest (suc n) a b s t few e f on lt h = elim (L.hangs a s e) [
    | inl root ↦ omega (arith, root_short hs ok s.ledger root.1)
    | inr g ↦ elim (cases_lt (length (way hs h.over.ledger)) (length (way hs s.ledger))) [
      | inr le ↦ le
      | inl high ↦
          -- then both hang at one, and begin alike
          let up = on_through hs g.over.ledger s.ledger t.ledger g.on on in
          let low = nearest n g.name b g.over t (omega (arith, few, g.above)) g.there f up (omega (arith, g.above, lt)) h in
          let over = front_of hs h.over.ledger s.ledger t.ledger h.on on (omega (arith, high)) in
          let high = nearest n h.name a h.over s (omega (arith, few, high)) h.there e over high g in
          let one : h.name ≡ g.name = one_span h.name g.name h.over g.over h.there g.there (front_of hs h.over.ledger g.over.ledger t.ledger h.on up high) low in
          let over_one : h.over ≡ g.over = some_is h.over g.over (sym h.there ∙ ap S one ∙ g.there) in
          let same : b ≡ a = one_kid g.name b a g.over t s t.ledger (f, h.is ∙ ap Some one) (e, g.is) (subst (λ (o : Span). IsBegin hs t.ledger o.ledger t.first) over_one h.first) (begin_down hs s.ledger t.ledger g.over.ledger s.first on g.above g.first) in
          let spans_one : t ≡ s = some_is t s (sym f ∙ ap S same ∙ e) in
          absurd (omega (arith, lt, ap (λ (x : Span). length (way hs x.ledger)) spans_one))
    ]
  ]

  -- a child on the way to a span below
  pub record Toward (a : Name) (to : ℕ) : Type 0 where
    pub name : Name
    pub span : Span
    pub kid : IsKid S a name span
    pub on : OnWay hs span.ledger to

  pub toward : (n : ℕ) (a b : Name) (s t : Span) → S a ≡ Some s → S b ≡ Some t → length (way hs t.ledger) ≤ n → OnWay hs s.ledger t.ledger → length (way hs s.ledger) < length (way hs t.ledger) → Toward a t.ledger
  toward zero a b s t e f few on lt = absurd (omega (arith, few, lt))
  toward (suc n) a b s t e f few on lt = elim (L.hangs b t f) [
    | inl root ↦ absurd (omega (arith, lt, root_short hs ok t.ledger root.1))
    | inr h ↦
        let low = nearest (length (way hs s.ledger)) a b s t (omega arith) e f on lt h in
        let over = front_of hs s.ledger h.over.ledger t.ledger on h.on low in
        elim (cases_lt (length (way hs s.ledger)) (length (way hs h.over.ledger))) [
          | inl more ↦
              let u = toward n a h.name s h.over e h.there (omega (arith, few, h.above)) over more in
              record { name = u.name; span = u.span; kid = u.kid; on = on_through hs u.span.ledger h.over.ledger t.ledger u.on h.on }
          | inr le ↦ record { name = b; span = t; kid = (f, h.is ∙ ap Some (sym (one_span a h.name s h.over e h.there over le))); on = on_self hs t.ledger }
        ]
  ]

  -- which child leads to a ledger below it
  pub leads_to : (a b : Name) (s t : Span) (x : ℕ) → S a ≡ Some s → IsKid S a b t → OnWay hs t.ledger x → IsBegin hs x s.ledger t.first
  leads_to a b s t x e kid on = let h = hung a b s t e kid in begin_down hs t.ledger x s.ledger t.first on h.above h.first

  module _ (votes : List Vote) (but : Option Name) (V : AreSpans hs votes S but) where
    pub known_vote : (v : Vote) → In v votes → v.ledger < length hs
    known_vote v i = all_in (λ (w : Vote). w.ledger < length hs) votes V.known v i

    -- the child through which the way to a vote goes
    pub toward_vote : (a : Name) (s : Span) (v : Vote) → S a ≡ Some s → In v votes → OnWay hs s.ledger v.ledger → length (way hs s.ledger) < length (way hs v.ledger) → Toward a v.ledger
    toward_vote a s v e i on lt =
        let u = V.voted v i in
        subst (Toward a) u.3 (toward (length (way hs u.1.ledger)) a u.0 s u.1 e u.2 (omega arith) (subst (OnWay hs s.ledger) (sym u.3) on) (omega (arith, lt, ap (λ x. length (way hs x)) u.3)))

    -- a vote that goes into the span goes to its end
    pub through : (a b : Name) (s t : Span) (x : ℕ) (v : Vote) → S a ≡ Some s → IsKid S a b t → OnWay hs x t.ledger → length (way hs s.ledger) < length (way hs x) → In v votes → OnWay hs x v.ledger → OnWay hs t.ledger v.ledger
    through a b s t x v e kid on lt i far =
        let h = hung a b s t e kid in
        let over = on_through hs s.ledger x v.ledger (front_of hs s.ledger x t.ledger h.on on (omega (arith, lt))) far in
        let u = toward_vote a s v e i over (omega (arith, lt, far.0)) in
        let same = one_kid a u.name b s u.span t v.ledger u.kid kid (leads_to a u.name s u.span v.ledger e u.kid u.on) (begin_down hs x v.ledger s.ledger t.first far lt (begin_up hs x t.ledger s.ledger t.first on lt h.first)) in
        let span : u.span ≡ t = some_is u.span t (sym u.kid.0 ∙ ap S same ∙ kid.0) in
        subst (λ (y : Span). OnWay hs y.ledger v.ledger) span u.on

    -- along a span all ledgers have the same votes at or below them
    pub span_branch : (a b : Name) (s t : Span) (x : ℕ) → S a ≡ Some s → IsKid S a b t → x < length hs → OnWay hs x t.ledger → length (way hs s.ledger) < length (way hs x) → branch_of hs votes x ≡ t.branch
    span_branch a b s t x e kid kx on lt =
        let kt = L.known b t kid.0 in
        count_same (λ (v : Vote). is_on_chain hs x v.ledger) (λ (v : Vote). is_on_chain hs t.ledger v.ledger) votes
        (λ v i is. on_from hs ok t.ledger v.ledger kt (known_vote v i) (through a b s t x v e kid on lt i (on_true hs ok x v.ledger (known_vote v i) is)))
        (λ v i is. on_from hs ok x v.ledger kx (known_vote v i) (on_through hs x t.ledger v.ledger on (on_true hs ok t.ledger v.ledger (known_vote v i) is)))
        ∙ sym (V.counted.branch b t kid.0)

-- ---- from spans to others

-- a span hangs on where the one above it ends at the same ledger
pub rehang : (hs : List Header) (S S' : Name → Option Span) (u : Span) (h : Hangs hs S u) (o : Span) → S' h.name ≡ Some o → h.over.ledger ≡ o.ledger → Hangs hs S' u
rehang hs S S' u h o there same = grind (arith, h.is, there, same, h.above, h.on, h.first)

pub needed_on : (S S' : Name → Option Span) (b : Name) (s t : Span) → IsNeeded S b s → s.ledger ≡ t.ledger → s.tip ≡ t.tip → (HasFork S b → HasFork S' b) → IsNeeded S' b t
needed_on S S' b s t need ledger tip fork = grind (arith, need, ledger, tip, fork)

-- two children stay two where at most one of them gives its place to another
pub fork_moved : (S S' : Name → Option Span) (b e e' : Name) → ((p : Span) → IsKid S b e' p → ⊥)
    → ((c : Name) (p : Span) → IsKid S b c p → (c ≢ e → (q : Span) × IsKid S' b c q) × (c ≡ e → (q : Span) × IsKid S' b e' q)) → HasFork S b → HasFork S' b
fork_moved S S' b e e' none map (c, d, s, t, p, q, differ) = elim (one_name c e) [
  | inl ce ↦ let r = (map c s p).1 ce in let u = (map d t q).0 (λ de. differ (ce ∙ sym de)) in (e', d, r.0, u.0, r.1, u.1, λ same. none t (subst (λ (x : Name). IsKid S b x t) (sym same) q))
  | inr other ↦
      let r = (map c s p).0 other in
      elim (one_name d e) [
        | inl de ↦ let u = (map d t q).1 de in (c, e', r.0, u.0, r.1, u.1, λ same. none s (subst (λ (x : Name). IsKid S b x s) same p))
        | inr differs ↦ let u = (map d t q).0 differs in (c, d, r.0, u.0, r.1, u.1, differ)
      ]
]
