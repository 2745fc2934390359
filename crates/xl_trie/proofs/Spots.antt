-- The nodes are as many as the spots, and at most twice the votes and one.
use Rattle.std.proofs.Common.{◌≡◌, ◌⊎◌, ℕ, zero, suc, ◌+◌, ◌*◌, ◌<◌, ◌≤◌, ◌==◌, ◌||◌, Bool, true, List, [], ◌∷◌, length, take, Option, Some, None, refl, sym, ap, subst, ◌∙◌, arith, inl, inr}
use Rattle.xl_trie.proofs.Common.{list_any, range_with_len, map, cases_lt, eqb-true, eq-eqb, or_cases, length-map, take_all, Header, Vote, common_of, AreLedgers, Slot, live, Name, Node, Span, is_spot, spots, In, spans, IsKid, HasSpan, AreSpans, IsRoot, way, OnWay, or_left, or_right}
use Rattle.xl_trie.proofs.Fronts.{shared, shared_low, shared_low_right, shared_same, shared_most, shared_turn, shared_through}
use Rattle.xl_trie.proofs.Listing.{some_is, none_some, in_range, counted, in_filter, to_filter, in_map, to_map, any_in, in_any, apart_le, apart_map, filter_apart, range_apart}
use Rattle.xl_trie.proofs.Firsts.{has_vote, some_branch}
use Rattle.xl_trie.proofs.Naming.{names_of, names_many, names_apart, has_span, span_named}
use Rattle.xl_trie.proofs.Trees.{on_through, root_on, root_short, hung, one_kid, leads_to, toward_vote, known_vote}
use Rattle.xl_trie.proofs.Ways.{way_one, common_way, common_known}

-- ---- the last common ledgers of some ledgers

module _ (hs : List Header) (ok : AreLedgers hs) where
  common_is : (a b c d : ℕ) → a < length hs → b < length hs → c < length hs → d < length hs → take (shared (way hs a) (way hs b)) (way hs a) ≡ take (shared (way hs c) (way hs d)) (way hs c) → common_of hs a b ≡ common_of hs c d
  common_is a b c d ka kb kc kd same = way_one hs ok (common_of hs a b) (common_of hs c d) (common_known hs ok a b ka kb) (common_known hs ok c d kc kd) (common_way hs ok a b ka kb ∙ same ∙ sym (common_way hs ok c d kc kd))

  common_self : (a : ℕ) → a < length hs → common_of hs a a ≡ a
  common_self a ka = way_one hs ok (common_of hs a a) a (common_known hs ok a a ka ka) ka (common_way hs ok a a ka ka ∙ take_all (shared (way hs a) (way hs a)) (way hs a) (shared_most (way hs a) (way hs a) (length (way hs a)) (omega arith) (omega arith) refl))

  -- of some ledgers, the one with which a way goes furthest
  furthest : (v x : ℕ) (xs : List ℕ) → (f : ℕ) × In f (x ∷ xs) × ((u : ℕ) → In u (x ∷ xs) → shared (way hs v) (way hs u) ≤ shared (way hs v) (way hs f))
  furthest v x [] = (x, inl refl, λ u i. elim i [ inl e ↦ (let same = ap (λ y. shared (way hs v) (way hs y)) e in omega arith) | inr none ↦ absurd none ])
  furthest v x (y ∷ xs) =
      let r = furthest v y xs in
      elim (cases_lt (shared (way hs v) (way hs r.0)) (shared (way hs v) (way hs x))) [
        | inl lt ↦ (x, inl refl, λ u i. elim i [ inl e ↦ (let same = ap (λ y. shared (way hs v) (way hs y)) e in omega arith) | inr j ↦ (let le = r.2 u j in omega (arith, le, lt)) ])
        | inr ge ↦ (r.0, inr r.1, λ u i. elim i [ inl e ↦ (let same = ap (λ y. shared (way hs v) (way hs y)) e in omega (arith, same, ge)) | inr j ↦ r.2 u j ])
      ]

  -- of a ledger and others, two of which meet at known places, only one more is a place where two meet
  record Covers (xs : List ℕ) : Type 0 where
    pub spots : List ℕ
    pub few : length spots + 1 ≤ 2 * length xs
    pub meets : (a b : ℕ) → In a xs → In b xs → In (common_of hs a b) spots

  covers : (x : ℕ) (xs : List ℕ) → ((y : ℕ) → In y (x ∷ xs) → y < length hs) → Covers (x ∷ xs)
  covers x [] known = record {
    spots = x ∷ [];
    few = omega arith;
    meets = λ a b i j. elim i [
      | inl e ↦ elim j [ inl g ↦ inl (ap (λ y. common_of hs y b) e ∙ ap (common_of hs x) g ∙ common_self x (known x (inl refl))) | inr none ↦ absurd none ]
      | inr none ↦ absurd none
    ];
  }
  covers x (y ∷ xs) known =
      let c = covers y xs (λ z i. known z (inr i)) in
      let f = furthest x y xs in
      let kx = known x (inl refl) in
      let kf = known f.0 (inr f.1) in
      let met : (u : ℕ) → In u (y ∷ xs) → In (common_of hs x u) (common_of hs x f.0 ∷ c.spots) = λ u i.
      (let ku = known u (inr i) in
      let le = f.2 u i in
      elim (cases_lt (shared (way hs x) (way hs u)) (shared (way hs x) (way hs f.0))) [
        | inl lt ↦ inr (subst (λ z. In z c.spots) (common_is f.0 u x u kf ku kx ku (ap (λ k. take k (way hs f.0)) (shared_through (way hs x) (way hs u) (way hs f.0) lt) ∙ sym (shared_same (way hs x) (way hs f.0) (shared (way hs x) (way hs u)) le))) (c.meets f.0 u f.1 i))
        | inr ge ↦ inl (common_is x u x f.0 kx ku kx kf (ap (λ k. take k (way hs x)) (let e : shared (way hs x) (way hs u) ≡ shared (way hs x) (way hs f.0) = omega (arith, le, ge) in e)))
      ]) in
      record {
        spots = x ∷ common_of hs x f.0 ∷ c.spots;
        few = omega (arith, c.few);
        meets = λ a b i j. elim i [
          | inl e ↦ subst (λ z. In (common_of hs z b) (x ∷ common_of hs x f.0 ∷ c.spots)) (sym e) (elim j [ inl g ↦ inl (ap (common_of hs x) g ∙ common_self x kx) | inr h ↦ inr (met b h) ])
          | inr h ↦ elim j [
            | inr g ↦ inr (inr (c.meets a b h g))
            | inl g ↦
                let ka = known a (inr h) in
                let turn = common_is x a a x kx ka ka kx (shared_same (way hs x) (way hs a) (shared (way hs x) (way hs a)) (omega arith) ∙ ap (λ k. take k (way hs a)) (shared_turn (way hs x) (way hs a))) in
                inr (subst (λ z. In z (common_of hs x f.0 ∷ c.spots)) (turn ∙ ap (common_of hs a) (sym g)) (met a h))
          ]
        ];
      }

-- ---- a span for each spot, and a spot for each span

abbrev ledger_in : Option Span → ℕ
ledger_in None = 0
ledger_in (Some s) = s.ledger

module _ (hs : List Header) (ok : AreLedgers hs) (votes : List Vote) (nodes : List (Slot Node)) (V : AreSpans hs votes (spans nodes) None) (root : Name) (top : IsRoot (spans nodes) root) where
  -- a test of a vote, and of two
  abbrev is_two : ℕ → Vote → Vote → Bool
  is_two x v w = common_of hs v.ledger w.ledger == x

  abbrev is_one : ℕ → Vote → Bool
  is_one x v = v.ledger == x || list_any (λ w. common_of hs v.ledger w.ledger == x) votes

  known : (v : Vote) → In v votes → v.ledger < length hs
  known v i = known_vote hs ok (spans nodes) V.linked votes None V v i

  -- a spot is the root, or the last common ledger of two votes
  spot_is : (x : ℕ) → is_spot hs votes x ≡ true → (x ≡ 0) ⊎ ((v : Vote) × (w : Vote) × In v votes × In w votes × (common_of hs v.ledger w.ledger ≡ x))
  spot_is x e = elim (or_cases (x == 0) (list_any (is_one x) votes) e) [
    | inl zero_x ↦ inl (eqb-true x 0 zero_x)
    | inr some ↦
        let v = any_in (is_one x) votes some in
        elim (or_cases (v.0.ledger == x) (list_any (is_two x v.0) votes) v.2) [
          | inl same ↦ inr (v.0, v.0, v.1, v.1, common_self hs ok v.0.ledger (known v.0 v.1) ∙ eqb-true v.0.ledger x same)
          | inr two ↦ let w = any_in (is_two x v.0) votes two in inr (v.0, w.0, v.1, w.1, eqb-true (common_of hs v.0.ledger w.0.ledger) x w.2)
        ]
  ]

  -- the last common ledger of two votes, from a span above both on
  meet : (n : ℕ) (a : Name) (s : Span) (v w : Vote) → spans nodes a ≡ Some s → In v votes → In w votes → OnWay hs s.ledger v.ledger → OnWay hs s.ledger w.ledger → shared (way hs v.ledger) (way hs w.ledger) ≤ n + length (way hs s.ledger) → HasSpan (spans nodes) (common_of hs v.ledger w.ledger)
  meet zero a s v w e i j onv onw few =
      let most = shared_most (way hs v.ledger) (way hs w.ledger) (length (way hs s.ledger)) onv.0 onw.0 (onv.1 ∙ sym onw.1) in
      let size : length (way hs s.ledger) ≡ shared (way hs v.ledger) (way hs w.ledger) = omega (arith, few, most) in
      (a, s, e, way_one hs ok s.ledger (common_of hs v.ledger w.ledger) (V.linked.known a s e) (common_known hs ok v.ledger w.ledger (known v i) (known w j)) (sym onv.1 ∙ ap (λ k. take k (way hs v.ledger)) size ∙ sym (common_way hs ok v.ledger w.ledger (known v i) (known w j))))
  meet (suc n) a s v w e i j onv onw few = elim (cases_lt (length (way hs s.ledger)) (shared (way hs v.ledger) (way hs w.ledger))) [
    | inr le ↦ meet n a s v w e i j onv onw (omega (arith, le))
    | inl lt ↦
        let low = shared_low (way hs v.ledger) (way hs w.ledger) in
        let right = shared_low_right (way hs v.ledger) (way hs w.ledger) in
        let c = toward_vote hs ok (spans nodes) V.linked votes None V a s v e i onv (omega (arith, lt, low)) in
        let d = toward_vote hs ok (spans nodes) V.linked votes None V a s w e j onw (omega (arith, lt, right)) in
        let alike = shared_same (way hs v.ledger) (way hs w.ledger) (length (way hs s.ledger) + 1) (omega (arith, lt)) in
        let one = one_kid hs ok (spans nodes) V.linked a c.name d.name s c.span d.span v.ledger c.kid d.kid (leads_to hs ok (spans nodes) V.linked a c.name s c.span v.ledger e c.kid c.on) (leads_to hs ok (spans nodes) V.linked a d.name s d.span w.ledger e d.kid d.on ∙ sym alike) in
        let same : d.span ≡ c.span = some_is d.span c.span (sym d.kid.0 ∙ ap (spans nodes) (sym one) ∙ c.kid.0) in
        let h = hung hs ok (spans nodes) V.linked a c.name s c.span e c.kid in
        meet n c.name c.span v w c.kid.0 i j c.on (subst (λ (x : Span). OnWay hs x.ledger w.ledger) same d.on) (omega (arith, few, h.above))
  ]

  span_of_spot : (x : ℕ) → is_spot hs votes x ≡ true → HasSpan (spans nodes) x
  span_of_spot x e = elim (spot_is x e) [
    | inl zero_x ↦ (root, top.0, top.1, top.2 ∙ sym zero_x)
    | inr t ↦ subst (HasSpan (spans nodes)) t.4 (meet (shared (way hs t.0.ledger) (way hs t.1.ledger)) root top.0 t.0 t.1 top.1 t.2 t.3 (root_on hs ok top.0.ledger t.0.ledger top.2) (root_on hs ok top.0.ledger t.1.ledger top.2) (omega arith))
  ]

  -- a vote below a child
  record Below (a : Name) (s : Span) (b : Name) : Type 0 where
    pub vote : Vote
    pub there : In vote votes
    pub span : Span
    pub kid : IsKid (spans nodes) a b span
    pub on : OnWay hs span.ledger vote.ledger

  below : (a b : Name) (s t : Span) → spans nodes a ≡ Some s → IsKid (spans nodes) a b t → Below a s b
  below a b s t e kid =
      let h = hung hs ok (spans nodes) V.linked a b s t e kid in
      let v = has_vote hs ok votes (spans nodes) V t.ledger (some_branch hs ok votes (spans nodes) V (length hs) b t kid.0 (λ zero_t. omega (arith, h.above, root_short hs ok t.ledger zero_t)) (omega arith)) in
      record { vote = v.vote; there = v.there; span = t; kid = kid; on = v.on }

  spot_of_span : (a : Name) (s : Span) → spans nodes a ≡ Some s → is_spot hs votes s.ledger ≡ true
  spot_of_span a s e = elim (V.needed a s e (λ none. none_some a none)) [
    | inl zero_s ↦ or_left (s.ledger == 0) (list_any (is_one s.ledger) votes) (eq-eqb s.ledger 0 zero_s)
    | inr (inl tip) ↦
        let v = counted (λ (w : Vote). w.ledger == s.ledger) votes (omega (arith, tip, V.counted.tip a s e)) in
        or_right (s.ledger == 0) (list_any (is_one s.ledger) votes) (in_any (is_one s.ledger) votes v.0 v.1 (or_left (v.0.ledger == s.ledger) (list_any (is_two s.ledger v.0) votes) v.2))
    | inr (inr fork) ↦
        let v = below a fork.0 s fork.2 e fork.4 in
        let w = below a fork.1 s fork.3 e fork.5 in
        let hv = hung hs ok (spans nodes) V.linked a fork.0 s v.span e v.kid in
        let hw = hung hs ok (spans nodes) V.linked a fork.1 s w.span e w.kid in
        let onv = on_through hs s.ledger v.span.ledger v.vote.ledger hv.on v.on in
        let onw = on_through hs s.ledger w.span.ledger w.vote.ledger hw.on w.on in
        let n = shared (way hs v.vote.ledger) (way hs w.vote.ledger) in
        let most = shared_most (way hs v.vote.ledger) (way hs w.vote.ledger) (length (way hs s.ledger)) onv.0 onw.0 (onv.1 ∙ sym onw.1) in
        let size : n ≡ length (way hs s.ledger) = elim (cases_lt (length (way hs s.ledger)) n) [
          | inr le ↦ omega (arith, le, most)
          | inl lt ↦
              let alike = shared_same (way hs v.vote.ledger) (way hs w.vote.ledger) (length (way hs s.ledger) + 1) (omega (arith, lt)) in
              absurd (fork.6 (one_kid hs ok (spans nodes) V.linked a fork.0 fork.1 s v.span w.span v.vote.ledger v.kid w.kid (leads_to hs ok (spans nodes) V.linked a fork.0 s v.span v.vote.ledger e v.kid v.on) (leads_to hs ok (spans nodes) V.linked a fork.1 s w.span w.vote.ledger e w.kid w.on ∙ sym alike)))
        ] in
        let kv = known v.vote v.there in
        let kw = known w.vote w.there in
        let is : common_of hs v.vote.ledger w.vote.ledger ≡ s.ledger = way_one hs ok (common_of hs v.vote.ledger w.vote.ledger) s.ledger (common_known hs ok v.vote.ledger w.vote.ledger kv kw) (V.linked.known a s e) (common_way hs ok v.vote.ledger w.vote.ledger kv kw ∙ ap (λ k. take k (way hs v.vote.ledger)) size ∙ onv.1) in
        or_right (s.ledger == 0) (list_any (is_one s.ledger) votes) (in_any (is_one s.ledger) votes v.vote v.there (or_right (v.vote.ledger == s.ledger) (list_any (is_two s.ledger v.vote) votes) (in_any (is_two s.ledger v.vote) votes w.vote w.there (eq-eqb (common_of hs v.vote.ledger w.vote.ledger) s.ledger is))))
  ]

  -- ---- how many they are

  abbrev ledger_at : Name → ℕ
  ledger_at b = ledger_in (spans nodes b)

  at_span : (b : Name) (s : Span) → spans nodes b ≡ Some s → ledger_in (spans nodes b) ≡ s.ledger
  at_span b s e = ap ledger_in e

  one_name : (a b : Name) → In a (names_of nodes) → In b (names_of nodes) → ledger_in (spans nodes a) ≡ ledger_in (spans nodes b) → a ≡ b
  one_name a b i j same =
      let s = has_span nodes a i in
      let t = has_span nodes b j in
      V.linked.one a b s.0 t.0 s.1 t.1 (sym (at_span a s.0 s.1) ∙ same ∙ at_span b t.0 t.1)

  pub nodes_many : live nodes ≡ length (spots hs votes)
  nodes_many =
      let all = apart_map ledger_at (names_of nodes) (names_apart nodes) one_name in
      let some = apart_le (map ledger_at (names_of nodes)) (spots hs votes) all (λ x i.
      let b = in_map ledger_at (names_of nodes) x i in
      let s = has_span nodes b.0 b.1 in
      let is : x ≡ s.0.ledger = b.2 ∙ at_span b.0 s.0 s.1 in
      to_filter (is_spot hs votes) (range_with_len 0 (length hs)) x (in_range (length hs) x (subst (λ y. y < length hs) (sym is) (V.linked.known b.0 s.0 s.1))) (ap (is_spot hs votes) is ∙ spot_of_span b.0 s.0 s.1)) in
      let more = apart_le (spots hs votes) (map ledger_at (names_of nodes)) (filter_apart (is_spot hs votes) (range_with_len 0 (length hs)) (range_apart 0 (length hs))) (λ x i.
      let s = span_of_spot x (in_filter (is_spot hs votes) (range_with_len 0 (length hs)) x i).1 in
      subst (λ y. In y (map ledger_at (names_of nodes))) (at_span s.0 s.1 s.2 ∙ s.3) (to_map ledger_at (names_of nodes) s.0 (span_named nodes s.0 s.1 s.2))) in
      omega (arith, some, more, length-map (names_of nodes) ledger_at, names_many nodes)

  pub few_nodes : live nodes ≤ 2 * length votes + 1
  few_nodes =
      let ledgers = map (λ (v : Vote). v.ledger) votes in
      let c = covers hs ok 0 ledgers (λ y i. elim i [
        | inl e ↦ subst (λ z. z < length hs) (sym e) ok.some
        | inr j ↦ let v = in_map (λ (w : Vote). w.ledger) votes y j in subst (λ z. z < length hs) (sym v.2) (known v.0 v.1)
      ]) in
      let le = apart_le (spots hs votes) c.spots (filter_apart (is_spot hs votes) (range_with_len 0 (length hs)) (range_apart 0 (length hs))) (λ x i. elim (spot_is x (in_filter (is_spot hs votes) (range_with_len 0 (length hs)) x i).1) [
        | inl zero_x ↦ subst (λ y. In y c.spots) (common_self hs ok 0 ok.some ∙ sym zero_x) (c.meets 0 0 (inl refl) (inl refl))
        | inr t ↦ subst (λ y. In y c.spots) t.4 (c.meets t.0.ledger t.1.ledger (inr (to_map (λ (w : Vote). w.ledger) votes t.0 t.2)) (inr (to_map (λ (w : Vote). w.ledger) votes t.1 t.3)))
      ]) in
      omega (arith, nodes_many, le, c.few, length-map votes (λ (v : Vote). v.ledger))
