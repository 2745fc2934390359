-- all of a span's votes go on along it while more are for it than are uncommitted, and each child ends deeper
use Rattle.std.proofs.Common.{◌≡◌, ◌+◌, ◌-◌, ◌^◌, ◌<◌, ℕ, List, Some, sym, ap, subst, ◌∙◌, arith, inl, inr}
use Rattle.xl_trie.proofs.Common.{cases_eq, Header, Vote, seq_at, AreLedgers, uncommitted, next_of, Slot, Name, Node, Span, GoesTo, spans, IsKid, IsTrie}
use Rattle.xl_trie.proofs.Listing.{some_is}
use Rattle.xl_trie.proofs.Along.{stays, whole_span, part_span}
use Rattle.xl_trie.proofs.Placing.{deeper}
use Rattle.xl_trie.proofs.preferring.+prefer_from.Goals as goal

-- what is known of the child to which the votes go on
record Goes (hs : List Header) (votes : List Vote) (nodes : List (Slot Node)) (largest : ℕ) (a b : Name) (s t : Span) : Type 0 where
  pub kid : IsKid (spans nodes) a b t
  pub next : next_of hs votes largest s.ledger ≡ Some t.first
  pub more : uncommitted hs votes (seq_at hs s.ledger + 1) largest < t.branch
  pub deeper : seq_at hs s.ledger < seq_at hs t.ledger

goes : (hs : List Header) (ok : AreLedgers hs) (votes : List Vote) (nodes : List (Slot Node)) (largest : ℕ) (T : IsTrie hs votes nodes) (a b : Name) (s t : Span) → spans nodes a ≡ Some s → GoesTo hs votes (spans nodes) largest a s.ledger (Some b) → spans nodes b ≡ Some t → Goes hs votes nodes largest a b s t
goes hs ok votes nodes largest T a b s t e to f =
    let own = some_is to.0 t (sym to.1.0 ∙ f) in
    let kid : IsKid (spans nodes) a b t = subst (IsKid (spans nodes) a b) own to.1 in
    record {
      kid = kid;
      next = to.2 ∙ ap (λ (x : Span). Some x.first) own;
      more = subst (λ (x : Span). uncommitted hs votes (seq_at hs s.ledger + 1) largest < x.branch) own to.3;
      deeper = deeper hs ok (spans nodes) T.spans.linked a b s t e kid;
    }

pub returns-in_default-clause-value : goal.returns-in_default-clause-value
returns-in_default-clause-value t c = stays c.args.walk.now.ledgers.headers c.seq_of-seq.ensures.ledgers c.args.votes.now c.args.largest c.args.span.ledger c.in_default.ensures

pub prefer_from-requires : goal.prefer_from-requires
prefer_from-requires t c =
    let hs = c.args.walk.now.ledgers.headers in
    let g = goes hs c.seq_of-seq.ensures.ledgers c.args.votes.now c.args.nodes.now c.args.largest c.requires.trie c.args.at c.in-Some.next c.args.span c.span_at-child.result c.requires.here c.in-Some.ensures c.span_at-child.ensures in
    let small : 2 ^ 32 - seq_at hs c.span_at-child.result.ledger < 2 ^ 32 - seq_at hs c.args.span.ledger = omega (arith, g.deeper, c.seq_of-end.ensures.value, c.seq_of-end.type_inv) in
    let falls : 2 ^ 32 - seq_at hs c.span_at-child.result.ledger < t = omega (arith, small, c.decreases) in
    (falls, (c.requires.trie, c.span_at-child.ensures))

pub returns-then-uncommitted-child-clause-value : goal.returns-then-uncommitted-child-clause-value
returns-then-uncommitted-child-clause-value t c =
    let hs = c.args.walk.now.ledgers.headers in
    let g = goes hs c.seq_of-seq.ensures.ledgers c.args.votes.now c.args.nodes.now c.args.largest c.requires.trie c.args.at c.in-Some.next c.args.span c.span_at-child.result c.requires.here c.in-Some.ensures c.span_at-child.ensures in
    whole_span hs c.seq_of-seq.ensures.ledgers c.args.votes.now c.args.largest (spans c.args.nodes.now) c.requires.trie.spans c.args.at c.args.span c.requires.here c.in-Some.next c.span_at-child.result g.kid g.next c.prefer_from.result (omega (arith, ap (λ k. uncommitted hs c.args.votes.now k c.args.largest) c.seq_of-end.ensures.value, c.uncommitted.ensures, c.if-uncommitted-child.true)) c.prefer_from.ensures.value

pub last_stop-stop-requires-clause-order : goal.last_stop-stop-requires-clause-order
last_stop-stop-requires-clause-order t c =
    let hs = c.args.walk.now.ledgers.headers in
    let g = goes hs c.seq_of-seq.ensures.ledgers c.args.votes.now c.args.nodes.now c.args.largest c.requires.trie c.args.at c.in-Some.next c.args.span c.span_at-child.result c.requires.here c.in-Some.ensures c.span_at-child.ensures in
    elim (cases_eq (seq_at hs c.args.span.ledger + 1) c.seq_of-end.result) [
      | inl e ↦ absurd (omega (arith, g.more, ap (λ k. uncommitted hs c.args.votes.now k c.args.largest) e, c.uncommitted.ensures, c.if-uncommitted-child.false))
      | inr ne ↦ omega (arith, g.deeper, c.seq_of-seq.ensures.value, c.seq_of-end.ensures.value, ne)
    ]

pub last_stop-stop-requires-clause-begins : goal.last_stop-stop-requires-clause-begins
last_stop-stop-requires-clause-begins t c =
    let hs = c.args.walk.now.ledgers.headers in
    let g = goes hs c.seq_of-seq.ensures.ledgers c.args.votes.now c.args.nodes.now c.args.largest c.requires.trie c.args.at c.in-Some.next c.args.span c.span_at-child.result c.requires.here c.in-Some.ensures c.span_at-child.ensures in
    subst (λ k. uncommitted hs c.args.votes.now (k + 1) c.args.largest < c.span_at-child.result.branch) (sym c.seq_of-seq.ensures.value) g.more

pub returns-clause-value : goal.returns-clause-value
returns-clause-value t c =
    let hs = c.args.walk.now.ledgers.headers in
    let g = goes hs c.seq_of-seq.ensures.ledgers c.args.votes.now c.args.nodes.now c.args.largest c.requires.trie c.args.at c.in-Some.next c.args.span c.span_at-child.result c.requires.here c.in-Some.ensures c.span_at-child.ensures in
    part_span hs c.seq_of-seq.ensures.ledgers c.args.votes.now c.args.largest (spans c.args.nodes.now) c.requires.trie.spans c.args.at c.args.span c.requires.here c.in-Some.next c.span_at-child.result g.kid g.next c.last_stop-stop.result c.ancestor.result c.ancestor.ensures.value c.ancestor.ensures.known (omega (arith, c.seq_of-seq.ensures.value, c.last_stop-stop.ensures.low)) (omega (arith, c.seq_of-end.ensures.value, c.last_stop-stop.ensures.high)) c.last_stop-stop.ensures.more c.last_stop-stop.ensures.few

pub overflow_add-seq : goal.overflow_add-seq
overflow_add-seq t c =
    let g = goes c.args.walk.now.ledgers.headers c.seq_of-seq.ensures.ledgers c.args.votes.now c.args.nodes.now c.args.largest c.requires.trie c.args.at c.in-Some.next c.args.span c.span_at-child.result c.requires.here c.in-Some.ensures c.span_at-child.ensures in
    omega (arith, g.deeper, c.seq_of-seq.ensures.value, c.seq_of-end.ensures.value, c.seq_of-end.type_inv)
