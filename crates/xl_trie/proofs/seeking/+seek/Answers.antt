-- a child that ends on the way is deeper, and if none does, the span reached is the deepest that does
use Rattle.std.proofs.Common.{◌-◌, ◌^◌, ◌<◌, sym, subst, ◌∙◌, arith}
use Rattle.xl_trie.proofs.Common.{seq_at, spans, IsKid}
use Rattle.xl_trie.proofs.Listing.{some_is}
use Rattle.xl_trie.proofs.Ways.{on_true}
use Rattle.xl_trie.proofs.Placing.{deeper, place_end, place_none, place_within}
use Rattle.xl_trie.proofs.seeking.+seek.Goals as goal

pub returns-then-seq_of-seq-clause-place : goal.returns-then-seq_of-seq-clause-place
returns-then-seq_of-seq-clause-place t c = place_end c.args.registry.now.headers c.seq_of-seq.ensures.ledgers (spans c.args.nodes.now) c.requires.trie.1.spans.linked c.args.to c.requires.known c.args.at c.args.span c.requires.here c.requires.on (omega (arith, c.seq_of-seq.ensures.value, c.seq_of.ensures.value, c.if-seq_of-seq.true))

pub returns-in_default-clause-place : goal.returns-in_default-clause-place
returns-in_default-clause-place t c = place_none c.args.registry.now.headers c.seq_of-seq.ensures.ledgers (spans c.args.nodes.now) c.requires.trie.1.spans.linked c.args.to c.requires.known c.args.at c.args.span c.requires.here c.requires.on c.begin_of-next.result c.begin_of-next.ensures.begin c.begin_of-next.ensures.known c.in_default.ensures

pub seek-requires : goal.seek-requires
seek-requires t c =
    let hs = c.args.registry.now.headers in
    let L = c.requires.trie.1.spans.linked in
    let child = c.span_at-child.result in
    let own = some_is c.in-Some.ensures.0 child (sym c.in-Some.ensures.1.0 ∙ c.span_at-child.ensures) in
    let kid = subst (IsKid (spans c.args.nodes.now) c.args.at c.in-Some.name) own c.in-Some.ensures.1 in
    let lt = deeper hs c.seq_of-seq.ensures.ledgers (spans c.args.nodes.now) L c.args.at c.in-Some.name c.args.span child c.requires.here kid in
    let falls : 2 ^ 32 - seq_at hs child.ledger < t = omega (arith, c.decreases, lt, c.seq_of-seq.ensures.value, c.seq_of-seq.type_inv) in
    (falls, (c.requires.trie, (c.requires.known, (c.span_at-child.ensures, on_true hs c.seq_of-seq.ensures.ledgers child.ledger c.args.to c.requires.known (sym c.is_on_chain.ensures ∙ c.if-is_on_chain.true)))))

pub returns-else-is_on_chain-clause-place : goal.returns-else-is_on_chain-clause-place
returns-else-is_on_chain-clause-place t c =
    place_within c.args.registry.now.headers c.seq_of-seq.ensures.ledgers (spans c.args.nodes.now) c.requires.trie.1.spans.linked c.args.to c.requires.known c.args.at c.args.span c.requires.here c.requires.on c.begin_of-next.result c.begin_of-next.ensures.begin c.begin_of-next.ensures.known (omega (arith, c.seq_of-seq.ensures.value, c.seq_of.ensures.value, c.if-seq_of-seq.false)) c.in-Some.name c.in-Some.ensures c.span_at-child.result c.span_at-child.ensures (sym c.is_on_chain.ensures ∙ c.if-is_on_chain.false)
