-- no child passed begins with the ledger, and a node has no more children than there are nodes
use Rattle.std.proofs.Common.{◌+◌, ◌-◌, inl, inr, sym, ap, ◌∙◌, arith}
use Rattle.xl_trie.proofs.Common.{eqb-true, eqb-false, Node, spans, NoneBegins}
use Rattle.xl_trie.proofs.Listing.{some_is}
use Rattle.xl_trie.proofs.Siblings.{kid_in, looks_from, looks_on, looked, stands_next, comes}
use Rattle.xl_trie.proofs.kids.kid_from.Goals as goal

pub loop-init : goal.loop-init
loop-init c = looks_from c.args.nodes.now c.args.of (NoneBegins (spans c.args.nodes.now) c.args.of c.args.first) c.node_at-at.result (c.live-end.result - 0) (omega (arith, c.live-end.ensures)) (c.requires.kids c.args.of c.node_at-at.result c.node_at-at.ensures.node) (λ b s kid. inl (kid_in c.args.nodes.now c.args.of b c.node_at-at.result s (c.requires.kids c.args.of c.node_at-at.result c.node_at-at.ensures.node) kid))

pub returns-in_default : goal.returns-in_default
returns-in_default c = looked c.args.nodes.now c.args.of (NoneBegins (spans c.args.nodes.now) c.args.of c.args.first) c.loop.at _ c.loop.invariant (inl c.in_default.is)

pub node_at-node-requires : goal.node_at-node-requires
node_at-node-requires c = stands_next c.args.nodes.now c.args.of (NoneBegins (spans c.args.nodes.now) c.args.of c.args.first) c.loop.at _ c.in-Some.name c.loop.invariant c.in-Some.is

pub returns-then-eq : goal.returns-then-eq
returns-then-eq c =
    let at = comes c.args.nodes.now c.args.of (NoneBegins (spans c.args.nodes.now) c.args.of c.args.first) c.loop.at _ c.in-Some.name c.loop.invariant c.in-Some.is in
    let own = some_is c.node_at-node.result at.node (sym c.node_at-node.ensures.node ∙ at.there) in
    (c.node_at-node.result.span, (c.node_at-node.ensures.span, ap (λ (n : Node). n.span.parent) own ∙ at.parent), eqb-true c.node_at-node.result.span.first c.args.first (sym c.eq.ensures ∙ c.if-eq.true))

pub loop-preserved : goal.loop-preserved
loop-preserved c =
    looks_on c.args.nodes.now c.args.of (NoneBegins (spans c.args.nodes.now) c.args.of c.args.first) (NoneBegins (spans c.args.nodes.now) c.args.of c.args.first) c.loop.at (c.live-end.result - c.loop.counter) (c.live-end.result - (c.loop.counter + 1)) c.in-Some.name c.node_at-node.result c.loop.invariant c.in-Some.is c.node_at-node.ensures.node (omega (arith, c.loop-test.true))
    (λ rest kid so b m is. grind (arith, so b m is, is.0, c.node_at-node.ensures.span, eqb-false c.node_at-node.result.span.first c.args.first (sym c.eq.ensures ∙ c.if-eq.false)))

pub returns : goal.returns
returns c = looked c.args.nodes.now c.args.of (NoneBegins (spans c.args.nodes.now) c.args.of c.args.first) c.loop.at (c.live-end.result - c.loop.counter) c.loop.invariant (inr (omega (arith, c.loop-test.false)))
