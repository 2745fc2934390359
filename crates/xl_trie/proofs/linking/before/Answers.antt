-- no child passed leads to the name, and a node has no more children than there are nodes
use Rattle.std.proofs.Common.{◌≢◌, Some, ◌+◌, ◌-◌, inl, inr, sym, ap, ◌∙◌, arith}
use Rattle.xl_trie.proofs.Common.{Node}
use Rattle.xl_trie.proofs.Listing.{some_is, true_false}
use Rattle.xl_trie.proofs.Siblings.{NoneLeads, none_leads, looks_from, looks_on, looked, stands_next, comes}
use Rattle.xl_trie.proofs.linking.before.Goals as goal

pub loop-init : goal.loop-init
loop-init c =
    let has = c.requires.kids c.args.of c.node_at-at.result c.node_at-at.ensures.node in
    looks_from c.args.nodes.now c.args.of (NoneLeads c.args.nodes.now c.args.of c.args.name) c.node_at-at.result (c.live-end.result - 0) (omega (arith, c.live-end.ensures)) has (λ b m e p. inl (has.all b m e p))

pub returns-in_default : goal.returns-in_default
returns-in_default c = none_leads c.args.nodes.now c.args.of c.args.name (looked c.args.nodes.now c.args.of (NoneLeads c.args.nodes.now c.args.of c.args.name) c.loop.at _ c.loop.invariant (inl c.in_default.is))

pub node_at-node-requires : goal.node_at-node-requires
node_at-node-requires c = stands_next c.args.nodes.now c.args.of (NoneLeads c.args.nodes.now c.args.of c.args.name) c.loop.at _ c.in-Some.next c.loop.invariant c.in-Some.is

pub returns-then-is_named : goal.returns-then-is_named
returns-then-is_named c =
    let at = comes c.args.nodes.now c.args.of (NoneLeads c.args.nodes.now c.args.of c.args.name) c.loop.at _ c.in-Some.next c.loop.invariant c.in-Some.is in
    let own = some_is c.node_at-node.result at.node (sym c.node_at-node.ensures.node ∙ at.there) in
    (at.node, at.there, at.parent, ap (λ (n : Node). n.sibling) (sym own) ∙ c.is_named.ensures.0 c.if-is_named.true)

pub loop-preserved : goal.loop-preserved
loop-preserved c =
    looks_on c.args.nodes.now c.args.of (NoneLeads c.args.nodes.now c.args.of c.args.name) (NoneLeads c.args.nodes.now c.args.of c.args.name) c.loop.at (c.live-end.result - c.loop.counter) (c.live-end.result - (c.loop.counter + 1)) c.in-Some.next c.node_at-node.result c.loop.invariant c.in-Some.is c.node_at-node.ensures.node (omega (arith, c.loop-test.true))
    (λ rest kid so b m e p.
    let differs : c.node_at-node.result.sibling ≢ Some c.args.name = λ h. true_false c.is_named.result (c.is_named.ensures.1 h) c.if-is_named.false in
    grind (arith, so b m e p, e, c.node_at-node.ensures.node, differs))

pub returns : goal.returns
returns c = none_leads c.args.nodes.now c.args.of c.args.name (looked c.args.nodes.now c.args.of (NoneLeads c.args.nodes.now c.args.of c.args.name) c.loop.at (c.live-end.result - c.loop.counter) c.loop.invariant (inr (omega (arith, c.loop-test.false))))
