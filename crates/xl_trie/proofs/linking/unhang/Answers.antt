use Rattle.std.proofs.Common.{refl, sym, ap, ◌∙◌}
use Rattle.xl_trie.proofs.Common.{spans, Span}
use Rattle.xl_trie.proofs.Listing.{some_is, some_of}
use Rattle.xl_trie.proofs.Naming.{node_of}
use Rattle.xl_trie.proofs.Unhanging.{kids_unhung}
use Rattle.xl_trie.proofs.linking.unhang.Goals as goal

pub returns-clause-kids : goal.returns-clause-kids
returns-clause-kids c =
    let kid = c.requires.kid in
    let own = some_is c.node_at-node.result.span kid.0 (sym c.node_at-node.ensures.span ∙ kid.1) in
    let over = some_of (spans c.args.nodes.now c.args.of) c.requires.of in
    let x = node_of c.args.nodes.now c.args.of over.0 over.1 in
    kids_unhung c.args.nodes.now c.lead_to.new.nodes c.put.new.nodes c.requires.kids c.args.of c.args.name x.0 c.node_at-node.result _ c.before-last.result x.1 c.node_at-node.ensures.node (ap (λ (s : Span). s.parent) own ∙ kid.2) c.requires.other c.before-last.ensures c.lead_to.ensures.leads c.put.ensures.names refl refl
