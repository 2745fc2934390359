use Rattle.std.proofs.Common.{refl, sym, ap, ◌∙◌}
use Rattle.xl_trie.proofs.Common.{Span}
use Rattle.xl_trie.proofs.Lines.{kids_hung}
use Rattle.xl_trie.proofs.Listing.{some_is}
use Rattle.xl_trie.proofs.linking.hang.Goals as goal

pub returns-clause-kids : goal.returns-clause-kids
returns-clause-kids c =
    let free = c.requires.free in
    let own = some_is c.node_at-node.result.span free.0 (sym c.node_at-node.ensures.span ∙ free.1) in
    kids_hung c.args.nodes.now c.put.new.nodes c.put-2.new.nodes c.requires.kids c.args.of c.args.name c.node_at-over.result c.node_at-node.result _ _ c.node_at-over.ensures.node c.node_at-node.ensures.node (ap (λ (s : Span). s.parent) own ∙ free.2) c.requires.other c.put.ensures.names c.put-2.ensures.names refl refl refl refl refl refl
