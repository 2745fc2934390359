use Rattle.std.proofs.Common.{ap, ◌∙◌}
use Rattle.xl_trie.proofs.Common.{Span}
use Rattle.xl_trie.proofs.Lines.{kids_given}
use Rattle.xl_trie.proofs.Naming.{node_of}
use Rattle.xl_trie.proofs.linking.give.Goals as goal

pub returns-clause-kids : goal.returns-clause-kids
returns-clause-kids c =
    let free = c.requires.free in
    let n = node_of c.args.nodes.now c.args.name free.0 free.1 in
    kids_given c.args.nodes.now c.give.new.self c.requires.kids c.args.name n.0 n.1 (ap (λ (s : Span). s.parent) n.2 ∙ free.2) c.in-Ok.ensures.names
