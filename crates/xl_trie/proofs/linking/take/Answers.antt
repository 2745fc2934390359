use Rattle.std.proofs.Common.{refl}
use Rattle.xl_trie.proofs.Lines.{kids_taken}
use Rattle.xl_trie.proofs.linking.take.Goals as goal

pub returns-clause-kids : goal.returns-clause-kids
returns-clause-kids c = kids_taken c.args.nodes.now c.take.new.self c.requires.kids c.in-Ok.name _ c.in-Ok.ensures.fresh c.requires.hang c.in-Ok.ensures.names refl c.requires.free
