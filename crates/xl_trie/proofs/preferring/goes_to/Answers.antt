-- children begin with the candidates, so the best one's lead is the margin weighed against the uncommitted
use Rattle.std.proofs.Common.{◌∙◌}
use Rattle.xl_trie.proofs.Common.{spans}
use Rattle.xl_trie.proofs.Choosing.{Choice, goes_nowhere, choice_one, choice_two, chosen, not_chosen}
use Rattle.xl_trie.proofs.preferring.goes_to.Goals.{in-None, in-Some-best_kid}
use Rattle.xl_trie.proofs.preferring.goes_to.Goals as goal

pub returns-in_default : goal.returns-in_default
returns-in_default c = goes_nowhere c.args.walk.now.ledgers.headers c.requires.ledgers c.args.votes.now (spans c.args.nodes.now) c.requires.trie.spans c.args.at c.args.span.now c.requires.here c.args.largest c.in_default.ensures.best

pub returns-then-ahead-uncommitted : goal.returns-then-ahead-uncommitted
returns-then-ahead-uncommitted c =
    let choice : Choice c.args.walk.now.ledgers.headers c.requires.ledgers c.args.votes.now (spans c.args.nodes.now) c.requires.trie.spans c.args.at c.args.span.now c.requires.here c.args.largest c.uncommitted.result c.match-best_kid-2.ahead c.seq_of.result c.in-Some.best c.in-Some.ensures.best c.span_at-child.result c.span_at-child.ensures c.seq_of.ensures.value c.uncommitted.ensures = elim c.match-best_kid-2.branch [
      | in-None w ↦ choice_one c.args.walk.now.ledgers.headers c.requires.ledgers c.args.votes.now (spans c.args.nodes.now) c.requires.trie.spans c.args.at c.args.span.now c.requires.here c.args.largest c.uncommitted.result c.match-best_kid-2.ahead c.seq_of.result c.in-Some.best c.in-Some.ensures.best c.span_at-child.result c.span_at-child.ensures c.seq_of.ensures.value c.uncommitted.ensures w.in-None.ensures.best (w.ahead-is ∙ w.lead-ahead.ensures)
      | in-Some-best_kid w ↦ choice_two c.args.walk.now.ledgers.headers c.requires.ledgers c.args.votes.now (spans c.args.nodes.now) c.requires.trie.spans c.args.at c.args.span.now c.requires.here c.args.largest c.uncommitted.result c.match-best_kid-2.ahead c.seq_of.result c.in-Some.best c.in-Some.ensures.best c.span_at-child.result c.span_at-child.ensures c.seq_of.ensures.value c.uncommitted.ensures w.in-Some-best_kid.second w.span_at.result w.in-Some-best_kid.ensures.best w.span_at.ensures (w.ahead-is ∙ w.lead-ahead-in-Some-best_kid.ensures)
    ] in
    chosen c.args.walk.now.ledgers.headers c.requires.ledgers c.args.votes.now (spans c.args.nodes.now) c.requires.trie.spans c.args.at c.args.span.now c.requires.here c.args.largest c.uncommitted.result c.match-best_kid-2.ahead c.seq_of.result c.in-Some.best c.in-Some.ensures.best c.span_at-child.result c.span_at-child.ensures c.seq_of.ensures.value c.uncommitted.ensures choice c.if-ahead-uncommitted.true

pub returns-else-ahead-uncommitted : goal.returns-else-ahead-uncommitted
returns-else-ahead-uncommitted c =
    let choice : Choice c.args.walk.now.ledgers.headers c.requires.ledgers c.args.votes.now (spans c.args.nodes.now) c.requires.trie.spans c.args.at c.args.span.now c.requires.here c.args.largest c.uncommitted.result c.match-best_kid-2.ahead c.seq_of.result c.in-Some.best c.in-Some.ensures.best c.span_at-child.result c.span_at-child.ensures c.seq_of.ensures.value c.uncommitted.ensures = elim c.match-best_kid-2.branch [
      | in-None w ↦ choice_one c.args.walk.now.ledgers.headers c.requires.ledgers c.args.votes.now (spans c.args.nodes.now) c.requires.trie.spans c.args.at c.args.span.now c.requires.here c.args.largest c.uncommitted.result c.match-best_kid-2.ahead c.seq_of.result c.in-Some.best c.in-Some.ensures.best c.span_at-child.result c.span_at-child.ensures c.seq_of.ensures.value c.uncommitted.ensures w.in-None.ensures.best (w.ahead-is ∙ w.lead-ahead.ensures)
      | in-Some-best_kid w ↦ choice_two c.args.walk.now.ledgers.headers c.requires.ledgers c.args.votes.now (spans c.args.nodes.now) c.requires.trie.spans c.args.at c.args.span.now c.requires.here c.args.largest c.uncommitted.result c.match-best_kid-2.ahead c.seq_of.result c.in-Some.best c.in-Some.ensures.best c.span_at-child.result c.span_at-child.ensures c.seq_of.ensures.value c.uncommitted.ensures w.in-Some-best_kid.second w.span_at.result w.in-Some-best_kid.ensures.best w.span_at.ensures (w.ahead-is ∙ w.lead-ahead-in-Some-best_kid.ensures)
    ] in
    not_chosen c.args.walk.now.ledgers.headers c.requires.ledgers c.args.votes.now (spans c.args.nodes.now) c.requires.trie.spans c.args.at c.args.span.now c.requires.here c.args.largest c.uncommitted.result c.match-best_kid-2.ahead c.seq_of.result c.in-Some.best c.in-Some.ensures.best c.span_at-child.result c.span_at-child.ensures c.seq_of.ensures.value c.uncommitted.ensures choice c.if-ahead-uncommitted.false
