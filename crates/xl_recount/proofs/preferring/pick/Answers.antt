-- the child that leads is the best candidate, the one that leads the rest the second, and votes tell the margin
use Rattle.xl_recount.proofs.BestLaws.{children_known, picks_none, picks, chosen, not_chosen}
use Rattle.xl_recount.proofs.preferring.pick.Goals as goal

pub best_child-requires-clause-known : goal.best_child-requires-clause-known
best_child-requires-clause-known c = children_known c.args.walk.now.ledgers.headers c.requires.ledgers c.args.votes.now c.args.from c.args.children.now c.requires.known c.requires.children

pub best_child-second-requires-clause-known : goal.best_child-second-requires-clause-known
best_child-second-requires-clause-known c = children_known c.args.walk.now.ledgers.headers c.requires.ledgers c.args.votes.now c.args.from c.args.children.now c.requires.known c.requires.children

pub returns-in_default-clause-value : goal.returns-in_default-clause-value
returns-in_default-clause-value c = picks_none c.args.walk.now.ledgers.headers c.requires.ledgers c.args.votes.now c.args.from c.args.largest c.args.children.now c.best_child.result c.requires.known c.requires.children c.in_default.is c.best_child.ensures.leads

pub returns-then-margin-uncommitted-clause-value : goal.returns-then-margin-uncommitted-clause-value
returns-then-margin-uncommitted-clause-value c =
    let next = picks c.args.walk.now.ledgers.headers c.requires.ledgers c.args.votes.now c.args.from c.args.largest c.in-Some.best c.seq_of.result c.uncommitted-uncommitted.result c.margin.result c.args.children.now c.best_child.result c.best_child-second.result
    c.requires.known c.requires.children c.in-Some.is c.best_child.ensures.leads c.best_child-second.ensures.leads c.seq_of.ensures.value c.uncommitted-uncommitted.ensures c.margin.ensures in
    chosen c.uncommitted-uncommitted.result c.margin.result c.in-Some.best _ next c.if-margin-uncommitted.true

pub returns-else-margin-uncommitted-clause-value : goal.returns-else-margin-uncommitted-clause-value
returns-else-margin-uncommitted-clause-value c =
    let next = picks c.args.walk.now.ledgers.headers c.requires.ledgers c.args.votes.now c.args.from c.args.largest c.in-Some.best c.seq_of.result c.uncommitted-uncommitted.result c.margin.result c.args.children.now c.best_child.result c.best_child-second.result
    c.requires.known c.requires.children c.in-Some.is c.best_child.ensures.leads c.best_child-second.ensures.leads c.seq_of.ensures.value c.uncommitted-uncommitted.ensures c.margin.ensures in
    not_chosen c.uncommitted-uncommitted.result c.margin.result c.in-Some.best _ next c.if-margin-uncommitted.false
