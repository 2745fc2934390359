-- the porter's pass is joined first, and each pass has seen a front of what they have together
use Rattle.std.proofs.Common.{map, ap, ◌∙◌}
use Rattle.xl_turns.specs.declared.view.Knowledge.{Knowledge}
use Rattle.xl_turns.specs.Passes.{known}
use Rattle.xl_turns.proofs.Prefixes.{prefix_trans}
use Rattle.xl_store.specs.declared.entry.Entry.{Entry}
use Rattle.xl_workers.specs.Joining.{joined_all, knows}
use Rattle.xl_workers.proofs.joining.join_crew.Goals as goal

pub returns-clause-known : goal.returns-clause-known
returns-clause-known g c =
    c.join_all.ensures.known
    ∙ ap (λ (k : Knowledge Entry). joined_all k (map knows c.args.crew.workers.items)) c.join-both.ensures.known

pub returns-clause-first : goal.returns-clause-first
returns-clause-first g c =
    prefix_trans (known c.args.first).seen (known c.join-both.result).seen (known c.join_all.result).seen
    c.join-both.ensures.one c.join_all.ensures.first

pub returns-clause-porter : goal.returns-clause-porter
returns-clause-porter g c =
    prefix_trans (known c.args.crew.porter.pass).seen (known c.join-both.result).seen (known c.join_all.result).seen
    c.join-both.ensures.other c.join_all.ensures.first
