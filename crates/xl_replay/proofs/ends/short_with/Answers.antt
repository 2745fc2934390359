use Rattle.std.proofs.Common.{sym, ap, ◌∙◌, Some}
use Rattle.std.specs.Prelude.{◌==◌, ◌&&◌, is_some}
use Rattle.xl_world.specs.declared.plan.InForce.{InForce}
use Rattle.xl_replay.specs.Texts.{is_short}
use Rattle.xl_replay.proofs.Finding.{found_nowhere, found_there}
use Rattle.xl_replay.proofs.ends.short_with.Goals as goal

pub returns-in-Some : goal.returns-in-Some
returns-in-Some c =
    ap (λ (x : InForce). Some x) c.index-lists-k.is
    ∙ sym (found_there (λ g. g.node == c.args.j && is_short c.args.liars.now c.args.a.now g.list) c.args.lists.now c.in-Some.k c.index-lists-k.result (sym c.in-Some.ensures))

pub returns-in-None : goal.returns-in-None
returns-in-None c = sym (found_nowhere (λ g. g.node == c.args.j && is_short c.args.liars.now c.args.a.now g.list) c.args.lists.now (sym c.in-None.ensures))
