use Rattle.std.specs.Prelude.{map}
use Rattle.std.proofs.lemmas.Bool.{eq-eqb}
use Rattle.xl_forks.specs.Forks.{fork_seen}
use Rattle.xl_forks.specs.Kept.{two_kept}
use Rattle.xl_forks.proofs.Walking.{with_next}
use Rattle.xl_forks.proofs.fork.push_forks_of.Goals as goal

pub loop-other-preserved : goal.loop-other-preserved
loop-other-preserved c =
    with_next (two_kept c.args.words.now) c.args.one.now c.args.behind.now c.loop-other.other-index c.other-item.result (map fork_seen c.loop-other.found.items) (map fork_seen c.push_fork.new.found.items) _
    c.loop-other-test.true c.other-item.is (eq-eqb _ _ c.if-other-seq.false) c.loop-other.invariant c.in_ok-push_fork.ensures
