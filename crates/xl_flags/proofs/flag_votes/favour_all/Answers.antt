use Rattle.xl_flags.specs.Kept.{favoured_by}
use Rattle.xl_flags.proofs.Reporting.{changed_front}
use Rattle.xl_flags.proofs.flag_votes.favour_all.Goals as goal

pub loop-place-preserved : goal.loop-place-preserved
loop-place-preserved c =
    changed_front (favoured_by c.args.member c.args.ids.now) c.args.amendments.now c.loop-place.amendments c.loop-place.place c.favour.new.self _ c.loop-place-test.true c.loop-place.invariant c.favour.ensures
