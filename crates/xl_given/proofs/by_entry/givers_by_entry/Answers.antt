use Rattle.std.proofs.Common.{List}
use Rattle.xl_given.specs.Given.{Noted}
use Rattle.xl_given.specs.Kept.{IsKept, noted_seen}
use Rattle.xl_given.proofs.Entering.{entry_next}
use Rattle.xl_given.proofs.by_entry.givers_by_entry.Goals as goal

pub loop-place-preserved : goal.loop-place-preserved
loop-place-preserved c =
    λ (given : List Noted) (kept : IsKept c.args.givers.now given).
    entry_next given c.args.heard.now c.loop-place.place (noted_seen c.at-noted.result) c.loop-place.found c.keep_first.new.found
    c.giver_of-giver.result c.at-noted.ensures (c.giver_of-giver.ensures given kept) (c.loop-place.invariant given kept)
    c.in_ok-keep_first.ensures
