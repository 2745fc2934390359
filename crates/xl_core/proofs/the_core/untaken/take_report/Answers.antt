use Rattle.std.proofs.Common.{ap, sym, set}
use Rattle.std.proofs.lemmas.Option.{get_or_from_slice_get}
use Rattle.xl_core.proofs.the_core.untaken.take_report.Goals as goal

pub returns-in-Some-clause-given : goal.returns-in-Some-clause-given
returns-in-Some-clause-given c = λ d.
    ap (set c.args.room.now c.args.place) (sym (get_or_from_slice_get c.args.untaken.now.items 0 c.in-Some.report d (sym c.in-Some.ensures.oldest)))
