use Rattle.xl_links.proofs.Firsts.{NoneBefore}
use Rattle.xl_links.proofs.hub.scripted.place_for.Given as goal

abbrev pub invariant-loop-place : goal.invariant-loop-place
invariant-loop-place g l = NoneBefore l.spares l.member l.place
