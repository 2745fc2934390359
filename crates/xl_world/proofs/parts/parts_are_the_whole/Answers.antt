use Rattle.xl_world.proofs.Partwise.{parts_are_the_whole}
use Rattle.xl_world.proofs.parts.parts_are_the_whole.Goals as goal

pub returns : goal.returns
returns c = parts_are_the_whole
