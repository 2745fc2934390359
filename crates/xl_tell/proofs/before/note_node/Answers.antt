-- it happens at no node
use Rattle.xl_tell.proofs.Heard.{nowhere_tells}
use Rattle.xl_tell.proofs.before.note_node.Goals as goal

pub returns-in-None : goal.returns-in-None
returns-in-None c = λ names. nowhere_tells c.args.world.now c.args.event.now c.in-None.ensures names
