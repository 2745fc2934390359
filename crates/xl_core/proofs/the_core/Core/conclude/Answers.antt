-- what is said, the header and the validation each keep the marks right
use Rattle.xl_core.proofs.the_core.Core.conclude.Goals as goal

pub invariant_of-self : goal.invariant_of-self
invariant_of-self g c =
    let greetings = c.self.inside.greetings in
    c.push-in-Ok-Some.ensures.marks greetings (c.push.ensures.marks greetings (c.push_said.ensures.marks greetings c.self.invariant))

pub invariant_of-self-in-Ok-None : goal.invariant_of-self-in-Ok-None
invariant_of-self-in-Ok-None g c =
    let greetings = c.self.inside.greetings in c.push.ensures.marks greetings (c.push_said.ensures.marks greetings c.self.invariant)

pub invariant_of-self-in-Err : goal.invariant_of-self-in-Err
invariant_of-self-in-Err g c =
    let greetings = c.self.inside.greetings in c.push.ensures.marks greetings (c.push_said.ensures.marks greetings c.self.invariant)
