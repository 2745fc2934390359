use Rattle.xl_validations.proofs.Casting.{has_none, has_room}
use Rattle.xl_validations.proofs.tally.cast.Goals as goal

pub vote-requires-clause-new : goal.vote-requires-clause-new
vote-requires-clause-new g c = has_none (g.B.Branch.votes c.args.branch.now) c.requires.beside.0 c.args.member (g.B.Branch.room c.args.branch.now) c.requires.beside.1

pub vote-requires-clause-fits : goal.vote-requires-clause-fits
vote-requires-clause-fits g c = has_room (g.B.Branch.votes c.args.branch.now) c.requires.beside.0 c.args.member (g.B.Branch.room c.args.branch.now) c.requires.beside.1
