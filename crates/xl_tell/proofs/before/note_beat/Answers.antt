-- the round is open, and nobody has a position
use Rattle.xl_tell.proofs.Heard.{beat_tells_of}
use Rattle.xl_tell.proofs.before.note_beat.Goals as goal

pub returns : goal.returns
returns c =
    λ _. beat_tells_of c.args.number c.args.at c.args.node.now c.in_ok-noted.noted c.in_ok-noted.ensures (c.is_beat.ensures.nobody c.if-not-is_beat.false) (c.is_beat.ensures.opened c.if-not-is_beat.false)
    (c.is_beat.ensures.within c.if-not-is_beat.false)
