-- Whether a peer may be spoken to. Source: this project's own: what waits for a member isn't lost to whoever forges a frame.
use Rattle.std.specs.Prelude.{Bool, true}
use Rattle.xl_tcp.specs.declared.conduct.Manner.{Manner}
use Rattle.xl_tcp.specs.declared.conduct.Manner.TheVariants.{New, Shown, Unlisted, Member, Forger}

-- it may once a frame of it was judged, and a forger never, unless it was dialled or a read came back without a frame
abbrev pub may_tell : Bool → Manner → Bool
may_tell tells New = tells
may_tell tells Shown = tells
may_tell tells Unlisted = true
may_tell tells Member = true
may_tell tells Forger = tells
