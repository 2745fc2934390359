-- What the types of a line keep.
use Rattle.std.specs.Prelude.{◌<◌, ◌^◌, All, IfSome}
use Rattle.hex.specs.Hex.{IsBytes}
use Rattle.xl_base.specs.Ids.{IsId}
use Rattle.xl_sched.specs.declared.event.Ask.{Ask}
use Rattle.xl_sched.specs.declared.event.Ask.TheVariants as ask
use Rattle.xl_sched.specs.declared.event.Lied.{Lied}
use Rattle.xl_sched.specs.declared.event.Lied.TheVariants as lied
use Rattle.xl_sched.specs.declared.event.What.{What}
use Rattle.xl_sched.specs.declared.event.What.TheVariants as what
use Rattle.xl_sched.specs.declared.line.Line.{Line}
use Rattle.xl_sched.specs.declared.line.Line.TheVariants as line

abbrev pub IsStoredAsk : Ask → Type 0
IsStoredAsk (ask.Issue node seq id full) = IsId id.0
IsStoredAsk (ask.Timer node) = Unit {0}

abbrev pub IsStoredLied : Lied → Type 0
IsStoredLied (lied.Proposal proposal) = IsId proposal.prev.0 × IsId proposal.set.0
IsStoredLied (lied.Validation validation) = IsId validation.id.0 × IfSome validation.validated (λ id. IsId id.0)
IsStoredLied (lied.Header name header) = Unit {0}
IsStoredLied (lied.TxSet ids) = All (λ id. IsId id.0) ids
IsStoredLied (lied.Tx id) = IsId id.0

-- a place is a 64-bit number
abbrev pub IsStoredWhat : What → Type 0
IsStoredWhat (what.Ask ask) = IsStoredAsk ask
IsStoredWhat (what.Submit node tx) = IsId tx.0
IsStoredWhat (what.Deliver place) = place < 2 ^ 64
IsStoredWhat (what.Cut new ask) = IsStoredAsk ask
IsStoredWhat (what.Fail new ask) = IsStoredAsk ask
IsStoredWhat (what.Lie from to lie) = IsStoredLied lie
IsStoredWhat (what.Raw to bytes) = IsBytes bytes
IsStoredWhat other = Unit {0}

abbrev pub IsStored : Line → Type 0
IsStored (line.Name name id) = IsId id
IsStored (line.Event event) = IsStoredWhat event.what
IsStored other = Unit {0}
