-- Lines that fit what was read before them. Source: this project's schedule language.
use Rattle.std.specs.Prelude.{◌≡◌, ◌≤◌, ◌<◌, ℕ, ◌+◌, true, false, length, None}
use Rattle.xl_base.specs.Sets.{IsSet}
use Rattle.xl_base.specs.Moments.{greatest_millis}
use Rattle.xl_ledger.specs.Limits.{least_limit}
use Rattle.xl_lists.specs.Lists.{IsValid, is_on}
use Rattle.xl_sched.specs.declared.event.Ask.{Ask}
use Rattle.xl_sched.specs.declared.event.Ask.TheVariants as ask
use Rattle.xl_sched.specs.declared.event.Lied.{Lied}
use Rattle.xl_sched.specs.declared.event.Lied.TheVariants as lied
use Rattle.xl_sched.specs.declared.event.What.{What}
use Rattle.xl_sched.specs.declared.event.What.TheVariants as what
use Rattle.xl_sched.specs.Limits.{most_ledgers, most_lists, most_raw_bytes}
use Rattle.xl_sched.specs.declared.line.Line.{Line}
use Rattle.xl_sched.specs.declared.line.Line.TheVariants as line
use Rattle.xl_sched.specs.Events.{is_peer}
use Rattle.xl_sched.specs.Names.{id_named}
use Rattle.xl_sched.specs.Reading.{Reading, IsUndeclared}

-- what is asked of a declared node
abbrev pub IsFitAsk : Reading → Ask → Type 0
IsFitAsk reading (ask.Issue node seq id full) = is_on reading.nodes node ≡ true
IsFitAsk reading (ask.Timer node) = is_on reading.nodes node ≡ true

-- a declared liar, and a declared node
abbrev pub IsFitPair : Reading → ℕ → ℕ → Type 0
IsFitPair reading from to = (is_on reading.liars from ≡ true) × (is_on reading.nodes to ≡ true)

-- what a frame can say: the ids of a set rise, and are no more than a set's
abbrev pub IsFitLied : Lied → Type 0
IsFitLied (lied.TxSet ids) = IsSet ids
IsFitLied other = Unit {0}

-- what happens to declared nodes and liars, with sent frames, and with bytes of a frame's length
abbrev pub IsFitWhat : Reading → ℕ → What → Type 0
IsFitWhat reading sent (what.Ask ask) = IsFitAsk reading ask
IsFitWhat reading sent (what.Submit node tx) = is_on reading.nodes node ≡ true
IsFitWhat reading sent (what.Deliver place) = (1 ≤ place) × (place ≤ sent)
IsFitWhat reading sent (what.Greet node peer) =
    (is_on reading.nodes node ≡ true) × (is_peer reading node peer ≡ true)
IsFitWhat reading sent (what.Restart node) = is_on reading.nodes node ≡ true
IsFitWhat reading sent (what.Cut new ask) = IsFitAsk reading ask
IsFitWhat reading sent (what.Fail new ask) = IsFitAsk reading ask
IsFitWhat reading sent (what.Lie from to lie) = IsFitPair reading from to × IsFitLied lie
IsFitWhat reading sent (what.Raw to bytes) =
    (is_on reading.nodes to ≡ true) × (1 ≤ length bytes) × (length bytes ≤ most_raw_bytes)
IsFitWhat reading sent (what.Prefer node) = is_on reading.nodes node ≡ true
IsFitWhat reading sent (what.List node list) =
    (is_on reading.nodes node ≡ true) × (reading.lists < most_lists) × IsValid list
IsFitWhat reading sent (what.Heard node) = is_on reading.nodes node ≡ true
IsFitWhat reading sent other = Unit {0}

-- a line that declares nothing twice and no ledger above all that may be, or such an event at a moment that there may
-- be
abbrev pub IsFit : Reading → ℕ → Line → Type 0
IsFit reading sent (line.Node me list validating) = IsUndeclared reading me
IsFit reading sent (line.Liar me) = IsUndeclared reading me
IsFit reading sent (line.Name name id) = id_named reading.names name ≡ None
IsFit reading sent (line.Limit limit) = (least_limit ≤ limit) × (limit ≤ most_ledgers) × (reading.limited ≡ false)
IsFit reading sent (line.Speak version) = (1 ≤ version) × (version ≤ 2) × (reading.spoken ≡ false)
IsFit reading sent (line.Ledger name parent header) =
    (id_named reading.names name ≡ None) × (header.seq ≤ length reading.names + 1)
IsFit reading sent (line.At at) = at ≤ greatest_millis
IsFit reading sent (line.Event event) = (event.at ≤ greatest_millis) × IsFitWhat reading sent event.what
