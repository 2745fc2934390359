-- Words with no newline.
use Rattle.std.proofs.Common.{ℕ, Bool, true, false, List, [], ◌∷◌, ◌++◌, length, refl, Option, Some, None}
use Rattle.std.specs.Prelude.{codes, decimal}
use Rattle.std.specs.List.{flat_map}
use Rattle.hex.specs.Hex.{encode_lower, lower_digits}
use Rattle.xl_base.specs.declared.ids.LedgerId.{LedgerId}
use Rattle.xl_base.specs.declared.ids.TxId.{TxId}
use Rattle.xl_base.specs.Sets.{set_id_of}
use Rattle.xl_core.specs.declared.last.LastReport.{LastReport}
use Rattle.xl_core.specs.declared.report.Report.{Report}
use Rattle.xl_held.specs.Words.{issuing_text, last_text, mode_text, phase_text, position_text, relisted_text, report_text, row_text}
use Rattle.xl_ledger.specs.declared.header.Header.{Header}
use Rattle.xl_ledger.specs.Headers.{header_id}
use Rattle.xl_ledger.specs.Reading.{header_in}
use Rattle.xl_lines.proofs.Newlines.{IsOneLine}
use Rattle.xl_lines.proofs.Parts.{one_line-append}
use Rattle.xl_lists.specs.Lists.{TrustedList}
use Rattle.xl_replay.proofs.WholeLines.{decimal_one_line, encoded_one_line, id_one_line, token_one_line}
use Rattle.xl_rounds.specs.declared.phase.Mode.{Mode}
use Rattle.xl_rounds.specs.declared.phase.Mode.TheVariants.{Proposing, Observing, SwitchedLedger}
use Rattle.xl_rounds.specs.declared.phase.Phase.{Phase}
use Rattle.xl_rounds.specs.declared.phase.Phase.TheVariants.{Open, Establish, Accepted}
use Rattle.xl_running.specs.Texts.{id_text, space}
use Rattle.xl_sched.specs.declared.event.Ask.{Ask}
use Rattle.xl_sched.specs.declared.event.Ask.TheVariants as ask
use Rattle.xl_sched.specs.declared.event.Lied.{Lied}
use Rattle.xl_sched.specs.declared.event.Lied.TheVariants as lied
use Rattle.xl_sched.specs.declared.event.What.{What}
use Rattle.xl_sched.specs.declared.event.What.TheVariants as what
use Rattle.xl_sched.specs.declared.named.Named.{Named}
use Rattle.xl_sched.specs.Tokens.{shown_token}
use Rattle.xl_told.specs.Bodies.{body_text, header_text, said_text}
use Rattle.xl_told.specs.Events.{ask_text, held_text, lied_text, what_text}
use Rattle.xl_told.specs.Words.{fullness_text, ids_text, list_text, members_text, proposal_text, tx_text, validated_text, validation_text}
use Rattle.xl_wire.specs.declared.body.Body.{Body}
use Rattle.xl_wire.specs.declared.body.Body.TheVariants as body
use Rattle.xl_wire.specs.declared.decoding.Decoded.{Decoded}
use Rattle.xl_wire.specs.declared.decoding.Decoded.TheVariants.{Whole, Need, Refused}
use Rattle.xl_wire.specs.declared.proposal.Proposal.{Proposal}
use Rattle.xl_wire.specs.declared.validation.Validation.{Validation}

pub record IsPlain (text : List ℕ) : Type 0 where
  pub one : IsOneLine text

pub word : (text : List ℕ) → IsOneLine text → IsPlain text
word text one = record { one = one }

pub join : {a b : List ℕ} → IsPlain a → IsPlain b → IsPlain (a ++ b)
join {a} {b} first second = record { one = one_line-append a b first.one second.one }

pub gap : IsPlain space
gap = record { one = refl }

pub number : (n : ℕ) → IsPlain (decimal n)
number n = record { one = decimal_one_line n }

pub named : (names : List Named) (id : LedgerId) → IsPlain (id_text names id)
named names id = record { one = id_one_line names id }

token : (bytes : List ℕ) → IsPlain (shown_token bytes)
token bytes = record { one = token_one_line bytes }

in_digits : (bytes : List ℕ) → IsPlain (encode_lower bytes)
in_digits bytes = record { one = encoded_one_line lower_digits bytes refl }

each : {X : Type 0} (f : X → List ℕ) → ((x : X) → IsPlain (f x)) → (xs : List X) → IsPlain (flat_map f xs)
each f plain [] = record { one = refl }
each f plain (x ∷ xs) = join (plain x) (each f plain xs)

-- WORDS OF SEVERAL LINES

tx_plain : (names : List Named) (id : TxId) → IsPlain (tx_text names id)
tx_plain names id = named names (record { 0 = id.0 })

members_plain : (members : List ℕ) → IsPlain (members_text members)
members_plain [] = record { one = refl }
members_plain (first ∷ others) = join (number first) (each (λ (other : ℕ). codes "," ++ decimal other) (λ other. join (word (codes ",") refl) (number other)) others)

pub ids_plain : (names : List Named) (ids : List TxId) → IsPlain (ids_text names ids)
ids_plain names [] = word (codes "-") refl
ids_plain names (first ∷ others) = join (tx_plain names first) (each (λ (other : TxId). codes "," ++ tx_text names other) (λ other. join (word (codes ",") refl) (tx_plain names other)) others)

pub list_plain : (list : TrustedList) → IsPlain (list_text list)
list_plain list = join (join (number list.quorum) gap) (members_plain list.members)

fullness_plain : (full : Bool) → IsPlain (fullness_text full)
fullness_plain true = word (codes "full") refl
fullness_plain false = word (codes "partial") refl

validated_plain : (names : List Named) (id : Option LedgerId) → IsPlain (validated_text names id)
validated_plain names None = record { one = refl }
validated_plain names (Some id) = join gap (named names id)

pub validation_plain : (names : List Named) (v : Validation) → IsPlain (validation_text names v)
validation_plain names v =
    join (join (join (join (join (join (join (number v.seq) gap) (named names v.id)) gap) (number v.signed)) gap) (fullness_plain v.full)) (validated_plain names v.validated)

pub proposal_plain : (names : List Named) (p : Proposal) → IsPlain (proposal_text names p)
proposal_plain names p =
    join (join (join (join (join (join (join (join (named names p.prev) gap) (named names (record { 0 = p.set.0 }))) gap) (number p.pseq)) gap) (number p.close)) gap) (number p.time)

-- WHAT HAPPENS

ask_plain : (names : List Named) (a : Ask) → IsPlain (ask_text names a)
ask_plain names (ask.Issue node seq id full) =
    join (join (join (join (join (join (join (word (codes "issue ") refl) (number node)) gap) (number seq)) gap) (named names id)) gap) (fullness_plain full)
ask_plain names (ask.Timer node) = join (word (codes "timer ") refl) (number node)

lied_plain : (names : List Named) (l : Lied) → IsPlain (lied_text names l)
lied_plain names (lied.Proposal p) = join (word (codes "proposal ") refl) (proposal_plain names p)
lied_plain names (lied.Validation v) = join (word (codes "validation ") refl) (validation_plain names v)
lied_plain names (lied.Header name h) = join (word (codes "header ") refl) (token name)
lied_plain names (lied.TxSet ids) = join (word (codes "set ") refl) (ids_plain names ids)
lied_plain names (lied.Tx tx) = join (word (codes "tx ") refl) (tx_plain names tx)

held_plain : (new : Bool) → IsPlain (held_text new)
held_plain true = word (codes "new") refl
held_plain false = word (codes "old") refl

pub what_plain : (names : List Named) (happening : What) → IsPlain (what_text names happening)
what_plain names (what.Ask a) = ask_plain names a
what_plain names what.Timers = word (codes "timers") refl
what_plain names (what.Submit node tx) = join (join (join (word (codes "submit ") refl) (number node)) gap) (tx_plain names tx)
what_plain names (what.Deliver place) = join (word (codes "deliver ") refl) (number place)
what_plain names what.All = word (codes "all") refl
what_plain names what.Drop = word (codes "drop") refl
what_plain names (what.Greet node peer) = join (join (join (word (codes "greet ") refl) (number node)) gap) (number peer)
what_plain names (what.Restart node) = join (word (codes "restart ") refl) (number node)
what_plain names (what.Cut new a) = join (join (join (word (codes "cut ") refl) (held_plain new)) gap) (ask_plain names a)
what_plain names (what.Fail new a) = join (join (join (word (codes "fail ") refl) (held_plain new)) gap) (ask_plain names a)
what_plain names (what.List node list) = join (join (join (word (codes "list ") refl) (number node)) gap) (list_plain list)
what_plain names (what.Lie from to lie) = join (join (join (join (join (word (codes "lie ") refl) (number from)) gap) (number to)) gap) (lied_plain names lie)
what_plain names (what.Raw to bytes) = join (join (join (word (codes "raw ") refl) (number to)) gap) (in_digits bytes)
what_plain names (what.Prefer node) = join (word (codes "prefer ") refl) (number node)
what_plain names (what.Heard node) = join (word (codes "heard ") refl) (number node)

-- WHAT A FRAME SAYS

header_plain : (names : List Named) (h : Header) → IsPlain (header_text names h)
header_plain names h =
    join (join (join (join (join (join (join (word (codes "header ") refl) (number h.seq)) gap) (named names (header_id h))) gap) (named names h.parent)) gap) (number h.close)

body_plain : (names : List Named) (b : Body) → IsPlain (body_text names b)
body_plain names (body.Proposal p) = join (word (codes "proposal ") refl) (proposal_plain names p)
body_plain names (body.Validation v) = join (word (codes "validation ") refl) (validation_plain names v)
body_plain names (body.Header bytes) = header_plain names (header_in bytes)
body_plain names (body.TxSet ids) = join (join (join (word (codes "set ") refl) (number (length ids))) gap) (named names (record { 0 = (set_id_of ids).0 }))
body_plain names (body.Tx id) = join (word (codes "tx ") refl) (tx_plain names id)

pub said_plain : (names : List Named) (decoded : Decoded) → IsPlain (said_text names decoded)
said_plain names (Whole frame n) = body_plain names frame.body
said_plain names (Refused why) = word (codes "none") refl
said_plain names (Need lack) = word (codes "none") refl

-- WHAT A NODE HOLDS

pub issuing_plain : (failed : Option ℕ) → IsPlain (issuing_text failed)
issuing_plain None = word (codes "on") refl
issuing_plain (Some failed) = join (word (codes "off ") refl) (number failed)

pub report_plain : (names : List Named) (report : Option Report) → IsPlain (report_text names report)
report_plain names None = word (codes "none") refl
report_plain names (Some r) = join (join (number r.seq) gap) (named names r.id)

relisted_plain : (relisted : Bool) → IsPlain (relisted_text relisted)
relisted_plain true = word (codes " relisted") refl
relisted_plain false = record { one = refl }

pub last_plain : (names : List Named) (last : LastReport) → IsPlain (last_text names last)
last_plain names last = join (report_plain names last.report) (relisted_plain last.relisted)

pub row_plain : (names : List Named) (row : Option Validation) → IsPlain (row_text names row)
row_plain names None = word (codes "none") refl
row_plain names (Some v) = validation_plain names v

pub position_plain : (names : List Named) (position : Option Proposal) → IsPlain (position_text names position)
position_plain names None = word (codes "none") refl
position_plain names (Some p) = proposal_plain names p

pub phase_plain : (phase : Phase) → IsPlain (phase_text phase)
phase_plain Open = word (codes "open") refl
phase_plain Establish = word (codes "establish") refl
phase_plain Accepted = word (codes "accepted") refl

pub mode_plain : (mode : Mode) → IsPlain (mode_text mode)
mode_plain Proposing = word (codes "proposing") refl
mode_plain Observing = word (codes "observing") refl
mode_plain SwitchedLedger = word (codes "switched") refl
