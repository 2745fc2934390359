-- What liars say. Source: this project's schedule language.
use Rattle.std.specs.Prelude.{ℕ, Bool, ◌==◌, ◌||◌, List, [], ◌∷◌, length, codes, Option, Some, None, Result, Ok, Err, if◌then◌else◌}
use Rattle.std.specs.Str.{bytes_eq}
use Rattle.xl_base.specs.declared.ids.LedgerId.{LedgerId}
use Rattle.xl_sched.specs.declared.event.Lied.{Lied}
use Rattle.xl_sched.specs.declared.event.Lied.TheVariants as lied
use Rattle.xl_sched.specs.declared.event.What.{What}
use Rattle.xl_sched.specs.declared.event.What.TheVariants as what
use Rattle.xl_sched.specs.declared.named.Named.{Named}
use Rattle.xl_sched.specs.declared.refusal.SchedRefusal.{SchedRefusal}
use Rattle.xl_sched.specs.declared.refusal.SchedRefusal.TheVariants.{Choice}
use Rattle.xl_sched.specs.declared.word.LieWord.{LieWord}
use Rattle.xl_sched.specs.declared.word.LieWord.TheVariants as word
use Rattle.xl_sched.specs.Refusals.{◌>>=◌, miscounted}
use Rattle.xl_sched.specs.Numbers.{number_of}
use Rattle.xl_sched.specs.Names.{ledger_id_of, set_id_of, tx_id_of}
use Rattle.xl_sched.specs.Ledgers.{ledger_of}
use Rattle.xl_sched.specs.TxSets.{tx_set_of}
use Rattle.xl_sched.specs.Members.{declared_of}
use Rattle.xl_sched.specs.Choices.{full_of}
use Rattle.xl_sched.specs.Reading.{Reading}

-- the word of what a liar says
abbrev pub lie_word : List ℕ → Option LieWord
lie_word token =
    if bytes_eq token (codes "proposal") then Some word.Proposal
    else if bytes_eq token (codes "validation") then Some word.Validation
    else if bytes_eq token (codes "header") then Some word.Header
    else if bytes_eq token (codes "set") then Some word.TxSet
    else if bytes_eq token (codes "tx") then Some word.Tx
    else None

-- whether this many tokens may stand after the word of a lie; after no such word as many as after any
abbrev pub may_say : Option LieWord → ℕ → Bool
may_say (Some word.Proposal) count = count == 5
may_say (Some word.Validation) count = count == 4 || count == 5
may_say (Some word.Header) count = count == 1
may_say (Some word.TxSet) count = count == 1
may_say (Some word.Tx) count = count == 1
may_say None count = count == 1 || count == 4 || count == 5

-- a proposal, its parts from left to right
abbrev pub proposal_of : List Named → List ℕ → List ℕ → List ℕ → List ℕ → List ℕ → Result Lied SchedRefusal
proposal_of names before position changes second made = do
  prev ← ledger_id_of names before
  set ← set_id_of names position
  pseq ← number_of changes
  close ← number_of second
  time ← number_of made
  Ok (lied.Proposal (record { prev = prev; set = set; pseq = pseq; close = close; time = time }))

-- `prev set pseq close time`
abbrev pub said_proposal : List Named → List (List ℕ) → Result Lied SchedRefusal
said_proposal names (before ∷ position ∷ changes ∷ second ∷ made ∷ []) =
    proposal_of names before position changes second made
said_proposal names arguments = miscounted arguments

-- a validation, its parts from left to right
abbrev pub validation_of : List Named → List ℕ → List ℕ → List ℕ → List ℕ → Result (Option LedgerId) SchedRefusal
    → Result Lied SchedRefusal
validation_of names sequence id second kind told = do
  seq ← number_of sequence
  ledger ← ledger_id_of names id
  signed ← number_of second
  full ← full_of kind
  validated ← told
  Ok (lied.Validation (record { id = ledger; seq = seq; signed = signed; full = full; validated = validated }))

-- the ledger that a validation tells as the last reported one
abbrev pub told_of : List Named → List ℕ → Result (Option LedgerId) SchedRefusal
told_of names id = do
  ledger ← ledger_id_of names id
  Ok (Some ledger)

abbrev pub told_if : List Named → Option (List ℕ) → Result (Option LedgerId) SchedRefusal
told_if names None = Ok None
told_if names (Some id) = told_of names id

-- `seq id signed full`, or `partial`, and one id more in version 2
abbrev pub said_validation : List Named → List (List ℕ) → Result Lied SchedRefusal
said_validation names (sequence ∷ id ∷ second ∷ kind ∷ []) = validation_of names sequence id second kind (told_if names None)
said_validation names (sequence ∷ id ∷ second ∷ kind ∷ told ∷ []) =
    validation_of names sequence id second kind (told_if names (Some told))
said_validation names arguments = miscounted arguments

-- the header of a declared ledger
abbrev pub header_lie : List Named → List ℕ → Result Lied SchedRefusal
header_lie names name = do
  ledger ← ledger_of names name
  Ok (lied.Header name ledger.header)

-- `w`
abbrev pub said_header : List Named → List (List ℕ) → Result Lied SchedRefusal
said_header names (name ∷ []) = header_lie names name
said_header names arguments = miscounted arguments

-- `ids`, or `-`
abbrev pub said_tx_set : List Named → List (List ℕ) → Result Lied SchedRefusal
said_tx_set names (token ∷ []) = do
  ids ← tx_set_of names token
  Ok (lied.TxSet ids)
said_tx_set names arguments = miscounted arguments

-- `id`
abbrev pub said_tx : List Named → List (List ℕ) → Result Lied SchedRefusal
said_tx names (token ∷ []) = do
  id ← tx_id_of names token
  Ok (lied.Tx id)
said_tx names arguments = miscounted arguments

-- what a lie of this word says
abbrev pub lied_of : List Named → Option LieWord → List ℕ → List (List ℕ) → Result Lied SchedRefusal
lied_of names (Some word.Proposal) token arguments = said_proposal names arguments
lied_of names (Some word.Validation) token arguments = said_validation names arguments
lied_of names (Some word.Header) token arguments = said_header names arguments
lied_of names (Some word.TxSet) token arguments = said_tx_set names arguments
lied_of names (Some word.Tx) token arguments = said_tx names arguments
lied_of names None token arguments = Err (Choice token)

-- who lies to whom
abbrev pub pair_of : Reading → List ℕ → List ℕ → Result (ℕ × ℕ) SchedRefusal
pair_of reading liar honest = do
  from ← declared_of reading.liars liar
  to ← declared_of reading.nodes honest
  Ok (from, to)

-- the parts of a lie's line from left to right
abbrev pub lie_of : Result (ℕ × ℕ) SchedRefusal → Result Lied SchedRefusal → Result What SchedRefusal
lie_of pair said = do
  who ← pair
  lie ← said
  Ok (what.Lie who.0 who.1 lie)

-- `lie f t` and what is said
abbrev pub lie_event : Reading → List (List ℕ) → Result What SchedRefusal
lie_event reading (liar ∷ honest ∷ token ∷ said) =
    if may_say (lie_word token) (length said)
    then lie_of (pair_of reading liar honest) (lied_of reading.names (lie_word token) token said)
    else miscounted (liar ∷ honest ∷ token ∷ said)
lie_event reading arguments = miscounted arguments
