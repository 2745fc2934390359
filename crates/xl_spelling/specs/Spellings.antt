-- How a line is spelled. Source: this project's schedule language.
use Rattle.std.specs.Prelude.{◌≡◌, ◌⊎◌, ◌≤◌, ◌<◌, ℕ, Bool, true, List, [], ◌∷◌, map, decimal, codes, Option, Some, None, All, Contains, if◌then◌else◌}
use Rattle.std.specs.List.{join_with_byte}
use Rattle.hex.specs.Hex.{encode_lower}
use Rattle.xl_base.specs.declared.ids.LedgerId.{LedgerId}
use Rattle.xl_base.specs.declared.ids.TxId.{TxId}
use Rattle.xl_lists.specs.Lists.{TrustedList, IsValid, is_on}
use Rattle.xl_sched.specs.declared.event.Ask.{Ask}
use Rattle.xl_sched.specs.declared.event.Ask.TheVariants as ask
use Rattle.xl_sched.specs.declared.event.Lied.{Lied}
use Rattle.xl_sched.specs.declared.event.Lied.TheVariants as lied
use Rattle.xl_sched.specs.declared.event.What.{What}
use Rattle.xl_sched.specs.declared.event.What.TheVariants as what
use Rattle.xl_sched.specs.declared.line.Line.{Line}
use Rattle.xl_sched.specs.declared.line.Line.TheVariants as line
use Rattle.xl_sched.specs.Limits.{most_lines, most_lists}
use Rattle.xl_sched.specs.Reading.{Reading, after}
use Rattle.xl_sched.specs.Answers.{gives, reading_of}

-- the word of a validation that is full, or is not
abbrev pub kind_word : Bool → List ℕ
kind_word full = if full then codes "full" else codes "partial"

-- the word of the number that a keeper then holds
abbrev pub held_word : Bool → List ℕ
held_word new = if new then codes "new" else codes "old"

-- a node that doesn't validate says so
abbrev pub mode_words : Bool → List (List ℕ)
mode_words validating = if validating then [] else codes "observing" ∷ []

-- parts with a comma between each two
abbrev pub with_commas : List (List ℕ) → List ℕ
with_commas parts = join_with_byte 44 parts

-- the ids of a set, or `-` for none
abbrev pub set_word : List TxId → List ℕ
set_word [] = codes "-"
set_word (id ∷ ids) = with_commas (map (λ id. encode_lower id.0) (id ∷ ids))

-- the id of the ledger that was last reported, if there is one
abbrev pub validated_words : Option LedgerId → List (List ℕ)
validated_words None = []
validated_words (Some id) = encode_lower id.0 ∷ []

-- what a node is asked
abbrev pub ask_words : Ask → List (List ℕ)
ask_words (ask.Issue node seq id full) =
    codes "issue" ∷ decimal node ∷ decimal seq ∷ encode_lower id.0 ∷ kind_word full ∷ []
ask_words (ask.Timer node) = codes "timer" ∷ decimal node ∷ []

-- what a liar says
abbrev pub lied_words : Lied → List (List ℕ)
lied_words (lied.Proposal proposal) =
    codes "proposal" ∷ encode_lower proposal.prev.0 ∷ encode_lower proposal.set.0 ∷ decimal proposal.pseq
    ∷ decimal proposal.close ∷ decimal proposal.time ∷ []
lied_words (lied.Validation validation) =
    codes "validation" ∷ decimal validation.seq ∷ encode_lower validation.id.0 ∷ decimal validation.signed
    ∷ kind_word validation.full ∷ validated_words validation.validated
lied_words (lied.Header name header) = codes "header" ∷ name ∷ []
lied_words (lied.TxSet ids) = codes "set" ∷ set_word ids ∷ []
lied_words (lied.Tx id) = codes "tx" ∷ encode_lower id.0 ∷ []

-- what happens
abbrev pub what_words : What → List (List ℕ)
what_words (what.Ask ask) = ask_words ask
what_words what.Timers = codes "timers" ∷ []
what_words (what.Submit node tx) = codes "submit" ∷ decimal node ∷ encode_lower tx.0 ∷ []
what_words (what.Deliver place) = codes "deliver" ∷ decimal place ∷ []
what_words what.All = codes "all" ∷ []
what_words what.Drop = codes "drop" ∷ []
what_words (what.Greet node peer) = codes "greet" ∷ decimal node ∷ decimal peer ∷ []
what_words (what.Restart node) = codes "restart" ∷ decimal node ∷ []
what_words (what.Cut new ask) = codes "cut" ∷ held_word new ∷ ask_words ask
what_words (what.Fail new ask) = codes "fail" ∷ held_word new ∷ ask_words ask
what_words (what.Lie from to lie) = codes "lie" ∷ decimal from ∷ decimal to ∷ lied_words lie
what_words (what.Raw to bytes) = codes "raw" ∷ decimal to ∷ encode_lower bytes ∷ []
what_words (what.Prefer node) = codes "prefer" ∷ decimal node ∷ []
what_words (what.Heard node) = codes "heard" ∷ decimal node ∷ []
what_words (what.List node list) =
    codes "list" ∷ decimal node ∷ decimal list.quorum ∷ with_commas (map (λ m. decimal m) list.members) ∷ []

-- the tokens of a line: numbers in decimal digits, ids and bytes in lower-case hexadecimal ones, names as they stood
abbrev pub line_words : Line → List (List ℕ)
line_words (line.Limit limit) = codes "limit" ∷ decimal limit ∷ []
line_words (line.Speak version) = codes "speak" ∷ decimal version ∷ []
line_words (line.Node me list validating) =
    codes "node" ∷ decimal me ∷ decimal list.quorum ∷ with_commas (map (λ m. decimal m) list.members)
    ∷ mode_words validating
line_words (line.Liar me) = codes "liar" ∷ decimal me ∷ []
line_words (line.Name name id) = codes "name" ∷ name ∷ encode_lower id ∷ []
line_words (line.Ledger name parent header) = codes "ledger" ∷ name ∷ parent ∷ decimal header.close ∷ []
line_words (line.At at) = codes "at" ∷ decimal at ∷ []
line_words (line.Event event) = what_words event.what

-- its tokens, with a space between each two
abbrev pub spelling : Line → List ℕ
spelling line = join_with_byte 32 (line_words line)

-- to a reader of this reading these bytes say this line
abbrev pub Says : Reading → ℕ → List ℕ → Line → Type 0
Says reading sent bytes line = reading_of reading sent bytes ≡ gives line (after reading line)

-- whatever says a line, the line's spelling says it again, to the same reader
abbrev pub IsSaidAgain : Line → Type 0
IsSaidAgain line =
    (reading : Reading) → (sent : ℕ) → (bytes : List ℕ) → Says reading sent bytes line →
    Says reading sent (spelling line) line

-- no byte below 32 is here that isn't there
abbrev pub AddsNoControl : List ℕ → List ℕ → Type 0
AddsNoControl bytes spelled = All (λ b. (32 ≤ b) ⊎ Contains bytes b) spelled

-- beside whatever says a line, the line's spelling adds none
abbrev pub IsSaidPlainly : Line → Type 0
IsSaidPlainly line =
    (reading : Reading) → (sent : ℕ) → (bytes : List ℕ) → Says reading sent bytes line →
    AddsNoControl bytes (spelling line)

-- a list that a line may set: of a declared node, and a valid one, if one line more and one list more may come
pub record MayBeSet (reading : Reading) (node : ℕ) (list : TrustedList) : Type 0 where
  pub least : 1 ≤ node
  pub greatest : node ≤ 64
  pub declared : is_on reading.nodes node ≡ true
  pub valid : IsValid list
  pub later : 0 < reading.lines
  pub lines : reading.lines < most_lines
  pub lists : reading.lists < most_lists

-- the line that sets it
abbrev pub list_line : Reading → ℕ → TrustedList → Line
list_line reading node list = line.Event (record { at = reading.now; what = what.List node list })

-- The law of lists: the spelling of the line that sets such a list says that line.
abbrev pub ListsAreRead : Type 0
ListsAreRead = (reading : Reading) (sent node : ℕ) (list : TrustedList) → MayBeSet reading node list
    → Says reading sent (spelling (list_line reading node list)) (list_line reading node list)
