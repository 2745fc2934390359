-- Which words ask what. Source: this project's own command line; how words are parsed is the definition of `clap`.
use Rattle.std.specs.Prelude.{◌≡◌, ◌≢◌, ◌≤◌, ◌⊎◌, ◌&&◌, ℕ, Bool, nat_le, List, [], ◌∷◌, drop, slice_index, Option, Some, None, Result, Ok, Err}
use Rattle.std.specs.Prelude.{codes, if◌then◌else◌, map, option_map, option_and_then, String, string_bytes}
use Rattle.std.specs.declared.alloc.Global.{Global}
use Rattle.std.specs.Result.{result_ok}
use Rattle.std.specs.Str.{bytes_eq}
use Rattle.std.specs.Str.Parse.{digits_value, IsNumeral, without_leading_plus}
use Rattle.clap.specs.Words.{Row, Text, Kinds, fault_of, first_of, one_of, subcommand_of}
use Rattle.clap.specs.ValueTests.{is_unsigned_in}
use Rattle.clap.specs.declared.error.kind.ErrorKind.{ErrorKind}
use Rattle.clap.specs.declared.error.kind.ErrorKind.TheVariants.{DisplayHelp, DisplayVersion, OutOfMemory}
use Rattle.xl_words.specs.declared.command.Command.{Command}
use Rattle.xl_words.specs.declared.command.Command.TheVariants.{Node, Tell}
use Rattle.xl_words.specs.declared.command.Telling.TheVariants.{Replay, Events, Show, Lists, Merge, Audit, Blame, Flags, Negative, Gen, Help, Version}
use Rattle.xl_words.specs.declared.command.WordsFault.{WordsFault}
use Rattle.xl_words.specs.declared.command.WordsFault.TheVariants.{Refused, Memory}
use Rattle.xl_words.specs.Programs.{program}

-- the words as bytes
abbrev pub words_of : List (String Global) → List Text
words_of = map string_bytes

-- it begins with a digit above 0
abbrev pub is_plain : Text → Bool
is_plain text = nat_le 49 (slice_index text 0) && nat_le (slice_index text 0) 57

abbrev pub in_range : ℕ → Option ℕ
in_range n = if nat_le 1 n && nat_le n 1000 then Some n else None

-- the number that the text is, from 1 to 1000
abbrev pub number_from : Text → Option ℕ
number_from text = if is_unsigned_in 1 1000 text then Some (digits_value 10 (without_leading_plus text)) else None

abbrev pub number_in : List Row → Option ℕ
number_in rows = option_and_then number_from (one_of (codes "rounds") rows)

-- the number of rounds, if it is written with no sign and no zero in front
abbrev pub rounds_in : List Row → Option ℕ
rounds_in rows =
    option_and_then (λ text. if is_plain text then number_in rows else None) (first_of (codes "rounds") rows)

-- the command that makes this many rounds
abbrev pub gen : ℕ → Command
gen rounds = Tell (Gen rounds)

-- the command of another name, and of the rows of its arguments
abbrev pub other_command_named : Text → List Row → Option Command
other_command_named name rows =
    if bytes_eq name (codes "audit") then Some (Tell Audit)
    else if bytes_eq name (codes "blame") then Some (Tell Blame)
    else if bytes_eq name (codes "flags") then Some (Tell Flags)
    else if bytes_eq name (codes "negative") then Some (Tell Negative)
    else if bytes_eq name (codes "tell") then Some (Tell Events)
    else if bytes_eq name (codes "gen") then option_map gen (rounds_in rows)
    else None

-- the command of a name
abbrev pub command_named : Text → List Row → Option Command
command_named name rows =
    if bytes_eq name (codes "replay") then Some (Tell Replay)
    else if bytes_eq name (codes "node") then Some Node
    else if bytes_eq name (codes "show") then Some (Tell Show)
    else if bytes_eq name (codes "lists") then Some (Tell Lists)
    else if bytes_eq name (codes "merge") then Some (Tell Merge)
    else other_command_named name rows

-- the command of what was found
abbrev pub command_found : Option (Text × List Row) → Option Command
command_found found = option_and_then (λ named. command_named named.0 named.1) found

-- what is answered if `clap` gives this kind of error
abbrev pub reply_to : ErrorKind → Result Command WordsFault
reply_to DisplayHelp = Ok (Tell Help)
reply_to DisplayVersion = Ok (Tell Version)
reply_to OutOfMemory = Err Memory
reply_to kind = Err Refused

-- the command, unless `clap` finds an error; if it may be of two kinds, none
abbrev pub unless_error : Kinds → Option Command → Option Command
unless_error [] command = command
unless_error (kind ∷ []) command = result_ok (reply_to kind)
unless_error (kind ∷ next ∷ kinds) command = None

-- what `clap` gives for the words, the first of which is the program's name
abbrev pub command_of : List Text → Option Command
command_of words = unless_error (fault_of program words) (command_found (subcommand_of program words))

-- decimal digits of n, from 1 to 1000, with no zero in front
pub record IsRounds (text : Text) (n : ℕ) : Type 0 where
  pub digits : IsNumeral 10 text
  pub value : digits_value 10 text ≡ n
  pub least : 1 ≤ n
  pub most : n ≤ 1000
  pub leading : slice_index text 0 ≢ 48

-- the words after the program's name are exactly these
abbrev pub IsExactly : List Text → Command → Type 0
IsExactly words Node = drop 1 words ≡ codes "node" ∷ []
IsExactly words (Tell Replay) = drop 1 words ≡ codes "replay" ∷ []
IsExactly words (Tell Show) = drop 1 words ≡ codes "show" ∷ []
IsExactly words (Tell Lists) = drop 1 words ≡ codes "lists" ∷ []
IsExactly words (Tell Merge) = drop 1 words ≡ codes "merge" ∷ []
IsExactly words (Tell Audit) = drop 1 words ≡ codes "audit" ∷ []
IsExactly words (Tell Blame) = drop 1 words ≡ codes "blame" ∷ []
IsExactly words (Tell Flags) = drop 1 words ≡ codes "flags" ∷ []
IsExactly words (Tell Negative) = drop 1 words ≡ codes "negative" ∷ []
IsExactly words (Tell Events) = drop 1 words ≡ codes "tell" ∷ []
IsExactly words (Tell (Gen n)) = (text : Text) × (drop 1 words ≡ codes "gen" ∷ text ∷ []) × IsRounds text n
IsExactly words (Tell Help) = (drop 1 words ≡ codes "--help" ∷ []) ⊎ (drop 1 words ≡ codes "-h" ∷ [])
IsExactly words (Tell Version) = (drop 1 words ≡ codes "--version" ∷ []) ⊎ (drop 1 words ≡ codes "-V" ∷ [])
