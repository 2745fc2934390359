-- Members, and lists of them. Source: this project's schedule language.
use Rattle.std.specs.Prelude.{ℕ, ◌||◌, List, [], ◌∷◌, decimal, Result, Ok, Err, if◌then◌else◌}
use Rattle.xl_lists.specs.Lists.{TrustedList, list_of, is_on, code_of}
use Rattle.xl_lists.specs.declared.refusal.ListRefusal.{ListRefusal}
use Rattle.xl_sched.specs.declared.refusal.SchedRefusal.{SchedRefusal}
use Rattle.xl_sched.specs.declared.refusal.SchedRefusal.TheVariants.{Twice, Absent, List as IsNoList}
use Rattle.xl_sched.specs.Refusals.{◌>>=◌}
use Rattle.xl_sched.specs.Tokens.{entries}
use Rattle.xl_sched.specs.Numbers.{number_within, number_of}

-- a member's number
abbrev pub member_of : List ℕ → Result ℕ SchedRefusal
member_of token = number_within 1 64 token

-- the number of a node that is declared
abbrev pub declared_of : List ℕ → List ℕ → Result ℕ SchedRefusal
declared_of nodes token = do
  member ← member_of token
  if is_on nodes member then Ok member else Err (Absent token)

-- a number that may still be declared, since it is neither an honest node's nor a liar's
abbrev pub new_member_of : List ℕ → List ℕ → List ℕ → Result ℕ SchedRefusal
new_member_of nodes liars token = do
  member ← member_of token
  if is_on nodes member || is_on liars member then Err (Twice token) else Ok member

-- the number of each entry, or the first entry that is none
abbrev pub numbers_of : List (List ℕ) → Result (List ℕ) SchedRefusal
numbers_of [] = Ok []
numbers_of (entry ∷ rest) = do
  number ← number_of entry
  numbers ← numbers_of rest
  Ok (number ∷ numbers)

-- numbers that are joined by single commas
abbrev pub members_of : List ℕ → Result (List ℕ) SchedRefusal
members_of token = numbers_of (entries token)

abbrev pub unless_refused : Result TrustedList ListRefusal → Result TrustedList SchedRefusal
unless_refused (Ok list) = Ok list
unless_refused (Err refusal) = Err (IsNoList (decimal (code_of refusal)))

-- the list of these members and this quorum
abbrev pub trusted_of : List ℕ → ℕ → Result TrustedList SchedRefusal
trusted_of members quorum = unless_refused (list_of members quorum)
