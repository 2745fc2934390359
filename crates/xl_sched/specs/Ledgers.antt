-- Ledgers that names stand for. Source: this project's schedule language.
use Rattle.std.specs.Prelude.{ℕ, ◌+◌, ◌≤◌, List, find, codes, Option, IfSome, option_map, Result, Ok, if◌then◌else◌}
use Rattle.std.specs.List.{All}
use Rattle.std.specs.Option.{option_and_then, ok_or}
use Rattle.std.specs.Str.{bytes_eq}
use Rattle.xl_ledger.specs.declared.header.Header.{Header}
use Rattle.xl_ledger.specs.Chains.{root_id, root_header}
use Rattle.xl_sched.specs.declared.ledger.Ledger.{Ledger}
use Rattle.xl_sched.specs.declared.named.Named.{Named}
use Rattle.xl_sched.specs.declared.refusal.SchedRefusal.{SchedRefusal}
use Rattle.xl_sched.specs.declared.refusal.SchedRefusal.TheVariants.{Id}

-- the ledger that every other one follows
abbrev pub root_ledger : Ledger
root_ledger = record { id = root_id; header = root_header }

-- the header of a ledger that follows this one, closes at this second, and is like the root in all else
abbrev pub header_after : Ledger → ℕ → Header
header_after parent close = record root_header {
  seq = parent.header.seq + 1;
  parent = parent.id;
  parent_close = parent.header.close;
  close = close;
}

-- the ledger of a name that was declared by a header; a plain name has none, whatever it stands for
abbrev pub ledger_in : Named → Option Ledger
ledger_in named = option_map (λ header. record { id = record { 0 = named.id }; header = header }) named.header

-- the ledger that was declared by this name
abbrev pub ledger_named : List Named → List ℕ → Option Ledger
ledger_named names name = option_and_then ledger_in (find (λ n. bytes_eq name n.name) names)

-- a ledger, by its name
abbrev pub ledger_of : List Named → List ℕ → Result Ledger SchedRefusal
ledger_of names token = ok_or (ledger_named names token) (Id token)

-- a ledger that another may follow: one that is named, or the root
abbrev pub parent_of : List Named → List ℕ → Result Ledger SchedRefusal
parent_of names token = if bytes_eq token (codes "root") then Ok root_ledger else ledger_of names token

-- no declared ledger has a sequence above this number
abbrev pub AreUpTo : ℕ → List Named → Type 0
AreUpTo most names = All (λ n. IfSome n.header (λ h. h.seq ≤ most)) names
