-- What the journals of a named member itself say of the two ledgers. Source: this project's own.
use Rattle.std.specs.Prelude.{ℕ, ◌+◌, ◌-◌, ◌==◌, Bool, false, List, [], ◌∷◌, ◌++◌, decimal, codes, slice_get, Some, None, if◌then◌else◌}
use Rattle.std.specs.declared.option.Option.{Option}
use Rattle.std.specs.BTreeMap.{BTreeMap, get}
use Rattle.hex.specs.Hex.{encode_lower}
use Rattle.xl_audit.specs.Auditing.{newline}
use Rattle.xl_audit.specs.Values.{space}
use Rattle.xl_forks.specs.declared.equivocation.Equivocation.{Equivocation}
use Rattle.xl_forks.specs.declared.said.Said.{Said}
use Rattle.xl_given.specs.Kept.{by_entry}
use Rattle.xl_given.specs.declared.givers.Giver.{Giver}
use Rattle.xl_shown.specs.declared.course.End.{End}
use Rattle.xl_blame.specs.Texts.{twice_line}

-- the first journal of a node, if these begin with the kth
abbrev pub journal_from : ℕ → List End → ℕ → Option ℕ
journal_from k [] m = None
journal_from k (e ∷ es) m = if e.keys.me == m then Some k else journal_from (k + 1) es m

abbrev pub journal_of : List End → ℕ → Option ℕ
journal_of ended m = journal_from 1 ended m

abbrev pub is_node : Option End → ℕ → Bool
is_node None m = false
is_node (Some e) m = e.keys.me == m

-- whether a word stands in a journal of its own member, which issued it there
abbrev pub is_own : List End → Said → Bool
is_own ended x = is_node (slice_get ended (x.journal - 1)) x.member

-- the entry of the member's own journals that says the word: the one that issued it, or the first that gave its frame.
-- `giver k e`: who gave what was heard in entry e of journal k
abbrev pub own_entry : List End → (ℕ → ℕ → Option Giver) → Said → Option Giver
own_entry ended giver x =
    if is_own ended x then Some (record { journal = x.journal; entry = x.entry }) else giver x.journal x.entry

-- who gave it, as a map has it
abbrev pub giver_in : BTreeMap (ℕ × ℕ) Giver → ℕ → ℕ → Option Giver
giver_in givers k e = get by_entry givers (k, e)

-- of which sequence, who, and which ledger
unfoldable pub word_text : Said → List ℕ
word_text x = decimal x.seq ++ space ++ decimal x.member ++ space ++ encode_lower x.id.0

abbrev pub confessed_line : Said → Giver → List ℕ
confessed_line x own =
    codes "confessed " ++ word_text x ++ space ++ decimal own.journal ++ space ++ decimal own.entry ++ newline

abbrev pub denied_line : Said → ℕ → List ℕ
denied_line x k = codes "denied " ++ word_text x ++ space ++ decimal k ++ newline

abbrev pub answer_text : ℕ → Said → Option Giver → List ℕ
answer_text k x None = denied_line x k
answer_text k x (Some own) = confessed_line x own

abbrev pub answers_if : Option ℕ → List End → (ℕ → ℕ → Option Giver) → Equivocation → List ℕ
answers_if None ended giver e = []
answers_if (Some k) ended giver e =
    answer_text k e.first (own_entry ended giver e.first) ++ answer_text k e.other (own_entry ended giver e.other)

-- what they say of both words, if one of them was read
abbrev pub answers_text : List End → (ℕ → ℕ → Option Giver) → Equivocation → List ℕ
answers_text ended giver e = answers_if (journal_of ended e.first.member) ended giver e

-- a member's words for two ledgers, and what its own journals say of them
abbrev pub named_text : List End → (ℕ → ℕ → Option Giver) → Equivocation → List ℕ
named_text ended giver e = twice_line e ++ answers_text ended giver e
