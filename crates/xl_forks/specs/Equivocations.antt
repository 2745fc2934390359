-- Members that said two ledgers of one sequence, by what journals show, in the order in which they were read. Source:
-- this project's own; that words which conflict name their speakers is the accountability of quorum systems.
use Rattle.std.specs.Prelude.{ℕ, ◌^◌, ◌==◌, ◌&&◌, not, Bool, List, find, filter_map, flat_map, is_some, option_map, option_and_then}
use Rattle.std.specs.declared.option.Option.{Option}
use Rattle.std.specs.List.{range_with_len}
use Rattle.xl_base.specs.Ids.{same_id}
use Rattle.xl_base.specs.declared.ids.LedgerId.{LedgerId}
use Rattle.xl_lists.specs.Lists.{all_numbers}
use Rattle.xl_forks.specs.declared.equivocation.Equivocation.{Equivocation}
use Rattle.xl_forks.specs.declared.said.Said.{Said}

-- the sequences below one, by rising number
unfoldable pub seqs_below : ℕ → List ℕ
seqs_below n = range_with_len 0 n

-- all of them
abbrev pub all_seqs : List ℕ
all_seqs = seqs_below (2 ^ 32)

-- whether the member said it of the sequence
abbrev pub is_of : ℕ → ℕ → Said → Bool
is_of s m x = x.seq == s && x.member == m

-- the first entry that shows what the member said of the sequence
abbrev pub first_said : List Said → ℕ → ℕ → Option Said
first_said said s m = find (is_of s m) said

-- the first that shows that it said another ledger than this
abbrev pub first_other : List Said → ℕ → ℕ → LedgerId → Option Said
first_other said s m id = find (λ x. is_of s m x && not (same_id x.id id)) said

-- these two, if it said two ledgers of the sequence
abbrev pub equivocation_of : List Said → ℕ → ℕ → Option Equivocation
equivocation_of said s m =
    option_and_then (λ x. option_map (λ y. record { first = x; other = y }) (first_other said s m x.id))
    (first_said said s m)

-- whether it did
abbrev pub said_two : List Said → ℕ → ℕ → Bool
said_two said s m = is_some (equivocation_of said s m)

-- those of all members, by rising sequence, then by rising member
abbrev pub equivocations_in : List Said → List Equivocation
equivocations_in said = flat_map (λ s. filter_map (equivocation_of said s) all_numbers) all_seqs
