-- Forks: any two reports of one sequence that name different ledgers, in the order in which they were read, and how many
-- members must have said both and did. Source: this project's own.
use Rattle.std.specs.Prelude.{ℕ, ◌==◌, ◌&&◌, ◌++◌, Bool, List, [], ◌∷◌, count_by, filter, filter_map, flat_map, Some, None, if◌then◌else◌}
use Rattle.std.specs.declared.option.Option.{Option}
use Rattle.xl_base.specs.Ids.{same_id}
use Rattle.xl_lists.specs.Lists.{is_on}
use Rattle.xl_lists.specs.Quorums.{least_shown}
use Rattle.xl_forks.specs.Equivocations.{all_seqs, said_two}
use Rattle.xl_forks.specs.declared.fork.Fork as code
use Rattle.xl_forks.specs.declared.reported.Reported.{Reported}
use Rattle.xl_forks.specs.declared.said.Said.{Said}

-- two reports, how many members of both lists must have said both ledgers, and how many are shown to have said two
pub record Fork : Type 0 where
  pub one : Reported
  pub other : Reported
  pub least : ℕ
  pub shown : ℕ

-- how many members of both lists said two ledgers of the sequence. `two s m`: whether m did of s
abbrev pub shown_by : (ℕ → ℕ → Bool) → ℕ → List ℕ → List ℕ → ℕ
shown_by two s a b = count_by (λ m. is_on b m && two s m) a

-- two reports of one sequence that name different ledgers
abbrev pub fork_between : (ℕ → ℕ → Bool) → Reported → Reported → Fork
fork_between two r q = record {
  one = r;
  other = q;
  least = least_shown r.list q.list;
  shown = shown_by two r.seq r.list.members q.list.members;
}

-- they are a fork if they do
abbrev pub fork_of : (ℕ → ℕ → Bool) → Reported → Reported → Option Fork
fork_of two r q = if same_id r.id q.id then None else Some (fork_between two r q)

-- the forks of each report of a sequence with those that were read after it
abbrev pub forks_among : (ℕ → ℕ → Bool) → List Reported → List Fork
forks_among two [] = []
forks_among two (r ∷ rs) = filter_map (fork_of two r) rs ++ forks_among two rs

-- those of all sequences, by rising sequence
abbrev pub forks_in : List Said → List Reported → List Fork
forks_in said reported = flat_map (λ s. forks_among (said_two said) (filter (λ r. r.seq == s) reported)) all_seqs

-- a fork as the code has it
abbrev pub fork_seen : code.Fork → Fork
fork_seen f = record { one = f.one.now; other = f.other.now; least = f.least; shown = f.shown }
