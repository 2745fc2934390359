-- What equivocations and forks say of what was read. Source: this project's own.
use Rattle.std.specs.Prelude.{◌≡◌, ℕ, ◌≤◌, ◌<◌, ◌^◌, ◌&&◌, ◌++◌, Bool, List, ◌∷◌, All, Contains, count_by, IsTrue, Some, true}
use Rattle.std.specs.List.{list_any}
use Rattle.xl_base.specs.Ids.{same_id}
use Rattle.xl_base.specs.declared.ids.LedgerId.{LedgerId}
use Rattle.xl_lists.specs.Lists.{is_on}
use Rattle.xl_lists.specs.Quorums.{least_shown}
use Rattle.xl_forks.specs.Equivocations.{equivocation_of, equivocations_in, is_of, said_two}
use Rattle.xl_forks.specs.Forks.{Fork, fork_between, forks_in, shown_by}
use Rattle.xl_forks.specs.declared.equivocation.Equivocation.{Equivocation}
use Rattle.xl_forks.specs.declared.reported.Reported.{Reported}
use Rattle.xl_forks.specs.declared.said.Said.{Said}

-- two of the words of one member on one sequence, which name different ledgers
pub record AreTwo (said : List Said) (s m : ℕ) (e : Equivocation) : Type 0 where
  pub has_first : Contains said e.first
  pub has_other : Contains said e.other
  pub first : IsTrue (is_of s m e.first)
  pub other : IsTrue (is_of s m e.other)
  pub differ : ¬ (e.first.id ≡ e.other.id)

-- an equivocation is that
abbrev pub EquivocationsAreTwo : Type 0
EquivocationsAreTwo = (said : List Said) (s m : ℕ) (e : Equivocation) → equivocation_of said s m ≡ Some e → AreTwo said s m e

-- and who said two ledgers of a sequence has one
abbrev pub TwoAreEquivocations : Type 0
TwoAreEquivocations = (said : List Said) (s m : ℕ) (e : Equivocation) → AreTwo said s m e → said_two said s m ≡ true

-- whoever has one stands among them all, and no one else does
abbrev pub EachIsAmong : Type 0
EachIsAmong = (said : List Said) (s m : ℕ) → s < 2 ^ 32 → 1 ≤ m → m ≤ 64 →
    said_two said s m ≡ list_any (λ e. is_of s m e.first) (equivocations_in said)

-- A fork is two of the reports, of one sequence, that name different ledgers. With them stands the least number of
-- members of both lists that must have said both, and the number of those who said two.
pub record IsFork (said : List Said) (reported : List Reported) (f : Fork) : Type 0 where
  pub has_one : Contains reported f.one
  pub has_other : Contains reported f.other
  pub one_seq : f.one.seq ≡ f.other.seq
  pub two_ids : ¬ (f.one.id ≡ f.other.id)
  pub least : f.least ≡ least_shown f.one.list f.other.list
  pub shown : f.shown ≡ shown_by (said_two said) f.one.seq f.one.list.members f.other.list.members

abbrev pub ForksAreOfReports : Type 0
ForksAreOfReports = (said : List Said) (reported : List Reported) → All (IsFork said reported) (forks_in said reported)

-- and each two such reports are one
abbrev pub EachPairIsAFork : Type 0
EachPairIsAFork = (said : List Said) (front middle back : List Reported) (r q : Reported) →
    r.seq < 2 ^ 32 → r.seq ≡ q.seq → ¬ (r.id ≡ q.id) →
    Contains (forks_in said (front ++ r ∷ (middle ++ q ∷ back))) (fork_between (said_two said) r q)

-- whether the member said this ledger of the sequence
abbrev pub said_it : List Said → ℕ → ℕ → LedgerId → Bool
said_it said s m id = list_any (λ x. is_of s m x && same_id x.id id) said

-- whoever of both lists said both ledgers is counted as shown
abbrev pub BothAreShown : Type 0
BothAreShown = (said : List Said) (s : ℕ) (x y : LedgerId) (a b : List ℕ) → ¬ (x ≡ y) →
    count_by (λ m. is_on b m && (said_it said s m x && said_it said s m y)) a ≤ shown_by (said_two said) s a b
