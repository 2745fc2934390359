-- Why a line is refused. Source: this project's schedule language.
use Rattle.std.specs.Prelude.{◌≡◌, ◌⊎◌, ◌+◌, ℕ, List, [], length, decimal, Option, Result, Ok, Err}
use Rattle.xl_sched.specs.declared.refusal.SchedRefusal.{SchedRefusal}
use Rattle.xl_sched.specs.declared.refusal.SchedRefusal.TheVariants.{Header, LongLine, Limit, Word, Count, Number, Id, Choice, Twice, Late, List as IsNoList, Absent, OutOfMemory}

-- the first cause decides: the second step, if the first gave a value
infixl 10 ◌>>=◌
abbrev pub ◌>>=◌ : {A B : Type 0} → Result A SchedRefusal → (A → Result B SchedRefusal) → Result B SchedRefusal
Ok x >>= f = f x
Err e >>= f = Err e

-- what a call answers is this, unless memory ran out
abbrev pub GivenMemory : {A : Type 0} → Result A SchedRefusal → Result A SchedRefusal → Type 0
GivenMemory (Ok x) exact = exact ≡ Ok x
GivenMemory (Err e) exact = (e ≡ OutOfMemory) ⊎ (exact ≡ Err e)

-- what a call puts into a place is this, unless memory ran out
abbrev pub PutsGivenMemory : {A : Type 0} → Result (Unit {0}) SchedRefusal → Option A → Result (Option A) SchedRefusal → Type 0
PutsGivenMemory (Ok done) put exact = exact ≡ Ok put
PutsGivenMemory (Err e) put exact = (e ≡ OutOfMemory) ⊎ (exact ≡ Err e)

-- the number of each cause, and the token that it names; lack of memory has none
abbrev pub parts_of : SchedRefusal → ℕ × List ℕ
parts_of (Header token) = (33, token)
parts_of (LongLine token) = (34, token)
parts_of (Limit token) = (35, token)
parts_of (Word token) = (36, token)
parts_of (Count token) = (37, token)
parts_of (Number token) = (38, token)
parts_of (Id token) = (39, token)
parts_of (Choice token) = (40, token)
parts_of (Twice token) = (41, token)
parts_of (Late token) = (42, token)
parts_of (IsNoList token) = (43, token)
parts_of (Absent token) = (44, token)
parts_of OutOfMemory = (0, [])

abbrev pub code_of : SchedRefusal → ℕ
code_of refusal = (parts_of refusal).0

abbrev pub token_of : SchedRefusal → List ℕ
token_of refusal = (parts_of refusal).1

-- this many tokens no line of the word has, the word counted
abbrev pub miscounted : {A : Type 0} → List (List ℕ) → Result A SchedRefusal
miscounted arguments = Err (Count (decimal (length arguments + 1)))
