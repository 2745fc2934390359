-- The numbers of the refusals. Source: this project's own layout.
use Rattle.std.specs.Prelude.{ℕ}
use Rattle.xl_rounds.specs.declared.refusal.RoundRefusal.{RoundRefusal}
use Rattle.xl_rounds.specs.declared.refusal.RoundRefusal.TheVariants.{Pending, PoolFull, WrongPrev, OldPosition, Left, StaleProposal}

-- the number of each refusal
abbrev pub code_of : RoundRefusal → ℕ
code_of (Pending tx) = 24
code_of (PoolFull limit) = 25
code_of (WrongPrev ours) = 26
code_of (OldPosition kept) = 27
code_of (Left member) = 28
code_of (StaleProposal now) = 29
