-- Why no member that keeps the rules is shown to have said two ledgers of one sequence, unless a tag was forged.
-- Source: this profile, by which a node saves a sequence before it says it, and says none that isn't above the saved one.
use Rattle.std.specs.Prelude.{◌≡◌, ℕ, List, IsTrue}
use Rattle.xl_base.specs.declared.ids.LedgerId.{LedgerId}
use Rattle.xl_lists.specs.Agreement.{has_said}
use Rattle.xl_lists.specs.declared.said.SaidLedger.{SaidLedger}
use Rattle.xl_world.specs.Lives.{Life, NeverBehind, issued_by}

-- of each sequence at most one ledger is said under a name
abbrev pub IsOnce : List SaidLedger → Type 0
IsOnce said = (m s : ℕ) (a b : LedgerId) → IsTrue (has_said said m s a) → IsTrue (has_said said m s b) → a ≡ b

-- In all its lives together a node says at most one ledger of a sequence, if its keeper never falls behind.
abbrev pub LivesSayOnce : Type 0
LivesSayOnce = (lives : List Life) → NeverBehind 0 lives → IsOnce (issued_by lives)

-- what is shown under a member's name was issued in its lives: no tag of its was forged
abbrev pub IsIssued : ℕ → List SaidLedger → List Life → Type 0
IsIssued m shown lives = (s : ℕ) (a : LedgerId) → IsTrue (has_said shown m s a) → IsTrue (has_said (issued_by lives) m s a)

-- So such a member is never named: what two journals show of it, or one twice, is one ledger of a sequence.
abbrev pub NoneIsNamed : Type 0
NoneIsNamed =
    (m : ℕ) (lives : List Life) (here there : List SaidLedger) →
    NeverBehind 0 lives → IsIssued m here lives → IsIssued m there lives →
    (s : ℕ) (a b : LedgerId) → IsTrue (has_said here m s a) → IsTrue (has_said there m s b) → a ≡ b
