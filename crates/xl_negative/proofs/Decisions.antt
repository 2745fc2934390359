-- The decisions on what came of an event, one after the other.
use Rattle.std.proofs.Common.{◌≡◌, ℕ, ◌+◌, ◌<◌, List, length, drop, get_or, sym, ap, ◌∙◌, refl}
use Rattle.xl_lines.specs.declared.machine.Next.{Next}
use Rattle.xl_lines.specs.declared.machine.Next.TheVariants as says
use Rattle.xl_lines.specs.Rules.{Step, step_given}
use Rattle.xl_world.specs.declared.outcome.Outcome.{Outcome}
use Rattle.xl_negative.specs.Ringing.{Places, ring_keeping}
use Rattle.xl_negative.specs.Writing.{Writing, after_outcome, after_outcomes, and_then}
use Rattle.xl_negative.proofs.Taking.{next_left}

-- what is told further on, from the outcome of a place
further : List Outcome → ℕ → Writing Places → List ℕ → Step (Writing Places)
further os i s text = after_outcomes ring_keeping s text (drop (i + 1) os)

decided_next : (s : Writing Places) (text : List ℕ) (os : List Outcome) (i : ℕ) (o : Outcome) → i < length os → o ≡ get_or os i o →
    after_outcomes ring_keeping s text (drop i os) ≡ and_then (further os i) (after_outcome ring_keeping s text o)
unfolding further
decided_next s text os i o within here = ap (after_outcomes ring_keeping s text) (next_left os i o within here)

-- a decision after which the text goes on
pub goes_further : (s s' : Writing Places) (text text' : List ℕ) (os : List Outcome) (i : ℕ) (o : Outcome) (next : Next) → i < length os → o ≡ get_or os i o →
    step_given next text' s' ≡ after_outcome ring_keeping s text o → next ≡ says.Line → after_outcomes ring_keeping s' text' (drop (i + 1) os) ≡ after_outcomes ring_keeping s text (drop i os)
unfolding and_then further
goes_further s s' text text' os i o says.Line within here told line = ap (and_then (further os i)) told ∙ sym (decided_next s text os i o within here)
goes_further s s' text text' os i o says.Refused within here told line = absurd cc
goes_further s s' text text' os i o says.Found within here told line = absurd cc

-- and one that ends it
pub ends_there : (s s' : Writing Places) (text text' : List ℕ) (os : List Outcome) (i : ℕ) (o : Outcome) (next : Next) → i < length os → o ≡ get_or os i o →
    step_given next text' s' ≡ after_outcome ring_keeping s text o → (next ≡ says.Line → ⊥) → step_given next text' s' ≡ after_outcomes ring_keeping s text (drop i os)
unfolding and_then further
ends_there s s' text text' os i o says.Line within here told other = absurd (other refl)
ends_there s s' text text' os i o says.Refused within here told other = ap (and_then (further os i)) told ∙ sym (decided_next s text os i o within here)
ends_there s s' text text' os i o says.Found within here told other = ap (and_then (further os i)) told ∙ sym (decided_next s text os i o within here)
