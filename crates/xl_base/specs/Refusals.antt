-- Refusals by the first of several causes that holds, whatever the causes are. Source: this project's own.
use Rattle.std.specs.Prelude.{Bool, List, [], ◌∷◌, Option, Some, None, Result, Ok, Err, if◌then◌else◌}
use Rattle.std.specs.Option.{option_or}

module _ {Cause : Type 0} where
  -- a cause, if it holds
  abbrev pub refused_if : Bool → Cause → Option Cause
  refused_if holds cause = if holds then Some cause else None

  -- the first cause that holds
  abbrev pub first_of : List (Option Cause) → Option Cause
  first_of [] = None
  first_of (cause ∷ causes) = option_or cause (first_of causes)

-- a value, unless a cause holds
abbrev pub unless_refused : {X Cause : Type 0} → Option Cause → X → Result X Cause
unless_refused None x = Ok x
unless_refused (Some cause) x = Err cause
