-- Rules of several lines, the first of which decides. Source: how rippled's Consensus states its rules.
use Rattle.std.specs.Prelude.{Bool, List, [], ◌∷◌, if◌then◌else◌}

-- the answer of the first line whose condition holds, or the last answer if none does
abbrev pub first_line : {X : Type 0} → List (Bool × X) → X → X
first_line [] last = last
first_line (line ∷ lines) last = if line.0 then line.1 else first_line lines last
