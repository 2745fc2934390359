-- The list that is told is a function of the set of rolls that were taken. Source: this project's own rule.
use Rattle.std.specs.Prelude.{◌≡◌, List, [], ◌∷◌, ◌++◌}
use Rattle.xl_publish.specs.Runs.{Act, Key, Rolled, taken_in, AreSame}
use Rattle.xl_merge.specs.declared.line.Line.{Line}
use Rattle.xl_merge.specs.declared.line.Line.TheVariants as line
use Rattle.xl_merge.specs.Merging.{Merging, at_first, after_line, text_of}

-- what is known after some lines
abbrev pub after_lines : Merging → List Line → Merging
after_lines m [] = m
after_lines m (line ∷ lines) = after_lines (after_line m line) lines

-- what a line does for a publisher
abbrev pub act_of : Line → List Act
act_of (line.Publisher publisher key) = Key publisher key ∷ []
act_of (line.Roll bytes) = Rolled bytes ∷ []
act_of other = []

abbrev pub acts_of : List Line → List Act
acts_of [] = []
acts_of (line ∷ lines) = act_of line ++ acts_of lines

-- The law: after lines that took the same rolls, in whatever order and however often, the same is told of the list, if
-- the threshold and the moment are the same.
abbrev pub ListsAlike : Type 0
ListsAlike = (a b : List Line) → AreSame (taken_in (acts_of a)) (taken_in (acts_of b)) →
    (after_lines at_first a).threshold ≡ (after_lines at_first b).threshold →
    (after_lines at_first a).now ≡ (after_lines at_first b).now →
    text_of (after_lines at_first a) line.List ≡ text_of (after_lines at_first b) line.List
