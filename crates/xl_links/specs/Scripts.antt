-- How the calls of a link in memory are answered, by their numbers, which are counted from 1 for each kind.
-- Source: this project's own, for tests.
use Rattle.std.specs.Prelude.{ℕ, ◌==◌, Bool, List, if◌then◌else◌}
use Rattle.std.specs.List.{list_any}
use Rattle.xl_links.specs.declared.link.Opening.{Opening}
use Rattle.xl_links.specs.declared.link.Opening.TheVariants as opening
use Rattle.xl_links.specs.declared.script.LinkScript.{LinkScript}
use Rattle.xl_links.specs.declared.script.Course.{Course}
use Rattle.xl_links.specs.declared.script.Course.TheVariants as course

-- the number stands in the list
abbrev pub is_listed : List ℕ → ℕ → Bool
is_listed numbers number = list_any (λ listed. listed == number) numbers

-- what the opening of this number answers
abbrev pub opening_at : LinkScript → ℕ → Opening
opening_at script number =
    if is_listed script.failing_openings.items number then opening.Failed
    else if is_listed script.not_yet.items number then opening.NotYet
    else opening.Open

-- how the read of this number goes
abbrev pub course_at : LinkScript → ℕ → Course
course_at script number =
    if is_listed script.failing_reads.items number then course.Fails
    else if is_listed script.idle.items number then course.Idles
    else if is_listed script.ends.items number then course.Ends
    else course.Gives
