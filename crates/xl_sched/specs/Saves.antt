-- Saves that are cut off, and saves that fail. Source: this project's schedule language.
use Rattle.std.specs.Prelude.{ℕ, Bool, ◌==◌, ◌||◌, List, ◌∷◌, length, codes, Result, Ok, Err, if◌then◌else◌}
use Rattle.std.specs.Str.{bytes_eq}
use Rattle.xl_sched.specs.declared.event.Ask.{Ask}
use Rattle.xl_sched.specs.declared.event.What.{What}
use Rattle.xl_sched.specs.declared.event.What.TheVariants as what
use Rattle.xl_sched.specs.declared.refusal.SchedRefusal.{SchedRefusal}
use Rattle.xl_sched.specs.declared.refusal.SchedRefusal.TheVariants.{Choice}
use Rattle.xl_sched.specs.Refusals.{◌>>=◌, miscounted}
use Rattle.xl_sched.specs.Choices.{new_of}
use Rattle.xl_sched.specs.Events.{asked_issue, asked_timer}
use Rattle.xl_sched.specs.Reading.{Reading}

-- whether this many tokens may stand after the word of what is asked; after no such word as many as after any
abbrev pub may_ask : List ℕ → ℕ → Bool
may_ask word count =
    if bytes_eq word (codes "issue") then count == 4
    else if bytes_eq word (codes "timer") then count == 1
    else count == 1 || count == 4

-- what is asked: the tokens of an `issue` or a `timer` line
abbrev pub ask_of : Reading → List ℕ → List (List ℕ) → Result Ask SchedRefusal
ask_of reading word arguments =
    if bytes_eq word (codes "issue") then asked_issue reading arguments
    else if bytes_eq word (codes "timer") then asked_timer reading arguments
    else Err (Choice word)

-- the number that the keeper then holds, and what is asked, from left to right
abbrev pub held_of : List ℕ → Result Ask SchedRefusal → Result (Bool × Ask) SchedRefusal
held_of held asked = do
  new ← new_of held
  ask ← asked
  Ok (new, ask)

-- `old E` and `new E`, E being what is asked
abbrev pub disturbed_of : Reading → List (List ℕ) → Result (Bool × Ask) SchedRefusal
disturbed_of reading (held ∷ word ∷ asked) =
    if may_ask word (length asked) then held_of held (ask_of reading word asked) else miscounted (held ∷ word ∷ asked)
disturbed_of reading arguments = miscounted arguments

-- `cut old E`, and `cut new E`
abbrev pub cut_event : Reading → List (List ℕ) → Result What SchedRefusal
cut_event reading arguments = do
  save ← disturbed_of reading arguments
  Ok (what.Cut save.0 save.1)

-- `fail old E`, and `fail new E`
abbrev pub fail_event : Reading → List (List ℕ) → Result What SchedRefusal
fail_event reading arguments = do
  save ← disturbed_of reading arguments
  Ok (what.Fail save.0 save.1)
