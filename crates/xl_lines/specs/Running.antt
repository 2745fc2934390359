-- How far a run has come. Source: the definitions of lines and of what is written about them.
use Rattle.std.specs.Prelude.{◌≡◌, ℕ, ◌+◌, ◌-◌, ◌*◌, ◌<◌, ◌≤◌, List, [], ◌++◌, length, drop}
use Rattle.std.specs.declared.option.Option.{Option}
use Rattle.std.specs.Io.KnownBytes.{append_known}
use Rattle.xl_lines.specs.declared.limits.Limits.{Limits}
use Rattle.xl_lines.specs.declared.machine.Verdict.{Verdict}
use Rattle.xl_lines.specs.declared.machine.Next.{Next}
use Rattle.xl_lines.specs.declared.machine.Next.TheVariants as next
use Rattle.xl_lines.specs.declared.lines.Part.{Part}
use Rattle.xl_lines.specs.declared.lines.Part.TheVariants as part
use Rattle.xl_lines.specs.Lines.{lines_of}
use Rattle.xl_lines.specs.Rules.{Rules, Step, goes_on, refuses, finds, Told, refused, found}
use Rattle.xl_lines.specs.Told.{after, told_from}
use Rattle.xl_lines.specs.Soon.{answerable, unclosed}

-- what is told where left lines may come, these bytes of the first have come, and the rest is to come
unfoldable pub told_at : {S : Type 0} → Limits → Rules S → ℕ → S → List ℕ → List ℕ → Told
told_at limits rules left state line rest = told_from limits rules left state (lines_of (line ++ rest))

-- what of that is told as soon as the rest has come
unfoldable pub soon_at : {S : Type 0} → Limits → Rules S → ℕ → S → List ℕ → List ℕ → Told
soon_at limits rules left state line rest =
    told_from limits (unclosed rules) left state (answerable limits (lines_of (line ++ rest)))

-- of what was to be told, a front is written, and this is left
pub record Tells (old new : Option (List ℕ)) (told left : Told) : Type 0 where
  pub written : List ℕ
  pub held : new ≡ append_known old written
  pub parts : told ≡ after written left

-- of what is told soon, a front is written, whatever rest comes, and this is left
pub record Puts (old new : Option (List ℕ)) (soon left : List ℕ → Told) : Type 0 where
  pub written : List ℕ
  pub held : new ≡ append_known old written
  pub parts : (rest : List ℕ) → soon rest ≡ after written (left rest)

-- so it is after a part of the bytes, unless a line ended the text
abbrev pub PutsPart : Part → (old new : Option (List ℕ)) → (soon left : List ℕ → Told) → List ℕ → Type 0
PutsPart (part.Taken n) old new soon left bytes =
    Puts old new (λ rest. soon (bytes ++ rest)) (λ rest. left (drop n bytes ++ rest))
PutsPart part.Refused old new soon left bytes = Unit {0}
PutsPart part.Found old new soon left bytes = Unit {0}

-- what is left to tell after a part of the bytes
abbrev pub left_after : Part → (List ℕ → Told) → List ℕ → Told
left_after (part.Taken n) told bytes = told (drop n bytes)
left_after part.Refused told bytes = refused []
left_after part.Found told bytes = found []

-- what is left to tell, unless a line ended the text
abbrev pub left_unless_ended : Next → Told → Told
left_unless_ended next.Line told = told
left_unless_ended next.Refused told = refused []
left_unless_ended next.Found told = found []

-- some bytes were taken, and no more than there are
abbrev pub TakesSome : Part → List ℕ → Type 0
TakesSome (part.Taken n) bytes = (0 < n) × (n ≤ length bytes)
TakesSome part.Refused bytes = Unit {0}
TakesSome part.Found bytes = Unit {0}

-- what was taken is no longer to come
abbrev pub FewerToCome : Part → ℕ → ℕ → Type 0
FewerToCome (part.Taken n) old new = new + n ≤ old
FewerToCome part.Refused old new = Unit {0}
FewerToCome part.Found old new = Unit {0}

-- the text of a step
abbrev pub step_text : {S : Type 0} → Step S → List ℕ
step_text (goes_on text state) = text
step_text (refuses text) = text
step_text (finds text) = text

-- how many bytes may come at most before a line is refused
abbrev pub bytes_to_come : Limits → ℕ → ℕ → ℕ
bytes_to_come limits left line = (limits.bytes + 1) * left + (limits.bytes + 1 - line)

-- all of it is written, and it says this
pub record TellsAll (old new : Option (List ℕ)) (verdict : Verdict) (told : Told) : Type 0 where
  pub held : new ≡ append_known old told.text
  pub says : told.verdict ≡ verdict
