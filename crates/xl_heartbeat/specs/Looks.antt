-- What a heartbeat's list is made by, and looks at a text of rolls. Source: this project's own.
use Rattle.std.specs.Prelude.{◌≡◌, ℕ, ◌+◌, ◌≤◌, ◌⊎◌, ◌||◌, nat_le, nat_lt, Bool, true, false, List, length, Some, None}
use Rattle.std.specs.declared.option.Option.{Option}
use Rattle.xl_lists.specs.Lists.{TrustedList}
use Rattle.xl_publish.specs.declared.line_refusal.RefusedLine.{RefusedLine}
use Rattle.xl_publish.specs.declared.publishing.Publishing.{Publishing}
use Rattle.xl_publish.specs.Codes.{line_code_of}
use Rattle.xl_publish.specs.Registers.{Register}
use Rattle.xl_publish.specs.Texts.{after_text, first_refused, lines_of, most_text}
use Rattle.xl_status.specs.declared.look.Look.{Look}
use Rattle.xl_status.specs.declared.look.Look.TheVariants.{Taken, Unread, Refused}
use Rattle.xl_heartbeat.specs.declared.pulse.Pulse.{Pulse}
use Rattle.xl_heartbeat.specs.declared.rolls_text.RollsText.{RollsText}
use Rattle.xl_heartbeat.specs.declared.standing.Standing.{Standing}

-- before the first beat; the first look is due at once
abbrev pub standing_of : Pulse → Standing
standing_of pulse = record { set = pulse.list; publishing = pulse.publishing; due = pulse.timing.opened }

-- another list is set
abbrev pub with_set : Standing → TrustedList → Standing
with_set standing list = record { set = list; publishing = standing.publishing; due = standing.due }

-- what a look came to at a text of which this line was the first that was refused, if one was
abbrev pub look_of : Option RefusedLine → Look
look_of None = Taken
look_of (Some line) = Refused line.number (line_code_of line.cause)

-- The rolls of a text were taken, line by line, none of which may name another member than these, and the look came to
-- the first line that was refused; or the text couldn't be read, and nothing changed
abbrev pub Reads : List ℕ → Register → Look → Register → Type 0
Reads members old look new =
    ((look ≡ Unread) × (new ≡ old))
    ⊎ ((text : List ℕ)
    × (length text ≤ most_text)
    × (look ≡ look_of (first_refused members old.keys 1 (lines_of text)))
    × (new ≡ after_text members old text))

-- publishers after a look, and what it came to
abbrev pub Looks : RollsText → Option Publishing → Option Look → Option Publishing → Type 0
Looks rolls None look new = (look ≡ None) × (new ≡ None)
Looks rolls (Some old) (Some look) (Some new) =
    Reads rolls.members old.publishers look new.publishers × (new.threshold ≡ old.threshold)
Looks rolls (Some old) look new = ⊥

-- what a look may leave: without a text nothing changes
abbrev pub IsLook : Option RollsText → Option Publishing → Option Look → Option Publishing → Type 0
IsLook None old look new = (look ≡ None) × (new ≡ old)
IsLook (Some rolls) old look new = Looks rolls old look new

-- publishers to which looks led, one after the other
pub data IsLed (rolls : Option RollsText) (first : Option Publishing) : Option Publishing → Type 0 where
  begins : IsLed rolls first first
  looks : (mid last : Option Publishing) (look : Option Look) → IsLed rolls first mid → IsLook rolls mid look last
      → IsLed rolls first last

-- a look is due from its moment on, or if that lies further ahead than a minute
abbrev pub is_look_due : ℕ → ℕ → Bool
is_look_due due now = nat_le due now || nat_lt (now + 60000) due

-- at a moment a text is looked at if that is due, and the next look is due a minute later; else nothing changes
pub record LooksIfDue (rolls : RollsText) (now : ℕ) (old : Standing) (look : Option Look) (new : Standing) : Type 0 where
  pub set : new.set ≡ old.set
  pub looks : is_look_due old.due now ≡ true
      → Looks rolls old.publishing look new.publishing × (new.due ≡ now + 60000)
  pub waits : is_look_due old.due now ≡ false → (look ≡ None) × (new ≡ old)

-- without a text nothing changes
abbrev pub LooksAt : Option RollsText → ℕ → Standing → Option Look → Standing → Type 0
LooksAt None now old look new = (look ≡ None) × (new ≡ old)
LooksAt (Some rolls) now old look new = LooksIfDue rolls now old look new
