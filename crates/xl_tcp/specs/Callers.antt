-- How those who have called stand, who of them is served, and who may wait on. Source: this project's own, so that
-- nobody who shows no frame keeps a member out that does.
use Rattle.std.specs.Prelude.{ℕ, ◌==◌, Bool, true, false, nat_le, nat_lt, List, take, position, Option, Result, Ok, Err, if◌then◌else◌}
use Rattle.std.specs.Option.{option_or}
use Rattle.std.specs.IoError.{error_kind}
use Rattle.std.specs.declared.io.Error.{Error}
use Rattle.xl_wire.specs.Heads.{Split, split_of}
use Rattle.xl_tcp.specs.Answers.{is_late}
use Rattle.xl_tcp.specs.Numbers.{patience_when_shown, patience_with_caller, patience_with_quiet}
use Rattle.xl_tcp.specs.declared.callers.Standing.{Standing}
use Rattle.xl_tcp.specs.declared.callers.Standing.TheVariants.{Gone, Quiet, Begun, Shown}
use Rattle.xl_tcp.specs.declared.callers.Seen.{Seen}

-- by what it has sent
abbrev pub standing_in : Split → Standing
standing_in (Split.Refused refusal) = Gone
standing_in (Split.Need lack) = Begun
standing_in (Split.Whole frame) = Shown

-- by how many bytes can be seen, and which
abbrev pub standing_by : Result ℕ Error → List ℕ → Standing
standing_by (Ok count) front = if count == 0 then Gone else standing_in (split_of (take count front))
standing_by (Err error) front = if is_late (error_kind error) then Quiet else Gone

-- ---- who is served, and who makes room

-- it has sent a whole frame
abbrev pub shows_frame : Standing → Bool
shows_frame Shown = true
shows_frame other = false

abbrev pub has_shown : Seen → Bool
has_shown seen = shows_frame seen.standing

-- it has sent nothing
abbrev pub says_nothing : Standing → Bool
says_nothing Quiet = true
says_nothing other = false

abbrev pub is_quiet : Seen → Bool
is_quiet seen = says_nothing seen.standing

-- it is gone, or has sent a part of a frame
abbrev pub shows_less : Standing → Bool
shows_less Gone = true
shows_less Begun = true
shows_less other = false

abbrev pub makes_room : Seen → Bool
makes_room seen = shows_less seen.standing

-- the first that has shown a frame is served; if none has, the first that is quiet, since a member may have nothing to
-- say
abbrev pub served_at : List Seen → Option ℕ
served_at seen = option_or (position has_shown seen) (position is_quiet seen)

-- the first that shows less makes room for another; if none does, the first that is quiet; and none that has shown a
-- frame
abbrev pub room_at : List Seen → Option ℕ
room_at seen = option_or (position makes_room seen) (position is_quiet seen)

-- ---- for how long

-- a peer that tells nothing makes room for it, after so many milliseconds
abbrev pub is_due_by : Standing → ℕ → Bool
is_due_by Gone waited = false
is_due_by Quiet waited = nat_le patience_with_quiet waited
is_due_by Begun waited = false
is_due_by Shown waited = true

abbrev pub is_due : Seen → Bool
is_due seen = is_due_by seen.standing seen.waited

-- it may wait on, after so many milliseconds
abbrev pub may_stay_by : Standing → ℕ → Bool
may_stay_by Gone waited = false
may_stay_by Quiet waited = nat_lt waited patience_with_caller
may_stay_by Begun waited = nat_lt waited patience_with_caller
may_stay_by Shown waited = nat_lt waited patience_when_shown

abbrev pub may_stay : Seen → Bool
may_stay seen = may_stay_by seen.standing seen.waited
