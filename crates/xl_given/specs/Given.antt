-- Which heard frames were given by their senders, by what journals show, in the order in which they were read. Source:
-- this project's own.
use Rattle.std.specs.Prelude.{ℕ, ◌==◌, ◌&&◌, Bool, List, [], ◌∷◌, count_by, find, is_some, None, if◌then◌else◌}
use Rattle.std.specs.declared.option.Option.{Option}
use Rattle.std.specs.Option.{option_or}
use Rattle.std.specs.Str.{bytes_eq}

-- in an entry of a journal stands a frame of this member
pub record Noted : Type 0 where
  pub member : ℕ
  pub journal : ℕ
  pub entry : ℕ
  pub frame : List ℕ

-- whether it is this frame of this member
abbrev pub is_frame_of : ℕ → List ℕ → Noted → Bool
is_frame_of m frame x = x.member == m && bytes_eq x.frame frame

-- the first entry in which the member gave it
abbrev pub giver_of : List Noted → ℕ → List ℕ → Option Noted
giver_of given m frame = find (is_frame_of m frame) given

-- whether a heard frame was given by its sender
abbrev pub is_given : List Noted → Noted → Bool
is_given given x = is_some (giver_of given x.member x.frame)

-- how many of the heard frames were
abbrev pub count_given : List Noted → List Noted → ℕ
count_given given heard = count_by (is_given given) heard

-- the first entry that gave this heard frame, if it was heard in entry e of journal k
abbrev pub giver_if_at : List Noted → ℕ → ℕ → Noted → Option Noted
giver_if_at given k e x = if x.journal == k && x.entry == e then giver_of given x.member x.frame else None

-- the first that gave what was heard there
abbrev pub giver_at : List Noted → List Noted → ℕ → ℕ → Option Noted
giver_at given [] k e = None
giver_at given (x ∷ xs) k e = option_or (giver_if_at given k e x) (giver_at given xs k e)
