-- What a worker at a door does, round by round: it asks whether the node is to stop, and then a line comes or none does.
-- Source: this project's own.
use Rattle.std.specs.Prelude.{◌≡◌, ℕ, ◌<◌, ◌≤◌, ◌==◌, Bool, true, false, List, [], ◌∷◌, length, None, Some, IsSome, if◌then◌else◌}
use mathlib.Core.List.{IsPrefix}
use Rattle.xl_base.specs.Counts.{one_more}
use Rattle.xl_base.specs.declared.ids.TxId.{TxId}
use Rattle.xl_core.specs.declared.event.CoreEvent.TheVariants.{Stopped, Submit}
use Rattle.xl_core.specs.Answers.{Answer, Done, Told}
use Rattle.xl_core.specs.Answers as answer
use Rattle.xl_store.specs.Calls.{Call}
use Rattle.xl_door.specs.declared.replies.Reply.{Reply}
use Rattle.xl_door.specs.declared.replies.Reply.TheVariants as reply
use Rattle.xl_door.specs.Replies.{id_of, longest_line, text_of}

-- no line came; or this one did, these calls were made for it, it was answered so, and the client took so much of the
-- answer
pub data Round : Type 0 where
  Quiet : Round
  Heard : (line : List ℕ) → (calls : List Call) → Reply → (taken : List ℕ) → Round

-- the store was asked whether the node is to stop, and said so or not
abbrev pub asked : Bool → Call
asked stops = record { event = Stopped; answer = Told stops }

-- the line is an id, which was submitted once, at a moment that the clock may give, and answered so
abbrev pub IsSubmitted : (ℕ → Bool) → List ℕ → List Call → Answer → Type 0
IsSubmitted may_give line calls answered =
    (now : ℕ)
    × (id : TxId)
    × (may_give now ≡ true)
    × (id_of line ≡ Some id)
    × (calls ≡ record { event = Submit now id; answer = answered } ∷ [])

-- a line is answered by what the core said of its id, or nothing was called for it
abbrev pub IsReply : (ℕ → Bool) → List ℕ → List Call → Reply → Type 0
IsReply may_give line calls reply.Taken = IsSubmitted may_give line calls Done
IsReply may_give line calls (reply.Refused why) = IsSubmitted may_give line calls (answer.Refused why)
IsReply may_give line calls reply.NoId = (id_of line ≡ None) × (length line ≤ longest_line) × (calls ≡ [])
IsReply may_give line calls reply.TooLong = (longest_line < length line) × (calls ≡ [])
IsReply may_give line calls reply.NoTurn = IsSome (id_of line) × (calls ≡ [])

-- and the client took a front of that
abbrev pub IsRound : (ℕ → Bool) → Round → Type 0
IsRound may_give Quiet = Unit {0}
IsRound may_give (Heard line calls reply taken) = IsReply may_give line calls reply × IsPrefix taken (text_of reply)

-- what it called once it knew that the node isn't to stop
abbrev pub said_in : Round → List Call
said_in Quiet = []
said_in (Heard line calls reply taken) = calls

abbrev pub calls_in : Round → List Call
calls_in round = asked false ∷ said_in round

abbrev pub lines_in : Round → List (List ℕ)
lines_in Quiet = []
lines_in (Heard line calls reply taken) = line ∷ []

abbrev pub taken_in : Round → List ℕ
taken_in Quiet = []
taken_in (Heard line calls reply taken) = taken

-- the least that the door's count of faults is behind a round: one more unless the client took the whole answer
abbrev pub counted_in : ℕ → Round → ℕ
counted_in faults Quiet = faults
counted_in faults (Heard line calls reply taken) =
    if length taken == length (text_of reply) then faults else one_more faults
