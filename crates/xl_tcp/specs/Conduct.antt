-- How a peer's frames are judged by whoever knows no key, and what of them may be given on. Source: this project's own:
-- a peer shows one frame until that is judged, pays for each frame and for its bytes, and a member's greeting, whose
-- headers go on from 1, has an allowance of its own.
use Rattle.std.specs.Prelude.{ℕ, ◌+◌, ◌-◌, ◌^◌, ◌==◌, ◌&&◌, ◌||◌, min, nat_le, nat_lt, Bool, true, false, List, length, take, Option, Some, None, if◌then◌else◌}
use Rattle.std.specs.Int.{from_be_bytes, w32}
use Rattle.xl_wire.specs.Kinds.{span}
use Rattle.xl_wire.specs.Raws.{RawFrame}
use Rattle.xl_links.specs.declared.link.Judgement.{Judgement}
use Rattle.xl_links.specs.declared.link.Judgement.TheVariants as judged
use Rattle.xl_tcp.specs.declared.allowance.Allowance.{Allowance}
use Rattle.xl_tcp.specs.declared.conduct.Manner.{Manner}
use Rattle.xl_tcp.specs.declared.conduct.Manner.TheVariants.{New, Shown, Unlisted, Member, Forger}
use Rattle.xl_tcp.specs.declared.conduct.Payment.{Payment}
use Rattle.xl_tcp.specs.declared.conduct.Payment.TheVariants.{Free, Greeting, Frame, Lacking}
use Rattle.xl_tcp.specs.declared.conduct.Conduct.{Conduct}
use Rattle.xl_tcp.specs.Allowances.{left_at, after_cost}
use Rattle.xl_tcp.specs.Numbers.{each_frame, each_header, frames_at_once, frames_each_milli, headers_at_once, headers_each_milli, longest_silence, longest_silence_at_first, patience, patience_at_first, patience_with_greeting, patience_with_known}

-- a whole allowance, at its first moment
abbrev pub full_at : ℕ → ℕ → ℕ → Allowance
full_at most each_milli now = record { most = most; each_milli = each_milli; left = most; at = now }

-- a link's members may greet with 262,144 headers, and with 300 more in each second
abbrev pub greetings_at : ℕ → Allowance
greetings_at now = full_at headers_at_once headers_each_milli now

-- of a peer whose connection begins: it has shown nothing
abbrev pub begun_at : Allowance → ℕ → Conduct
begun_at greetings now = record {
  manner = New;
  latest = now;
  told = now;
  fresh = now;
  has_told = false;
  has_greeted = false;
  greets = false;
  next_header = 1;
  greetings = greetings;
  frames = full_at frames_at_once frames_each_milli now;
}

-- the sequence of the header that a frame tells, if it tells one
abbrev pub header_in : RawFrame → Option ℕ
header_in frame = if frame.kind == 3 && nat_le 4 (length frame.body) then Some (from_be_bytes w32 (take 4 frame.body)) else None

abbrev pub is_number : Option ℕ → ℕ → Bool
is_number None wanted = false
is_number (Some n) wanted = n == wanted

-- it is the header with which a greeting goes on
abbrev pub goes_on : Conduct → RawFrame → Bool
goes_on peer frame = is_number (header_in frame) peer.next_header

-- it is that header, and so much is left
abbrev pub may_greet : Conduct → RawFrame → ℕ → Bool
may_greet peer frame now = goes_on peer frame && nat_le each_header (left_at peer.greetings now)

-- what any other frame costs
abbrev pub cost_of : RawFrame → ℕ
cost_of frame = min (each_frame + span frame.body) (2 ^ 64 - 1)

abbrev pub may_pay : Conduct → RawFrame → ℕ → Bool
may_pay peer frame now = nat_le (cost_of frame) (left_at peer.frames now)

-- the first frame is free; none follows it before it is judged, nor one that was forged
abbrev pub payment_as : Manner → Bool → Bool → Payment
payment_as New greets pays = Free
payment_as Shown greets pays = Lacking
payment_as Unlisted greets pays = if pays then Frame else Lacking
payment_as Member greets pays = if greets then Greeting else if pays then Frame else Lacking
payment_as Forger greets pays = Lacking

abbrev pub payment_of : Conduct → RawFrame → ℕ → Payment
payment_of peer frame now = payment_as peer.manner (may_greet peer frame now) (may_pay peer frame now)

abbrev pub is_paid : Payment → Bool
is_paid Free = true
is_paid Greeting = true
is_paid Frame = true
is_paid Lacking = false

-- it may be given on
abbrev pub may_give : Conduct → RawFrame → ℕ → Bool
may_give peer frame now = is_paid (payment_of peer frame now)

abbrev pub after_payment : Payment → Conduct → RawFrame → ℕ → Conduct
after_payment Free peer frame now = peer
after_payment Greeting peer frame now = record peer { greetings = after_cost each_header peer.greetings now }
after_payment Frame peer frame now = record peer { frames = after_cost (cost_of frame) peer.frames now }
after_payment Lacking peer frame now = peer

abbrev pub after_first : Manner → Manner
after_first New = Shown
after_first other = other

abbrev pub told_first : Manner → ℕ → ℕ → ℕ
told_first New told now = now
told_first other told now = told

abbrev pub after_given : Conduct → RawFrame → ℕ → Conduct
after_given peer frame now = record peer {
  manner = after_first peer.manner;
  latest = now;
  told = told_first peer.manner peer.told now;
  greets = goes_on peer frame;
  next_header = if goes_on peer frame then min (peer.next_header + 1) (2 ^ 32 - 1) else peer.next_header;
}

-- one that is given is paid for and noted; one that is held back changes nothing
abbrev pub after_frame : Conduct → RawFrame → ℕ → Conduct
after_frame peer frame now =
    if may_give peer frame now then after_payment (payment_of peer frame now) (after_given peer frame now) frame now
    else peer

abbrev pub manner_by : Judgement → Manner
manner_by judged.Fresh = Member
manner_by judged.Known = Member
manner_by judged.Unlisted = Unlisted
manner_by judged.Forged = Forger

-- a header with which its greeting goes on comes in time: within 20 seconds, or two if it told nothing before
abbrev pub is_in_time : Conduct → ℕ → Bool
is_in_time peer now = nat_lt (now - peer.told) (if peer.has_told then patience else patience_at_first)

-- what is fresh tells something, and so does a known header of a greeting that goes on in time
abbrev pub after_judgement : Conduct → Judgement → ℕ → Conduct
after_judgement peer judged.Fresh now = record peer { manner = Member; told = now; fresh = now; has_told = true }
after_judgement peer judged.Known now = record peer {
  manner = Member;
  told = if peer.greets && is_in_time peer now then now else peer.told;
  has_greeted = peer.greets || peer.has_greeted;
}
after_judgement peer judged.Unlisted now = record peer { manner = Unlisted }
after_judgement peer judged.Forged now = record peer { manner = Forger }

-- no whole frame for a minute, and for five before the first one
abbrev pub silence_of : Manner → ℕ
silence_of New = longest_silence_at_first
silence_of other = longest_silence

abbrev pub is_silent : Conduct → ℕ → Bool
is_silent peer now = nat_le (silence_of peer.manner) (now - peer.latest)

-- how long it may tell nothing more: 20 seconds, five behind a greeting that is known, or two if it told nothing at all
abbrev pub patience_of : Conduct → ℕ
patience_of peer =
    if peer.has_told then patience else if peer.has_greeted then patience_with_greeting else patience_at_first

-- nothing told for so long; or known frames alone for five minutes
abbrev pub is_over : Conduct → ℕ → Bool
is_over peer now =
    nat_le (patience_of peer) (now - peer.told)
    || nat_le patience_with_known (now - peer.fresh)
