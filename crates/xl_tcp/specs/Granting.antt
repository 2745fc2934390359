-- How much of what a peer has sent may be given on. Source: this project's own: the first whole frames, as far as each may
-- be given; and all of what begins no frame, since that ends the session.
use Rattle.std.specs.Prelude.{ℕ, zero, suc, ◌+◌, List, length, drop, if◌then◌else◌}
use Rattle.xl_wire.specs.Heads.{Split, split_of}
use Rattle.xl_wire.specs.Kinds.{span}
use Rattle.xl_wire.specs.Raws.{RawFrame}
use Rattle.xl_tcp.specs.declared.conduct.Conduct.{Conduct}
use Rattle.xl_tcp.specs.Conduct.{may_give, after_frame}

-- how many bytes, and the peer behind them
pub record Granted : Type 0 where
  pub count : ℕ
  pub peer : Conduct

abbrev pub none_granted : Conduct → Granted
none_granted peer = record { count = 0; peer = peer }

abbrev pub with_more : ℕ → Granted → Granted
with_more count more = record { count = count + more.count; peer = more.peer }

-- of a whole frame, if it may be given, it and what is granted behind it
abbrev pub granted_by : Split → ℕ → Conduct → ℕ → (RawFrame → Granted) → Granted
granted_by (Split.Whole frame) all peer now behind = if may_give peer frame now then behind frame else none_granted peer
granted_by (Split.Need lack) all peer now behind = none_granted peer
granted_by (Split.Refused refusal) all peer now behind = record { count = all; peer = peer }

-- at most so many frames
abbrev pub granted_of : ℕ → Conduct → List ℕ → ℕ → Granted
granted_of zero peer bytes now = none_granted peer
granted_of (suc n) peer bytes now =
    granted_by (split_of bytes) (length bytes) peer now
    (λ frame. with_more (span frame.body) (granted_of n (after_frame peer frame now) (drop (span frame.body) bytes) now))
