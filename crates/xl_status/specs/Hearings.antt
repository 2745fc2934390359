-- When members were last heard, as statuses tell. Source: this project's own.
use Rattle.std.specs.Prelude.{ℕ, ◌-◌, Bool, false, map, replicate, get_or, if◌then◌else◌}
use Rattle.std.specs.List.{range_with_len}
use Rattle.xl_store.specs.declared.status.NodeStatus.{NodeStatus}
use Rattle.xl_status.specs.declared.hearing.Hearing.{Hearing}

-- before the first status
abbrev pub unheard_since : ℕ → Hearing
unheard_since moment = record { at = replicate 64 moment }

-- whether a member is heard, as a status tells
abbrev pub is_heard_in : NodeStatus → ℕ → Bool
is_heard_in status member = get_or status.heard (member - 1) false

-- when a member was last heard
abbrev pub heard_at : Hearing → ℕ → ℕ
heard_at hearing member = get_or hearing.at (member - 1) 0

abbrev pub last_heard : Bool → ℕ → ℕ → ℕ
last_heard heard now before = if heard then now else before

-- who is heard by a status was last heard at its moment
abbrev pub last_heard_at : Hearing → NodeStatus → ℕ → ℕ
last_heard_at hearing status place =
    last_heard (get_or status.heard place false) status.time (get_or hearing.at place 0)

abbrev pub after_status : Hearing → NodeStatus → Hearing
after_status hearing status = record { at = map (last_heard_at hearing status) (range_with_len 0 64) }
