-- What waits at a node: items for each number, and reports.
-- Source: this profile, by which a full queue drops its oldest item.
use Rattle.std.specs.Prelude.{ℕ, ◌-◌, List, [], ◌∷◌, zero, suc, length, filter_map, take, drop, count_by, nat_le, replicate, if◌then◌else◌}
use Rattle.std.specs.Prelude.{Some, None}
use Rattle.std.specs.declared.option.Option.{Option}
use Rattle.std.specs.List.{flat_map}
use Rattle.std.specs.Option.{is_none}
use Rattle.xl_queues.specs.Broadcasts.{queue_of, at_reader, pushed_to_all}
use Rattle.xl_base.specs.Counts.{one_more}
use Rattle.xl_base.specs.Members.{most_members}
use Rattle.xl_queues.specs.Queues.{Backlog, no_items, with_item}
use Rattle.xl_core.specs.declared.item.Item.{Item}
use Rattle.xl_core.specs.declared.report.Report.{Report}

-- nothing waits for the numbers from 1 to 64
abbrev pub none_waiting : List (Backlog Item)
none_waiting = replicate most_members no_items

-- so many items wait for a number at most, and so many reports to be taken. Source: this profile
abbrev pub most_waiting : ℕ
most_waiting = 64

abbrev pub most_untaken : ℕ
most_untaken = 1024

-- items wait for every number, in this order
abbrev pub with_items : List (Backlog Item) → List Item → List (Backlog Item)
with_items waiting [] = waiting
with_items waiting (item ∷ items) = with_items (pushed_to_all most_waiting waiting item) items

-- what waits for a number; nothing does for one outside 1 to 64
abbrev pub waiting_at : List (Backlog Item) → ℕ → Backlog Item
waiting_at waiting zero = no_items
waiting_at waiting (suc place) = queue_of waiting place

-- how many of the oldest items a room takes: their frames go into it one behind the other, and what is passed over
-- needs no place
abbrev pub count_fitting : List (Option (List ℕ)) → ℕ → ℕ
count_fitting [] room = 0
count_fitting (None ∷ frames) room = suc (count_fitting frames room)
count_fitting (Some frame ∷ frames) room =
    if nat_le (length frame) room then suc (count_fitting frames (room - length frame)) else 0

-- the longest front of these frames that fits into a room
abbrev pub that_fit : List (Option (List ℕ)) → ℕ → List (Option (List ℕ))
that_fit frames room = take (count_fitting frames room) frames

-- the frames of these items
abbrev pub frames_in : List (Option (List ℕ)) → List (List ℕ)
frames_in frames = filter_map (λ frame. frame) frames

-- one behind the other
abbrev pub stream_of : List (List ℕ) → List ℕ
stream_of frames = flat_map (λ frame. frame) frames

-- the count once this many more were lost
abbrev pub lost_more : ℕ → ℕ → ℕ
lost_more zero lost = lost
lost_more (suc n) lost = one_more (lost_more n lost)

-- a queue after its oldest items, of these frames, were taken or passed over; what is passed over is counted as lost
abbrev pub after_taking : List (Option (List ℕ)) → Backlog Item → Backlog Item
after_taking frames q = record {
  items = drop (length frames) q.items;
  lost = lost_more (count_by is_none frames) q.lost;
}

-- what waits, with the queue of a number changed
abbrev pub at_number : List (Backlog Item) → ℕ → (Backlog Item → Backlog Item) → List (Backlog Item)
at_number waiting zero change = waiting
at_number waiting (suc place) change = at_reader waiting place change

-- a report waits to be taken
abbrev pub with_report : Backlog Report → Option Report → Backlog Report
with_report untaken None = untaken
with_report untaken (Some report) = with_item most_untaken untaken report

-- the first items have been taken
abbrev pub without : {T : Type 0} → ℕ → Backlog T → Backlog T
without n queue = record { items = drop n queue.items; lost = queue.lost }
