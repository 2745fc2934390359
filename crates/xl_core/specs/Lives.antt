-- A node's life: what happened since it opened, and what it reported. Source: the paper's fully validated ledgers; that a
-- list may change while a node runs is this profile's.
use Rattle.std.specs.Prelude.{◌≡◌, ℕ, ◌<◌, ◌≤◌, ◌↔◌, ◌||◌, ◌⊎◌, Bool, true, false, List, [], ◌∷◌, ◌++◌, map, option_to_list, All}
use Rattle.std.specs.Prelude.{Some, None}
use Rattle.std.specs.declared.option.Option.{Option}
use Rattle.std.specs.Option.{is_none}
use Rattle.std.specs.List.Sorted.{IsStrictlyIncreasing}
use Rattle.xl_lists.specs.Lists.{IsValid}
use Rattle.xl_validations.specs.Rows.{count_full}
use Rattle.xl_core.specs.declared.report.Report.{Report}
use Rattle.xl_core.specs.declared.settings.Settings.{Settings}
use Rattle.xl_core.specs.Node.{Node, Event, Relist, Save, opened_node, happens, key_refusal}

-- an event, and how its save was answered
pub record Happening : Type 0 where
  pub event : Event
  pub save : Save

-- a list that is handed in is one
abbrev pub IsFitEvent : Event → Type 0
IsFitEvent (Relist now list) = IsValid list
IsFitEvent other = Unit {0}

abbrev pub IsFit : Happening → Type 0
IsFit h = IsFitEvent h.event

-- whether an event sets the list
abbrev pub sets_list : Node → Event → Bool
sets_list n (Relist now list) = is_none (key_refusal n list)
sets_list n other = false

-- the node after these happenings, the first of them first
abbrev pub node_after : Node → List Happening → Node
node_after n [] = n
node_after n (h ∷ hs) = node_after (happens n h.event h.save).node hs

-- no list is set in them: one that is refused changes nothing
abbrev pub SetNoList : Node → List Happening → Type 0
SetNoList n [] = Unit {0}
SetNoList n (h ∷ hs) = (sets_list n h.event ≡ false) × SetNoList (happens n h.event h.save).node hs

-- what it reported in them
abbrev pub reports_in : Node → List Happening → List Report
reports_in n [] = []
reports_in n (h ∷ hs) =
    option_to_list (happens n h.event h.save).report ++ reports_in (happens n h.event h.save).node hs

-- the last of these reports, or what was the last before
abbrev pub last_of : Option Report → List Report → Option Report
last_of before [] = before
last_of before (r ∷ rs) = last_of (Some r) rs

-- whether the list was set after the last report, once an event has set it or not, and has reported this or nothing
abbrev pub set_then : Bool → Bool → Option Report → Bool
set_then set sets None = set || sets
set_then set sets (Some r) = false

-- so after these happenings
abbrev pub set_after : Node → Bool → List Happening → Bool
set_after n set [] = set
set_after n set (h ∷ hs) =
    let reply = happens n h.event h.save in
    set_after reply.node (set_then set (sets_list n h.event) reply.report) hs

-- There was no report, or this one's sequence is above the last one's, or the list was set after the last report and this
-- isn't that.
abbrev pub IsNew : Option Report → Bool → Report → Type 0
IsNew None set r = Unit {0}
IsNew (Some last) set r = (last.seq < r.seq) ⊎ ((set ≡ true) × ¬ (last ≡ r))

-- A report arises exactly in the event after which a quorum of the list in force names it in current full validations,
-- where it is new in the node's life. The event itself may have set the list.
abbrev pub ReportsArise : Type 0
ReportsArise =
    (settings : Settings) (now kept : ℕ) (life : List Happening) (next : Happening) (r : Report) →
    IsValid settings.list → All IsFit life → IsFit next →
    let first = opened_node settings now kept in
    let n = node_after first life in
    let reply = happens n next.event next.save in
    let last = last_of None (reports_in first life) in
    let set = set_after first false life || sets_list n next.event in
    (reply.report ≡ Some r) ↔
    ((reply.node.list.quorum ≤ count_full r.seq r.id reply.node.rows) × IsNew last set r)

-- The sequences of reports rise between two changes of the list; what arises in a change belongs to the new list.
abbrev pub ReportsRise : Type 0
ReportsRise =
    (settings : Settings) (now kept : ℕ) (life : List Happening) (first : Happening) (more : List Happening) →
    let n = node_after (opened_node settings now kept) life in
    SetNoList (happens n first.event first.save).node more →
    IsStrictlyIncreasing (map (λ r. r.seq) (reports_in n (first ∷ more)))
