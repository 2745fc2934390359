-- A network of honest nodes and liars, and its runs. A drain of a core and the handing out of its reports are steps
-- like any other, and what a drain gives is what was sent. Whatever was ever sent may come never, once or often, at
-- any later place. Source: Chase and MacBrough, "Analysis of the XRP Ledger Consensus Protocol" (2018); restarts,
-- disks and queues by this profile.
use Rattle.std.specs.Prelude.{ℕ, All, IfSome, ◌==◌, Bool, false, List, [], ◌∷◌, ◌++◌, length, map, option_map, option_to_list, find, if◌then◌else◌}
use Rattle.std.specs.Prelude.{Some, None}
use Rattle.std.specs.declared.option.Option.{Option}
use Rattle.xl_io.specs.Keepers.{may_hold}
use Rattle.xl_lists.specs.Lists.{TrustedList}
use Rattle.xl_lists.specs.declared.said.SaidLedger.{SaidLedger}
use Rattle.xl_lists.specs.declared.report.Report.{Report as Reported}
use Rattle.xl_lists.specs.Agreement.{with_said}
use Rattle.xl_base.specs.Counts.{one_more}
use Rattle.xl_wire.specs.declared.validation.Validation.{Validation}
use Rattle.xl_wire.specs.Heads.{split_of}
use Rattle.xl_core.specs.declared.event.CoreEvent.{CoreEvent}
use Rattle.xl_core.specs.declared.event.CoreEvent.TheVariants.{Issue, Frame, Timer, Submit, Relist}
use Rattle.xl_core.specs.declared.report.Report.{Report}
use Rattle.xl_core.specs.Answers.{Answer, Refused, Done, Gave}
use Rattle.xl_core.specs.Core.{Core, CoreReply, core_reply, core_happens, core_asks, node_event, with_queues}
use Rattle.xl_core.specs.Lives.{IsFitEvent as IsFitForNode}
use Rattle.xl_core.specs.Node.{Node, opened_node, settings_of}
use Rattle.xl_world.specs.Sending.{Sent}
use Rattle.xl_world.specs.declared.plan.InForce.{InForce}
use Rattle.xl_world.specs.declared.place.Disk.{Disk}
use Rattle.xl_world.specs.declared.place.Place.{Place}
use Rattle.xl_world.specs.declared.place.Fate.{Fate}
use Rattle.xl_world.specs.Disk.{held_by, restored, answer_of, after_save}
use Rattle.xl_world.specs.Forgeries.{forges}

pub record World : Type 0 where
  pub liars : List ℕ
  -- all declared numbers, rising
  pub numbers : List ℕ
  pub places : List Place
  -- every frame that a drain ever gave
  pub sent : List Sent
  -- how many of them stand before the mark
  pub mark : ℕ
  -- every validation that a node ever issued
  pub said : List SaidLedger
  -- every report of a node, under the list that was in force
  pub reports : List Reported
  -- every list that was in force at a node, in order
  pub lists : List InForce
  -- how many sealed frames came that no liar signed and nobody had sent; the count ends at the greatest `u64`
  pub forged : ℕ
  -- whether an event ran out of memory: none happens from then on
  pub spent : Bool

-- What may happen next: something at a node, whose save meets some fate; a node is opened again at a moment; it stops
-- in the event's save, and is opened again with what that leaves; or the mark moves to the end of what was sent.
pub data Step : Type 0 where
  Act : (i : ℕ) (event : CoreEvent) (fate : Fate) → Step
  Again : (i now number : ℕ) → Step
  Torn : (i : ℕ) (event : CoreEvent) (number : ℕ) → Step
  Mark : Step

-- a list that is handed in is one
abbrev pub IsFitEvent : CoreEvent → Type 0
IsFitEvent e = IfSome (node_event e) IsFitForNode

abbrev pub IsFit : Step → Type 0
IsFit (Act i event fate) = IsFitEvent event
IsFit (Again i now number) = Unit {0}
IsFit (Torn i event number) = Unit {0}
IsFit Mark = Unit {0}

abbrev pub AreFit : List Step → Type 0
AreFit steps = All IsFit steps

abbrev pub said_by : ℕ → Validation → SaidLedger
said_by m v = record { member = m; seq = v.seq; id = v.id }

abbrev pub reported_by : Node → Report → Reported
reported_by n r = record { node = n.me; list = n.list; seq = r.seq; id = r.id }

-- the place of a number
abbrev pub place_at : ℕ → List Place → Option Place
place_at i places = find (λ p. p.core.node.me == i) places

-- the places with this one in place of the one of its number
abbrev pub put_place : Place → List Place → List Place
put_place p [] = []
put_place p (x ∷ xs) = if x.core.node.me == p.core.node.me then p ∷ xs else x ∷ put_place p xs

-- the frames that an answer gives, from this number
abbrev pub sent_in : ℕ → Answer → List Sent
sent_in from (Gave to frames) = map (λ bytes. record { from = from; to = to; bytes = bytes }) frames
sent_in from other = []

-- whether what comes to a node is forged
abbrev pub is_forged : World → Node → CoreEvent → Bool
is_forged w n (Frame now bytes) = forges w.liars w.sent n.keys bytes (split_of bytes)
is_forged w n other = false

-- the list that comes into force at the node of a number, unless the answer refuses it
abbrev pub list_set : ℕ → TrustedList → Answer → Option InForce
list_set i list (Refused why) = None
list_set i list other = Some (record { node = i; list = list })

-- the list that an event with this answer sets
abbrev pub set_by : ℕ → CoreEvent → Answer → Option InForce
set_by i (Relist now list) a = list_set i list a
set_by i other a = None

-- the world after what came of an event at a node, and the list that it set, with its disk then
abbrev pub settled_world : World → ℕ → Bool → Option InForce → CoreReply → Disk → World
settled_world w i forged set r disk = record w {
  places = put_place (record { core = r.core; disk = disk }) w.places;
  sent = w.sent ++ sent_in r.core.node.me r.answer;
  said = with_said w.said (option_map (said_by i) r.issued);
  reports = w.reports ++ option_to_list (option_map (reported_by r.core.node) r.report);
  lists = w.lists ++ option_to_list set;
  forged = if forged then one_more w.forged else w.forged;
}

-- what came of an event at a place, whose save meets this fate
abbrev pub reply_at : Place → CoreEvent → Fate → CoreReply
reply_at p event fate = core_happens p.core event (answer_of p.disk fate)

-- its disk then
abbrev pub disk_after : Place → CoreEvent → Fate → Disk
disk_after p event fate = after_save p.disk (core_asks p.core event) fate

abbrev pub acts : World → ℕ → CoreEvent → Fate → Option Place → World
acts w i event fate None = w
acts w i event fate (Some p) =
    let r = reply_at p event fate in
    settled_world w i (is_forged w p.core.node event) (set_by p.core.node.me event r.answer) r (disk_after p event fate)

-- the core of a place opened again with this number
abbrev pub core_again : Place → ℕ → ℕ → Core
core_again p now number = with_queues (opened_node (settings_of p.core.node) now number)

-- its disk then holds that number alone; a core that is opened says and reports nothing
abbrev pub reopened_world : World → ℕ → Place → ℕ → ℕ → World
reopened_world w i p now number = settled_world w i false None (core_reply (core_again p now number) Done) (restored p.disk number)

abbrev pub again : World → ℕ → ℕ → ℕ → Option Place → World
again w i now number None = w
again w i now number (Some p) = if may_hold (held_by p.disk) number then reopened_world w i p now number else w

-- only an event that asks a save can be torn
abbrev pub torn_world : World → ℕ → ℕ → ℕ → Option Place → Option ℕ → World
torn_world w i now number None asked = w
torn_world w i now number (Some p) None = w
torn_world w i now number (Some p) (Some s) =
    again w i now number (Some (record { core = p.core; disk = record p.disk { asked = Some s } }))

-- the moment of an event that has one
abbrev pub moment_in : CoreEvent → ℕ
moment_in (Issue now seq id full) = now
moment_in (Frame now bytes) = now
moment_in (Timer now) = now
moment_in (Submit now tx) = now
moment_in (Relist now list) = now
moment_in other = 0

abbrev pub asked_at : Option Place → CoreEvent → Option ℕ
asked_at None event = None
asked_at (Some p) event = core_asks p.core event

-- all that was sent stands before the mark
abbrev pub marked_world : World → World
marked_world w = record w { mark = length w.sent }

abbrev pub step : World → Step → World
step w (Act i event fate) = acts w i event fate (place_at i w.places)
step w (Again i now number) = again w i now number (place_at i w.places)
step w (Torn i event number) =
    torn_world w i (moment_in event) number (place_at i w.places) (asked_at (place_at i w.places) event)
step w Mark = marked_world w

abbrev pub run : World → List Step → World
run w [] = w
run w (s ∷ ss) = run (step w s) ss

-- the list in force at a node of the world
abbrev pub list_in : World → ℕ → Option TrustedList
list_in w i = option_map (λ p. p.core.node.list) (place_at i w.places)

-- the core of a node of the world
abbrev pub core_in : World → ℕ → Option Core
core_in w i = option_map (λ p. p.core) (place_at i w.places)
