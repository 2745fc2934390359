-- What an event of a schedule is in a world, and what is told of it. Source: this project's schedule language.
use Rattle.std.specs.Prelude.{ℕ, zero, suc, ◌==◌, Bool, List, [], ◌∷◌, ◌++◌, drop, map, slice_get, option_map, option_to_list, if◌then◌else◌}
use Rattle.std.specs.Prelude.{Some, None}
use Rattle.std.specs.declared.option.Option.{Option}
use Rattle.xl_sched.specs.declared.event.Ask.{Ask}
use Rattle.xl_sched.specs.declared.event.Ask.TheVariants as ask
use Rattle.xl_sched.specs.declared.event.Event.{Event}
use Rattle.xl_sched.specs.declared.event.Lied.{Lied}
use Rattle.xl_sched.specs.declared.event.Lied.TheVariants as lied
use Rattle.xl_sched.specs.declared.event.What.{What}
use Rattle.xl_sched.specs.declared.event.What.TheVariants as what
use Rattle.xl_sched.specs.Fits.{IsFitLied}
use Rattle.xl_lists.specs.Lists.{IsValid}
use Rattle.xl_tags.specs.Rings.{schedule_ring}
use Rattle.xl_validations.specs.Rows.{heard_of}
use Rattle.xl_ledger.specs.declared.refusal.AddRefusal.TheVariants.{Full as RegistryFull}
use Rattle.xl_core.specs.Answers.{Answer}
use Rattle.xl_core.specs.Answers as answer
use Rattle.xl_core.specs.declared.timer_answer.TimerAnswer.{TimerAnswer}
use Rattle.xl_core.specs.declared.timer_answer.TimerAnswer.TheVariants as timer_answer
use Rattle.xl_core.specs.declared.timer_answer.Issued.{Issued}
use Rattle.xl_core.specs.declared.timer_answer.Issued.TheVariants as issued
use Rattle.xl_core.specs.declared.refusal.Refusal.TheVariants.{Header as HeaderRefused}
use Rattle.xl_core.specs.Core.{Core, CoreReply, core_asks}
use Rattle.xl_core.specs.Node.{preferred}
use Rattle.xl_core.specs.declared.event.CoreEvent.{CoreEvent}
use Rattle.xl_core.specs.declared.event.CoreEvent.TheVariants.{Issue, Frame, Timer, Submit, Greet, Relist}
use Rattle.xl_core.specs.Sending.{sealed_bytes}
use Rattle.xl_ledger.specs.Headers.{spelling}
use Rattle.xl_wire.specs.declared.body.Body.{Body}
use Rattle.xl_wire.specs.declared.body.Body.TheVariants as bodies
use Rattle.xl_world.specs.declared.outcome.Outcome.{Outcome}
use Rattle.xl_world.specs.declared.outcome.Outcome.TheVariants.{Switched, Built, Refused, Full, Preferred, Heard}
use Rattle.xl_world.specs.declared.place.Fate.{Fate}
use Rattle.xl_world.specs.declared.place.Fate.TheVariants.{Saved, Unwritten, Written}
use Rattle.xl_world.specs.declared.place.Place.{Place}
use Rattle.xl_world.specs.Disk.{found, left_by}
use Rattle.xl_world.specs.Sending.{Sent}
use Rattle.xl_world.specs.World.{World, Step, Act, Again, Torn, Mark, place_at, reply_at, step, run}
use Rattle.xl_world.specs.Emptying.{event_steps}

-- a frame is delivered
abbrev pub delivery : World → ℕ → Sent → List Step
delivery w at f = event_steps w f.to (Frame at f.bytes) Saved

-- one after the other
abbrev pub deliveries : World → ℕ → List Sent → List Step
deliveries w at [] = []
deliveries w at (f ∷ fs) = delivery w at f ++ deliveries (run w (delivery w at f)) at fs

-- a frame, if there is one
abbrev pub delivery_of : World → ℕ → Option Sent → List Step
delivery_of w at None = []
delivery_of w at (Some f) = delivery w at f

-- the sent frame of a place, from 1 on
abbrev pub frame_at : List Sent → ℕ → Option Sent
frame_at sent zero = None
frame_at sent (suc k) = slice_get sent k

-- a node is opened anew with the number that its disk holds
abbrev pub restart : ℕ → Place → Step
restart at p = Again p.core.node.me at (found p.disk)

-- the body in which a liar says it
abbrev pub lied_body : Lied → Body
lied_body (lied.Proposal p) = bodies.Proposal p
lied_body (lied.Validation v) = bodies.Validation v
lied_body (lied.Header name h) = bodies.Header (spelling h)
lied_body (lied.TxSet ids) = bodies.TxSet ids
lied_body (lied.Tx tx) = bodies.Tx tx

-- the frame of a lie, sealed as its sender seals
abbrev pub lied_bytes : ℕ → ℕ → Lied → List ℕ
lied_bytes from to lie = sealed_bytes (schedule_ring from) from to (lied_body lie)

-- what a liar says is fit to be said: a set is one; and a list is one
abbrev pub IsPlausible : What → Type 0
IsPlausible (what.Lie from to lie) = IsFitLied lie
IsPlausible (what.List node list) = IsValid list
IsPlausible happening = Unit {0}

-- the node that is asked
abbrev pub node_asked : Ask → ℕ
node_asked (ask.Issue node seq id full) = node
node_asked (ask.Timer node) = node

-- and what it is asked to do, at a moment
abbrev pub event_asked : ℕ → Ask → CoreEvent
event_asked at (ask.Issue node seq id full) = Issue at seq id full
event_asked at (ask.Timer node) = Timer at

-- how a save fails that leaves the new number, or the old one
abbrev pub failing : Bool → Fate
failing new = if new then Written else Unwritten

-- an event whose save is cut off stops there, and leaves the new number or the old one. One that asks no save comes to
-- its end, and then the node is opened anew
abbrev pub cut_short : World → ℕ → Bool → ℕ → CoreEvent → Place → Option ℕ → List Step
cut_short w at new i e p None = event_steps w i e Saved ++ Again i at (left_by p.disk new None) ∷ []
cut_short w at new i e p (Some s) = Torn i e (left_by p.disk new (Some s)) ∷ []

abbrev pub cut_at : World → ℕ → Bool → ℕ → CoreEvent → Option Place → List Step
cut_at w at new i e None = []
cut_at w at new i e (Some p) = cut_short w at new i e p (core_asks p.core e)

abbrev pub cut_steps : World → ℕ → Bool → ℕ → CoreEvent → List Step
cut_steps w at new i e = cut_at w at new i e (place_at i w.places)

-- a node is asked something, and its save, if any, meets a fate
abbrev pub ask_steps : World → ℕ → Ask → Fate → List Step
ask_steps w at ask fate = event_steps w (node_asked ask) (event_asked at ask) fate

-- bytes are handed to a node
abbrev pub hand_steps : World → ℕ → ℕ → List ℕ → List Step
hand_steps w at to bytes = event_steps w to (Frame at bytes) Saved

-- a timer at each declared number, one after the other; a liar has none
abbrev pub timers : World → ℕ → List ℕ → List Step
timers w at [] = []
timers w at (i ∷ is) =
    let steps = event_steps w i (Timer at) Saved in
    steps ++ timers (run w steps) at is

-- a node greets another; itself it doesn't greet
abbrev pub greet_steps : World → ℕ → ℕ → List Step
greet_steps w node peer = if node == peer then [] else event_steps w node (Greet peer) Saved

-- the steps that it is when something happens at a moment
abbrev pub steps_at : World → ℕ → What → List Step
steps_at w at (what.Ask ask) = ask_steps w at ask Saved
steps_at w at what.Timers = timers w at w.numbers
steps_at w at (what.Submit node tx) = event_steps w node (Submit at tx) Saved
steps_at w at (what.Greet node peer) = greet_steps w node peer
steps_at w at (what.Deliver place) = delivery_of w at (frame_at w.sent place)
steps_at w at what.All = deliveries w at (drop w.mark w.sent) ++ Mark ∷ []
steps_at w at what.Drop = Mark ∷ []
steps_at w at (what.Restart node) = option_to_list (option_map (restart at) (place_at node w.places))
steps_at w at (what.Cut new ask) = cut_steps w at new (node_asked ask) (event_asked at ask)
steps_at w at (what.Fail new ask) = ask_steps w at ask (failing new)
steps_at w at (what.Lie from to lie) = hand_steps w at to (lied_bytes from to lie)
steps_at w at (what.Raw to bytes) = hand_steps w at to bytes
steps_at w at (what.Prefer node) = []
steps_at w at (what.List node list) = event_steps w node (Relist at list) Saved
steps_at w at (what.Heard node) = []

-- the steps that an event is
abbrev pub steps_of : World → Event → List Step
steps_of w e = steps_at w e.at e.what

-- the world after an event
abbrev pub after_event : World → Event → World
after_event w e = run w (steps_of w e)

-- what came of a step at a node
abbrev pub reply_to : World → Step → Option CoreReply
reply_to w (Act i event fate) = option_map (λ p. reply_at p event fate) (place_at i w.places)
reply_to w (Again i now number) = None
reply_to w (Torn i event number) = None
reply_to w Mark = None

-- what is told of how a built ledger was validated: that its validation was refused
abbrev pub told_of_issued : ℕ → Issued → List Outcome
told_of_issued i issued.Full = []
told_of_issued i issued.Partial = []
told_of_issued i issued.Silent = []
told_of_issued i (issued.Refused why) = Refused i why ∷ []

-- what is told of a timer: the ledger that the node switched to, or the one that it built, or that it has no room for
-- one more
abbrev pub told_of_beat : ℕ → TimerAnswer → List Outcome
told_of_beat i timer_answer.Nothing = []
told_of_beat i timer_answer.Closed = []
told_of_beat i timer_answer.Updated = []
told_of_beat i (timer_answer.Switched seq id) = Switched i seq id ∷ []
told_of_beat i (timer_answer.NoRoom limit) = Refused i (HeaderRefused (RegistryFull limit)) ∷ []
told_of_beat i (timer_answer.Built seq id moved_on how) = Built i seq id how ∷ told_of_issued i how

-- what is told of an answer: that it refuses, or what came of a timer
abbrev pub told_of_answer : ℕ → Answer → List Outcome
told_of_answer i (answer.Refused why) = Refused i why ∷ []
told_of_answer i (answer.Beats beat) = told_of_beat i beat
told_of_answer i other = []

-- what is told of a reply: of its answer, and then what it reports
abbrev pub outcomes_of : ℕ → CoreReply → List Outcome
outcomes_of i r = told_of_answer i r.answer ++ option_to_list (option_map (λ q. Full i q.seq q.id) r.report)

abbrev pub told_of_reply : ℕ → Option CoreReply → List Outcome
told_of_reply i None = []
told_of_reply i (Some r) = outcomes_of i r

-- what is told of a step: of one that is torn nothing is
abbrev pub told_of_step : World → Step → List Outcome
told_of_step w (Act i event fate) = told_of_reply i (reply_to w (Act i event fate))
told_of_step w (Again i now number) = []
told_of_step w (Torn i event number) = []
told_of_step w Mark = []

-- what is told of steps, one after the other
abbrev pub told_in : World → List Step → List Outcome
told_in w [] = []
told_in w (s ∷ ss) = told_of_step w s ++ told_in (step w s) ss

-- the ledger that the node of a number prefers, if there is such a node
abbrev pub preference : ℕ → Option Place → List Outcome
preference i place = option_to_list (option_map (λ p. Preferred i (preferred p.core.node)) place)

-- what the node of a number heard of the ledger that a member last reported
abbrev pub hearsay_of : Core → ℕ → Outcome
hearsay_of core member = Heard core.node.me member (heard_of core.node.rows member)

-- of each member of its list, rising, if there is such a node
abbrev pub hearsay : ℕ → Option Place → List Outcome
hearsay i None = []
hearsay i (Some p) = map (hearsay_of p.core) p.core.node.list.members

-- what is told when something happens at a moment: of the steps that it is, or of what is asked
abbrev pub outcomes_at : World → ℕ → What → List Outcome
outcomes_at w at (what.Prefer node) = preference node (place_at node w.places)
outcomes_at w at (what.Heard node) = hearsay node (place_at node w.places)
outcomes_at w at happening = told_in w (steps_at w at happening)

-- what is told of an event
abbrev pub outcomes : World → Event → List Outcome
outcomes w e = outcomes_at w e.at e.what
