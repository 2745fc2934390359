-- Flag reports among what is told of an event, and what they say. Source: rippled's amendment and fee votes; which
-- report is a flag report is this profile's.
use Rattle.std.specs.Prelude.{ℕ, ◌%◌, ◌==◌, ◌&&◌, Bool, nat_lt, List, [], ◌∷◌, ◌++◌, filter, Option, Some, None, option_map, if◌then◌else◌}
use Rattle.xl_base.specs.declared.ids.LedgerId.{LedgerId}
use Rattle.xl_core.specs.Core.{Core}
use Rattle.xl_flags.specs.declared.news.FlagLine.{FlagLine}
use Rattle.xl_ledger.specs.Chains.{header_at, place_of}
use Rattle.xl_sched.specs.declared.event.Event.{Event}
use Rattle.xl_sched.specs.declared.named.Named.{Named}
use Rattle.xl_validations.specs.Rows.{current_of, is_full_of}
use Rattle.xl_world.specs.declared.outcome.Outcome.{Outcome}
use Rattle.xl_world.specs.declared.outcome.Outcome.TheVariants.{Full}
use Rattle.xl_world.specs.Parts.{parts_of}
use Rattle.xl_world.specs.Schedule.{after_event, outcomes}
use Rattle.xl_world.specs.World.{World, core_in}
use Rattle.xl_voting.specs.Keeping.{Keeping}
use Rattle.xl_voting.specs.Texts.{flag_lines}

-- a text, and what is kept behind it
pub record Said (V : Type 0) : Type 0 where
  pub text : List ℕ
  pub votes : V

-- so much is said
abbrev pub said_so : {V : Type 0} → List ℕ → V → Said V
said_so text v = record { text = text; votes = v }

-- nothing is said
abbrev pub silent : {V : Type 0} → V → Said V
silent v = record { text = []; votes = v }

-- a text before what is said
abbrev pub behind : {V : Type 0} → List ℕ → Said V → Said V
behind text said = record { text = text ++ said.text; votes = said.votes }

-- when a ledger that a node knows closed
abbrev pub close_of : Core → LedgerId → Option ℕ
close_of c id =
    option_map (λ place. (header_at c.node.ledgers.headers place).close) (place_of c.node.ledgers.headers id)

-- the members of a node's list that it heard validate a ledger
abbrev pub counted_by : Core → ℕ → LedgerId → List ℕ
counted_by c s id = filter (λ m. is_full_of s id (current_of c.node.rows m)) c.node.list.members

-- what a report says, if it is a flag report
abbrev pub news_said : {V : Type 0} → List Named → Option (List FlagLine) → V → Said V
news_said names None v = silent v
news_said names (Some news) v = said_so (flag_lines names news) v

-- the sequence is one of 256, and above that of the node's last flag report
abbrev pub is_due : {V : Type 0} → Keeping V → V → ℕ → ℕ → Bool
is_due keeping v i s = s % 256 == 0 && nat_lt (keeping.last v i) s

-- what a flag report says
abbrev pub flag_said : {V : Type 0} → Keeping V → List Named → V → ℕ → ℕ → ℕ → List ℕ → Said V
flag_said keeping names v i s close counted = record {
  text = flag_lines names (keeping.news v i s close counted);
  votes = keeping.reported v i s close counted;
}

-- if the node knows the ledger, its report is a flag report
abbrev pub known_said : {V : Type 0} → Keeping V → List Named → V → ℕ → ℕ → LedgerId → Core → Option ℕ → Said V
known_said keeping names v i s id c None = silent v
known_said keeping names v i s id c (Some close) = flag_said keeping names v i s close (counted_by c s id)

-- if there is such a node
abbrev pub core_said : {V : Type 0} → Keeping V → List Named → V → ℕ → ℕ → LedgerId → Option Core → Said V
core_said keeping names v i s id None = silent v
core_said keeping names v i s id (Some c) = known_said keeping names v i s id c (close_of c id)

-- a node's report is a flag report, or nothing is said of it
abbrev pub report_said : {V : Type 0} → Keeping V → List Named → World → V → ℕ → ℕ → LedgerId → Said V
report_said keeping names w v i s id =
    if is_due keeping v i s then core_said keeping names v i s id (core_in w i) else silent v

-- of what is told of an event in a world, the reports count
abbrev pub outcome_said : {V : Type 0} → Keeping V → List Named → World → V → Outcome → Said V
outcome_said keeping names w v (Full node seq id) = report_said keeping names w v node seq id
outcome_said keeping names w v other = silent v

-- one after the other
abbrev pub outcomes_said : {V : Type 0} → Keeping V → List Named → World → V → List Outcome → Said V
outcomes_said keeping names w v [] = silent v
outcomes_said keeping names w v (o ∷ os) =
    let first = outcome_said keeping names w v o in
    behind first.text (outcomes_said keeping names w first.votes os)

-- events one after the other: of each, once it is over, what was told of it is looked at
abbrev pub events_said : {V : Type 0} → Keeping V → List Named → World → V → List Event → Said V
events_said keeping names w v [] = silent v
events_said keeping names w v (e ∷ es) =
    let first = outcomes_said keeping names (after_event w e) v (outcomes w e) in
    behind first.text (events_said keeping names (after_event w e) first.votes es)

-- an event, one delivery or one node's timer at a time
abbrev pub event_said : {V : Type 0} → Keeping V → List Named → World → V → Event → Said V
event_said keeping names w v e = events_said keeping names w v (parts_of w e)
