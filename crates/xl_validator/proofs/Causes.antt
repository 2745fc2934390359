-- What the status of a run says of its end.
use Rattle.std.proofs.Common.{◌≡◌, ◌≢◌, ◌≤◌, ℕ, true, Option, List, map, ap, arith, subst}
use Rattle.xl_base.specs.Faults.{Rose}
use Rattle.xl_base.specs.declared.status.Status.{Status}
use Rattle.xl_base.specs.declared.status.Status.TheVariants as status
use Rattle.xl_store.specs.declared.entry.Entry.{Entry}
use Rattle.xl_heartbeat.specs.declared.ends.BeatEnd.{BeatEnd}
use Rattle.xl_heartbeat.specs.declared.ends.Ending.{Ending}
use Rattle.xl_heartbeat.specs.declared.ends.Ending.TheVariants as ending
use Rattle.xl_heartbeat.specs.declared.ends.Stopping.{Stopping}
use Rattle.xl_heartbeat.specs.declared.ends.Stopping.TheVariants as stopping
use Rattle.xl_heartbeat.specs.Outputs.{Output}
use Rattle.xl_heartbeat.specs.Statuses.{causes_of, first_of, status_of_run}
use Rattle.xl_workers.specs.declared.ends.RunEnd.{RunEnd}
use Rattle.xl_workers.specs.declared.ends.RunEnd.TheVariants as end
use Rattle.xl_workers.specs.Runs.{Doing, NodeRun, EndsBy, IsAsked, status_of_end}
use Rattle.xl_workers.specs.Linking.{AsksUpTo, AsksUpToDoor}
use Rattle.xl_workers.specs.Sharing.{Setting, IsOutput}
use Rattle.xl_links.specs.Ways.{Target}
use Rattle.xl_settings.specs.declared.settings.Settings.{Settings}
use Rattle.xl_base.specs.declared.ids.TxId.{TxId}
use Rattle.xl_validator.specs.Openings.{target_at}
use Rattle.xl_validator.specs.Recordings.{is_over}
use Rattle.xl_validator.specs.Tellings.{FailsAt, unmade_of}
use Rattle.xl_validator.specs.Validators.{IsOfNode}

-- a status of a heartbeat and of the last reports
abbrev IsOfRun : Status → Type 0
IsOfRun status.Done = Unit {0}
IsOfRun status.WriteFault = Unit {0}
IsOfRun status.OutOfMemory = Unit {0}
IsOfRun status.StoreFull = Unit {0}
IsOfRun other = ⊥

-- whatever its parts met
of_parts : (run : Ending) (stop : Stopping) (last : Ending) → IsOfRun (first_of (causes_of run stop last))
of_parts run stop ending.WriteFault = tt
of_parts ending.Done (stopping.StoreFull n) last = tt
of_parts run stop last = tt

of_run : (beats : BeatEnd) (last : Ending) → IsOfRun (status_of_run beats last)
of_run beats last = of_parts beats.run beats.stop last

of_node : (s : Status) → IsOfRun s → IsOfNode s
of_node status.Fork is = is
of_node status.WordsRefused is = is
of_node status.InputRefused is = is
of_node status.ReadFault is = is
of_node other is = tt

pub known_end : (e : RunEnd) → IsOfNode (status_of_end e)
known_end (end.Ran beats last) = of_node (status_of_run beats last) (of_run beats last)
known_end other = tt

pub keeps_no_fault : (e : RunEnd) → status_of_end e ≢ status.KeepFault
keeps_no_fault (end.Ran beats last) = λ is. subst IsOfRun is (of_run beats last)
keeps_no_fault other = λ is. cc

written : (text : List ℕ) (old new : Output) (s : Status) → s ≡ status.WriteFault → IsOutput s text old new
    → Rose old.faults new.faults
written text old new s is out = (subst (λ (x : Status). IsOutput x text old new) is out).failed

write_by : (s : Setting) (d : Doing) (history : List Entry) (done : List TxId) (submits : List ℕ) (e : RunEnd)
    → EndsBy s d history done submits e → status_of_end e ≡ status.WriteFault → Rose d.old_output.faults d.new_output.faults
write_by s d history done submits (end.Ran beats last) by is =
    written _ d.old_output d.new_output (status_of_run beats last) is by.1.written
write_by s d history done submits other by is = absurd cc

pub write_cause : (s : Setting) (d : Doing) (e : RunEnd) (history : List Entry) → NodeRun s d e history
    → status_of_end e ≡ status.WriteFault → Rose d.old_output.faults d.new_output.faults
write_cause s d e history run is = write_by s d history run.done run.submits e run.by is

-- a failed network is that of a hub
pub never_net : (beats : BeatEnd) (last : Ending) → status_of_run beats last ≢ status.NetFault
never_net beats last is = subst IsOfRun is (of_run beats last)

net_by : (s : Setting) (d : Doing) (history : List Entry) (done : List TxId) (submits : List ℕ) (e : RunEnd)
    → EndsBy s d history done submits e → status_of_end e ≡ status.NetFault → Rose d.old_hub.faults d.new_hub.faults
net_by s d history done submits (end.Ran beats last) by is = absurd (never_net beats last is)
net_by s d history done submits (end.LinkFault member) by is = by.2
net_by s d history done submits end.DoorFault by is = by.2
net_by s d history done submits other by is = absurd cc

pub net_cause : (s : Setting) (d : Doing) (e : RunEnd) (history : List Entry) → NodeRun s d e history
    → status_of_end e ≡ status.NetFault → Rose d.old_hub.faults d.new_hub.faults
net_cause s d e history run is = net_by s d history run.done run.submits e run.by is

-- what the hub couldn't make is what it was asked for last
pub unmade_cause : (s : Settings) (d : Doing) (e : RunEnd) → d.targets ≡ map target_at s.peers → d.door ≡ s.submit_at
    → IsAsked d e → status_of_end e ≡ status.NetFault → FailsAt d.old_hub d.new_hub s (unmade_of e)
unmade_cause s d (end.Ran beats last) targets door asked is = absurd (never_net beats last is)
unmade_cause s d (end.LinkFault member) targets door asked is =
    subst (λ (all : List Target). AsksUpTo d.old_hub all member d.new_hub) targets asked
unmade_cause s d end.DoorFault targets door asked is =
    subst (λ (all : List Target). AsksUpToDoor d.old_hub all s.submit_at d.new_hub) targets
    (subst (λ (address : Option (List ℕ)). AsksUpToDoor d.old_hub d.targets address d.new_hub) door asked)
unmade_cause s d other targets door asked is = absurd cc

-- a run that is over wrote all, or nothing
all_written : (text : List ℕ) (old new : Output) (s : Status) → is_over s ≡ true → IsOutput s text old new
    → old.faults ≤ new.faults
all_written text old new status.Done over out = out.later
all_written text old new status.StoreFull over out = out.later
all_written text old new other over out = absurd cc

later_by : (s : Setting) (d : Doing) (history : List Entry) (done : List TxId) (submits : List ℕ) (e : RunEnd)
    → EndsBy s d history done submits e → is_over (status_of_end e) ≡ true → d.old_output.faults ≤ d.new_output.faults
later_by s d history done submits (end.Ran beats last) by over =
    all_written _ d.old_output d.new_output (status_of_run beats last) over by.1.written
later_by s d history done submits (end.StoreFull n) by over =
    let same : d.new_output.faults ≡ d.old_output.faults = ap (λ (o : Output). o.faults) by.1.silent in omega (arith, same)
later_by s d history done submits other by over = absurd cc

pub later_cause : (s : Setting) (d : Doing) (e : RunEnd) (history : List Entry) → NodeRun s d e history
    → is_over (status_of_end e) ≡ true → d.old_output.faults ≤ d.new_output.faults
later_cause s d e history run over = later_by s d history run.done run.submits e run.by over
