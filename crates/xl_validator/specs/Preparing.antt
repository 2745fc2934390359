-- A core at its opening, and what is run with it. Source: what the code of this crate relies on. No public clause cites
-- this file.
use Rattle.std.specs.Prelude.{◌≡◌, ◌≢◌, ℕ, Bool, true, ◌<◌, ◌≤◌, ◌^◌, List, nat_eq, length, map, None, IsSome, IfSome}
use Rattle.std.specs.declared.option.Option.{Option}
use Rattle.std.specs.List.{AllByRecursion, IsDistinct}
use Rattle.xl_base.specs.Faults.{Rose}
use Rattle.xl_base.specs.declared.ids.TxId.{TxId}
use Rattle.xl_base.specs.declared.status.Status.{Status}
use Rattle.xl_base.specs.declared.status.Status.TheVariants as status
use Rattle.xl_io.specs.Keepers.{Held}
use Rattle.xl_links.specs.Requests.{Offers}
use Rattle.xl_tags.specs.Rings.{key_of}
use Rattle.xl_core.specs.Core.{Core}
use Rattle.xl_store.specs.declared.entry.Entry.{Entry}
use Rattle.xl_heartbeat.specs.declared.pulse.Pulse.{Pulse}
use Rattle.xl_settings.specs.Peers.{PeerSetting}
use Rattle.xl_workers.specs.declared.plan.Plan.{Plan}
use Rattle.xl_workers.specs.Linking.{contact_of, target_of}
use Rattle.xl_validator.specs.declared.preparing.Prepared.{Prepared}
use Rattle.xl_validator.specs.Contacts.{IsNumber}
use Rattle.xl_validator.specs.Openings.{Task, target_at}
use Rattle.xl_validator.specs.Recordings.{is_over}
use Rattle.xl_validator.specs.Validators.{Between, Goes, IsOfNode, IsUnopened}

-- what a plan is to do
abbrev pub task_in : Plan → Task
task_in plan = record {
  turns = plan.turns;
  submits = plan.submits.items;
  targets = map target_of plan.contacts.items;
  door = plan.door;
  pulse = plan.pulse;
}

-- a node can be run with it: it has turns, and its members are peers of the core, each once
pub record IsReady (prepared : Prepared) : Type 0 where
  pub turns : (0 < prepared.plan.turns) × (prepared.plan.turns ≤ 2 ^ 62)
  pub peers : AllByRecursion (λ m. IsSome (key_of prepared.core.node.keys m)) (map contact_of prepared.plan.contacts.items)
  pub once : IsDistinct nat_eq (map contact_of prepared.plan.contacts.items)
  pub few : length prepared.plan.contacts.items ≤ 64

-- a plan of this many turns, which submits these ids, serves these peers, opens a door at this address, and beats so
pub record IsPlan (limit : ℕ) (ids : List TxId) (peers : List PeerSetting) (address : Option (List ℕ)) (beats : Pulse)
    (plan : Plan) : Type 0 where
  pub turns : plan.turns ≡ limit
  pub submits : plan.submits.items ≡ ids
  pub targets : map target_of plan.contacts.items ≡ map target_at peers
  pub door : plan.door ≡ address
  pub pulse : plan.pulse ≡ beats
  pub numbers : AllByRecursion IsNumber plan.contacts.items

-- What a run over a prepared core leaves: it goes as `Goes` says, or it left the output; and its status has its cause
pub record Leaves {K O : Type 0}
    (held_by : K → Option Held) (saves_of : K → Option (List ℕ)) (faults_of : K → ℕ)
    (save_gives : K → ℕ → Bool → K → Type 0)
    (start : Core) (task : Task) (may_give : ℕ → Bool) (links : Offers) (outside : Between)
    (old_output new_output : O) (old new : K) (end : Status) (journal : Option (List Entry)) : Type 0 where
  pub goes : IfSome journal (λ history. Goes held_by saves_of faults_of save_gives
      start task may_give links outside old new end history)
  pub unopened : journal ≡ None → new_output ≡ old_output
  pub unsaved : journal ≡ None → new ≡ old
  pub unlinked : journal ≡ None → outside.new_hub ≡ outside.old_hub
  pub opened : journal ≡ None → IsUnopened end
  pub known : IsOfNode end
  pub write : end ≡ status.WriteFault → Rose outside.old_output.faults outside.new_output.faults
  pub keeper : end ≢ status.KeepFault
  pub net : end ≡ status.NetFault → Rose outside.old_hub.faults outside.new_hub.faults
  pub later : is_over end ≡ true → outside.old_output.faults ≤ outside.new_output.faults
