-- The answers of a node's calls, as replies. Source: this project's own, by which a call answers what the node's step
-- replies.
use Rattle.std.specs.Prelude.{◌≡◌, ℕ, Bool, List, [], ◌∷◌, ◌++◌, length, drop, map, Result, Ok, Err, Some, None}
use Rattle.xl_wire.specs.declared.body.Body.{Body}
use Rattle.xl_wire.specs.declared.refusal.WireRefusal.{WireRefusal}
use Rattle.xl_core.specs.declared.hearing.Spoken.{Spoken}
use Rattle.xl_core.specs.Hearing.{heard_so}
use Rattle.std.specs.declared.option.Option.{Option}
use Rattle.xl_base.specs.declared.ids.SetId.{SetId}
use Rattle.xl_base.specs.declared.ids.TxId.{TxId}
use Rattle.xl_core.specs.declared.report.Report.{Report}
use Rattle.xl_core.specs.declared.report.OwnValidation.{OwnValidation}
use Rattle.xl_core.specs.declared.refusal.Refusal.{Refusal}
use Rattle.xl_core.specs.declared.refusal.Refusal.TheVariants as node
use Rattle.xl_core.specs.declared.item.Item.TheVariants.{Tx}
use Rattle.xl_core.specs.declared.taken.Taken.{Taken}
use Rattle.xl_core.specs.declared.taken.Heard.{Heard}
use Rattle.xl_core.specs.declared.taken.Taken.TheVariants.{Set}
use Rattle.xl_core.specs.Answers.{Answer, Refused, Took, Done, given_in, handed_in}
use Rattle.xl_core.specs.declared.event.CoreEvent.{CoreEvent}
use Rattle.xl_core.specs.declared.event.CoreEvent.TheVariants.{Drain, Reports}
use Rattle.xl_core.specs.Core.{Core, CoreReply, core_happens}
use Rattle.xl_core.specs.declared.sending.TagPlace.{TagPlace}
use Rattle.xl_core.specs.Draining.{node_for}
use Rattle.xl_core.specs.Queues.{stream_of}
use Rattle.xl_core.specs.Sending.{without_tag}
use Rattle.xl_core.specs.Node.{Node, Reply, Save, reply_with, refusing_reply, items_of, is_kept}
use Rattle.xl_core.specs.Issuing.Save.{Kept, Failed}

-- what a call that issues answers, with the node that it leaves
abbrev pub issue_reply : Result OwnValidation Refusal → Node → Reply
issue_reply (Ok done) n = record {
  node = n;
  answer = Done;
  items = items_of (Some done.validation);
  issued = Some done.validation;
  report = done.report;
}
issue_reply (Err why) n = refusing_reply n why

-- what a call that hands in a transaction answers
abbrev pub submit_reply : {X : Type 0} → TxId → Result X Refusal → Node → Reply
submit_reply tx (Ok _) n = reply_with n Done (Tx tx ∷ [])
submit_reply tx (Err why) n = refusing_reply n why

-- what a call that sets a list answers, with what it reports
abbrev pub list_reply : Result (Option Report) Refusal → Node → Reply
list_reply (Ok report) n = record { node = n; answer = Done; items = []; issued = None; report = report }
list_reply (Err why) n = refusing_reply n why

-- what a call that hands in bytes answers
abbrev pub hear_reply : Result Heard Refusal → Node → Reply
hear_reply (Ok heard) n = record {
  node = n;
  answer = Took heard.taken;
  items = [];
  issued = None;
  report = heard.report;
}
hear_reply (Err why) n = refusing_reply n why

-- a set of this id was taken
abbrev pub heard_set : SetId → Heard
heard_set id = record { taken = Set id; report = None }

-- what is heard in a frame with this body that was opened, and so is from this sender; or why it wasn't opened, which was
-- written then
abbrev pub IsOpened : Result Spoken Refusal → Result Body WireRefusal → Option ℕ → Result Heard Refusal → Type 0
IsOpened said body (Some from) heard = said ≡ heard_so (Ok from) body
IsOpened said body None (Err why) = said ≡ Err why
IsOpened said body None (Ok heard) = ⊥

-- what a core's calls answer
abbrev pub taken_answer : Result Taken Refusal → Answer
taken_answer (Ok taken) = Took taken
taken_answer (Err why) = Refused why

abbrev pub done_answer : {X : Type 0} → Result X Refusal → Answer
done_answer (Ok _) = Done
done_answer (Err why) = Refused why

-- what a core's call answers, with the core that it leaves
pub record Answers (reply : CoreReply) (after : Core) (told : Answer) : Type 0 where
  pub core : after ≡ reply.core
  pub answer : told ≡ reply.answer

-- what came of a drain into a room of that length
abbrev pub drain_reply : Core → ℕ → List ℕ → CoreReply
drain_reply core member room = core_happens core (Drain member (length room)) Kept

-- what a drain leaves: the core, and a room that begins with the frames that it gave
pub record Drains (before : Core) (member : ℕ) (after : Core) (written : ℕ) (old new : List ℕ) : Type 0 where
  pub core : after ≡ (drain_reply before member old).core
  pub count : written ≡ length (stream_of (given_in (drain_reply before member old).answer))
  pub room : new ≡ stream_of (given_in (drain_reply before member old).answer) ++ drop written old

-- a core whose node writes its frames so
abbrev pub core_for : TagPlace → Core → Core
core_for tags core = record core { node = node_for tags core.node }

-- what a drain leaves that leaves the tags blank: the same, except for a room that begins with these frames, each with its
-- tag cleared
pub record DrainsBlank (before : Core) (member : ℕ) (after : Core) (written : ℕ) (old new : List ℕ) : Type 0 where
  pub core : after ≡ (drain_reply before member old).core
  pub count : written ≡ length (stream_of (map without_tag (given_in (drain_reply before member old).answer)))
  pub room : new ≡ stream_of (map without_tag (given_in (drain_reply before member old).answer)) ++ drop written old

-- what came of handing out into a room of that length
abbrev pub reports_reply : Core → List Report → CoreReply
reports_reply core room = core_happens core (Reports (length room)) Kept

-- what handing out leaves: the core, and a room that begins with the reports
pub record HandsOut (before : Core) (after : Core) (written : ℕ) (old new : List Report) : Type 0 where
  pub core : after ≡ (reports_reply before old).core
  pub count : written ≡ length (handed_in (reports_reply before old).answer)
  pub room : new ≡ handed_in (reports_reply before old).answer ++ drop written old

-- how the save was answered, as the refusal tells it
abbrev pub save_of : Refusal → Save
save_of (node.KeepFault count) = Failed count
save_of other = Kept

abbrev pub save_in : {X : Type 0} → Result X Refusal → Save
save_in (Ok done) = Kept
save_in (Err why) = save_of why

-- whether the save that it asked was answered with Ok, if it asked one
abbrev pub was_kept : {X : Type 0} → Result X Refusal → Bool
was_kept result = is_kept (save_in result)

-- what a call that issues answers, with the core that it leaves
abbrev pub Issues : {X : Type 0} → Core → CoreEvent → Result X Refusal → Core → Type 0
Issues core event result after = Answers (core_happens core event (save_in result)) after (done_answer result)
