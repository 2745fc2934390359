-- A step of the node, and of its queues.
use Rattle.std.proofs.Common.{◌≡◌, ℕ, Bool, [], refl, ap, ◌∙◌, subst, Option, Some, None, Ok, List}
use Rattle.std.specs.Prelude.{nat_lt}
use Rattle.std.proofs.lemmas.Bool.{cond_both}
use Rattle.xl_queues.specs.Queues.{Backlog}
use Rattle.xl_wire.specs.declared.validation.Validation.{Validation}
use Rattle.xl_base.specs.declared.ids.LedgerId.{LedgerId}
use Rattle.xl_ledger.specs.declared.header.Header.{Header}
use Rattle.xl_ledger.specs.Headers.{header_id}
use Rattle.xl_rounds.specs.Rounds.{is_proposing}
use Rattle.xl_core.proofs.Timing.{timing_by, submit_either, relist_either}
use Rattle.xl_core.specs.declared.hearing.Speech.{Speech}
use Rattle.xl_core.specs.declared.hearing.Speech.TheVariants as speech
use Rattle.xl_core.specs.declared.refusal.Refusal.{Refusal}
use Rattle.xl_core.specs.declared.refusal.Refusal.TheVariants.{NotAfter}
use Rattle.xl_core.specs.declared.report.Report.{Report}
use Rattle.xl_core.specs.Node.{Node, Event, Issue, Frame, Timer, Submit, Relist, Reply, Save, happens, issuing_reply, reply_with, timer_reply, timer_outcome, validates, validating_built, taken_reply, bytes_reply, issued_reply, issued_unless_off, refusing_reply, at_moment, second_of, own_validation}
use Rattle.xl_core.specs.Issuing.Save.{Kept, Failed}
use Rattle.xl_core.specs.Answers.{Refused, Took, Done}
use Rattle.xl_core.specs.Queues.{with_report}
use Rattle.xl_core.specs.Core.{Core, after_reply}
use Rattle.xl_core.specs.Replies.{Answers, hear_reply, issue_reply, list_reply}
use Rattle.xl_core.specs.declared.item.Item.{Item}
use Rattle.xl_core.specs.declared.item.Item.TheVariants.{Validation as ValidationItem}
use Rattle.xl_core.specs.declared.report.OwnValidation.{OwnValidation}
use Rattle.xl_core.specs.declared.taken.Heard.{Heard}
use Rattle.xl_queues.specs.Broadcasts.{pushed_to_all}
use Rattle.xl_core.proofs.Frames.{hearing_either}

-- THE NODE STAYS ITSELF

-- its number, its keys and, as it hears, its kept number
pub record IsSame (n m : Node) : Type 0 where
  pub me : m.me ≡ n.me
  pub keys : m.keys ≡ n.keys

taking_same : (n : Node) (from : ℕ) (what : Speech) → IsSame n (taken_reply n from what).node
taking_same n from (speech.Validation v) = record { me = refl; keys = refl }
taking_same n from other = record { me = refl; keys = refl }

hearing_same : (n : Node) (bytes : List ℕ) → IsSame n (bytes_reply n bytes).node
hearing_same n bytes = hearing_either (λ r. IsSame n r.node) n bytes (λ _. record { me = refl; keys = refl }) (λ said _. taking_same n said.from said.what)

issues_same : (n : Node) (now : ℕ) (save : Save) (v : Validation) → IsSame n (issued_reply n now save v).node
issues_same n now Kept v = record { me = refl; keys = refl }
issues_same n now (Failed count) v = record { me = refl; keys = refl }

unless_same : (n : Node) (off : Option ℕ) (save : Save) (v : Validation) → IsSame n (issued_unless_off n off save v).node
unless_same n None save v = issues_same n (second_of n) save v
unless_same n (Some failed) save v = record { me = refl; keys = refl }

same_later : (n m : Node) (now : ℕ) → IsSame (at_moment now n) m → IsSame n m
same_later n m now same = record { me = same.me; keys = same.keys }

issuing_same : (n : Node) (seq : ℕ) (id : LedgerId) (full : Bool) (save : Save) → IsSame n (issuing_reply n seq id full save).node
issuing_same n seq id full save =
    cond_both (nat_lt n.kept seq) (issued_unless_off n n.failed_save save (own_validation n seq id full)) (refusing_reply n (NotAfter n.kept)) (λ r. IsSame n r.node)
    (λ _. unless_same n n.failed_save save (own_validation n seq id full)) (λ _. record { me = refl; keys = refl })

validating_same : (n : Node) (h : Header) (moved_on : Bool) (save : Save) → IsSame n (validating_built n h moved_on save).node
validating_same n h moved_on save =
    cond_both (validates n moved_on) (issuing_reply n h.seq (header_id h) (is_proposing n.round.setting.mode) save) (reply_with n Done []) (λ r. IsSame n r.node)
    (λ _. issuing_same n h.seq (header_id h) (is_proposing n.round.setting.mode) save) (λ _. record { me = refl; keys = refl })

timer_same : (n : Node) (save : Save) → IsSame n (timer_reply (timer_outcome n) save).node
timer_same n save =
    timing_by (λ t. IsSame n (timer_reply t save).node) n (λ r told said. record { me = refl; keys = refl })
    (λ ledgers r said h place moved_on _. let same = validating_same (record n { ledgers = ledgers; round = r }) h moved_on save in record { me = same.me; keys = same.keys })

pub stays_itself : (n : Node) (e : Event) (save : Save) → IsSame n (happens n e save).node
stays_itself n (Frame now bytes) save =
    same_later n (happens n (Frame now bytes) save).node now (hearing_same (at_moment now n) bytes)
stays_itself n (Issue now seq id full) save = same_later n (happens n (Issue now seq id full) save).node now (issuing_same (at_moment now n) seq id full save)
stays_itself n (Timer now) save = same_later n (happens n (Timer now) save).node now (timer_same (at_moment now n) save)
stays_itself n (Submit now tx) save =
    submit_either (λ r. IsSame n r.node) (at_moment now n) tx (λ _. record { me = refl; keys = refl }) (record { me = refl; keys = refl })
stays_itself n (Relist now list) save =
    relist_either (λ r. IsSame n r.node) (at_moment now n) list (λ _. record { me = refl; keys = refl }) (λ _. record { me = refl; keys = refl })

-- THE CORE'S STEP

-- what was heard
pub heard_step : (core : Core) (n : Node) (heard : Heard) (untaken : Backlog Report) (reply : Reply) → hear_reply (Ok heard) n ≡ reply → untaken ≡ with_report core.untaken heard.report →
    Answers (after_reply core reply) (record core { node = n; untaken = untaken }) (Took heard.taken)
heard_step core n heard untaken reply is pushed =
    subst (λ (r : Reply). Answers (after_reply core r) (record core { node = n; untaken = untaken }) (Took heard.taken)) is
    (record { core = ap (λ (u : Backlog Report). let c : Core = record core { node = n; untaken = u } in c) pushed; answer = refl })

pub refused_step : (core : Core) (n : Node) (why : Refusal) (reply : Reply) → refusing_reply n why ≡ reply → Answers (after_reply core reply) (record core { node = n }) (Refused why)
refused_step core n why reply is =
    subst (λ (r : Reply). Answers (after_reply core r) (record core { node = n }) (Refused why)) is (record { core = refl; answer = refl })

-- a list was set
pub list_step : (core : Core) (n : Node) (report : Option Report) (untaken : Backlog Report) (reply : Reply) → list_reply (Ok report) n ≡ reply → untaken ≡ with_report core.untaken report →
    Answers (after_reply core reply) (record core { node = n; untaken = untaken }) Done
list_step core n report untaken reply is pushed =
    subst (λ (r : Reply). Answers (after_reply core r) (record core { node = n; untaken = untaken }) Done) is
    (record { core = ap (λ (u : Backlog Report). let c : Core = record core { node = n; untaken = u } in c) pushed; answer = refl })

-- what was issued
pub issued_step : (core : Core) (n : Node) (done : OwnValidation) (waiting : List (Backlog Item)) (untaken : Backlog Report) (reply : Reply) → issue_reply (Ok done) n ≡ reply →
    waiting ≡ pushed_to_all 64 core.waiting (ValidationItem done.validation) → untaken ≡ with_report core.untaken done.report → Answers (after_reply core reply) (record core { node = n; waiting = waiting; untaken = untaken }) Done
issued_step core n done waiting untaken reply is waits pushed =
    subst (λ (r : Reply). Answers (after_reply core r) (record core { node = n; waiting = waiting; untaken = untaken }) Done) is
    (record {
      core = ap (λ (ws : List (Backlog Item)). let c : Core = record core { node = n; waiting = ws; untaken = untaken } in c) waits
          ∙ ap (λ (u : Backlog Report). let c : Core = record core { node = n; waiting = pushed_to_all 64 core.waiting (ValidationItem done.validation); untaken = u } in c) pushed;
      answer = refl;
    })
