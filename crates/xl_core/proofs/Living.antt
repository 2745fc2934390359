-- A node stays at rest over every event: nothing is left to report.
use Rattle.std.proofs.Common.{◌≡◌, ℕ, Bool, List, [], ◌∷◌, refl, ap, Option, Some, None, subst}
use Rattle.std.specs.Prelude.{All, nat_lt, is_some}
use Rattle.std.proofs.lemmas.Bool.{cond_both}
use Rattle.std.proofs.lemmas.List.Elements.{All-head, All-tail}
use Rattle.xl_lists.specs.Lists.{TrustedList, IsValid}
use Rattle.xl_wire.specs.declared.validation.Validation.{Validation}
use Rattle.xl_validations.specs.declared.row.Row.{Row}
use Rattle.xl_validations.specs.declared.refusal.ValRefusal.{ValRefusal}
use Rattle.xl_validations.specs.Rows.{row_of, refusal_of, at_member, relisted}
use Rattle.xl_validations.proofs.Relisting.{members_relisted}
use Rattle.xl_base.specs.declared.ids.LedgerId.{LedgerId}
use Rattle.xl_ledger.specs.declared.header.Header.{Header as LedgerHeader}
use Rattle.xl_ledger.specs.Headers.{header_id}
use Rattle.xl_ledger.specs.Registries.{Ledgers, with_header}
use Rattle.xl_rounds.specs.Rounds.{Round, is_proposing, with_pending, hold}
use Rattle.xl_rounds.specs.Proposals.{with_answer, started_round}
use Rattle.xl_core.specs.Answers.{Answer, Done}
use Rattle.xl_core.specs.Building.{usual_mode}
use Rattle.xl_core.specs.declared.hearing.Speech.{Speech}
use Rattle.xl_core.specs.declared.hearing.Speech.TheVariants as speech
use Rattle.xl_core.specs.declared.refusal.Refusal.TheVariants.{NotAfter}
use Rattle.xl_core.specs.Lasts.{last_after, over_another_list}
use Rattle.xl_core.specs.Lives.{Happening, IsFitEvent, IsFit, node_after}
use Rattle.xl_core.specs.Node.{Node, Event, Issue, Frame, Timer, Submit, Relist, Reply, Save, issued_unless_off, happens, issued_reply, issuing_reply, refusing_reply, reply_with, timer_reply, timer_outcome, validates, validating_built, with_list, reporting_reply, with_taken, take, new_report, proposal_answer, taken_reply, at_moment, second_of, own_validation}
use Rattle.xl_core.specs.Issuing.Save.{Kept, Failed}
use Rattle.xl_core.specs.Rest.{IsAtRest}
use Rattle.xl_core.proofs.Answered.{arisen_then, few_rows, rest_when_taken, stays}
use Rattle.xl_core.proofs.Arising.{rest_reported}
use Rattle.xl_core.proofs.Expiring.{rest_then}
use Rattle.xl_core.proofs.Frames.{hearing_either}
use Rattle.xl_core.proofs.Members.{nobody_changes, refused_stays, taken_changes}
use Rattle.xl_core.proofs.Timing.{timing_by, submit_either, relist_either}

-- neither the round nor the ledgers nor the kept number are a part of it
elsewhere : (n : Node) (ledgers : Ledgers) (r : Round) (kept : ℕ) (failed : Option ℕ) → IsAtRest n → IsAtRest (record n { ledgers = ledgers; round = r; kept = kept; failed_save = failed })
elsewhere n ledgers r kept failed rest = record { valid = rest.valid; members = rest.members; reported = rest.reported }

-- A ROW TAKES A VALIDATION

-- or refuses it, or isn't there
by_row : (n : Node) (now from : ℕ) (v : Validation) (a : Answer) (issued : Option Validation) → IsAtRest n → (o : Option Row) → row_of n.rows from ≡ o → (p : Option ValRefusal) → refusal_of n.rows from now v ≡ p →
    IsAtRest (reporting_reply (with_taken n now from v) a issued).node
by_row n now from v a issued rest None nobody p is =
    subst IsAtRest (stays n (at_member from (take now v) n.rows) issued rest (nobody_changes from (take now v) n.rows nobody)).0 rest
by_row n now from v a issued rest (Some row) there (Some why) is =
    subst IsAtRest (stays n (at_member from (take now v) n.rows) issued rest (refused_stays from now v why n.rows is)).0 rest
by_row n now from v a issued rest (Some row) there None is =
    let rows : List Row = at_member from (take now v) n.rows in
    let has = ap is_some there in
    let is_arisen = arisen_then n from v rows rest has (taken_changes from now v n.rows is) in
    rest_when_taken n from v rows (new_report (with_taken n now from v)) (last_after n.last (new_report (with_taken n now from v))) rest has (taken_changes from now v n.rows is) is_arisen refl

taken_rest : (n : Node) (now from : ℕ) (v : Validation) (a : Answer) (issued : Option Validation) → IsAtRest n → IsAtRest (reporting_reply (with_taken n now from v) a issued).node
taken_rest n now from v a issued rest = by_row n now from v a issued rest (row_of n.rows from) refl (refusal_of n.rows from now v) refl

-- THE LIST IS SET

pub set_rest : (n : Node) (list : TrustedList) → IsValid list → IsAtRest (reporting_reply (with_list n list) Done None).node
set_rest n list valid =
    let rows : List Row = relisted list.members n.rows in
    record {
      valid = valid;
      members = members_relisted list.members n.rows;
      reported = rest_reported list.quorum rows (over_another_list n.last) (few_rows (with_list n list) rows valid (members_relisted list.members n.rows));
    }

-- EVERY EVENT

issued_rest : (n : Node) (now : ℕ) (save : Save) (v : Validation) → IsAtRest n → IsAtRest (issued_reply n now save v).node
issued_rest n now Kept v rest = taken_rest (record n { kept = v.seq }) now n.me v Done (Some v) (elsewhere n n.ledgers n.round v.seq n.failed_save rest)
issued_rest n now (Failed count) v rest = elsewhere n n.ledgers n.round n.kept (Some v.seq) rest

unless_rest : (n : Node) (off : Option ℕ) (save : Save) (v : Validation) → IsAtRest n → IsAtRest (issued_unless_off n off save v).node
unless_rest n None save v rest = issued_rest n (second_of n) save v rest
unless_rest n (Some failed) save v rest = rest

taking_rest : (n : Node) (from : ℕ) (what : Speech) → IsAtRest n → IsAtRest (taken_reply n from what).node
taking_rest n from (speech.Validation v) rest = taken_rest n (second_of n) from v (taken_reply n from (speech.Validation v)).answer None rest
taking_rest n from (speech.Header h) rest = elsewhere n (with_header n.ledgers h) n.round n.kept n.failed_save rest
taking_rest n from (speech.Proposal p) rest = elsewhere n n.ledgers (with_answer (proposal_answer n from p) from p n.round) n.kept n.failed_save rest
taking_rest n from (speech.TxSet ids) rest = elsewhere n n.ledgers (hold from ids n.round) n.kept n.failed_save rest
taking_rest n from (speech.Tx tx) rest = elsewhere n n.ledgers (with_pending tx n.round) n.kept n.failed_save rest

issuing_rest : (n : Node) (seq : ℕ) (id : LedgerId) (full : Bool) (save : Save) → IsAtRest n → IsAtRest (issuing_reply n seq id full save).node
issuing_rest n seq id full save rest =
    cond_both (nat_lt n.kept seq) (issued_unless_off n n.failed_save save (own_validation n seq id full)) (refusing_reply n (NotAfter n.kept)) (λ reply. IsAtRest reply.node)
    (λ _. unless_rest n n.failed_save save (own_validation n seq id full) rest) (λ _. rest)

validating_rest : (n : Node) (h : LedgerHeader) (moved_on : Bool) (save : Save) → IsAtRest n → IsAtRest (validating_built n h moved_on save).node
validating_rest n h moved_on save rest =
    cond_both (validates n moved_on) (issuing_reply n h.seq (header_id h) (is_proposing n.round.setting.mode) save) (reply_with n Done []) (λ reply. IsAtRest reply.node)
    (λ _. issuing_rest n h.seq (header_id h) (is_proposing n.round.setting.mode) save rest) (λ _. rest)

timer_rest : (n : Node) (save : Save) → IsAtRest n → IsAtRest (timer_reply (timer_outcome n) save).node
timer_rest n save rest =
    timing_by (λ t. IsAtRest (timer_reply t save).node) n
    (λ r told said. elsewhere n n.ledgers r n.kept n.failed_save rest)
    (λ ledgers r said h place moved_on _.
    let m : Node = record n { ledgers = ledgers; round = r } in
    let v : Reply = validating_built m h moved_on save in
    elsewhere v.node v.node.ledgers (started_round v.node.ledgers.headers place (usual_mode m.validating) v.node.time v.node.round) v.node.kept v.node.failed_save
    (validating_rest m h moved_on save (elsewhere n ledgers r n.kept n.failed_save rest)))

pub happens_rest : (n : Node) (e : Event) (save : Save) → IsFitEvent e → IsAtRest n → IsAtRest (happens n e save).node
happens_rest n (Issue now seq id full) save fit rest = issuing_rest (at_moment now n) seq id full save (rest_then now n rest)
happens_rest n (Timer now) save fit rest = timer_rest (at_moment now n) save (rest_then now n rest)
happens_rest n (Submit now tx) save fit rest =
    let m : Node = at_moment now n in
    submit_either (λ reply. IsAtRest reply.node) m tx (λ _. rest_then now n rest) (elsewhere m m.ledgers (with_pending tx m.round) m.kept m.failed_save (rest_then now n rest))
happens_rest n (Frame now bytes) save fit rest =
    hearing_either (λ reply. IsAtRest reply.node) (at_moment now n) bytes (λ _. rest_then now n rest) (λ said _. taking_rest (at_moment now n) said.from said.what (rest_then now n rest))
happens_rest n (Relist now list) save fit rest =
    relist_either (λ reply. IsAtRest reply.node) (at_moment now n) list (λ _. rest_then now n rest) (λ _. set_rest (at_moment now n) list fit)

-- every life
pub life_rest : (n : Node) (life : List Happening) → All IsFit life → IsAtRest n → IsAtRest (node_after n life)
life_rest n [] fit rest = rest
life_rest n (h ∷ hs) fit rest = life_rest (happens n h.event h.save).node hs (All-tail IsFit h hs fit) (happens_rest n h.event h.save (All-head IsFit h hs fit) rest)
