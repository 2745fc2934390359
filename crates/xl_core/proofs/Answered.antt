-- What the code does is what the definitions say.
use Rattle.std.proofs.Common.{◌≡◌, ℕ, ◌*◌, ◌<◌, Bool, true, false, List, length, refl, arith, ap, sym, ◌∙◌, Option, Some, None, subst, Result, Ok, Err}
use Rattle.std.specs.Prelude.{IsSome, is_some, map, filter_map, option_map}
use Rattle.xl_base.specs.declared.ids.LedgerId.{LedgerId}
use Rattle.xl_lists.specs.Lists.{IsValid, is_on}
use Rattle.xl_wire.specs.declared.validation.Validation.{Validation}
use Rattle.xl_validations.specs.declared.row.Row.{Row}
use Rattle.xl_validations.specs.declared.refusal.ValRefusal.{ValRefusal}
use Rattle.xl_validations.specs.Rows.{row_of, refusal_of, with_validation, at_member}
use Rattle.std.proofs.lemmas.List.{length-map}
use Rattle.xl_core.specs.declared.last.LastReport.{LastReport}
use Rattle.xl_core.specs.declared.report.Report.{Report}
use Rattle.xl_core.specs.Lasts.{last_after}
use Rattle.xl_core.specs.declared.refusal.Refusal.{Refusal}
use Rattle.xl_core.specs.Answers.{Took, Done}
use Rattle.xl_core.specs.declared.taken.Taken.TheVariants.{Validation as TakenValidation}
use Rattle.xl_core.specs.Node.{Node, Reply, speech_reply, taken_reply, reply_unless, reporting_reply, with_taken, take, new_report, arisen_in, arises_in, refusal_at, second_of}
use Rattle.xl_core.specs.Node.{own_issued_reply, report_if, told_by, with_own}
use Rattle.xl_core.specs.declared.hearing.Speech.TheVariants as speech
use Rattle.xl_core.specs.Refusals.{refusal_from}
use Rattle.xl_core.specs.Rest.{IsAtRest, NothingArises}
use Rattle.xl_core.specs.declared.taken.Heard.{Heard}
use Rattle.xl_core.specs.Replies.{hear_reply, issue_reply}
use Rattle.xl_core.proofs.Members.{row_if_on, members_stay, nobody_changes, refused_stays, taken_changes}
use Rattle.xl_core.proofs.Arising.{arisen_by, rest_reported, nothing_arisen}

-- a member has a row
pub has_row : (n : Node) (from : ℕ) → IsAtRest n → is_on n.list.members from ≡ true → IsSome (row_of n.rows from)
has_row n from rest on = sym (row_if_on n.rows from) ∙ ap (λ ms. is_on ms from) rest.members ∙ on

-- who is on no list has none
pub has_none : (n : Node) (from : ℕ) → IsAtRest n → is_on n.list.members from ≡ false → row_of n.rows from ≡ None
has_none n from rest off = none (row_of n.rows from) (sym (row_if_on n.rows from) ∙ ap (λ ms. is_on ms from) rest.members ∙ off)
  where
    none : (o : Option Row) → is_some o ≡ false → o ≡ None
    none None e = refl
    none (Some row) e = cc

-- A ROW TAKES A VALIDATION

-- a quorum is more than half of the rows
pub few_rows : (n : Node) (rows : List Row) → IsValid n.list → map (λ row. row.member) rows ≡ n.list.members → length rows < 2 * n.list.quorum
few_rows n rows valid members = omega (arith, valid.majority, ap length members, length-map rows (λ (row : Row). row.member))

-- what the rows report then
pub arisen_then : (n : Node) (from : ℕ) (v : Validation) (rows : List Row) → IsAtRest n → IsSome (row_of n.rows from) → rows ≡ at_member from (with_validation v) n.rows →
    arisen_in n.list.quorum rows n.last ≡ report_if (arises_in n.list.quorum rows n.last v) v
arisen_then n from v rows rest has is_rows =
    subst (λ rs. arisen_in n.list.quorum rs n.last ≡ report_if (arises_in n.list.quorum rs n.last v) v) (sym is_rows) (arisen_by n.list.quorum n.rows n.last from v rest.reported has)

pub rest_when_taken : (n : Node) (from : ℕ) (v : Validation) (rows : List Row) (report : Option Report) (last : LastReport) → IsAtRest n → IsSome (row_of n.rows from) → rows ≡ at_member from (with_validation v) n.rows →
    report ≡ report_if (arises_in n.list.quorum rows n.last v) v → last ≡ last_after n.last report → IsAtRest (record n { rows = rows; last = last })
rest_when_taken n from v rows report last rest has is_rows is_report is_last =
    let members : map (λ (row : Row). row.member) rows ≡ n.list.members = ap (map (λ (row : Row). row.member)) is_rows ∙ members_stay from (with_validation v) (λ _. refl) n.rows ∙ rest.members in
    record {
      valid = rest.valid;
      members = members;
      reported = subst (NothingArises n.list.quorum rows) (sym (is_last ∙ ap (last_after n.last) (is_report ∙ sym (arisen_then n from v rows rest has is_rows))))
          (rest_reported n.list.quorum rows n.last (few_rows n rows rest.valid members));
    }

abbrev pub validated : Option Report → Heard
validated report = record { taken = TakenValidation; report = report }

pub answer_when_taken : (n : Node) (from : ℕ) (v : Validation) (rows : List Row) (report : Option Report) (last : LastReport) → IsAtRest n → is_on n.list.members from ≡ true →
    None ≡ refusal_of n.rows from (second_of n) v → rows ≡ at_member from (with_validation v) n.rows → report ≡ report_if (arises_in n.list.quorum rows n.last v) v → last ≡ last_after n.last report →
    hear_reply (Ok (validated report)) (record n { rows = rows; last = last }) ≡ speech_reply n from (speech.Validation v)
answer_when_taken n from v rows report last rest on unrefused is_rows is_report is_last =
    let arises_so : new_report (record n { rows = rows }) ≡ report = arisen_then n from v rows rest (has_row n from rest on) is_rows ∙ sym is_report in
    let with_last = λ (l : LastReport). let r : Reply = hear_reply (Ok (validated report)) (record n { rows = rows; last = l }) in r in
    let with_report = λ (rp : Option Report). let r : Reply = hear_reply (Ok (validated rp)) (record n { rows = rows; last = last_after n.last rp }) in r in
    ap with_last is_last
    ∙ ap with_report (sym arises_so)
    ∙ ap (λ rs. reporting_reply (record n { rows = rs }) (Took TakenValidation) None) (is_rows ∙ sym (taken_changes from (second_of n) v n.rows (sym unrefused)))
    ∙ ap (λ (o : Option ValRefusal). reply_unless n (option_map refusal_from o) (taken_reply n from (speech.Validation v))) unrefused

-- WHERE NO ROW CHANGES

pub stays : (n : Node) (rows : List Row) (issued : Option Validation) → IsAtRest n → rows ≡ n.rows → (n ≡ (reporting_reply (record n { rows = rows }) Done issued).node) × (None ≡ new_report (record n { rows = rows }))
stays n rows issued rest same =
    let none : (rs : List Row) → rs ≡ n.rows → None ≡ new_report (record n { rows = rs }) =
    λ rs e. subst (λ x. None ≡ new_report (record n { rows = x })) (sym e) (sym (nothing_arisen n.list.quorum n.rows n.last rest.reported (filter_map (λ row. row.current) n.rows))) in
    (ap (λ rs. let m : Node = record n { rows = rs } in m) (sym same) ∙ ap (λ o. let m : Node = record n { rows = rows; last = last_after n.last o } in m) (none rows same), none rows same)

vote_node : (r : Result Heard Refusal) (m : Node) → (hear_reply r m).node ≡ m
vote_node (Ok heard) m = refl
vote_node (Err why) m = refl

-- the node is the same if the row refuses
heard_own : (n : Node) (from : ℕ) (v : Validation) (o : Option ValRefusal) → IsAtRest n → refusal_at n (second_of n) from v ≡ o →
    let reply = reply_unless n (option_map refusal_from o) (taken_reply n from (speech.Validation v)) in
    (reply.node ≡ (reporting_reply (with_taken n (second_of n) from v) Done (Some v)).node) × (reply.report ≡ new_report (with_taken n (second_of n) from v))
heard_own n from v None rest is = (refl, refl)
heard_own n from v (Some why) rest is = stays n (at_member from (take (second_of n) v) n.rows) (Some v) rest (refused_stays from (second_of n) v why n.rows is)

pub own_taken : (n : Node) (from : ℕ) (v : Validation) (r : Result Heard Refusal) (m : Node) → IsAtRest n → hear_reply r m ≡ speech_reply n from (speech.Validation v) →
    (m ≡ (reporting_reply (with_taken n (second_of n) from v) Done (Some v)).node) × ((hear_reply r m).report ≡ new_report (with_taken n (second_of n) from v))
own_taken n from v r m rest is =
    let heard = heard_own n from v (refusal_at n (second_of n) from v) rest refl in
    (sym (vote_node r m) ∙ ap (λ (x : Reply). x.node) is ∙ heard.0, ap (λ (x : Reply). x.report) is ∙ heard.1)

-- nor if the node isn't on its list
pub own_not_listed : (n : Node) (now : ℕ) (v : Validation) → IsAtRest n → is_on n.list.members n.me ≡ false →
    (n ≡ (reporting_reply (with_taken n now n.me v) Done (Some v)).node) × (None ≡ new_report (with_taken n now n.me v))
own_not_listed n now v rest off = stays n (at_member n.me (take now v) n.rows) (Some v) rest (nobody_changes n.me (take now v) n.rows (has_none n n.me rest off))

-- WHAT IS ISSUED

-- the validation that is issued, and the report that it gives, if the own row takes it
pub own_reply : (n m : Node) (v : Validation) (heard : Result Heard Refusal) (report : Option Report) → IsAtRest n → hear_reply heard m ≡ speech_reply n n.me (speech.Validation v) → report ≡ (hear_reply heard m).report →
    issue_reply (Ok (record { validation = v; report = report })) m ≡ reporting_reply (with_own n v) Done (Some v)
own_reply n m v heard report rest is told =
    let own = own_taken n n.me v heard m rest is in
    ap (λ (x : Node). issue_reply (Ok (record { validation = v; report = report })) x) own.0
    ∙ ap (λ (r : Option Report). issue_reply (Ok (record { validation = v; report = r })) (reporting_reply (with_own n v) Done (Some v)).node) (told ∙ own.1)

-- or if the node has none
pub own_reply_off : (n : Node) (v : Validation) → IsAtRest n → is_on n.list.members n.me ≡ false → issue_reply (Ok (record { validation = v; report = None })) n ≡ reporting_reply (with_own n v) Done (Some v)
own_reply_off n v rest off =
    let own = own_not_listed n (second_of n) v rest off in
    ap (λ (x : Node). issue_reply (Ok (record { validation = v; report = None })) x) own.0
    ∙ ap (λ (r : Option Report). issue_reply (Ok (record { validation = v; report = r })) (reporting_reply (with_own n v) Done (Some v)).node) own.1

-- the validation as the code has it
pub own_issued : (n m : Node) (seq : ℕ) (id : LedgerId) (full : Bool) (signed : ℕ) (validated : Option LedgerId) → n ≡ m → signed ≡ second_of n → validated ≡ told_by m →
    let v : Validation = record { id = id; seq = seq; signed = signed; full = full; validated = validated } in
    reporting_reply (with_own (record n { kept = seq }) v) Done (Some v) ≡ own_issued_reply m seq id full
own_issued n m seq id full signed validated same at told =
    let issued = λ (s : ℕ) (o : Option LedgerId). let v : Validation = record { id = id; seq = seq; signed = s; full = full; validated = o } in let r : Reply = reporting_reply (with_own (record n { kept = seq }) v) Done (Some v) in r in
    ap (λ (s : ℕ). issued s validated) at
    ∙ (ap (issued (second_of n)) (told ∙ ap told_by (sym same)) ∙ ap (λ (x : Node). own_issued_reply x seq id full) same)

pub saved_rest : (n : Node) (seq : ℕ) → IsAtRest n → IsAtRest (record n { kept = seq })
saved_rest n seq rest = record { valid = rest.valid; members = rest.members; reported = rest.reported }
