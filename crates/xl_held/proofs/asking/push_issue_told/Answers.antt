-- part after part; what is compared is the node's
use Rattle.std.proofs.Common.{◌≡◌, ◌==◌, List, ℕ, ◌++◌, OnOk, Option, subst}
use Rattle.std.specs.String.{string_bytes}
use Rattle.xl_noted.specs.Same.{is_same_number, is_same_row}
use Rattle.xl_validations.specs.Rows.{current_of}
use Rattle.xl_held.specs.Changes.{reports_since, unless}
use Rattle.xl_held.specs.Lines.{issuing_line, kept_line, row_line, time_line}
use Rattle.xl_held.proofs.Writing.{last_written, then_written}
use Rattle.xl_held.proofs.asking.push_issue_told.Goals as goal

pub returns : goal.returns
returns c =
    let names = c.args.reader.now.names in
    let i = c.args.number in
    let node = c.args.node.now in
    let b = c.args.before.now in
    let old = string_bytes c.args.text.now in
    let now = string_bytes c.push_new_reports.new.text in
    let result = c.push_new_reports.result in
    let time : ℕ → List ℕ = λ t. unless (b.vote.time == t) (time_line i t) in
    let kept : ℕ → List ℕ = λ k. unless (b.kept == k) (kept_line i k) in
    let failed : Option ℕ → List ℕ = λ o. unless (is_same_number b.failed_save o) (issuing_line i o) in
    let row : List ℕ = unless (is_same_row b.vote.row (current_of node.rows b.vote.member)) (row_line names i b.vote.member (current_of node.rows b.vote.member)) in
    let reports : List ℕ = reports_since names i b.vote.last b.vote.preferred node in
    let t = c.time.result in
    let k = c.kept.result in
    let o = c.failed_save.result in
    subst (λ (x : ℕ). OnOk result (now ≡ old ++ (time x ++ kept node.kept ++ failed node.failed_save ++ row ++ reports))) c.time.ensures.value
    (subst (λ (x : ℕ). OnOk result (now ≡ old ++ (time t ++ kept x ++ failed node.failed_save ++ row ++ reports))) c.kept.ensures
    (subst (λ (x : Option ℕ). OnOk result (now ≡ old ++ (time t ++ kept k ++ failed x ++ row ++ reports))) c.failed_save.ensures
    (last_written old (time t ++ kept k ++ failed o ++ row) reports (string_bytes c.push_heard_row.new.text) now result
    (then_written old (time t ++ kept k ++ failed o) row (string_bytes c.push_new_issuing.new.text) (string_bytes c.push_heard_row.new.text)
    (then_written old (time t ++ kept k) (failed o) (string_bytes c.push_new_kept.new.text) (string_bytes c.push_new_issuing.new.text)
    (then_written old (time t) (kept k) (string_bytes c.push_new_time.new.text) (string_bytes c.push_new_kept.new.text) c.in_ok-push_new_time.ensures c.in_ok-push_new_kept.ensures)
    c.in_ok-push_new_issuing.ensures) c.in_ok-push_heard_row.ensures) c.push_new_reports.ensures)))
