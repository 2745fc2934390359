-- part after part; the members are those that were noted, and the round is the node's
use Rattle.std.proofs.Common.{◌≡◌, List, ℕ, ◌++◌, OnOk, subst}
use Rattle.std.specs.String.{string_bytes}
use Rattle.xl_noted.specs.declared.members.NotedMember.{NotedMember}
use Rattle.xl_noted.specs.Seen.{noted_seen, round_seen}
use Rattle.xl_rounds.specs.Rounds.{Round}
use Rattle.xl_held.specs.Changes.{agreement_changed, ledgers_changed, proposals_changed, reports_changed, round_changed, rows_changed, settings_changed}
use Rattle.xl_held.proofs.Writing.{last_written, then_written}
use Rattle.xl_held.proofs.changes.push_changed.Goals as goal

pub returns : goal.returns
returns c =
    let names = c.args.reader.now.names in
    let i = c.args.number in
    let node = c.args.node.now in
    let kept = c.args.before.now in
    let before = noted_seen kept in
    let part = round_seen kept.round in
    let old = string_bytes c.args.text.now in
    let now = string_bytes c.push_new_agreement.new.text in
    let result = c.push_new_agreement.result in
    let members : List NotedMember = c.as_slice-members.result.now in
    let round : Round = c.round-round.result.now in
    let settings : List ℕ = settings_changed i before node in
    let ledgers : List ℕ = ledgers_changed names i kept.ledgers node in
    let reports : List ℕ = reports_changed names i before node in
    let rows : List ℕ = rows_changed names i members node in
    let own : List ℕ = round_changed names i part round in
    let others : List ℕ = proposals_changed names i members node in
    subst (λ (ms : List NotedMember). OnOk result (now ≡ old ++ (settings ++ rows_changed names i ms node ++ ledgers ++ reports ++ round_changed names i part node.round ++ proposals_changed names i ms node ++ agreement_changed i part node.round)))
    c.as_slice-members.ensures.value
    (subst (λ (r : Round). OnOk result (now ≡ old ++ (settings ++ rows ++ ledgers ++ reports ++ round_changed names i part r ++ others ++ agreement_changed i part r))) c.round-round.ensures
    (last_written old (settings ++ rows ++ ledgers ++ reports ++ own ++ others) (agreement_changed i part round) (string_bytes c.push_new_proposals.new.text) now result
    (then_written old (settings ++ rows ++ ledgers ++ reports ++ own) others (string_bytes c.push_new_part.new.text) (string_bytes c.push_new_proposals.new.text)
    (then_written old (settings ++ rows ++ ledgers ++ reports) own (string_bytes c.push_new_reports.new.text) (string_bytes c.push_new_part.new.text)
    (then_written old (settings ++ rows ++ ledgers) reports (string_bytes c.push_new_ledgers.new.text) (string_bytes c.push_new_reports.new.text)
    (then_written old (settings ++ rows) ledgers (string_bytes c.push_new_rows.new.text) (string_bytes c.push_new_ledgers.new.text)
    (then_written old settings rows (string_bytes c.push_new_settings.new.text) (string_bytes c.push_new_rows.new.text) c.in_ok-push_new_settings.ensures c.in_ok-push_new_rows.ensures)
    c.in_ok-push_new_ledgers.ensures) c.in_ok-push_new_reports.ensures) c.in_ok-push_new_part.ensures) c.in_ok-push_new_proposals.ensures)
    c.push_new_agreement.ensures))
