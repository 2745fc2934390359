-- part after part; the round is the node's
use Rattle.std.proofs.Common.{◌≡◌, List, ℕ, ◌++◌, OnOk, subst}
use Rattle.std.specs.String.{string_bytes}
use Rattle.xl_rounds.specs.Rounds.{Round}
use Rattle.xl_held.specs.Changes.{reports_opened, round_opened, settings_opened}
use Rattle.xl_held.specs.Lines.{agreement_line}
use Rattle.xl_held.proofs.Writing.{last_written, then_written}
use Rattle.xl_held.proofs.changes.push_opened.Goals as goal

pub returns : goal.returns
returns c =
    let names = c.args.reader.now.names in
    let i = c.args.number in
    let node = c.args.node.now in
    let old = string_bytes c.args.text.now in
    let now = string_bytes c.push_agreement_line.new.text in
    let round : Round = c.round-round.result.now in
    let settings : List ℕ = settings_opened i node in
    let reports : List ℕ = reports_opened names i node in
    subst (λ (r : Round). OnOk c.push_agreement_line.result (now ≡ old ++ (settings ++ reports ++ round_opened names i r ++ agreement_line i r))) c.round-round.ensures
    (last_written old (settings ++ reports ++ round_opened names i round) (agreement_line i round) (string_bytes c.push_part.new.text) now c.push_agreement_line.result
    (then_written old (settings ++ reports) (round_opened names i round) (string_bytes c.push_reports.new.text) (string_bytes c.push_part.new.text)
    (then_written old settings reports (string_bytes c.push_settings.new.text) (string_bytes c.push_reports.new.text) c.in_ok-push_settings.ensures c.in_ok-push_reports.ensures) c.in_ok-push_part.ensures)
    c.push_agreement_line.ensures)
