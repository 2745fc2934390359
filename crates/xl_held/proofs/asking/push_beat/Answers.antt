-- part after part; the round is the node's
use Rattle.std.proofs.Common.{◌≡◌, List, ℕ, ◌++◌, OnOk, [], subst}
use Rattle.std.specs.String.{string_bytes}
use Rattle.xl_noted.specs.Seen.{round_seen}
use Rattle.xl_rounds.specs.Rounds.{Round}
use Rattle.xl_held.specs.Changes.{agreement_changed, proposals_changed, round_changed}
use Rattle.xl_held.proofs.Writing.{last_written, then_written}
use Rattle.xl_held.proofs.asking.push_beat.Goals as goal

pub returns : goal.returns
returns c =
    let names = c.args.reader.now.names in
    let i = c.args.number in
    let node = c.args.node.now in
    let part = round_seen c.args.before.now in
    let old = string_bytes c.args.text.now in
    let now = string_bytes c.push_new_agreement.new.text in
    let result = c.push_new_agreement.result in
    let round : Round = c.round-round.result.now in
    let positions : List ℕ = proposals_changed names i [] node in
    subst (λ (r : Round). OnOk result (now ≡ old ++ (round_changed names i part r ++ positions ++ agreement_changed i part r))) c.round-round.ensures
    (last_written old (round_changed names i part round ++ positions) (agreement_changed i part round) (string_bytes c.push_first_proposals.new.text) now result
    (then_written old (round_changed names i part round) positions (string_bytes c.push_new_part.new.text) (string_bytes c.push_first_proposals.new.text) c.in_ok-push_new_part.ensures c.in_ok-push_first_proposals.ensures)
    c.push_new_agreement.ensures)
