-- part after part; the round is the node's
use Rattle.std.proofs.Common.{◌≡◌, ◌==◌, List, ℕ, ◌++◌, OnOk, subst}
use Rattle.std.specs.String.{string_bytes}
use Rattle.xl_noted.specs.Same.{is_same_position}
use Rattle.xl_rounds.specs.Positions.{position_of}
use Rattle.xl_rounds.specs.Rounds.{Round}
use Rattle.xl_held.specs.Changes.{agreement_since, unless}
use Rattle.xl_held.specs.Lines.{proposal_line, time_line}
use Rattle.xl_held.proofs.Writing.{last_written, then_written}
use Rattle.xl_held.proofs.hearing.push_proposal_heard.Goals as goal

pub returns : goal.returns
returns c =
    let names = c.args.reader.now.names in
    let i = c.args.number in
    let node = c.args.node.now in
    let before = c.args.before.now in
    let old = string_bytes c.args.text.now in
    let now = string_bytes c.push_new_agreement.new.text in
    let result = c.push_new_agreement.result in
    let time : ℕ → List ℕ = λ t. unless (before.time == t) (time_line i t) in
    let position : Round → List ℕ = λ r. unless (is_same_position before.position (position_of r.positions before.member)) (proposal_line names i before.member (position_of r.positions before.member)) in
    let agreement : Round → List ℕ = agreement_since i before.agreeing before.proposers in
    let first : Round = c.round.result.now in
    let second : Round = c.round-2.result.now in
    subst (λ (t : ℕ). OnOk result (now ≡ old ++ (time t ++ position node.round ++ agreement node.round))) c.time.ensures.value
    (subst (λ (r : Round). OnOk result (now ≡ old ++ (time c.time.result ++ position r ++ agreement node.round))) c.round.ensures
    (subst (λ (r : Round). OnOk result (now ≡ old ++ (time c.time.result ++ position first ++ agreement r))) c.round-2.ensures
    (last_written old (time c.time.result ++ position first) (agreement second) (string_bytes c.push_heard_position.new.text) now result
    (then_written old (time c.time.result) (position first) (string_bytes c.push_new_time.new.text) (string_bytes c.push_heard_position.new.text) c.in_ok-push_new_time.ensures c.in_ok-push_heard_position.ensures)
    c.push_new_agreement.ensures)))
