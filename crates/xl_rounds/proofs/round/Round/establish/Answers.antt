-- the lines of a heartbeat come in the order of the definition, each on the round that the one before left
use Rattle.std.proofs.Common.{ap, ◌∙◌}
use Rattle.xl_rounds.specs.Heartbeats.{HeartbeatReply}
use Rattle.xl_rounds.proofs.HeartbeatLaws.{with_ready, heartbeat_of, AreLines, told_by, left_by, decided_first}
use Rattle.xl_rounds.proofs.round.Round.establish.Goals as goal
use Rattle.xl_rounds.proofs.round.Round.establish.Goals.{After-outcome-reached}

lines : (c : After-outcome-reached) → AreLines c.decide-decision.result c.decide-decision.new.self c.renew_if-said.new.self c.is_renewed-is_new.result c.renew_if-said.result
    c.tally.result c.consensus_of-found.result c.outcome-reached.result c.args.round_ms c.args.second c.args.finished
lines c = record {
  new = c.is_renewed-is_new.ensures;
  said_is = c.renew_if-said.ensures.said;
  after_is = c.renew_if-said.ensures.renewed;
  tally_is = c.tally.ensures.value;
  found_is = c.consensus_of-found.ensures;
  reached_is = c.outcome-reached.ensures;
}

pub returns-clause-told : goal.returns-clause-told
returns-clause-told c =
    ap (λ k. heartbeat_of k c.renew_if-said.result) c.kind_of.ensures
    ∙ told_by c.decide-decision.result c.decide-decision.new.self c.renew_if-said.new.self c.is_renewed-is_new.result c.renew_if-said.result c.tally.result c.consensus_of-found.result
    c.outcome-reached.result c.args.round_ms c.args.second c.args.finished (lines (goal.at.returns-clause-told c).After-outcome-reached)
    ∙ ap (λ (b : HeartbeatReply). b.answer) (decided_first c.decide-decision.result c.decide-decision.new.self c.args.self.now c.args.round_ms c.args.second c.args.finished c.decide-decision.ensures.decision c.decide-decision.ensures.voted)

pub returns-clause-after : goal.returns-clause-after
returns-clause-after c =
    ap (with_ready c.ready_after-self-inside.result) c.self.view_is
    ∙ ap (λ o. with_ready o c.renew_if-said.new.self) c.ready_after-self-inside.ensures
    ∙ left_by c.decide-decision.result c.decide-decision.new.self c.renew_if-said.new.self c.is_renewed-is_new.result c.renew_if-said.result c.tally.result c.consensus_of-found.result
    c.outcome-reached.result c.args.round_ms c.args.second c.args.finished (lines (goal.at.returns-clause-after c).After-outcome-reached)
    ∙ ap (λ (b : HeartbeatReply). b.round) (decided_first c.decide-decision.result c.decide-decision.new.self c.args.self.now c.args.round_ms c.args.second c.args.finished c.decide-decision.ensures.decision c.decide-decision.ensures.voted)
