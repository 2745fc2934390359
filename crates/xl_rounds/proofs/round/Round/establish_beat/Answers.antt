use Rattle.std.proofs.Common.{◌≡◌, ◌-◌, ap, ◌∙◌}
use Rattle.xl_rounds.specs.Rounds.{Round}
use Rattle.xl_rounds.specs.Heartbeats.{HeartbeatReply, establish_reply, establish_beat}
use Rattle.xl_rounds.proofs.HeartbeatLaws.{no_longer_young}
use Rattle.xl_rounds.proofs.round.Round.establish_beat.Goals as goal
use Rattle.xl_rounds.proofs.round.Round.establish_beat.Goals.{After-establish}

same_beat : (c : After-establish) → establish_reply c.saturating_sub-round_ms.result c.secs_of.result c.args.finished c.args.self.now ≡ establish_beat c.args.now c.args.finished c.args.self.now
same_beat c =
    no_longer_young c.args.now c.args.finished c.saturating_sub-round_ms.result c.secs_of.result c.args.self.now
    (c.saturating_sub-round_ms.ensures ∙ ap (λ (s : Round). c.args.now - s.stance.closed) c.self.view_is) c.if-round_ms-lt-LEAST_MS.false c.secs_of.ensures

pub returns-clause-told : goal.returns-clause-told
returns-clause-told c = c.establish.ensures.told ∙ ap (λ (b : HeartbeatReply). b.answer) (same_beat (goal.at.returns-clause-told c).After-establish)

pub returns-clause-after : goal.returns-clause-after
returns-clause-after c = c.establish.ensures.after ∙ ap (λ (b : HeartbeatReply). b.round) (same_beat (goal.at.returns-clause-after c).After-establish)
