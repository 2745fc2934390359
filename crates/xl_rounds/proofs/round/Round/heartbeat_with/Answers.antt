use Rattle.std.proofs.Common.{ap, sym, ◌∙◌}
use Rattle.std.specs.Prelude.{is_some}
use Rattle.xl_rounds.specs.declared.heartbeat.Heartbeat.{Heartbeat}
use Rattle.xl_rounds.specs.Rounds.{Round}
use Rattle.xl_rounds.specs.Heartbeats.{is_ready}
use Rattle.xl_rounds.proofs.HeartbeatLaws.{establish_told}
use Rattle.xl_rounds.proofs.round.Round.heartbeat_with.Goals as goal

pub returns-in-Establish-clause-ready : goal.returns-in-Establish-clause-ready
returns-in-Establish-clause-ready c =
    ap (λ (r : Round). is_some r.ready) c.establish_beat.ensures.after
    ∙ (establish_told c.args.now c.args.seen.finished c.args.self.now).ready
    ∙ sym (ap (λ (p : Heartbeat). is_ready p.kind) c.establish_beat.ensures.told)

pub returns-in-Establish-clause-setting : goal.returns-in-Establish-clause-setting
returns-in-Establish-clause-setting c =
    ap (λ (r : Round). r.setting) c.establish_beat.ensures.after ∙ (establish_told c.args.now c.args.seen.finished c.args.self.now).setting
