-- a line that is no vote changes nothing when it is read as one, so that it is stepped as any other line
use Rattle.std.specs.String.{string_bytes}
use Rattle.xl_lines.specs.declared.machine.Next.{Next}
use Rattle.xl_lines.specs.Rules.{step_given}
use Rattle.xl_running.specs.Running.{answer_in}
use Rattle.xl_sched.specs.Favors.{favor_line}
use Rattle.xl_voting.specs.States.{state_of}
use Rattle.xl_voting.specs.Tallying.{tally_keeping}
use Rattle.xl_voting.specs.Voting.{after_answer, after_favored}
use Rattle.xl_voting.proofs.Happening.{no_favor, then_ok}
use Rattle.xl_voting.proofs.voter.VoterMachine.line.Goals as goal

pub returns-in-Ok-None : goal.returns-in-Ok-None
returns-in-Ok-None c =
    let r = c.args.self.now.running in
    let r2 = c.read_favor.new.self in
    let v = c.args.self.now.tally in
    let bytes = c.args.line.now in
    then_ok c.other_line.result (λ (next : Next). step_given next (string_bytes c.other_line.new.text) (state_of c.other_line.new.self)) (after_answer tally_keeping r2 v (answer_in r2 bytes))
    (after_favored tally_keeping r v bytes (favor_line r.reading bytes))
    (no_favor r r2 v bytes c.in-Ok-None.field-0 c.in-Ok-None.field-0-is c.in-Ok-None.ensures.read c.in-Ok-None.ensures.known)
    c.other_line.ensures
