-- the core's one call is the event of each frame that carries the body, and its report is taken out of what it leaves
use Rattle.std.proofs.Common.{◌∙◌, ap, arith, length, refl, sym}
use Rattle.std.specs.Prelude.{option_map}
use Rattle.xl_core.specs.Core.{Core}
use Rattle.xl_core.specs.Hearing.{speech_of}
use Rattle.xl_core.specs.Node.{Reply, at_moment, speech_reply}
use Rattle.xl_core.specs.declared.event.CoreEvent.TheVariants.{Frame}
use Rattle.xl_world.specs.declared.place.Place.{Place}
use Rattle.xl_world.specs.declared.place.Fate.TheVariants.{Saved}
use Rattle.xl_world.specs.Emptying.{handed_out}
use Rattle.xl_world.specs.World.{reply_at, said_by}
use Rattle.xl_world.proofs.Doing.{frame_quiet, report_left}
use Rattle.xl_world.proofs.Taking.{few_reports, untaken_is}
use Rattle.xl_world.proofs.place.Place.hears_body.Goals as goal

pub take_report-requires-clause-few : goal.take_report-requires-clause-few
take_report-requires-clause-few c =
    let core : Core = c.args.self.now.core in
    let reply : Reply = speech_reply (at_moment c.args.now core.node) c.args.from (speech_of c.args.body.now) in
    omega (
      arith,
      ap length (ap (λ (k : Core). k.untaken.items) c.frame_saying.ensures.step.core ∙ untaken_is core.untaken reply.report c.requires.rested.untaken),
      few_reports reply.report,
    )

pub returns-clause-place : goal.returns-clause-place
returns-clause-place c = λ bytes carries.
    let place : Place = c.args.self.now in
    ap (λ (k : Core). let p : Place = record { core = k; disk = place.disk } in p)
    (c.take_report.ensures.core ∙ ap handed_out (c.frame_saying.ensures.carried bytes carries.0 carries.1 carries.2).core)

pub returns-clause-answer : goal.returns-clause-answer
returns-clause-answer c = λ bytes carries.
    let place : Place = c.args.self.now in
    let did = c.frame_saying.ensures.carried bytes carries.0 carries.1 carries.2 in
    let r = reply_at place (Frame c.args.now bytes) Saved in
    record {
      told = c.tell_taken.ensures ∙ did.answer;
      asked = refl;
      said = ap (option_map (said_by place.core.node.me)) (sym (frame_quiet place.core.node c.args.now bytes));
      report = report_left c.frame_saying.new.self r c.take_report.new.report (untaken_is place.core.untaken r.report c.requires.rested.untaken) did.core c.take_report.ensures.report;
      set = refl;
    }
