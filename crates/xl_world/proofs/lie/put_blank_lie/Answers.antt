use Rattle.std.proofs.Common.{◌≡◌, ◌∙◌, ap, subst, take, true}
use Rattle.xl_wire.specs.declared.body.Body.{Body}
use Rattle.xl_wire.specs.Frames.{raw_of}
use Rattle.xl_wire.specs.Raws.{SpellsRaw}
use Rattle.xl_tags.specs.Rings.{schedule_ring}
use Rattle.xl_core.specs.Sending.{blank_frame, has_spelling, sealed_bytes}
use Rattle.xl_world.proofs.lie.put_blank_lie.Goals as goal

pub returns-clause-spelled : goal.returns-clause-spelled
returns-clause-spelled c =
    subst (λ (body : Body). SpellsRaw (raw_of (blank_frame c.args.from c.args.to body)) (take c.put_blank.result c.put_blank.new.room)) c.body.ensures c.put_blank.ensures.spelled

pub returns-clause-heard : goal.returns-clause-heard
returns-clause-heard c = c.put_blank.ensures.heard ∙ ap (sealed_bytes (schedule_ring c.args.from) c.args.from c.args.to) c.body.ensures

pub returns-clause-has : goal.returns-clause-has
returns-clause-has c = subst (λ (body : Body). has_spelling c.args.from c.args.to body ≡ true) c.body.ensures c.put_blank.ensures.has
