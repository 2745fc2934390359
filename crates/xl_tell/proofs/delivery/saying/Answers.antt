-- what is said is a body, so it has a spelling
use Rattle.std.proofs.Common.{ℕ, ap, sym, ◌∙◌, arith}
use Rattle.xl_wire.specs.declared.body.Body.{Body}
use Rattle.xl_wire.specs.Heads.{raw_in}
use Rattle.xl_tags.specs.Rings.{schedule_ring}
use Rattle.xl_core.specs.declared.hearing.Spoken.{Spoken}
use Rattle.xl_core.specs.Hearing.{said_in, speech_of}
use Rattle.xl_core.specs.Sending.{sealed_bytes}
use Rattle.xl_world.proofs.Carrying.{spelled_between}
use Rattle.xl_tell.proofs.Heard.{sealed_says}
use Rattle.xl_tell.proofs.delivery.saying.Goals as goal

pub returns : goal.returns
returns c =
    let from : ℕ = c.args.from in
    let to : ℕ = c.args.to in
    let body : Body = c.body-body.result in
    ap (λ (b : Body). said_in (raw_in (sealed_bytes (schedule_ring from) from to b))) (sym c.body-body.ensures.value)
    ∙ (sealed_says (schedule_ring from) from to body (spelled_between from to body (omega arith, omega arith) (omega arith, omega arith) c.body-body.ensures.fits) c.body-body.ensures.fits
    ∙ ap (λ (b : Body). let said : Spoken = record { from = from; what = speech_of b } in said) c.body-body.ensures.value)
