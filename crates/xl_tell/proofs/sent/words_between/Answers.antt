-- the frame in which a body is said says that body
use Rattle.std.proofs.Common.{ℕ, ap, sym, ◌∙◌, arith}
use Rattle.xl_tags.specs.Rings.{schedule_ring}
use Rattle.xl_told.specs.Bodies.{body_text, said_text}
use Rattle.xl_wire.specs.declared.body.Body.{Body}
use Rattle.xl_wire.specs.Frames.{decoded_of}
use Rattle.xl_core.specs.Sending.{sealed_bytes}
use Rattle.xl_world.proofs.Carrying.{spelled_between}
use Rattle.xl_tell.proofs.Sealed.{said_body}
use Rattle.xl_tell.proofs.sent.words_between.Goals as goal

pub returns : goal.returns
returns c =
    let from : ℕ = c.args.from in
    let to : ℕ = c.args.to in
    let body : Body = c.body-body.result in
    λ names.
    ap (λ (b : Body). said_text names (decoded_of (sealed_bytes (schedule_ring from) from to b))) (sym c.body-body.ensures.value)
    ∙ (said_body names (schedule_ring from) from to body (spelled_between from to body (omega arith, omega arith) (omega arith, omega arith) c.body-body.ensures.fits) c.body-body.ensures.fits
    ∙ ap (λ (b : Body). body_text names b) c.body-body.ensures.value)
