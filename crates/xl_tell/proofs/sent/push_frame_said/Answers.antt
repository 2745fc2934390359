-- the frame is the one that is kept as this
use Rattle.std.proofs.Common.{◌≡◌, ◌++◌, ℕ, ap, sym, subst, ◌∙◌}
use Rattle.std.specs.Prelude.{OnOk}
use Rattle.std.specs.String.{string_bytes}
use Rattle.xl_told.specs.Bodies.{said_text}
use Rattle.xl_wire.specs.declared.body.Body.{Body}
use Rattle.xl_wire.specs.Frames.{decoded_of}
use Rattle.xl_world.specs.Sending.{Sent, body_said, said_to}
use Rattle.xl_tell.proofs.sent.push_frame_said.Goals as goal

pub returns-in-Some-clause-told : goal.returns-in-Some-clause-told
returns-in-Some-clause-told c =
    let names = c.args.reader.now.names in
    let frame : Sent = c.args.frame.now in
    let body : Body = body_said c.in-Some.said.now in
    let same : said_to c.from-from.result c.to-to.result body ≡ frame =
    ap (λ (m : ℕ). said_to m c.to-to.result body) c.from-from.ensures ∙ (ap (λ (m : ℕ). said_to frame.from m body) c.to-to.ensures ∙ sym c.in-Some.ensures) in
    subst (λ (f : Sent). OnOk c.push_value.result (string_bytes c.push_value.new.text ≡ string_bytes c.args.text.now ++ said_text names (decoded_of f.bytes))) same c.push_value.ensures.told
