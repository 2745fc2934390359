-- what is kept of a frame says what the frame says
use Rattle.std.proofs.Common.{◌≡◌, ◌++◌, List, ℕ, ap, sym, subst, ◌∙◌, arith}
use Rattle.std.specs.Prelude.{OnOk}
use Rattle.std.specs.String.{string_bytes}
use Rattle.xl_tags.specs.Rings.{schedule_ring}
use Rattle.xl_told.specs.Bodies.{said_text}
use Rattle.xl_wire.specs.Frames.{decoded_of}
use Rattle.xl_world.specs.Sending.{Sent}
use Rattle.xl_tell.proofs.Sealed.{said_sealed}
use Rattle.xl_tell.proofs.sent.push_kept.Goals as goal

pub returns-clause-told : goal.returns-clause-told
returns-clause-told c =
    let names = c.args.reader.now.names in
    let kept = c.args.kept.now in
    let same : said_text names (decoded_of c.args.frame.now.bytes) ≡ said_text names (decoded_of kept) =
    ap (λ (f : Sent). said_text names (decoded_of f.bytes)) c.requires.kept ∙ said_sealed names (schedule_ring c.args.frame.now.to) kept (λ i. omega (arith, c.type_inv.kept i)) in
    subst (λ (said : List ℕ). OnOk c.push_bytes.result (string_bytes c.push_bytes.new.text ≡ string_bytes c.args.text.now ++ said)) (sym same) c.push_bytes.ensures.told
