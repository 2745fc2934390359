use Rattle.std.proofs.Common.{◌≤◌, ◌∙◌, List, ℕ, length, ap, sym, subst, arith}
use Rattle.std.proofs.lemmas.List.{take_all}
use Rattle.xl_wire.specs.Kinds.{span}
use Rattle.xl_wire.specs.Raws.{RawFrame, SpellsRaw, raw_frame}
use Rattle.xl_wire.proofs.RawLaws.{length-raw_bytes, spelled_split}
use Rattle.xl_core.specs.Node.{at_moment}
use Rattle.xl_core.proofs.Frames.{carried_refusal}
use Rattle.xl_core.proofs.the_core.Core.whole_frame.Goals as goal

-- the frame is what splitting its bytes gives
pub hear-requires-clause-parted : goal.hear-requires-clause-parted
hear-requires-clause-parted g c =
    let f : RawFrame = raw_frame c.args.raw.now in
    let bytes : List ℕ = c.args.bytes.now in
    let all : length bytes ≤ span f.body = omega (arith, ap length c.requires.whole.spelling, length-raw_bytes f c.requires.whole.frame.tag) in
    sym (spelled_split bytes f (subst (SpellsRaw f) (sym (take_all (span f.body) bytes all)) c.requires.whole))

-- what is carried is refused by the same test
pub returns-clause-complete : goal.returns-clause-complete
returns-clause-complete g c = λ f body carried.
    c.hear.ensures.refused ∙ carried_refusal (at_moment c.args.now c.args.self.now.node) c.args.bytes.now f body carried
