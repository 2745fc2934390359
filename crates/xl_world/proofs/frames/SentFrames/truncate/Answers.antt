use Rattle.std.proofs.Common.{◌∙◌, List, ap, map, sym, take}
use Rattle.std.proofs.lemmas.List.{take-map}
use Rattle.xl_world.specs.Sending.{Sent}
use Rattle.xl_world.specs.Worlds.{frame_of_place}
use Rattle.xl_world.proofs.frames.SentFrames.truncate.Goals as goal

pub returns : goal.returns
returns c =
    let frame = frame_of_place c.self.inside.bytes.items c.self.inside.said.items in
    ap (map frame) c.truncate.ensures.items ∙ (sym (take-map frame c.args.count c.self.inside.places.items) ∙ ap (λ (fs : List Sent). take c.args.count fs) c.self.view_is)
