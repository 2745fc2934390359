-- What a frame carries is what is taken of its bytes.
use Rattle.std.proofs.Common.{◌≡◌, ℕ, List, refl, sym}
use Rattle.xl_wire.specs.declared.body.Body.{Body}
use Rattle.xl_wire.specs.Raws.{RawFrame}
use Rattle.xl_core.specs.declared.hearing.Spoken.{Spoken}
use Rattle.xl_core.specs.Hearing.{Carries, speech_of}
use Rattle.xl_core.specs.Node.{Node, bytes_reply, speech_reply}
use Rattle.xl_core.proofs.Frames.{something_heard}
use Rattle.xl_core.proofs.Heard.{carried}

pub carried_reply : (n : Node) (bytes : List ℕ) (f : RawFrame) (body : Body) → Carries n.keys n.list.members bytes f body → speech_reply n f.from (speech_of body) ≡ bytes_reply n bytes
carried_reply n bytes f body c =
    let said : Spoken = record { from = f.from; what = speech_of body } in
    (something_heard n bytes said (speech_of body) (sym (carried n.keys n.list.members bytes f body c)) refl).1
