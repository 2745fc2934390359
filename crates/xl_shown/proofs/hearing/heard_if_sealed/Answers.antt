-- a core hears what its keys and its list let it hear
use Rattle.std.proofs.Common.{◌≡◌, ◌∙◌, ap, subst, sym}
use Rattle.xl_core.specs.Node.{Node}
use Rattle.xl_lists.specs.Lists.{TrustedList}
use Rattle.xl_tags.specs.Rings.{Ring}
use Rattle.xl_shown.specs.Showing.{IsHeardIfAny, MayHear}
use Rattle.xl_shown.proofs.hearing.heard_if_sealed.Goals as goal

pub returns-in-Frame : goal.returns-in-Frame
returns-in-Frame c =
    let n : Node = c.args.core.now.node in
    let keys : c.keys.result.now ≡ n.keys = c.keys.ensures.value ∙ ap (λ (x : Node). x.keys) c.node-node.ensures.value in
    let list : c.list.result.now ≡ n.list = c.list.ensures ∙ ap (λ (x : Node). x.list) c.node-node.ensures.value in
    subst (λ e. MayHear c.args.core.now e c.heard_bytes.result) (sym c.in-Frame.is)
    (subst (λ bytes. IsHeardIfAny n.keys n.list.members bytes c.heard_bytes.result) c.as_slice.ensures
    (subst (λ (l : TrustedList). IsHeardIfAny n.keys l.members c.as_slice.result.now c.heard_bytes.result) list
    (subst (λ (k : Ring). IsHeardIfAny k c.list.result.now.members c.as_slice.result.now c.heard_bytes.result) keys c.heard_bytes.ensures)))
