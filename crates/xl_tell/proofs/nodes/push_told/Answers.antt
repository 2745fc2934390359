-- of no number nothing is told, nor of one that has no node
use Rattle.std.proofs.Common.{◌≡◌, ◌++◌, ℕ, Option, ap, sym, subst, ◌∙◌, append-nil}
use Rattle.std.specs.Prelude.{OnOk}
use Rattle.std.specs.Option.{option_and_then}
use Rattle.std.specs.String.{string_bytes}
use Rattle.xl_core.specs.Core.{Core}
use Rattle.xl_core.specs.Node.{Node}
use Rattle.xl_tell.specs.Before.{told_at, told_of}
use Rattle.xl_world.specs.World.{core_in}
use Rattle.xl_tell.proofs.nodes.push_told.Goals as goal

pub returns-in_default : goal.returns-in_default
returns-in_default c =
    let names = c.args.reader.now.names in
    let b = c.args.before.now in
    let old = string_bytes c.args.text.now in
    sym (append-nil old) ∙ ap (λ (i : Option ℕ). old ++ told_at names b (option_and_then (core_in c.args.world.now) i)) c.in_default.ensures

pub returns-in-None : goal.returns-in-None
returns-in-None c =
    let names = c.args.reader.now.names in
    let b = c.args.before.now in
    let old = string_bytes c.args.text.now in
    sym (append-nil old)
    ∙ (ap (λ (o : Option Core). old ++ told_at names b o) c.in-None.ensures.core
    ∙ ap (λ (i : Option ℕ). old ++ told_at names b (option_and_then (core_in c.args.world.now) i)) c.in-Some.ensures)

pub returns-in-Some-node : goal.returns-in-Some-node
returns-in-Some-node c =
    let names = c.args.reader.now.names in
    let b = c.args.before.now in
    let old = string_bytes c.args.text.now in
    let now = string_bytes c.push_told_of.new.text in
    let result = c.push_told_of.result in
    subst (λ (i : Option ℕ). OnOk result (now ≡ old ++ told_at names b (option_and_then (core_in c.args.world.now) i))) c.in-Some.ensures
    (subst (λ (o : Option Core). OnOk result (now ≡ old ++ told_at names b o)) c.in-Some-node.ensures.core
    (subst (λ (n : Node). OnOk result (now ≡ old ++ told_of names b n)) c.node-in-Some-node.ensures.value c.push_told_of.ensures))
