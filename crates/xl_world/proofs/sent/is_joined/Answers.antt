use Rattle.std.proofs.Common.{◌∙◌, ap, length, sym, take}
use Rattle.std.proofs.lemmas.List.{take_rest}
use Rattle.std.proofs.lemmas.Slice.Eq.{bytes_eq-Decides}
use Rattle.std.specs.Str.{bytes_eq}
use Rattle.xl_world.proofs.Sealing.{first_differs, first_same}
use Rattle.xl_world.proofs.sent.is_joined.Goals as goal

pub returns-then-eq : goal.returns-then-eq
returns-then-eq c =
    first_same c.args.front.now c.args.last.now c.args.bytes.now c.eq-then-eq.result
    ((bytes_eq-Decides (take (length c.args.front.now) c.args.bytes.now) c.args.front.now).0 (sym c.eq.ensures ∙ c.if-eq.true))
    (c.eq-then-eq.ensures ∙ ap (λ rest. bytes_eq rest c.args.last.now) (take_rest c.args.bytes.now (length c.args.front.now)))

pub returns-else-eq : goal.returns-else-eq
returns-else-eq c = c.if-eq.false ∙ first_differs c.args.front.now c.args.last.now c.args.bytes.now (sym c.if-eq.false ∙ c.eq.ensures)
