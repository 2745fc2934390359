-- the bytes are a set of the sender
use Rattle.std.proofs.Common.{ap, sym, ◌∙◌, arith}
use Rattle.std.proofs.lemmas.Bool.{eqb-true}
use Rattle.xl_wire.specs.Heads.{parts}
use Rattle.xl_wire.specs.Raws.{raw_frame}
use Rattle.xl_tell.proofs.Heard.{says_set}
use Rattle.xl_tell.proofs.delivery.is_kept_set.Goals as goal

pub returns-then-raw-get : goal.returns-then-raw-get
returns-then-raw-get c =
    λ yes. says_set c.args.frame.now c.args.kept.now (raw_frame c.in-Whole.raw) c.requires (λ i. omega (arith, c.type_inv.kept i)) (sym c.split.ensures.exact ∙ ap parts c.in-Whole.is) (omega arith)
    (omega (arith, c.get.ensures, c.from.ensures)) (sym c.in-Whole.raw.whole ∙ eqb-true c.in-Whole.raw.length _ yes)
