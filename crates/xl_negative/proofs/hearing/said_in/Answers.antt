use Rattle.std.proofs.Common.{◌≡◌, Bool, true, cond, length, refl, sym, subst, ap, ◌∙◌, arith, None, Option}
use Rattle.std.specs.Prelude.{nat_le}
use Rattle.std.proofs.lemmas.Bool.{le-leb}
use Rattle.std.proofs.lemmas.List.{take_all}
use Rattle.xl_lists.specs.declared.said.SaidLedger.{SaidLedger}
use Rattle.xl_wire.specs.Kinds.{span}
use Rattle.xl_wire.specs.Raws.{SpellsRaw, raw_frame}
use Rattle.xl_negative.specs.Hearing.{said_in_split}
use Rattle.xl_negative.proofs.hearing.said_in.Goals as goal

pub said_in_frame-requires : goal.said_in_frame-requires
said_in_frame-requires c =
    subst (SpellsRaw (raw_frame c.in-Whole.raw)) (take_all (span c.in-Whole.raw.body.now) c.args.bytes.now (omega (arith, c.in-Whole.raw.whole)))
    ((c.in-Whole.ensures.whole (raw_frame c.in-Whole.raw)).0 refl)

passes : (b : Bool) (x : Option SaidLedger) → b ≡ true → x ≡ cond b x None
passes b x e = sym (ap (λ t. cond t x None) e)

pub returns-then-bytes-raw : goal.returns-then-bytes-raw
returns-then-bytes-raw c =
    c.said_in_frame.ensures
    ∙ passes (nat_le (length c.args.bytes.now) (span c.in-Whole.raw.body.now)) _ (le-leb _ _ (omega (arith, c.in-Whole.raw.whole)))
    ∙ ap (said_in_split c.args.keys.now c.args.bytes.now) c.in-Whole.ensures.exact
