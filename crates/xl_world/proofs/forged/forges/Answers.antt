use Rattle.std.proofs.Common.{length, refl, subst, sym, ap, ◌∙◌, arith}
use Rattle.std.specs.Prelude.{nat_le}
use Rattle.std.proofs.lemmas.Bool.{le-leb}
use Rattle.std.proofs.lemmas.List.{take_all}
use Rattle.xl_wire.specs.Kinds.{span}
use Rattle.xl_wire.specs.Raws.{SpellsRaw, raw_frame}
use Rattle.xl_world.specs.Forgeries.{forges}
use Rattle.xl_world.proofs.Forging.{made_up_sealed, passes}
use Rattle.xl_world.proofs.forged.forges.Goals as goal

pub is_made_up-requires : goal.is_made_up-requires
is_made_up-requires c = record {
  spelled = subst (SpellsRaw (raw_frame c.in-Whole.raw)) (take_all (span c.in-Whole.raw.body.now) c.args.bytes.now (omega (arith, c.in-Whole.raw.whole)))
      ((c.in-Whole.ensures.whole (raw_frame c.in-Whole.raw)).0 refl);
}

pub returns-then-bytes-raw-clause-sealed : goal.returns-then-bytes-raw-clause-sealed
returns-then-bytes-raw-clause-sealed c = λ yes.
    made_up_sealed c.args.liars.now c.args.traffic.now.frames c.args.keys.now c.args.bytes.now (raw_frame c.in-Whole.raw)
    (subst (SpellsRaw (raw_frame c.in-Whole.raw)) (take_all (span c.in-Whole.raw.body.now) c.args.bytes.now (omega (arith, c.in-Whole.raw.whole))) ((c.in-Whole.ensures.whole (raw_frame c.in-Whole.raw)).0 refl))
    (sym c.is_made_up.ensures.value ∙ yes)

pub returns-then-bytes-raw-clause-value : goal.returns-then-bytes-raw-clause-value
returns-then-bytes-raw-clause-value c =
    c.is_made_up.ensures.value
    ∙ passes (nat_le (length c.args.bytes.now) (span c.in-Whole.raw.body.now)) _ (le-leb _ _ (omega (arith, c.in-Whole.raw.whole)))
    ∙ ap (forges c.args.liars.now c.args.traffic.now.frames c.args.keys.now c.args.bytes.now) c.in-Whole.ensures.exact
