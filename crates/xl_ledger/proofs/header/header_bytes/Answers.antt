-- each field is put right behind those before it, and the last one ends at byte 118
use Rattle.byteorder.specs.Endian.{big_bytes}
use Rattle.std.proofs.Common.{[], ◌∷◌, refl, arith}
use Rattle.xl_ledger.proofs.HeaderLaws.{fronts, puts_behind}
use Rattle.xl_ledger.proofs.header.header_bytes.Goals as goal

pub returns-clause-spelled : goal.returns-clause-spelled
returns-clause-spelled c =
    let h = c.args.h.now in
    fronts (big_bytes 4 h.seq) (big_bytes 8 h.drops) h.parent.0 h.tx_hash h.account_hash (big_bytes 4 h.parent_close) (big_bytes 4 h.close) (h.resolution ∷ h.flags ∷ []) _ _ _ _ _ _ _ _
    (puts_behind 0 4 _ _ _ c.put_u32.ensures.puts refl) (puts_behind 4 12 _ _ _ c.put_u64.ensures.puts refl)
    (puts_behind 12 44 _ _ _ c.put_field.ensures.puts (omega (arith, c.put_field.ensures.long)))
    (puts_behind 44 76 _ _ _ c.put_field-2.ensures.puts (omega (arith, c.put_field-2.ensures.long)))
    (puts_behind 76 108 _ _ _ c.put_field-3.ensures.puts (omega (arith, c.put_field-3.ensures.long)))
    (puts_behind 108 112 _ _ _ c.put_u32-2.ensures.puts refl) (puts_behind 112 116 _ _ _ c.put_u32-3.ensures.puts refl)
    (puts_behind 116 118 _ _ _ c.put_two.ensures.puts refl) (omega arith)

pub returns-clause-fits : goal.returns-clause-fits
returns-clause-fits c = record {
  seq = c.put_u32.ensures.below;
  drops = c.put_u64.ensures.below;
  parent = c.put_field.ensures.long;
  tx_hash = c.put_field-2.ensures.long;
  account_hash = c.put_field-3.ensures.long;
  parent_close = c.put_u32-2.ensures.below;
  close = c.put_u32-3.ensures.below;
  resolution = c.put_two.ensures.first;
  flags = c.put_two.ensures.second;
}
