use Rattle.std.proofs.Common.{◌≡◌, ◌+◌, ℕ, [], ◌∷◌, ap, refl, arith, ◌++◌, length-append}
use Rattle.byteorder.specs.Endian.{big_bytes}
use Rattle.xl_wire.specs.Bodies.{vote_bytes}
use Rattle.xl_wire.specs.declared.lengths.TheConstants.{HEAD}
use Rattle.xl_wire.proofs.BodyLaws.{flags_place}
use Rattle.xl_wire.proofs.PutLaws.{puts_then, puts_same}
use Rattle.xl_wire.proofs.encoding.put_vote.Goals as goal

pub returns-clause-puts : goal.returns-clause-puts
returns-clause-puts c =
    let v = c.args.validation.now in
    let a = puts_then HEAD (HEAD + 32) _ _ _ _ _ c.put_field.ensures.puts c.put_u32.ensures.puts (omega (arith, c.put_field.ensures.long)) in
    let b = puts_then HEAD (HEAD + 36) _ _ _ _ _ a c.put_u32-2.ensures.puts (omega (arith, c.put_field.ensures.long, length-append v.id.0 (big_bytes 4 v.seq))) in
    let flags : v.id.0 ++ big_bytes 4 v.seq ++ big_bytes 4 v.signed ++ c.flags_of.result ∷ [] ≡ vote_bytes v = ap (λ (b : ℕ). v.id.0 ++ big_bytes 4 v.seq ++ big_bytes 4 v.signed ++ b ∷ []) c.flags_of.ensures in
    puts_same HEAD HEAD _ _ _ _ refl flags (puts_then HEAD (HEAD + flags_place) _ _ _ _ _ b c.put.ensures (omega (arith, c.put_field.ensures.long, length-append v.id.0 (big_bytes 4 v.seq), length-append (v.id.0 ++ big_bytes 4 v.seq) (big_bytes 4 v.signed))))
