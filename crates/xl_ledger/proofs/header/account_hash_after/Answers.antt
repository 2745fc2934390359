use Rattle.std.proofs.Common.{◌≡◌, [], ◌∷◌, ◌++◌, List, ℕ, refl, ap, ◌∙◌, arith}
use Rattle.std.specs.Prelude.{take}
use Rattle.xl_base.specs.Hashes.{half}
use Rattle.xl_ledger.proofs.HeaderLaws.{put_whole, puts_behind}
use Rattle.xl_ledger.proofs.header.account_hash_after.Goals as goal

pub returns : goal.returns
returns c =
    let mark : List ℕ = 0x53 ∷ 0x54 ∷ 0x41 ∷ 0 ∷ [] in
    let account : List ℕ = c.args.parent.now.account_hash in
    let front : take 36 c.put_field.new.room ≡ mark ++ account =
    puts_behind 4 36 account _ _ c.put_field.ensures.puts (omega (arith, c.put_field.ensures.long)) ∙ ap (λ (x : List ℕ). x ++ account) (puts_behind 0 4 mark _ _ c.put.ensures refl) in
    let set_behind = puts_behind 36 68 c.args.set.0 _ _ c.put_field-2.ensures.puts (omega (arith, c.put_field-2.ensures.long)) in
    c.half512.ensures ∙ ap half (put_whole (mark ++ account) c.args.set.0 _ _ 36 68 front set_behind (omega arith))
