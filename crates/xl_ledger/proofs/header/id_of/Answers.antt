use Rattle.std.proofs.Common.{◌≡◌, [], ◌∷◌, ◌++◌, List, ℕ, refl, ap, ◌∙◌, arith}
use Rattle.xl_base.specs.declared.ids.LedgerId.{LedgerId}
use Rattle.xl_base.specs.Hashes.{half}
use Rattle.xl_ledger.specs.Headers.{spelling}
use Rattle.xl_ledger.proofs.HeaderLaws.{put_whole, puts_behind}
use Rattle.xl_ledger.proofs.header.id_of.Goals as goal

pub returns : goal.returns
returns c =
    let mark : List ℕ = 0x4C ∷ 0x57 ∷ 0x52 ∷ 0 ∷ [] in
    let whole : c.put-2.new.room ≡ mark ++ c.header_bytes.result = put_whole mark c.header_bytes.result _ _ 4 _ (puts_behind 0 4 _ _ _ c.put.ensures refl) (puts_behind 4 _ _ _ _ c.put-2.ensures refl) (omega arith) in
    let spelled : c.put-2.new.room ≡ mark ++ spelling c.args.h.now = whole ∙ ap (λ (x : List ℕ). mark ++ x) c.header_bytes.ensures.spelled in
    let hash : c.half512.result ≡ half (mark ++ spelling c.args.h.now) = c.half512.ensures ∙ ap half spelled in
    ap (λ (x : List ℕ). let id : LedgerId = record { 0 = x } in id) hash
