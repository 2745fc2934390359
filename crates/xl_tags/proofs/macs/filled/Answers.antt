use Rattle.std.proofs.Common.{◌++◌, ℕ, List, length, drop, replicate, ap, ◌∙◌}
use Rattle.std.proofs.lemmas.List.{drop-replicate}
use Rattle.xl_tags.proofs.macs.filled.Goals as goal

pub returns : goal.returns
returns c =
    let n = length c.args.bytes.now in
    ap (λ (front : List ℕ). front ++ drop n (replicate 64 0)) c.copy_from_slice.ensures.after
    ∙ ap (λ (rest : List ℕ). c.args.bytes.now ++ rest) (drop-replicate n 64 0)
