use Rattle.std.proofs.Common.{◌∙◌, ap, ◌++◌, ◌∷◌, [], arith, sym}
use Rattle.std.proofs.lemmas.Bool.Decides.{nat_tests}
use Rattle.std.specs.Prelude.{◌≡◌, length}
use Rattle.xl_pool.specs.Entries.{all_of}
use Rattle.xl_pool.proofs.Untouched.{all_of-more, untouched_entry}
use Rattle.xl_pool.proofs.pool.touch.Goals as goal

pub returns-then-free-slots-clause-same : goal.returns-then-free-slots-clause-same
returns-then-free-slots-clause-same g c =
    let entries = c.args.entries.now.items in
    let here : c.args.free ≡ length entries = grind (arith, nat_tests, c.args.entries.now.ok.0) in
    ap (λ xs. all_of xs c.args.slots) (c.push_reserved.ensures.items ∙ ap (λ n. entries ++ untouched_entry n ∷ []) here)
    ∙ all_of-more entries c.args.slots (grind (arith, nat_tests))
