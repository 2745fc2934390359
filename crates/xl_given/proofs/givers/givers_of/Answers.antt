use Rattle.std.proofs.Common.{ap, refl, ◌∙◌, subst, Some, ℕ, Bor, List}
use Rattle.std.specs.Prelude.{unwrap_or}
use Rattle.std.specs.BTreeMap.{get, Updates}
use Rattle.xl_given.specs.Given.{Noted}
use Rattle.xl_given.specs.Kept.{by_both, giver_seen, noted_seen}
use Rattle.xl_given.proofs.Keeping.{kept_next}
use Rattle.xl_given.proofs.givers.givers_of.Goals as goal

pub loop-place-preserved : goal.loop-place-preserved
loop-place-preserved c =
    let x : Noted = noted_seen c.at-noted.result in
    let frame : Bor (List ℕ) = c.at-noted.result.frame in
    kept_next c.args.given.now c.loop-place.place x c.loop-place.givers c.insert.new.self frame c.unwrap_or-first.result
    c.at-noted.ensures refl c.loop-place.invariant
    (c.unwrap_or-first.ensures
    ∙ ap (λ o. unwrap_or o (giver_seen x))
    (c.copied.ensures ∙ (c.get-in-loop-place.ensures.value
    ∙ ap (λ n. get by_both c.loop-place.givers (n, frame)) c.get.ensures.value)))
    (subst (λ n. Updates by_both c.loop-place.givers c.insert.new.self (n, frame) (Some c.unwrap_or-first.result)) c.get.ensures.value
    c.in_ok-insert.ensures.updates)
