use Rattle.std.proofs.Common.{◌≡◌, ◌≤◌, ap, ◌∙◌, arith, length}
use Rattle.xl_nunl.proofs.Kept.{nothing_left, written_back}
use Rattle.xl_nunl.proofs.score.Scores.clear.Goals as goal

pub returns-clause-kept : goal.returns-clause-kept
returns-clause-kept c =
    let same : length c.loop-place.place-items ≡ length c.self.inside.places.items = c.loop-place.auto.place-items ∙ ap length c.deref_mut-place-items.ensures.value in
    let end : length c.loop-place.place-items ≤ c.loop-place.place-index = omega (arith, c.loop-place.auto.place-items, c.loop-place-test.false) in
    written_back c.self.inside.places.len c.self.inside.places.items c.loop-place.place-items c.self.inside.places.ok.0 same
    ∙ nothing_left c.loop-place.place-items (same ∙ c.self.invariant) (λ k within. c.loop-place.invariant k (omega (arith, within, end)))
