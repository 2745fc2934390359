-- no id passed falls, and what is compared are the ids at two neighbouring places, as they lie in the bytes
use Rattle.std.proofs.Common.{◌≡◌, ℕ, List, ◌≤◌, ◌+◌, ◌-◌, ◌*◌, ◌/◌, length, take, drop, refl, sym, ap, ◌∙◌, arith}
use Rattle.std.proofs.lemmas.List.{drop-drop}
use Rattle.xl_wire.proofs.SetLaws.{before_is, fall_here, fall_later}
use Rattle.xl_wire.proofs.ids.first_fall.Goals as goal

-- `&ids[start..end]`
abbrev cut : ℕ → ℕ → List ℕ → List ℕ
cut start end ids = take (end - start) (drop start ids)

-- the ids at two neighbouring places, as they are cut out
first : (place : ℕ) (ids : List ℕ) → 1 ≤ place → cut (32 * place - 32) (32 * place) ids ≡ take 32 (drop (32 * (place - 1)) ids)
first place ids low =
    let wide : 32 * place - (32 * place - 32) ≡ 32 = omega (arith, low) in
    let at : 32 * place - 32 ≡ 32 * (place - 1) = omega (arith, low) in
    ap (λ (k : ℕ). take k (drop (32 * place - 32) ids)) wide ∙ ap (λ (k : ℕ). take 32 (drop k ids)) at

second : (place : ℕ) (ids : List ℕ) → 1 ≤ place → cut (32 * place) (32 * place + 32) ids ≡ take 32 (drop 32 (drop (32 * (place - 1)) ids))
second place ids low =
    let wide : 32 * place + 32 - 32 * place ≡ 32 = omega arith in
    let at : 32 * (place - 1) + 32 ≡ 32 * place = omega (arith, low) in
    ap (λ (k : ℕ). take k (drop (32 * place) ids)) wide
    ∙ ap (take 32) (sym (drop-drop 32 (32 * (place - 1)) ids ∙ ap (λ (k : ℕ). drop k ids) at))

pub returns-then-not-lt : goal.returns-then-not-lt
returns-then-not-lt c =
    let place = c.loop-place.place in
    let ids = c.args.ids.now in
    sym (fall_here (length ids / 32) place ids (drop (32 * (place - 1)) ids) _ _ (omega arith) (omega arith) refl (first place ids (omega arith)) (second place ids (omega arith))
    (sym (c.lt.ensures ∙ before_is (cut (32 * place - 32) (32 * place) ids) (cut (32 * place) (32 * place + 32) ids)) ∙ c.if-not-lt.true))
    ∙ c.loop-place.invariant

pub loop-place-preserved : goal.loop-place-preserved
loop-place-preserved c =
    let place = c.loop-place.place in
    let ids = c.args.ids.now in
    fall_later (length ids / 32) place ids (drop (32 * (place - 1)) ids) _ _ (omega arith) (omega arith) refl (first place ids (omega arith)) (second place ids (omega arith))
    (sym (c.lt.ensures ∙ before_is (cut (32 * place - 32) (32 * place) ids) (cut (32 * place) (32 * place + 32) ids)) ∙ c.if-not-lt.false)
    ∙ c.loop-place.invariant
