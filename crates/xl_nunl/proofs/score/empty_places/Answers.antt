use Rattle.std.proofs.Common.{◌≡◌, ℕ, replicate, None, Option, ap, ◌∙◌, arith}
use Rattle.xl_lists.specs.declared.said.SaidLedger.{SaidLedger}
use Rattle.xl_nunl.proofs.score.empty_places.Goals as goal

pub returns : goal.returns
returns c =
    let all : c.loop.counter ≡ 32768 = omega (arith, c.loop-test.false, c.loop.auto.counter-end) in
    c.loop.invariant.2 ∙ ap (λ (n : ℕ). replicate {A = Option SaidLedger} n None) all
