use Rattle.std.proofs.Common.{◌∙◌, List, ℕ, ap, arith, get_or, length, refl}
use Rattle.xl_world.specs.World.{World}
use Rattle.xl_world.proofs.Going.{timed_first, timed_more}
use Rattle.xl_world.proofs.Growing.{grows_on, grows_same}
use Rattle.xl_world.proofs.network.Network.timers.Goals as goal

pub loop-k-init : goal.loop-k-init
loop-k-init c = (timed_first c.args.self.now c.args.at c.args.told.now.items c.requires.rest, grows_same c.args.self.now c.args.self.now refl)

pub loop-k-preserved : goal.loop-k-preserved
loop-k-preserved c = (
  timed_more c.args.self.now c.args.at c.args.told.now.items c.loop-k.k c.loop-k.self c.loop-k.told.items c.index-as_slice-k.result c.ask.new.self c.ask.new.told.items
      (omega (arith, c.loop-k-test.true, ap length c.as_slice-k-end.ensures, ap (λ (w : World). length w.numbers) c.self.view_is))
      (c.index-as_slice-k.is ∙ ap (λ (xs : List ℕ). get_or xs c.loop-k.k c.index-as_slice-k.result) (c.as_slice.ensures ∙ (ap (λ (w : World). w.numbers) c.self-in-loop-k.view_is ∙ c.loop-k.invariant.0.numbers)))
      c.loop-k.invariant.0
      c.in_ok-ask.ensures.world c.in_ok-ask.ensures.told,
  grows_on c.args.self.now c.loop-k.self c.ask.new.self c.loop-k.invariant.1 c.ask.ensures.grows,
)

pub returns-in_err-ask-clause-grows : goal.returns-in_err-ask-clause-grows
returns-in_err-ask-clause-grows c = grows_on c.args.self.now c.loop-k.self c.ask.new.self c.loop-k.invariant.1 c.ask.ensures.grows
