use Rattle.std.proofs.Common.{◌∙◌, ap, sym}
use Rattle.std.specs.Prelude.{◌==◌, position}
use Rattle.xl_world.specs.World.{World, place_at}
use Rattle.xl_world.proofs.network.Network.settle.Goals as goal

pub drain_at-requires : goal.drain_at-requires
drain_at-requires c = record {
  seat = ap (position (λ p. p.core.node.me == c.args.seat.number)) (c.deref_mut.ensures.value ∙ ap (λ (w : World). w.places) c.self.view_is) ∙ c.requires.seat;
  rested = λ p h.
      c.requires.rested p (ap (λ (w : World). place_at c.args.seat.number w.places) (sym c.self.view_is) ∙ (ap (place_at c.args.seat.number) (sym c.deref_mut.ensures.value) ∙ h));
}
