use Rattle.std.proofs.Common.{◌≡◌, sym, ◌∙◌, ap, get_or, Some}
use Rattle.xl_wire.specs.Heads.{split_of}
use Rattle.xl_core.specs.Hearing.{bytes_as_sealed}
use Rattle.xl_core.specs.Node.{Node}
use Rattle.xl_tags.specs.Rings.{Ring, schedule_ring}
use Rattle.xl_world.specs.declared.place.Place.{Place}
use Rattle.xl_world.specs.Forgeries.{forges}
use Rattle.xl_world.specs.Seen.{forged_at}
use Rattle.xl_world.specs.World.{place_at}
use Rattle.xl_world.proofs.Places.{found_there, none_there}
use Rattle.xl_world.proofs.Settling.{at_its_number}
use Rattle.xl_world.proofs.forged.is_forged.Goals as goal

pub returns-in-Some-clause-value : goal.returns-in-Some-clause-value
returns-in-Some-clause-value c =
    c.forges.ensures.value
    ∙ (ap (λ k. forges c.args.liars.now c.args.traffic.now.frames k c.args.bytes.now (split_of c.args.bytes.now)) (c.keys.ensures.value ∙ (ap (λ (n : Node). n.keys) c.node.ensures.value ∙ ap (λ (p : Place). p.core.node.keys) c.index-places-k.is))
    ∙ sym (ap (forged_at c.args.liars.now c.args.traffic.now.frames c.args.bytes.now) (found_there c.args.places.now c.args.to c.in-Some.k c.index-places-k.result (sym c.in-Some.ensures))))

-- the node has the keys of its number
pub returns-in-Some-clause-sealed : goal.returns-in-Some-clause-sealed
returns-in-Some-clause-sealed c = λ yes.
    let p : Place = get_or c.args.places.now c.in-Some.k c.index-places-k.result in
    let there : place_at c.args.to c.args.places.now ≡ Some p = found_there c.args.places.now c.args.to c.in-Some.k c.index-places-k.result (sym c.in-Some.ensures) in
    let keys : c.keys.result.now ≡ schedule_ring c.args.to =
    c.keys.ensures.value
    ∙ (ap (λ (n : Node). n.keys) c.node.ensures.value
    ∙ (ap (λ (p : Place). p.core.node.keys) c.index-places-k.is ∙ ((c.requires.rested p there).keys ∙ ap schedule_ring (at_its_number c.args.to c.args.places.now p there)))) in
    ap (λ (ring : Ring). bytes_as_sealed ring c.args.bytes.now) (sym keys) ∙ c.forges.ensures.sealed yes

pub returns-in-None-clause-value : goal.returns-in-None-clause-value
returns-in-None-clause-value c = sym (ap (forged_at c.args.liars.now c.args.traffic.now.frames c.args.bytes.now) (none_there c.args.places.now c.args.to (sym c.in-None.ensures)))
