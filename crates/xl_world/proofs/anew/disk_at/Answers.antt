use Rattle.std.proofs.Common.{◌∙◌, Some, ap, sym}
use Rattle.std.specs.Prelude.{option_map}
use Rattle.xl_world.specs.declared.place.Place.{Place}
use Rattle.xl_world.proofs.Places.{found_there, none_there}
use Rattle.xl_world.proofs.anew.disk_at.Goals as goal

pub returns-in-Some : goal.returns-in-Some
returns-in-Some c =
    ap (λ (p : Place). Some p.disk) c.index-places-k.is
    ∙ sym (ap (option_map (λ (p : Place). p.disk)) (found_there c.args.places.now c.args.i c.in-Some.k c.index-places-k.result (sym c.in-Some.ensures)))

pub returns-in-None : goal.returns-in-None
returns-in-None c = sym (ap (option_map (λ (p : Place). p.disk)) (none_there c.args.places.now c.args.i (sym c.in-None.ensures)))
