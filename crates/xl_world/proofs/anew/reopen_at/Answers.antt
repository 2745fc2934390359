use Rattle.std.proofs.Common.{◌≡◌, get_or, sym}
use Rattle.std.specs.Prelude.{slice_set}
use Rattle.xl_world.specs.declared.place.Place.{Place}
use Rattle.xl_world.specs.Seen.{place_again, put_again}
use Rattle.xl_world.specs.World.{place_at}
use Rattle.xl_world.proofs.Places.{again_nowhere, again_there, on_ok}
use Rattle.xl_world.proofs.anew.reopen_at.Goals as goal

pub returns-in-Some : goal.returns-in-Some
returns-in-Some c =
    let old : Place = get_or c.args.places.now c.in-Some.k c.index-places-k.result in
    on_ok (c.reopen.new.self ≡ place_again old c.args.now c.args.disk) (slice_set c.args.places.now c.in-Some.k c.reopen.new.self ≡ put_again c.args.now c.args.disk (place_at c.args.i c.args.places.now) c.args.places.now)
    c.reopen.result c.reopen.ensures
    (λ is. again_there c.args.places.now c.args.i c.in-Some.k c.args.now c.args.disk c.index-places-k.result c.reopen.new.self (sym c.in-Some.ensures) is)

pub returns-in-None : goal.returns-in-None
returns-in-None c = again_nowhere c.args.places.now c.args.i c.args.now c.args.disk (sym c.in-None.ensures)
