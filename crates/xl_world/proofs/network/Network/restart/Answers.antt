use Rattle.std.proofs.Common.{◌≡◌, ◌∙◌, Some, ap}
use Rattle.xl_world.specs.declared.place.Disk.{Disk}
use Rattle.xl_world.specs.Disk.{found, restored}
use Rattle.xl_world.specs.Schedule.{steps_at}
use Rattle.xl_sched.specs.declared.event.What.TheVariants.{Restart}
use Rattle.xl_world.specs.Seen.{disk_in, put_again, with_places}
use Rattle.xl_world.specs.World.{World, place_at, run}
use Rattle.xl_world.proofs.Cutting.{restarts}
use Rattle.xl_world.proofs.Places.{on_ok}
use Rattle.xl_world.proofs.network.Network.restart.Goals as goal

pub returns-in-Some-clause-world : goal.returns-in-Some-clause-world
returns-in-Some-clause-world c =
    let w : World = c.args.self.now in
    let at = c.args.at in
    let node = c.args.node in
    let kept : Disk = c.in-Some.disk in
    let held : Some kept ≡ disk_in node w.places = c.in-Some.ensures ∙ ap (disk_in node) (c.deref.ensures.value ∙ ap (λ (v : World). v.places) c.self.view_is) in
    let its : c.restored.result ≡ restored kept (found kept) = c.restored.ensures ∙ ap (restored kept) c.found.ensures in
    on_ok (c.reopen.new.self ≡ with_places w (put_again at c.restored.result (place_at node w.places) w.places)) (c.reopen.new.self ≡ run w (steps_at w at (Restart node)))
    c.reopen.result c.reopen.ensures.places
    (λ is. is ∙ (ap (λ (k : Disk). with_places w (put_again at k (place_at node w.places) w.places)) its ∙ restarts w at node kept held))
