use Rattle.std.proofs.Common.{refl}
use Rattle.xl_tcp.proofs.Doors.{untold_comes}
use Rattle.xl_tcp.proofs.door.TcpDoorDoor.next.Goals as goal

pub returns-in-Ok-clause-comes : goal.returns-in-Ok-clause-comes
returns-in-Ok-clause-comes g c =
    untold_comes c.args.self.now.faults c.args.self.now.faults c.in-Ok.arrival c.await_line.new.room refl
    c.in-Ok.ensures.fits
