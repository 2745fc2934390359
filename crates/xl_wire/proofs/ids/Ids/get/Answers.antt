use Rattle.xl_wire.proofs.SetLaws.{id_fits, id_there, id_listed}
use Rattle.xl_wire.proofs.ids.Ids.get.Goals as goal

pub bytes_at-requires : goal.bytes_at-requires
bytes_at-requires c = id_fits _ _ _ c.args.i c.self.invariant c.in-Spelled.is c.self.view_is c.requires

pub returns-in-Spelled : goal.returns-in-Spelled
returns-in-Spelled c = id_there _ _ _ c.args.i _ c.in-Spelled.is c.self.view_is c.requires c.bytes_at.ensures

pub returns-in-Listed : goal.returns-in-Listed
returns-in-Listed c = id_listed _ _ _ c.args.i _ c.in-Listed.is c.self.view_is c.requires
