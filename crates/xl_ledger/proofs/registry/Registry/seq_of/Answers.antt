use Rattle.std.proofs.Common.{◌≡◌, ap}
use Rattle.xl_ledger.specs.Tables.{headers_of}
use Rattle.xl_ledger.proofs.Storing.{read_below}
use Rattle.xl_ledger.proofs.registry.Registry.seq_of.Goals as goal

pub returns-clause-below : goal.returns-clause-below
returns-clause-below c =
    let r = c.self.inside in
    let same : headers_of r.ledgers.items ≡ c.args.self.now.headers = ap (λ v. v.headers) c.self.view_is in
    read_below r.ledgers.items r.table.items c.args.ledger c.place.result r.limit _ c.index.result.now c.self.invariant (rw same c.requires) c.place.ensures c.index.ensures
