use Rattle.std.proofs.Common.{◌≡◌, List, sym, ap, ◌∙◌}
use Rattle.xl_ledger.specs.declared.header.Header.{Header}
use Rattle.xl_ledger.specs.Chains.{id_at}
use Rattle.xl_ledger.specs.Tables.{headers_of}
use Rattle.xl_ledger.proofs.Storing.{read_placed}
use Rattle.xl_ledger.proofs.registry.Registry.id_at.Goals as goal

pub returns : goal.returns
returns c =
    let same : headers_of c.self.inside.ledgers.items ≡ c.args.self.now.headers = ap (λ r. r.headers) c.self.view_is in
    let placed = read_placed c.self.inside.ledgers.items c.self.inside.table.items c.args.ledger c.place.result c.index.result.now c.self.invariant.indexed (rw same c.requires) c.place.ensures c.index.ensures in
    sym placed.id ∙ ap (λ (x : List Header). id_at x c.args.ledger) same
