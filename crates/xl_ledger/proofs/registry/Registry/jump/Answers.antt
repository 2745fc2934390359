use Rattle.std.proofs.Common.{◌≡◌, List, ap, ◌∙◌}
use Rattle.std.proofs.lemmas.Option.{get_or_from_slice_get}
use Rattle.xl_ledger.specs.declared.header.Header.{Header}
use Rattle.xl_ledger.specs.Jumps.{jump_of}
use Rattle.xl_ledger.specs.Tables.{headers_of}
use Rattle.xl_ledger.proofs.Storing.{read_placed}
use Rattle.xl_ledger.proofs.registry.Registry.jump.Goals as goal

pub returns : goal.returns
returns c =
    let hs = headers_of c.self.inside.ledgers.items in
    let same : hs ≡ c.args.self.now.headers = ap (λ r. r.headers) c.self.view_is in
    let placed = read_placed c.self.inside.ledgers.items c.self.inside.table.items c.args.ledger c.place.result c.index.result.now c.self.invariant.indexed (rw same c.requires.known) c.place.ensures c.index.ensures in
    get_or_from_slice_get c.index.result.now.jumps c.args.level (jump_of hs c.args.ledger c.args.level) c.index-index-level.result (placed.jumps c.args.level c.requires.level)
    ∙ ap (λ (x : List Header). jump_of x c.args.ledger c.args.level) same
