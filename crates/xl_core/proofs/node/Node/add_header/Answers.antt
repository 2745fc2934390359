use Rattle.std.proofs.Common.{length, refl, ◌∙◌}
use Rattle.xl_ledger.specs.Registries.{add_refusal}
use Rattle.xl_validations.proofs.Knowing.{place_added}
use Rattle.xl_core.specs.Rest.{node_seen}
use Rattle.xl_core.proofs.Learning.{is_newest, longer, still_ready}
use Rattle.xl_core.proofs.node.Node.add_header.Goals as goal

pub header_known-requires-clause-newest : goal.header_known-requires-clause-newest
header_known-requires-clause-newest g c =
    let old = c.self.inside.registry in
    is_newest old c.add.new.registry c.args.h.now c.in_ok-ledger.ledger c.self.invariant.1.are (c.in_ok-ledger.ensures.joins.0 refl).0 c.in_ok-ledger.ensures.added
    (place_added (add_refusal old c.args.h.now) (length old.headers) c.in_ok-ledger.ledger c.in_ok-ledger.ensures.exact)

pub invariant_of-self-2 : goal.invariant_of-self-2
invariant_of-self-2 g c = (
  still_ready (node_seen c.self.inside)
      c.add.new.registry c.header_known.new.self.rows c.header_known.ensures.rows (longer c.self.inside.registry c.add.new.registry c.args.h.now c.in_ok-ledger.ensures.added) c.self.invariant.0,
  c.header_known.ensures.tally,
  c.header_known.ensures.me ∙ c.self.invariant.2,
)
