-- the header that its bytes spell is hashed
use Rattle.std.proofs.Common.{ap, ◌∙◌}
use Rattle.xl_ledger.specs.Headers.{header_id}
use Rattle.xl_told.proofs.hashed.Hashed.hash_header.Goals as goal

pub invariant_of-self : goal.invariant_of-self
invariant_of-self c = (c.id_of-id.ensures ∙ ap header_id c.read_header.ensures.exact, c.self.invariant.1, c.self.invariant.2, c.self.invariant.3, c.self.invariant.4, c.self.invariant.5)

pub returns : goal.returns
returns c = c.id_of-id.ensures ∙ ap header_id c.read_header.ensures.exact
