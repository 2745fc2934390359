-- the header's ledger is looked for by its id
use Rattle.std.proofs.Common.{ap, sym, ◌∙◌}
use Rattle.std.specs.Prelude.{is_some}
use Rattle.xl_base.specs.declared.ids.LedgerId.{LedgerId}
use Rattle.xl_core.specs.Hearing.{speech_of}
use Rattle.xl_ledger.specs.Chains.{place_of}
use Rattle.xl_world.specs.declared.said.Said.{Said}
use Rattle.xl_world.specs.Sending.{body_said}
use Rattle.xl_tell.specs.Before.{is_known}
use Rattle.xl_tell.proofs.delivery.is_known.Goals as goal

pub returns-in-Header : goal.returns-in-Header
returns-in-Header c =
    let n = c.args.node.now in
    c.knows.ensures
    ∙ (ap (λ (id : LedgerId). is_some (place_of n.ledgers.headers id)) c.header_id-id.ensures
    ∙ ap (λ (said : Said). is_known n (speech_of (body_said said))) (sym c.in-Header.is))
