use Rattle.std.proofs.Common.{◌∙◌, sym, subst}
use Rattle.xl_ledger.specs.Registries.{Ledgers}
use Rattle.xl_ledger.specs.Chains.{AreLedgers}
use Rattle.xl_ledger.proofs.Storing.{root_known}
use Rattle.xl_core.proofs.Opening.{first_round, opened_ready}
use Rattle.xl_core.proofs.node.Node.open.Goals as goal

pub invariant_of-result : goal.invariant_of-result
invariant_of-result g c =
    let known : AreLedgers c.in_ok-registry.registry.headers = subst (λ (r : Ledgers). AreLedgers r.headers) (sym c.in_ok-registry.ensures) root_known in (
      opened_ready c.args.settings c.args.now c.args.kept c.max-time.result c.in_ok-registry.registry c.in_ok-table.table.rows c.in_ok-round.round c.in_ok-keys.keys.value
          c.in_ok-table.ensures.valid c.requires.keyed c.requires.moment c.max-time.ensures c.in_ok-registry.ensures c.in_ok-table.ensures.rows (c.in_ok-round.ensures ∙ first_round c.in_ok-registry.registry.headers c.root.result c.usual_mode.result c.args.settings.validating c.max-time.result c.root.ensures c.usual_mode.ensures) c.in_ok-keys.ensures.ok,
      c.in_ok-table.ensures.tally c.in_ok-registry.registry.headers known,
      c.in_ok-table.ensures.me,
    )
