use Rattle.std.proofs.Common.{◌∙◌, sym, subst, refl}
use Rattle.xl_ledger.specs.Registries.{Ledgers}
use Rattle.xl_ledger.specs.Chains.{AreLedgers}
use Rattle.xl_ledger.proofs.Storing.{root_known}
use Rattle.xl_core.specs.Node.{settings_of}
use Rattle.xl_core.specs.Rest.{node_seen}
use Rattle.xl_core.proofs.Opening.{first_round, opened_ready}
use Rattle.xl_core.proofs.node.Node.reopen.Goals as goal

pub invariant_of-self : goal.invariant_of-self
invariant_of-self g c =
    let ledgers = c.reopen.new.self in
    let known : AreLedgers ledgers.headers = subst (λ (r : Ledgers). AreLedgers r.headers) (sym c.reopen.ensures) root_known in (
      opened_ready (settings_of (node_seen c.self.inside)) c.args.now c.args.kept c.max-time.result ledgers c.in_ok-table.table.rows c.reopen-2.new.self c.self.inside.keys.value
          c.in_ok-table.ensures.valid c.self.invariant.0.keyed c.requires.moment c.max-time.ensures c.reopen.ensures c.in_ok-table.ensures.rows (c.reopen-2.ensures ∙ first_round ledgers.headers c.root.result c.usual_mode-mode.result c.self.inside.validating c.max-time.result c.root.ensures c.usual_mode-mode.ensures) refl,
      c.in_ok-table.ensures.tally ledgers.headers known,
      c.in_ok-table.ensures.me,
    )
