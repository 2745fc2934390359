use Rattle.std.proofs.Common.{subst, sym, arith}
use Rattle.xl_base.specs.Sets.{IsSet}
use Rattle.xl_sched.specs.Tokens.{entries}
use Rattle.xl_sched.proofs.TxSetLemmas.{IsSet-risen}
use Rattle.xl_sched.proofs.tx_sets.tx_set.Goals as goal

pub returns-then-len-le-MOST_IDS-clause-set : goal.returns-then-len-le-MOST_IDS-clause-set
returns-then-len-le-MOST_IDS-clause-set c =
    subst IsSet (sym c.from_vec-then-len-le-MOST_IDS.ensures)
    (IsSet-risen c.args.names.now (entries c.args.token.now) c.in_ok-ids.ids.items c.in_ok-ids.ensures (omega (arith, c.in_ok-ids.ids.ok.0)))
