use Rattle.std.proofs.Common.{sym, subst, ℕ, Option}
use Rattle.xl_validations.specs.Tallies.{StandsBeside}
use Rattle.xl_validations.proofs.Naming.{waited_if, others_stay_if}
use Rattle.xl_validations.proofs.tally.cast_if_for.Goals as goal

pub cast-requires-clause-beside : goal.cast-requires-clause-beside
cast-requires-clause-beside g c =
    let waited = waited_if c.args.registry.now.headers c.seq_of.ensures.ledgers c.args.ledger c.requires.newest c.seq_of.result c.id_at.result c.is_of.result c.args.row.now.current c.seq_of.ensures.value c.id_at.ensures c.is_of.ensures c.if-is_of.true in
    (c.requires.beside.0, subst (λ (o : Option ℕ). StandsBeside (g.B.Branch.votes c.args.branch.now) c.requires.beside.0 c.args.row.now.member o (g.B.Branch.room c.args.branch.now)) waited.0 c.requires.beside.1)

pub returns-then-is_of-clause-turned : goal.returns-then-is_of-clause-turned
returns-then-is_of-clause-turned g c = λ others s.
    let waited = waited_if c.args.registry.now.headers c.seq_of.ensures.ledgers c.args.ledger c.requires.newest c.seq_of.result c.id_at.result c.is_of.result c.args.row.now.current c.seq_of.ensures.value c.id_at.ensures c.is_of.ensures c.if-is_of.true in
    subst (λ (o : Option ℕ). StandsBeside (g.B.Branch.votes c.cast.new.branch) others c.args.row.now.member o (g.B.Branch.room c.cast.new.branch)) (sym waited.1)
    (c.cast.ensures.cast others (subst (λ (o : Option ℕ). StandsBeside (g.B.Branch.votes c.args.branch.now) others c.args.row.now.member o (g.B.Branch.room c.args.branch.now)) waited.0 s))

pub returns-else-is_of-clause-turned : goal.returns-else-is_of-clause-turned
returns-else-is_of-clause-turned g c = λ others s.
    subst (λ (o : Option ℕ). StandsBeside (g.B.Branch.votes c.args.branch.now) others c.args.row.now.member o (g.B.Branch.room c.args.branch.now))
    (others_stay_if c.args.registry.now.headers c.seq_of.ensures.ledgers c.args.ledger c.requires.newest c.seq_of.result c.id_at.result c.is_of.result c.args.row.now.current c.seq_of.ensures.value c.id_at.ensures c.is_of.ensures c.if-is_of.false) s
