use Rattle.std.proofs.Common.{arith, rules, sym, ◌∙◌, true≢false}
use Rattle.std.proofs.lemmas.Bool.{eq-eqb, eqb-true}
use Rattle.xl_negative.proofs.Lies.{own_unheard, validation_heard}
use Rattle.xl_negative.proofs.hearing.said_in_validation.Goals as goal

pub returns-then-eq : goal.returns-then-eq
returns-then-eq c =
    own_unheard c.args.from c.args.to c.args.validation (omega arith, omega arith) (omega arith, omega arith)
    (record { id = search rules; seq = omega arith; signed = omega arith; validated = search rules })
    (eqb-true c.args.from c.args.to (sym c.eq.ensures ∙ c.if-eq.true))

pub returns-else-eq : goal.returns-else-eq
returns-else-eq c =
    validation_heard c.args.from c.args.to c.args.validation (omega arith, omega arith) (omega arith, omega arith)
    (record { id = search rules; seq = omega arith; signed = omega arith; validated = search rules })
    (λ same. true≢false (sym (eq-eqb c.args.from c.args.to same) ∙ (sym c.eq.ensures ∙ c.if-eq.false)))
