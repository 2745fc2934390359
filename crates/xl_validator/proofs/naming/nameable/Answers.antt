-- the members so far are the numbers that were passed and may be named, so they are no more than these
use Rattle.std.proofs.Common.{◌≡◌, ◌==◌, ◌||◌, ◌++◌, ℕ, List, [], ◌∷◌, Bool, ap, sym, ◌∙◌, arith, length}
use Rattle.xl_lists.proofs.Rising.{passed_on, passed_over, passed_few, passed_all}
use Rattle.xl_settings.specs.Peers.{is_peer}
use Rattle.xl_validator.proofs.naming.nameable.Goals.{then-may_be_named, else-may_be_named}
use Rattle.xl_validator.proofs.naming.nameable.Goals as goal

pub push-requires : goal.push-requires
push-requires c =
    let p : ℕ → Bool = λ m. m == c.args.me || is_peer c.args.peers.now m in
    let few = passed_few p c.loop-number.number in
    omega (arith, few, ap length c.loop-number.invariant)

pub loop-number-preserved : goal.loop-number-preserved
loop-number-preserved c =
    let p : ℕ → Bool = λ m. m == c.args.me || is_peer c.args.peers.now m in
    let answer : p c.loop-number.number ≡ c.may_be_named.result =
    ap p (sym c.member.ensures) ∙ sym c.may_be_named.ensures in
    elim c.if-may_be_named.branch [
      | then-may_be_named w ↦ w.members-is ∙ w.push.ensures
          ∙ ap (λ (ms : List ℕ). ms ++ c.loop-number.number ∷ []) c.loop-number.invariant
          ∙ sym (passed_on p c.loop-number.number (omega arith) (answer ∙ w.if-may_be_named.true))
      | else-may_be_named w ↦ w.members-is ∙ c.loop-number.invariant
          ∙ sym (passed_over p c.loop-number.number (omega arith) (answer ∙ w.if-may_be_named.false))
    ]

pub returns : goal.returns
returns c =
    c.loop-number.invariant
    ∙ passed_all (λ m. m == c.args.me || is_peer c.args.peers.now m) c.loop-number.number (omega arith)
