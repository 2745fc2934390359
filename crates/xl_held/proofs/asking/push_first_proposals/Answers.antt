-- nobody has a position
use Rattle.std.proofs.Common.{◌≡◌, List, ℕ, ◌++◌, ap, sym, ◌∙◌, append-nil, arith}
use Rattle.std.specs.String.{string_bytes}
use Rattle.xl_rounds.specs.Positions.{count}
use Rattle.xl_rounds.specs.Rounds.{Round}
use Rattle.xl_held.proofs.Asked.{no_first_proposals}
use Rattle.xl_held.proofs.asking.push_first_proposals.Goals as goal

pub returns-then-proposers-eq0 : goal.returns-then-proposers-eq0
returns-then-proposers-eq0 c =
    let old = string_bytes c.args.text.now in
    let node = c.args.node.now in
    let none : count node.round.positions ≡ 0 = ap (λ (r : Round). count r.positions) (sym c.round.ensures) ∙ (sym c.proposers.ensures ∙ omega (arith, c.if-proposers-eq0.true)) in
    sym (ap (λ (xs : List ℕ). old ++ xs) (no_first_proposals c.args.reader.now.names c.args.number node none) ∙ append-nil old)
