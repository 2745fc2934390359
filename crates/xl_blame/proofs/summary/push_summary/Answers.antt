-- who gave what was heard is as the map has it
use Rattle.std.proofs.Common.{◌≡◌, ◌++◌, ◌∙◌, ℕ, List, [], ap, arith, sym}
use Rattle.std.proofs.lemmas.Bool.{eqb-true}
use Rattle.std.proofs.lemmas.List.{nil_from_length}
use Rattle.std.proofs.lemmas.Result.{on_ok_weaker}
use Rattle.std.specs.String.{string_bytes}
use Rattle.xl_forks.specs.Equivocations.{equivocations_in}
use Rattle.xl_forks.specs.Forks.{Fork, forks_in}
use Rattle.xl_forks.specs.declared.equivocation.Equivocation.{Equivocation}
use Rattle.xl_forks.specs.declared.reported.Reported.{Reported}
use Rattle.xl_forks.specs.declared.said.Said.{Said}
use Rattle.xl_blame.specs.Confessions.{giver_in, named_text}
use Rattle.xl_blame.specs.Gathering.{Gathered}
use Rattle.xl_blame.specs.Networks.{mixed_in}
use Rattle.xl_blame.specs.States.{gathered_seen}
use Rattle.xl_blame.specs.Summary.{giver_among, shown_text, summary_text, tally_of, wrongs_in}
use Rattle.xl_blame.specs.declared.networks.Mixed.{Mixed}
use Rattle.xl_blame.specs.declared.summary.Tally.{Tally}
use Rattle.xl_blame.proofs.Confessing.{shown_same}
use Rattle.xl_blame.proofs.summary.push_summary.Goals as goal

tally_same : (t u : Tally) → t.heard ≡ u.heard → t.given ≡ u.given → t ≡ u
tally_same t u e d =
    ap (λ n. (let x : Tally = record { heard = n; given = t.given } in x)) e
    ∙ ap (λ n. (let x : Tally = record { heard = u.heard; given = n } in x)) d

pub returns-then-is_empty-clause-text : goal.returns-then-is_empty-clause-text
returns-then-is_empty-clause-text c =
    let g : Gathered = gathered_seen c.args.shown in
    let wrong : ℕ = wrongs_in c.args.ended.now in
    let forks : List Fork = forks_in g.said g.reported in
    let twice : List Equivocation = equivocations_in g.said in
    let text : List ℕ = string_bytes c.args.text.now in
    let kept : Equivocation → List ℕ = named_text c.args.ended.now (giver_in c.in_ok-answered.answered.givers) in
    let named : Equivocation → List ℕ = named_text c.args.ended.now (giver_among g) in
    let tally : c.in_ok-answered.answered.tally ≡ tally_of g =
    tally_same c.in_ok-answered.answered.tally (tally_of g) c.in_ok-answered.ensures.counted c.in_ok-answered.ensures.given in
    let none : mixed_in 1 c.args.ended.now ≡ [] =
    sym c.in_ok-mixed.ensures ∙ nil_from_length c.in_ok-mixed.mixed.items
    (let e = eqb-true _ _ (sym c.is_empty.ensures ∙ c.if-is_empty.true) in omega (arith, c.in_ok-mixed.mixed.ok.0, e)) in
    on_ok_weaker c.push_shown.result
    (λ e. e
    ∙ (ap (λ (xs : List Said). text ++ shown_text wrong (forks_in xs c.deref-then-is_empty.result.now) kept (equivocations_in xs)
    c.in_ok-answered.answered.tally) c.deref.ensures.value
    ∙ (ap (λ (xs : List Reported). text ++ shown_text wrong (forks_in g.said xs) kept twice c.in_ok-answered.answered.tally)
    c.deref-then-is_empty.ensures.value
    ∙ (ap (λ (t : Tally). text ++ shown_text wrong forks kept twice t) tally
    ∙ (ap (λ xs. text ++ xs) (shown_same c.args.ended.now (giver_in c.in_ok-answered.answered.givers) (giver_among g)
    c.in_ok-answered.ensures.givers wrong forks twice (tally_of g))
    ∙ ap (λ (ms : List Mixed). text ++ summary_text wrong ms forks named twice (tally_of g)) (sym none))))))
    c.push_shown.ensures.text
