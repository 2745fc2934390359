-- a put key stands at its member's place and comes before a schedule's, and other places stay
use Rattle.std.proofs.Common.{◌≡◌, ◌≤◌, ◌-◌, ℕ, List, Some, set, ap, ◌∙◌, arith}
use Rattle.xl_tags.specs.Rings.{Ring, key_of, with_key}
use Rattle.xl_tags.specs.Sources.{ring_from}
use Rattle.xl_tags.proofs.SourceLaws.{set_ring, set_kept, set_others}
use Rattle.xl_tags.proofs.keys.Keys.put.Goals as goal
use Rattle.xl_tags.proofs.keys.Keys.put.Goals.{After-index-self-get}

-- the ring with the key at the member's place
put_there : (c : After-index-self-get) → ring_from c.self.inside.me c.self.inside.of_schedule (set c.self.inside.prepared (c.get.result - 1) (Some c.of.result))
    ≡ ring_from c.self.inside.me c.self.inside.of_schedule (set c.self.inside.prepared (c.args.member - 1) (Some c.args.key))
put_there c =
    ap (λ (n : ℕ). ring_from c.self.inside.me c.self.inside.of_schedule (set c.self.inside.prepared (n - 1) (Some c.of.result))) c.get.ensures.value
    ∙ ap (λ (k : List ℕ). ring_from c.self.inside.me c.self.inside.of_schedule (set c.self.inside.prepared (c.args.member - 1) (Some k))) c.of.ensures

low : (c : After-index-self-get) → 1 ≤ c.args.member
low c = omega (arith, c.get.ensures.value, c.get.ensures.first)

high : (c : After-index-self-get) → c.args.member ≤ 64
high c = omega (arith, c.get.ensures.value, c.get.ensures.last)

pub returns-clause-keys : goal.returns-clause-keys
returns-clause-keys c =
    let was = (goal.at.returns-clause-keys c).After-index-self-get in
    put_there was ∙ set_ring c.self.inside.me c.self.inside.of_schedule c.self.inside.prepared c.self.invariant c.args.member c.args.key (low was) (high was)
    ∙ ap (λ (r : Ring). with_key r c.args.member c.args.key) c.self.view_is

pub returns-clause-kept : goal.returns-clause-kept
returns-clause-kept c =
    let was = (goal.at.returns-clause-kept c).After-index-self-get in
    ap (λ (r : Ring). key_of r c.args.member) (put_there was)
    ∙ set_kept c.self.inside.me c.self.inside.of_schedule c.self.inside.prepared c.self.invariant c.args.member c.args.key (low was) (high was)

pub returns-clause-others : goal.returns-clause-others
returns-clause-others c = λ other apart.
    let was = (goal.at.returns-clause-others c).After-index-self-get in
    ap (λ (r : Ring). key_of r other) (put_there was)
    ∙ set_others c.self.inside.me c.self.inside.of_schedule c.self.inside.prepared c.self.invariant c.args.member c.args.key (low was) (high was) other apart
    ∙ ap (λ (r : Ring). key_of r other) c.self.view_is
