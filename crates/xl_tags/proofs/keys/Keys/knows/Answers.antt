-- a number's key is the one that was put, or else the schedule's, if there is a schedule
use Rattle.std.proofs.Common.{◌≡◌, ap, ◌∙◌, sym}
use Rattle.std.specs.Prelude.{is_some}
use Rattle.xl_tags.specs.Rings.{Ring, key_of, schedule_key}
use Rattle.xl_tags.specs.Sources.{put_at, made_for, held_key}
use Rattle.xl_tags.proofs.SourceLaws.{key_from, put_known, made_known, none_known}
use Rattle.xl_tags.proofs.keys.Keys.knows.Goals as goal
use Rattle.xl_tags.proofs.keys.Keys.knows.Goals.{After-has_put}

held : (c : After-has_put) → held_key c.self.inside.me c.self.inside.of_schedule c.self.inside.prepared c.args.number ≡ key_of c.args.self.now c.args.number
held c =
    sym (key_from c.self.inside.me c.self.inside.of_schedule c.self.inside.prepared c.args.number c.self.invariant.places)
    ∙ ap (λ (r : Ring). key_of r c.args.number) c.self.view_is

pub returns-then-has_put : goal.returns-then-has_put
returns-then-has_put c =
    put_known c.has_put.result (put_at c.self.inside.prepared c.args.number) (made_for c.self.inside.me c.self.inside.of_schedule c.args.number) c.has_put.ensures c.if-has_put.true
    ∙ ap is_some (held (goal.at.returns-then-has_put c).After-has_put)

pub returns-then-self : goal.returns-then-self
returns-then-self c =
    made_known c.has_put.result c.has_pair.result (put_at c.self.inside.prepared c.args.number) (schedule_key c.self.inside.me c.args.number) c.self.inside.of_schedule
    c.has_put.ensures c.if-has_put.false c.if-self.true c.has_pair.ensures
    ∙ ap is_some (held (goal.at.returns-then-self c).After-has_put)

pub returns-else-self : goal.returns-else-self
returns-else-self c =
    none_known c.has_put.result (put_at c.self.inside.prepared c.args.number) (schedule_key c.self.inside.me c.args.number) c.self.inside.of_schedule c.has_put.ensures c.if-has_put.false c.if-self.false
    ∙ ap is_some (held (goal.at.returns-else-self c).After-has_put)
