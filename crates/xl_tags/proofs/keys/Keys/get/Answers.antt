-- a member's key is the one that was put at its place, or else the schedule's, if there is a schedule
use Rattle.std.proofs.Common.{◌≡◌, Some, None, ap, sym, ◌∙◌}
use Rattle.std.specs.Prelude.{option_copied}
use Rattle.xl_tags.specs.Rings.{Ring, key_of, schedule_key}
use Rattle.xl_tags.specs.Sources.{put_at, made_for, held_key}
use Rattle.xl_tags.proofs.SourceLaws.{key_from, put_held, made_held, none_held}
use Rattle.xl_tags.proofs.keys.Keys.get.Goals as goal
use Rattle.xl_tags.proofs.keys.Keys.get.Goals.{After-put_at}

held : (c : After-put_at) → held_key c.self.inside.me c.self.inside.of_schedule c.self.inside.prepared c.args.member ≡ key_of c.args.self.now c.args.member
held c =
    sym (key_from c.self.inside.me c.self.inside.of_schedule c.self.inside.prepared c.args.member c.self.invariant.places)
    ∙ ap (λ (r : Ring). key_of r c.args.member) c.self.view_is

put : (c : After-put_at) → option_copied c.put_at.result ≡ put_at c.self.inside.prepared c.args.member
put c = c.put_at.ensures ∙ ap (λ n. put_at c.self.inside.prepared n) c.get.ensures.value

pub returns-in-Some : goal.returns-in-Some
returns-in-Some c =
    let was = (goal.at.returns-in-Some c).After-put_at in
    let key : Some c.key.result ≡ put_at c.self.inside.prepared c.args.member = ap Some c.key.ensures ∙ ap option_copied (sym c.in-Some.is) ∙ put was in
    sym (put_held (put_at c.self.inside.prepared c.args.member) (made_for c.self.inside.me c.self.inside.of_schedule c.args.member) c.key.result key) ∙ held was

pub returns-in-None : goal.returns-in-None
returns-in-None c =
    let was = (goal.at.returns-in-None c).After-put_at in
    let none : put_at c.self.inside.prepared c.args.member ≡ None = sym (put was) ∙ ap option_copied c.in-None.is in
    c.key_with.ensures ∙ ap (λ n. schedule_key c.self.inside.me n) c.get-in-None.ensures.value
    ∙ sym (made_held (put_at c.self.inside.prepared c.args.member) (schedule_key c.self.inside.me c.args.member) c.self.inside.of_schedule none c.if-self.true) ∙ held was

pub returns-in-None-2 : goal.returns-in-None-2
returns-in-None-2 c =
    let was = (goal.at.returns-in-None-2 c).After-put_at in
    let none : put_at c.self.inside.prepared c.args.member ≡ None = sym (put was) ∙ ap option_copied c.in-None.is in
    sym (none_held (put_at c.self.inside.prepared c.args.member) (schedule_key c.self.inside.me c.args.member) c.self.inside.of_schedule none c.if-self.false) ∙ held was
