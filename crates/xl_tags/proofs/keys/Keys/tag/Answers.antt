-- the number has a key, so if none was put, the schedule gives one
use Rattle.std.proofs.Common.{◌≡◌, ℕ, List, Some, None, true, false, ap, sym, ◌∙◌}
use Rattle.std.specs.Prelude.{option_copied, option_map, is_some}
use Rattle.xl_tags.specs.Macs.{mac}
use Rattle.xl_tags.specs.Rings.{Ring, key_of, schedule_key}
use Rattle.xl_tags.specs.Sources.{put_at, made_for, held_key}
use Rattle.xl_tags.proofs.SourceLaws.{key_from, put_held, given_held}
use Rattle.xl_tags.proofs.keys.Keys.tag.Goals as goal
use Rattle.xl_tags.proofs.keys.Keys.tag.Goals.{After-put_at}

held : (c : After-put_at) → key_of c.args.self.now c.args.number ≡ held_key c.self.inside.me c.self.inside.of_schedule c.self.inside.prepared c.args.number
held c =
    sym (ap (λ (r : Ring). key_of r c.args.number) c.self.view_is)
    ∙ key_from c.self.inside.me c.self.inside.of_schedule c.self.inside.prepared c.args.number c.self.invariant.places

given : (c : After-put_at) → put_at c.self.inside.prepared c.args.number ≡ None → key_of c.args.self.now c.args.number ≡ schedule_key c.self.inside.me c.args.number
given c none =
    held c ∙ given_held (put_at c.self.inside.prepared c.args.number) (schedule_key c.self.inside.me c.args.number) c.self.inside.of_schedule none
    (sym (ap is_some (held c)) ∙ c.requires)

pub unreachable-requires : goal.unreachable-requires
unreachable-requires c =
    let was = (goal.at.unreachable-requires c).After-put_at in
    let none : key_of c.args.self.now c.args.number ≡ None = given was (sym c.put_at.ensures ∙ ap option_copied c.in-None.is) ∙ sym c.key_with.ensures ∙ c.in-None-key_with.is in
    let some : true ≡ false = sym c.requires ∙ ap is_some none in
    cc some

pub returns-in-Some : goal.returns-in-Some
returns-in-Some c =
    let was = (goal.at.returns-in-Some c).After-put_at in
    let key : Some c.in-Some.key.now ≡ put_at c.self.inside.prepared c.args.number = ap option_copied (sym c.in-Some.is) ∙ c.put_at.ensures in
    ap (option_map (λ (key : List ℕ). mac key c.args.bytes.now)) (held was ∙ put_held (put_at c.self.inside.prepared c.args.number) (made_for c.self.inside.me c.self.inside.of_schedule c.args.number) c.in-Some.key.now key)
    ∙ ap Some (sym c.tag.ensures)

pub returns-in-Some-key_with : goal.returns-in-Some-key_with
returns-in-Some-key_with c =
    let was = (goal.at.returns-in-Some-key_with c).After-put_at in
    ap (option_map (λ (key : List ℕ). mac key c.args.bytes.now)) (given was (sym c.put_at.ensures ∙ ap option_copied c.in-None.is) ∙ sym c.key_with.ensures ∙ c.in-Some-key_with.is)
    ∙ ap Some (sym c.hmac.ensures)
