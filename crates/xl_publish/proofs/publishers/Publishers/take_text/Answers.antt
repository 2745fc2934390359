-- a line is taken where one ends at a newline, and the last where none is left
use Rattle.std.proofs.Common.{◌∙◌, ◌+◌, ◌-◌, List, ℕ, ap, length, sym, subst, drop, take, Option}
use Rattle.std.specs.Option.{option_map, option_or}
use Rattle.std.proofs.lemmas.List.{take_rest}
use Rattle.xl_publish.specs.declared.line_refusal.RefusedLine.{RefusedLine}
use Rattle.xl_publish.specs.Texts.{refused_line}
use Rattle.xl_publish.proofs.TextLaws.{AreTaken, none_yet, taken_on, taken_all, refused_all}
use Rattle.xl_publish.proofs.publishers.Publishers.take_text.Goals as goal

pub loop-end-init : goal.loop-end-init
loop-end-init c = none_yet c.args.members.now c.args.self.now c.args.text.now

pub loop-end-preserved : goal.loop-end-preserved
loop-end-preserved c =
    let rest = c.loop-end.rest.now in
    let end = c.in-Some.end in
    let members = c.args.members.now in
    let first = c.args.self.now in
    let text = c.args.text.now in
    let new = c.take_line-cause.new.self in
    let number = c.loop-end.number + 1 in
    let both = option_or c.loop-end.refused (option_map (refused_line c.loop-end.number) c.take_line-cause.result) in
    let on = taken_on members first text c.loop-end.self new rest end c.loop-end.number c.loop-end.refused
    c.take_line-cause.result (sym c.newline_in.ensures ∙ c.in-Some.is) c.take_line-cause.ensures.taken
    c.take_line-cause.ensures.keys c.take_line-cause.ensures.refused c.loop-end.invariant in
    subst (λ (o : Option RefusedLine). AreTaken members first text new
    (take (length rest - (end + 1)) (drop (end + 1) rest)) number o)
    (sym (c.or-refused.ensures ∙ ap (option_or c.loop-end.refused) c.refused_at.ensures))
    (subst (λ (left : List ℕ). AreTaken members first text new left number both) (sym (take_rest rest (end + 1))) on)

pub returns-clause-taken : goal.returns-clause-taken
returns-clause-taken c =
    taken_all c.args.members.now c.args.self.now c.args.text.now c.loop-end.self c.take_line-cause-2.new.self
    c.loop-end.rest.now (sym c.newline_in.ensures ∙ c.in_default.is) c.take_line-cause-2.ensures.taken
    c.loop-end.number c.loop-end.refused c.loop-end.invariant

pub returns-clause-refused : goal.returns-clause-refused
returns-clause-refused c =
    c.or.ensures ∙ ap (option_or c.loop-end.refused) c.refused_at-2.ensures
    ∙ refused_all c.args.members.now c.args.self.now c.args.text.now c.loop-end.self c.loop-end.rest.now
    c.loop-end.number c.loop-end.refused c.take_line-cause-2.result (sym c.newline_in.ensures ∙ c.in_default.is)
    c.take_line-cause-2.ensures.refused c.loop-end.invariant
