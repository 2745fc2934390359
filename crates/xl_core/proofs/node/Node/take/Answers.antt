-- a listed member has a row, what it takes is current, and whatever arises then arises by what was taken
use Rattle.std.proofs.Common.{◌≡◌, ◌∙◌, ℕ, List, ap, sym, subst, None}
use Rattle.std.specs.Prelude.{true, All}
use Rattle.xl_lists.specs.Lists.{is_on}
use Rattle.xl_validations.specs.declared.row.Row.{Row}
use Rattle.xl_validations.specs.Rows.{refusal_of}
use Rattle.xl_core.specs.declared.hearing.Speech.TheVariants as speech
use Rattle.xl_core.specs.Node.{Node, report_if, speech_reply, arises_in, second_of}
use Rattle.xl_core.specs.Rest.{IsCurrent, node_seen}
use Rattle.xl_core.proofs.Answered.{has_row, rest_when_taken, answer_when_taken}
use Rattle.xl_core.proofs.Current.{taken_current}
use Rattle.xl_core.proofs.node.Node.take.Goals as goal

pub take-requires : goal.take-requires
take-requires g c = record {
  listed = has_row (node_seen c.self.inside) c.args.from c.self.invariant.0.rest
      (subst (λ (n : Node). is_on n.list.members c.args.from ≡ true) (sym c.self.view_is) c.requires.listed);
  tally = c.self.invariant.1;
}

pub invariant_of-self : goal.invariant_of-self
invariant_of-self g c =
    let n : Node = node_seen c.self.inside in
    let unrefused : None ≡ refusal_of n.rows c.args.from (second_of n) c.args.v.now = subst (λ (s : ℕ). None ≡ refusal_of n.rows c.args.from s c.args.v.now) c.secs_of-second.ensures c.in-Ok.ensures.answer in (
      record {
        keyed = c.self.invariant.0.keyed;
        time = c.self.invariant.0.time;
        known = c.self.invariant.0.known;
        current = subst (λ (rows : List Row). All (IsCurrent (second_of n)) rows) (sym c.in-Ok.ensures.taken) (taken_current (second_of n) c.args.from c.args.v.now n.rows (sym unrefused) c.self.invariant.0.current);
        rest = rest_when_taken n
            c.args.from c.args.v.now c.take.new.self.rows c.report_by-report.result c.note.new.self c.self.invariant.0.rest
            (has_row n c.args.from c.self.invariant.0.rest (subst (λ (m : Node). is_on m.list.members c.args.from ≡ true) (sym c.self.view_is) c.requires.listed))
            c.in-Ok.ensures.taken
            (c.report_by-report.ensures ∙ ap (λ q. report_if (arises_in q c.take.new.self.rows c.self.inside.last c.args.v.now) c.args.v.now) c.quorum.ensures.value)
            c.note.ensures;
      },
      c.take.ensures.tally,
      c.take.ensures.me ∙ c.self.invariant.2,
    )

pub returns-in-Ok-clause-exact : goal.returns-in-Ok-clause-exact
returns-in-Ok-clause-exact g c =
    let n : Node = node_seen c.self.inside in
    let unrefused : None ≡ refusal_of n.rows c.args.from (second_of n) c.args.v.now = subst (λ (s : ℕ). None ≡ refusal_of n.rows c.args.from s c.args.v.now) c.secs_of-second.ensures c.in-Ok.ensures.answer in
    answer_when_taken n c.args.from c.args.v.now c.take.new.self.rows c.report_by-report.result c.note.new.self c.self.invariant.0.rest
    (subst (λ (m : Node). is_on m.list.members c.args.from ≡ true) (sym c.self.view_is) c.requires.listed)
    unrefused
    c.in-Ok.ensures.taken
    (c.report_by-report.ensures ∙ ap (λ q. report_if (arises_in q c.take.new.self.rows c.self.inside.last c.args.v.now) c.args.v.now) c.quorum.ensures.value)
    c.note.ensures
    ∙ ap (λ m. speech_reply m c.args.from (speech.Validation c.args.v.now)) c.self.view_is
