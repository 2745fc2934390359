use Rattle.std.proofs.Common.{sym, ◌∙◌}
use Rattle.xl_lists.proofs.Marking.{marked_front}
use Rattle.xl_lists.proofs.Refusing.{repeated_later}
use Rattle.xl_lists.proofs.list.marks_of_distinct.Goals as goal

pub loop-member-preserved : goal.loop-member-preserved
loop-member-preserved c = record {
  marked = marked_front _ _ _ _ _ c.loop-member-test.true c.member-item.is c.loop-member.invariant.marked c.with-marks.ensures;
  rest = sym (repeated_later c.member-item.result _ _ c.loop-member-test.true c.member-item.is
      (sym (c.loop-member.invariant.marked c.member-item.result) ∙ sym c.has.ensures ∙ c.if-has.false))
      ∙ c.loop-member.invariant.rest;
}
