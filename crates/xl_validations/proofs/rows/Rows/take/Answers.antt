-- a member's row is the first of its number, so what the row at that place answers and becomes is the member's
use Rattle.std.proofs.Common.{◌≡◌, ◌∙◌, ap, sym, Some, set}
use Rattle.std.specs.Result.{result_err, OnOk}
use Rattle.std.specs.Prelude.{position, ◌==◌}
use Rattle.std.specs.Option.{option_and_then}
use Rattle.std.proofs.lemmas.Result.{on_ok_weaker}
use Rattle.xl_validations.specs.Rows.{refusal, refusal_of, with_validation, at_member}
use Rattle.xl_validations.proofs.Places.{row_at_place, change_at_place}
use Rattle.xl_validations.proofs.rows.Rows.take.Goals as goal
use Rattle.xl_validations.proofs.rows.Rows.take.Goals.{After-take-answer}

answer_is : (c : After-take-answer) → result_err c.take-answer.result ≡ refusal_of c.args.self.now c.args.from c.args.now c.args.v.now
answer_is c =
    let items = c.self.inside.rows.items in
    let found : position (λ r. r.member == c.args.from) items ≡ Some c.place_of-place.result = sym (ap (λ rows. position (λ r. r.member == c.args.from) rows) c.deref.ensures.value) ∙ c.place_of-place.ensures in
    c.take-answer.ensures.answer
    ∙ ap (λ o. option_and_then (λ row. refusal row c.args.now c.args.v.now) o) (sym (row_at_place c.args.from items c.place_of-place.result c.index_mut-row.result.now found c.index_mut-row.ensures.value))
    ∙ ap (λ rows. refusal_of rows c.args.from c.args.now c.args.v.now) c.self.view_is

taken_is : (c : After-take-answer) → OnOk c.take-answer.result (set c.self.inside.rows.items c.place_of-place.result c.take-answer.new.self ≡ at_member c.args.from (with_validation c.args.v.now) c.args.self.now)
taken_is c =
    let items = c.self.inside.rows.items in
    let found : position (λ r. r.member == c.args.from) items ≡ Some c.place_of-place.result = sym (ap (λ rows. position (λ r. r.member == c.args.from) rows) c.deref.ensures.value) ∙ c.place_of-place.ensures in
    on_ok_weaker c.take-answer.result
    (λ is. ap (set items c.place_of-place.result) is
    ∙ change_at_place c.args.from (with_validation c.args.v.now) items c.place_of-place.result c.index_mut-row.result.now found c.index_mut-row.ensures.value
    ∙ ap (at_member c.args.from (with_validation c.args.v.now)) c.self.view_is)
    c.take-answer.ensures.taken

pub returns-then-is_ok-clause-answer : goal.returns-then-is_ok-clause-answer
returns-then-is_ok-clause-answer c = answer_is (goal.at.returns-then-is_ok-clause-answer c).After-take-answer

pub returns-else-is_ok-clause-answer : goal.returns-else-is_ok-clause-answer
returns-else-is_ok-clause-answer c = answer_is (goal.at.returns-else-is_ok-clause-answer c).After-take-answer

pub returns-then-is_ok-clause-taken : goal.returns-then-is_ok-clause-taken
returns-then-is_ok-clause-taken c = taken_is (goal.at.returns-then-is_ok-clause-taken c).After-take-answer
