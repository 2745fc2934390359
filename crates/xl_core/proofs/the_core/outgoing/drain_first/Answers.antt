-- the oldest item decides: there is none, its frame is too long for the room, or it has no frame and is dropped
use Rattle.std.proofs.Common.{◌≡◌, ℕ, ◌-◌, ◌∙◌, length, refl, ap, sym, subst, Some, None}
use Rattle.xl_core.specs.Draining.{node_for, TakesOne}
use Rattle.std.specs.Prelude.{slice_get, option_copied}
use Rattle.xl_queues.specs.Queues.{Backlog}
use Rattle.xl_core.specs.declared.item.Item.{Item}
use Rattle.xl_core.specs.Items.{frame_of, frames_for}
use Rattle.xl_core.specs.Queues.{waiting_at}
use Rattle.xl_core.proofs.Draining.{waiting_there, found_no_room, found_passed, passes_first, none_there, too_long}
use Rattle.xl_core.proofs.the_core.outgoing.drain_first.Goals as goal

same_place : (a b : ℕ) → Some a ≡ Some b → a ≡ b
same_place a b e = cc

pub returns-in_err-item-clause-none : goal.returns-in_err-item-clause-none
returns-in_err-item-clause-none g c = λ _.
    let there = waiting_there c.args.waiting.now c.args.member c.reader_of-reader.result c.reader_of-reader.ensures.place in
    let first : slice_get (waiting_at c.args.waiting.now c.args.member).items 0 ≡ None =
    ap (λ (q : Backlog Item). slice_get q.items 0) there ∙ sym c.first.ensures.oldest ∙ ap option_copied c.in_err-item.was in
    (none_there (frame_of (node_for c.args.tags c.args.node.now) c.args.member) (waiting_at c.args.waiting.now c.args.member).items (length c.args.room.now - c.args.at) first, refl, refl)

pub returns-in-NoRoom-clause-none : goal.returns-in-NoRoom-clause-none
returns-in-NoRoom-clause-none g c = λ _.
    let there = waiting_there c.args.waiting.now c.args.member c.reader_of-reader.result c.reader_of-reader.ensures.place in
    let item : Item = c.in_ok-item.field-0.now in
    let first : slice_get (waiting_at c.args.waiting.now c.args.member).items 0 ≡ Some item =
    ap (λ (q : Backlog Item). slice_get q.items 0) there ∙ sym c.first.ensures.oldest ∙ ap option_copied c.in_ok-item.was in
    let long = found_no_room (frame_of (node_for c.args.tags c.args.node.now) c.args.member item) c.args.at c.args.room.now c.put.new.room c.put.result c.put.ensures c.in-NoRoom.is in
    (too_long (frame_of (node_for c.args.tags c.args.node.now) c.args.member) (waiting_at c.args.waiting.now c.args.member).items item long.0 (length c.args.room.now - c.args.at) first long.1 long.2, refl, long.3)

pub returns-in-PassedOver-clause-some : goal.returns-in-PassedOver-clause-some
returns-in-PassedOver-clause-some g c = λ next is.
    let n = node_for c.args.tags c.args.node.now in
    let there = waiting_there c.args.waiting.now c.args.member c.reader_of-reader.result c.reader_of-reader.ensures.place in
    let item : Item = c.in_ok-item.field-0.now in
    let first : slice_get (waiting_at c.args.waiting.now c.args.member).items 0 ≡ Some item =
    ap (λ (q : Backlog Item). slice_get q.items 0) there ∙ sym c.first.ensures.oldest ∙ ap option_copied c.in_ok-item.was in
    let passed = found_passed (frame_of n c.args.member item) c.args.at c.args.room.now c.put.new.room c.put.result c.put.ensures c.in-PassedOver.is in
    subst (λ (k : ℕ). TakesOne (frames_for n c.args.waiting.now c.args.member) c.args.waiting.now c.pass_over.new.self c.args.member c.args.at k c.args.room.now c.put.new.room) (same_place c.args.at next is)
    (passes_first (frame_of n c.args.member) c.args.waiting.now c.pass_over.new.self c.args.member c.reader_of-reader.result c.args.at item c.args.room.now c.put.new.room c.reader_of-reader.ensures.place first passed.0 passed.1 c.pass_over.ensures.passed)
