-- places passed over have no close time, so the front of the room has the times of all places so far
use Rattle.std.proofs.Common.{◌+◌, ◌<◌, ◌∙◌, arith, length, refl, sym, subst, List, ℕ}
use Rattle.xl_rounds.proofs.PositionLaws.{AreWritten, one_written, none_written}
use Rattle.xl_rounds.proofs.Skipping.{times_skipped}
use Rattle.xl_rounds.proofs.positions.close_times.Goals as goal
use Rattle.xl_rounds.proofs.positions.close_times.Goals.{in-Some, in_default}

pub loop-place-init : goal.loop-place-init
loop-place-init c =
    let next = c.next-place in (
      next.ensures.within,
      times_skipped c.args.members.now 0 next.result 0 c.args.room.now next.ensures.later (omega (arith, next.ensures.within, c.requires.places)) next.ensures.passed
          (record { counted = refl; within = omega arith; times = refl }),
    )

pub loop-place-preserved : goal.loop-place-preserved
loop-place-preserved c =
    let members = c.args.members.now in
    let i = c.loop-place.place in
    let len = c.loop-place.len in
    let room = c.loop-place.room in
    let so_far = c.loop-place.invariant.1 in
    let within : i < length members = omega (arith, c.loop-place-test.true, c.requires.places) in
    let next = c.next-place-in-loop-place in
    let written : AreWritten members (i + 1) c.match-at.len c.match-at.room =
    elim c.match-at.branch [
      | in-Some w ↦
          subst (λ (n : ℕ). AreWritten members (i + 1) n c.match-at.room) (sym w.len-is)
          (subst (λ (r : List ℕ). AreWritten members (i + 1) (len + 1) r) (sym w.room-is)
          (one_written members i len room w.in-Some.p within
          (omega (arith, c.loop-place-test.true, so_far.within, c.requires.fits, c.loop-place.auto.room)) (sym c.at.ensures ∙ w.in-Some.is) so_far))
      | in_default w ↦
          subst (λ (n : ℕ). AreWritten members (i + 1) n c.match-at.room) (sym w.len-is)
          (subst (λ (r : List ℕ). AreWritten members (i + 1) len r) (sym w.room-is)
          (none_written members i len room within (sym c.at.ensures ∙ w.in_default.is) so_far))
    ] in (
      next.ensures.within,
      times_skipped members (i + 1) next.result c.match-at.len c.match-at.room next.ensures.later (omega (arith, next.ensures.within, c.requires.places)) next.ensures.passed written,
    )
