-- A round that is ready is agreed.
use Rattle.std.proofs.Common.{◌≡◌, ℕ, ◌-◌, ◌/◌, ◌*◌, ◌≤◌, Bool, true, false, cond, refl, arith, inl, inr}
use Rattle.std.specs.Prelude.{◌⊎◌, ◌==◌, nat_lt, nat_le}
use Rattle.std.proofs.Math.Nat.{div-mul-le_self, mul-le-mul_left}
use Rattle.std.proofs.lemmas.Bool.{cond_both, eqb-true, leb-true}
use Rattle.xl_rounds.specs.declared.agreement.Tally.{Tally}
use Rattle.xl_rounds.specs.declared.agreement.Consensus.{Consensus}
use Rattle.xl_rounds.specs.declared.agreement.Consensus.TheVariants.{No, Yes, MovedOn}
use Rattle.xl_rounds.specs.declared.decision.Decision.{Decision}
use Rattle.xl_rounds.specs.declared.phase.Phase.{Phase}
use Rattle.xl_rounds.specs.declared.phase.Phase.TheVariants.{Open, Establish, Accepted}
use Rattle.xl_rounds.specs.declared.heartbeat.Seen.{Seen}
use Rattle.xl_rounds.specs.declared.heartbeat.HeartbeatKind.TheVariants.{Ready}
use Rattle.xl_rounds.specs.Agreement.{is_short, consensus}
use Rattle.xl_rounds.specs.Closing.{should_close}
use Rattle.xl_rounds.specs.Rounds.{Round}
use Rattle.xl_rounds.specs.Heartbeats.{HeartbeatReply, quiet_reply, waiting_of, closed_at, closed_beat, open_beat, after_vote, decision, is_renewed, after_third, tally, outcome, kind_of, established_by, establish_reply, establish_beat, beat_in}
use Rattle.xl_rounds.specs.Laws.{IsAgreed, ReadyIsAgreed}
use Rattle.xl_rounds.specs.Numbers.{least_ms, consensus_percent}

-- of the lines only two say yes
yes_by : (young short alone agree moved : Bool) → cond young No (cond short No (cond alone Yes (cond agree Yes (cond moved MovedOn No)))) ≡ Yes → (alone ≡ true) ⊎ (agree ≡ true)
yes_by false false true agree moved e = inl refl
yes_by false false false true moved e = inr refl
yes_by false false false false true e = absurd (cc e)
yes_by young short alone agree moved e = absurd (cc e)

four_fifths : (agree total : ℕ) → nat_le consensus_percent (agree * 100 / total) ≡ true → total * consensus_percent ≤ agree * 100
four_fifths agree total enough =
    let share : consensus_percent ≤ agree * 100 / total = leb-true consensus_percent (agree * 100 / total) enough in
    omega (arith, mul-le-mul_left total share, div-mul-le_self (agree * 100) total)

yes_means : (t : Tally) → consensus t ≡ Yes → (t.positions ≡ 0) ⊎ (t.total * consensus_percent ≤ t.agree * 100)
yes_means t yes' =
    elim (yes_by (nat_le t.round_ms least_ms) (is_short t) (t.positions == 0) (nat_le consensus_percent (t.agree * 100 / t.total)) (nat_le consensus_percent (t.finished * 100 / t.positions)) yes') [
      | inl alone ↦ inl (eqb-true t.positions 0 alone)
      | inr agree ↦ inr (four_fifths t.agree t.total agree)
    ]

-- and only a yes makes a round ready without anybody having moved on
ready_by : (c : Consensus) (agreed is_new : Bool) → kind_of (outcome c agreed) is_new ≡ Ready false → c ≡ Yes
ready_by c false true e = absurd (cc e)
ready_by c false false e = absurd (cc e)
ready_by No true true e = absurd (cc e)
ready_by No true false e = absurd (cc e)
ready_by Yes true is_new e = refl
ready_by MovedOn true is_new e = absurd (cc e)

-- what the law says of a heartbeat
abbrev Holds : HeartbeatReply → Type 0
Holds b = b.answer.kind ≡ Ready false → IsAgreed b.round

quiet_holds : (r : Round) → Holds (quiet_reply r)
quiet_holds r e = absurd (cc e)

open_holds : (now validated : ℕ) (r : Round) → Holds (open_beat now validated r)
open_holds now validated r =
    cond_both (should_close (waiting_of r now validated)) (closed_beat (closed_at now r)) (quiet_reply r) Holds (λ _ e. absurd (cc e)) (λ _. quiet_holds r)

by_holds : (d : Decision) (round_ms second finished : ℕ) (r : Round) → Holds (established_by d round_ms second finished r)
by_holds d round_ms second finished r e =
    let t : Tally = tally (after_third r second d) round_ms finished in
    yes_means t (ready_by (consensus t) d.choice.agreed (is_renewed r second d) e)

establish_holds : (now finished : ℕ) (r : Round) → Holds (establish_beat now finished r)
establish_holds now finished r =
    let ms : ℕ = now - r.stance.closed in
    let second : ℕ = now / 1000 in
    cond_both (nat_lt ms least_ms) (quiet_reply r) (establish_reply ms second finished r) Holds (λ _. quiet_holds r)
    (λ _. by_holds (decision r ms second) ms second finished (after_vote r ms second))

holds_in : (phase : Phase) (now : ℕ) (seen : Seen) (r : Round) → Holds (beat_in phase now seen r)
holds_in Open now seen r = open_holds now seen.validated r
holds_in Establish now seen r = establish_holds now seen.finished r
holds_in Accepted now seen r = quiet_holds r

pub ready_is_agreed : ReadyIsAgreed
ready_is_agreed now seen r = holds_in r.phase now seen r
