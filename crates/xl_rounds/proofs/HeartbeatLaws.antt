-- The lines of a heartbeat, one after the other.
use Rattle.std.proofs.Common.{◌≡◌, ℕ, ◌-◌, ◌/◌, ◌≤◌, Bool, true, false, ap, sym, refl, ◌∙◌, arith, Option}
use Rattle.std.proofs.lemmas.Bool.{cond_both, cond-false, le-ltb}
use Rattle.std.specs.Prelude.{nat_lt, is_some}
use Rattle.xl_rounds.specs.declared.agreement.Tally.{Tally}
use Rattle.xl_rounds.specs.declared.agreement.Consensus.{Consensus}
use Rattle.xl_rounds.specs.declared.agreement.Consensus.TheVariants.{No}
use Rattle.xl_rounds.specs.declared.decision.Decision.{Decision}
use Rattle.xl_rounds.specs.declared.heartbeat.Said.{Said}
use Rattle.xl_rounds.specs.declared.heartbeat.HeartbeatKind.{HeartbeatKind}
use Rattle.xl_rounds.specs.declared.heartbeat.Heartbeat.{Heartbeat}
use Rattle.xl_rounds.specs.Agreement.{consensus}
use Rattle.xl_rounds.specs.Rounds.{Round}
use Rattle.xl_rounds.specs.Heartbeats.{HeartbeatReply, quiet_reply, is_ready, with_new_position, after_vote, decision, is_renewed, after_third, said_in_third, tally, outcome, kind_of, ready_after, established_by, establish_reply, establish_beat}
use Rattle.xl_rounds.specs.Numbers.{least_ms}

abbrev pub with_ready : Option ℕ → Round → Round
with_ready ready r = record r { ready = ready }

abbrev pub heartbeat_of : HeartbeatKind → Option Said → Heartbeat
heartbeat_of kind said = record { kind = kind; said = said }

-- what lines 3 to 5 found, in the order in which the code found it
pub record AreLines (d : Decision) (before after : Round) (is_new : Bool) (said : Option Said) (t : Tally) (found : Consensus) (reached : Option HeartbeatKind) (round_ms second finished : ℕ) : Type 0 where
  pub new : is_new ≡ is_renewed before second d
  pub said_is : said ≡ said_in_third before second d
  pub after_is : after ≡ after_third before second d
  pub tally_is : t ≡ tally after round_ms finished
  pub found_is : found ≡ consensus t
  pub reached_is : reached ≡ outcome found d.choice.agreed

module _ (d : Decision) (before after : Round) (is_new : Bool) (said : Option Said) (t : Tally) (found : Consensus) (reached : Option HeartbeatKind) (round_ms second finished : ℕ)
    (lines : AreLines d before after is_new said t found reached round_ms second finished) where
  all_reached : reached ≡ outcome (consensus (tally (after_third before second d) round_ms finished)) d.choice.agreed
  all_reached =
      lines.reached_is ∙ ap (λ f. outcome f d.choice.agreed) (lines.found_is ∙ ap consensus lines.tally_is)
      ∙ ap (λ (r : Round). outcome (consensus (tally r round_ms finished)) d.choice.agreed) lines.after_is

  pub told_by : heartbeat_of (kind_of reached is_new) said ≡ (established_by d round_ms second finished before).answer
  told_by =
      ap (λ o. heartbeat_of (kind_of o is_new) said) all_reached
      ∙ ap (λ b. heartbeat_of (kind_of (outcome (consensus (tally (after_third before second d) round_ms finished)) d.choice.agreed) b) said) lines.new
      ∙ ap (heartbeat_of (kind_of (outcome (consensus (tally (after_third before second d) round_ms finished)) d.choice.agreed) (is_renewed before second d))) lines.said_is

  pub left_by : with_ready (ready_after reached round_ms) after ≡ (established_by d round_ms second finished before).round
  left_by =
      ap (λ o. with_ready (ready_after o round_ms) after) all_reached
      ∙ ap (with_ready (ready_after (outcome (consensus (tally (after_third before second d) round_ms finished)) d.choice.agreed) round_ms)) lines.after_is

-- the first two lines come before
pub decided_first : (d : Decision) (before old : Round) (round_ms second finished : ℕ) → d ≡ decision old round_ms second → before ≡ after_vote old round_ms second →
    established_by d round_ms second finished before ≡ establish_reply round_ms second finished old
decided_first d before old round_ms second finished is_d is_before =
    ap (λ e. established_by e round_ms second finished before) is_d ∙ ap (established_by (decision old round_ms second) round_ms second finished) is_before

-- a round that isn't young
pub no_longer_young : (now finished round_ms second : ℕ) (r : Round) → round_ms ≡ now - r.stance.closed → least_ms ≤ round_ms → second ≡ now / 1000 →
    establish_reply round_ms second finished r ≡ establish_beat now finished r
no_longer_young now finished round_ms second r is late is_second =
    ap (λ ms. establish_reply ms second finished r) is
    ∙ ap (λ s. establish_reply (now - r.stance.closed) s finished r) is_second
    ∙ sym (cond-false (nat_lt (now - r.stance.closed) least_ms) (quiet_reply r) (establish_reply (now - r.stance.closed) (now / 1000) finished r)
    (le-ltb (now - r.stance.closed) least_ms (omega (arith, is, late))))

-- ---- what holds after a heartbeat

-- the round is ready exactly if the heartbeat tells so, and stays on its ledger
pub record IsTold (r : Round) (b : HeartbeatReply) : Type 0 where
  pub ready : is_some b.round.ready ≡ is_ready b.answer.kind
  pub setting : b.round.setting ≡ r.setting

quiet_told : (r : Round) → IsTold r (quiet_reply r)
quiet_told r = record { ready = refl; setting = refl }

concluded_ready : (r : Round) (round_ms : ℕ) (c : Consensus) (agreed is_new : Bool) (said : Option Said) →
    is_some (ready_after (outcome c agreed) round_ms) ≡ is_ready (kind_of (outcome c agreed) is_new)
concluded_ready r round_ms c false true said = refl
concluded_ready r round_ms No true true said = refl
concluded_ready r round_ms c agreed is_new said = refl

after_third_setting : (r : Round) (second : ℕ) (d : Decision) → (after_third r second d).setting ≡ r.setting
after_third_setting r second d =
    cond_both (is_renewed r second d) (with_new_position d.choice.close second r) r (λ (s : Round). s.setting ≡ r.setting) (λ _. refl) (λ _. refl)

by_told : (d : Decision) (round_ms second finished : ℕ) (r : Round) → IsTold r (established_by d round_ms second finished r)
by_told d round_ms second finished r = record {
  ready = concluded_ready (after_third r second d) round_ms (consensus (tally (after_third r second d) round_ms finished)) d.choice.agreed (is_renewed r second d) (said_in_third r second d);
  setting = after_third_setting r second d;
}

pub establish_told : (now finished : ℕ) (r : Round) → IsTold r (establish_beat now finished r)
establish_told now finished r =
    let ms : ℕ = now - r.stance.closed in
    let second : ℕ = now / 1000 in
    let told = by_told (decision r ms second) ms second finished (after_vote r ms second) in
    cond_both (nat_lt ms least_ms) (quiet_reply r) (establish_reply ms second finished r) (IsTold r) (λ _. quiet_told r) (λ _. record { ready = told.ready; setting = told.setting })
