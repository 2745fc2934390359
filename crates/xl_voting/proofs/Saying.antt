-- Texts one behind the other.
use Rattle.std.proofs.Common.{◌≡◌, ℕ, ◌+◌, ◌<◌, ◌++◌, List, [], ◌∷◌, append_assoc, drop, get_or, length, sym, ap, ◌∙◌}
use Rattle.std.proofs.lemmas.List.{append-nil, at_drop_more}
use Rattle.xl_sched.specs.declared.event.Event.{Event}
use Rattle.xl_sched.specs.declared.named.Named.{Named}
use Rattle.xl_world.specs.declared.outcome.Outcome.{Outcome}
use Rattle.xl_world.specs.Schedule.{after_event, outcomes}
use Rattle.xl_world.specs.World.{World}
use Rattle.xl_voting.specs.Reports.{Said, behind, events_said, outcome_said, outcomes_said, said_so}
use Rattle.xl_voting.specs.Tallying.{Tallying, tally_keeping}

module _ {V : Type 0} where
  behind_both : (front text : List ℕ) (x : Said V) → behind front (behind text x) ≡ behind (front ++ text) x
  behind_both front text x = ap (λ (t : List ℕ). said_so t x.votes) (sym (append_assoc front text x.text))

  -- what was said stands behind a front, and then the rest
  pub said_on : (rest : V → Said V) (front now : List ℕ) (first : Said V) (v : V) → said_so now v ≡ behind front first → behind now (rest v) ≡ behind front (behind first.text (rest first.votes))
  said_on rest front now first v is = ap (λ (s : Said V). behind s.text (rest s.votes)) is ∙ sym (behind_both front first.text (rest first.votes))

  -- nothing is said behind it
  pub said_last : (front : List ℕ) (x : Said V) → behind front (behind x.text (said_so [] x.votes)) ≡ behind front x
  said_last front x = ap (λ (t : List ℕ). said_so (front ++ t) x.votes) (append-nil x.text)

  pub said_first : (now : List ℕ) (v : V) → said_so now v ≡ behind now (said_so [] v)
  said_first now v = ap (λ (t : List ℕ). said_so t v) (sym (append-nil now))

module _ (names : List Named) (w : World) where
  -- one outcome more is told
  pub outcomes_on : (os : List Outcome) (i : ℕ) (o : Outcome) (total : Said Tallying) (text now : List ℕ) (v v2 : Tallying) → i < length os → o ≡ get_or os i o →
      said_so now v2 ≡ behind text (outcome_said tally_keeping names w v o) → behind text (outcomes_said tally_keeping names w v (drop i os)) ≡ total →
      behind now (outcomes_said tally_keeping names w v2 (drop (i + 1) os)) ≡ total
  outcomes_on os i o total text now v v2 lt is said rest =
      said_on (λ x. outcomes_said tally_keeping names w x (drop (i + 1) os)) text now (outcome_said tally_keeping names w v o) v2 said
      ∙ ap (λ (x : Outcome). behind text (outcomes_said tally_keeping names w v (x ∷ drop (i + 1) os))) is
      ∙ sym (at_drop_more (λ xs. behind text (outcomes_said tally_keeping names w v xs)) os i o lt)
      ∙ rest

-- one event more is told
pub events_on : (names : List Named) (w : World) (e : Event) (es : List Event) (text now : List ℕ) (v v2 : Tallying) →
    said_so now v2 ≡ behind text (outcomes_said tally_keeping names (after_event w e) v (outcomes w e)) →
    behind now (events_said tally_keeping names (after_event w e) v2 es) ≡ behind text (events_said tally_keeping names w v (e ∷ es))
events_on names w e es text now v v2 said =
    said_on (λ x. events_said tally_keeping names (after_event w e) x es) text now (outcomes_said tally_keeping names (after_event w e) v (outcomes w e)) v2 said
