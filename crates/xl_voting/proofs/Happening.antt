-- An event that went part by part, and a line that is none of votes.
use Rattle.std.proofs.Common.{◌≡◌, ℕ, List, [], Option, Some, None, Result, Ok, Err, sym, ap, ◌∙◌}
use Rattle.std.specs.Prelude.{IfOk, OnOk}
use Rattle.xl_lines.specs.Rules.{goes_on}
use Rattle.xl_running.specs.Running.{Running, answer_in, happens, in_world, knows, world_of}
use Rattle.xl_sched.specs.declared.event.Event.{Event}
use Rattle.xl_sched.specs.declared.event.What.{What}
use Rattle.xl_sched.specs.declared.favor.Favor.{Favor}
use Rattle.xl_sched.specs.Favors.{after_favor, favor_line}
use Rattle.xl_world.specs.Parts.{after_events, parts_at, parts_of}
use Rattle.xl_world.proofs.Partwise.{parts_are_the_whole}
use Rattle.xl_voting.specs.Reports.{Said, behind, event_said, events_said, said_so}
use Rattle.xl_voting.specs.Tallying.{Tallying, tally_keeping}
use Rattle.xl_voting.specs.Voting.{after_answer, after_favored, after_happening}

module _ (r : Running) (v : Tallying) (e : Event) (r2 : Running) (v2 : Tallying) (text text2 : List ℕ) (empty : text ≡ []) where
  whole : r2 ≡ in_world r (after_events (world_of r) (parts_of (world_of r) e)) → said_so text2 v2 ≡ behind text (event_said tally_keeping r.reading.names (world_of r) v e) →
      goes_on text2 (record { running = r2; votes = v2 }) ≡ after_happening tally_keeping r v e
  whole is said =
      let told : Said Tallying = event_said tally_keeping r.reading.names (world_of r) v e in
      let same : r2 ≡ happens r e = is ∙ ap (in_world r) (parts_are_the_whole (world_of r) e).world in
      let all : said_so text2 v2 ≡ told = said ∙ ap (λ (front : List ℕ). behind front told) empty in
      ap (λ (s : Said Tallying). goes_on s.text (record { running = r2; votes = s.votes })) all
      ∙ ap (λ (x : Running). goes_on told.text (record { running = x; votes = told.votes })) same

  module _ {X E : Type 0} where
    pub happened : (x : What) → e.what ≡ x → (result : Result X E) → OnOk result (r2 ≡ in_world r (after_events (world_of r) (parts_at (world_of r) e.at x))) →
        OnOk result (said_so text2 v2 ≡ behind text (events_said tally_keeping r.reading.names (world_of r) v (parts_at (world_of r) e.at x))) →
        OnOk result (goes_on text2 (record { running = r2; votes = v2 }) ≡ after_happening tally_keeping r v e)
    happened x is (Ok done) went said =
        whole (went ∙ ap (λ (w : What). in_world r (after_events (world_of r) (parts_at (world_of r) e.at w))) (sym is))
        (said ∙ ap (λ (w : What). behind text (events_said tally_keeping r.reading.names (world_of r) v (parts_at (world_of r) e.at w))) (sym is))
    happened x is (Err fault) went said = tt

-- ANOTHER LINE

pub no_favor : (r r2 : Running) (v : Tallying) (bytes : List ℕ) (read : Option Favor) → read ≡ None → favor_line r.reading bytes ≡ Ok read → r2 ≡ knows r (after_favor r.reading read) →
    after_answer tally_keeping r2 v (answer_in r2 bytes) ≡ after_favored tally_keeping r v bytes (favor_line r.reading bytes)
no_favor r r2 v bytes None none is known = ap (λ (x : Running). after_answer tally_keeping x v (answer_in x bytes)) known ∙ sym (ap (after_favored tally_keeping r v bytes) is)
no_favor r r2 v bytes (Some f) none is known = absurd cc

pub then_ok : {X E S : Type 0} → (result : Result X E) (f : X → S) (a b : S) → a ≡ b → IfOk result (λ x. f x ≡ a) → IfOk result (λ x. f x ≡ b)
then_ok (Ok x) f a b same is = is ∙ same
then_ok (Err e) f a b same is = tt
