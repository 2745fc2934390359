-- What is told of steps: of what happened at a core, and not of the emptying that follows.
use Rattle.std.proofs.Common.{◌≡◌, ℕ, List, [], ◌∷◌, ◌++◌, map, refl, ap, sym, ◌∙◌, Option, Some, None, append_assoc, append-nil}
use Rattle.std.specs.Prelude.{option_map, option_to_list}
use Rattle.xl_core.specs.Core.{Core, CoreReply}
use Rattle.xl_core.specs.declared.event.CoreEvent.{CoreEvent}
use Rattle.xl_core.specs.declared.event.CoreEvent.TheVariants.{Drain, Reports}
use Rattle.xl_core.specs.declared.report.Report.{Report}
use Rattle.xl_world.specs.declared.act.NodeAnswer.{NodeAnswer}
use Rattle.xl_world.specs.declared.outcome.Outcome.{Outcome}
use Rattle.xl_world.specs.declared.outcome.Outcome.TheVariants.{Full}
use Rattle.xl_world.specs.declared.place.Fate.{Fate}
use Rattle.xl_world.specs.declared.place.Fate.TheVariants.{Saved}
use Rattle.xl_world.specs.declared.place.Place.{Place}
use Rattle.xl_world.specs.Emptying.{drains_of, emptying_at, event_steps, handed_out}
use Rattle.xl_world.specs.Schedule.{told_in, told_of_answer, told_of_reply, told_of_step}
use Rattle.xl_world.specs.Seen.{Answers, AnswersAt, outcomes_told}
use Rattle.xl_world.specs.World.{Act, Step, World, place_at, reply_at, run, step}
use Rattle.xl_world.proofs.Emptying.{AreDrains, drain_by, turns_are}

-- STEPS ONE AFTER THE OTHER

pub told_append : (w : World) (ss ts : List Step) → told_in w (ss ++ ts) ≡ told_in w ss ++ told_in (run w ss) ts
told_append w [] ts = refl
told_append w (s ∷ ss) ts =
    ap (λ (os : List Outcome). told_of_step w s ++ os) (told_append (step w s) ss ts) ∙ sym (append_assoc (told_of_step w s) (told_in (step w s) ss) (told_in (run (step w s) ss) ts))

nothing_more : (w : World) (s : Step) (ss : List Step) → told_of_step w s ≡ [] → told_in (step w s) ss ≡ [] → told_in w (s ∷ ss) ≡ []
nothing_more w s ss here there = ap (λ (os : List Outcome). os ++ told_in (step w s) ss) here ∙ there

-- EMPTYING

drain_told : (i m room : ℕ) (o : Option Place) → told_of_reply i (option_map (λ p. reply_at p (Drain m room) Saved) o) ≡ []
drain_told i m room None = refl
drain_told i m room (Some p) = refl

reports_told : (i room : ℕ) (o : Option Place) → told_of_reply i (option_map (λ p. reply_at p (Reports room) Saved) o) ≡ []
reports_told i room None = refl
reports_told i room (Some p) = refl

drains_told : (w : World) (i : ℕ) (es : List CoreEvent) → AreDrains es → told_in w (map (λ e. Act i e Saved) es) ≡ []
drains_told w i [] are = refl
drains_told w i (e ∷ es) are =
    nothing_more w (Act i e Saved) (map (λ d. Act i d Saved) es)
    (drain_by (λ d. told_of_reply i (option_map (λ p. reply_at p d Saved) (place_at i w.places)) ≡ []) (λ m room. drain_told i m room (place_at i w.places)) e are.0)
    (drains_told (step w (Act i e Saved)) i es are.1)

emptying_told : (w v : World) (i : ℕ) (e : CoreEvent) (fate : Fate) (o : Option Place) → told_in v (emptying_at w.numbers i e fate o) ≡ []
emptying_told w v i e fate None = refl
emptying_told w v i e fate (Some p) =
    let core : Core = handed_out (reply_at p e fate).core in
    nothing_more v (Act i (Reports 1) Saved) (map (λ d. Act i d Saved) (drains_of w.numbers core)) (reports_told i 1 (place_at i v.places))
    (drains_told (step v (Act i (Reports 1) Saved)) i (drains_of w.numbers core) (turns_are core _))

-- what is told of an event and of the emptying that follows is what is told of the event
pub told_once : (w : World) (i : ℕ) (e : CoreEvent) (fate : Fate) → told_in w (event_steps w i e fate) ≡ told_of_reply i (option_map (λ p. reply_at p e fate) (place_at i w.places))
told_once w i e fate =
    let here : List Outcome = told_of_reply i (option_map (λ p. reply_at p e fate) (place_at i w.places)) in
    ap (λ (os : List Outcome). here ++ os) (emptying_told w (step w (Act i e fate)) i e fate (place_at i w.places)) ∙ append-nil here

-- ANSWERS

answer_told : (i : ℕ) (e : CoreEvent) (fate : Fate) (a : NodeAnswer) (o : Option Place) → Answers e fate o (Some a) → outcomes_told i a ≡ told_of_reply i (option_map (λ p. reply_at p e fate) o)
answer_told i e fate a None never = absurd never
answer_told i e fate a (Some p) is =
    let r : CoreReply = reply_at p e fate in
    ap (λ (os : List Outcome). os ++ option_to_list (option_map (λ (q : Report). Full i q.seq q.id) a.report)) (ap (told_of_answer i) is.told)
    ∙ ap (λ (o : Option Report). told_of_answer i r.answer ++ option_to_list (option_map (λ (q : Report). Full i q.seq q.id) o)) is.report

-- what the code tells of an answer is what is told of the steps of its event
pub told_ran : (w : World) (i : ℕ) (e : CoreEvent) (fate : Fate) (a : NodeAnswer) → AnswersAt i e fate w.places (Some a) → outcomes_told i a ≡ told_in w (event_steps w i e fate)
told_ran w i e fate a answers = answer_told i e fate a (place_at i w.places) answers ∙ sym (told_once w i e fate)

nothing_told : (i : ℕ) (e : CoreEvent) (fate : Fate) (o : Option Place) → Answers e fate o None → told_of_reply i (option_map (λ p. reply_at p e fate) o) ≡ []
nothing_told i e fate None is = refl
nothing_told i e fate (Some p) never = absurd never

-- where there is no node of the number nothing is told
pub told_nothing : (w : World) (i : ℕ) (e : CoreEvent) (fate : Fate) → AnswersAt i e fate w.places None → told_in w (event_steps w i e fate) ≡ []
told_nothing w i e fate answers = told_once w i e fate ∙ nothing_told i e fate (place_at i w.places) answers
