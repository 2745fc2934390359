-- What an entry shows, by the laws of lives.
use Rattle.std.proofs.Common.{◌≡◌, ℕ, ◌++◌, Bool, refl, sym, ap, ◌∙◌, Result, Ok, Err, Option, None}
use Rattle.std.specs.Prelude.{option_and_then, option_map, option_to_list}
use Rattle.xl_lists.specs.declared.said.SaidLedger.{SaidLedger}
use Rattle.xl_core.specs.Answers.{Answer}
use Rattle.xl_core.specs.Answers as answer
use Rattle.xl_core.specs.Core.{Core}
use Rattle.xl_core.specs.Hearing.{spoken_in}
use Rattle.xl_core.specs.Node.{at_moment}
use Rattle.xl_core.specs.declared.deed.Deed.TheVariants as deed
use Rattle.xl_core.specs.declared.event.CoreEvent.{CoreEvent}
use Rattle.xl_core.specs.declared.event.CoreEvent.TheVariants.{Issue, Frame, Timer, Submit, Relist}
use Rattle.xl_core.specs.declared.hearing.Speech.{Speech}
use Rattle.xl_core.specs.declared.hearing.Speech.TheVariants as speech
use Rattle.xl_core.specs.declared.hearing.Spoken.{Spoken}
use Rattle.xl_core.specs.declared.refusal.Refusal.{Refusal}
use Rattle.xl_core.specs.declared.timer_answer.Issued.TheVariants as issued
use Rattle.xl_core.specs.declared.timer_answer.TimerAnswer.{TimerAnswer}
use Rattle.xl_core.specs.declared.timer_answer.TimerAnswer.TheVariants as timer_answer
use Rattle.xl_core.proofs.Timing.{submit_either, relist_either}
use Rattle.xl_store.specs.declared.entry.Entry.{Entry}
use Rattle.xl_store.specs.declared.entry.Saved.{Saved}
use Rattle.xl_store.specs.Entries.{entry_of, reply_of, save_of}
use Rattle.xl_world.specs.Seen.{said_by_beat, said_in}
use Rattle.xl_world.specs.World.{said_by}
use Rattle.xl_world.proofs.Doing.{frame_quiet, said_so}
use Rattle.xl_evidence.specs.Evidence.{heard_by}
use Rattle.xl_evidence.specs.Evidence as evidence
use Rattle.xl_shown.specs.Showing.{heard_in, heard_so, issued_by_beat, issued_in}
use Rattle.xl_shown.specs.declared.hearing.Heard.{Heard}
use Rattle.xl_blamed.specs.Showing.{ShowsEvidence}

-- THE VALIDATION THAT IS ISSUED

beat_same : (me : ℕ) (beat : TimerAnswer) → issued_by_beat me beat ≡ said_by_beat me beat
beat_same me timer_answer.Nothing = refl
beat_same me other = refl

issue_same : (me now seq : ℕ) (id : _) (full : Bool) (a : Answer)
    → issued_in me (Issue now seq id full) a ≡ said_in me (deed.Issue now seq id full) a
issue_same me now seq id full answer.Done = refl
issue_same me now seq id full other = refl

timer_same : (me now : ℕ) (a : Answer) → issued_in me (Timer now) a ≡ said_in me (deed.Timer now) a
timer_same me now (answer.Beats beat) = beat_same me beat
timer_same me now other = refl

-- what an answer tells is what the core's step issues
issues_same : (core : Core) (event : CoreEvent) (outcome : Option Saved)
    → let r = reply_of core (entry_of event outcome) in
    issued_in core.node.me event r.answer ≡ option_map (said_by core.node.me) r.issued
issues_same core (Issue now seq id full) outcome =
    issue_same core.node.me now seq id full (reply_of core (entry_of (Issue now seq id full) outcome)).answer
    ∙ said_so core 0 (deed.Issue now seq id full) (save_of outcome)
issues_same core (Timer now) outcome =
    timer_same core.node.me now (reply_of core (entry_of (Timer now) outcome)).answer
    ∙ said_so core 0 (deed.Timer now) (save_of outcome)
issues_same core (Frame now bytes) outcome = ap (option_map (said_by core.node.me)) (sym (frame_quiet core.node now bytes))
issues_same core (Submit now tx) outcome =
    submit_either (λ r. None ≡ option_map (said_by core.node.me) r.issued) (at_moment now core.node) tx (λ _. refl) refl
issues_same core (Relist now list) outcome =
    relist_either (λ r. None ≡ option_map (said_by core.node.me) r.issued) (at_moment now core.node) list (λ _. refl) (λ _. refl)
issues_same core other outcome = refl

-- THE VALIDATION THAT IS HEARD

-- the validation in a frame that is heard
abbrev said_heard : Option Heard → Option SaidLedger
said_heard heard = option_and_then (λ h. h.said) heard

heard_same : (r : Result Spoken Refusal) → said_heard (heard_so r) ≡ evidence.said_so r
heard_same (Err why) = refl
heard_same (Ok said) = by said.from said.what
  where
    by : (from : ℕ) (what : Speech) → said_heard (heard_so (Ok (record { from = from; what = what }))) ≡ evidence.said_in_speech from what
    by from (speech.Validation v) = refl
    by from other = refl

hears_same : (core : Core) (event : CoreEvent) → said_heard (heard_in core event) ≡ heard_by core event
hears_same core (Frame now bytes) = heard_same (spoken_in core.node.keys core.node.list.members bytes)
hears_same core other = refl

pub shows_evidence : ShowsEvidence
shows_evidence core w =
    let e : Entry = w.entry in
    ap (λ o. option_to_list o ++ option_to_list (issued_in core.node.me e.event (reply_of core e).answer)) (hears_same core e.event)
    ∙ ap (λ o. option_to_list (heard_by core e.event) ++ option_to_list o) (issues_same core e.event e.outcome)
