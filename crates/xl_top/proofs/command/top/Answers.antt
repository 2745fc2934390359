-- the words ask one command, whose own promises are those of the program, and what reports say holds of any text
use Rattle.std.proofs.Common.{◌≡◌, Option, Some, None, Err, List, ℕ, inl, inr, refl, sym, ap, subst, ◌∙◌, ◌⊎◌, IfSome}
use Rattle.std.specs.Prelude.{option_and_then}
use Rattle.xl_base.specs.Faults.{Rose}
use Rattle.xl_base.specs.declared.status.Status.{Status}
use Rattle.xl_base.specs.declared.status.Status.TheVariants as status
use Rattle.xl_top.specs.Statuses.{IsAnswered}
use Rattle.xl_replay.proofs.Headline.{whole_report, refused_report}
use Rattle.xl_gen.proofs.Summing.{summarized}
use Rattle.xl_validator.specs.Following.{HasFailed}
use Rattle.xl_validator.specs.Validators.{IsKnown}
use Rattle.xl_words.specs.Commands.{command_of, words_of}
use Rattle.xl_top.specs.Commands.{telling_in, told_of}
use Rattle.xl_top.specs.Texts.{WritesText, HasCause}
use Rattle.xl_texts.specs.Streams.{streams}
use Rattle.xl_top.proofs.After.{if_any, cause_among, uncaused, nothing_done}
use Rattle.xl_top.proofs.Asking.{by_asked, unasked, by_none}
use Rattle.xl_top.proofs.command.top.Goals as goal

pub returns-in-Ok-Tell-clause-unasked : goal.returns-in-Ok-Tell-clause-unasked
returns-in-Ok-Tell-clause-unasked g c =
    λ none. let no = sym (c.in-Ok-Tell.ensures.found ∙ ap Some c.in-Ok-Tell.field-0-is) ∙ none in absurd cc

pub returns-in-Ok-Tell-clause-headline : goal.returns-in-Ok-Tell-clause-headline
returns-in-Ok-Tell-clause-headline g c =
    if_any (g.I.Source.left c.args.input.now) _ whole_report

pub returns-in-Ok-Tell-clause-refusal : goal.returns-in-Ok-Tell-clause-refusal
returns-in-Ok-Tell-clause-refusal g c =
    if_any (g.I.Source.left c.args.input.now) _ refused_report

pub returns-in-Ok-Tell-clause-summaries : goal.returns-in-Ok-Tell-clause-summaries
returns-in-Ok-Tell-clause-summaries g c =
    summarized

pub returns-in-Ok-Node-clause-headline : goal.returns-in-Ok-Node-clause-headline
returns-in-Ok-Node-clause-headline g c =
    if_any (g.I.Source.left c.args.input.now) _ whole_report

pub returns-in-Ok-Node-clause-refusal : goal.returns-in-Ok-Node-clause-refusal
returns-in-Ok-Node-clause-refusal g c =
    if_any (g.I.Source.left c.args.input.now) _ refused_report

pub returns-in-Ok-Node-clause-summaries : goal.returns-in-Ok-Node-clause-summaries
returns-in-Ok-Node-clause-summaries g c =
    summarized

pub returns-in-Err-Refused-clause-headline : goal.returns-in-Err-Refused-clause-headline
returns-in-Err-Refused-clause-headline g c =
    if_any (g.I.Source.left c.args.input.now) _ whole_report

pub returns-in-Err-Refused-clause-refusal : goal.returns-in-Err-Refused-clause-refusal
returns-in-Err-Refused-clause-refusal g c =
    if_any (g.I.Source.left c.args.input.now) _ refused_report

pub returns-in-Err-Refused-clause-summaries : goal.returns-in-Err-Refused-clause-summaries
returns-in-Err-Refused-clause-summaries g c =
    summarized

pub returns-in-Err-Memory-clause-headline : goal.returns-in-Err-Memory-clause-headline
returns-in-Err-Memory-clause-headline g c =
    if_any (g.I.Source.left c.args.input.now) _ whole_report

pub returns-in-Err-Memory-clause-refusal : goal.returns-in-Err-Memory-clause-refusal
returns-in-Err-Memory-clause-refusal g c =
    if_any (g.I.Source.left c.args.input.now) _ refused_report

pub returns-in-Err-Memory-clause-summaries : goal.returns-in-Err-Memory-clause-summaries
returns-in-Err-Memory-clause-summaries g c =
    summarized

pub returns-in-Ok-Tell-clause-others : goal.returns-in-Ok-Tell-clause-others
returns-in-Ok-Tell-clause-others g c =
    λ _. (
      c.unopened.ensures.keeper,
      refl,
      c.unopened.ensures.journal,
      refl,
      c.unopened.ensures.bulletin,
      c.unopened.ensures.recorder,
    )

pub returns-in-Ok-Tell-clause-store : goal.returns-in-Ok-Tell-clause-store
returns-in-Ok-Tell-clause-store g c =
    λ is. absurd (subst IsAnswered (sym c.unopened.ensures.status ∙ is) c.write_text.ensures.known)

pub returns-in-Ok-Node-clause-unasked : goal.returns-in-Ok-Node-clause-unasked
returns-in-Ok-Node-clause-unasked g c =
    λ none. let no = sym (c.in-Ok-Node.ensures.found ∙ ap Some c.in-Ok-Node.field-0-is) ∙ none in absurd cc

pub returns-in-Ok-Node-clause-others : goal.returns-in-Ok-Node-clause-others
returns-in-Ok-Node-clause-others g c =
    λ other. absurd (other (c.in-Ok-Node.ensures.found ∙ ap Some c.in-Ok-Node.field-0-is))

pub returns-in-Ok-Node-clause-store : goal.returns-in-Ok-Node-clause-store
returns-in-Ok-Node-clause-store g c =
    λ _. (c.in-Ok-Node.ensures.found ∙ ap Some c.in-Ok-Node.field-0-is)

pub returns-in-Err-Refused-clause-unasked : goal.returns-in-Err-Refused-clause-unasked
returns-in-Err-Refused-clause-unasked g c =
    λ _. (inl c.unopened-in-Err-Refused.ensures.status, refl, refl)

pub returns-in-Err-Refused-clause-store : goal.returns-in-Err-Refused-clause-store
returns-in-Err-Refused-clause-store g c =
    λ is. let no = sym c.unopened-in-Err-Refused.ensures.status ∙ is in absurd cc

pub returns-in-Err-Refused-clause-others : goal.returns-in-Err-Refused-clause-others
returns-in-Err-Refused-clause-others g c =
    λ _. (
      c.unopened-in-Err-Refused.ensures.keeper,
      refl,
      c.unopened-in-Err-Refused.ensures.journal,
      refl,
      c.unopened-in-Err-Refused.ensures.bulletin,
      c.unopened-in-Err-Refused.ensures.recorder,
    )

pub returns-in-Err-Memory-clause-store : goal.returns-in-Err-Memory-clause-store
returns-in-Err-Memory-clause-store g c =
    λ is. let no = sym c.unopened-in-Err-Memory.ensures.status ∙ is in absurd cc

pub returns-in-Err-Memory-clause-unasked : goal.returns-in-Err-Memory-clause-unasked
returns-in-Err-Memory-clause-unasked g c =
    λ _. (inr c.unopened-in-Err-Memory.ensures.status, refl, refl)

pub returns-in-Err-Memory-clause-others : goal.returns-in-Err-Memory-clause-others
returns-in-Err-Memory-clause-others g c =
    λ _. (
      c.unopened-in-Err-Memory.ensures.keeper,
      refl,
      c.unopened-in-Err-Memory.ensures.journal,
      refl,
      c.unopened-in-Err-Memory.ensures.bulletin,
      c.unopened-in-Err-Memory.ensures.recorder,
    )

pub returns-in-Ok-Tell-clause-words : goal.returns-in-Ok-Tell-clause-words
returns-in-Ok-Tell-clause-words g c =
    λ is. absurd (subst IsAnswered (sym c.unopened.ensures.status ∙ is) c.write_text.ensures.known)

pub returns-in-Ok-Tell-clause-text : goal.returns-in-Ok-Tell-clause-text
returns-in-Ok-Tell-clause-text g c =
    by_asked (told_of (words_of c.args.words.now)) c.in-Ok-Tell.telling _ (ap (option_and_then telling_in) (c.in-Ok-Tell.ensures.found ∙ ap Some c.in-Ok-Tell.field-0-is)) (subst (WritesText c.in-Ok-Tell.telling (streams (g.I.Source.left c.args.input.now) (g.I.Source.faults c.args.input.now) (g.O.Sink.held c.args.output.now) (g.O.Sink.faults c.args.output.now)) (streams (g.I.Source.left c.write_text.new.input) (g.I.Source.faults c.write_text.new.input) (g.O.Sink.held c.write_text.new.output) (g.O.Sink.faults c.write_text.new.output))) (sym c.unopened.ensures.status) c.write_text.ensures.writes)

pub returns-in-Ok-Tell-clause-cause : goal.returns-in-Ok-Tell-clause-cause
returns-in-Ok-Tell-clause-cause g c =
    let read = Rose (g.I.Source.faults c.args.input.now) (g.I.Source.faults c.write_text.new.input) in
    let wrote = Rose (g.O.Sink.faults c.args.output.now) (g.O.Sink.faults c.write_text.new.output) in
    let kept = Rose (g.K.Keeper.faults c.args.keeper) (g.K.Keeper.faults c.unopened.result.keeper) in
    let linked = Rose (g.H.Hub.faults c.args.hub.now) (g.H.Hub.faults c.args.hub.now) in
    subst (λ (x : Status). HasCause x read (wrote ⊎ HasFailed c.unopened.result.recorder) kept linked)
    (sym c.unopened.ensures.status)
    (cause_among c.write_text.result read wrote (HasFailed c.unopened.result.recorder) kept linked c.write_text.ensures.cause)

pub returns-in-Ok-Node-clause-words : goal.returns-in-Ok-Node-clause-words
returns-in-Ok-Node-clause-words g c =
    λ is. absurd (subst IsKnown is c.validator.ensures.known)

pub returns-in-Ok-Node-clause-text : goal.returns-in-Ok-Node-clause-text
returns-in-Ok-Node-clause-text g c =
    by_none (told_of (words_of c.args.words.now)) _ (ap (option_and_then telling_in) (c.in-Ok-Node.ensures.found ∙ ap Some c.in-Ok-Node.field-0-is))

pub returns-in-Ok-Node-clause-cause : goal.returns-in-Ok-Node-clause-cause
returns-in-Ok-Node-clause-cause g c =
    record {
      by_read = c.validator.ensures.read;
      by_write = c.validator.ensures.write;
      by_keeper = c.validator.ensures.keeper;
      by_net = c.validator.ensures.net;
    }

pub returns-in-Err-Refused-clause-words : goal.returns-in-Err-Refused-clause-words
returns-in-Err-Refused-clause-words g c =
    λ _. unasked (command_of (words_of c.args.words.now)) (Err c.in-Err-Refused.field-0) (ap Err c.in-Err-Refused.field-0-is) c.in-Err-Refused.ensures.given

pub returns-in-Err-Refused-clause-text : goal.returns-in-Err-Refused-clause-text
returns-in-Err-Refused-clause-text g c =
    by_none (told_of (words_of c.args.words.now)) _ (ap (option_and_then telling_in) (unasked (command_of (words_of c.args.words.now)) (Err c.in-Err-Refused.field-0) (ap Err c.in-Err-Refused.field-0-is) c.in-Err-Refused.ensures.given))

pub returns-in-Err-Refused-clause-cause : goal.returns-in-Err-Refused-clause-cause
returns-in-Err-Refused-clause-cause g c =
    uncaused _ status.WordsRefused _ _ _ _ refl c.unopened-in-Err-Refused.ensures.status

pub returns-in-Err-Memory-clause-words : goal.returns-in-Err-Memory-clause-words
returns-in-Err-Memory-clause-words g c =
    λ is. let no = sym c.unopened-in-Err-Memory.ensures.status ∙ is in absurd cc

pub returns-in-Err-Memory-clause-text : goal.returns-in-Err-Memory-clause-text
returns-in-Err-Memory-clause-text g c =
    if_any (told_of (words_of c.args.words.now)) _ (λ telling. subst (WritesText telling (streams (g.I.Source.left c.args.input.now) (g.I.Source.faults c.args.input.now) (g.O.Sink.held c.args.output.now) (g.O.Sink.faults c.args.output.now)) (streams (g.I.Source.left c.args.input.now) (g.I.Source.faults c.args.input.now) (g.O.Sink.held c.args.output.now) (g.O.Sink.faults c.args.output.now))) (sym c.unopened-in-Err-Memory.ensures.status) (nothing_done telling (streams (g.I.Source.left c.args.input.now) (g.I.Source.faults c.args.input.now) (g.O.Sink.held c.args.output.now) (g.O.Sink.faults c.args.output.now))))

pub returns-in-Err-Memory-clause-cause : goal.returns-in-Err-Memory-clause-cause
returns-in-Err-Memory-clause-cause g c =
    uncaused _ status.OutOfMemory _ _ _ _ refl c.unopened-in-Err-Memory.ensures.status

pub returns-in-Ok-Tell-clause-unread : goal.returns-in-Ok-Tell-clause-unread
returns-in-Ok-Tell-clause-unread g c =
    by_asked (told_of (words_of c.args.words.now)) c.in-Ok-Tell.telling _ (ap (option_and_then telling_in) (c.in-Ok-Tell.ensures.found ∙ ap Some c.in-Ok-Tell.field-0-is)) c.write_text.ensures.unread

pub returns-in-Ok-Node-clause-unread : goal.returns-in-Ok-Node-clause-unread
returns-in-Ok-Node-clause-unread g c =
    by_none (told_of (words_of c.args.words.now)) _ (ap (option_and_then telling_in) (c.in-Ok-Node.ensures.found ∙ ap Some c.in-Ok-Node.field-0-is))

pub returns-in-Err-Refused-clause-unread : goal.returns-in-Err-Refused-clause-unread
returns-in-Err-Refused-clause-unread g c =
    by_none (told_of (words_of c.args.words.now)) _ (ap (option_and_then telling_in) (unasked (command_of (words_of c.args.words.now)) (Err c.in-Err-Refused.field-0) (ap Err c.in-Err-Refused.field-0-is) c.in-Err-Refused.ensures.given))

pub returns-in-Err-Memory-clause-unread : goal.returns-in-Err-Memory-clause-unread
returns-in-Err-Memory-clause-unread g c =
    if_any (told_of (words_of c.args.words.now)) _ (λ telling _. refl)

pub returns-in-Ok-Tell-clause-node : goal.returns-in-Ok-Tell-clause-node
returns-in-Ok-Tell-clause-node g c =
    λ is. let no = sym (c.in-Ok-Tell.ensures.found ∙ ap Some c.in-Ok-Tell.field-0-is) ∙ is in absurd cc

pub returns-in-Ok-Tell-clause-ends : goal.returns-in-Ok-Tell-clause-ends
returns-in-Ok-Tell-clause-ends g c =
    λ is. let no = sym (c.in-Ok-Tell.ensures.found ∙ ap Some c.in-Ok-Tell.field-0-is) ∙ is in absurd cc

pub returns-in-Ok-Tell-clause-node_ran : goal.returns-in-Ok-Tell-clause-node_ran
returns-in-Ok-Tell-clause-node_ran g c =
    by_none c.unopened.result.journal _ c.unopened.ensures.journal

pub returns-in-Ok-Node-clause-node : goal.returns-in-Ok-Node-clause-node
returns-in-Ok-Node-clause-node g c =
    λ _. inl c.validator.ensures.judged

pub returns-in-Ok-Tell-clause-told : goal.returns-in-Ok-Tell-clause-told
returns-in-Ok-Tell-clause-told g c =
    λ is. let no = sym (c.in-Ok-Tell.ensures.found ∙ ap Some c.in-Ok-Tell.field-0-is) ∙ is in absurd cc

pub returns-in-Ok-Node-clause-told : goal.returns-in-Ok-Node-clause-told
returns-in-Ok-Node-clause-told g c =
    λ _. inl c.validator.ensures.told

pub returns-in-Err-Refused-clause-told : goal.returns-in-Err-Refused-clause-told
returns-in-Err-Refused-clause-told g c =
    λ is. let no = sym (unasked (command_of (words_of c.args.words.now)) (Err c.in-Err-Refused.field-0) (ap Err c.in-Err-Refused.field-0-is) c.in-Err-Refused.ensures.given) ∙ is in absurd cc

pub returns-in-Err-Memory-clause-told : goal.returns-in-Err-Memory-clause-told
returns-in-Err-Memory-clause-told g c =
    λ _. inr (c.unopened-in-Err-Memory.ensures.status, c.unopened-in-Err-Memory.ensures.bulletin, refl)

pub returns-in-Ok-Node-clause-ends : goal.returns-in-Ok-Node-clause-ends
returns-in-Ok-Node-clause-ends g c =
    λ _. record {
      done = c.validator.ensures.done;
      full = c.validator.ensures.full;
      submits = c.validator.ensures.submits;
      beats = c.validator.ensures.beats;
      complete = λ quiet turns. inl (c.validator.ensures.complete quiet.0 quiet.1 quiet.2 quiet.3 quiet.4 quiet.5 turns);
    }

pub returns-in-Ok-Node-clause-node_ran : goal.returns-in-Ok-Node-clause-node_ran
returns-in-Ok-Node-clause-node_ran g c =
    if_any c.validator.result.journal _ (λ _. (c.in-Ok-Node.ensures.found ∙ ap Some c.in-Ok-Node.field-0-is))

pub returns-in-Err-Refused-clause-node : goal.returns-in-Err-Refused-clause-node
returns-in-Err-Refused-clause-node g c =
    λ is. let no = sym (unasked (command_of (words_of c.args.words.now)) (Err c.in-Err-Refused.field-0) (ap Err c.in-Err-Refused.field-0-is) c.in-Err-Refused.ensures.given) ∙ is in absurd cc

pub returns-in-Err-Refused-clause-ends : goal.returns-in-Err-Refused-clause-ends
returns-in-Err-Refused-clause-ends g c =
    λ is. let no = sym (unasked (command_of (words_of c.args.words.now)) (Err c.in-Err-Refused.field-0) (ap Err c.in-Err-Refused.field-0-is) c.in-Err-Refused.ensures.given) ∙ is in absurd cc

pub returns-in-Err-Refused-clause-node_ran : goal.returns-in-Err-Refused-clause-node_ran
returns-in-Err-Refused-clause-node_ran g c =
    by_none c.unopened-in-Err-Refused.result.journal _ c.unopened-in-Err-Refused.ensures.journal

pub returns-in-Err-Memory-clause-node : goal.returns-in-Err-Memory-clause-node
returns-in-Err-Memory-clause-node g c =
    λ _. inr (record {
      memory = c.unopened-in-Err-Memory.ensures.status;
      unopened = c.unopened-in-Err-Memory.ensures.journal;
      unread = refl;
      unwritten = refl;
      kept = c.unopened-in-Err-Memory.ensures.keeper;
      unlinked = refl;
    })

pub returns-in-Err-Memory-clause-ends : goal.returns-in-Err-Memory-clause-ends
returns-in-Err-Memory-clause-ends g c =
    λ _. record {
      done = λ is. let no = sym c.unopened-in-Err-Memory.ensures.status ∙ is in absurd cc;
      full = λ is. let no = sym c.unopened-in-Err-Memory.ensures.status ∙ is in absurd cc;
      submits = λ is. let no = sym c.unopened-in-Err-Memory.ensures.status ∙ is in absurd cc;
      beats = by_none c.unopened-in-Err-Memory.result.journal _ c.unopened-in-Err-Memory.ensures.journal;
      complete = λ quiet turns. inr c.unopened-in-Err-Memory.ensures.status;
    }

pub returns-in-Err-Memory-clause-node_ran : goal.returns-in-Err-Memory-clause-node_ran
returns-in-Err-Memory-clause-node_ran g c =
    by_none c.unopened-in-Err-Memory.result.journal _ c.unopened-in-Err-Memory.ensures.journal

pub returns-in-Ok-Tell-clause-recorded : goal.returns-in-Ok-Tell-clause-recorded
returns-in-Ok-Tell-clause-recorded g c =
    λ is. let no = sym (c.in-Ok-Tell.ensures.found ∙ ap Some c.in-Ok-Tell.field-0-is) ∙ is in absurd cc

pub returns-in-Ok-Node-clause-recorded : goal.returns-in-Ok-Node-clause-recorded
returns-in-Ok-Node-clause-recorded g c =
    λ _. inl c.validator.ensures.recorded

pub returns-in-Err-Refused-clause-recorded : goal.returns-in-Err-Refused-clause-recorded
returns-in-Err-Refused-clause-recorded g c =
    λ is. let no = sym (unasked (command_of (words_of c.args.words.now)) (Err c.in-Err-Refused.field-0) (ap Err c.in-Err-Refused.field-0-is) c.in-Err-Refused.ensures.given) ∙ is in absurd cc

pub returns-in-Err-Memory-clause-recorded : goal.returns-in-Err-Memory-clause-recorded
returns-in-Err-Memory-clause-recorded g c =
    λ _. inr (c.unopened-in-Err-Memory.ensures.status, c.unopened-in-Err-Memory.ensures.recorder, refl)
