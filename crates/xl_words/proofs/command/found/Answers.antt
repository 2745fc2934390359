-- the program is simple, so that the words match by its rules, and of an error only the kind counts for the answer
use Rattle.std.proofs.Common.{◌≡◌, ◌∙◌, [], ap, sym, subst, Some}
use Rattle.clap.specs.Words.{App, HasKind, fault_of, is_simple, is_simple_and_free, subcommand_of, subcommand_rows_of}
use Rattle.xl_words.specs.Programs.{program}
use Rattle.xl_words.specs.Commands.{command_found, command_of, reply_to, words_of}
use Rattle.xl_words.proofs.Alone.{stand_alone}
use Rattle.xl_words.proofs.Exact.{simple, simple_and_free, found_is, given_by_error, found_by_error, given_by_match, found_by_match}
use Rattle.xl_words.proofs.command.found.Goals as goal
use Rattle.xl_words.proofs.command.found.Goals.{In-Ok-try_get_matches_from, In-Err}

-- no error is found
none : (c : In-Ok-try_get_matches_from) → fault_of program (words_of c.args.words.now) ≡ []
none c =
    ap (λ (a : App). fault_of a (words_of c.args.words.now)) (sym c.in-Ok.ensures)
    ∙ c.in-Ok-try_get_matches_from.ensures.kinds (ap is_simple_and_free c.in-Ok.ensures ∙ simple_and_free)

-- the command that is found
rows : (c : In-Ok-try_get_matches_from) → subcommand_rows_of c.in-Ok-try_get_matches_from.matches ≡ subcommand_of program (words_of c.args.words.now)
rows c =
    (c.in-Ok-try_get_matches_from.ensures.matches (ap is_simple c.in-Ok.ensures ∙ simple)).1
    ∙ ap (λ (a : App). subcommand_of a (words_of c.args.words.now)) c.in-Ok.ensures

-- the kind of the error
kinds : (c : In-Err) → HasKind (fault_of program (words_of c.args.words.now)) c.in-Err.error
kinds c =
    subst (λ (a : App). HasKind (fault_of a (words_of c.args.words.now)) c.in-Err.error) c.in-Ok.ensures
    (c.in-Err.ensures.kinds (ap is_simple_and_free c.in-Ok.ensures ∙ simple_and_free))

pub returns-in-Ok-try_get_matches_from-clause-given : goal.returns-in-Ok-try_get_matches_from-clause-given
returns-in-Ok-try_get_matches_from-clause-given c = λ command e.
    let at = (goal.at.returns-in-Ok-try_get_matches_from-clause-given c).In-Ok-try_get_matches_from in
    given_by_match c.named_in.result c.ok_or.result c.ok_or.ensures.value command
    (c.named_in.ensures ∙ ap command_found (rows at) ∙ sym (found_is _ _ (none at)) ∙ e)

pub returns-in-Ok-try_get_matches_from-clause-found : goal.returns-in-Ok-try_get_matches_from-clause-found
returns-in-Ok-try_get_matches_from-clause-found c =
    let at = (goal.at.returns-in-Ok-try_get_matches_from-clause-found c).In-Ok-try_get_matches_from in
    found_by_match c.named_in.result (λ command. command_of (words_of c.args.words.now) ≡ Some command) c.ok_or.result c.ok_or.ensures.value
    (λ command e. found_is _ _ (none at) ∙ ap command_found (sym (rows at)) ∙ sym c.named_in.ensures ∙ e)

pub returns-in-Err-clause-given : goal.returns-in-Err-clause-given
returns-in-Err-clause-given c = λ command.
    let at = (goal.at.returns-in-Err-clause-given c).In-Err in
    given_by_error (fault_of program (words_of c.args.words.now)) (command_found (subcommand_of program (words_of c.args.words.now))) c.in-Err.error c.reply_to.result (kinds at) (c.reply_to.ensures ∙ ap reply_to c.kind.ensures) command

pub returns-in-Err-clause-found : goal.returns-in-Err-clause-found
returns-in-Err-clause-found c =
    let at = (goal.at.returns-in-Err-clause-found c).In-Err in
    found_by_error (fault_of program (words_of c.args.words.now)) (command_found (subcommand_of program (words_of c.args.words.now))) c.in-Err.error c.reply_to.result (stand_alone (words_of c.args.words.now)) (kinds at) (c.reply_to.ensures ∙ ap reply_to c.kind.ensures)
