-- the first value decides: there is none, it is plainly written and read as a number, or it isn't and gives none
use Rattle.std.proofs.Common.{◌≡◌, ◌∙◌, refl, sym, codes, Some, None}
use Rattle.clap.specs.Words.{found_of, first_of, rows_of}
use Rattle.clap.proofs.WalkLemmas.{first_value-rows}
use Rattle.xl_words.proofs.Numbers.{not_written, plainly_written, otherwise_written}
use Rattle.xl_words.proofs.rounds.rounds_of.Goals as goal

pub returns-in_err-text : goal.returns-in_err-text
returns-in_err-text c =
    let found = found_of c.args.matches.now in
    let first : first_of (codes "rounds") (rows_of found) ≡ None = sym (first_value-rows found (codes "rounds")) ∙ sym c.get_str.ensures ∙ rw c.in_err-text.was refl in
    c.from_residual.ensures ∙ sym (not_written (rows_of found) first)

pub returns-then-is_plain : goal.returns-then-is_plain
returns-then-is_plain c =
    let found = found_of c.args.matches.now in
    let first : first_of (codes "rounds") (rows_of found) ≡ Some c.in_ok-text.text.now = sym (first_value-rows found (codes "rounds")) ∙ sym c.get_str.ensures ∙ rw c.in_ok-text.was refl in
    c.number_of.ensures ∙ sym (plainly_written (rows_of found) _ first (sym c.is_plain.ensures ∙ c.if-is_plain.true))

pub returns-else-is_plain : goal.returns-else-is_plain
returns-else-is_plain c =
    let found = found_of c.args.matches.now in
    let first : first_of (codes "rounds") (rows_of found) ≡ Some c.in_ok-text.text.now = sym (first_value-rows found (codes "rounds")) ∙ sym c.get_str.ensures ∙ rw c.in_ok-text.was refl in
    sym (otherwise_written (rows_of found) _ first (sym c.is_plain.ensures ∙ c.if-is_plain.false))
