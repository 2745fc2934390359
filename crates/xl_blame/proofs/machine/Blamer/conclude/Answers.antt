-- the last journal has ended too, and what all of them show is said
use Rattle.std.proofs.Common.{◌≡◌, ◌++◌, ◌∷◌, ◌∙◌, [], List, ap, subst}
use Rattle.std.specs.Prelude.{IfOk, OnOk}
use Rattle.std.specs.String.{string_bytes}
use Rattle.xl_shown.specs.declared.course.End.{End}
use Rattle.xl_blame.specs.Blaming.{Blaming, number_of}
use Rattle.xl_blame.specs.States.{gathered_seen, state_of}
use Rattle.xl_blame.specs.Summary.{summary_of, verdict_of}
use Rattle.xl_blame.specs.Texts.{journal_line}
use Rattle.xl_blame.proofs.Summing.{closes_so}
use Rattle.xl_blame.proofs.machine.Blamer.conclude.Goals as goal

pub returns : goal.returns
returns c =
    let b : Blaming = state_of c.args.self.now in
    let ended : List End = c.args.self.now.ended.items ++ c.args.end ∷ [] in
    let shown_is : gathered_seen c.replace-shown.result ≡ b.shown = ap gathered_seen c.replace-shown.ensures.value in
    let ended_is : c.deref.result.now ≡ ended =
    c.deref.ensures.value ∙ (c.in_ok-push.ensures.items ∙ ap (λ xs. xs.items ++ c.args.end ∷ []) c.replace-ended.ensures.value) in
    closes_so c.push_summary.result (string_bytes c.push_summary.new.text) (string_bytes c.push_journal.new.text)
    (journal_line (number_of b) c.args.end) (summary_of ended b.shown) (verdict_of ended b.shown)
    (subst (λ g. OnOk c.push_summary.result (string_bytes c.push_summary.new.text ≡ string_bytes c.push_journal.new.text ++ summary_of ended g)) shown_is
    (subst (λ es. OnOk c.push_summary.result (string_bytes c.push_summary.new.text
    ≡ string_bytes c.push_journal.new.text ++ summary_of es (gathered_seen c.replace-shown.result))) ended_is c.push_summary.ensures.text))
    (subst (λ g. IfOk c.push_summary.result (λ v. v ≡ verdict_of ended g)) shown_is
    (subst (λ es. IfOk c.push_summary.result (λ v. v ≡ verdict_of es (gathered_seen c.replace-shown.result))) ended_is c.push_summary.ensures.verdict))
    (c.in_ok-push_journal.ensures
    ∙ (ap (λ n. string_bytes c.args.text.now ++ journal_line n c.args.end) c.number.ensures
    ∙ ap (λ xs. xs ++ journal_line (number_of b) c.args.end) c.requires.empty))
