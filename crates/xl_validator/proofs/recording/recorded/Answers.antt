-- the entries that were kept are the journal, so what was written of them is the text of the journal
use Rattle.std.proofs.Common.{◌≡◌, true, List, length, Option, Some, IfSome, sym, ap, ◌∙◌, subst}
use Rattle.std.specs.Prelude.{is_some}
use Rattle.xl_store.specs.declared.entry.Entry.{Entry}
use Rattle.xl_audit.specs.Rereading.{SaysYes}
use Rattle.xl_validator.specs.Recordings.{text_by}
use Rattle.xl_validator.specs.declared.recording.Recording.{Recording}
use Rattle.xl_validator.proofs.recording.recorded.Goals as goal

pub returns-clause-yes : goal.returns-clause-yes
returns-clause-yes g c asked over =
    let made : Recording = c.in-Some.recording in
    let some : is_some c.args.recording ≡ true = ap (λ (o : Option Recording). is_some o) c.in-Some.is in
    let handed : c.args.ended.journal ≡ Some c.in-Some-entries.entries = sym (c.requires.kept some) ∙ c.in-Some-entries.is in
    subst
    (λ (o : Option Recording). IfSome o (λ r. IfSome c.args.ended.journal (λ history. r.with_keys ≡ true
    → SaysYes (text_by r.with_keys r.settings r.now r.kept history) (length history))))
    (sym c.in-Some.is)
    (subst (λ (j : Option (List Entry)). IfSome j (λ history. made.with_keys ≡ true
    → SaysYes (text_by made.with_keys made.settings made.now made.kept history) (length history))) (sym handed)
    (λ with_keys. c.write_behind.ensures.yes with_keys over))
