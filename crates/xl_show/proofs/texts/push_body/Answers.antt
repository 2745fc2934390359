-- the word of each kind of body, and then its own text, are put behind what was there
use Rattle.std.proofs.Common.{◌≡◌, ◌++◌, ℕ, List, Result, Ok, Err, ap, subst, ◌∙◌, codes, append_assoc}
use Rattle.std.specs.Prelude.{OnOk}
use Rattle.std.specs.String.{string_bytes}
use Rattle.xl_ledger.specs.declared.header.Header.{Header}
use Rattle.xl_show.specs.Texts.{header_text, validation_text}
use Rattle.xl_show.proofs.texts.push_body.Goals as goal

on_ok : {T E : Type 0} (r : Result T E) (P Q : Type 0) → OnOk r P → (P → Q) → OnOk r Q
on_ok (Ok x) P Q is go = go is
on_ok (Err e) P Q is go = tt

pub returns-in_ok-push_str-in-Validation : goal.returns-in_ok-push_str-in-Validation
returns-in_ok-push_str-in-Validation c =
    let v = c.in-Validation.validation in
    rw c.in-Validation.is (on_ok c.push_validation.result _ _ c.push_validation.ensures
    (λ is. is ∙ ap (λ (xs : List ℕ). xs ++ validation_text v) c.in_ok-push_str-in-Validation.ensures.bytes
    ∙ append_assoc (string_bytes c.args.text.now) (codes "validation ") (validation_text v)))

pub returns-in-Header : goal.returns-in-Header
returns-in-Header c =
    rw c.in-Header.is (subst (λ (h : Header). OnOk c.push_header.result (string_bytes c.push_header.new.text ≡ string_bytes c.args.text.now ++ header_text h)) c.read_header.ensures.exact c.push_header.ensures)
