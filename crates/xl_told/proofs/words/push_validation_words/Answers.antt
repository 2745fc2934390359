-- word after word
use Rattle.std.proofs.Common.{List, ℕ, ◌++◌, ap, ◌∙◌, append_assoc}
use Rattle.std.specs.Prelude.{decimal}
use Rattle.std.specs.String.{string_bytes}
use Rattle.xl_running.specs.Texts.{id_text, space}
use Rattle.xl_told.specs.Words.{fullness_text, validated_text}
use Rattle.xl_told.proofs.Writing.{last_written, then_written}
use Rattle.xl_told.proofs.words.push_validation_words.Goals as goal

pub returns : goal.returns
unfolding lib.Utf8.encode
returns c =
    let names = c.args.reader.now.names in
    let v = c.args.validation.now in
    let old = string_bytes c.args.text.now in
    let seq : List ℕ = decimal v.seq in
    let id : List ℕ = id_text names v.id in
    let ledger : List ℕ = seq ++ space ++ id in
    let signed : List ℕ = decimal v.signed in
    let full : List ℕ = fullness_text v.full in
    let told : List ℕ = validated_text names v.validated in
    let text1 = string_bytes c.push_ledger.new.text in
    let text2 = string_bytes c.push.new.self in
    let text3 = string_bytes c.push_number.new.text in
    let text4 = string_bytes c.push-2.new.self in
    let text5 = string_bytes c.push_fullness.new.text in
    last_written old (ledger ++ space ++ signed ++ space ++ full) told text5 (string_bytes c.push_validated.new.text) c.push_validated.result
    (then_written old (ledger ++ space ++ signed ++ space) full text4 text5
    (then_written old (ledger ++ space ++ signed) space text3 text4
    (then_written old (ledger ++ space) signed text2 text3
    (then_written old ledger space text1 text2 (c.in_ok-push_ledger.ensures ∙ (ap (λ (t : List ℕ). t ++ id) (append_assoc old seq space) ∙ append_assoc old (seq ++ space) id)) c.in_ok-push.ensures.bytes)
    (c.in_ok-push_number.ensures ∙ ap (λ (k : ℕ). text2 ++ decimal k) c.from.ensures)) c.in_ok-push-2.ensures.bytes) c.in_ok-push_fullness.ensures) c.push_validated.ensures
