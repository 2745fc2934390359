-- the word, the number and the digits are each put behind what was there, however these are grouped
use Rattle.std.proofs.Common.{◌≡◌, ◌++◌, ◌∷◌, codes, decimal, ap, sym, ◌∙◌, append_assoc}
use Rattle.std.specs.List.{join_with_byte}
use Rattle.std.proofs.lemmas.Result.{on_ok_weaker}
use Rattle.hex.specs.Hex.{encode_lower}
use Rattle.xl_spelling.specs.Spellings.{what_words}
use Rattle.xl_spelling.proofs.event.push_what.Goals as goal

pub returns-in_ok-push_of-in-Raw-clause-text : goal.returns-in_ok-push_of-in-Raw-clause-text
returns-in_ok-push_of-in-Raw-clause-text c =
    let old = c.args.room.now.items in
    let word = codes "raw" in
    let number = decimal c.in-Raw.to in
    let digits = encode_lower c.in-Raw.bytes in
    on_ok_weaker c.push_digits.result
    (λ (e : c.push_digits.new.room.items ≡ c.push_of-in-Raw.new.room.items ++ 32 ∷ encode_lower c.as_slice.result.now).
    e
    ∙ ap (λ bytes. c.push_of-in-Raw.new.room.items ++ 32 ∷ encode_lower bytes) c.as_slice.ensures
    ∙ ap (λ front. front ++ 32 ∷ digits) c.in_ok-push_of-in-Raw.ensures
    ∙ append_assoc (old ++ word) (32 ∷ number) (32 ∷ digits)
    ∙ append_assoc old word ((32 ∷ number) ++ 32 ∷ digits)
    ∙ ap (λ what. old ++ join_with_byte 32 (what_words what)) (sym c.in-Raw.is))
    c.push_digits.ensures.text
