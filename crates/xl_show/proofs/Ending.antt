-- What is told is never empty, and nothing is looked for.
use Rattle.std.proofs.Common.{◌≡◌, ◌≢◌, ◌<◌, ◌+◌, ◌==◌, ℕ, zero, suc, Bool, List, ◌++◌, length, drop, codes, decimal, refl, arith, length-append}
use Rattle.std.proofs.lemmas.Bool.{cond_both}
use Rattle.xl_lines.specs.declared.machine.Verdict.TheVariants.{Good, Found, Refused as IsRefused}
use Rattle.xl_lines.specs.Rules.{Told, closes, refused}
use Rattle.xl_wire.specs.declared.decoding.Decoded.{Decoded}
use Rattle.xl_wire.specs.declared.decoding.Decoded.TheVariants.{Whole, Need, Refused}
use Rattle.xl_wire.specs.Codes.{code_of}
use Rattle.xl_wire.specs.Frames.{decoded_of}
use Rattle.xl_show.specs.Shown.{told_at_end, told_by, told_frames, told_from}
use Rattle.xl_show.specs.Texts.{space, newline, body_text, frame_line, values_text, bad_line, short_line, limit_line, count_line}

-- a text that ends with a newline is not empty
line_some : (text : List ℕ) → 0 < length (text ++ newline)
line_some text = let one : length newline ≡ 1 = refl in omega (arith, one, length-append text newline)

bad_some : (place code : ℕ) (values : List ℕ) → 0 < length (bad_line place code values)
bad_some place code values = line_some (codes "bad " ++ decimal place ++ space ++ decimal code ++ space ++ values)

-- it is not empty, and it finds nothing
record IsPlain (told : Told) : Type 0 where
  some : 0 < length told.text
  never : told.verdict ≢ Found

limit_plain : IsPlain (refused limit_line)
limit_plain = record { some = bad_some _ _ _; never = λ e. cc }

ending_plain : (beyond : Bool) (place count lack : ℕ) (bytes : List ℕ) → IsPlain (told_at_end beyond place count lack bytes)
ending_plain beyond place count lack bytes =
    cond_both beyond (refused limit_line) _ IsPlain
    (λ _. limit_plain)
    (λ _. cond_both (length bytes == 0) (closes (count_line count) Good) (closes (short_line place lack) IsRefused) IsPlain
    (λ _. record { some = line_some (codes "frames " ++ decimal count); never = λ e. cc })
    (λ _. record { some = bad_some _ _ _; never = λ e. cc }))

by_plain : (next : ℕ → Told) (beyond : Bool) (place count : ℕ) (bytes : List ℕ) (d : Decoded) → ((n : ℕ) → IsPlain (next n)) → IsPlain (told_by next beyond place count bytes d)
unfolding told_by
by_plain next beyond place count bytes (Whole f n) plain =
    let some = line_some (codes "frame " ++ decimal f.from ++ space ++ decimal f.to ++ space ++ body_text f.body) in
    record { some = omega (arith, some, length-append (frame_line f) (next n).text); never = (plain n).never }
by_plain next beyond place count bytes (Need lack) plain = ending_plain beyond place count lack bytes
by_plain next beyond place count bytes (Refused refusal) plain = record { some = bad_some place (code_of refusal) (values_text refusal); never = λ e. cc }

frames_plain : (most : ℕ) (beyond : Bool) (place count : ℕ) (bytes : List ℕ) → IsPlain (told_frames most beyond place count bytes)
unfolding told_frames
frames_plain zero beyond place count bytes = ending_plain beyond place count 0 bytes
frames_plain (suc most) beyond place count bytes =
    by_plain (λ n. told_frames most beyond (place + n) (count + 1) (drop n bytes)) beyond place count bytes (decoded_of bytes)
    (λ n. frames_plain most beyond (place + n) (count + 1) (drop n bytes))

pub told_some : (place count : ℕ) (bytes : List ℕ) → 0 < length (told_from place count bytes).text
unfolding told_from
told_some place count bytes = (frames_plain _ _ place count _).some

pub never_found : (place count : ℕ) (bytes : List ℕ) → (told_from place count bytes).verdict ≢ Found
unfolding told_from
never_found place count bytes = (frames_plain _ _ place count _).never
