-- What is told of whole frames, part by part.
use Rattle.std.proofs.Common.{◌≡◌, ◌≤◌, ◌+◌, ℕ, zero, suc, nat_lt, Bool, List, [], ◌∷◌, ◌++◌, length, take, drop, Option, refl, sym, ap, ◌∙◌, arith, length-append, length-drop, append-nil, append_assoc}
use Rattle.std.proofs.lemmas.Bool.{le-ltb}
use Rattle.std.proofs.lemmas.List.{drop-append-le, take-append-drop}
use Rattle.std.specs.Io.KnownBytes.{append_known}
use Rattle.xl_lines.specs.Rules.{Told}
use Rattle.xl_lines.specs.Told.{after}
use Rattle.xl_lines.specs.Soon.{silence}
use Rattle.xl_lines.specs.Running.{Puts}
use Rattle.xl_wire.specs.declared.decoding.Decoded.{Decoded}
use Rattle.xl_wire.specs.declared.decoding.Decoded.TheVariants.{Whole, Need, Refused}
use Rattle.xl_wire.specs.declared.frame.Frame.{Frame}
use Rattle.xl_wire.specs.Frames.{decoded_of}
use Rattle.xl_show.specs.declared.reading.Look.{Look}
use Rattle.xl_show.specs.declared.reading.Look.TheVariants as look
use Rattle.xl_show.specs.Reading.{IsSeen}
use Rattle.xl_show.specs.Limits.{most_bytes}
use Rattle.xl_show.specs.Soon.{soon_by, soon_in, ended_if, soon_from}
use Rattle.xl_show.specs.Steps.{PutsLook}
use Rattle.xl_show.specs.Texts.{frame_line}
use Rattle.xl_show.proofs.Extending.{frame_some}
use Rattle.xl_show.proofs.Looking.{Moves}

same_by : (next next' : ℕ → Told) (d : Decoded) → ((f : Frame) (n : ℕ) → d ≡ Whole f n → next n ≡ next' n) → soon_by next d ≡ soon_by next' d
unfolding soon_by
same_by next next' (Whole f n) same = ap (after (frame_line f)) (same f n refl)
same_by next next' (Need lack) same = refl
same_by next next' (Refused refusal) same = refl

-- no more frames than bytes can stand there
enough : (most most' : ℕ) (bytes : List ℕ) → length bytes ≤ most → length bytes ≤ most' → soon_in most bytes ≡ soon_in most' bytes
unfolding soon_in soon_by
enough zero zero bytes a b = refl
enough zero (suc most') [] a b = refl
enough zero (suc most') (x ∷ xs) a b = absurd (omega arith)
enough (suc most) zero [] a b = refl
enough (suc most) zero (x ∷ xs) a b = absurd (omega arith)
enough (suc most) (suc most') bytes a b =
    same_by (λ n. soon_in most (drop n bytes)) (λ n. soon_in most' (drop n bytes)) (decoded_of bytes)
    (λ f n is. let positive = frame_some bytes f n is in
    enough most most' (drop n bytes) (omega (arith, positive, length-drop n bytes)) (omega (arith, positive, length-drop n bytes)))

-- one look
soon_once : (bytes : List ℕ) (d : Decoded) → decoded_of bytes ≡ d → soon_in (length bytes) bytes ≡ soon_by (λ n. soon_in (length bytes) (drop n bytes)) d
unfolding soon_in
soon_once bytes d is =
    enough (length bytes) (suc (length bytes)) bytes (omega arith) (omega arith)
    ∙ ap (soon_by (λ n. soon_in (length bytes) (drop n bytes))) is

-- a frame
soon_frame : (xs : List ℕ) (f : Frame) (n : ℕ) → ((ys : List ℕ) → decoded_of (xs ++ ys) ≡ Whole f n) → n ≤ length xs → (rest : List ℕ) → soon_in (length (xs ++ rest)) (xs ++ rest) ≡ after (frame_line f) (soon_in (length (drop n xs ++ rest)) (drop n xs ++ rest))
unfolding soon_by
soon_frame xs f n is there rest =
    let left = drop n (xs ++ rest) in
    let fewer = length-drop n (xs ++ rest) in
    soon_once (xs ++ rest) (Whole f n) (is rest)
    ∙ ap (after (frame_line f)) (
    enough (length (xs ++ rest)) (length left) left (omega (arith, fewer)) (omega arith)
    ∙ ap (λ (bytes : List ℕ). soon_in (length bytes) bytes) (drop-append-le n xs rest there))

-- and the places of the bytes behind it stay
soon_behind : (place : ℕ) (xs : List ℕ) (f : Frame) (n : ℕ) → ((ys : List ℕ) → decoded_of (xs ++ ys) ≡ Whole f n) → n ≤ length xs → (rest : List ℕ) → soon_from place (xs ++ rest) ≡ after (frame_line f) (soon_from (place + n) (drop n xs ++ rest))
unfolding soon_from
soon_behind place xs f n is there rest =
    let left = drop n xs ++ rest in
    let fewer = length-drop n xs in
    let same : place + length (xs ++ rest) ≡ place + n + length left = omega (arith, there, fewer, length-append xs rest, length-append (drop n xs) rest) in
    ap (ended_if (nat_lt most_bytes (place + length (xs ++ rest)))) (soon_frame xs f n is there rest)
    ∙ ap (λ (reach : ℕ). after (frame_line f) (ended_if (nat_lt most_bytes reach) (soon_in (length left) left))) same

-- bytes lack
pub soon_begun : (place : ℕ) (xs : List ℕ) (n : ℕ) → decoded_of xs ≡ Need n → place + length xs ≤ most_bytes → soon_from place (xs ++ []) ≡ silence
unfolding soon_from soon_by
soon_begun place xs n is within =
    ap (λ (bytes : List ℕ). ended_if (nat_lt most_bytes (place + length bytes)) (soon_in (length bytes) bytes)) (append-nil xs)
    ∙ ap (ended_if (nat_lt most_bytes (place + length xs))) (soon_once xs (Need n) is)
    ∙ ap (λ (beyond : Bool). ended_if beyond silence) (le-ltb most_bytes (place + length xs) within)

-- what a look tells of is written
pub puts_seen : (place count : ℕ) (begun : List ℕ) (seen : Look) (text : List ℕ) → IsSeen seen place begun text → (place' count' : ℕ) (begun' : List ℕ) → Moves seen place count begun place' count' begun' → (old new : Option (List ℕ)) → new ≡ append_known old text → PutsLook seen old new (λ rest. soon_from place (begun ++ rest)) (λ rest. soon_from place' (begun' ++ rest))
puts_seen place count begun (look.Frame n) text is place' count' begun' moves old new held = record {
  written = text;
  held = held;
  parts = λ rest. soon_behind place begun is.0 n is.1 is.4 rest ∙ rw (moves.0, moves.2, is.2) refl;
}
puts_seen place count begun (look.Lacks n) text is place' count' begun' moves old new held = record {
  written = text;
  held = held;
  parts = λ rest. rw (is.1, moves.0, moves.2) refl;
}
puts_seen place count begun look.Refused text is place' count' begun' moves old new held = tt

-- the bytes are put with those that have come
pub soon_taken : (n place place' : ℕ) (begun begun' bytes rest : List ℕ) → begun' ≡ begun ++ take n bytes → place' ≡ place → soon_from place (begun ++ (bytes ++ rest)) ≡ soon_from place' (begun' ++ (drop n bytes ++ rest))
soon_taken n place place' begun begun' bytes rest eb ep =
    rw (eb, ep) (ap (soon_from place)
    (ap (λ (xs : List ℕ). begun ++ (xs ++ rest)) (sym (take-append-drop n bytes))
    ∙ ap (λ (xs : List ℕ). begun ++ xs) (append_assoc (take n bytes) (drop n bytes) rest)
    ∙ sym (append_assoc begun (take n bytes) (drop n bytes ++ rest))))

-- after the rest of the bytes
pub puts_more : {old new : Option (List ℕ)} (soon left : List ℕ → Told) (bytes : List ℕ) → Puts old new soon left → Puts old new (λ rest. soon (bytes ++ rest)) (λ rest. left (bytes ++ rest))
puts_more soon left bytes puts = record { written = puts.written; held = puts.held; parts = λ rest. puts.parts (bytes ++ rest) }
