-- What is told, part by part.
use Rattle.std.proofs.Common.{◌≡◌, ◌<◌, ◌≤◌, ◌+◌, ◌-◌, ℕ, zero, suc, Bool, true, false, List, [], ◌∷◌, ◌++◌, length, take, drop, nat_lt, refl, ap, ap₂, ◌∙◌, arith, length-append, length-drop, append-nil}
use Rattle.std.proofs.lemmas.Bool.{lt-ltb, le-ltb}
use Rattle.std.proofs.lemmas.List.{drop-append-le, drop-take, take_all}
use Rattle.std.proofs.Math.Seq.{take-append-add}
use Rattle.xl_lines.specs.Rules.{Told, refused}
use Rattle.xl_lines.specs.Told.{after}
use Rattle.xl_wire.specs.declared.decoding.Decoded.{Decoded}
use Rattle.xl_wire.specs.declared.decoding.Decoded.TheVariants.{Whole, Need, Refused}
use Rattle.xl_wire.specs.declared.frame.Frame.{Frame}
use Rattle.xl_wire.specs.declared.refusal.WireRefusal.{WireRefusal}
use Rattle.xl_wire.specs.Frames.{decoded_of}
use Rattle.xl_show.specs.Limits.{most_bytes}
use Rattle.xl_show.proofs.Extending.{frame_some}
use Rattle.xl_show.specs.Shown.{told_at_end, told_by, told_frames, told_from}
use Rattle.xl_show.specs.Texts.{frame_line, refusal_line, limit_line}

same_by : (next next' : ℕ → Told) (beyond : Bool) (place count : ℕ) (bytes : List ℕ) (d : Decoded) → ((f : Frame) (n : ℕ) → d ≡ Whole f n → next n ≡ next' n) → told_by next beyond place count bytes d ≡ told_by next' beyond place count bytes d
unfolding told_by
same_by next next' beyond place count bytes (Whole f n) same = ap (after (frame_line f)) (same f n refl)
same_by next next' beyond place count bytes (Need lack) same = refl
same_by next next' beyond place count bytes (Refused refusal) same = refl

-- no more frames than bytes can stand there
enough : (most most' : ℕ) (beyond : Bool) (place count : ℕ) (bytes : List ℕ) → length bytes ≤ most → length bytes ≤ most' → told_frames most beyond place count bytes ≡ told_frames most' beyond place count bytes
unfolding told_frames told_by
enough zero zero beyond place count bytes a b = refl
enough zero (suc most') beyond place count [] a b = refl
enough zero (suc most') beyond place count (x ∷ xs) a b = absurd (omega arith)
enough (suc most) zero beyond place count [] a b = refl
enough (suc most) zero beyond place count (x ∷ xs) a b = absurd (omega arith)
enough (suc most) (suc most') beyond place count bytes a b =
    same_by (λ n. told_frames most beyond (place + n) (count + 1) (drop n bytes)) (λ n. told_frames most' beyond (place + n) (count + 1) (drop n bytes)) beyond place count bytes (decoded_of bytes)
    (λ f n is. let positive = frame_some bytes f n is in
    enough most most' beyond (place + n) (count + 1) (drop n bytes) (omega (arith, positive, length-drop n bytes)) (omega (arith, positive, length-drop n bytes)))

-- the bytes that are looked at
abbrev front : ℕ → List ℕ → List ℕ
front place bytes = take (most_bytes - place) bytes

abbrev beyond : ℕ → List ℕ → Bool
beyond place bytes = nat_lt most_bytes (place + length bytes)

-- one look
told_once : (place count : ℕ) (bytes : List ℕ) (d : Decoded) → decoded_of (front place bytes) ≡ d → told_from place count bytes ≡ told_by (λ n. told_frames (length (front place bytes)) (beyond place bytes) (place + n) (count + 1) (drop n (front place bytes))) (beyond place bytes) place count (front place bytes) d
unfolding told_from told_frames
told_once place count bytes d is =
    let xs = front place bytes in
    enough (length xs) (suc (length xs)) (beyond place bytes) place count xs (omega arith) (omega arith)
    ∙ ap (told_by (λ n. told_frames (length xs) (beyond place bytes) (place + n) (count + 1) (drop n xs)) (beyond place bytes) place count xs) is

-- bytes that have come are looked at, with some of the rest
front_of : (place : ℕ) (xs rest : List ℕ) → place + length xs ≤ most_bytes → front place (xs ++ rest) ≡ xs ++ take (most_bytes - place - length xs) rest
front_of place xs rest within =
    let parts : most_bytes - place ≡ length xs + (most_bytes - place - length xs) = omega (arith, within) in
    ap (λ (k : ℕ). take k (xs ++ rest)) parts ∙ take-append-add xs rest (most_bytes - place - length xs)

front_left : (place n : ℕ) (xs rest : List ℕ) → place + length xs ≤ most_bytes → n ≤ length xs → drop n (front place (xs ++ rest)) ≡ front (place + n) (drop n xs ++ rest)
front_left place n xs rest within there =
    let parts : most_bytes - place ≡ n + (most_bytes - (place + n)) = omega (arith, within, there) in
    ap (λ (k : ℕ). drop n (take k (xs ++ rest))) parts ∙ drop-take n (most_bytes - (place + n)) (xs ++ rest) ∙ ap (take (most_bytes - (place + n))) (drop-append-le n xs rest there)

beyond_left : (place n : ℕ) (xs rest : List ℕ) → n ≤ length xs → beyond place (xs ++ rest) ≡ beyond (place + n) (drop n xs ++ rest)
beyond_left place n xs rest there =
    let same : place + length (xs ++ rest) ≡ place + n + length (drop n xs ++ rest) = omega (arith, length-append xs rest, length-append (drop n xs) rest, length-drop n xs, there) in
    ap (nat_lt most_bytes) same

module _ (place count : ℕ) (xs : List ℕ) (within : place + length xs ≤ most_bytes) where
  -- a frame
  pub told_frame : (f : Frame) (n : ℕ) → ((ys : List ℕ) → decoded_of (xs ++ ys) ≡ Whole f n) → n ≤ length xs → (rest : List ℕ) → told_from place count (xs ++ rest) ≡ after (frame_line f) (told_from (place + n) (count + 1) (drop n xs ++ rest))
  unfolding told_from told_by
  told_frame f n is there rest =
      let left = drop n (front place (xs ++ rest)) in
      let fewer = length-drop n (front place (xs ++ rest)) in
      told_once place count (xs ++ rest) (Whole f n) (ap decoded_of (front_of place xs rest within) ∙ is (take (most_bytes - place - length xs) rest))
      ∙ ap (after (frame_line f)) (
      enough (length (front place (xs ++ rest))) (length left) (beyond place (xs ++ rest)) (place + n) (count + 1) left (omega (arith, fewer)) (omega arith)
      ∙ ap₂ (λ (b : Bool) (bytes : List ℕ). told_frames (length bytes) b (place + n) (count + 1) bytes) (beyond_left place n xs rest there) (front_left place n xs rest within there))

  -- a refusal
  pub told_refusal : (refusal : WireRefusal) → ((ys : List ℕ) → decoded_of (xs ++ ys) ≡ Refused refusal) → (rest : List ℕ) → told_from place count (xs ++ rest) ≡ refused (refusal_line place refusal)
  unfolding told_by
  told_refusal refusal is rest = told_once place count (xs ++ rest) (Refused refusal) (ap decoded_of (front_of place xs rest within) ∙ is (take (most_bytes - place - length xs) rest))

  -- the end
  pub told_end : (lack : ℕ) → decoded_of xs ≡ Need lack → told_from place count (xs ++ []) ≡ told_at_end false place count lack xs
  unfolding told_by
  told_end lack is =
      let all : front place (xs ++ []) ≡ xs = ap (front place) (append-nil xs) ∙ take_all (most_bytes - place) xs (omega (arith, within)) in
      let none : beyond place (xs ++ []) ≡ false = le-ltb most_bytes (place + length (xs ++ [])) (omega (arith, within, length-append {A = ℕ} xs [])) in
      told_once place count (xs ++ []) (Need lack) (ap decoded_of all ∙ is)
      ∙ ap₂ (λ (b : Bool) (bytes : List ℕ). told_at_end b place count lack bytes) none all

  -- a byte too many
  pub told_limit : (lack : ℕ) → decoded_of xs ≡ Need lack → place + length xs ≡ most_bytes → (rest : List ℕ) → 0 < length rest → told_from place count (xs ++ rest) ≡ refused limit_line
  unfolding told_by
  told_limit lack is full rest some =
      let no_room : most_bytes - place - length xs ≡ 0 = omega (arith, full) in
      let none : take (most_bytes - place - length xs) rest ≡ [] = ap (λ (k : ℕ). take k rest) no_room in
      let all : front place (xs ++ rest) ≡ xs = front_of place xs rest within ∙ ap (λ (ys : List ℕ). xs ++ ys) none ∙ append-nil xs in
      let more : beyond place (xs ++ rest) ≡ true = lt-ltb most_bytes (place + length (xs ++ rest)) (omega (arith, full, some, length-append xs rest)) in
      told_once place count (xs ++ rest) (Need lack) (ap decoded_of all ∙ is)
      ∙ ap (λ (b : Bool). told_at_end b place count lack (front place (xs ++ rest))) more
