-- What is held, after a piece and after a frame.
use Rattle.std.proofs.Common.{◌≡◌, ℕ, ◌+◌, ◌-◌, ◌≤◌, Bool, List, ◌++◌, length, take, drop, append_assoc, sym, ap, ◌∙◌, arith}
use Rattle.std.proofs.lemmas.List.{take_at, drop-take, drop-drop, drop-append-le, length-append, length-take, length-drop}
use Rattle.xl_base.specs.Putting.{Puts}
use Rattle.std.specs.Prelude.{min, false, if◌then◌else◌}
use Rattle.xl_wire.specs.Lengths.{longest_frame}
use Rattle.xl_wire.specs.Feeding.{Fed, held_in, taken_of, after_push, IsFed, offer_from, offer_of, after_split, after_next}
use Rattle.xl_wire.specs.Feeding.Offer.{Frame}
use Rattle.xl_wire.specs.Heads.{Split, split_of}
use Rattle.xl_wire.specs.Heads.Split.{Whole}
use Rattle.xl_wire.specs.Kinds.{span}
use Rattle.xl_wire.specs.Raws.{RawFrame, SpellsRaw}
use Rattle.xl_wire.proofs.RawLaws.{length-raw_bytes}

-- the frame that is split off is there
pub frame_there : (bytes : List ℕ) (f : RawFrame) → SpellsRaw f (take (span f.body) bytes) → span f.body ≤ length bytes
frame_there bytes f s = omega (arith, length-take (span f.body) bytes, ap length s.spelling, length-raw_bytes f s.frame.tag)

-- what is held, with a piece put behind it
pub pushed : (xs ys piece : List ℕ) (start end : ℕ) → start ≤ end → Puts end piece xs ys → held_in ys start (end + length piece) ≡ held_in xs start end ++ piece
pushed xs ys piece start end ordered p =
    let n = length piece in
    let held = held_in xs start end in
    let rest = drop (end + n) xs in
    let long : length (take end xs) ≡ end = omega (arith, length-take end xs, p.fits) in
    let parts : end ≡ start + (end - start) = omega (arith, ordered) in
    let cut : drop start (take end xs) ≡ held = ap (λ (j : ℕ). drop start (take j xs)) parts ∙ drop-take start (end - start) xs in
    let held_long : length held ≡ end - start = omega (arith, length-take (end - start) (drop start xs), length-drop start xs, p.fits, ordered) in
    let split : drop start ys ≡ held ++ piece ++ rest =
    ap (drop start) (p.is ∙ append_assoc (take end xs) piece rest) ∙ drop-append-le start (take end xs) (piece ++ rest) (omega (arith, long, ordered))
    ∙ ap (λ (x : List ℕ). x ++ (piece ++ rest)) cut ∙ sym (append_assoc held piece rest) in
    ap (take (end + n - start)) split ∙ take_at (held ++ piece) rest (end + n - start) (omega (arith, length-append held piece, held_long, ordered))

-- what is held without its first bytes
held_after : (xs : List ℕ) (start end n : ℕ) → start + n ≤ end → held_in xs (start + n) end ≡ drop n (held_in xs start end)
held_after xs start end n inside =
    let parts : end - start ≡ n + (end - (start + n)) = omega arith in
    sym (ap (λ (j : ℕ). drop n (take j (drop start xs))) parts ∙ drop-take n (end - (start + n)) (drop start xs) ∙ ap (take (end - (start + n))) (drop-drop n start xs))

abbrev pub fed_of : List ℕ → Bool → Fed
fed_of held refused = record { held = held; refused = refused }

-- a piece that is taken, as far as there is room, behind what is held
pub after_pushed : (xs ys piece : List ℕ) (start end from count : ℕ) (refused : Bool) (fed : Fed) → fed_of (held_in xs start end) refused ≡ fed → IsFed xs start end → refused ≡ false
    → count ≡ min (length piece) (longest_frame - (end - start)) → held_in ys from (from + (end - start) + length (take count piece)) ≡ held_in xs start end ++ take count piece
    → fed_of (held_in ys from (from + (end - start) + count)) refused ≡ after_push fed piece
after_pushed xs ys piece start end from count refused fed view ok takes is added =
    let held = held_in xs start end in
    let long : length held ≡ end - start = omega (arith, length-take (end - start) (drop start xs), length-drop start xs, ok.ordered, ok.within, ok.room) in
    let few : length (take count piece) ≡ count = omega (arith, length-take count piece, is) in
    let now : held_in ys from (from + (end - start) + count) ≡ held ++ take count piece =
    ap (λ (k : ℕ). held_in ys from (from + (end - start) + k)) (sym few) ∙ added in
    let taken : count ≡ taken_of (fed_of held refused) piece =
    is ∙ ap (λ (k : ℕ). min (length piece) (longest_frame - k)) (sym long) ∙ sym (ap (λ (b : Bool). if b then 0 else min (length piece) (longest_frame - length held)) takes) in
    ap (λ (x : List ℕ). fed_of x refused) (now ∙ ap (λ (k : ℕ). held ++ take k piece) taken) ∙ ap (λ (f : Fed). after_push f piece) view

-- a frame that is handed out
pub frame_handed : (xs : List ℕ) (start end n : ℕ) (refused : Bool) (raw : RawFrame) (fed : Fed) → fed_of (held_in xs start end) refused ≡ fed → IsFed xs start end → split_of (held_in xs start end) ≡ Whole raw → n ≡ span raw.body → n ≤ length (held_in xs start end)
    → (fed_of (held_in xs (start + n) end) refused ≡ after_next fed) × (Frame (take n (held_in xs start end)) ≡ offer_of fed)
frame_handed xs start end n refused raw fed view ok split long there =
    let held = held_in xs start end in
    let inside : start + n ≤ end = omega (arith, there, ok.ordered, length-take (end - start) (drop start xs)) in
    let left : held_in xs (start + n) end ≡ drop (span raw.body) held = held_after xs start end n inside ∙ ap (λ (k : ℕ). drop k held) long in
    let after : after_next (fed_of held refused) ≡ fed_of (drop (span raw.body) held) refused = ap (λ (s : Split). after_split s (fed_of held refused)) split in
    let offer : offer_of (fed_of held refused) ≡ Frame (take (span raw.body) held) = ap (λ (s : Split). offer_from s held) split in (
      ap (λ (x : List ℕ). fed_of x refused) left ∙ sym after ∙ ap after_next view,
      ap (λ (k : ℕ). Frame (take k held)) long ∙ sym offer ∙ ap offer_of view,
    )
