-- What a right drain is read to give is what its core gave.
use Rattle.std.proofs.Common.{◌≡◌, ℕ, zero, suc, ◌+◌, ◌*◌, ◌/◌, ◌%◌, ◌<◌, ◌≤◌, ◌⊎◌, inl, inr, List, [], ◌∷◌, length, take, slice_index, Result, Ok, Err, Option, Some, None, refl, sym, ap, ◌∙◌, subst, arith}
use Rattle.std.specs.Prelude.{All, Contains, IfSome}
use Rattle.std.proofs.lemmas.Bool.{cases_lt, cond_both}
use Rattle.std.proofs.lemmas.List.{get_or_past}
use Rattle.std.proofs.lemmas.List.Elements.{All-cons, All-contains_itself, All-head, All-nil, All-tail}
use Rattle.hex.specs.Hex.{decode_of, decode_pairs, digit_or_error, encode_lower, encode_with, hex_digit_value, lower_digits, pair_value, value_at}
use Rattle.hex.specs.declared.error.FromHexError.{FromHexError}
use Rattle.hex.specs.declared.error.FromHexError.TheVariants.{InvalidHexCharacter}
use Rattle.hex.proofs.HexLemmas.{IsDigits-lower_digits, decode_of-even, length-encode_with}
use Rattle.hex.proofs.Pairs.{cons_byte, decode_pairs-err_pair, decode_pairs-ok_pair}
use Rattle.xl_wire.specs.Frames.{raw_of}
use Rattle.xl_wire.specs.Raws.{RawFrame, SpellsRaw}
use Rattle.xl_wire.specs.declared.body.Body.{Body}
use Rattle.xl_tags.specs.Sealing.{sealed}
use Rattle.xl_core.specs.Answers.{given_in}
use Rattle.xl_core.specs.Core.{Core, all_frames, given_for}
use Rattle.xl_core.specs.Items.{frame_for}
use Rattle.xl_core.specs.Node.{Node}
use Rattle.xl_core.specs.Queues.{count_fitting, frames_in, stream_of}
use Rattle.xl_core.specs.Sending.{blank_frame, has_spelling, sealed_bytes}
use Rattle.xl_core.specs.declared.event.CoreEvent.{CoreEvent}
use Rattle.xl_core.specs.declared.event.CoreEvent.TheVariants.{Drain}
use Rattle.xl_core.proofs.Spelling.{sealed_raw}
use Rattle.xl_store.specs.declared.entry.Saved.{Saved}
use Rattle.xl_store.specs.Entries.{entry_of, reply_of}
use Rattle.xl_audit.specs.Replies.{bytes_text}
use Rattle.xl_audit.specs.Rights.{reply_to}
use Rattle.xl_world.proofs.Drains.{all_are}
use Rattle.xl_given.specs.Cutting.{frames_of}
use Rattle.xl_given.proofs.CuttingBack.{cut_back}
use Rattle.xl_shown.specs.Showing.{bytes_told}
use Rattle.xl_shown.specs.Showing as showing

-- DIGITS THAT DECODE ARE THOSE OF BYTES

-- a digit beyond the table is none
no_digit : (d : ℕ) → 16 ≤ d → hex_digit_value (slice_index lower_digits d) ≡ None
no_digit d beyond = ap hex_digit_value (get_or_past lower_digits d 0 beyond)

pub decode_back : (i : ℕ) (xs ys : List ℕ) → decode_pairs i (encode_lower xs) ≡ Ok ys → xs ≡ ys
unfolding encode_with decode_pairs
decode_back i [] ys is = cc
decode_back i (b ∷ xs) ys is =
    elim (cases_lt b 256) [
      | inl byte ↦
          let high : b / 16 < 16 = omega arith in
          let low : b % 16 < 16 = omega arith in
          let ha : value_at (slice_index lower_digits (b / 16)) i ≡ Ok (b / 16) =
          ap (digit_or_error (slice_index lower_digits (b / 16)) i) (IsDigits-lower_digits (b / 16) high) in
          let hb : value_at (slice_index lower_digits (b % 16)) (i + 1) ≡ Ok (b % 16) =
          ap (digit_or_error (slice_index lower_digits (b % 16)) (i + 1)) (IsDigits-lower_digits (b % 16) low) in
          let pair : pair_value (slice_index lower_digits (b / 16)) (slice_index lower_digits (b % 16)) i ≡ Ok (b / 16 * 16 + b % 16) = rw (ha, hb) refl in
          let whole : b / 16 * 16 + b % 16 ≡ b = omega arith in
          behind (λ zs. decode_back (i + 2) xs zs) (b / 16 * 16 + b % 16) whole (decode_pairs (i + 2) (encode_lower xs)) refl
          (sym (decode_pairs-ok_pair i (slice_index lower_digits (b / 16)) (slice_index lower_digits (b % 16)) _ (encode_lower xs) pair) ∙ is)
      | inr large ↦
          let high : 16 ≤ b / 16 = omega arith in
          let first : ℕ = slice_index lower_digits (b / 16) in
          let second : ℕ = slice_index lower_digits (b % 16) in
          let none : value_at first i ≡ Err (InvalidHexCharacter first i) = ap (digit_or_error first i) (no_digit (b / 16) high) in
          let pair : pair_value first second i ≡ Err (InvalidHexCharacter first i) = rw none refl in
          absurd (other (sym (decode_pairs-err_pair i first second (InvalidHexCharacter first i) (encode_lower xs) pair) ∙ is))
    ]
  where
    other : {why : FromHexError} → Err why ≡ Ok ys → ⊥
    other same = cc

    behind : ((zs : List ℕ) → decode_pairs (i + 2) (encode_lower xs) ≡ Ok zs → xs ≡ zs) → (v : ℕ) → v ≡ b
        → (r : Result (List ℕ) FromHexError) → decode_pairs (i + 2) (encode_lower xs) ≡ r → cons_byte v r ≡ Ok ys → b ∷ xs ≡ ys
    behind back v same (Ok zs) rest got =
        let all : v ∷ zs ≡ ys = cc in ap (λ n. n ∷ xs) (sym same) ∙ (ap (λ ns. v ∷ ns) (back zs rest) ∙ all)
    behind back v same (Err why) rest got = absurd cc

-- so what a reply tells is the bytes, or nothing
pub told_back : (bytes : List ℕ) → (bytes_told (decode_of (bytes_text bytes)) ≡ bytes) ⊎ (bytes_told (decode_of (bytes_text bytes)) ≡ [])
told_back [] = inr refl
told_back (b ∷ bs) = by (decode_of (encode_lower (b ∷ bs))) refl
  where
    even : length (encode_lower (b ∷ bs)) % 2 ≡ 0
    even = let long = length-encode_with lower_digits (b ∷ bs) in omega (arith, long)

    by : (r : Result (List ℕ) FromHexError) → decode_of (encode_lower (b ∷ bs)) ≡ r → (bytes_told r ≡ b ∷ bs) ⊎ (bytes_told r ≡ [])
    by (Ok ys) is = inl (sym (decode_back 0 (b ∷ bs) ys (sym (decode_of-even (encode_lower (b ∷ bs)) even) ∙ is)))
    by (Err why) is = inr refl

-- THE FRAMES OF A DRAIN

abbrev IsOneFrame : List ℕ → Type 0
IsOneFrame bytes = (f : RawFrame) × SpellsRaw f bytes

framed_whole : (n : Node) (to : ℕ) (body : Body) → IfSome (frame_for n to body) IsOneFrame
framed_whole n to body =
    cond_both (has_spelling n.me to body) (Some (sealed_bytes n.keys n.me to body)) None (λ o. IfSome o IsOneFrame)
    (λ spelled.
    let f : RawFrame = sealed n.keys (raw_of (blank_frame n.me to body)) in
    (f, record { frame = sealed_raw n.keys n.me to body spelled; spelling = refl }))
    (λ _. tt)

-- what holds of each that may be given holds of those that are
front_all : (P : List ℕ → Type 0) (n : ℕ) (fs : List (Option (List ℕ))) → All (λ o. IfSome o P) fs → All P (frames_in (take n fs))
front_all P zero fs all = All-nil P
front_all P (suc n) [] all = All-nil P
front_all P (suc n) (None ∷ fs) all = front_all P n fs (All-tail (λ o. IfSome o P) None fs all)
front_all P (suc n) (Some f ∷ fs) all =
    All-cons P f (frames_in (take n fs)) (All-head (λ o. IfSome o P) (Some f) fs all) (front_all P n fs (All-tail (λ o. IfSome o P) (Some f) fs all))

drained_whole : (core : Core) (m room : ℕ) → All IsOneFrame (frames_in (given_for core m room))
drained_whole core m room =
    front_all IsOneFrame (count_fitting (all_frames core m) room) (all_frames core m)
    (all_are IsOneFrame core m (framed_whole core.node m))

-- what is read of them is among them
read_back : (frames : List (List ℕ)) → All IsOneFrame frames
    → All (Contains frames) (frames_of (bytes_told (decode_of (bytes_text (stream_of frames)))))
read_back frames whole =
    elim (told_back (stream_of frames)) [
      | inl all ↦
          subst (λ bytes. All (Contains frames) (frames_of bytes)) (sym all)
          (subst (All (Contains frames)) (sym (cut_back frames whole)) (All-contains_itself frames))
      | inr none ↦ subst (λ bytes. All (Contains frames) (frames_of bytes)) (sym none) (All-nil (Contains frames))
    ]

drain_gives : (core : Core) (m room : ℕ) (outcome : Option Saved) (reply : List ℕ) → reply ≡ reply_to core (entry_of (Drain m room) outcome)
    → All (Contains (given_in (reply_of core (entry_of (Drain m room) outcome)).answer)) (frames_of (bytes_told (decode_of reply)))
drain_gives core m room outcome reply is =
    let frames : List (List ℕ) = frames_in (given_for core m room) in
    subst (λ text. All (Contains frames) (frames_of (bytes_told (decode_of text)))) (sym is)
    (read_back frames (drained_whole core m room))

-- no other entry is read to give anything
read_of : (P : List ℕ → Type 0) (event : CoreEvent) (reply : List ℕ)
    → ((m room : ℕ) → event ≡ Drain m room → All P (frames_of (bytes_told (decode_of reply)))) → All P (frames_of (showing.given_in event reply))
read_of P (Drain m room) reply drains = drains m room refl
read_of P other reply drains = All-nil P

-- of a right entry each frame that its reply tells was given by the core
pub entry_gives : (core : Core) (event : CoreEvent) (outcome : Option Saved) (reply : List ℕ)
    → reply ≡ reply_to core (entry_of event outcome)
    → All (Contains (given_in (reply_of core (entry_of event outcome)).answer)) (frames_of (showing.given_in event reply))
entry_gives core event outcome reply is =
    read_of (Contains (given_in (reply_of core (entry_of event outcome)).answer)) event reply
    (λ m room drain.
    subst (λ e. reply ≡ reply_to core (entry_of e outcome)
    → All (Contains (given_in (reply_of core (entry_of e outcome)).answer)) (frames_of (bytes_told (decode_of reply)))) (sym drain)
    (drain_gives core m room outcome reply) is)
