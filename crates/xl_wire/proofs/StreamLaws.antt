-- Whatever the pieces, the frames handed out are those of the bytes taken.
use Rattle.std.proofs.Common.{◌≡◌, ◌≢◌, ℕ, zero, suc, ◌<◌, List, [], ◌∷◌, ◌++◌, take, drop, refl, sym, ap, subst, ◌∙◌, append_assoc, arith}
use Rattle.std.specs.List.{flat_map, AllByRecursion}
use Rattle.std.proofs.lemmas.List.{append-nil, append_cancel_left, take-append-drop}
use Rattle.xl_wire.specs.Feeding.{Fed, taken_of, after_push, after_split}
use Rattle.xl_wire.specs.Heads.{Split, split_of}
use Rattle.xl_wire.specs.Kinds.{span}
use Rattle.xl_wire.specs.Raws.{RawFrame, raw_bytes, IsRaw}
use Rattle.xl_wire.specs.Streams.{AreFramesOf, Act, IsAct, fed_after, taken_by, frame_in, handed_by}
use Rattle.xl_wire.specs.Streams.Act.{Push, Next}
use Rattle.xl_wire.proofs.Numbers.{IsBytes, IsBytes-drop, IsBytes-take}
use Rattle.xl_wire.proofs.RawLaws.{split_again, split_spelled, one_raw}

piece_bytes : (piece : List ℕ) → AllByRecursion (λ b. b < 256) piece → IsBytes piece
piece_bytes [] h i = omega arith
piece_bytes (b ∷ piece) h zero = h.0
piece_bytes (b ∷ piece) h (suc i) = piece_bytes piece h.1 i

IsBytes-append : (xs ys : List ℕ) → IsBytes xs → IsBytes ys → IsBytes (xs ++ ys)
IsBytes-append [] ys h k i = k i
IsBytes-append (x ∷ xs) ys h k zero = h 0
IsBytes-append (x ∷ xs) ys h k (suc i) = IsBytes-append xs ys (λ j. h (suc j)) k i

-- one frame in front
framed : (f : RawFrame) (bytes rest : List ℕ) (frames : List RawFrame) → IsRaw f → AreFramesOf bytes frames rest → AreFramesOf (raw_bytes f ++ bytes) (f ∷ frames) rest
framed f bytes rest frames ok a = record {
  whole = ap (λ (x : List ℕ). raw_bytes f ++ x) a.whole ∙ sym (append_assoc (raw_bytes f) (flat_map raw_bytes frames) rest);
  each = (ok, a.each);
  last = a.last;
}

-- a frame that is split off stands in front of what is left
split_front : (held : List ℕ) (f : RawFrame) → IsBytes held → split_of held ≡ Split.Whole f → (held ≡ raw_bytes f ++ drop (span f.body) held) × IsRaw f
split_front held f fits e =
    let s = split_spelled held f fits e in
    (sym (take-append-drop (span f.body) held) ∙ ap (λ (x : List ℕ). x ++ drop (span f.body) held) s.spelling, s.frame)

-- what the rest of the acts keeps, of every feed
abbrev Keeps : List Act → List RawFrame → List ℕ → Fed → Type 0
Keeps acts more rest fed = IsBytes fed.held → AreFramesOf (fed_after fed acts).held more rest → AreFramesOf (fed.held ++ taken_by fed acts) (handed_by fed acts ++ more) rest

handed_next : (fed : Fed) (s : Split) (acts : List Act) (more : List RawFrame) (rest : List ℕ) → ((other : Fed) → Keeps acts more rest other) → IsBytes fed.held → split_of fed.held ≡ s
    → AreFramesOf (fed_after (after_split s fed) acts).held more rest → AreFramesOf (fed.held ++ taken_by (after_split s fed) acts) ((frame_in s ++ handed_by (after_split s fed) acts) ++ more) rest
handed_next fed (Split.Whole f) acts more rest later fits e a =
    let front = split_front fed.held f fits e in
    let left = drop (span f.body) fed.held in
    let taken = taken_by (after_split (Split.Whole f) fed) acts in
    let whole : raw_bytes f ++ (left ++ taken) ≡ fed.held ++ taken = sym (append_assoc (raw_bytes f) left taken) ∙ ap (λ (x : List ℕ). x ++ taken) (sym front.0) in
    subst (λ (x : List ℕ). AreFramesOf x (f ∷ (handed_by (after_split (Split.Whole f) fed) acts ++ more)) rest) whole
    (framed f (left ++ taken) rest (handed_by (after_split (Split.Whole f) fed) acts ++ more) front.1 (later (after_split (Split.Whole f) fed) (IsBytes-drop (span f.body) fed.held fits) a))
handed_next fed (Split.Need lack) acts more rest later fits e a = later fed fits a
handed_next fed (Split.Refused refusal) acts more rest later fits e a = later (after_split (Split.Refused refusal) fed) fits a

pub handed : (acts : List Act) (more : List RawFrame) (rest : List ℕ) → AllByRecursion IsAct acts → (fed : Fed) → Keeps acts more rest fed
handed [] more rest ok fed fits a = subst (λ (x : List ℕ). AreFramesOf x more rest) (sym (append-nil fed.held)) a
handed (Push piece ∷ acts) more rest ok fed fits a =
    let count = taken_of fed piece in
    let next : IsBytes (after_push fed piece).held = IsBytes-append fed.held (take count piece) fits (IsBytes-take count piece (piece_bytes piece ok.0)) in
    subst (λ (x : List ℕ). AreFramesOf x (handed_by (after_push fed piece) acts ++ more) rest) (append_assoc fed.held (take count piece) (taken_by (after_push fed piece) acts))
    (handed acts more rest ok.1 (after_push fed piece) next a)
handed (Next ∷ acts) more rest ok fed fits a = handed_next fed (split_of fed.held) acts more rest (handed acts more rest ok.1) fits refl a

-- where nothing is split off, no frame begins
none_begins : (bytes : List ℕ) → ((f : RawFrame) → split_of bytes ≢ Split.Whole f) → AreFramesOf bytes [] bytes
none_begins bytes none = record { whole = refl; each = tt; last = λ f more ok e. none f (ap split_of e ∙ split_again f more ok) }

pub settled : (acts : List Act) → AllByRecursion IsAct acts → (fed : Fed) → IsBytes fed.held → ((f : RawFrame) → split_of (fed_after fed acts).held ≢ Split.Whole f)
    → AreFramesOf (fed.held ++ taken_by fed acts) (handed_by fed acts) (fed_after fed acts).held
settled acts ok fed fits none =
    subst (λ (x : List RawFrame). AreFramesOf (fed.held ++ taken_by fed acts) x (fed_after fed acts).held) (append-nil (handed_by fed acts))
    (handed acts [] (fed_after fed acts).held ok fed fits (none_begins (fed_after fed acts).held none))

-- bytes have one list of frames, and one rest
pub one_list : (bytes : List ℕ) (frames others : List RawFrame) (rest left : List ℕ) → AreFramesOf bytes frames rest → AreFramesOf bytes others left → (frames ≡ others) × (rest ≡ left)
one_list bytes [] [] rest left a b = (refl, sym a.whole ∙ b.whole)
one_list bytes [] (g ∷ others) rest left a b =
    absurd (a.last g (flat_map raw_bytes others ++ left) b.each.0 (sym a.whole ∙ b.whole ∙ append_assoc (raw_bytes g) (flat_map raw_bytes others) left))
one_list bytes (f ∷ frames) [] rest left a b =
    absurd (b.last f (flat_map raw_bytes frames ++ rest) a.each.0 (sym b.whole ∙ a.whole ∙ append_assoc (raw_bytes f) (flat_map raw_bytes frames) rest))
one_list bytes (f ∷ frames) (g ∷ others) rest left a b =
    let first : bytes ≡ raw_bytes f ++ (flat_map raw_bytes frames ++ rest) = a.whole ∙ append_assoc (raw_bytes f) (flat_map raw_bytes frames) rest in
    let second : bytes ≡ raw_bytes g ++ (flat_map raw_bytes others ++ left) = b.whole ∙ append_assoc (raw_bytes g) (flat_map raw_bytes others) left in
    let same = one_raw f g (raw_bytes f) (raw_bytes g) (flat_map raw_bytes frames ++ rest) (flat_map raw_bytes others ++ left) (record { frame = a.each.0; spelling = refl }) (record { frame = b.each.0; spelling = refl }) (sym first ∙ second) in
    let behind : flat_map raw_bytes frames ++ rest ≡ flat_map raw_bytes others ++ left =
    append_cancel_left (raw_bytes f) (flat_map raw_bytes frames ++ rest) (flat_map raw_bytes others ++ left) (sym first ∙ second ∙ ap (λ (x : List ℕ). x ++ (flat_map raw_bytes others ++ left)) (sym same.0)) in
    let later = one_list (flat_map raw_bytes frames ++ rest) frames others rest left (record { whole = refl; each = a.each.1; last = a.last }) (record { whole = behind; each = b.each.1; last = b.last }) in
    (ap (λ (x : RawFrame). x ∷ frames) same.1 ∙ ap (λ (x : List RawFrame). g ∷ x) later.0, later.1)
