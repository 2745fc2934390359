-- What a feed hands out next.
use Rattle.std.proofs.Common.{◌≡◌, ◌++◌, ℕ, zero, suc, List, [], ◌∷◌, take, drop, append_assoc, refl, sym, ap, ◌∙◌, arith}
use Rattle.std.proofs.lemmas.List.{take-append-drop}
use Rattle.xl_wire.specs.Raws.{RawFrame, raw_bytes, IsRaw}
use Rattle.xl_wire.specs.Kinds.{span}
use Rattle.xl_wire.specs.Heads.{Split, split_of}
use Rattle.xl_wire.specs.Feeding.{Fed, Offer, offer_from, offer_of, after_split, after_next}
use Rattle.xl_wire.specs.declared.refusal.WireRefusal.{WireRefusal}
use Rattle.xl_wire.proofs.RawLaws.{split_spelled}
use Rattle.xl_peers.specs.Sessions.{HasFrame, NeedsMore}
use Rattle.xl_peers.specs.Going.{AreBytes}

-- the next frame: it stands in front of what is held then
pub record NextFrame (fed : Fed) (bytes : List ℕ) : Type 0 where
  pub frame : RawFrame
  pub raw : IsRaw frame
  pub is : bytes ≡ raw_bytes frame
  pub front : fed.held ≡ raw_bytes frame ++ (after_next fed).held
  pub refused : (after_next fed).refused ≡ fed.refused

frame_there : (fed : Fed) (bytes : List ℕ) (s : Split) → split_of fed.held ≡ s
    → Offer.Frame bytes ≡ offer_from s fed.held → AreBytes fed.held
    → (f : RawFrame) × (s ≡ Split.Whole f) × (bytes ≡ take (span f.body) fed.held)
frame_there fed bytes (Split.Whole f) e o fit = (f, refl, cc)
frame_there fed bytes (Split.Need lack) e o fit = absurd cc
frame_there fed bytes (Split.Refused refusal) e o fit = absurd cc

pub next_frame : (fed : Fed) (bytes : List ℕ) → Offer.Frame bytes ≡ offer_of fed → AreBytes fed.held
    → NextFrame fed bytes
next_frame fed bytes o fit =
    let there = frame_there fed bytes (split_of fed.held) refl o fit in
    let f : RawFrame = there.0 in
    let spelled = split_spelled fed.held f fit there.1 in
    let after : after_next fed ≡ after_split (Split.Whole f) fed = ap (λ (s : Split). after_split s fed) there.1 in
    record {
      frame = f;
      raw = spelled.frame;
      is = there.2 ∙ spelled.spelling;
      front = sym (take-append-drop (span f.body) fed.held)
          ∙ ap (λ (x : List ℕ). x ++ drop (span f.body) fed.held) spelled.spelling
          ∙ ap (λ (x : List ℕ). raw_bytes f ++ x) (sym (ap (λ (g : Fed). g.held) after));
      refused = ap (λ (g : Fed). g.refused) after;
    }

need_there : (fed : Fed) (lack : ℕ) (s : Split) → Offer.Need lack ≡ offer_from s fed.held → s ≡ Split.Need lack
need_there fed lack (Split.Whole f) o = absurd cc
need_there fed lack (Split.Need n) o = cc
need_there fed lack (Split.Refused refusal) o = absurd cc

-- less than a frame is held
pub next_need : (fed : Fed) (lack : ℕ) → Offer.Need lack ≡ offer_of fed → (after_next fed ≡ fed) × NeedsMore fed.held
next_need fed lack o =
    let is : split_of fed.held ≡ Split.Need lack = need_there fed lack (split_of fed.held) o in
    (ap (λ (s : Split). after_split s fed) is, (lack, is))

refused_there : (fed : Fed) (r : WireRefusal) (s : Split) → Offer.Refused r ≡ offer_from s fed.held
    → s ≡ Split.Refused r
refused_there fed r (Split.Whole f) o = absurd cc
refused_there fed r (Split.Need n) o = absurd cc
refused_there fed r (Split.Refused refusal) o = cc

-- what is held begins no frame
pub next_refused : (fed : Fed) (r : WireRefusal) → Offer.Refused r ≡ offer_of fed → split_of fed.held ≡ Split.Refused r
next_refused fed r o = refused_there fed r (split_of fed.held) o

-- the front of bytes is bytes, and so is the rest
pub front_bytes : (xs ys : List ℕ) → AreBytes (xs ++ ys) → AreBytes xs
front_bytes [] ys h i = omega arith
front_bytes (x ∷ xs) ys h zero = h 0
front_bytes (x ∷ xs) ys h (suc i) = front_bytes xs ys (λ j. h (suc j)) i

pub rest_bytes : (xs ys : List ℕ) → AreBytes (xs ++ ys) → AreBytes ys
rest_bytes [] ys h = h
rest_bytes (x ∷ xs) ys h = rest_bytes xs ys (λ i. h (suc i))

pub both_bytes : (xs ys : List ℕ) → AreBytes xs → AreBytes ys → AreBytes (xs ++ ys)
both_bytes [] ys h k i = k i
both_bytes (x ∷ xs) ys h k zero = h 0
both_bytes (x ∷ xs) ys h k (suc i) = both_bytes xs ys (λ j. h (suc j)) k i

-- a frame that a feed hands out stands next, whatever stands behind it
pub has_frame : (fed : Fed) (bytes later : List ℕ) → Offer.Frame bytes ≡ offer_of fed → AreBytes (fed.held ++ later)
    → HasFrame (fed.held ++ later)
has_frame fed bytes later offer fit =
    let f = next_frame fed bytes offer (front_bytes fed.held later fit) in (
      f.frame,
      (after_next fed).held ++ later,
      f.raw,
      ap (λ (l : List ℕ). l ++ later) f.front ∙ append_assoc (raw_bytes f.frame) (after_next fed).held later,
    )

open_there : (fed : Fed) (bytes : List ℕ) (s : Split) → Offer.Frame bytes ≡ offer_from s fed.held
    → (after_split s fed).refused ≡ fed.refused
open_there fed bytes (Split.Whole f) o = refl
open_there fed bytes (Split.Need lack) o = refl
open_there fed bytes (Split.Refused refusal) o = absurd cc

-- a feed that hands out a frame refuses as it did
pub next_frame_open : (fed : Fed) (bytes : List ℕ) → Offer.Frame bytes ≡ offer_of fed
    → (after_next fed).refused ≡ fed.refused
next_frame_open fed bytes o = open_there fed bytes (split_of fed.held) o
