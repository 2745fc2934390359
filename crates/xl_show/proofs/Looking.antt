-- A look at the bytes that have come tells a part of what is told.
use Rattle.std.proofs.Common.{◌≡◌, ◌≤◌, ◌+◌, ℕ, List, [], ◌++◌, length, drop, Option, refl, sym, ap, ◌∙◌, arith, append_assoc, append-nil, length-append}
use Rattle.std.specs.Io.KnownBytes.{append_known}
use Rattle.xl_io.specs.Sinks.{GrewByFront, GrewByLess}
use Rattle.xl_lines.specs.Rules.{Told, refused}
use Rattle.xl_lines.specs.Told.{after}
use Rattle.xl_lines.specs.Running.{Tells}
use Rattle.xl_show.specs.Limits.{most_bytes}
use Rattle.xl_show.specs.declared.reading.Look.{Look}
use Rattle.xl_show.specs.declared.reading.Look.TheVariants as look
use Rattle.xl_show.specs.declared.frames.Frames.{Frames}
use Rattle.xl_show.specs.Reading.{IsSeen, left_after}
use Rattle.xl_show.specs.Steps.{Follows}
use Rattle.xl_show.specs.Shown.{told_from}
use Rattle.xl_show.specs.Texts.{refusal_line}
use Rattle.xl_show.proofs.Telling.{told_frame, told_refusal}

-- what is behind a frame, and as before without one
abbrev pub Moves : Look → ℕ → ℕ → List ℕ → ℕ → ℕ → List ℕ → Type 0
Moves (look.Frame n) place count begun place' count' begun' = (place' ≡ place + n) × (count' ≡ count + 1) × (begun' ≡ drop n begun)
Moves (look.Lacks n) place count begun place' count' begun' = (place' ≡ place) × (count' ≡ count) × (begun' ≡ begun)
Moves look.Refused place count begun place' count' begun' = Unit {0}

pub stays_without : (seen : Look) (place count : ℕ) (begun : List ℕ) → ((n : ℕ) → seen ≡ look.Frame n → ⊥) → Moves seen place count begun place count begun
stays_without (look.Frame n) place count begun other = absurd (other n refl)
stays_without (look.Lacks n) place count begun other = (refl, refl, refl)
stays_without look.Refused place count begun other = tt

pub follows_without : (seen : Look) (old new : Frames) (text : List ℕ) → ((n : ℕ) → seen ≡ look.Frame n → ⊥) → new.begun ≡ old.begun → new.place ≡ old.place → new.count ≡ old.count → IsSeen seen old.place old.begun.items text → Follows seen old new
follows_without (look.Frame n) old new text other b p c is = absurd (other n refl)
follows_without (look.Lacks n) old new text other b p c is = (b, p, c, is.0, is.2)
follows_without look.Refused old new text other b p c is = tt

module _ (place count : ℕ) (begun : List ℕ) (within : place + length begun ≤ most_bytes) where
  -- the text of the look comes first, and then what is left
  pub told_seen : (seen : Look) (text : List ℕ) → IsSeen seen place begun text → (place' count' : ℕ) (begun' : List ℕ) → Moves seen place count begun place' count' begun' → (rest : List ℕ) → told_from place count (begun ++ rest) ≡ after text (left_after seen (told_from place' count' (begun' ++ rest)))
  told_seen (look.Frame n) text is place' count' begun' moves rest =
      told_frame place count begun within is.0 n is.1 is.4 rest
      ∙ rw (moves.0, moves.1, moves.2, is.2) refl
  told_seen (look.Lacks n) text is place' count' begun' moves rest = rw (moves.0, moves.1, moves.2, is.1) refl
  told_seen look.Refused text is place' count' begun' moves rest =
      told_refusal place count begun within is.0 is.1 rest
      ∙ ap refused (sym (append-nil (refusal_line place is.0)) ∙ ap (λ (xs : List ℕ). xs ++ []) (sym is.2))

  pub tells_seen : (seen : Look) (text : List ℕ) → IsSeen seen place begun text → (place' count' : ℕ) (begun' : List ℕ) → Moves seen place count begun place' count' begun' → {old new : Option (List ℕ)} → new ≡ append_known old text → (rest : List ℕ) → Tells old new (told_from place count (begun ++ rest)) (left_after seen (told_from place' count' (begun' ++ rest)))
  tells_seen seen text is place' count' begun' moves held rest = record { written = text; held = held; parts = told_seen seen text is place' count' begun' moves rest }

  -- the text is a front of what is told, wherever the look leads
  led : (seen : Look) (text : List ℕ) → IsSeen seen place begun text → (rest : List ℕ) → (more : Told) × (told_from place count (begun ++ rest) ≡ after text more)
  led (look.Frame n) text is rest =
      (told_from (place + n) (count + 1) (drop n begun ++ rest), told_seen (look.Frame n) text is (place + n) (count + 1) (drop n begun) (refl, refl, refl) rest)
  led (look.Lacks n) text is rest = (told_from place count (begun ++ rest), told_seen (look.Lacks n) text is place count begun (refl, refl, refl) rest)
  led look.Refused text is rest = (refused [], told_seen look.Refused text is place count begun tt rest)

  pub front_seen : (seen : Look) (text : List ℕ) → IsSeen seen place begun text → {old new : Option (List ℕ)} → GrewByFront old new text → (rest : List ℕ) → GrewByFront old new (told_from place count (begun ++ rest)).text
  front_seen seen text is front rest =
      let more = led seen text is rest in
      record {
        written = front.written;
        missing = front.missing ++ more.0.text;
        parts = ap (λ (told : Told). told.text) more.1 ∙ ap (λ (xs : List ℕ). xs ++ more.0.text) front.parts ∙ append_assoc front.written front.missing more.0.text;
        held = front.held;
      }

  pub less_seen : (seen : Look) (text : List ℕ) → IsSeen seen place begun text → {old new : Option (List ℕ)} → GrewByLess old new text → (rest : List ℕ) → GrewByLess old new (told_from place count (begun ++ rest)).text
  unfolding front_seen
  less_seen seen text is less rest =
      (front_seen seen text is less.0 rest, omega (arith, less.1, length-append less.0.missing (led seen text is rest).0.text))
