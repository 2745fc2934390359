-- How the machine of `xl show` goes on. Source: what the code of this crate relies on.
use Rattle.std.specs.Prelude.{◌≡◌, ℕ, ◌+◌, ◌<◌, ◌≤◌, List, [], ◌++◌, length, drop, Option}
use Rattle.xl_lines.specs.Rules.{Told, refused}
use Rattle.xl_lines.specs.Running.{Puts}
use Rattle.xl_wire.specs.declared.decoding.Decoded.TheVariants as decoded
use Rattle.xl_wire.specs.Frames.{decoded_of}
use Rattle.xl_show.specs.declared.frames.Frames.{Frames}
use Rattle.xl_show.specs.declared.frames.Part.{Part}
use Rattle.xl_show.specs.declared.frames.Part.TheVariants as part
use Rattle.xl_show.specs.declared.reading.Look.{Look}
use Rattle.xl_show.specs.declared.reading.Look.TheVariants as look

-- the bytes that have come, and those before them
abbrev pub reach : Frames → ℕ
reach frames = frames.place + length frames.begun.items

-- what an advance leaves: behind a frame less has come of the next, and without one all is as before
abbrev pub Follows : Look → Frames → Frames → Type 0
Follows (look.Frame n) old new = (reach new ≡ reach old) × (length new.begun.items < length old.begun.items)
Follows (look.Lacks n) old new =
    (new.begun ≡ old.begun) × (new.place ≡ old.place) × (new.count ≡ old.count)
    × (decoded_of old.begun.items ≡ decoded.Need n) × (0 < n)
Follows look.Refused old new = Unit {0}

-- some bytes were taken, and no more than there are
abbrev pub TakesSome : Part → List ℕ → Type 0
TakesSome (part.Taken n) bytes = (0 < n) × (n ≤ length bytes)
TakesSome part.Refused bytes = Unit {0}

-- what is left to tell after a part of the bytes
abbrev pub left_of : Part → (List ℕ → Told) → List ℕ → Told
left_of (part.Taken n) told bytes = told (drop n bytes)
left_of part.Refused told bytes = refused []

-- the bytes that were taken have come
abbrev pub Goes : Part → Frames → Frames → Type 0
Goes (part.Taken n) old new = (reach new ≡ reach old + n) × (length new.begun.items ≡ length old.begun.items + n)
Goes part.Refused old new = Unit {0}

-- what is told soon is written, unless the text ended
abbrev pub PutsLook : Look → (old new : Option (List ℕ)) → (soon left : List ℕ → Told) → Type 0
PutsLook (look.Frame n) old new soon left = Puts old new soon left
PutsLook (look.Lacks n) old new soon left = Puts old new soon left
PutsLook look.Refused old new soon left = Unit {0}

-- so it is after a part of the bytes
abbrev pub PutsPart : Part → (old new : Option (List ℕ)) → (soon left : List ℕ → Told) → List ℕ → Type 0
PutsPart (part.Taken n) old new soon left bytes =
    Puts old new (λ rest. soon (bytes ++ rest)) (λ rest. left (drop n bytes ++ rest))
PutsPart part.Refused old new soon left bytes = Unit {0}
