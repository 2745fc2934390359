-- Resolutions of close times, in seconds. Source: classical rippled; the six are this profile's.
use Rattle.std.specs.Prelude.{ℕ, ◌%◌, ◌==◌, Bool, List, [], ◌∷◌, reverse, IsTrue, if◌then◌else◌}
use Rattle.std.specs.List.{list_any}
use Rattle.xl_closetime.specs.Numbers.{finer_once_in}

-- from the finest to the coarsest
abbrev pub resolutions : List ℕ
resolutions = 10 ∷ 20 ∷ 30 ∷ 60 ∷ 90 ∷ 120 ∷ []

abbrev pub IsResolution : ℕ → Type 0
IsResolution r = IsTrue (list_any (λ a. a == r) resolutions)

-- the one that stands after r, or r itself at the end
abbrev pub after : List ℕ → ℕ → ℕ
after [] r = r
after (a ∷ []) r = r
after (a ∷ b ∷ rs) r = if a == r then b else after (b ∷ rs) r

abbrev pub coarser : ℕ → ℕ
coarser r = after resolutions r

abbrev pub finer : ℕ → ℕ
finer r = after (reverse resolutions) r

-- the next coarser one if the last close time wasn't agreed on; else the next finer one if `finer_once_in`
-- divides the sequence
abbrev pub next_resolution : ℕ → Bool → ℕ → ℕ
next_resolution r agreed seq = if agreed then (if seq % finer_once_in == 0 then finer r else r) else coarser r
