-- The close time that a round takes. Source: classical rippled; the ties are this profile's.
use Rattle.std.specs.Prelude.{ℕ, ◌+◌, ◌*◌, ◌/◌, ◌==◌, nat_lt, nat_le, max, count_by, map, length, Bool, true, false, List, [], ◌∷◌, ◌++◌, Option, Some, None, if◌then◌else◌}
use Rattle.xl_closetime.specs.Rounding.{round_close}
use Rattle.xl_closetime.specs.Numbers.{agreed_percent}
use Rattle.xl_closetime.specs.declared.choice.Choice.{Choice}

-- so many of p times are this percent of them, rounded, and at least one
abbrev pub needed : ℕ → ℕ → ℕ
needed p percent = max 1 ((p * percent + percent / 2) / 100)

-- how often a time occurs
abbrev pub occurrences : List ℕ → ℕ → ℕ
occurrences times t = count_by (λ u. u == t) times

-- with a time at its place among rising ones, once
abbrev pub with_time : ℕ → List ℕ → List ℕ
with_time t [] = t ∷ []
with_time t (u ∷ us) = if nat_lt t u then t ∷ u ∷ us else if t == u then u ∷ us else u ∷ with_time t us

-- the different times in rising order
abbrev pub rising_times : List ℕ → List ℕ
rising_times [] = []
rising_times (t ∷ ts) = with_time t (rising_times ts)

-- A walk over times: one that occurs at least as often as the bound is chosen, and how often it occurs is the new
-- bound. The last one chosen, if any is.
abbrev pub last_chosen : (ℕ → ℕ) → ℕ → Option ℕ → List ℕ → Option ℕ
last_chosen number bound chosen [] = chosen
last_chosen number bound chosen (t ∷ ts) =
    if nat_le bound (number t)
    then last_chosen number (number t) (Some t) ts
    else last_chosen number bound chosen ts

-- the rounded times of the members' positions, and our own if we propose
abbrev pub counted_times : List ℕ → ℕ → Bool → ℕ → List ℕ
counted_times times own proposing r = map (λ t. round_close t r) times ++ (if proposing then round_close own r ∷ [] else [])

-- a chosen time is agreed on if enough of the times are it; if none is chosen it is 0, and not agreed on
abbrev pub choice_of : List ℕ → Option ℕ → Choice
choice_of times None = record { close = 0; agreed = false }
choice_of times (Some t) = record { close = t; agreed = nat_le (needed (length times) agreed_percent) (occurrences times t) }

-- the choice among counted times, of which this percent is needed
abbrev pub choice_among : List ℕ → ℕ → Choice
choice_among times percent =
    choice_of times (last_chosen (occurrences times) (needed (length times) percent) None (rising_times times))

-- with no positions it is our own time, and agreed on
abbrev pub choose_close : List ℕ → ℕ → Bool → ℕ → ℕ → Choice
choose_close [] own proposing percent r = record { close = round_close own r; agreed = true }
choose_close (t ∷ ts) own proposing percent r = choice_among (counted_times (t ∷ ts) own proposing r) percent
