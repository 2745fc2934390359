-- When the open phase closes. Source: classical rippled's Consensus; the order of the lines is this profile's.
use Rattle.std.specs.Prelude.{◌+◌, ◌/◌, ◌==◌, ◌||◌, nat_lt, nat_le, Bool, true, false, [], ◌∷◌}
use Rattle.xl_rounds.specs.declared.closing.Waiting.{Waiting}
use Rattle.xl_rounds.specs.Lines.{first_line}
use Rattle.xl_rounds.specs.Numbers.{longest_ms, idle_ms, least_open_ms}

-- whether the round closes, by the first line that decides
abbrev pub should_close : Waiting → Bool
should_close w = first_line (
    -- it has waited too long, or the previous round took too long
    (nat_lt longest_ms w.previous_ms || nat_lt longest_ms w.elapsed, true)
    -- more than half of the previous round's proposers have closed, or validated the previous ledger
    ∷ (nat_lt (w.previous_proposers / 2) (w.closed + w.validated), true)
    -- with nothing to agree on it waits longest
    ∷ (w.pending == 0, nat_le idle_ms w.elapsed)
    -- it gives others time to close
    ∷ (nat_lt w.elapsed least_open_ms || nat_lt w.elapsed (w.previous_ms / 2), false)
    ∷ []) true
