-- When a round comes to consensus. Source: classical rippled's Consensus; the order of the lines is this profile's.
use Rattle.std.specs.Prelude.{◌+◌, ◌*◌, ◌/◌, ◌==◌, ◌&&◌, nat_lt, nat_le, Bool, [], ◌∷◌}
use Rattle.xl_rounds.specs.declared.agreement.Tally.{Tally}
use Rattle.xl_rounds.specs.declared.agreement.Consensus.{Consensus}
use Rattle.xl_rounds.specs.declared.agreement.Consensus.TheVariants.{No, Yes, MovedOn}
use Rattle.xl_rounds.specs.Lines.{first_line}
use Rattle.xl_rounds.specs.Numbers.{least_ms, consensus_percent}

-- fewer positions than three quarters of the previous round's proposers, rounded down, and the round hasn't taken longer
-- than that one
abbrev pub is_short : Tally → Bool
is_short t = nat_lt t.positions (t.previous_proposers * 3 / 4) && nat_lt t.round_ms (t.previous_ms + least_ms)

-- whether there is consensus, by the first line that decides
abbrev pub consensus : Tally → Consensus
consensus t = first_line (
    -- the round is young
    (nat_le t.round_ms least_ms, No)
    -- too few are there, and they may still come
    ∷ (is_short t, No)
    -- there is nobody to disagree
    ∷ (t.positions == 0, Yes)
    -- enough agree
    ∷ (nat_le consensus_percent (t.agree * 100 / t.total), Yes)
    -- enough are done with this ledger
    ∷ (nat_le consensus_percent (t.finished * 100 / t.positions), MovedOn)
    ∷ []) No
