-- How we vote next. Source: rippled's DisputedTx, as it was before its later avalanche states; the numbers are this
-- profile's.
use Rattle.std.specs.Prelude.{ℕ, ◌+◌, ◌*◌, ◌/◌, ◌==◌, nat_lt, Bool, if◌then◌else◌}
use Rattle.xl_disputes.specs.declared.votes.Votes.{Votes}

-- the weight that a yes vote must exceed, by the percent of the previous round's time that has passed
abbrev pub threshold : ℕ → ℕ
threshold percent =
    if nat_lt percent 50 then 50 else (if nat_lt percent 85 then 65 else (if nat_lt percent 200 then 70 else 95))

-- the share of yes votes, ours counted, in percent
abbrev pub weight : Votes → ℕ
weight v = (v.yays * 100 + (if v.ours then 100 else 0)) / (v.yays + v.nays + 1)

-- no other vote differs from ours
abbrev pub is_settled : Votes → Bool
is_settled v = if v.ours then v.nays == 0 else v.yays == 0

-- a settled vote stays; else the weight decides if we propose, by what it must exceed, and the majority of the others
-- if we don't
abbrev pub next_vote : ℕ → Bool → Votes → Bool
next_vote needed proposing v =
    if is_settled v
    then v.ours
    else (if proposing then nat_lt needed (weight v) else nat_lt v.nays v.yays)
