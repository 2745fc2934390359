-- What a node's reports of flag ledgers say of amendments and of the fee. The latest report stands first.
-- Source: rippled's amendments, which are enabled after two weeks of majority; the fee of 10 is its reference fee.
use Rattle.std.specs.Prelude.{ℕ, ◌+◌, ◌==◌, ◌&&◌, ◌||◌, not, nat_le, Bool, false, List, [], ◌∷◌, ◌++◌, filter, if◌then◌else◌}
use Rattle.std.specs.List.{list_any, flat_map}
use Rattle.xl_base.specs.declared.ids.TxId.{TxId}
use Rattle.xl_flags.specs.declared.news.FlagLine.{FlagLine}
use Rattle.xl_flags.specs.declared.news.FlagLine.TheVariants.{Enabled, Majority, Lost, Fee}
use Rattle.xl_flags.specs.Votes.{FlagReport, named_amendments, has_majority, fee_votes, elected_fee}

-- the reports of a node
abbrev pub reports_of : List FlagReport → ℕ → List FlagReport
reports_of reports i = filter (λ r. r.node == i) reports

-- the latest reports, as long as an amendment has a majority at each
abbrev pub run : TxId → List FlagReport → List FlagReport
run a [] = []
run a (r ∷ older) = if has_majority a r then r ∷ run a older else []

-- whether one of them closed two weeks before the latest at least
abbrev pub lasts : TxId → List FlagReport → Bool
lasts a [] = false
lasts a (r ∷ older) = list_any (λ o. nat_le (o.close + 1209600) r.close) (run a (r ∷ older))

-- whether an amendment is enabled: at the latest report or at one before it a majority had lasted
abbrev pub is_enabled : TxId → List FlagReport → Bool
is_enabled a [] = false
is_enabled a (r ∷ older) = is_enabled a older || lasts a (r ∷ older)

-- whether it had a majority at the latest report
abbrev pub had : TxId → List FlagReport → Bool
had a [] = false
had a (r ∷ older) = has_majority a r

-- the fee in force
abbrev pub fee_of : List FlagReport → ℕ
fee_of [] = 10
fee_of (r ∷ older) = elected_fee (fee_votes r (fee_of older)) (fee_of older)

-- what the latest report says of an amendment that was not enabled before it
abbrev pub news_of : ℕ → ℕ → FlagReport → List FlagReport → TxId → List FlagLine
news_of i s r older a =
    if is_enabled a older
    then []
    else (if is_enabled a (r ∷ older)
    then Enabled i s a ∷ []
    else (if has_majority a r && not (had a older)
    then Majority i s a ∷ []
    else (if not (has_majority a r) && had a older then Lost i s a ∷ [] else [])))

-- and of the fee
abbrev pub fee_news : ℕ → ℕ → FlagReport → List FlagReport → List FlagLine
fee_news i s r older = if fee_of (r ∷ older) == fee_of older then [] else Fee i s (fee_of (r ∷ older)) ∷ []

-- the lines of a report of a node after its older ones: those on the amendments by rising id, and then the fee's
abbrev pub lines_of : ℕ → ℕ → FlagReport → List FlagReport → List FlagLine
lines_of i s r older = flat_map (news_of i s r older) (named_amendments r.favors) ++ fee_news i s r older
