-- Ids in rising order, each once, and the lowest of them. Source: sorting by insertion, with each id once.
use Rattle.std.specs.Prelude.{ℕ, List, [], ◌∷◌, take, fold, if◌then◌else◌}
use Rattle.xl_base.specs.Sets.{is_below}
use Rattle.xl_base.specs.declared.ids.TxId.{TxId}

-- with an id at its place among rising ones, once
abbrev pub with_tx : TxId → List TxId → List TxId
with_tx tx [] = tx ∷ []
with_tx tx (id ∷ ids) =
    if is_below id tx
    then id ∷ with_tx tx ids
    else (if is_below tx id then tx ∷ id ∷ ids else id ∷ ids)

-- the different ids in rising order
abbrev pub rising : List TxId → List TxId
rising txs = fold (λ ids tx. with_tx tx ids) [] txs

-- the n lowest of them
abbrev pub lowest : ℕ → List TxId → List TxId
lowest n txs = take n (rising txs)
