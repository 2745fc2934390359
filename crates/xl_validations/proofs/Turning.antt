-- Votes that turn row by row, from those that the rows give by one rule to those by another.
use Rattle.std.proofs.Common.{◌≡◌, ℕ, suc, ◌+◌, ◌<◌, ◌≤◌, List, [], ◌∷◌, ◌++◌, length, get_or, take, drop, Option, refl, sym, ap, subst, ◌∙◌, arith}
use Rattle.std.specs.Prelude.{map, nat_eq, count_by}
use Rattle.std.specs.List.{IsDistinct, cons_option}
use Rattle.std.proofs.lemmas.List.{take_more, drop_more, take_all, drop_all, append-nil, take-append-drop}
use Rattle.xl_ledger.specs.declared.header.Header.{Header}
use Rattle.xl_ledger.specs.declared.vote.Vote.{Vote}
use Rattle.xl_ledger.specs.Chains.{AreLedgers}
use Rattle.xl_ledger.specs.Votes.{AreSame}
use Rattle.xl_validations.specs.declared.row.Row.{Row}
use Rattle.xl_validations.specs.Rows.{row_at, unexpired}
use Rattle.xl_validations.specs.Votes.{cast, ledger_named, votes_of}
use Rattle.xl_validations.specs.Tallies.{IsTally, StandsBeside}
use Rattle.xl_validations.proofs.Splitting.{votes_by, members, stands_beside, stood_beside}

-- the rows so far have turned, and the others haven't yet
pub record HasTurned (Goes : Type 0) (turned rule : Row → Option ℕ) (rows : List Row) (i : ℕ) (votes : List Vote) (room : ℕ) : Type 0 where
  pub goes : Goes
  pub same : AreSame votes (votes_by turned (take i rows) ++ votes_by rule (drop i rows))
  pub distinct : IsDistinct nat_eq (members rows)
  pub fits : length rows ≤ room
  pub wide : 64 ≤ room

module _ (Goes : Type 0) (turned rule : Row → Option ℕ) (rows : List Row) (i : ℕ) (votes : List Vote) (room : ℕ) where
  whole : (d : Row) → i < length rows → take i rows ++ get_or rows i d ∷ drop (i + 1) rows ≡ rows
  whole d lt = ap (λ (rs : List Row). take i rows ++ rs) (sym (drop_more rows i d lt)) ∙ take-append-drop i rows

  -- the vote of the next row stands beside those of the others
  pub next_beside : (d row : Row) → HasTurned Goes turned rule rows i votes room → i < length rows → get_or rows i d ≡ row
      → StandsBeside votes (votes_by turned (take i rows) ++ votes_by rule (drop (i + 1) rows)) row.member (rule row) room
  next_beside d row h lt is =
      let at : take i rows ++ row ∷ drop (i + 1) rows ≡ rows = ap (λ (r : Row). take i rows ++ r ∷ drop (i + 1) rows) (sym is) ∙ whole d lt in
      let rest : drop i rows ≡ row ∷ drop (i + 1) rows = drop_more rows i d lt ∙ ap (λ (r : Row). r ∷ drop (i + 1) rows) is in
      stands_beside (take i rows) row (drop (i + 1) rows) turned rule votes room
      (subst (λ (rs : List Row). IsDistinct nat_eq (members rs)) (sym at) h.distinct)
      (subst (λ (rs : List Row). length rs ≤ room) (sym at) h.fits)
      (λ p. h.same p ∙ ap (λ (rs : List Row). count_by p (votes_by turned (take i rows) ++ votes_by rule rs)) rest)

  -- and when it has turned, one row more has
  pub next_turned : (Still : Type 0) (after : List Vote) (room' : ℕ) (d row : Row) → HasTurned Goes turned rule rows i votes room → i < length rows → get_or rows i d ≡ row → Still → room' ≡ room
      → StandsBeside after (votes_by turned (take i rows) ++ votes_by rule (drop (i + 1) rows)) row.member (turned row) room'
      → HasTurned Still turned rule rows (i + 1) after room'
  next_turned Still after room' d row h lt is still same_room s =
      let front : take (i + 1) rows ≡ take i rows ++ row ∷ [] = take_more rows i d lt ∙ ap (λ (r : Row). take i rows ++ r ∷ []) is in
      record {
        goes = still;
        same = λ p. stood_beside (take i rows) row (drop (i + 1) rows) turned rule after room' row refl s p ∙ ap (λ (rs : List Row). count_by p (votes_by turned rs ++ votes_by rule (drop (i + 1) rows))) (sym front);
        distinct = h.distinct;
        fits = omega (arith, h.fits, same_room);
        wide = omega (arith, h.wide, same_room);
      }

-- all have turned
pub all_turned : (Goes : Type 0) (turned rule : Row → Option ℕ) (rows : List Row) (i : ℕ) (votes : List Vote) (room : ℕ) → HasTurned Goes turned rule rows i votes room → length rows ≤ i → AreSame votes (votes_by turned rows)
all_turned Goes turned rule rows i votes room h le p =
    h.same p
    ∙ ap (λ (rs : List Row). count_by p (votes_by turned rs ++ votes_by rule (drop i rows))) (take_all i rows le)
    ∙ ap (λ (rs : List Row). count_by p (votes_by turned rows ++ votes_by rule rs)) (drop_all i rows le)
    ∙ ap (count_by p) (append-nil (votes_by turned rows))

-- ---- rows at a second

pub votes_then : (ls : List Header) (now : ℕ) (rows : List Row) → votes_by (λ row. ledger_named ls (unexpired now row.current)) rows ≡ votes_of ls (map (row_at now) rows)
votes_then ls now [] = refl
votes_then ls now (row ∷ rows) = ap (cons_option (cast row.member (ledger_named ls (unexpired now row.current)))) (votes_then ls now rows)

pub members_then : (now : ℕ) (rows : List Row) → members (map (row_at now) rows) ≡ members rows
members_then now [] = refl
members_then now (row ∷ rows) = ap (λ (ms : List ℕ). row.member ∷ ms) (members_then now rows)

pub length-members : (rows : List Row) → length (members rows) ≡ length rows
length-members [] = refl
length-members (row ∷ rows) = ap (λ (n : ℕ). suc n) (length-members rows)

pub tally_then : (GoesWith : List Header → Type 0) (ls : List Header) (now : ℕ) (rows : List Row) (i : ℕ) (votes : List Vote) (room : ℕ)
    → AreLedgers ls → HasTurned (GoesWith ls) (λ row. ledger_named ls (unexpired now row.current)) (λ row. ledger_named ls row.current) rows i votes room → length rows ≤ i → IsTally GoesWith ls (map (row_at now) rows) votes room
tally_then GoesWith ls now rows i votes room ok h le = record {
  are = ok;
  goes = h.goes;
  same = λ p. all_turned (GoesWith ls) (λ row. ledger_named ls (unexpired now row.current)) (λ row. ledger_named ls row.current) rows i votes room h le p ∙ ap (count_by p) (votes_then ls now rows);
  distinct = subst (IsDistinct nat_eq) (sym (members_then now rows)) h.distinct;
  fits = omega (arith, h.fits, ap length (members_then now rows), length-members (map (row_at now) rows), length-members rows);
  wide = h.wide;
}
