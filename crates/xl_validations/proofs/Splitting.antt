-- The votes of rows, split at one row: those of the others, and its own.
use Rattle.std.proofs.Common.{◌≡◌, ℕ, ◌+◌, ◌≤◌, ◌==◌, ◌||◌, Bool, true, false, cond, List, [], ◌∷◌, ◌++◌, length, Option, Some, None, refl, sym, ap, ◌∙◌, arith}
use Rattle.std.specs.Prelude.{map, filter_map, nat_eq, option_to_list, count_by, unwrap_or}
use Rattle.std.specs.List.{IsDistinct, AllByRecursion, cons_option}
use Rattle.std.proofs.lemmas.Bool.{eqb-true, cond-true, cond-false}
use Rattle.std.proofs.lemmas.Bool.Decides.{nat_tests}
use Rattle.std.proofs.lemmas.List.{length-append}
use Rattle.std.proofs.lemmas.List.Elements.{filter_map-append}
use Rattle.std.proofs.lemmas.List.Folds.{list_any-append}
use Rattle.xl_ledger.specs.declared.vote.Vote.{Vote}
use Rattle.xl_ledger.specs.Votes.{AreSame, has_voted}
use Rattle.xl_ledger.proofs.Orders.{count-append}
use Rattle.xl_validations.specs.declared.row.Row.{Row}
use Rattle.xl_validations.specs.Rows.{row_of, at_member}
use Rattle.xl_validations.specs.Votes.{cast}
use Rattle.xl_validations.specs.Tallies.{StandsBeside}

-- the votes that rows give by a rule
abbrev pub votes_by : (Row → Option ℕ) → List Row → List Vote
votes_by rule rows = filter_map (λ row. cast row.member (rule row)) rows

abbrev pub members : List Row → List ℕ
members rows = map (λ row. row.member) rows

abbrev pub own : ℕ → Option ℕ → List Vote
own member ledger = option_to_list (cast member ledger)

cons_own : (o : Option Vote) (vs : List Vote) → cons_option o vs ≡ option_to_list o ++ vs
cons_own None vs = refl
cons_own (Some v) vs = refl

own_apart : (k m : ℕ) (o : Option ℕ) → (k == m) ≡ false → has_voted (own k o) m ≡ false
own_apart k m None other = refl
own_apart k m (Some l) other = ap (λ (b : Bool). b || false) other

both_apart : (xs ys : List Vote) (m : ℕ) → has_voted xs m ≡ false → has_voted ys m ≡ false → has_voted (xs ++ ys) m ≡ false
both_apart xs ys m x y = list_any-append (λ v. v.member == m) xs ys ∙ ap (λ (b : Bool). b || has_voted ys m) x ∙ y

flip : (a b : ℕ) → nat_eq a b ≡ false → (b == a) ≡ false
flip a b e = grind (arith, nat_tests)

-- rows of others give no vote of a member
back_apart : (rule : Row → Option ℕ) (m : ℕ) (rows : List Row) → AllByRecursion (λ k. nat_eq m k ≡ false) (members rows) → has_voted (votes_by rule rows) m ≡ false
back_apart rule m [] all = refl
back_apart rule m (row ∷ rows) all =
    ap (λ (vs : List Vote). has_voted vs m) (cons_own (cast row.member (rule row)) (votes_by rule rows))
    ∙ both_apart (own row.member (rule row)) (votes_by rule rows) m (own_apart row.member m (rule row) (flip m row.member all.0)) (back_apart rule m rows all.1)

pub middle : (k : ℕ) (front : List Row) (row : Row) (back : List Row) → AllByRecursion (λ y. nat_eq k y ≡ false) (members (front ++ row ∷ back)) → nat_eq k row.member ≡ false
middle k [] row back all = all.0
middle k (r ∷ front) row back all = middle k front row back all.1

front_apart : (rule : Row → Option ℕ) (front : List Row) (row : Row) (back : List Row) → IsDistinct nat_eq (members (front ++ row ∷ back)) → has_voted (votes_by rule front) row.member ≡ false
unfolding IsDistinct
front_apart rule [] row back distinct = refl
front_apart rule (r ∷ front) row back distinct =
    ap (λ (vs : List Vote). has_voted vs row.member) (cons_own (cast r.member (rule r)) (votes_by rule front))
    ∙ both_apart (own r.member (rule r)) (votes_by rule front) row.member (own_apart r.member row.member (rule r) (middle r.member front row back distinct.0)) (front_apart rule front row back distinct.1)

back_distinct : (front : List Row) (row : Row) (back : List Row) → IsDistinct nat_eq (members (front ++ row ∷ back)) → AllByRecursion (λ k. nat_eq row.member k ≡ false) (members back)
unfolding IsDistinct
back_distinct [] row back distinct = distinct.0
back_distinct (r ∷ front) row back distinct = back_distinct front row back distinct.1

length_own : (o : Option Vote) → length (option_to_list o) ≤ 1
length_own None = omega arith
length_own (Some v) = omega arith

few : (rule : Row → Option ℕ) (rows : List Row) → length (votes_by rule rows) ≤ length rows
few rule [] = omega arith
few rule (row ∷ rows) =
    let o : Option Vote = cast row.member (rule row) in
    omega (arith, few rule rows, length_own o, ap length (cons_own o (votes_by rule rows)), length-append (option_to_list o) (votes_by rule rows))

pub count-own : (p : Vote → Bool) (rule : Row → Option ℕ) (row : Row) (rows : List Row) → count_by p (votes_by rule (row ∷ rows)) ≡ count_by p (own row.member (rule row)) + count_by p (votes_by rule rows)
count-own p rule row rows = ap (count_by p) (cons_own (cast row.member (rule row)) (votes_by rule rows)) ∙ count-append p (own row.member (rule row)) (votes_by rule rows)

-- the rows before it have turned from one rule to the other, and those after it haven't yet
module _ (front : List Row) (row : Row) (back : List Row) (turned rule : Row → Option ℕ) (votes : List Vote) (room : ℕ) where
  abbrev others : List Vote
  others = votes_by turned front ++ votes_by rule back

  pub stands_beside : IsDistinct nat_eq (members (front ++ row ∷ back)) → length (front ++ row ∷ back) ≤ room → AreSame votes (votes_by turned front ++ votes_by rule (row ∷ back))
      → StandsBeside votes others row.member (rule row) room
  stands_beside distinct fits same = record {
    same = λ p. omega (arith, same p, count-append p (votes_by turned front) (votes_by rule (row ∷ back)), count-own p rule row back, count-append p others (own row.member (rule row)), count-append p (votes_by turned front) (votes_by rule back));
    apart = both_apart (votes_by turned front) (votes_by rule back) row.member (front_apart turned front row back distinct) (back_apart rule row.member back (back_distinct front row back distinct));
    fits = omega (arith, fits, few turned front, few rule back, length-append (votes_by turned front) (votes_by rule back), length-append front (row ∷ back));
  }

  pub stood_beside : (new : Row) → new.member ≡ row.member → StandsBeside votes others row.member (turned new) room → AreSame votes (votes_by turned (front ++ new ∷ []) ++ votes_by rule back)
  stood_beside new same s = λ p.
      s.same p
      ∙ ap (λ (m : ℕ). count_by p (others ++ own m (turned new))) (sym same)
      ∙ omega (
        arith,
        count-append p others (own new.member (turned new)),
        count-append p (votes_by turned front) (votes_by rule back),
        count-append p (votes_by turned (front ++ new ∷ [])) (votes_by rule back),
        ap (count_by p) (filter_map-append (λ r. cast r.member (turned r)) front (new ∷ [])),
        count-append p (votes_by turned front) (votes_by turned (new ∷ [])),
        count-own p turned new [],
      )

-- where a member's row stands
pub record IsAt (rows : List Row) (member : ℕ) (row : Row) : Type 0 where
  pub front : List Row
  pub back : List Row
  pub is : rows ≡ front ++ row ∷ back
  pub own : row.member ≡ member
  pub changed : (change : Row → Row) → at_member member change rows ≡ front ++ change row ∷ back

pub is_at : (rows : List Row) (member : ℕ) (row : Row) → row_of rows member ≡ Some row → IsAt rows member row
is_at [] member row e = absurd cc
is_at (r ∷ rows) member row e = by_cases (r.member == member) refl e (is_at rows member row)
  where
    by_cases : (b : Bool) → (r.member == member) ≡ b → cond b (Some r) (row_of rows member) ≡ Some row → (row_of rows member ≡ Some row → IsAt rows member row) → IsAt (r ∷ rows) member row
    by_cases true same e go =
        let is : r ≡ row = ap (λ (o : Option Row). unwrap_or o r) e in
        record {
          front = [];
          back = rows;
          is = ap (λ (x : Row). x ∷ rows) is;
          own = sym (ap (λ (x : Row). x.member) is) ∙ eqb-true r.member member same;
          changed = λ change. cond-true (r.member == member) (change r ∷ rows) (r ∷ at_member member change rows) same ∙ ap (λ (x : Row). change x ∷ rows) is;
        }
    by_cases false other e go =
        let rest = go e in
        record { front = r ∷ rest.front; back = rest.back; is = ap (λ (rs : List Row). r ∷ rs) rest.is; own = rest.own; changed = λ change. cond-false (r.member == member) (change r ∷ rows) (r ∷ at_member member change rows) other ∙ ap (λ (rs : List Row). r ∷ rs) (rest.changed change) }
