-- What is kept stands for the list of all votes and flag reports.
use Rattle.std.proofs.Common.{◌≡◌, ◌≢◌, ℕ, zero, suc, ◌+◌, ◌-◌, ◌<◌, ◌≤◌, List, [], ◌∷◌, Option, Some, length, get_or, set, length-set, replicate, refl, sym, ap, ◌∙◌, arith, inl, inr, get_or-set_same, get_or-set_other}
use Rattle.std.specs.Prelude.{◌==◌, All, find, option_map, unwrap_or}
use Rattle.std.proofs.lemmas.Bool.{cases_eq, cond-true, cond-false, eq-eqb}
use Rattle.std.proofs.lemmas.Bool.Decides.{nat_tests}
use Rattle.std.proofs.lemmas.List.{length-replicate}
use Rattle.xl_base.specs.declared.ids.TxId.{TxId}
use Rattle.xl_flags.specs.Kept.{Remembers}
use Rattle.xl_flags.proofs.Favoring.{so_many, remembers_vote}
use Rattle.xl_flags.proofs.Opening.{remembers_nothing}
use Rattle.xl_flags.proofs.Remembering.{IsMember, lines_are, remembers_report}
use Rattle.xl_voting.specs.Listing.{Flag, Listing, last_of, list_keeping, nothing_listed}
use Rattle.xl_voting.specs.Tallying.{Tallying, nothing_tallied, tally_keeping}

pub record StandsFor (t : Tallying) (l : Listing) : Type 0 where
  pub remembers : Remembers t.kept l.past
  pub last : (i : ℕ) → 1 ≤ i → i ≤ 64 → tally_keeping.last t i ≡ list_keeping.last l i
  pub long : length t.last ≡ 64
  pub count : t.count ≡ length l.flags

-- NOTHING YET

always : (n k x : ℕ) → k < n → get_or (replicate n x) k x ≡ x
always zero k x lt = absurd (omega arith)
always (suc n) zero x lt = refl
always (suc n) (suc k) x lt = always n k x (omega arith)

all_long : (x : ℕ) → length (replicate 64 x) ≡ 64
all_long x = length-replicate 64 x

pub first_stands : StandsFor nothing_tallied nothing_listed
first_stands = record {
  remembers = remembers_nothing [] 64 refl refl;
  last = λ i low high. always 64 (i - 1) 0 (omega (arith, low, high));
  long = all_long 0;
  count = refl;
}

-- A VOTE MORE

module _ (t : Tallying) (l : Listing) (is : StandsFor t l) (m fee : ℕ) (ids : List TxId) (member : IsMember m) where
  pub as_many : tally_keeping.named t m fee ids ≡ list_keeping.named l m fee ids
  as_many = so_many l.past m fee ids member.0 member.1 t.kept is.remembers

  pub voted_stands : StandsFor (tally_keeping.voted t m fee ids) (list_keeping.voted l m fee ids)
  voted_stands = record {
    remembers = remembers_vote l.past m fee ids member.0 member.1 t.kept is.remembers;
    last = is.last;
    long = is.long;
    count = is.count;
  }

-- A FLAG REPORT MORE

one_more : (n : ℕ) → n + 1 ≡ suc n
one_more n = omega arith

module _ (t : Tallying) (l : Listing) (is : StandsFor t l) (i s close : ℕ) (counted : List ℕ) (member : IsMember i) (members : All IsMember counted) where
  pub same_news : tally_keeping.news t i s close counted ≡ list_keeping.news l i s close counted
  same_news = lines_are l.past i close counted member members t.kept is.remembers s

  last_so : (j : ℕ) → 1 ≤ j → j ≤ 64 → get_or (set t.last (i - 1) s) (j - 1) 0 ≡ last_of (record { node = i; seq = s } ∷ l.flags) j
  last_so j low high =
      elim (cases_eq i j) [
        | inl same ↦
            let place : i - 1 ≡ j - 1 = omega arith in
            let lt : i - 1 < length t.last = omega (arith, is.long, member.0, member.1) in
            ap (λ (n : ℕ). get_or (set t.last (i - 1) s) n 0) (sym place)
            ∙ get_or-set_same t.last (i - 1) s 0 lt
            ∙ ap (λ (o : Option Flag). unwrap_or (option_map (λ f. f.seq) o) 0) (sym (cond-true (i == j) (Some (record { node = i; seq = s })) (find (λ f. f.node == j) l.flags) (eq-eqb i j same)))
        | inr other ↦
            let place : j - 1 ≢ i - 1 = omega (arith, member.0) in
            get_or-set_other t.last (i - 1) (j - 1) s 0 place ∙ is.last j low high
            ∙ ap (λ (o : Option Flag). unwrap_or (option_map (λ f. f.seq) o) 0) (sym (cond-false (i == j) (Some (record { node = i; seq = s })) (find (λ f. f.node == j) l.flags) (grind (arith, nat_tests))))
      ]

  pub reported_stands : StandsFor (tally_keeping.reported t i s close counted) (list_keeping.reported l i s close counted)
  reported_stands = record {
    remembers = remembers_report l.past i close counted member members t.kept is.remembers;
    last = last_so;
    long = length-set t.last (i - 1) s ∙ is.long;
    count = ap (λ (n : ℕ). n + 1) is.count ∙ one_more (length l.flags);
  }
