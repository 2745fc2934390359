-- The vote of a member beside those of others: how it is cast, and taken back.
use Rattle.std.proofs.Common.{◌≡◌, ℕ, ◌+◌, ◌<◌, ◌==◌, ◌||◌, Bool, true, false, List, [], ◌∷◌, ◌++◌, length, Option, Some, None, refl, sym, ap, ◌∙◌, arith}
use Rattle.std.specs.Prelude.{count_by, is_some}
use Rattle.std.proofs.lemmas.Bool.{eq-eqb}
use Rattle.std.proofs.lemmas.List.{append-nil}
use Rattle.std.proofs.lemmas.List.Folds.{list_any-append}
use Rattle.xl_ledger.specs.declared.vote.Vote.{Vote}
use Rattle.xl_ledger.specs.Votes.{has_voted, without}
use Rattle.xl_ledger.proofs.Orders.{count-append, has_voted_alike, length_alike, without_alike, without_one}
use Rattle.xl_validations.specs.Tallies.{StandsBeside}

module _ (votes others : List Vote) (m room : ℕ) where
  pub has_vote : (before : Option ℕ) → is_some before ≡ true → StandsBeside votes others m before room → has_voted votes m ≡ true
  has_vote None e s = absurd cc
  has_vote (Some l) e s =
      has_voted_alike votes (others ++ record { member = m; ledger = l } ∷ []) s.same m
      ∙ list_any-append (λ v. v.member == m) others (record { member = m; ledger = l } ∷ [])
      ∙ ap (λ (b : Bool). b || ((m == m) || false)) s.apart
      ∙ ap (λ (b : Bool). b || false) (eq-eqb m m refl)

  pub has_none : StandsBeside votes others m None room → has_voted votes m ≡ false
  has_none s = has_voted_alike votes (others ++ []) s.same m ∙ ap (λ (vs : List Vote). has_voted vs m) (append-nil others) ∙ s.apart

  pub has_room : StandsBeside votes others m None room → length votes < room
  has_room s = let n = length_alike votes (others ++ []) s.same in let k = ap length (append-nil others) in omega (arith, n, k, s.fits)

  pub taken_back : (before : Option ℕ) → is_some before ≡ true → StandsBeside votes others m before room → StandsBeside (without votes m) others m None room
  taken_back None e s = absurd cc
  taken_back (Some l) e s =
      let v : Vote = record { member = m; ledger = l } in
      record {
        same = λ p. without_alike votes (others ++ v ∷ []) s.same m p ∙ ap (count_by p) (without_one others v [] m refl s.apart refl);
        apart = s.apart;
        fits = s.fits;
      }

  pub cast_now : (l : ℕ) → StandsBeside votes others m None room → StandsBeside (votes ++ record { member = m; ledger = l } ∷ []) others m (Some l) room
  cast_now l s =
      let v : Vote = record { member = m; ledger = l } in
      record {
        same = λ p.
            count-append p votes (v ∷ [])
            ∙ ap (λ (n : ℕ). n + count_by p (v ∷ [])) (s.same p ∙ ap (count_by p) (append-nil others))
            ∙ sym (count-append p others (v ∷ []));
        apart = s.apart;
        fits = s.fits;
      }
