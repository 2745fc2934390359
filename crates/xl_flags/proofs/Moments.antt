-- One moment is enough: how an amendment stands after the reports of a node, and what is said of it.
use Rattle.std.proofs.Common.{◌≡◌, ℕ, ◌+◌, Bool, true, false, List, [], ◌∷◌, Option, Some, None, refl, ap, ◌∙◌, arith}
use Rattle.std.specs.Prelude.{◌&&◌, ◌||◌, not, nat_le, min, is_some, if◌then◌else◌}
use Rattle.std.specs.List.{list_any}
use Rattle.std.proofs.lemmas.Bool.Decides.{nat_tests}
use Rattle.xl_base.specs.declared.ids.TxId.{TxId}
use Rattle.xl_flags.specs.declared.news.FlagLine.TheVariants.{Enabled, Majority, Lost}
use Rattle.xl_flags.specs.declared.standing.Standing.TheVariants.{Since, InForce}
use Rattle.xl_flags.specs.Votes.{FlagReport, has_majority}
use Rattle.xl_flags.specs.Flags.{run, lasts, is_enabled, had, news_of}
use Rattle.xl_flags.specs.Kept.{earlier_of, since, from_since, standing_of, stands_after, news_between}
use Rattle.xl_flags.specs.declared.standing.TheConstants.{LASTING}

-- whether two weeks have passed since a moment, if there is one
abbrev pub is_old : ℕ → Option ℕ → Bool
is_old close None = false
is_old close (Some s) = nat_le (s + LASTING) close

least_old : (c t s : ℕ) → (nat_le (t + LASTING) c || nat_le (s + LASTING) c) ≡ nat_le (min s t + LASTING) c
least_old c t s = grind (arith, nat_tests)

or_none : (b : Bool) → (b || false) ≡ b
or_none true = refl
or_none false = refl

-- a moment more, or the least so far, is old where the earlier is
old_more : (c t : ℕ) (s : Option ℕ) → (nat_le (t + LASTING) c || is_old c s) ≡ is_old c (Some (earlier_of t s))
old_more c t None = or_none (nat_le (t + LASTING) c)
old_more c t (Some s) = least_old c t s

-- one of the latest reports is old where their least close time is
any_old : (a : TxId) (c : ℕ) (reports : List FlagReport) → list_any (λ o. nat_le (o.close + LASTING) c) (run a reports) ≡ is_old c (since a reports)
any_old a c [] = refl
any_old a c (r ∷ older) = by_majority (has_majority a r) (any_old a c older)
  where
    by_majority : (b : Bool) → list_any (λ o. nat_le (o.close + LASTING) c) (run a older) ≡ is_old c (since a older) →
        list_any (λ o. nat_le (o.close + LASTING) c) (if b then r ∷ run a older else []) ≡ is_old c (if b then Some (earlier_of r.close (since a older)) else None)
    by_majority true before = ap (λ (x : Bool). nat_le (r.close + LASTING) c || x) before ∙ old_more c r.close (since a older)
    by_majority false before = refl

-- a majority at the latest report is a moment that is kept
had_since : (a : TxId) (reports : List FlagReport) → had a reports ≡ is_some (since a reports)
had_since a [] = refl
had_since a (r ∷ older) = by_majority (has_majority a r)
  where
    by_majority : (b : Bool) → b ≡ is_some (if b then Some (earlier_of r.close (since a older)) else None)
    by_majority true = refl
    by_majority false = refl

not_yet : (c : ℕ) → nat_le (c + LASTING) c ≡ false
not_yet c = grind (arith, nat_tests)

-- how it stands, from how it stood
stands : (e h : Bool) (c : ℕ) (s : Option ℕ) →
    (if e || is_old c (if h then Some (earlier_of c s) else None) then InForce else from_since (if h then Some (earlier_of c s) else None))
    ≡ stands_after (if e then InForce else from_since s) c h
stands false true c None = ap (λ (b : Bool). if b then InForce else Since c) (not_yet c)
stands false false c None = refl
stands e h c s = refl

pub standing_more : (a : TxId) (r : FlagReport) (older : List FlagReport) → standing_of a (r ∷ older) ≡ stands_after (standing_of a older) r.close (has_majority a r)
standing_more a r older =
    ap (λ (b : Bool). if is_enabled a older || b then InForce else from_since (since a (r ∷ older))) (any_old a r.close (r ∷ older))
    ∙ stands (is_enabled a older) (has_majority a r) r.close (since a older)

said : (i s : ℕ) (a : TxId) (e l h : Bool) (t : ℕ) (before : Option ℕ) →
    (if e
    then []
    else (if e || l
    then Enabled i s a ∷ []
    else (if h && not (is_some before)
    then Majority i s a ∷ []
    else (if not h && is_some before then Lost i s a ∷ [] else []))))
    ≡ news_between (if e then InForce else from_since before) (if e || l then InForce else from_since (if h then Some t else None)) i s a
said i s a false true h t None = refl
said i s a false false true t None = refl
said i s a false false false t None = refl
said i s a e l h t before = refl

-- what is said is said by the two standings
pub news_is : (i s : ℕ) (r : FlagReport) (older : List FlagReport) (a : TxId) → news_of i s r older a ≡ news_between (standing_of a older) (standing_of a (r ∷ older)) i s a
news_is i s r older a =
    ap (λ (b : Bool).
    if is_enabled a older
    then []
    else (if is_enabled a (r ∷ older)
    then Enabled i s a ∷ []
    else (if has_majority a r && not b
    then Majority i s a ∷ []
    else (if not (has_majority a r) && b then Lost i s a ∷ [] else []))))
    (had_since a older)
    ∙ said i s a (is_enabled a older) (lasts a (r ∷ older)) (has_majority a r) (earlier_of r.close (since a older)) (since a older)
