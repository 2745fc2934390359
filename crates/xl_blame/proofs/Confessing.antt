-- What the journals of named members say, by who gave what was heard.
use Rattle.std.proofs.Common.{◌≡◌, ◌<◌, ◌+◌, ◌++◌, ◌∙◌, ℕ, Bool, cond, List, [], ◌∷◌, Option, Some, None, length, drop, get_or, refl, ap}
use Rattle.std.specs.Prelude.{◌==◌}
use Rattle.std.specs.List.{flat_map}
use Rattle.xl_forks.specs.Forks.{Fork}
use Rattle.xl_forks.specs.declared.equivocation.Equivocation.{Equivocation}
use Rattle.xl_forks.specs.declared.said.Said.{Said}
use Rattle.xl_given.specs.declared.givers.Giver.{Giver}
use Rattle.xl_shown.specs.declared.course.End.{End}
use Rattle.xl_blame.specs.Confessions.{answer_text, answers_if, answers_text, is_own, journal_of, named_text, own_entry}
use Rattle.xl_blame.specs.Summary.{last_line, shown_text}
use Rattle.xl_blame.specs.Texts.{fork_line, heard_line, twice_line}
use Rattle.xl_blame.specs.declared.summary.Tally.{Tally}

-- TWO WORDS FOR WHO GAVE WHAT

module _ (ended : List End) (f g : ℕ → ℕ → Option Giver) (same : (k e : ℕ) → f k e ≡ g k e) where
  own_same : (x : Said) → own_entry ended f x ≡ own_entry ended g x
  own_same x =
      ap (λ o. cond (is_own ended x) (Some (record { journal = x.journal; entry = x.entry })) o) (same x.journal x.entry)

  answers_same : (e : Equivocation) → answers_text ended f e ≡ answers_text ended g e
  answers_same e = by (journal_of ended e.first.member)
    where
      by : (o : Option ℕ) → answers_if o ended f e ≡ answers_if o ended g e
      by None = refl
      by (Some k) =
          ap (λ o. answer_text k e.first o ++ answer_text k e.other (own_entry ended f e.other)) (own_same e.first)
          ∙ ap (λ o. answer_text k e.first (own_entry ended g e.first) ++ answer_text k e.other o) (own_same e.other)

  named_same : (es : List Equivocation) → flat_map (named_text ended f) es ≡ flat_map (named_text ended g) es
  named_same [] = refl
  named_same (e ∷ es) =
      ap (λ text. (twice_line e ++ text) ++ flat_map (named_text ended f) es) (answers_same e)
      ∙ ap (λ text. named_text ended g e ++ text) (named_same es)

  pub shown_same : (wrong : ℕ) (forks : List Fork) (twice : List Equivocation) (tally : Tally)
      → shown_text wrong forks (named_text ended f) twice tally ≡ shown_text wrong forks (named_text ended g) twice tally
  shown_same wrong forks twice tally =
      ap (λ text. flat_map fork_line forks ++ text ++ heard_line tally ++ last_line wrong (length forks) (length twice)) (named_same twice)
