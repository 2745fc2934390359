-- All that was pushed stays accounted for, for each reader of a broadcast.
use Rattle.std.proofs.Common.{◌≡◌, ℕ, zero, suc, ◌<◌, ◌==◌, cond, Bool, true, false, List, [], ◌∷◌, length, replicate, sym, ap, subst, ◌∙◌, append-nil, refl}
use Rattle.std.specs.Prelude.{Option, slice_get, option_to_list}
use Rattle.std.proofs.lemmas.List.{get_or-map, get_or-set_same, get_or-set_other}
use Rattle.std.proofs.lemmas.Bool.{cond_both, eqb-true, eqb-false}
use Rattle.xl_queues.specs.Queues.{Backlog, no_items, with_item, without_first, passed_over}
use Rattle.xl_queues.specs.Accounts.{IsAccounted, Accounts}
use Rattle.xl_queues.specs.Broadcasts.{queue_of, at_reader, pushed_to_all, no_reader, one_reader, AccountsForAll, AreAccounted}
use Rattle.xl_queues.proofs.Accounting.{push_accounts, pop_accounts, pass_over_accounts}

either_way : {X : Type 0} (b : Bool) (x : X) → cond b x x ≡ x
either_way true x = refl
either_way false x = refl

module _ {T : Type 0} where
  -- a queue that stays
  still : (old new : Backlog T) → new ≡ old → Accounts old new [] []
  still old new is before out was = rw (is, append-nil before, append-nil out) was

  abbrev none : Backlog T
  none = no_items

  none_at : (n k : ℕ) → queue_of (replicate n none) k ≡ none
  none_at zero k = refl
  none_at (suc n) zero = refl
  none_at (suc n) (suc k) = none_at n k

  pub none_accounted : (n : ℕ) (queues : List (Backlog T)) → queues ≡ replicate n no_items → AreAccounted queues
  none_accounted n queues is reader within =
      subst (IsAccounted [] []) (sym (ap (λ qs. queue_of qs reader) is ∙ none_at n reader)) (record { gone = []; in_order = refl; handed_out = refl; counted = refl })

  pub all_push : (n : ℕ) (old new : List (Backlog T)) (item : T) → new ≡ pushed_to_all n old item → AccountsForAll old new (item ∷ []) no_reader
  all_push n old new item is reader within =
      push_accounts n (queue_of old reader) (queue_of new reader) item
      (ap (λ qs. queue_of qs reader) is ∙ get_or-map (λ q. with_item n q item) old reader no_items no_items within)

  -- a change of one reader's queue accounts for what that reader took
  at_one : (old new : List (Backlog T)) (reader : ℕ) (change : Backlog T → Backlog T) (taken : List T) → new ≡ at_reader old reader change
      → Accounts (queue_of old reader) (change (queue_of old reader)) [] taken → AccountsForAll old new [] (one_reader reader taken)
  at_one old new reader change taken is its k within =
      cond_both (k == reader) taken [] (Accounts (queue_of old k) (queue_of new k) [])
      (λ same. there (eqb-true k reader same))
      (λ other. still (queue_of old k) (queue_of new k) (ap (λ qs. queue_of qs k) is ∙ get_or-set_other old reader k (change (queue_of old reader)) no_items (eqb-false k reader other)))
    where
      there : k ≡ reader → Accounts (queue_of old k) (queue_of new k) [] taken
      there e = subst (λ j. Accounts (queue_of old j) (queue_of new j) [] taken) (sym e)
          (subst (λ q. Accounts (queue_of old reader) q [] taken) (sym (ap (λ qs. queue_of qs reader) is ∙ get_or-set_same old reader (change (queue_of old reader)) no_items (subst (λ j. j < length old) e within))) its)

  pub all_pop : (old new : List (Backlog T)) (reader : ℕ) (answer : Option T) → new ≡ at_reader old reader without_first
      → answer ≡ slice_get (queue_of old reader).items 0 → AccountsForAll old new [] (one_reader reader (option_to_list answer))
  all_pop old new reader answer is first =
      at_one old new reader without_first (option_to_list answer) is (pop_accounts (queue_of old reader) (without_first (queue_of old reader)) answer refl first)

  pub all_pass_over : (old new : List (Backlog T)) (reader : ℕ) → new ≡ at_reader old reader passed_over → AccountsForAll old new [] no_reader
  all_pass_over old new reader is k within =
      subst (Accounts (queue_of old k) (queue_of new k) []) (either_way (k == reader) [])
      (at_one old new reader passed_over [] is (pass_over_accounts (queue_of old reader) (passed_over (queue_of old reader)) refl) k within)
