-- Two lists of rising ids are walked at once.
use Rattle.std.proofs.Common.{◌≡◌, ℕ, ◌+◌, ◌<◌, ◌≤◌, ◌||◌, Bool, true, false, not, cond, List, [], ◌∷◌, ◌++◌, length, take, drop, set, get_or, refl, sym, ap, subst, ◌∙◌, arith, append-nil}
use Rattle.std.proofs.Math.Bool.{or-true}
use Rattle.std.specs.List.{prefix_len}
use Rattle.std.specs.Str.{bytes_eq}
use Rattle.std.proofs.lemmas.List.{drop_more, take_more, take_more_set, drop-set-lt, get_or-drop, length-set}
use Rattle.std.proofs.lemmas.List.Elements.{filter-append}
use Rattle.std.proofs.lemmas.Grind.{drop_more_same}
use Rattle.xl_base.specs.Sets.{is_below, RisesFrom, IsRising}
use Rattle.xl_base.specs.declared.ids.TxId.{TxId}
use Rattle.xl_disputes.specs.Disputes.{has}
use Rattle.xl_disputes.proofs.IdOrder.{same_itself}
use Rattle.xl_disputes.proofs.Passing.{drop_rises, not_lower, passed, found}
use Rattle.xl_rounds.specs.Pending.{without_accepted}
use Rattle.xl_disputes.specs.Rows.{not_below, is_first}

-- the first ids are done, so many of them are left, and what is still to come is accepted if the rest has it
pub record IsWalked (accepted old now rest : List TxId) (place left : ℕ) : Type 0 where
  pub front : take left now ≡ without_accepted accepted (take place old)
  pub back : drop place now ≡ drop place old
  pub long : length now ≡ length old
  pub few : left ≤ place
  pub still : (t : TxId) → has (drop place old) t ≡ true → has accepted t ≡ has rest t
  pub rises : IsRising rest

-- as the code has it
pub walked_as : (accepted old now rest : List TxId) (place left : ℕ) (now' rest' : List TxId) (left' : ℕ) → now' ≡ now → rest' ≡ rest → left' ≡ left →
    IsWalked accepted old now rest place left → IsWalked accepted old now' rest' place left'
walked_as accepted old now rest place left now' rest' left' now_is rest_is left_is walked =
    subst (λ xs. IsWalked accepted old xs rest' place left') (sym now_is)
    (subst (λ xs. IsWalked accepted old now xs place left') (sym rest_is) (subst (IsWalked accepted old now rest place) (sym left_is) walked))

module _ (accepted old now rest : List TxId) (place left : ℕ) (walked : IsWalked accepted old now rest place left) (rises : IsRising old) (tx : TxId) (within : place < length old) (at : tx ≡ get_or now place tx) where
  here : (xs : List TxId) → get_or (drop place xs) 0 tx ≡ get_or xs place tx
  here xs = let e : place + 0 ≡ place = omega arith in get_or-drop place xs 0 tx ∙ ap (λ n. get_or xs n tx) e

  same : tx ≡ get_or old place tx
  same = at ∙ sym (here now) ∙ ap (λ xs. get_or xs 0 tx) walked.back ∙ here old

  opened : drop place old ≡ tx ∷ drop (place + 1) old
  opened = drop_more old place tx within ∙ ap (λ x. x ∷ drop (place + 1) old) (sym same)

  tx_rises : RisesFrom tx (drop (place + 1) old)
  tx_rises = subst IsRising opened (drop_rises place old rises)

  next_has : (t : TxId) → has (tx ∷ drop (place + 1) old) t ≡ true → has accepted t ≡ has (not_below tx rest) t
  next_has t among =
      walked.still t (ap (λ ids. has ids t) opened ∙ among) ∙ sym (passed tx t rest (not_lower tx t (drop (place + 1) old) (is_below t tx) refl tx_rises among))

  among_rest : (t : TxId) → has (drop (place + 1) old) t ≡ true → has (tx ∷ drop (place + 1) old) t ≡ true
  among_rest t among = ap (λ b. bytes_eq tx.0 t.0 || b) among ∙ or-true (bytes_eq tx.0 t.0)

  is_accepted : has accepted tx ≡ is_first tx (not_below tx rest)
  is_accepted = next_has tx (ap (λ b. b || has (drop (place + 1) old) tx) (same_itself tx)) ∙ found tx rest walked.rises

  one_more : (b : Bool) → is_first tx (not_below tx rest) ≡ b → without_accepted accepted (take (place + 1) old) ≡ take left now ++ cond (not b) (tx ∷ []) []
  one_more b first =
      ap (without_accepted accepted) (take_more old place tx within ∙ ap (λ x. take place old ++ x ∷ []) (sym same))
      ∙ filter-append (λ t. not (has accepted t)) (take place old) (tx ∷ [])
      ∙ ap (λ c. without_accepted accepted (take place old) ++ cond (not c) (tx ∷ []) []) (is_accepted ∙ first)
      ∙ ap (λ xs. xs ++ cond (not b) (tx ∷ []) []) (sym walked.front)

  next_rises : IsRising (not_below tx rest)
  next_rises = drop_rises (prefix_len (λ id. is_below id tx) rest) rest walked.rises

  pub dropped : is_first tx (not_below tx rest) ≡ true → IsWalked accepted old now (not_below tx rest) (place + 1) left
  dropped first = record {
    front = sym (one_more true first ∙ append-nil (take left now));
    back = drop_more_same now old place walked.back;
    long = walked.long;
    few = omega (arith, walked.few);
    still = λ t among. next_has t (among_rest t among);
    rises = next_rises;
  }

  pub kept : is_first tx (not_below tx rest) ≡ false → IsWalked accepted old (set now left tx) (not_below tx rest) (place + 1) (left + 1)
  kept first = record {
    front = take_more_set now left tx (omega (arith, walked.few, walked.long, within)) ∙ sym (one_more false first);
    back = drop-set-lt (place + 1) now left tx (omega (arith, walked.few)) ∙ drop_more_same now old place walked.back;
    long = length-set now left tx ∙ walked.long;
    few = omega (arith, walked.few);
    still = λ t among. next_has t (among_rest t among);
    rises = next_rises;
  }
