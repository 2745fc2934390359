-- Why the laws of forks hold.
use Rattle.std.proofs.Common.{◌≡◌, ℕ, zero, suc, ◌+◌, ◌<◌, ◌≤◌, Bool, true, false, cond, List, [], ◌∷◌, ◌++◌, Some, None, refl, ap, sym, ◌∙◌, subst, arith, inl, inr}
use Rattle.std.specs.Prelude.{◌==◌, ◌&&◌, ◌||◌, filter_map, flat_map, All, Contains, ◌^◌}
use Rattle.std.specs.List.{cons_option, list_any, range_with_len}
use Rattle.std.proofs.lemmas.Bool.{and_parts, and_from, both_ways, cases_eq, cond-true, cond-false, eq-eqb, eqb-true, false_from_ne_true}
use Rattle.std.proofs.lemmas.List.Elements.{All-append, All-cons, All-contains_itself, All-filter, All-head, All-nil, All-tail, Contains-append_left, Contains-append_right, filter-append, filter_map-append, filter_passes}
use Rattle.xl_base.specs.Ids.{same_id}
use Rattle.xl_base.specs.declared.ids.LedgerId.{LedgerId}
use Rattle.xl_lists.proofs.Agreement.{same_id-true, same_id_itself}
use Rattle.xl_lists.proofs.Counting.{count_weaker}
use Rattle.xl_lists.specs.Lists.{is_on}
use Rattle.xl_forks.specs.Equivocations.{all_seqs, is_of, said_two, seqs_below}
use Rattle.xl_forks.specs.Forks.{Fork, fork_between, fork_of, forks_among}
use Rattle.xl_forks.specs.Laws.{BothAreShown, EachPairIsAFork, ForksAreOfReports, IsFork, said_it}
use Rattle.xl_forks.specs.declared.equivocation.Equivocation.{Equivocation}
use Rattle.xl_forks.specs.declared.reported.Reported.{Reported}
use Rattle.xl_forks.specs.declared.said.Said.{Said}
use Rattle.xl_forks.proofs.Lawful.{two_are}
use Rattle.xl_forks.proofs.Walking.{of_seq}

all_flat_map : {X Y : Type 0} (P : Y → Type 0) (f : X → List Y) → ((x : X) → All P (f x)) → (xs : List X) → All P (flat_map f xs)
all_flat_map P f each [] = All-nil P
all_flat_map P f each (x ∷ xs) = All-append P (f x) (flat_map f xs) (each x) (all_flat_map P f each xs)

module _ (said : List Said) (reported : List Reported) (s : ℕ) where
  -- one of the reports of the sequence
  record IsOfSeq (r : Reported) : Type 0 where
    there : Contains reported r
    seq : r.seq ≡ s

  all_with : (r : Reported) → IsOfSeq r → (qs : List Reported) → All IsOfSeq qs → All (IsFork said reported) (filter_map (fork_of (said_two said) r) qs)
  all_with r it [] all = All-nil (IsFork said reported)
  all_with r it (q ∷ qs) all =
      let rest = all_with r it qs (All-tail IsOfSeq q qs all) in
      let also = All-head IsOfSeq q qs all in
      elim (same_id r.id q.id) as (λ b. same_id r.id q.id ≡ b →
      All (IsFork said reported) (cons_option (cond b None (Some (fork_between (said_two said) r q))) (filter_map (fork_of (said_two said) r) qs))) [
        | true ↦ λ _. rest
        | false ↦ λ differs. All-cons (IsFork said reported) (fork_between (said_two said) r q) (filter_map (fork_of (said_two said) r) qs) (record {
          has_one = it.there;
          has_other = also.there;
          one_seq = it.seq ∙ sym also.seq;
          two_ids = λ e. both_ways (same_id r.id q.id) differs (ap (same_id r.id) (sym e) ∙ same_id_itself r.id);
          least = refl;
          shown = refl;
        }) rest
      ] refl

  all_among : (rs : List Reported) → All IsOfSeq rs → All (IsFork said reported) (forks_among (said_two said) rs)
  all_among [] all = All-nil (IsFork said reported)
  all_among (r ∷ rs) all =
      All-append (IsFork said reported) (filter_map (fork_of (said_two said) r) rs) (forks_among (said_two said) rs)
      (all_with r (All-head IsOfSeq r rs all) rs (All-tail IsOfSeq r rs all)) (all_among rs (All-tail IsOfSeq r rs all))

  all_of_seq : All IsOfSeq (of_seq s reported)
  all_of_seq = λ k d within. record {
    there = All-filter (λ r. r.seq == s) (Contains reported) reported (All-contains_itself reported) k d within;
    seq = eqb-true _ s (filter_passes (λ r. r.seq == s) reported k d within);
  }

pub forks_are : ForksAreOfReports
forks_are said reported =
    all_flat_map (IsFork said reported) (λ s. forks_among (said_two said) (of_seq s reported)) (λ s. all_among said reported s (of_seq s reported) (all_of_seq said reported s)) all_seqs

-- what one number of a range gives is given by all
in_range : {Y : Type 0} (f : ℕ → List Y) (k : ℕ) (y : Y) → Contains (f k) y → (n a : ℕ) → a ≤ k → k < a + n → Contains (flat_map f (range_with_len a n)) y
in_range f k y has zero a low high = absurd (omega arith)
in_range f k y has (suc n) a low high =
    elim (cases_eq a k) [
      | inl e ↦ Contains-append_left (f a) (flat_map f (range_with_len (a + 1) n)) y (subst (λ j. Contains (f j) y) (sym e) has)
      | inr ne ↦ Contains-append_right (f a) (flat_map f (range_with_len (a + 1) n)) y (in_range f k y has n (a + 1) (omega (arith, ne)) (omega arith))
    ]

module _ (two : ℕ → ℕ → Bool) where
  among_later : (fs rest : List Reported) (f : Fork) → Contains (forks_among two rest) f → Contains (forks_among two (fs ++ rest)) f
  among_later [] rest f has = has
  among_later (r ∷ fs) rest f has = Contains-append_right (filter_map (fork_of two r) (fs ++ rest)) (forks_among two (fs ++ rest)) f (among_later fs rest f has)

  among_here : (r q : Reported) (ms bs : List Reported) → same_id r.id q.id ≡ false → Contains (forks_among two (r ∷ (ms ++ q ∷ bs))) (fork_between two r q)
  among_here r q ms bs differs =
      Contains-append_left (filter_map (fork_of two r) (ms ++ q ∷ bs)) (forks_among two (ms ++ q ∷ bs)) (fork_between two r q)
      (subst (λ fs. Contains fs (fork_between two r q))
      (sym (filter_map-append (fork_of two r) ms (q ∷ bs)
      ∙ ap (λ o. filter_map (fork_of two r) ms ++ cons_option o (filter_map (fork_of two r) bs)) (cond-false (same_id r.id q.id) None (Some (fork_between two r q)) differs)))
      (Contains-append_right (filter_map (fork_of two r) ms) (fork_between two r q ∷ filter_map (fork_of two r) bs) (fork_between two r q) (0, omega arith, refl)))

  split_of_seq : (s : ℕ) (front middle back : List Reported) (r q : Reported) → (r.seq == s) ≡ true → (q.seq == s) ≡ true →
      of_seq s (front ++ r ∷ (middle ++ q ∷ back)) ≡ of_seq s front ++ r ∷ (of_seq s middle ++ q ∷ of_seq s back)
  split_of_seq s front middle back r q one other =
      filter-append (λ x. x.seq == s) front (r ∷ (middle ++ q ∷ back))
      ∙ ap (λ rs. of_seq s front ++ rs)
      (cond-true (r.seq == s) (r ∷ of_seq s (middle ++ q ∷ back)) (of_seq s (middle ++ q ∷ back)) one
      ∙ ap (λ rs. r ∷ rs)
      (filter-append (λ x. x.seq == s) middle (q ∷ back)
      ∙ ap (λ rs. of_seq s middle ++ rs) (cond-true (q.seq == s) (q ∷ of_seq s back) (of_seq s back) other)))

  pair_below : (n : ℕ) (front middle back : List Reported) (r q : Reported) → r.seq < n → r.seq ≡ q.seq → same_id r.id q.id ≡ false →
      Contains (flat_map (λ s. forks_among two (of_seq s (front ++ r ∷ (middle ++ q ∷ back)))) (seqs_below n)) (fork_between two r q)
  unfolding seqs_below
  pair_below n front middle back r q low same differs =
      in_range (λ s. forks_among two (of_seq s (front ++ r ∷ (middle ++ q ∷ back)))) r.seq (fork_between two r q)
      (subst (λ rs. Contains (forks_among two rs) (fork_between two r q)) (sym (split_of_seq r.seq front middle back r q (eq-eqb r.seq r.seq refl) (eq-eqb q.seq r.seq (sym same))))
      (among_later (of_seq r.seq front) (r ∷ (of_seq r.seq middle ++ q ∷ of_seq r.seq back)) (fork_between two r q) (among_here r q (of_seq r.seq middle) (of_seq r.seq back) differs)))
      n 0 (omega arith) (omega arith)

pub each_pair : EachPairIsAFork
each_pair said front middle back r q low same differ =
    pair_below (said_two said) (2 ^ 32) front middle back r q low same (false_from_ne_true (same_id r.id q.id) (λ e. differ (same_id-true r.id q.id e)))

-- what passes is somewhere
somewhere : {X : Type 0} (p : X → Bool) (xs : List X) → list_any p xs ≡ true → (x : X) × Contains xs x × (p x ≡ true)
somewhere p [] h = absurd cc
somewhere {X} p (x ∷ xs) h =
    elim (p x) as (λ b. p x ≡ b → (b || list_any p xs) ≡ true → (y : X) × Contains (x ∷ xs) y × (p y ≡ true)) [
      | true ↦ λ passes _. (x, (0, omega arith, refl), passes)
      | false ↦ λ _ e.
          let later = somewhere p xs e in
          (later.0, Contains-append_right (x ∷ []) xs later.0 later.1, later.2)
    ] refl h

said_both : (said : List Said) (s m : ℕ) (x y : LedgerId) → (x ≡ y → ⊥) → said_it said s m x ≡ true → said_it said s m y ≡ true → said_two said s m ≡ true
said_both said s m x y differ one other =
    let a = somewhere (λ w. is_of s m w && same_id w.id x) said one in
    let b = somewhere (λ w. is_of s m w && same_id w.id y) said other in
    let first = and_parts (is_of s m a.0) (same_id a.0.id x) a.2 in
    let second = and_parts (is_of s m b.0) (same_id b.0.id y) b.2 in
    let e : Equivocation = record { first = a.0; other = b.0 } in
    two_are said s m e (record {
      has_first = a.1;
      has_other = b.1;
      first = first.0;
      other = second.0;
      differ = λ same. differ (sym (same_id-true a.0.id x first.1) ∙ same ∙ same_id-true b.0.id y second.1);
    })

pub both_are_shown : BothAreShown
both_are_shown said s x y a b differ =
    count_weaker (λ m. is_on b m && (said_it said s m x && said_it said s m y)) (λ m. is_on b m && said_two said s m)
    (λ m both.
    let on = and_parts (is_on b m) (said_it said s m x && said_it said s m y) both in
    let it = and_parts (said_it said s m x) (said_it said s m y) on.1 in
    and_from (is_on b m) (said_two said s m) on.0 (said_both said s m x y differ it.0 it.1)) a
