-- The votes of members, as one's comes or goes.
use Rattle.std.proofs.Common.{◌≡◌, ℕ, ◌+◌, ◌==◌, Bool, true, false, not, cond, List, [], ◌∷◌, ◌++◌, refl, sym, ap, subst, ◌∙◌, arith, inl, inr}
use Rattle.xl_trie.proofs.Common.{map, count_by, cases_Bool, eq-eqb, ne_eqb, Vote, has_voted, without, OneMore, OneFewer, changed_count, IsChange, In, Apart}
use Rattle.std.proofs.lemmas.List.{map_push}
use Rattle.std.proofs.lemmas.List.Sums.{sum_by_push}
use Rattle.xl_trie.proofs.Listing.{true_false, in_any, in_either, in_filter, in_map, to_map, count_cons}

abbrev pub members : List Vote → List ℕ
members votes = map (λ v. v.member) votes

-- ---- one more

more_if : (b : Bool) (n k : ℕ) → n ≡ k + cond b 1 0 → n ≡ cond b (k + 1) k
more_if b n k e = grind (arith, cases_Bool b, e)

pub one_more : (votes : List Vote) (v : Vote) → IsChange OneMore v votes (votes ++ v ∷ [])
one_more votes v = record {
  counts = λ p. more_if (p v) (count_by p (votes ++ v ∷ [])) (count_by p votes) (sum_by_push (λ x. cond (p x) 1 0) votes v);
  from = λ w i. elim (in_either votes (v ∷ []) w i) [ inl j ↦ inl j | inr (inl same) ↦ inr same | inr (inr wrong) ↦ absurd wrong ];
}

apart_push : (ms : List ℕ) (m : ℕ) → Apart ms → (In m ms → ⊥) → Apart (ms ++ m ∷ [])
apart_push [] m apart none = ((λ i. i), tt)
apart_push (k ∷ ms) m apart none = (
  (λ i. elim (in_either ms (m ∷ []) k i) [ inl j ↦ apart.0 j | inr (inl same) ↦ none (inl (sym same)) | inr (inr wrong) ↦ wrong ]),
  apart_push ms m apart.1 (λ i. none (inr i)),
)

pub members_more : (votes : List Vote) (v : Vote) → Apart (members votes) → has_voted votes v.member ≡ false → Apart (members (votes ++ v ∷ []))
members_more votes v apart none =
    subst (λ (ms : List ℕ). Apart ms) (sym (map_push (λ (w : Vote). w.member) votes v))
    (apart_push (members votes) v.member apart (λ i.
    let u = in_map (λ (w : Vote). w.member) votes v.member i in
    true_false (has_voted votes v.member) (in_any (λ w. w.member == v.member) votes u.0 u.1 (eq-eqb u.0.member v.member (sym u.2))) none))

-- ---- one fewer

others_of : (votes : List Vote) (member : ℕ) → (In member (members votes) → ⊥) → without votes member ≡ votes
others_of [] member none = refl
others_of (w ∷ votes) member none =
    ap (λ b. cond (not b) (w ∷ without votes member) (without votes member)) (ne_eqb w.member member (λ e. none (inl (sym e))))
    ∙ ap (λ ws. w ∷ ws) (others_of votes member (λ i. none (inr i)))

count_without : (p : Vote → Bool) (votes : List Vote) (v : Vote) → In v votes → Apart (members votes) → count_by p votes ≡ cond (p v) 1 0 + count_by p (without votes v.member)
count_without p [] v i apart = absurd i
count_without p (w ∷ votes) v (inl same) apart =
    let one : w.member ≡ v.member = ap (λ (x : Vote). x.member) (sym same) in
    let rest : without (w ∷ votes) v.member ≡ votes = ap (λ b. cond (not b) (w ∷ without votes v.member) (without votes v.member)) (eq-eqb w.member v.member one) ∙ others_of votes v.member (λ i. apart.0 (subst (λ m. In m (members votes)) (sym one) i)) in
    omega (arith, count_cons p w votes, ap (count_by p) rest, ap (λ (x : Vote). cond {A = ℕ} (p x) 1 0) same)
count_without p (w ∷ votes) v (inr i) apart =
    let other : w.member ≡ v.member → ⊥ = λ e. apart.0 (subst (λ m. In m (members votes)) (sym e) (to_map (λ (x : Vote). x.member) votes v i)) in
    let rest : without (w ∷ votes) v.member ≡ w ∷ without votes v.member = ap (λ b. cond (not b) (w ∷ without votes v.member) (without votes v.member)) (ne_eqb w.member v.member other) in
    let r = count_without p votes v i apart.1 in
    omega (arith, r, count_cons p w votes, count_cons p w (without votes v.member), ap (count_by p) rest)

fewer_if : (b : Bool) (n k : ℕ) → k ≡ cond b 1 0 + n → n ≡ cond b (changed_count OneFewer k) k
fewer_if b n k e = grind (arith, cases_Bool b, e)

pub one_fewer : (votes : List Vote) (v : Vote) → In v votes → Apart (members votes) → IsChange OneFewer v votes (without votes v.member)
one_fewer votes v i apart = record {
  counts = λ p. fewer_if (p v) (count_by p (without votes v.member)) (count_by p votes) (count_without p votes v i apart);
  from = λ w j. inl (in_filter (λ (x : Vote). not (x.member == v.member)) votes w j).0;
}

pub members_less : (votes : List Vote) (member : ℕ) → Apart (members votes) → Apart (members (without votes member))
members_less [] member apart = tt
members_less (w ∷ votes) member apart = by_test (not (w.member == member)) (members_less votes member apart.1)
  where
    off : In w.member (members (without votes member)) → ⊥
    off i = let u = in_map (λ (x : Vote). x.member) (without votes member) w.member i in apart.0 (subst (λ m. In m (members votes)) (sym u.2) (to_map (λ (x : Vote). x.member) votes u.0 (in_filter (λ (x : Vote). not (x.member == member)) votes u.0 u.1).0))

    by_test : (b : Bool) → Apart (members (without votes member)) → Apart (members (cond b (w ∷ without votes member) (without votes member)))
    by_test true rest = (off, rest)
    by_test false rest = rest
