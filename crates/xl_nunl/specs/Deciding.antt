-- What a node decides at a flag ledger. Source: rippled's negative UNL; the numbers, and that each node decides for
-- itself, are this profile's.
use Rattle.std.specs.Prelude.{ℕ, ◌+◌, ◌-◌, ◌/◌, ◌==◌, ◌&&◌, ◌||◌, not, nat_lt, nat_le, Bool, List, [], ◌∷◌, ◌++◌, length, filter, slice_index, Option, Some, None, if◌then◌else◌}
use Rattle.xl_lists.specs.Lists.{is_on}
use Rattle.xl_firsts.specs.Firsts.{first_by}

-- the score of a member, of those of all numbers
abbrev pub score_at : List ℕ → ℕ → ℕ
score_at scores m = slice_index scores (m - 1)

-- whether a member was heard more than another, or as much and has the lower number
abbrev pub is_better : List ℕ → ℕ → ℕ → Bool
is_better scores a b = nat_lt (score_at scores b) (score_at scores a) || score_at scores a == score_at scores b && nat_lt a b

-- whether a member was heard less than another, or as much and has the lower number
abbrev pub is_worse : List ℕ → ℕ → ℕ → Bool
is_worse scores a b = nat_lt (score_at scores a) (score_at scores b) || score_at scores a == score_at scores b && nat_lt a b

-- the first by one of these orders, if it passes a test
abbrev pub only_if : (ℕ → Bool) → Option ℕ → Option ℕ
only_if test None = None
only_if test (Some m) = if test m then Some m else None

-- whether the node hears too little of itself to decide anything
abbrev pub hears_little : List ℕ → List ℕ → ℕ → Bool
hears_little full scores me = is_on full me && nat_lt (score_at scores me) 230

-- the member that may come back: the best of those that are left out, where its score is above 204
abbrev pub leaving_member : List ℕ → List ℕ → Option ℕ
leaving_member negative scores = only_if (λ m. nat_lt 204 (score_at scores m)) (first_by (is_better scores) negative)

-- those that are left out, without the one that comes back
abbrev pub without : List ℕ → Option ℕ → List ℕ
without negative None = negative
without negative (Some left) = filter (λ m. not (m == left)) negative

-- the members that may be left out next
abbrev pub candidates : List ℕ → List ℕ → ℕ → List ℕ
candidates full negative me = filter (λ m. not (is_on negative m) && not (m == me)) full

-- the member that is left out next: the worst, where its score is below 128 and it makes at most a quarter
abbrev pub joining_member : List ℕ → List ℕ → List ℕ → ℕ → Option ℕ
joining_member full negative scores me =
    only_if (λ m. nat_lt (score_at scores m) 128 && nat_le (length negative + 1) (length full / 4))
    (first_by (is_worse scores) (candidates full negative me))

-- the member that comes back at a flag ledger
abbrev pub left_of : List ℕ → List ℕ → List ℕ → ℕ → Option ℕ
left_of full negative scores me = if hears_little full scores me then None else leaving_member negative scores

-- the member that is left out at it
abbrev pub joined_of : List ℕ → List ℕ → List ℕ → ℕ → Option ℕ
joined_of full negative scores me =
    if hears_little full scores me then None else joining_member full (without negative (leaving_member negative scores)) scores me

-- those that are left out with one more
abbrev pub with_one : List ℕ → Option ℕ → List ℕ
with_one negative None = negative
with_one negative (Some joined) = negative ++ joined ∷ []

-- those that are left out then
abbrev pub negative_after : List ℕ → Option ℕ → Option ℕ → List ℕ
negative_after negative left joined = with_one (without negative left) joined
