-- The two orders of members by their scores.
use Rattle.std.proofs.Common.{◌≡◌, ℕ, true, false, List, ap, arith}
use Rattle.std.specs.Prelude.{◌==◌, ◌||◌, ◌&&◌, nat_lt}
use Rattle.std.proofs.lemmas.Bool.Decides.{nat_tests}
use Rattle.xl_firsts.specs.Firsts.{IsOrder}
use Rattle.xl_firsts.proofs.Orders.{most_first}
use Rattle.xl_nunl.specs.Deciding.{score_at, is_better, is_worse}

pub better_orders : (scores : List ℕ) → IsOrder (is_better scores)
better_orders scores = most_first (score_at scores)

pub worse_orders : (scores : List ℕ) → IsOrder (is_worse scores)
worse_orders scores = record {
  total = λ a b later. total (score_at scores a) (score_at scores b) a b later;
  onward = λ a b c sooner after. onward (score_at scores a) (score_at scores b) (score_at scores c) a b c (ap (score_at scores)) sooner after;
  one_way = λ a b ab ba. one_way (score_at scores a) (score_at scores b) a b ab ba;
}
  where
    total : (x y a b : ℕ) → (nat_lt x y || x == y && nat_lt a b) ≡ false → (b == a || (nat_lt y x || y == x && nat_lt b a)) ≡ true
    total x y a b later = grind (arith, nat_tests)

    onward : (x y z a b c : ℕ) → (b ≡ c → y ≡ z) → (nat_lt x y || x == y && nat_lt a b) ≡ true → (b == c || (nat_lt y z || y == z && nat_lt b c)) ≡ true → (nat_lt x z || x == z && nat_lt a c) ≡ true
    onward x y z a b c same sooner after = grind (arith, nat_tests)

    one_way : (x y a b : ℕ) → (nat_lt x y || x == y && nat_lt a b) ≡ true → (nat_lt y x || y == x && nat_lt b a) ≡ true → a ≡ b
    one_way x y a b ab ba = grind (arith, nat_tests)
