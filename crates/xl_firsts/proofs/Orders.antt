-- Orders by a number that each has: who has more of it comes first, and of two that have as much the lower number.
use Rattle.std.proofs.Common.{◌≡◌, ℕ, true, false, ap, arith}
use Rattle.std.specs.Prelude.{◌==◌, ◌||◌, ◌&&◌, nat_lt}
use Rattle.std.proofs.lemmas.Bool.Decides.{nat_tests}
use Rattle.xl_firsts.specs.Firsts.{IsOrder}

pub most_first : (n : ℕ → ℕ) → IsOrder (λ a b. nat_lt (n b) (n a) || n a == n b && nat_lt a b)
most_first n = record {
  total = λ a b later. total (n a) (n b) a b later;
  onward = λ a b c sooner after. onward (n a) (n b) (n c) a b c (ap n) sooner after;
  one_way = λ a b ab ba. one_way (n a) (n b) a b ab ba;
}
  where
    total : (x y a b : ℕ) → (nat_lt y x || x == y && nat_lt a b) ≡ false → (b == a || (nat_lt x y || y == x && nat_lt b a)) ≡ true
    total x y a b later = grind (arith, nat_tests)

    onward : (x y z a b c : ℕ) → (b ≡ c → y ≡ z) → (nat_lt y x || x == y && nat_lt a b) ≡ true → (b == c || (nat_lt z y || y == z && nat_lt b c)) ≡ true → (nat_lt z x || x == z && nat_lt a c) ≡ true
    onward x y z a b c same sooner after = grind (arith, nat_tests)

    one_way : (x y a b : ℕ) → (nat_lt y x || x == y && nat_lt a b) ≡ true → (nat_lt x y || y == x && nat_lt b a) ≡ true → a ≡ b
    one_way x y a b ab ba = grind (arith, nat_tests)
