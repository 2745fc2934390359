-- Whole numbers that were read lie within their bounds.
use Rattle.std.proofs.Common.{◌≡◌, ◌≤◌, ◌&&◌, ℕ, ℤ, pos, negsuc, Bool, true, false, Option, Some, None, refl, nat_le, arith, option_and_then}
use Rattle.std.proofs.lemmas.Bool.Decides.{nat_tests}
use Rattle.std.proofs.lemmas.Option.{same_Some}
use Rattle.toml.specs.Data.{Data, as_integer}
use Rattle.xl_settings.specs.Values.{in_bounds, whole, or_default}

bounded : (least most n : ℕ) (z : ℤ) → in_bounds least most z ≡ Some n → (least ≤ n) × (n ≤ most)
bounded least most n (negsuc m) e = cc
bounded least most n (pos m) e = go (nat_le least m && nat_le m most) refl
  where
    go : (b : Bool) → (nat_le least m && nat_le m most) ≡ b → (least ≤ n) × (n ≤ most)
    go true both = grind (arith, nat_tests, both, e)
    go false small = cc

pub whole_bounded : (least most n : ℕ) (value : Data) → whole least most value ≡ Some n → (least ≤ n) × (n ≤ most)
whole_bounded least most n value e = go (as_integer value) e
  where
    go : (o : Option ℤ) → option_and_then (in_bounds least most) o ≡ Some n → (least ≤ n) × (n ≤ most)
    go None e = cc
    go (Some z) e = bounded least most n z e

pub usual_bounded : (usual least most n : ℕ) (o : Option Data) → least ≤ usual → usual ≤ most
    → or_default usual (whole least most) o ≡ Some n
    → (least ≤ n) × (n ≤ most)
usual_bounded usual least most n None low high e =
    let same : usual ≡ n = same_Some usual n e in
    (omega (arith, low, same), omega (arith, high, same))
usual_bounded usual least most n (Some value) low high e = whole_bounded least most n value e

-- a threshold is at least 1, and at most the publishers or 1
pub threshold_bounded : (count n : ℕ) (o : Option Data) → count ≤ 16 → or_default 1 (whole 1 count) o ≡ Some n
    → (1 ≤ n) × (n ≤ 16)
threshold_bounded count n None few e =
    let same : 1 ≡ n = same_Some 1 n e in
    (omega (arith, same), omega (arith, same))
threshold_bounded count n (Some value) few e =
    let bounds = whole_bounded 1 count n value e in
    (bounds.0, omega (arith, bounds.1, few))
