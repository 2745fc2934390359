-- Flag reports are no more than the sequences of the last ones together.
use Rattle.std.proofs.Common.{◌≡◌, ℕ, ◌+◌, ◌*◌, ◌<◌, ◌≤◌, List, length, get_or, set, replicate, length-set, arith, subst, ◌∙◌}
use Rattle.std.specs.List.{sum_by}
use Rattle.std.proofs.lemmas.List.{length-replicate}
use Rattle.std.proofs.lemmas.List.Elements.{All-replicate, All-set}
use Rattle.std.proofs.lemmas.List.Sums.{sum_by-le, sum_by-set}
use Rattle.xl_voting.specs.Tallying.{IsCounted, greatest_seq}

pub none_counted : (x : ℕ) → x ≤ greatest_seq → IsCounted (replicate 64 x) 0
none_counted x least = record { long = length-replicate 64 x; small = All-replicate (λ s. s ≤ greatest_seq) 64 x least; few = omega arith }

module _ (seqs : List ℕ) (count : ℕ) (is : IsCounted seqs count) where
  pub count_fits : count + 1 ≤ 18446744073709551615
  count_fits =
      let most : sum_by (λ s. s) seqs ≤ 64 * greatest_seq = subst (λ (n : ℕ). sum_by (λ s. s) seqs ≤ n * greatest_seq) is.long (sum_by-le (λ s. s) greatest_seq seqs is.small) in
      omega (arith, most, is.few)

  pub one_counted : (place s : ℕ) → place < 64 → get_or seqs place 0 < s → s ≤ greatest_seq → IsCounted (set seqs place s) (count + 1)
  one_counted place s within later least =
      let lt : place < length seqs = omega (arith, within, is.long) in
      let sums : sum_by (λ x. x) (set seqs place s) + get_or seqs place 0 ≡ sum_by (λ x. x) seqs + s = sum_by-set (λ x. x) seqs place s 0 lt in
      record {
        long = length-set seqs place s ∙ is.long;
        small = All-set (λ x. x ≤ greatest_seq) seqs place s least is.small;
        few = omega (arith, sums, is.few, later);
      }
