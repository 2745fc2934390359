use Rattle.std.proofs.Common.{◌≡◌, ℕ, ◌+◌, ◌<◌, List, [], ◌∷◌, ◌++◌, Option, Some, None, length, length-set, refl, sym, ap, ◌∙◌, arith}
use Rattle.std.specs.Prelude.{SomeIff, map}
use Rattle.std.specs.List.{range_with_len}
use Rattle.std.proofs.lemmas.List.{take_more_set, take_all}
use Rattle.std.proofs.lemmas.List.FromFn.{map-range_with_len_more}
use Rattle.xl_ledger.specs.declared.header.Header.{Header}
use Rattle.xl_ledger.specs.Registries.{Ledgers}
use Rattle.xl_nunl.specs.Rings.{score_in}
use Rattle.xl_negative.specs.Ringing.{Places, kept_scores}
use Rattle.xl_negative.proofs.scores.all_scores.Goals as goal

is_member : (o : Option ℕ) (P : Type 0) (n m : ℕ) → SomeIff o P n → o ≡ Some m → m ≡ n
is_member None P n m iff e = cc
is_member (Some k) P n m iff e = let same : k ≡ m = cc in sym same ∙ iff.1

pub score-requires-clause-known : goal.score-requires-clause-known
score-requires-clause-known c = rw c.loop-below.invariant.stays c.requires.known

pub score-requires-clause-high : goal.score-requires-clause-high
score-requires-clause-high c = rw c.loop-below.invariant.stays c.requires.high

pub loop-below-preserved : goal.loop-below-preserved
loop-below-preserved c =
    let below : ℕ = c.loop-below.below in
    let ledgers : List Header = c.args.registry.now.headers in
    let heard : Places = c.args.heard.now in
    let member : c.unwrap-member.result ≡ 1 + below = is_member c.new.result _ (below + 1) c.unwrap-member.result c.new.ensures c.unwrap-member.ensures ∙ omega arith in
    let within : below < length c.loop-below.scores = omega (arith, c.loop-below.invariant.size, c.loop-below-test.true) in
    record {
      size = length-set c.loop-below.scores below c.score.result ∙ c.loop-below.invariant.size;
      stays = c.score.ensures.goes_on.stays ∙ c.loop-below.invariant.stays;
      put =
          take_more_set c.loop-below.scores below c.score.result within
          ∙ ap (λ (xs : List ℕ). xs ++ c.score.result ∷ []) c.loop-below.invariant.put
          ∙ ap (λ (x : ℕ). map (λ m. score_in ledgers heard m c.args.flag) (range_with_len 1 below) ++ x ∷ [])
          (c.score.ensures.kept
          ∙ ap (λ (r : Ledgers). score_in r.headers heard c.unwrap-member.result c.args.flag) c.loop-below.invariant.stays
          ∙ ap (λ (m : ℕ). score_in ledgers heard m c.args.flag) member)
          ∙ sym (map-range_with_len_more (λ m. score_in ledgers heard m c.args.flag) 1 below (1 + below) refl);
    }

are_scores : (ledgers : List Header) (heard : Places) (flag : ℕ) → map (λ m. score_in ledgers heard m flag) (range_with_len 1 64) ≡ kept_scores ledgers heard flag
unfolding kept_scores
are_scores ledgers heard flag = refl

pub returns : goal.returns
returns c =
    let ledgers : List Header = c.args.registry.now.headers in
    let end : c.loop-below.below ≡ 64 = omega (arith, c.loop-below-test.false, c.loop-below.auto.below-end) in
    sym (take_all c.loop-below.below c.loop-below.scores (omega (arith, c.loop-below.invariant.size)))
    ∙ c.loop-below.invariant.put
    ∙ ap (λ (n : ℕ). map (λ m. score_in ledgers c.args.heard.now m c.args.flag) (range_with_len 1 n)) end
    ∙ are_scores ledgers c.args.heard.now c.args.flag
