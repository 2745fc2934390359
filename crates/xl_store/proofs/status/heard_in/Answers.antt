-- each number is asked once, at its place
use Rattle.std.proofs.Common.{◌≡◌, ℕ, map, sym, ap, ◌∙◌, arith}
use Rattle.std.proofs.lemmas.List.{take_all, length-set}
use Rattle.std.specs.List.{range_with_len}
use Rattle.xl_lists.specs.Lists.{all_numbers}
use Rattle.xl_store.specs.Statuses.{is_heard}
use Rattle.xl_store.proofs.Filling.{filled_more}
use Rattle.xl_store.proofs.status.heard_in.Goals as goal

pub loop-place-preserved : goal.loop-place-preserved
loop-place-preserved g c = record {
  long = length-set c.loop-place.heard c.loop-place.place c.is_heard.result ∙ c.loop-place.invariant.long;
  told = filled_more (is_heard c.args.core.now.node) 1 c.loop-place.place c.member_at.result c.loop-place.heard
      c.is_heard.result (omega (arith, c.loop-place-test.true, c.loop-place.invariant.long)) c.loop-place.invariant.told
      (omega (arith, c.member_at.ensures)) c.is_heard.ensures;
}

pub returns : goal.returns
unfolding all_numbers
returns g c =
    let end : c.loop-place.place ≡ 64 = omega (arith, c.loop-place-test.false, c.loop-place.auto.place-end) in
    sym (take_all c.loop-place.place c.loop-place.heard (omega (arith, c.loop-place.invariant.long, end)))
    ∙ c.loop-place.invariant.told
    ∙ ap (λ (n : ℕ). map (is_heard c.args.core.now.node) (range_with_len 1 n)) end
