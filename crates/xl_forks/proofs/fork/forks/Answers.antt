use Rattle.std.proofs.Common.{◌+◌, ◌<◌, ◌++◌, ◌∙◌, ap, sym, subst, arith, Bor, List, map, drop, take}
use Rattle.std.specs.Prelude.{◌^◌, All}
use Rattle.std.specs.Map.Iter.{deref}
use Rattle.std.proofs.lemmas.List.{take_all, take_rest}
use Rattle.std.proofs.lemmas.List.Elements.{All-map, All-more, All-same}
use Rattle.xl_forks.specs.Forks.{fork_seen}
use Rattle.xl_forks.specs.Kept.{forks_with, two_kept}
use Rattle.xl_forks.specs.declared.reported.Reported.{Reported}
use Rattle.xl_forks.proofs.Naming.{two_named}
use Rattle.xl_forks.proofs.Walking.{walk, walk_ends, walk_is, walk_next}
use Rattle.xl_forks.proofs.fork.forks.Goals as goal

abbrev InRange : Bor Reported → Type 0
InRange b = b.now.seq < 2 ^ 32

pub loop-place-init : goal.loop-place-init
loop-place-init c = record {
  walked = ap (λ fs. map fork_seen fs ++ walk (two_kept c.args.words.now) (map deref c.deref-one-items.result.now)) c.new-found.ensures.items;
  numbers = λ k d low. absurd (omega arith);
}

pub loop-place-preserved : goal.loop-place-preserved
loop-place-preserved c = record {
  walked = walk_next (two_kept c.args.words.now) c.deref-one-items.result.now c.loop-place.place c.one-item.result (map fork_seen c.loop-place.found.items)
      (map fork_seen c.push_forks_of.new.found.items) c.loop-place-test.true c.one-item.is c.loop-place.invariant.walked (c.in_ok-push_forks_of.ensures.forks
      ∙ ap (λ (bs : List (Bor Reported)). map fork_seen c.loop-place.found.items ++ forks_with (two_kept c.args.words.now) c.one-item.result.now (map deref bs))
      (take_rest c.deref.result.now (c.loop-place.place + 1)
      ∙ ap (λ (bs : List (Bor Reported)). drop (c.loop-place.place + 1) bs) (c.deref.ensures.value ∙ sym c.deref-one-items.ensures.value)));
  numbers = All-more InRange c.deref-one-items.result.now c.loop-place.place c.one-item.result c.loop-place-test.true c.loop-place.invariant.numbers
      (subst InRange c.one-item.is c.push_forks_of.ensures.number);
}

pub returns : goal.returns
returns c = λ said kept.
    let numbers : All InRange c.in_ok-sorted.sorted.items =
    All-same InRange c.in_ok-sorted.sorted.items (take c.loop-place.place c.deref-one-items.result.now)
    (sym c.deref-one-items.ensures.value ∙ sym (take_all c.loop-place.place c.deref-one-items.result.now c.loop-place-test.false)) c.loop-place.invariant.numbers in
    walk_ends (two_kept c.args.words.now) c.deref-one-items.result.now c.loop-place.place (map fork_seen c.loop-place.found.items) c.loop-place-test.false c.loop-place.invariant.walked
    ∙ ap (λ (bs : List (Bor Reported)). walk (two_kept c.args.words.now) (map deref bs)) c.deref-one-items.ensures.value
    ∙ walk_is said (two_kept c.args.words.now) c.args.reported.now (map deref c.in_ok-sorted.sorted.items) (two_named c.args.words.now said kept) c.in_ok-sorted.ensures
    (All-map (λ r. r.seq < 2 ^ 32) deref c.in_ok-sorted.sorted.items numbers)
