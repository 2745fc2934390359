-- each place is filled once
use Rattle.std.proofs.Common.{◌≡◌, ℕ, List, map, sym, ap, ◌∙◌, arith}
use Rattle.std.proofs.lemmas.List.{take_all, length-set}
use Rattle.std.specs.List.{range_with_len}
use Rattle.xl_status.specs.declared.hearing.Hearing.{Hearing}
use Rattle.xl_status.specs.Hearings.{last_heard_at}
use Rattle.xl_store.proofs.Filling.{filled_more}
use Rattle.xl_status.proofs.hearing.Hearing.note.Goals as goal

pub loop-place-preserved : goal.loop-place-preserved
loop-place-preserved c = record {
  long = length-set c.loop-place.at c.loop-place.place c.last_heard.result ∙ c.loop-place.invariant.long;
  told = filled_more (last_heard_at c.args.self.now c.args.status.now) 0 c.loop-place.place c.loop-place.place
      c.loop-place.at c.last_heard.result (omega (arith, c.loop-place-test.true, c.loop-place.invariant.long))
      c.loop-place.invariant.told (omega arith) c.last_heard.ensures;
}

pub returns : goal.returns
returns c =
    let end : c.loop-place.place ≡ 64 = omega (arith, c.loop-place-test.false, c.loop-place.auto.place-end) in
    let filled : c.loop-place.at ≡ map (last_heard_at c.args.self.now c.args.status.now) (range_with_len 0 64) =
    sym (take_all c.loop-place.place c.loop-place.at (omega (arith, c.loop-place.invariant.long, end)))
    ∙ c.loop-place.invariant.told
    ∙ ap (λ (n : ℕ). map (last_heard_at c.args.self.now c.args.status.now) (range_with_len 0 n)) end in
    ap (λ (at : List ℕ). let h : Hearing = record { at = at } in h) filled
