-- the first positions are cleared one by one, and behind them there were none
use Rattle.std.proofs.Common.{◌≡◌, ◌<◌, ◌++◌, List, length, map, take, drop, get_or, replicate, None, Option, ap, ◌∙◌, arith}
use Rattle.std.proofs.lemmas.List.{get_or_default, length-drop, length-take, length-append, length-map}
use Rattle.std.proofs.lemmas.List.Edits.{map_over_more}
use Rattle.xl_base.specs.declared.ids.SetId.{SetId}
use Rattle.xl_disputes.proofs.Unused.{none_left}
use Rattle.xl_disputes.proofs.disputes.clear_first.Goals as goal

pub loop-place-preserved : goal.loop-place-preserved
loop-place-preserved c =
    let before : List (Option SetId) = c.args.positions.now in
    let i = c.loop-place.place in
    let within : i < length before = omega (arith, c.told-positions, c.requires.within, c.loop-place-test.true) in
    let long : length c.loop-place.positions ≡ length before = ap length c.loop-place.invariant ∙ length-append {A = Option SetId} (map (λ _. None) (take i before)) (drop i before)
    ∙ omega (arith, length-map {B = Option SetId} (take i before) (λ _. None), length-take i before, length-drop i before) in
    let position : Option SetId = get_or c.loop-place.positions i None in
    map_over_more (λ _. None) before c.loop-place.positions i position within c.loop-place.invariant
    (get_or_default c.loop-place.positions i None position (omega (arith, long, within)))

pub returns : goal.returns
returns c =
    let before : List (Option SetId) = c.args.positions.now in
    let all : c.loop-place.place ≡ c.args.last = omega (arith, c.loop-place-test.false, c.loop-place.auto.place-end) in
    c.loop-place.invariant ∙ ap (λ n. map (λ _. None) (take n before) ++ drop n before) all ∙ none_left c.args.last before c.requires.unnamed
    ∙ ap (λ n. replicate n None) c.told-positions
