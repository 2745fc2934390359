-- emptied places are told by their bits, which stay, and our own gets the empty set again
use Rattle.std.proofs.Common.{◌≡◌, List, [], ◌++◌, length, map, take, drop, set, ap, refl, ◌∙◌, arith}
use Rattle.std.proofs.lemmas.List.{length-map}
use Rattle.xl_disputes.specs.Holdings.{Holding, no_holding, no_holdings}
use Rattle.xl_disputes.proofs.Changing.{first_shared}
use Rattle.xl_disputes.proofs.Resetting.{in_place, first_again}
use Rattle.xl_disputes.proofs.shares.Shares.reset.Goals as goal
use Rattle.xl_disputes.proofs.shares.Shares.reset.Goals.{After-fill}

-- the places after all were emptied
abbrev emptied : (c : After-fill) → List Holding
emptied c = take c.self.inside.places.len (c.reset_all.new.places ++ drop (length c.reset_all.new.places) c.self.inside.places.items)

is_first : (c : After-fill) → set (emptied c) 0 c.fill.new.self ≡ no_holdings
is_first c =
    let places : List Holding = c.self.inside.places.items in
    let all : c.reset_all.new.places ≡ map (λ (h : Holding). no_holding h.bit) places = c.reset_all.ensures ∙ ap (map (λ (h : Holding). no_holding h.bit)) c.deref_mut.ensures.value in
    first_again places (emptied c) c.index_mut.result.now c.fill.new.self [] (ap (map (λ (h : Holding). h.bit)) c.self.view_is ∙ c.requires)
    (in_place c.reset_all.new.places (drop (length c.reset_all.new.places) places) c.self.inside.places.len
    (ap length all ∙ length-map places (λ (h : Holding). no_holding h.bit) ∙ omega (arith, c.self.inside.places.ok.0)) ∙ all)
    c.index_mut.ensures.value refl c.fill.ensures

pub invariant_of-self : goal.invariant_of-self
invariant_of-self c =
    let done = (goal.at.invariant_of-self c).After-fill in
    first_shared (set (emptied done) 0 c.fill.new.self) c.clear.new.self (is_first done) c.clear.ensures

pub returns : goal.returns
returns c = is_first (goal.at.returns c).After-fill
