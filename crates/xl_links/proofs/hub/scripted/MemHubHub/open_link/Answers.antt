use Rattle.std.proofs.Common.{◌≡◌, List, true, false, ap, sym, ◌∙◌, rules}
use Rattle.xl_links.specs.declared.hub.Spare.{Spare}
use Rattle.xl_links.specs.Hubs.{first_for, next_link_fails}
use Rattle.xl_links.proofs.Firsts.{first_for-without_first}
use Rattle.xl_links.proofs.hub.scripted.MemHubHub.open_link.Goals as goal

true_false : true ≡ false → ⊥
true_false e = cc

pub returns-in-Some-clause-others : goal.returns-in-Some-clause-others
returns-in-Some-clause-others g c other differs =
    ap (λ (spares : List (Spare g.row.L.Denot)). first_for spares other) c.take_for.ensures.others
    ∙ first_for-without_first c.args.self.now.spares.items c.args.member other differs

pub returns-then-contains-clause-none : goal.returns-then-contains-clause-none
returns-then-contains-clause-none g c kept =
    let fails : next_link_fails c.args.self.now ≡ true = search rules in absurd (true_false (sym fails ∙ kept))
