use Rattle.std.proofs.Common.{ℕ, ap, sym, ◌∙◌, subst, ◌<◌, ◌≤◌}
use Rattle.std.specs.Prelude.{nat_le}
use Rattle.xl_closetime.specs.declared.choice.Choice.{Choice}
use Rattle.xl_closetime.proofs.MostFrequent.{none_chosen, last_is_chosen}
use Rattle.xl_closetime.proofs.choice.choice_among.Goals as goal

pub returns-then-most-needed : goal.returns-then-most-needed
returns-then-most-needed c =
    sym (none_chosen c.args.times.now c.args.pct c.most_frequent-most.result c.most_frequent-most.ensures
    (subst (λ n. c.most_frequent-most.result.count < n) c.needed.ensures c.if-most-needed.true))

pub returns : goal.returns
returns c =
    let agreed_at : ℕ → Choice = λ n. record { close = c.most_frequent-most.result.time; agreed = nat_le n c.most_frequent-most.result.count } in
    ap agreed_at c.needed-2.ensures
    ∙ sym (last_is_chosen c.args.times.now c.args.pct c.most_frequent-most.result c.most_frequent-most.ensures
    (subst (λ n. n ≤ c.most_frequent-most.result.count) c.needed.ensures c.if-most-needed.false))
