use Rattle.std.proofs.Common.{List, ◌++◌, ap, sym, ◌∙◌, append-nil}
use Rattle.std.specs.Prelude.{◌==◌}
use Rattle.std.specs.List.{list_any}
use Rattle.std.specs.String.{string_bytes}
use Rattle.xl_world.specs.declared.plan.InForce.{InForce}
use Rattle.xl_replay.proofs.Absent.{no_pair}
use Rattle.xl_replay.proofs.ends.push_pair.Goals as goal

pub returns-then-not-has_list : goal.returns-then-not-has_list
returns-then-not-has_list c =
    sym (ap (λ xs. string_bytes c.args.text.now ++ xs)
    (no_pair c.args.world.now c.args.i c.args.j
    (ap (λ (lists : List InForce). list_any (λ f. f.node == c.args.j) lists) (sym c.lists-lists.ensures) ∙ (sym c.has_list.ensures ∙ c.if-not-has_list.true)))
    ∙ append-nil (string_bytes c.args.text.now))
