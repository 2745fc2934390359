use Rattle.std.proofs.Common.{find, ap, sym, ◌∙◌}
use Rattle.std.specs.Option.{option_copied}
use Rattle.std.specs.Str.{bytes_eq}
use Rattle.xl_sched.proofs.NameLemmas.{found_here, found_nowhere}
use Rattle.xl_sched.proofs.names.Names.named.Goals as goal

pub returns-in_err-place-clause-value : goal.returns-in_err-place-clause-value
returns-in_err-place-clause-value c =
    let names = c.self.inside.declared.items in
    let name = c.args.name.now in
    ap option_copied c.from_residual.ensures
    ∙ sym (found_nowhere (λ n. bytes_eq name n.name) names (sym (c.of_name.ensures ∙ c.self.invariant.0.by_name name) ∙ c.in_err-place.was))
    ∙ ap (λ ns. find (λ n. bytes_eq name n.name) ns) c.self.view_is

pub returns-clause-value : goal.returns-clause-value
returns-clause-value c =
    let names = c.self.inside.declared.items in
    let name = c.args.name.now in
    sym (found_here (λ n. bytes_eq name n.name) names c.in_ok-place.place c.index.result.now (sym (c.of_name.ensures ∙ c.self.invariant.0.by_name name) ∙ c.in_ok-place.was) c.index.ensures)
    ∙ ap (λ ns. find (λ n. bytes_eq name n.name) ns) c.self.view_is
