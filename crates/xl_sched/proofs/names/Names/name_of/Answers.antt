-- the place found for an id is the first that bears it, so the name there is the one that a search gives
use Rattle.std.proofs.Common.{ap, sym, ◌∙◌, Some}
use Rattle.std.specs.Option.{option_copied}
use Rattle.std.specs.Str.{bytes_eq}
use Rattle.xl_sched.specs.Names.{name_of}
use Rattle.xl_sched.proofs.NameLemmas.{found, not_found}
use Rattle.xl_sched.proofs.names.Names.name_of.Goals as goal

pub returns-in_err-place : goal.returns-in_err-place
returns-in_err-place c =
    let names = c.self.inside.declared.items in
    let id = c.args.id.now in
    ap option_copied c.from_residual.ensures
    ∙ sym (not_found (λ n. n.name) (λ n. bytes_eq id n.id) names (sym (c.of_id.ensures ∙ c.self.invariant.0.by_id id) ∙ c.in_err-place.was))
    ∙ ap (λ ns. name_of ns id) c.self.view_is

pub returns : goal.returns
returns c =
    let names = c.self.inside.declared.items in
    let id = c.args.id.now in
    ap (λ bytes. Some bytes) c.as_slice.ensures
    ∙ sym (found (λ n. n.name) (λ n. bytes_eq id n.id) names c.in_ok-place.place c.index.result.now (sym (c.of_id.ensures ∙ c.self.invariant.0.by_id id) ∙ c.in_ok-place.was) c.index.ensures)
    ∙ ap (λ ns. name_of ns id) c.self.view_is
