use Rattle.std.proofs.Common.{ap, sym, ◌∙◌, subst}
use Rattle.std.specs.Prelude.{unwrap_or}
use Rattle.xl_given.specs.Kept.{IsFirstKept}
use Rattle.xl_given.proofs.Entering.{first_kept}
use Rattle.xl_given.proofs.by_entry.keep_first.Goals as goal

pub returns : goal.returns
returns c =
    subst (λ g. IsFirstKept c.args.found.now c.insert.new.self c.args.journal c.args.entry g) (sym c.in-Some.is)
    (first_kept c.args.found.now c.insert.new.self c.args.journal c.args.entry c.in-Some.giver c.unwrap_or-first.result
    (c.unwrap_or-first.ensures ∙ ap (λ o. unwrap_or o c.in-Some.giver) (c.copied.ensures ∙ c.get.ensures.value))
    c.in_ok-insert.ensures.updates)
