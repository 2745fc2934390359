use Rattle.std.proofs.Common.{◌≡◌, ◌∙◌, Result, Ok, sym}
use Rattle.xl_lists.specs.Lists.{TrustedList}
use Rattle.xl_lists.specs.declared.refusal.ListRefusal.{ListRefusal}
use Rattle.xl_gen.proofs.Listed.{listed}
use Rattle.xl_gen.proofs.generator.everyone.Goals as goal

same : (a b : TrustedList) (read : Result TrustedList ListRefusal) → read ≡ Ok a → read ≡ Ok b → a ≡ b
same a b read is_a is_b = cc

pub returns : goal.returns
returns c = same c.unwrap.result _ c.new.result c.unwrap.ensures (c.new.ensures ∙ listed)
