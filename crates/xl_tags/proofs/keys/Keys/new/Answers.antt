use Rattle.std.proofs.Common.{ap, ◌∙◌}
use Rattle.xl_tags.specs.Rings.{key_of}
use Rattle.xl_tags.proofs.RingLaws.{key_of-no_keys}
use Rattle.xl_tags.proofs.SourceLaws.{none_ring, none_source}
use Rattle.xl_tags.proofs.keys.Keys.new.Goals as goal

pub invariant_of-result : goal.invariant_of-result
invariant_of-result c = none_source _ (λ key never. never) c.args.me c.repeat.result c.repeat.ensures.items

pub returns-clause-ring : goal.returns-clause-ring
returns-clause-ring c = none_ring _ (λ key never. never) c.args.me c.repeat.result c.repeat.ensures.items

pub returns-clause-none : goal.returns-clause-none
returns-clause-none c = λ member. ap (λ ring. key_of ring member) (returns-clause-ring c) ∙ key_of-no_keys c.args.me member
