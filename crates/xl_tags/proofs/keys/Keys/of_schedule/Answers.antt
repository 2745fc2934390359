use Rattle.std.proofs.Common.{refl, true}
use Rattle.xl_tags.specs.Sources.{ring_from}
use Rattle.xl_tags.proofs.RingLaws.{schedule_covers}
use Rattle.xl_tags.proofs.SourceLaws.{none_source, made_ring, made_keys}
use Rattle.xl_tags.proofs.keys.Keys.of_schedule.Goals as goal

pub invariant_of-result : goal.invariant_of-result
invariant_of-result c = none_source _ (λ key never. never) c.args.me c.repeat.result c.repeat.ensures.items

pub returns-clause-ring : goal.returns-clause-ring
returns-clause-ring c = made_ring _ (λ key never. never) c.args.me c.repeat.result c.repeat.ensures.items

pub returns-clause-keys : goal.returns-clause-keys
returns-clause-keys c = made_keys _ (λ key never. never) c.args.me c.repeat.result c.repeat.ensures.items

pub returns-clause-listed : goal.returns-clause-listed
returns-clause-listed c = λ list valid. schedule_covers c.args.me (ring_from c.args.me true c.repeat.result) list refl (returns-clause-keys c) valid
