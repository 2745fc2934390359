use Rattle.std.proofs.Common.{ap, replicate, None}
use Rattle.xl_publish.specs.Registers.{no_publishers}
use Rattle.xl_publish.proofs.RegisterLaws.{all_none, register_of}
use Rattle.xl_publish.proofs.publishers.Publishers.new.Goals as goal

pub returns : goal.returns
unfolding no_publishers
returns c = ap (register_of (replicate 16 None)) (all_none _ (λ there never. never) c.repeat.result c.repeat.ensures.items)
