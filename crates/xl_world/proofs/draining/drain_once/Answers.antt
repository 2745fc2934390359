use Rattle.std.proofs.Common.{ap, arith, subst, sym}
use Rattle.std.specs.Prelude.{IsSome}
use Rattle.xl_tags.specs.Rings.{Ring, key_of}
use Rattle.xl_wire.specs.Lengths.{longest_frame}
use Rattle.xl_core.specs.Answers.{given_in}
use Rattle.xl_core.specs.Core.{CoreReply, all_frames}
use Rattle.xl_core.specs.Queues.{count_fitting}
use Rattle.xl_world.proofs.Doing.{peer_of}
use Rattle.xl_world.proofs.Drains.{none_in_front}
use Rattle.xl_world.proofs.draining.drain_once.Goals as goal

pub drain_blank-count-requires-clause-peer : goal.drain_blank-count-requires-clause-peer
drain_blank-count-requires-clause-peer c = subst (λ (ring : Ring). IsSome (key_of ring c.args.to)) (sym c.requires.keys) (peer_of c.args.core.now.node.me c.args.to (omega arith) (omega arith) c.requires.other)

pub returns-then-count-eq0-clause-none : goal.returns-then-count-eq0-clause-none
returns-then-count-eq0-clause-none c = λ _.
    none_in_front (count_fitting (all_frames c.args.core.now c.args.to) longest_frame) (all_frames c.args.core.now c.args.to) (c.drain_blank-count.ensures.nothing.0 c.if-count-eq0.true)

pub returns-then-is_idle-clause-core : goal.returns-then-is_idle-clause-core
returns-then-is_idle-clause-core c = sym (ap (λ (r : CoreReply). r.core) (c.is_idle.ensures.idle c.if-is_idle.true longest_frame))

pub returns-then-is_idle-clause-none : goal.returns-then-is_idle-clause-none
returns-then-is_idle-clause-none c = λ _. ap (λ (r : CoreReply). given_in r.answer) (c.is_idle.ensures.idle c.if-is_idle.true longest_frame)
