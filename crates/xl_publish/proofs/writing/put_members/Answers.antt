use Rattle.xl_publish.proofs.PutLaws.{puts_member}
use Rattle.xl_publish.proofs.writing.put_members.Goals as goal

pub loop-place-preserved : goal.loop-place-preserved
loop-place-preserved c = puts_member c.args.members.now c.loop-place.place _ _ _ c.loop-place-test.true c.loop-place.invariant c.put_u32.ensures.puts
