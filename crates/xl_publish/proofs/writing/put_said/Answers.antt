use Rattle.xl_publish.proofs.PutLaws.{puts_said}
use Rattle.xl_publish.proofs.writing.put_said.Goals as goal

pub returns-clause-puts : goal.returns-clause-puts
returns-clause-puts c =
    puts_said c.args.roll.now c.as_slice-members.result.now _ _ _ _ _ _ _ _ c.as_slice-members.ensures.value c.put.ensures c.put_u32.ensures.puts c.put_u32-2.ensures.puts c.put_u32-3.ensures.puts c.put_u32-4.ensures.puts c.put_u16.ensures.puts c.put_members.ensures
