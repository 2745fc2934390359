use Rattle.std.proofs.Common.{◌+◌, arith}
use Rattle.xl_wire.specs.declared.lengths.TheConstants.{HEAD, VALIDATION_BODY}
use Rattle.xl_wire.proofs.BodyLaws.{length-vote_bytes}
use Rattle.xl_wire.proofs.PutLaws.{puts_then}
use Rattle.xl_wire.proofs.encoding.put_validation.Goals as goal

pub returns-clause-puts : goal.returns-clause-puts
returns-clause-puts c =
    let v = c.args.validation.now in puts_then HEAD (HEAD + VALIDATION_BODY) _ _ _ _ _ c.put_vote.ensures.puts c.put_validated.ensures.puts (omega (arith, length-vote_bytes v c.put_vote.ensures.id))
