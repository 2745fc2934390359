use Rattle.std.proofs.Common.{sym, subst, arith, ◌+◌, ◌≤◌, length}
use Rattle.xl_base.specs.Putting.{Puts}
use Rattle.xl_wire.specs.Bodies.{validated_bytes}
use Rattle.xl_wire.specs.Writing.{validated_length}
use Rattle.xl_wire.proofs.PutLaws.{puts_none}
use Rattle.xl_wire.proofs.encoding.put_validated.Goals as goal

pub returns-in_default-clause-puts : goal.returns-in_default-clause-puts
returns-in_default-clause-puts c =
    let room = c.args.room.now in
    subst (λ o. Puts 55 (validated_bytes o) room room) (sym c.in_default.is)
    (puts_none 55 room (omega (arith, subst (λ o. 55 + validated_length o ≤ length room) c.in_default.is c.requires)))
