-- What the code finds of bytes that come.
use Rattle.std.proofs.Common.{◌≡◌, ℕ, List, Bool, true, false, refl, arith}
use Rattle.std.specs.Prelude.{◌==◌, ◌&&◌, not}
use Rattle.xl_lists.specs.Lists.{is_on}
use Rattle.xl_wire.specs.Raws.{RawFrame, SpellsRaw}
use Rattle.xl_tags.specs.Opening.{is_sealed}
use Rattle.xl_tags.specs.Rings.{Ring}
use Rattle.xl_tags.proofs.OpeningLaws.{sealed_exactly}
use Rattle.xl_core.specs.Hearing.{bytes_as_sealed}
use Rattle.xl_core.proofs.Heard.{sealed_already}
use Rattle.xl_world.specs.Forgeries.{is_made_up, was_sent}
use Rattle.xl_world.specs.Sending.{Sent}

pub passes : (b x : Bool) → b ≡ true → x ≡ (b && x)
passes true x e = refl
passes false x e = cc

-- what is made up carries the right tag
right_of : (mine liar sent right : Bool) → (mine && not liar && not sent && right) ≡ true → right ≡ true
right_of mine liar sent right all = grind arith

pub made_up_sealed : (liars : List ℕ) (sent : List Sent) (keys : Ring) (bytes : List ℕ) (f : RawFrame) → SpellsRaw f bytes → is_made_up liars sent keys bytes f ≡ true → bytes_as_sealed keys bytes ≡ bytes
made_up_sealed liars sent keys bytes f s made =
    sealed_already keys bytes f s ((sealed_exactly keys f (is_sealed keys f) refl).0 (right_of (f.to == keys.me) (is_on liars f.from) (was_sent sent bytes) (is_sealed keys f) made))
