-- A member that keeps the rules is never named.
use Rattle.xl_world.proofs.Rising as rising
use Rattle.xl_evidence.specs.Innocence.{LivesSayOnce, NoneIsNamed}

pub lives_say_once : LivesSayOnce
lives_say_once = rising.lives_say_once

pub none_is_named : NoneIsNamed
none_is_named m lives here there never by_here by_there s a b first second =
    lives_say_once lives never m s a b (by_here s a first) (by_there s b second)
