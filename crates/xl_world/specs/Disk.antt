-- What outlives a stop of a node: the number in force, and after a save that failed the one that was asked, and whether
-- that was written all the same. Source: this profile, by which a stop in a save may leave either number.
use Rattle.std.specs.Prelude.{ℕ, Bool, true, false, unwrap_or, if◌then◌else◌}
use Rattle.std.specs.Prelude.{Some, None}
use Rattle.std.specs.declared.option.Option.{Option}
use Rattle.xl_io.specs.Keepers.{Held}
use Rattle.xl_base.specs.Counts.{one_more}
use Rattle.xl_core.specs.Node.{Save}
use Rattle.xl_core.specs.Issuing.Save.{Kept as AnsweredOk, Failed as AnsweredFailed}
use Rattle.xl_world.specs.declared.place.Disk.{Disk}
use Rattle.xl_world.specs.declared.place.Fate.{Fate}
use Rattle.xl_world.specs.declared.place.Fate.TheVariants.{Saved, Unwritten, Written}

-- what it may hold over a stop
abbrev pub held_by : Disk → Held
held_by k = record { in_force = k.in_force; asked = k.asked }

-- a disk that never failed, and holds this number alone
abbrev pub resting : ℕ → Disk
resting n = record { in_force = n; asked = None; written = false; faults = 0 }

-- the disk when its node is opened again with this number
abbrev pub restored : Disk → ℕ → Disk
restored k n = record k { in_force = n; asked = None; written = false }

-- how a save is answered that meets this fate
abbrev pub answer_of : Disk → Fate → Save
answer_of k Saved = AnsweredOk
answer_of k Unwritten = AnsweredFailed (one_more k.faults)
answer_of k Written = AnsweredFailed (one_more k.faults)

abbrev pub after_failed : Disk → ℕ → Bool → Disk
after_failed k s written = record k { asked = Some s; written = written; faults = one_more k.faults }

-- the disk after an event that asks this save, or none
abbrev pub after_save : Disk → Option ℕ → Fate → Disk
after_save k None fate = k
after_save k (Some s) Saved = restored k s
after_save k (Some s) Unwritten = after_failed k s false
after_save k (Some s) Written = after_failed k s true

-- whether a save that meets this fate is answered with Ok
abbrev pub answers_ok : Fate → Bool
answers_ok Saved = true
answers_ok Unwritten = false
answers_ok Written = false

-- the number that a restart finds
abbrev pub found : Disk → ℕ
found k = if k.written then unwrap_or k.asked k.in_force else k.in_force

-- the number that is left by a cut in a save of this number, new or not; in no save it is the one that a restart finds
abbrev pub left_by : Disk → Bool → Option ℕ → ℕ
left_by k new None = found k
left_by k new (Some s) = if new then s else k.in_force
