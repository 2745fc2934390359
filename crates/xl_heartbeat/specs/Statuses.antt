-- The exit status of a run whose workers have run: the first cause that its parts met. Source: this project's own.
use Rattle.std.specs.Prelude.{List, [], ◌∷◌, ◌++◌}
use Rattle.xl_base.specs.declared.status.Status.{Status}
use Rattle.xl_base.specs.declared.status.Status.TheVariants as status
use Rattle.xl_heartbeat.specs.declared.ends.Ending.{Ending}
use Rattle.xl_heartbeat.specs.declared.ends.Ending.TheVariants as ending
use Rattle.xl_heartbeat.specs.declared.ends.Stopping.{Stopping}
use Rattle.xl_heartbeat.specs.declared.ends.Stopping.TheVariants as stopping
use Rattle.xl_heartbeat.specs.declared.ends.BeatEnd.{BeatEnd}

-- what the beats met, or the last reports
abbrev pub met_by : Ending → List Status
met_by ending.Done = []
met_by ending.WriteFault = status.WriteFault ∷ []
met_by ending.OutOfMemory = status.OutOfMemory ∷ []
met_by (ending.StoreFull n) = status.StoreFull ∷ []

-- what the stop met
abbrev pub met_at_stop : Stopping → List Status
met_at_stop stopping.Done = []
met_at_stop (stopping.StoreFull n) = status.StoreFull ∷ []

-- a write's fault in the last reports comes before all
abbrev pub met_first : Ending → List Status
met_first ending.WriteFault = status.WriteFault ∷ []
met_first other = []

-- and then come the beats, the stop and the last reports
abbrev pub causes_of : Ending → Stopping → Ending → List Status
causes_of run stop last = met_first last ++ met_by run ++ met_at_stop stop ++ met_by last

-- the first cause, or none
abbrev pub first_of : List Status → Status
first_of [] = status.Done
first_of (cause ∷ causes) = cause

abbrev pub status_of_run : BeatEnd → Ending → Status
status_of_run beats last = first_of (causes_of beats.run beats.stop last)
