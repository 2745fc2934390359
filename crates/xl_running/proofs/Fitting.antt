-- A line that is read is in range.
use Rattle.std.proofs.Common.{ℕ, Option, Some, None, Result, Ok, Err}
use Rattle.std.specs.Prelude.{IfOk, IfSome, OnOk}
use Rattle.xl_sched.specs.declared.event.What.{What}
use Rattle.xl_sched.specs.declared.event.What.TheVariants as what
use Rattle.xl_sched.specs.declared.line.Line.{Line}
use Rattle.xl_sched.specs.declared.line.Line.TheVariants as line
use Rattle.xl_sched.specs.declared.refusal.SchedRefusal.{SchedRefusal}
use Rattle.xl_sched.specs.Fits.{IsFit, IsFitWhat}
use Rattle.xl_sched.specs.Reading.{Reading}
use Rattle.xl_world.specs.Schedule.{IsPlausible}
use Rattle.xl_running.specs.Running.{IsInRange}

-- what fits a reading is plausible
fit_plausible : (reading : Reading) (sent : ℕ) (w : What) → IsFitWhat reading sent w → IsPlausible w
fit_plausible reading sent (what.Lie from to lie) fit = fit.1
fit_plausible reading sent (what.List node list) fit = fit.2
fit_plausible reading sent other fit = tt

-- a line that fits is in range
fit_in_range : (reading : Reading) (sent : ℕ) (l : Line) → IsFit reading sent l → IsInRange l
fit_in_range reading sent (line.Limit limit) fit = (fit.0, fit.1)
fit_in_range reading sent (line.Event event) fit = (fit.0, fit_plausible reading sent event.what fit.1)
fit_in_range reading sent other fit = tt

pub read_in_range : (reading : Reading) (sent : ℕ) (r : Result (Option Line) SchedRefusal) → IfOk r (λ read. IfSome read (IsFit reading sent)) → IfOk r (λ read. IfSome read IsInRange)
read_in_range reading sent (Ok None) fit = tt
read_in_range reading sent (Ok (Some l)) fit = fit_in_range reading sent l fit
read_in_range reading sent (Err e) fit = tt

pub put_in_range : {X : Type 0} (reading : Reading) (sent : ℕ) (r : Result X SchedRefusal) (said : Option Line) → OnOk r (IfSome said (IsFit reading sent)) → OnOk r (IfSome said IsInRange)
put_in_range reading sent (Ok x) None fit = tt
put_in_range reading sent (Ok x) (Some l) fit = fit_in_range reading sent l fit
put_in_range reading sent (Err e) said fit = tt
