-- nothing is written of a text that has no room, and a front of one whose write fails
use Rattle.std.proofs.Common.{ℕ, List, inl, refl, arith, subst}
use Rattle.std.specs.Prelude.{⊤}
use Rattle.xl_io.specs.Sinks.{GrewByFront}
use Rattle.xl_recorder.specs.Parts.{part}
use Rattle.xl_recorder.specs.declared.record_end.RecordEnd.TheVariants.{Full, Write}
use Rattle.xl_recorder.proofs.Written.{by_end, failed, nothing}
use Rattle.xl_recorder.proofs.room.write_text.Goals as goal

pub returns-then-bytes-room : goal.returns-then-bytes-room
returns-then-bytes-room g c =
    nothing (part c.args.room.now (g.S.Sink.held c.args.sink.now) (g.S.Sink.faults c.args.sink.now)) ⊤ 0 c.args.text.now Full
    (refl, inl c.if-bytes-room.true)

pub returns-in_err-write_all : goal.returns-in_err-write_all
returns-in_err-write_all g c =
    by_end c.from_residual.result Write _ _ c.from_residual.ensures.1
    (failed (part c.args.room.now (g.S.Sink.held c.args.sink.now) (g.S.Sink.faults c.args.sink.now))
    (part c.args.room.now (g.S.Sink.held c.write_all.new.sink) (g.S.Sink.faults c.write_all.new.sink)) ⊤ 0 c.args.text.now
    (omega (arith, c.if-bytes-room.false))
    (subst (λ (xs : List ℕ). GrewByFront (g.S.Sink.held c.args.sink.now) (g.S.Sink.held c.write_all.new.sink) xs)
    c.as_bytes.ensures.value c.write_all.ensures.front) c.in_err-write_all.ensures.failed)
