-- a line that isn't written whole
use Rattle.std.proofs.Common.{◌≡◌, ◌∙◌, inr, refl, arith}
use Rattle.std.specs.String.{string_bytes}
use Rattle.xl_audit.specs.Lines.{MayStand, line_at}
use Rattle.xl_audit.proofs.Growing.{some_so}
use Rattle.xl_recorder.specs.Parts.{part}
use Rattle.xl_recorder.specs.declared.record_end.RecordEnd.TheVariants.{Apart, Full, Memory}
use Rattle.xl_recorder.proofs.Written.{by_end, line_stops, none_stands, nothing}
use Rattle.xl_recorder.proofs.file_recorder.write_line.Goals as goal

pub returns-then-room-ge-MOST_ENTRIES-clause-written : goal.returns-then-room-ge-MOST_ENTRIES-clause-written
returns-then-room-ge-MOST_ENTRIES-clause-written g c =
    nothing (part c.args.room.now (g.S.Sink.held c.args.sink.now) (g.S.Sink.faults c.args.sink.now))
    (MayStand c.args.lines.now.core c.args.entry.now) 1 (line_at c.args.lines.now c.args.entry.now) Full
    (refl, inr (omega (arith, c.if-room-ge-MOST_ENTRIES.true)))

pub returns-in_err-text-clause-written : goal.returns-in_err-text-clause-written
returns-in_err-text-clause-written g c =
    by_end c.from_residual.result Memory _ _ c.from_residual.ensures.1
    (nothing (part c.args.room.now (g.S.Sink.held c.args.sink.now) (g.S.Sink.faults c.args.sink.now))
    (MayStand c.args.lines.now.core c.args.entry.now) 1 (line_at c.args.lines.now c.args.entry.now) Memory refl)

pub returns-in_default-clause-written : goal.returns-in_default-clause-written
returns-in_default-clause-written g c =
    nothing (part c.args.room.now (g.S.Sink.held c.args.sink.now) (g.S.Sink.faults c.args.sink.now))
    (MayStand c.args.lines.now.core c.args.entry.now) 1 (line_at c.args.lines.now c.args.entry.now) Apart
    (refl, none_stands c.in_ok-text.field-0 (MayStand c.args.lines.now.core c.args.entry.now) c.in_default.is c.in_ok-text.ensures.some)

pub returns-in_err-write_text-clause-written : goal.returns-in_err-write_text-clause-written
returns-in_err-write_text-clause-written g c =
    line_stops c.from_residual-in_err-write_text.result c.write_text.result c.in_err-write_text.field-0.0
    (part c.args.room.now (g.S.Sink.held c.args.sink.now) (g.S.Sink.faults c.args.sink.now))
    (part c.write_text.new.room (g.S.Sink.held c.write_text.new.sink) (g.S.Sink.faults c.write_text.new.sink))
    (MayStand c.args.lines.now.core c.args.entry.now) c.as_str.result.now (line_at c.args.lines.now c.args.entry.now)
    (c.as_str.ensures.value
    ∙ some_so c.in_ok-text.field-0 c.in-Some.text (λ text. string_bytes text ≡ line_at c.args.lines.now c.args.entry.now)
    c.in-Some.is c.in_ok-text.ensures.text)
    c.from_residual-in_err-write_text.ensures.1 c.in_err-write_text.was c.write_text.ensures
