-- memory runs out before the head, or behind it
use Rattle.std.proofs.Common.{refl, ◌∙◌}
use Rattle.std.specs.Prelude.{⊤}
use Rattle.xl_audit.specs.Journals.{head_text_as}
use Rattle.xl_recorder.specs.Parts.{part}
use Rattle.xl_recorder.specs.declared.record_end.RecordEnd.TheVariants.{Memory}
use Rattle.xl_recorder.proofs.Written.{by_end, head_stops, head_whole, nothing, written_as}
use Rattle.xl_recorder.proofs.file_recorder.begin.Goals as goal

pub returns-in_err-head : goal.returns-in_err-head
returns-in_err-head g c =
    by_end c.from_residual.result Memory _ _ c.from_residual.ensures.1
    (nothing (part c.args.room.now (g.S.Sink.held c.args.sink.now) (g.S.Sink.faults c.args.sink.now)) ⊤ 0
    (head_text_as c.args.tagging c.args.settings c.args.now c.args.kept) Memory refl)

pub returns-in_err-lines : goal.returns-in_err-lines
returns-in_err-lines g c =
    by_end c.from_residual-in_err-lines.result Memory _ _ c.from_residual-in_err-lines.ensures.1
    (head_whole (part c.args.room.now (g.S.Sink.held c.args.sink.now) (g.S.Sink.faults c.args.sink.now)) _
    c.as_str.result.now (head_text_as c.args.tagging c.args.settings c.args.now c.args.kept)
    (c.as_str.ensures.value ∙ c.in_ok-head.ensures.text) c.in_ok-write_text.ensures)

pub returns-in_err-write_text : goal.returns-in_err-write_text
returns-in_err-write_text g c =
    head_stops c.from_residual-in_err-write_text.result c.write_text.result c.in_err-write_text.field-0.0 _
    (part c.args.room.now (g.S.Sink.held c.args.sink.now) (g.S.Sink.faults c.args.sink.now))
    (part c.write_text.new.room (g.S.Sink.held c.write_text.new.sink) (g.S.Sink.faults c.write_text.new.sink))
    c.as_str.result.now (head_text_as c.args.tagging c.args.settings c.args.now c.args.kept)
    (c.as_str.ensures.value ∙ c.in_ok-head.ensures.text)
    c.from_residual-in_err-write_text.ensures.1 c.in_err-write_text.was c.write_text.ensures

pub returns : goal.returns
returns g c = (
  c.in_ok-lines.ensures.opened,
  written_as (part c.args.room.now (g.S.Sink.held c.args.sink.now) (g.S.Sink.faults c.args.sink.now))
      (part c.write_text.new.room (g.S.Sink.held c.write_text.new.sink) (g.S.Sink.faults c.write_text.new.sink))
      0 0 c.as_str.result.now (head_text_as c.args.tagging c.args.settings c.args.now c.args.kept) refl
      (c.as_str.ensures.value ∙ c.in_ok-head.ensures.text) c.in_ok-write_text.ensures,
)
