-- what is opened tells what is promised
use Rattle.std.proofs.Common.{[], ap, sym, ◌∙◌}
use Rattle.std.specs.Io.KnownBytes.{append_known}
use Rattle.xl_texts.proofs.Keeping.{nothing_done, whole_so, front_so, less_so, to_end_so, further_so}
use Rattle.xl_texts.proofs.telling.tell.Goals as goal

pub returns : goal.returns
returns g c = record {
  whole = whole_so _ _ _ g.C.TextCommand.promise _ c.in-Ok.ensures.told c.drive.result c.drive.ensures.whole;
  to_end = to_end_so g.C.TextCommand.promise.reads _ c.drive.result _ c.in-Ok.ensures.reads c.drive.ensures.to_end c.drive.ensures.good;
  front = front_so _ _ _ g.C.TextCommand.promise _ c.in-Ok.ensures.told c.drive.ensures.front;
  soon = λ is bytes read.
      c.drive.ensures.soon (c.in-Ok.ensures.soon [] ∙ c.open.ensures.quiet) is bytes read
      ∙ ap (λ told. append_known (g.O.Sink.held c.args.output.now) told.text) (c.in-Ok.ensures.soon bytes);
  unended = λ is bytes read.
      ap (λ told. told.closed) (sym (c.in-Ok.ensures.soon bytes)) ∙ c.drive.ensures.unended (c.in-Ok.ensures.soon [] ∙ c.open.ensures.quiet) is bytes read;
  further = λ bytes read. further_so _ _ bytes c.in-Ok.ensures.soon (c.drive.ensures.further (c.in-Ok.ensures.soon [] ∙ c.open.ensures.quiet) bytes read);
  less = less_so _ _ _ _ g.C.TextCommand.promise _ c.in-Ok.ensures.told c.drive.result c.in-Ok.ensures.shows c.drive.ensures.less c.drive.ensures.cut;
  read = c.drive.ensures.read;
  write = c.drive.ensures.write;
  read_exact = c.drive.ensures.read_exact;
  write_exact = c.drive.ensures.write_exact;
  complete = c.drive.ensures.complete;
}

pub returns-in_default : goal.returns-in_default
returns-in_default g c = nothing_done g.C.TextCommand.promise _ c.open.ensures.quiet
