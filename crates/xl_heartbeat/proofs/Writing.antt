-- A text is written in parts.
use Rattle.std.proofs.Common.{◌≡◌, ◌+◌, ◌<◌, ◌++◌, ◌∷◌, length, take, get_or, ℕ, List, [], sym, ap, ◌∙◌, subst, append_assoc, append-nil, length-append, arith, OnErr, Ok, Err}
use Rattle.std.specs.Prelude.{drop}
use Rattle.std.specs.declared.result.Result.{Result}
use Rattle.std.proofs.lemmas.List.{take_more, take-append-drop}
use Rattle.std.proofs.lemmas.Grind.{flat_map-append}
use Rattle.std.specs.Io.KnownBytes.{append_known}
use Rattle.xl_base.specs.Faults.{Rose}
use Rattle.xl_io.specs.Sinks.{GrewByFront, GrewByLess}
use Rattle.xl_io.proofs.Growing.{append_known-none, append_known-twice}
use Rattle.xl_core.specs.declared.report.Report.{Report}
use Rattle.xl_heartbeat.specs.Lines.{report_line, report_lines}
use Rattle.xl_heartbeat.specs.Outputs.{Output, Adds, AddsLess}

pub adds_none : (o : Output) → Adds [] o o
adds_none o = record { held = sym (append_known-none o.held); later = omega arith }

module _ (old mid new : Output) (xs ys : List ℕ) where
  -- first one text, and then another
  pub adds_both : Adds xs old mid → Adds ys mid new → Adds (xs ++ ys) old new
  adds_both a b = record {
    held = b.held ∙ ap (λ known. append_known known ys) a.held ∙ append_known-twice old.held xs ys;
    later = let p = a.later in let q = b.later in omega arith;
  }

  -- of the second text a front was written
  pub adds_then_less : Adds xs old mid → AddsLess ys mid new → AddsLess (xs ++ ys) old new
  adds_then_less a b =
      let f = b.held.0 in
      let front : GrewByFront old.held new.held (xs ++ ys) = record {
        written = xs ++ f.written;
        missing = f.missing;
        parts = ap (λ t. xs ++ t) f.parts ∙ sym (append_assoc xs f.written f.missing);
        held = f.held ∙ ap (λ known. append_known known f.written) a.held ∙ append_known-twice old.held xs f.written;
      } in
      record { held = (front, b.held.1); failed = let p = a.later in let q = b.failed in omega arith }

-- what was to follow is missing too
pub less_of_more : (old new : Output) (xs ys : List ℕ) → AddsLess xs old new → AddsLess (xs ++ ys) old new
less_of_more old new xs ys b =
    let f = b.held.0 in
    let front : GrewByFront old.held new.held (xs ++ ys) = record {
      written = f.written;
      missing = f.missing ++ ys;
      parts = ap (λ t. t ++ ys) f.parts ∙ append_assoc f.written f.missing ys;
      held = f.held;
    } in
    let some = b.held.1 in
    record { held = (front, omega (arith, some, length-append f.missing ys)); failed = b.failed }

-- a write of all bytes failed
pub less_on_err : {T E : Type 0} (result : Result T E) (text : List ℕ) (old new : Output)
    → OnErr result (GrewByLess old.held new.held text) → OnErr result (Rose old.faults new.faults)
    → OnErr result (AddsLess text old new)
less_on_err (Ok done) text old new less rose = tt
less_on_err (Err e) text old new less rose = record { held = less; failed = rose }

-- one report more
module _ (reports : List Report) (i : ℕ) (report : Report) (before : i < length reports) where
  abbrev up_to : List ℕ
  up_to = report_lines (take i reports) ++ report_line (get_or reports i report)

  lines_up_to : up_to ≡ report_lines (take (i + 1) reports)
  lines_up_to = sym (ap report_lines (take_more reports i report before)
      ∙ flat_map-append report_line (take i reports) (get_or reports i report ∷ [])
      ∙ ap (λ t. report_lines (take i reports) ++ t) (append-nil (report_line (get_or reports i report))))

  lines_all : up_to ++ report_lines (drop (i + 1) reports) ≡ report_lines reports
  lines_all = ap (λ t. t ++ report_lines (drop (i + 1) reports)) lines_up_to
      ∙ sym (flat_map-append report_line (take (i + 1) reports) (drop (i + 1) reports))
      ∙ ap report_lines (take-append-drop (i + 1) reports)

  pub less_at : (old mid new : Output) → Adds (report_lines (take i reports)) old mid
      → AddsLess (report_line (get_or reports i report)) mid new → AddsLess (report_lines reports) old new
  less_at old mid new a b =
      subst (λ t. AddsLess t old new) lines_all
      (less_of_more old new up_to (report_lines (drop (i + 1) reports))
      (adds_then_less old mid new (report_lines (take i reports)) (report_line (get_or reports i report)) a b))
