-- bytes within the limit are a document exactly if they are UTF-8 and parse, and its table decides the rest
use Rattle.std.proofs.Common.{rules, ◌≤◌, Some, None, length}
use Rattle.toml.specs.View.{table_view}
use Rattle.xl_settings.specs.Limits.{most_bytes}
use Rattle.xl_settings.proofs.Documents.{a_document, no_document, within, given_as}
use Rattle.xl_settings.proofs.Runnable.{runs_of}
use Rattle.xl_settings.proofs.document.read_settings.Goals as goal

pub returns-in-Ok-clause-answer : goal.returns-in-Ok-clause-answer
returns-in-Ok-clause-answer c =
    let small : length c.args.bytes.now ≤ most_bytes = search rules in
    let is = within c.args.bytes.now c.args.now (Some (table_view c.in-Ok.table)) small (a_document c.args.bytes.now
    (table_view c.in-Ok.table) c.in-Ok.ensures.ok.0 c.in-Ok.ensures.ok.1) in
    given_as _ _ c.from_table.result is c.from_table.ensures

pub returns-in-Ok-clause-runnable : goal.returns-in-Ok-clause-runnable
returns-in-Ok-clause-runnable c =
    let small : length c.args.bytes.now ≤ most_bytes = search rules in
    let is = within c.args.bytes.now c.args.now (Some (table_view c.in-Ok.table)) small (a_document c.args.bytes.now
    (table_view c.in-Ok.table) c.in-Ok.ensures.ok.0 c.in-Ok.ensures.ok.1) in
    runs_of c.args.bytes.now c.args.now c.from_table.result (given_as _ _ c.from_table.result is c.from_table.ensures)

pub returns-else-is_memory-clause-answer : goal.returns-else-is_memory-clause-answer
returns-else-is_memory-clause-answer c =
    let small : length c.args.bytes.now ≤ most_bytes = search rules in
    within c.args.bytes.now c.args.now None small (no_document c.args.bytes.now (c.in-Err.ensures.refused (search rules)))
