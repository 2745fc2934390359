-- Each turn adds the ledger of its place, and those behind it are left.
use Rattle.std.proofs.Common.{ℕ, List, ◌++◌, arith, length}
use Rattle.std.specs.String.{string_bytes}
use Rattle.xl_held.specs.Lines.{ledger_line, ledger_lines}
use Rattle.xl_held.proofs.Counting.{all_written, one_written}
use Rattle.xl_held.proofs.ledgers.push_ledgers.Goals as goal

pub loop-place-preserved : goal.loop-place-preserved
loop-place-preserved c =
    let ledgers = c.args.registry.now.headers in
    let f : ℕ → List ℕ = λ place. ledger_line c.args.reader.now.names c.args.number ledgers place in
    let whole : List ℕ = string_bytes c.args.text.now ++ ledger_lines c.args.reader.now.names c.args.number ledgers c.args.first in
    one_written f c.loop-place.place (length ledgers) (string_bytes c.loop-place.text) (string_bytes c.push_ledger.new.text) whole
    (omega (arith, c.loop-place-test.true, c.len-place-end.ensures.value)) c.loop-place.invariant c.in_ok-push_ledger.ensures

pub returns : goal.returns
returns c =
    let ledgers = c.args.registry.now.headers in
    let f : ℕ → List ℕ = λ place. ledger_line c.args.reader.now.names c.args.number ledgers place in
    let whole : List ℕ = string_bytes c.args.text.now ++ ledger_lines c.args.reader.now.names c.args.number ledgers c.args.first in
    all_written f c.loop-place.place (length ledgers) (string_bytes c.loop-place.text) whole
    (omega (arith, c.loop-place-test.false, c.len-place-end.ensures.value)) c.loop-place.invariant
