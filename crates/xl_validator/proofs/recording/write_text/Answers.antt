-- by whether it has keys the text is the one that is written
use Rattle.std.proofs.lemmas.Result.{on_ok_weaker}
use Rattle.xl_validator.proofs.recording.write_text.Goals as goal

pub returns-then-with_keys-clause-whole : goal.returns-then-with_keys-clause-whole
returns-then-with_keys-clause-whole g c = rw c.if-with_keys.true c.write_journal.ensures.whole

pub returns-then-with_keys-clause-less : goal.returns-then-with_keys-clause-less
returns-then-with_keys-clause-less g c = rw c.if-with_keys.true c.write_journal.ensures.less

pub returns-then-with_keys-clause-yes : goal.returns-then-with_keys-clause-yes
returns-then-with_keys-clause-yes g c =
    rw c.if-with_keys.true (on_ok_weaker c.write_journal.result
    (λ yes _. yes c.args.recording.spoken.0 c.args.recording.spoken.1) c.write_journal.ensures.yes)

pub returns-else-with_keys-clause-whole : goal.returns-else-with_keys-clause-whole
returns-else-with_keys-clause-whole g c = rw c.if-with_keys.false c.write_untagged_journal.ensures.whole

pub returns-else-with_keys-clause-less : goal.returns-else-with_keys-clause-less
returns-else-with_keys-clause-less g c = rw c.if-with_keys.false c.write_untagged_journal.ensures.less
