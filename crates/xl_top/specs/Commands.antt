-- What the program does for the words of its command line. Source: this project's own.
use Rattle.std.specs.Prelude.{◌≡◌, ℕ, min, List, Option, Some, None, Result, Ok, Err, option_and_then}
use Rattle.xl_base.specs.declared.status.Status.{Status}
use Rattle.xl_base.specs.declared.status.Status.TheVariants.{Done, Fork, InputRefused, ReadFault, WriteFault, OutOfMemory}
use Rattle.xl_gen.specs.Sizes.{most_rounds}
use Rattle.xl_gen.specs.Summaries.{summary}
use Rattle.xl_lines.specs.declared.fault.Fault.{Fault}
use Rattle.xl_lines.specs.declared.fault.Fault.TheVariants.{Read, Write, Memory}
use Rattle.xl_lines.specs.declared.machine.Verdict.{Verdict}
use Rattle.xl_lines.specs.declared.machine.Verdict.TheVariants.{Good, Found, Refused}
use Rattle.xl_lines.specs.Rules.{closes}
use Rattle.xl_texts.specs.Promises.{Promise, Reads, on, to_what_is_found, nothing, alone, at_once}
use Rattle.xl_audit.specs.Audits.{audit_promise}
use Rattle.xl_blame.specs.Blaming.{blame_promise}
use Rattle.xl_merge.specs.Merging.{merge_promise}
use Rattle.xl_pairs.specs.Comparing.{lists_promise}
use Rattle.xl_replay.specs.Replays.{report_promise}
use Rattle.xl_show.specs.Promises.{show_promise}
use Rattle.xl_tell.specs.Tellings.{telling_promise}
use Rattle.xl_voting.specs.Promises.{flags_promise}
use Rattle.xl_negative.specs.Promises.{negative_promise}
use Rattle.xl_words.specs.declared.command.Command.{Command}
use Rattle.xl_words.specs.declared.command.Command.TheVariants.{Node, Tell}
use Rattle.xl_words.specs.declared.command.Telling.{Telling}
use Rattle.xl_words.specs.declared.command.Telling.TheVariants.{Replay, Events, Show, Lists, Merge, Audit, Blame, Flags, Negative, Gen, Help, Version}
use Rattle.xl_words.specs.Commands.{command_of}
use Rattle.xl_words.specs.Help.{help_text, version_text}

-- what the words ask, of which the first is the program's name
abbrev pub asked_of : List (List ℕ) → Option Command
asked_of words = command_of words

-- the text that a command writes, if it is one
abbrev pub telling_in : Command → Option Telling
telling_in Node = None
telling_in (Tell telling) = Some telling

-- the text that the words ask for
abbrev pub told_of : List (List ℕ) → Option Telling
told_of words = option_and_then telling_in (asked_of words)

-- What each command promises. A line of `lists` may change what all earlier ones say, so nothing of it is written before
-- all is known; the words ask for no more rounds than the most
abbrev pub promise_by : Telling → Promise
promise_by Replay = report_promise
promise_by Events = telling_promise
promise_by Show = show_promise
promise_by Lists = at_once lists_promise
promise_by Merge = merge_promise
promise_by Audit = audit_promise
promise_by Blame = blame_promise
promise_by Flags = flags_promise
promise_by Negative = negative_promise
promise_by (Gen rounds) = alone (summary (min rounds most_rounds))
promise_by Help = alone (closes help_text Good)
promise_by Version = alone (closes version_text Good)

-- with this status, whether the input was read to its end
abbrev pub ReadsTo : Reads → Status → Type 0
ReadsTo on status = Unit {0}
ReadsTo to_what_is_found status = status ≡ Done
ReadsTo nothing status = ⊥

-- the status of a run by how it ended
abbrev pub status_after : Result Verdict Fault → Status
status_after (Ok Good) = Done
status_after (Ok Found) = Fork
status_after (Ok Refused) = InputRefused
status_after (Err Read) = ReadFault
status_after (Err Write) = WriteFault
status_after (Err Memory) = OutOfMemory
