-- The text that says how a node is. Source: this project's own formats.
use Rattle.std.specs.Prelude.{ℕ, Bool, List, ◌∷◌, [], ◌++◌, decimal, codes, Some, None, if◌then◌else◌}
use Rattle.std.specs.declared.option.Option.{Option}
use Rattle.std.specs.List.{flat_map}
use Rattle.hex.specs.Hex.{encode_lower}
use Rattle.xl_base.specs.declared.status.Status.{Status}
use Rattle.xl_base.specs.declared.status.Status.TheVariants.{Done, KeepFault, NetFault, StoreFull}
use Rattle.xl_base.specs.Statuses.{code_of}
use Rattle.xl_core.specs.declared.report.Report.{Report}
use Rattle.xl_store.specs.declared.status.NodeStatus.{NodeStatus}
use Rattle.xl_status.specs.declared.end.End.{End}
use Rattle.xl_status.specs.declared.end.Unmade.{Unmade}
use Rattle.xl_status.specs.declared.end.Unmade.TheVariants.{Link, Door}
use Rattle.xl_status.specs.declared.hearing.Hearing.{Hearing}
use Rattle.xl_status.specs.declared.look.Look.{Look}
use Rattle.xl_status.specs.declared.look.Look.TheVariants.{Taken, Unread, Refused}
use Rattle.xl_status.specs.declared.profile.Profile.{Profile}
use Rattle.xl_status.specs.Hearings.{is_heard_in, heard_at}

abbrev pub space : List ℕ
space = codes " "

abbrev pub newline : List ℕ
newline = 10 ∷ []

-- a word and a value
abbrev pub line : List ℕ → List ℕ → List ℕ
line word value = word ++ space ++ value ++ newline

abbrev pub number_line : List ℕ → ℕ → List ℕ
number_line word number = line word (decimal number)

-- whether it takes part in rounds
abbrev pub validating_line : Bool → List ℕ
validating_line validating =
    if validating then line (codes "validating") (codes "yes") else line (codes "validating") (codes "no")

-- what it is run with
unfoldable pub profile_lines : Profile → List ℕ
profile_lines p =
    number_line (codes "me") p.me
    ++ validating_line p.validating
    ++ number_line (codes "speak") p.speak
    ++ number_line (codes "turns") p.turns
    ++ number_line (codes "heartbeat_ms") p.heartbeat_ms
    ++ number_line (codes "run_ms") p.run_ms

-- whether it issues: not once the save of a sequence has failed
abbrev pub issuing_line : Option ℕ → List ℕ
issuing_line None = line (codes "issues") (codes "yes")
issuing_line (Some seq) = line (codes "issues") (codes "no " ++ decimal seq)

-- a ledger, if there is one: its sequence, and its id as 64 lower-case digits
abbrev pub ledger_line : List ℕ → Option Report → List ℕ
ledger_line word None = line word (codes "none")
ledger_line word (Some ledger) = line word (decimal ledger.seq ++ space ++ encode_lower ledger.id.0)

-- what its core tells
unfoldable pub core_lines : NodeStatus → List ℕ
core_lines s =
    number_line (codes "moment") s.time
    ++ number_line (codes "limit") s.limit
    ++ number_line (codes "ledgers") s.ledgers
    ++ number_line (codes "kept") s.kept
    ++ issuing_line s.failed_save
    ++ ledger_line (codes "report") s.last
    ++ ledger_line (codes "prefers") s.preferred
    ++ number_line (codes "lost") s.lost_reports
    ++ number_line (codes "quorum") s.list.quorum

-- a member that is silent, and when it was last heard
abbrev pub silent_line : ℕ → ℕ → List ℕ
silent_line member since = line (codes "silent") (decimal member ++ space ++ decimal since)

abbrev pub member_line : NodeStatus → Hearing → ℕ → List ℕ
member_line status hearing member =
    if is_heard_in status member then number_line (codes "heard") member else silent_line member (heard_at hearing member)

-- all members of the list, by rising number
abbrev pub member_lines : NodeStatus → Hearing → List ℕ
member_lines status hearing = flat_map (member_line status hearing) status.list.members

-- what became of the last look at a text of rolls: no line was refused, it couldn't be read, or this line was the first
-- that was refused, with this code
abbrev pub look_line : Option Look → List ℕ
look_line None = []
look_line (Some Taken) = line (codes "rolls") (codes "taken")
look_line (Some Unread) = line (codes "rolls") (codes "unread")
look_line (Some (Refused number code)) =
    line (codes "rolls") (codes "refused " ++ decimal number ++ space ++ decimal code)

-- what the hub couldn't make, by the key of the address: the link to this peer, or the door
abbrev pub unmade_name : Option Unmade → List ℕ
unmade_name None = []
unmade_name (Some (Link member)) = codes " peer " ++ decimal member
unmade_name (Some Door) = codes " submit_at"

-- what an end names: the key whose bound was reached, the file that failed, or what the hub couldn't make
abbrev pub named_by : Status → Option Unmade → List ℕ
named_by Done unmade = codes " run_ms"
named_by KeepFault unmade = codes " xl.keep"
named_by NetFault unmade = unmade_name unmade
named_by StoreFull unmade = codes " turns"
named_by other unmade = []

abbrev pub end_at : Status → Option Unmade → End
end_at status unmade = record { status = status; unmade = unmade }

-- it runs, or has ended so
abbrev pub end_line : Option End → List ℕ
end_line None = codes "runs" ++ newline
end_line (Some end) = line (codes "ended") (decimal (code_of end.status) ++ named_by end.status end.unmade)

-- all of it
abbrev pub status_text : Profile → NodeStatus → Hearing → Option Look → Option End → List ℕ
status_text profile status hearing look ended =
    line (codes "xl-status") (codes "1")
    ++ profile_lines profile
    ++ core_lines status
    ++ member_lines status hearing
    ++ look_line look
    ++ end_line ended

-- what is told of a node whose core was never opened, by the moment at which it should have been: its hub was asked nothing
abbrev pub unopened_text : Profile → ℕ → Status → List ℕ
unopened_text profile moment ended =
    line (codes "xl-status") (codes "1")
    ++ profile_lines profile
    ++ number_line (codes "moment") moment
    ++ end_line (Some (end_at ended None))
