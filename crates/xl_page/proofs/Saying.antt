-- A text that was said alone is written whole, whatever an input would have shown.
use Rattle.std.proofs.Common.{ℕ, List, [], Option, Some, Result}
use Rattle.std.specs.Prelude.{IfOk}
use Rattle.xl_lines.specs.declared.fault.Fault.{Fault}
use Rattle.xl_lines.specs.declared.machine.Verdict.{Verdict}
use Rattle.xl_lines.specs.Rules.{Told}
use Rattle.xl_lines.specs.Running.{TellsAll}
use Rattle.xl_texts.specs.Keeps.{SaysAlone}

pub said_whole : {told : Told} {held : Option (List ℕ)} {writes : ℕ} {held' : Option (List ℕ)} {writes' : ℕ}
    {end : Result Verdict Fault} → SaysAlone told held writes held' writes' end
    → IfOk end (λ verdict. TellsAll held held' verdict told)
said_whole said = (said (Some []) 0).whole
