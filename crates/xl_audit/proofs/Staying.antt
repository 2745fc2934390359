-- The keys of a core stay over every event.
use Rattle.std.proofs.Common.{◌≡◌, ap, Result, Ok, Err}
use Rattle.std.specs.Prelude.{OnOk}
use Rattle.xl_core.specs.Core.{Core, core_happens}
use Rattle.xl_core.specs.Node.{Save}
use Rattle.xl_core.specs.declared.event.CoreEvent.{CoreEvent}
use Rattle.xl_core.proofs.Beside.{node_or_beside}
use Rattle.xl_core.proofs.Stepping.{stays_itself}

pub core_keys : (core : Core) (e : CoreEvent) (save : Save) → (core_happens core e save).core.node.keys ≡ core.node.keys
core_keys core e save =
    node_or_beside (λ r. r.core.node.keys ≡ core.node.keys) core e save
    (λ n _. (stays_itself core.node n save).keys) (λ after a same. ap (λ n. n.keys) same)

-- what holds anyway holds of an answer of Ok
pub whenever : {T E : Type 0} (r : Result T E) (P : Type 0) → P → OnOk r P
whenever (Ok x) P h = h
whenever (Err why) P h = tt
