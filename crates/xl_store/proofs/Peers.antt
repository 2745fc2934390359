-- The peers of a core stay the same.
use Rattle.std.proofs.Common.{◌≡◌, List, [], ◌∷◌, sym, ap, ◌∙◌}
use Rattle.xl_core.specs.declared.event.CoreEvent.{CoreEvent}
use Rattle.xl_core.specs.Core.{Core, core_happens}
use Rattle.xl_core.specs.Node.{Save}
use Rattle.xl_core.proofs.Beside.{node_or_beside}
use Rattle.xl_core.proofs.Stepping.{stays_itself}
use Rattle.xl_turns.specs.Histories.{Runs}
use Rattle.xl_store.specs.declared.entry.Entry.{Entry}
use Rattle.xl_store.specs.Entries.{Leads, save_of}

keys_stay : (core : Core) (e : CoreEvent) (save : Save) → (core_happens core e save).core.node.keys ≡ core.node.keys
keys_stay core e save =
    node_or_beside (λ r. r.core.node.keys ≡ core.node.keys) core e save
    (λ n _. (stays_itself core.node n save).keys) (λ after a same. ap (λ n. n.keys) same)

pub peers_stay : (c d : Core) (es : List Entry) → Runs Leads c es d → d.node.keys ≡ c.node.keys
peers_stay c d [] r = ap (λ (x : Core). x.node.keys) (sym r)
peers_stay c d (e ∷ es) r =
    peers_stay r.0 d es r.2 ∙ (ap (λ (x : Core). x.node.keys) r.1.core ∙ keys_stay c e.event (save_of e.outcome))
