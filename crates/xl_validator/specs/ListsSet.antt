-- No list of a node's publishers is refused at its core, at whatever moment it is set. Source: this project's own: each
-- member of a kept roll, except the node itself, is a peer, and of a roll that is taken later too.
use Rattle.std.specs.Prelude.{◌≡◌, ℕ, List, None, Some, IfSome, slice_get}
use Rattle.std.specs.declared.option.Option.{Option}
use Rattle.xl_lists.specs.Lists.{TrustedList}
use Rattle.xl_publish.specs.declared.publishing.Publishing.{Publishing}
use Rattle.xl_core.specs.declared.refusal.Refusal.{Refusal}
use Rattle.xl_core.specs.Core.{Core}
use Rattle.xl_core.specs.Node.{key_refusal}
use Rattle.xl_store.specs.declared.entry.Entry.{Entry}
use Rattle.xl_store.specs.Calls.{calls_of}
use Rattle.xl_heartbeat.specs.declared.rolls_text.RollsText.{RollsText}
use Rattle.xl_heartbeat.specs.Looks.{IsLed}
use Rattle.xl_heartbeat.specs.Relisting.{made_at, relist}

-- the core has a key for each member, other than itself, of each list that the publishers ever make
abbrev pub IsEverKeyed : Option Publishing → Core → Type 0
IsEverKeyed publishing core = (now : ℕ) → IfSome (made_at publishing now) (λ list. key_refusal core.node list ≡ None)

-- whichever rolls they come to have
abbrev pub AreEverKeyed : Option RollsText → Option Publishing → Core → Type 0
AreEverKeyed rolls first core = (led : Option Publishing) → IsLed rolls first led → IsEverKeyed led core

-- wherever a history asks for the list that the publishers make at a moment, by whichever rolls, it isn't refused
abbrev pub AreSet : Option RollsText → Option Publishing → Core → List Entry → Type 0
AreSet rolls first start history = (led : Option Publishing) (place now : ℕ) (list : TrustedList)
    (refusal : Option Refusal)
    → IsLed rolls first led
    → made_at led now ≡ Some list
    → slice_get (calls_of start history) place ≡ Some (relist now list refusal)
    → refusal ≡ None
