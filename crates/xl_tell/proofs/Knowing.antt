-- The header of a ledger that a node knows changes nothing of it.
use Rattle.std.proofs.Common.{◌≡◌, ℕ, ◌+◌, ◌/◌, Bool, true, false, not, length, List, [], ◌∷◌, refl, sym, ap, subst, Option, Some, None}
use Rattle.std.specs.Prelude.{◌==◌, is_some, max, nat_le, option_map}
use Rattle.std.specs.Option.{option_or}
use Rattle.xl_base.specs.Refusals.{first_of, refused_if}
use Rattle.xl_wire.specs.Heads.{raw_in}
use Rattle.xl_ledger.specs.Chains.{place_of}
use Rattle.xl_ledger.specs.Headers.{header_id}
use Rattle.xl_ledger.specs.Registries.{parent_seq}
use Rattle.xl_ledger.specs.declared.refusal.AddRefusal.{AddRefusal}
use Rattle.xl_ledger.specs.declared.refusal.AddRefusal.TheVariants.{Full, Known, Orphan, WrongSeq}
use Rattle.xl_core.specs.declared.hearing.Speech.{Speech}
use Rattle.xl_core.specs.declared.hearing.Speech.TheVariants as speech
use Rattle.xl_core.specs.declared.refusal.Refusal.{Refusal}
use Rattle.xl_core.specs.declared.refusal.Refusal.TheVariants.{Header as HeaderRefused}
use Rattle.xl_core.specs.Hearing.{hearing_refusal, said_in}
use Rattle.xl_core.specs.Node.{Node, Reply, at_moment, bytes_reply, frame_refusal, reply_unless, speech_refusal, taken_reply}
use Rattle.xl_noted.specs.Hearing.{LeavesRest}
use Rattle.xl_noted.proofs.Currents.{AreCurrent}
use Rattle.xl_noted.proofs.Hearing.{within}
use Rattle.xl_tell.specs.Before.{is_known}

not_so : false ≡ true → ⊥
not_so e = cc

-- it is refused
known_speech : (n : Node) (at from : ℕ) (what : Speech) → is_known n what ≡ true → is_some (speech_refusal (at_moment at n) from what) ≡ true
known_speech n at from (speech.Header h) known =
    let others : List (Option AddRefusal) =
    refused_if (not (is_some (place_of n.ledgers.headers h.parent))) (Orphan h.parent)
    ∷ refused_if (not (h.seq == parent_seq n.ledgers.headers h + 1)) (WrongSeq (parent_seq n.ledgers.headers h) h.seq)
    ∷ refused_if (nat_le n.ledgers.limit (length n.ledgers.headers)) (Full n.ledgers.limit)
    ∷ [] in
    ap (λ (b : Bool). is_some (option_map HeaderRefused (first_of (refused_if b (Known (header_id h)) ∷ others)))) known
known_speech n at from other known = absurd (not_so known)

or_refused : (o also : Option Refusal) → is_some also ≡ true → is_some (option_or o also) ≡ true
or_refused None also some = some
or_refused (Some why) also some = refl

refused_node : (n : Node) (o : Option Refusal) (reply : Reply) → is_some o ≡ true → (reply_unless n o reply).node ≡ n
refused_node n None reply some = absurd (not_so some)
refused_node n (Some why) reply some = refl

-- so it leaves of all what a set leaves
pub known_leaves_rest : (at : ℕ) (n : Node) (bytes : List ℕ) → AreCurrent n → max n.time at / 1000 ≡ n.time / 1000 → is_known n (said_in (raw_in bytes)).what ≡ true →
    LeavesRest (speech.TxSet []) n (bytes_reply (at_moment at n) bytes).node
known_leaves_rest at n bytes current same known =
    let said = said_in (raw_in bytes) in
    let n' : Node = at_moment at n in
    let refused : is_some (frame_refusal n' bytes) ≡ true =
    or_refused (hearing_refusal n'.keys n'.list.members bytes) (speech_refusal n' said.from said.what) (known_speech n at said.from said.what known) in
    subst (λ (later : Node). LeavesRest (speech.TxSet []) n later) (sym (refused_node n' (frame_refusal n' bytes) (taken_reply n' said.from said.what) refused))
    (refl, within at n current same, refl, refl, refl)
