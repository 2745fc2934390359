-- What comes unforged: from a liar, or it was sent.
use Rattle.std.proofs.Common.{◌≡◌, ℕ, Bool, true, false, List, [], ◌∷◌, length, arith, ap, sym, ◌∙◌, inl, inr, Option, Some, None, subst}
use Rattle.std.specs.Prelude.{◌==◌, ◌&&◌, ◌⊎◌, All, IfSome, nat_le, not}
use Rattle.std.specs.List.{list_any}
use Rattle.std.proofs.lemmas.Bool.{or_left, or_cases, eqb-true}
use Rattle.std.proofs.lemmas.List.Elements.{All-head, All-tail}
use Rattle.std.proofs.lemmas.Slice.Eq.{bytes_eq-Decides}
use Rattle.xl_lists.specs.Lists.{is_on}
use Rattle.xl_wire.specs.Heads.{split_of}
use Rattle.xl_wire.specs.Kinds.{span}
use Rattle.xl_wire.specs.Raws.{RawFrame}
use Rattle.xl_tags.specs.Opening.{is_sealed}
use Rattle.xl_core.specs.declared.hearing.Speech.TheVariants as speech
use Rattle.xl_core.specs.Hearing.{spoken_in}
use Rattle.xl_core.proofs.Heard.{IsHeard, sender}
use Rattle.xl_world.proofs.Speaking.{heard_said}
use Rattle.xl_world.specs.Sending.{Sent}
use Rattle.xl_lists.specs.declared.said.SaidLedger.{SaidLedger}
use Rattle.xl_lists.specs.Agreement.{IsGenuine}
use Rattle.xl_wire.specs.declared.validation.Validation.{Validation}
use Rattle.xl_core.specs.Node.{Node}
use Rattle.xl_io.specs.Keepers.{Held}
use Rattle.xl_io.specs.Keepers.{MayHold, may_hold, is_asked}
use Rattle.xl_base.specs.Counts.{one_more}
use Rattle.xl_world.specs.World.{World, said_by}
use Rattle.xl_world.proofs.Standing.{said_in, FrameSays}
use Rattle.xl_world.specs.Forgeries.{was_sent, forges}

-- what holds of each element holds of one that a test finds
pub from_found : {X : Type 0} (p : X → Bool) (P : X → Type 0) (R : Type 0) (xs : List X) → list_any p xs ≡ true → All P xs → ((x : X) → p x ≡ true → P x → R) → R
from_found p P R [] found each then_ = cc
from_found p P R (x ∷ xs) found each then_ =
    elim (or_cases (p x) (list_any p xs) found)
    [ inl here ↦ then_ x here (All-head P x xs each) | inr there ↦ from_found p P R xs there (All-tail P x xs each) then_ ]

-- what is not forged, though it is a sealed frame to the node, comes from a liar or was sent
unforged : (last mine liar sent right : Bool) → (last && (mine && not liar && not sent && right)) ≡ false → last ≡ true → mine ≡ true → right ≡ true → (liar ≡ true) ⊎ (sent ≡ true)
unforged last mine liar sent right h a b c = grind arith

-- what was sent says what comes
sent_says : (P : SaidLedger → Type 0) (frames : List Sent) (bytes : List ℕ) (x : SaidLedger) → All (FrameSays P) frames → was_sent frames bytes ≡ true → said_in bytes ≡ Some x → P x
sent_says P frames bytes x says sent is =
    from_found _ (FrameSays P) _ frames sent says
    (λ f same says_f.
    let equal : f.bytes ≡ bytes = (bytes_eq-Decides f.bytes bytes).0 same in
    subst (λ o. IfSome o P) (ap said_in equal ∙ is) says_f)

pub heard_unforged : (w : World) (n : Node) → All (FrameSays (IsGenuine w.liars w.said)) w.sent → (bytes : List ℕ) → forges w.liars w.sent n.keys bytes (split_of bytes) ≡ false →
    (from : ℕ) (v : Validation) → IsHeard n.keys n.list.members bytes (record { from = from; what = speech.Validation v }) → IsGenuine w.liars w.said (said_by from v)
heard_unforged w n genuine bytes fair from v spoken_in =
    let f : RawFrame = spoken_in.frame in
    elim (unforged (nat_le (length bytes) (span f.body)) (f.to == n.keys.me) (is_on w.liars f.from) (was_sent w.sent bytes) (is_sealed n.keys f)
    (ap (forges w.liars w.sent n.keys bytes) (sym spoken_in.split) ∙ fair) spoken_in.last spoken_in.for_me spoken_in.is_sealed) [
      | inl liar ↦ or_left _ _ (ap (is_on w.liars) (sender n.keys n.list.members bytes (record { from = from; what = speech.Validation v }) spoken_in) ∙ liar)
      | inr sent ↦ sent_says (IsGenuine w.liars w.said) w.sent bytes (said_by from v) genuine sent (heard_said n.keys n.list.members bytes from v spoken_in)
    ]

-- one more is not none
pub never_none : (k : ℕ) → one_more k ≡ 0 → ⊥
never_none k h = omega (arith, h)

-- a test that passes says that the disk may hold it
asked_holds : (n : ℕ) (o : Option ℕ) → is_asked o n ≡ true → o ≡ Some n
asked_holds n None h = cc
asked_holds n (Some s) h = ap (λ (k : ℕ). Some k) (eqb-true s n h)

pub may_hold-true : (k : Held) (n : ℕ) → may_hold k n ≡ true → MayHold k n
may_hold-true k n h = elim (or_cases (n == k.in_force) (is_asked k.asked n) h) [ inl e ↦ inl (eqb-true n k.in_force e) | inr e ↦ inr (asked_holds n k.asked e) ]
