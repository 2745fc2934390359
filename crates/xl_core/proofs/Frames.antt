-- What came of bytes: they are refused, or what they say is taken.
use Rattle.std.proofs.Common.{◌≡◌, ℕ, List, refl, ap, sym, ◌∙◌, Option, Some, None, Result, Ok, Err}
use Rattle.std.specs.Option.{option_or}
use Rattle.xl_base.specs.Refusals.{unless_refused}
use Rattle.xl_wire.specs.declared.body.Body.{Body}
use Rattle.xl_wire.specs.Heads.{raw_in}
use Rattle.xl_wire.specs.Raws.{RawFrame}
use Rattle.xl_core.specs.declared.hearing.Spoken.{Spoken}
use Rattle.xl_core.specs.declared.hearing.Speech.{Speech}
use Rattle.xl_core.specs.declared.refusal.Refusal.{Refusal}
use Rattle.xl_core.specs.Hearing.{hearing_refusal, said_in, speech_of, spoken_in, Carries}
use Rattle.xl_core.specs.Node.{Node, Reply, refusing_reply, reply_unless, speech_refusal, taken_reply, speech_reply, frame_refusal, bytes_reply}
use Rattle.xl_core.proofs.Heard.{heard_where, heard_by, carried}

-- what holds of each refusal, and of what is taken of what is heard, holds of what came of bytes
pub hearing_either : (P : Reply → Type 0) (n : Node) (bytes : List ℕ) → ((why : Refusal) → P (refusing_reply n why)) →
    ((said : Spoken) → spoken_in n.keys n.list.members bytes ≡ Ok said → P (taken_reply n said.from said.what)) → P (bytes_reply n bytes)
hearing_either P n bytes refuses takes =
    let said : Spoken = said_in (raw_in bytes) in
    by (hearing_refusal n.keys n.list.members bytes) refl (speech_refusal n said.from said.what)
  where
    by : (o : Option Refusal) → hearing_refusal n.keys n.list.members bytes ≡ o → (p : Option Refusal) →
        P (reply_unless n (option_or o p) (taken_reply n (said_in (raw_in bytes)).from (said_in (raw_in bytes)).what))
    by (Some why) is p = refuses why
    by None is (Some why) = refuses why
    by None is None = takes (said_in (raw_in bytes)) (heard_where n.keys n.list.members bytes is)

-- NOTHING IS HEARD

abbrev refused : Refusal → Result Spoken Refusal
refused why = Err why

same_cause : (a b : Refusal) → refused a ≡ refused b → a ≡ b
same_cause a b e = cc

pub nothing_heard : (n : Node) (bytes : List ℕ) (why : Refusal) → Err why ≡ spoken_in n.keys n.list.members bytes → (Some why ≡ frame_refusal n bytes) × (refusing_reply n why ≡ bytes_reply n bytes)
nothing_heard n bytes why is =
    let said : Spoken = said_in (raw_in bytes) in
    let first = by (hearing_refusal n.keys n.list.members bytes) is in (
      ap (λ (o : Option Refusal). option_or o (speech_refusal n said.from said.what)) first,
      ap (λ (o : Option Refusal). reply_unless n (option_or o (speech_refusal n said.from said.what)) (taken_reply n said.from said.what)) first,
    )
  where
    by : (o : Option Refusal) → refused why ≡ unless_refused o (said_in (raw_in bytes)) → Some why ≡ o
    by None e = absurd cc
    by (Some other) e = ap (λ (r : Refusal). Some r) (same_cause why other e)

-- SOMETHING IS HEARD

pub something_heard : (n : Node) (bytes : List ℕ) (said : Spoken) (what : Speech) → Ok said ≡ spoken_in n.keys n.list.members bytes → said.what ≡ what →
    (speech_refusal n said.from what ≡ frame_refusal n bytes) × (speech_reply n said.from what ≡ bytes_reply n bytes)
something_heard n bytes said what is told =
    let found = heard_by n.keys n.list.members bytes said (sym is) in (
      ap (speech_refusal n said.from) (sym told)
          ∙ ap (λ (s : Spoken). speech_refusal n s.from s.what) (sym found.1)
          ∙ ap (λ (o : Option Refusal). option_or o (speech_refusal n (said_in (raw_in bytes)).from (said_in (raw_in bytes)).what)) (sym found.0),
      ap (speech_reply n said.from) (sym told)
          ∙ ap (λ (s : Spoken). speech_reply n s.from s.what) (sym found.1)
          ∙ ap (λ (o : Option Refusal). reply_unless n (option_or o (speech_refusal n (said_in (raw_in bytes)).from (said_in (raw_in bytes)).what)) (taken_reply n (said_in (raw_in bytes)).from (said_in (raw_in bytes)).what)) (sym found.0),
    )

-- what a frame of another listed member carries is refused for what the node knows of it alone
pub carried_refusal : (n : Node) (bytes : List ℕ) (f : RawFrame) (body : Body) → Carries n.keys n.list.members bytes f body → frame_refusal n bytes ≡ speech_refusal n f.from (speech_of body)
carried_refusal n bytes f body c =
    let said : Spoken = record { from = f.from; what = speech_of body } in
    sym (something_heard n bytes said (speech_of body) (sym (carried n.keys n.list.members bytes f body c)) refl).0
