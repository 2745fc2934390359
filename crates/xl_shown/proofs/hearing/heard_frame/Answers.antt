-- what is heard in a frame, if its tag is right, is what its bytes say
use Rattle.std.proofs.Common.{◌≡◌, ◌<◌, ◌≤◌, ◌∙◌, ℕ, length, sym, ap, arith, Option, Some, Result, Ok, Err}
use Rattle.xl_lists.specs.declared.said.SaidLedger.{SaidLedger}
use Rattle.xl_wire.specs.Kinds.{span}
use Rattle.xl_wire.specs.Raws.{RawFrame, raw_frame}
use Rattle.xl_wire.specs.declared.body.Body.{Body}
use Rattle.xl_wire.specs.declared.refusal.WireRefusal.{WireRefusal}
use Rattle.xl_tags.proofs.OpeningLaws.{refused_anyhow}
use Rattle.xl_core.specs.Hearing.{speech_of, spoken_in}
use Rattle.xl_core.specs.declared.hearing.Spoken.{Spoken}
use Rattle.xl_core.proofs.Heard.{long, unopened, read, read_so}
use Rattle.xl_shown.specs.Showing.{heard_so, said_in_speech}
use Rattle.xl_shown.specs.declared.hearing.Heard.{Heard}
use Rattle.xl_shown.proofs.Sealed.{is_opened, not_both}
use Rattle.xl_shown.proofs.hearing.heard_frame.Goals as goal
use Rattle.xl_shown.proofs.hearing.heard_frame.Goals.{Else-raw-bytes}

-- more than the frame
pub returns-then-raw-bytes : goal.returns-then-raw-bytes
returns-then-raw-bytes c = λ (spoken : Spoken) is.
    let f : RawFrame = raw_frame c.args.raw.now in
    let more : span f.body < length c.args.bytes.now = omega (arith, c.if-raw-bytes.true, c.args.raw.now.whole) in
    absurd (not_both (spoken_in c.args.keys.now c.args.list.now.members c.args.bytes.now) spoken _ is
    (long c.args.keys.now c.args.list.now.members c.args.bytes.now f c.requires.begins.split more))

all : (c : Else-raw-bytes) → length c.args.bytes.now ≤ span (raw_frame c.args.raw.now).body
all c = omega (arith, c.if-raw-bytes.false, c.args.raw.now.whole)

pub returns-in-Ok-read_body : goal.returns-in-Ok-read_body
returns-in-Ok-read_body c = λ (spoken : Spoken) is.
    let f : RawFrame = raw_frame c.args.raw.now in
    let body : Body = c.in-Ok-read_body.body in
    let whole = all ((goal.at.returns-in-Ok-read_body c).Else-raw-bytes) in
    let r : Result Body WireRefusal = Ok body in
    let said : spoken_in c.args.keys.now c.args.list.now.members c.args.bytes.now ≡ read_so f.from r =
    read c.args.keys.now c.args.list.now.members c.args.bytes.now f r c.requires.begins.split whole
    (is_opened c.args.keys.now c.args.list.now.members c.args.bytes.now f spoken c.requires.begins.split whole is)
    (sym c.in-Ok-read_body.is ∙ c.read_body.ensures.exact) in
    ap (λ (s : Option SaidLedger). (let h : Heard = record { from = c.in-Ok.from; said = s } in Some h)) c.said_in.ensures
    ∙ (ap (λ (m : ℕ). (let h : Heard = record { from = m; said = said_in_speech m (speech_of body) } in Some h)) c.in-Ok.ensures.sender
    ∙ ap heard_so (sym said ∙ is))

pub returns-in-Err-read_body : goal.returns-in-Err-read_body
returns-in-Err-read_body c = λ (spoken : Spoken) is.
    let f : RawFrame = raw_frame c.args.raw.now in
    let whole = all ((goal.at.returns-in-Err-read_body c).Else-raw-bytes) in
    let r : Result Body WireRefusal = Err c.in-Err-read_body.field-0 in
    absurd (not_both (spoken_in c.args.keys.now c.args.list.now.members c.args.bytes.now) spoken _ is
    (read c.args.keys.now c.args.list.now.members c.args.bytes.now f r c.requires.begins.split whole
    (is_opened c.args.keys.now c.args.list.now.members c.args.bytes.now f spoken c.requires.begins.split whole is)
    (sym c.in-Err-read_body.is ∙ c.read_body.ensures.exact)))

-- what is refused as if sealed is refused so
pub returns-in-Err : goal.returns-in-Err
returns-in-Err c = λ (spoken : Spoken) is.
    let f : RawFrame = raw_frame c.args.raw.now in
    let whole = all ((goal.at.returns-in-Err c).Else-raw-bytes) in
    absurd (not_both (spoken_in c.args.keys.now c.args.list.now.members c.args.bytes.now) spoken _ is
    (unopened c.args.keys.now c.args.list.now.members c.args.bytes.now f c.in-Err.field-0 c.requires.begins.split whole
    (refused_anyhow c.args.keys.now c.args.list.now.members f c.in-Err.field-0 c.requires.begins.spelled.frame c.requires.keyed (sym c.in-Err.ensures.refusal))))
