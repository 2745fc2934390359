use Rattle.std.proofs.Common.{◌≡◌, ℕ, List, Result, Option, ◌∙◌, ap, sym, subst, refl, Ok, Err, Some, None}
use Rattle.std.specs.Result.{result_err}
use Rattle.xl_wire.specs.Bodies.{body_of}
use Rattle.xl_wire.specs.declared.body.Body.{Body}
use Rattle.xl_wire.specs.declared.refusal.WireRefusal.{WireRefusal}
use Rattle.xl_tags.specs.Rings.{Ring}
use Rattle.xl_core.specs.declared.hearing.Spoken.{Spoken}
use Rattle.xl_core.specs.declared.refusal.Refusal.{Refusal}
use Rattle.xl_core.specs.declared.refusal.Refusal.TheVariants.{Frame}
use Rattle.xl_core.specs.declared.taken.Heard.{Heard}
use Rattle.xl_core.specs.Hearing.{bytes_with, heard_so, speech_of, spoken_in}
use Rattle.xl_core.specs.Node.{Node, bytes_reply, frame_refusal}
use Rattle.xl_core.specs.Replies.{hear_reply, IsOpened}
use Rattle.xl_core.proofs.Frames.{nothing_heard, something_heard}
use Rattle.xl_core.proofs.Heard.{heard_listed}
use Rattle.xl_core.proofs.node.Node.hear_frame.Goals as goal

-- what was written in its stead is heard
unopened : (n : Node) (b : List ℕ) (said : Result Spoken Refusal) (body : Result Body WireRefusal) (o : Option ℕ) (r : Result Heard Refusal) → said ≡ spoken_in n.keys n.list.members b → o ≡ None → IsOpened said body o r →
    (hear_reply r n ≡ bytes_reply n b) × (result_err r ≡ frame_refusal n b)
unopened n b said body None (Err why) same none is = let heard = nothing_heard n b why (sym is ∙ same) in (heard.1, heard.0)
unopened n b said body None (Ok heard) same none is = absurd is
unopened n b said body (Some from) r same none is = absurd cc

pub returns-in_default-clause-exact : goal.returns-in_default-clause-exact
returns-in_default-clause-exact g c =
    let n : Node = c.args.self.now in
    let b : List ℕ = bytes_with c.args.tags n.keys c.args.bytes.now in
    (unopened n b (spoken_in c.deref.result.now c.self.inside.list.members (bytes_with c.args.tags c.deref.result.now c.args.bytes.now)) (body_of c.args.raw.now.kind c.args.raw.now.body.now) c.opened.result c.opened.new.heard
    (ap (λ (k : Ring). spoken_in k c.self.inside.list.members (bytes_with c.args.tags k c.args.bytes.now)) c.deref.ensures
    ∙ ap (λ (x : Node). spoken_in x.keys x.list.members (bytes_with c.args.tags x.keys c.args.bytes.now)) c.self.view_is)
    c.in_default.is c.opened.ensures).0

pub returns-in_default-clause-refused : goal.returns-in_default-clause-refused
returns-in_default-clause-refused g c =
    let n : Node = c.args.self.now in
    let b : List ℕ = bytes_with c.args.tags n.keys c.args.bytes.now in
    (unopened n b (spoken_in c.deref.result.now c.self.inside.list.members (bytes_with c.args.tags c.deref.result.now c.args.bytes.now)) (body_of c.args.raw.now.kind c.args.raw.now.body.now) c.opened.result c.opened.new.heard
    (ap (λ (k : Ring). spoken_in k c.self.inside.list.members (bytes_with c.args.tags k c.args.bytes.now)) c.deref.ensures
    ∙ ap (λ (x : Node). spoken_in x.keys x.list.members (bytes_with c.args.tags x.keys c.args.bytes.now)) c.self.view_is)
    c.in_default.is c.opened.ensures).1

pub take_body-requires : goal.take_body-requires
take_body-requires g c =
    let n : Node = c.args.self.now in
    let b : List ℕ = bytes_with c.args.tags n.keys c.args.bytes.now in
    let told : spoken_in n.keys n.list.members b ≡ heard_so (Ok c.in-Some.from) (body_of c.args.raw.now.kind c.args.raw.now.body.now) =
    sym (ap (λ (k : Ring). spoken_in k c.self.inside.list.members (bytes_with c.args.tags k c.args.bytes.now)) c.deref.ensures
    ∙ ap (λ (x : Node). spoken_in x.keys x.list.members (bytes_with c.args.tags x.keys c.args.bytes.now)) c.self.view_is)
    ∙ subst (λ (o : Option ℕ). IsOpened (spoken_in c.deref.result.now c.self.inside.list.members (bytes_with c.args.tags c.deref.result.now c.args.bytes.now)) (body_of c.args.raw.now.kind c.args.raw.now.body.now) o c.opened.new.heard) c.in-Some.is c.opened.ensures in
    let from : ℕ = c.in-Some.from in
    let read : body_of c.args.raw.now.kind c.args.raw.now.body.now ≡ Ok c.in-Ok.body = sym c.read_body.ensures.exact ∙ c.in-Ok.is in
    let said : Spoken = record { from = from; what = speech_of c.in-Ok.body } in
    let is : Ok said ≡ spoken_in n.keys n.list.members b = sym (told ∙ ap (λ (r : Result Body WireRefusal). heard_so (Ok from) r) read) in
    record { listed = heard_listed n.keys n.list.members b (Ok said) is }

pub returns-in-Ok-clause-exact : goal.returns-in-Ok-clause-exact
returns-in-Ok-clause-exact g c =
    let n : Node = c.args.self.now in
    let b : List ℕ = bytes_with c.args.tags n.keys c.args.bytes.now in
    let told : spoken_in n.keys n.list.members b ≡ heard_so (Ok c.in-Some.from) (body_of c.args.raw.now.kind c.args.raw.now.body.now) =
    sym (ap (λ (k : Ring). spoken_in k c.self.inside.list.members (bytes_with c.args.tags k c.args.bytes.now)) c.deref.ensures
    ∙ ap (λ (x : Node). spoken_in x.keys x.list.members (bytes_with c.args.tags x.keys c.args.bytes.now)) c.self.view_is)
    ∙ subst (λ (o : Option ℕ). IsOpened (spoken_in c.deref.result.now c.self.inside.list.members (bytes_with c.args.tags c.deref.result.now c.args.bytes.now)) (body_of c.args.raw.now.kind c.args.raw.now.body.now) o c.opened.new.heard) c.in-Some.is c.opened.ensures in
    let from : ℕ = c.in-Some.from in
    let read : body_of c.args.raw.now.kind c.args.raw.now.body.now ≡ Ok c.in-Ok.body = sym c.read_body.ensures.exact ∙ c.in-Ok.is in
    let said : Spoken = record { from = from; what = speech_of c.in-Ok.body } in
    let is : Ok said ≡ spoken_in n.keys n.list.members b = sym (told ∙ ap (λ (r : Result Body WireRefusal). heard_so (Ok from) r) read) in
    c.take_body.ensures.exact ∙ (something_heard n b said said.what is refl).1

pub returns-in-Ok-clause-refused : goal.returns-in-Ok-clause-refused
returns-in-Ok-clause-refused g c =
    let n : Node = c.args.self.now in
    let b : List ℕ = bytes_with c.args.tags n.keys c.args.bytes.now in
    let told : spoken_in n.keys n.list.members b ≡ heard_so (Ok c.in-Some.from) (body_of c.args.raw.now.kind c.args.raw.now.body.now) =
    sym (ap (λ (k : Ring). spoken_in k c.self.inside.list.members (bytes_with c.args.tags k c.args.bytes.now)) c.deref.ensures
    ∙ ap (λ (x : Node). spoken_in x.keys x.list.members (bytes_with c.args.tags x.keys c.args.bytes.now)) c.self.view_is)
    ∙ subst (λ (o : Option ℕ). IsOpened (spoken_in c.deref.result.now c.self.inside.list.members (bytes_with c.args.tags c.deref.result.now c.args.bytes.now)) (body_of c.args.raw.now.kind c.args.raw.now.body.now) o c.opened.new.heard) c.in-Some.is c.opened.ensures in
    let from : ℕ = c.in-Some.from in
    let read : body_of c.args.raw.now.kind c.args.raw.now.body.now ≡ Ok c.in-Ok.body = sym c.read_body.ensures.exact ∙ c.in-Ok.is in
    let said : Spoken = record { from = from; what = speech_of c.in-Ok.body } in
    let is : Ok said ≡ spoken_in n.keys n.list.members b = sym (told ∙ ap (λ (r : Result Body WireRefusal). heard_so (Ok from) r) read) in
    c.take_body.ensures.refused ∙ (something_heard n b said said.what is refl).0

pub returns-in-Err-clause-exact : goal.returns-in-Err-clause-exact
returns-in-Err-clause-exact g c =
    let n : Node = c.args.self.now in
    let b : List ℕ = bytes_with c.args.tags n.keys c.args.bytes.now in
    let told : spoken_in n.keys n.list.members b ≡ heard_so (Ok c.in-Some.from) (body_of c.args.raw.now.kind c.args.raw.now.body.now) =
    sym (ap (λ (k : Ring). spoken_in k c.self.inside.list.members (bytes_with c.args.tags k c.args.bytes.now)) c.deref.ensures
    ∙ ap (λ (x : Node). spoken_in x.keys x.list.members (bytes_with c.args.tags x.keys c.args.bytes.now)) c.self.view_is)
    ∙ subst (λ (o : Option ℕ). IsOpened (spoken_in c.deref.result.now c.self.inside.list.members (bytes_with c.args.tags c.deref.result.now c.args.bytes.now)) (body_of c.args.raw.now.kind c.args.raw.now.body.now) o c.opened.new.heard) c.in-Some.is c.opened.ensures in
    let from : ℕ = c.in-Some.from in
    let read : body_of c.args.raw.now.kind c.args.raw.now.body.now ≡ Err c.in-Err.why = sym c.read_body.ensures.exact ∙ c.in-Err.is in
    let is : Err (Frame c.in-Err.why) ≡ spoken_in n.keys n.list.members b = sym (told ∙ ap (λ (r : Result Body WireRefusal). heard_so (Ok from) r) read) in
    (nothing_heard n b (Frame c.in-Err.why) is).1

pub returns-in-Err-clause-refused : goal.returns-in-Err-clause-refused
returns-in-Err-clause-refused g c =
    let n : Node = c.args.self.now in
    let b : List ℕ = bytes_with c.args.tags n.keys c.args.bytes.now in
    let told : spoken_in n.keys n.list.members b ≡ heard_so (Ok c.in-Some.from) (body_of c.args.raw.now.kind c.args.raw.now.body.now) =
    sym (ap (λ (k : Ring). spoken_in k c.self.inside.list.members (bytes_with c.args.tags k c.args.bytes.now)) c.deref.ensures
    ∙ ap (λ (x : Node). spoken_in x.keys x.list.members (bytes_with c.args.tags x.keys c.args.bytes.now)) c.self.view_is)
    ∙ subst (λ (o : Option ℕ). IsOpened (spoken_in c.deref.result.now c.self.inside.list.members (bytes_with c.args.tags c.deref.result.now c.args.bytes.now)) (body_of c.args.raw.now.kind c.args.raw.now.body.now) o c.opened.new.heard) c.in-Some.is c.opened.ensures in
    let from : ℕ = c.in-Some.from in
    let read : body_of c.args.raw.now.kind c.args.raw.now.body.now ≡ Err c.in-Err.why = sym c.read_body.ensures.exact ∙ c.in-Err.is in
    let is : Err (Frame c.in-Err.why) ≡ spoken_in n.keys n.list.members b = sym (told ∙ ap (λ (r : Result Body WireRefusal). heard_so (Ok from) r) read) in
    (nothing_heard n b (Frame c.in-Err.why) is).0
