-- what the bytes say at the new time decides the answer, and no frame that opens comes from the node's own number
use Rattle.std.proofs.Common.{◌≡◌, ◌≢◌, ℕ, List, ◌∙◌, subst, ap, sym, arith, Err}
use Rattle.xl_wire.specs.Heads.{parts}
use Rattle.xl_wire.specs.Raws.{raw_frame}
use Rattle.xl_wire.proofs.RawLaws.{split_spelled}
use Rattle.xl_core.specs.declared.refusal.Refusal.TheVariants.{Frame, Short}
use Rattle.xl_core.specs.Hearing.{bytes_with, spoken_in}
use Rattle.xl_core.specs.Node.{Node, at_moment, bytes_reply, frame_refusal, refusing_reply}
use Rattle.xl_core.proofs.Frames.{nothing_heard}
use Rattle.xl_core.proofs.Heard.{no_frame, not_itself, short, stays_refused, stays_short}
use Rattle.xl_core.proofs.node.Node.hear.Goals as goal

pub hear_frame-requires : goal.hear_frame-requires
hear_frame-requires g c =
    let split = sym c.requires.parted ∙ ap parts c.in-Whole.is in
    record { split = split; spelled = split_spelled c.args.bytes.now (raw_frame c.in-Whole.raw) (λ i. let h = (c.type_inv.bytes i).fits in omega arith) split }

pub returns-in-Whole-clause-exact : goal.returns-in-Whole-clause-exact
returns-in-Whole-clause-exact g c = c.hear_frame.ensures.exact ∙ ap (λ (x : Node). bytes_reply x (bytes_with c.args.tags x.keys c.args.bytes.now)) c.advance.ensures

pub returns-in-Whole-clause-refused : goal.returns-in-Whole-clause-refused
returns-in-Whole-clause-refused g c = c.hear_frame.ensures.refused ∙ ap (λ (x : Node). frame_refusal x (bytes_with c.args.tags x.keys c.args.bytes.now)) c.advance.ensures

pub returns-in-Need-clause-exact : goal.returns-in-Need-clause-exact
returns-in-Need-clause-exact g c =
    let m : Node = at_moment c.args.now c.args.self.now in
    let bytes : List ℕ = c.args.bytes.now in
    let at = sym c.requires.parted ∙ ap parts c.in-Need.is in
    let is : Err (Short c.in-Need.lack) ≡ spoken_in m.keys m.list.members (bytes_with c.args.tags m.keys bytes) =
    sym (ap (spoken_in m.keys m.list.members) (stays_short c.args.tags m.keys bytes c.in-Need.lack at) ∙ short m.keys m.list.members bytes c.in-Need.lack at) in
    ap (λ (x : Node). refusing_reply x (Short c.in-Need.lack)) c.advance.ensures ∙ (nothing_heard m (bytes_with c.args.tags m.keys bytes) (Short c.in-Need.lack) is).1

pub returns-in-Need-clause-refused : goal.returns-in-Need-clause-refused
returns-in-Need-clause-refused g c =
    let m : Node = at_moment c.args.now c.args.self.now in
    let bytes : List ℕ = c.args.bytes.now in
    let at = sym c.requires.parted ∙ ap parts c.in-Need.is in
    let is : Err (Short c.in-Need.lack) ≡ spoken_in m.keys m.list.members (bytes_with c.args.tags m.keys bytes) =
    sym (ap (spoken_in m.keys m.list.members) (stays_short c.args.tags m.keys bytes c.in-Need.lack at) ∙ short m.keys m.list.members bytes c.in-Need.lack at) in
    (nothing_heard m (bytes_with c.args.tags m.keys bytes) (Short c.in-Need.lack) is).0

pub returns-in-Refused-clause-exact : goal.returns-in-Refused-clause-exact
returns-in-Refused-clause-exact g c =
    let m : Node = at_moment c.args.now c.args.self.now in
    let bytes : List ℕ = c.args.bytes.now in
    let at = sym c.requires.parted ∙ ap parts c.in-Refused.is in
    let is : Err (Frame c.in-Refused.why) ≡ spoken_in m.keys m.list.members (bytes_with c.args.tags m.keys bytes) =
    sym (ap (spoken_in m.keys m.list.members) (stays_refused c.args.tags m.keys bytes c.in-Refused.why at) ∙ no_frame m.keys m.list.members bytes c.in-Refused.why at) in
    ap (λ (x : Node). refusing_reply x (Frame c.in-Refused.why)) c.advance.ensures ∙ (nothing_heard m (bytes_with c.args.tags m.keys bytes) (Frame c.in-Refused.why) is).1

pub returns-in-Refused-clause-refused : goal.returns-in-Refused-clause-refused
returns-in-Refused-clause-refused g c =
    let m : Node = at_moment c.args.now c.args.self.now in
    let bytes : List ℕ = c.args.bytes.now in
    let at = sym c.requires.parted ∙ ap parts c.in-Refused.is in
    let is : Err (Frame c.in-Refused.why) ≡ spoken_in m.keys m.list.members (bytes_with c.args.tags m.keys bytes) =
    sym (ap (spoken_in m.keys m.list.members) (stays_refused c.args.tags m.keys bytes c.in-Refused.why at) ∙ no_frame m.keys m.list.members bytes c.in-Refused.why at) in
    (nothing_heard m (bytes_with c.args.tags m.keys bytes) (Frame c.in-Refused.why) is).0

pub returns-in-Whole-clause-others : goal.returns-in-Whole-clause-others
returns-in-Whole-clause-others g c = λ said is.
    let n : Node = c.args.self.now in
    let own : n.keys.me ≡ n.me = subst (λ (m : Node). m.keys.me ≡ m.me) (c.self.view_is ∙ c.advance.ensures) c.self.invariant.0.keyed.own in
    subst (λ (k : ℕ). said.from ≢ k) own (not_itself n.keys n.list.members (bytes_with c.args.tags n.keys c.args.bytes.now) said is)

pub returns-in-Need-clause-others : goal.returns-in-Need-clause-others
returns-in-Need-clause-others g c = λ said is.
    let n : Node = c.args.self.now in
    let own : n.keys.me ≡ n.me = subst (λ (m : Node). m.keys.me ≡ m.me) (c.self.view_is ∙ c.advance.ensures) c.self.invariant.0.keyed.own in
    subst (λ (k : ℕ). said.from ≢ k) own (not_itself n.keys n.list.members (bytes_with c.args.tags n.keys c.args.bytes.now) said is)

pub returns-in-Refused-clause-others : goal.returns-in-Refused-clause-others
returns-in-Refused-clause-others g c = λ said is.
    let n : Node = c.args.self.now in
    let own : n.keys.me ≡ n.me = subst (λ (m : Node). m.keys.me ≡ m.me) (c.self.view_is ∙ c.advance.ensures) c.self.invariant.0.keyed.own in
    subst (λ (k : ℕ). said.from ≢ k) own (not_itself n.keys n.list.members (bytes_with c.args.tags n.keys c.args.bytes.now) said is)
