use Rattle.std.proofs.Common.{◌≡◌, ℕ, Bool, true, false, cond, sym, ap, ◌∙◌, Option, None, Result}
use Rattle.xl_lists.specs.declared.said.SaidLedger.{SaidLedger}
use Rattle.xl_wire.specs.declared.body.Body.{Body}
use Rattle.xl_wire.specs.declared.refusal.WireRefusal.{WireRefusal}
use Rattle.xl_wire.specs.Bodies.{body_of}
use Rattle.xl_wire.specs.Raws.{RawFrame, raw_frame}
use Rattle.xl_negative.specs.Hearing.{opens, said_if_read}
use Rattle.xl_negative.proofs.hearing.said_in_frame.Goals as goal

-- what says nothing says nothing, whoever opens it
none_anyway : (b : Bool) (x r : Option SaidLedger) → r ≡ None → x ≡ None → r ≡ cond b x None
none_anyway true x r is none = is ∙ sym none
none_anyway false x r is none = is

pub returns-in_err-said : goal.returns-in_err-said
returns-in_err-said c =
    let f : RawFrame = raw_frame c.args.raw.now in
    let read : Result Body WireRefusal = body_of f.kind f.body in
    none_anyway (opens c.args.keys.now f) (said_if_read f.from read) c.from_residual-in_err-said.result c.from_residual-in_err-said.ensures
    (ap (λ (n : ℕ). said_if_read n read) (sym c.in_ok-from.ensures.1) ∙ sym c.in_err-said.ensures)
