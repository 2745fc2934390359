use Rattle.std.proofs.Common.{sym, ◌∙◌, arith}
use Rattle.xl_disputes.proofs.Picking.{fits_all, fits_none}
use Rattle.xl_disputes.proofs.index.push_low.Goals as goal

pub returns-then-len-lt-SET_IDS-clause-lowest : goal.returns-then-len-lt-SET_IDS-clause-lowest
returns-then-len-lt-SET_IDS-clause-lowest c =
    c.push_reserved.ensures.items ∙ sym (fits_all c.args.ids.now.items c.args.id (omega (arith, c.if-len-lt-SET_IDS.true, c.len.ensures, c.args.ids.now.ok.0)))

pub returns-else-len-lt-SET_IDS-clause-lowest : goal.returns-else-len-lt-SET_IDS-clause-lowest
returns-else-len-lt-SET_IDS-clause-lowest c =
    sym (fits_none c.args.ids.now.items c.args.id (omega (arith, c.if-len-lt-SET_IDS.false, c.requires.few, c.len.ensures, c.args.ids.now.ok.0)))
