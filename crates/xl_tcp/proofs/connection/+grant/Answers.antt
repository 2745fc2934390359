-- the first frame is granted if it may be given, and what is granted behind it comes on top
use Rattle.std.proofs.Common.{◌≡◌, ◌<◌, ◌≤◌, ◌-◌, ◌+◌, ℕ, List, take, drop, length, refl, sym, ap, ◌∙◌, arith, rules}
use Rattle.std.proofs.lemmas.Bool.Decides.{nat_tests}
use Rattle.std.proofs.lemmas.List.{length-drop, take_rest}
use Rattle.xl_wire.specs.Raws.{raw_frame}
use Rattle.xl_tcp.specs.declared.conduct.Conduct.{Conduct}
use Rattle.xl_tcp.specs.Conduct.{after_frame}
use Rattle.xl_tcp.specs.Granting.{Granted, granted_of}
use Rattle.xl_wire.proofs.FeedLaws.{frame_there}
use Rattle.xl_tcp.proofs.Granting.{granted_none, granted_more, held_back}
use Rattle.xl_tcp.proofs.connection.+grant.Goals as goal

pub returns-then-not-gives-clause-granted : goal.returns-then-not-gives-clause-granted
returns-then-not-gives-clause-granted t c =
    let some : 0 < c.args.most = grind (arith, nat_tests, c.if-most-eq0.false) in
    ap (λ (g : Granted). g.count) (sym (granted_none c.args.most c.args.conduct.now c.args.bytes.now c.args.now some
    (raw_frame c.in-Whole.frame) c.in-Whole.ensures.exact (sym c.gives.ensures.answer ∙ c.if-not-gives.true)))

pub returns-then-not-gives-clause-noted : goal.returns-then-not-gives-clause-noted
returns-then-not-gives-clause-noted t c =
    let some : 0 < c.args.most = grind (arith, nat_tests, c.if-most-eq0.false) in
    let lacks = sym c.gives.ensures.answer ∙ c.if-not-gives.true in
    c.gives.ensures.noted ∙ held_back c.args.conduct.now (raw_frame c.in-Whole.frame) c.args.now lacks
    ∙ ap (λ (g : Granted). g.peer) (sym (granted_none c.args.most c.args.conduct.now c.args.bytes.now c.args.now some
    (raw_frame c.in-Whole.frame) c.in-Whole.ensures.exact lacks))

pub slice_bounds-grant-count : goal.slice_bounds-grant-count
slice_bounds-grant-count t c =
    let frame = raw_frame c.in-Whole.frame in
    let there = frame_there c.args.bytes.now frame ((c.in-Whole.ensures.whole frame).0 refl) in
    let long = c.in-Whole.frame.whole in omega (arith, there, long)

pub slice_bounds-grant-start : goal.slice_bounds-grant-start
slice_bounds-grant-start t c =
    let frame = raw_frame c.in-Whole.frame in
    let there = frame_there c.args.bytes.now frame ((c.in-Whole.ensures.whole frame).0 refl) in
    let long = c.in-Whole.frame.whole in
    let fits : c.in-Whole.frame.length ≤ length c.args.bytes.now = omega (arith, there, long) in search (rules, arith)

pub returns-clause-within : goal.returns-clause-within
returns-clause-within t c =
    let frame = raw_frame c.in-Whole.frame in
    let there = frame_there c.args.bytes.now frame ((c.in-Whole.ensures.whole frame).0 refl) in
    let bytes = c.args.bytes.now in
    let n = c.in-Whole.frame.length in
    let long = c.in-Whole.frame.whole in
    let short : length (take (length bytes - n) (drop n bytes)) ≡ length bytes - n =
    ap length (take_rest bytes n) ∙ length-drop n bytes in
    let rest = c.grant.ensures.within in omega (arith, there, long, short, rest)

pub returns-clause-granted : goal.returns-clause-granted
returns-clause-granted t c =
    let some : 0 < c.args.most = grind (arith, nat_tests, c.if-most-eq0.false) in
    ap (λ (m : ℕ). c.in-Whole.frame.length + m) (c.grant.ensures.granted
    ∙ ap (λ (rest : List ℕ). (granted_of (c.args.most - 1) c.gives.new.self rest c.args.now).count)
    (take_rest c.args.bytes.now c.in-Whole.frame.length)
    ∙ ap (λ (p : Conduct). (granted_of (c.args.most - 1) p (drop c.in-Whole.frame.length c.args.bytes.now) c.args.now).count)
    c.gives.ensures.noted)
    ∙ ap (λ (n : ℕ). n + (granted_of (c.args.most - 1) (after_frame c.args.conduct.now (raw_frame c.in-Whole.frame) c.args.now)
    (drop n c.args.bytes.now) c.args.now).count) c.in-Whole.frame.whole
    ∙ ap (λ (g : Granted). g.count) (sym (granted_more c.args.most c.args.conduct.now c.args.bytes.now c.args.now some
    (raw_frame c.in-Whole.frame) c.in-Whole.ensures.exact (sym c.gives.ensures.answer ∙ c.if-not-gives.false)))

pub returns-clause-noted : goal.returns-clause-noted
returns-clause-noted t c =
    let some : 0 < c.args.most = grind (arith, nat_tests, c.if-most-eq0.false) in
    c.grant.ensures.noted
    ∙ ap (λ (rest : List ℕ). (granted_of (c.args.most - 1) c.gives.new.self rest c.args.now).peer)
    (take_rest c.args.bytes.now c.in-Whole.frame.length)
    ∙ ap (λ (p : Conduct). (granted_of (c.args.most - 1) p (drop c.in-Whole.frame.length c.args.bytes.now) c.args.now).peer)
    c.gives.ensures.noted
    ∙ ap (λ (n : ℕ). (granted_of (c.args.most - 1) (after_frame c.args.conduct.now (raw_frame c.in-Whole.frame) c.args.now)
    (drop n c.args.bytes.now) c.args.now).peer) c.in-Whole.frame.whole
    ∙ ap (λ (g : Granted). g.peer) (sym (granted_more c.args.most c.args.conduct.now c.args.bytes.now c.args.now some
    (raw_frame c.in-Whole.frame) c.in-Whole.ensures.exact (sym c.gives.ensures.answer ∙ c.if-not-gives.false)))
