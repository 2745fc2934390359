-- only buckets of known ledgers lead to one, so once each ledger's bucket is empty, all are
use Rattle.std.proofs.Common.{◌≡◌, ◌+◌, ℕ, length, set, get_or, Option, refl, sym, ap, subst, ◌∙◌, arith}
use Rattle.std.proofs.lemmas.List.{length-map}
use Rattle.xl_ledger.specs.declared.ledger.Ledger.{Ledger}
use Rattle.xl_ledger.specs.Chains.{root_id, ids}
use Rattle.xl_ledger.specs.Tables.{bucket_of, headers_of}
use Rattle.xl_ledger.proofs.Clearing.{AreCleared, none_cleared, cleared_more, all_cleared}
use Rattle.xl_ledger.proofs.Storing.{read_placed}
use Rattle.xl_ledger.proofs.table.clear.Goals as goal

pub loop-place-init : goal.loop-place-init
loop-place-init c = none_cleared (ids (headers_of c.args.ledgers.now)) c.args.table.now.items

pub loop-place-preserved : goal.loop-place-preserved
loop-place-preserved c =
    let known = ids (headers_of c.args.ledgers.now) in
    let before = c.args.table.now.items in
    let now = c.loop-place.table.items in
    let i = c.loop-place.place in
    let l = c.index-ledgers-place.result in
    let bucket = c.bucket_of-bucket.result in
    let size : c.len.result ≡ length before = omega (arith, c.len.ensures, c.loop-place.table.ok.0, c.loop-place.invariant.0) in
    let placed = read_placed c.args.ledgers.now before i i l c.requires (omega (arith, c.loop-place-test.true, length-map c.args.ledgers.now (λ l. l.header))) refl c.index-ledgers-place.is in
    let own : bucket ≡ bucket_of (length before) (get_or known i root_id) =
    c.bucket_of-bucket.ensures.value ∙ ap (λ (e : Ledger). bucket_of c.len.result e.id) (sym c.index-ledgers-place.is) ∙ ap (λ n. bucket_of n l.id) size ∙ ap (bucket_of (length before)) (sym placed.id) in
    subst (λ (o : Option ℕ). AreCleared known before (set now bucket o) (i + 1)) (sym c.none.ensures)
    (cleared_more known before now i bucket (omega (arith, c.bucket_of-bucket.ensures.within, size)) own c.loop-place.invariant)

pub returns : goal.returns
returns c =
    let known = ids (headers_of c.args.ledgers.now) in
    let all : c.loop-place.place ≡ length c.args.ledgers.now = omega (arith, c.loop-place-test.false, c.loop-place.auto.place-end) in
    all_cleared c.args.ledgers.now c.args.table.now.items c.loop-place.table.items c.requires (subst (AreCleared known c.args.table.now.items c.loop-place.table.items) all c.loop-place.invariant)
