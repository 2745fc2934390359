-- a bucket leads from its last ledger back to its first, and no ledger passed has the id
use Rattle.std.proofs.Common.{◌≡◌, ◌<◌, ℕ, Option, get_or, length, sym, ap, subst, ◌∙◌, arith}
use Rattle.xl_ledger.specs.Tables.{headers_of}
use Rattle.xl_ledger.proofs.TableLaws.{Searches, left, starts, next_known, comes, goes_on, falls, is_found, is_nowhere}
use Rattle.xl_ledger.proofs.table.find.Goals as goal

pub loop-next-init : goal.loop-next-init
loop-next-init c =
    let b = c.bucket_of.ensures in
    let at : c.index-table-bucket_of.result ≡ get_or c.args.table.now _ c.index-table-bucket_of.result = c.index-table-bucket_of.is ∙ ap (λ (i : ℕ). get_or c.args.table.now i c.index-table-bucket_of.result) b.value in
    subst (Searches (headers_of c.args.ledgers.now) (length c.args.table.now) c.args.id.now) (sym c.ledger-next.ensures)
    (starts c.args.ledgers.now c.args.table.now c.requires c.args.id.now c.index-table-bucket_of.result at (omega (arith, b.value, b.within)))

pub bounds-ledgers-place : goal.bounds-ledgers-place
bounds-ledgers-place c =
    let s = subst (Searches (headers_of c.args.ledgers.now) (length c.args.table.now) c.args.id.now) c.in-Some.is c.loop-next.invariant in
    omega (arith, c.place.ensures, next_known c.args.ledgers.now c.args.table.now c.requires c.args.id.now c.in-Some.place s)

pub returns-then-eq : goal.returns-then-eq
returns-then-eq c =
    let next = comes c.args.ledgers.now c.args.table.now c.requires c.args.id.now c.loop-next.next c.in-Some.place c.place.result c.index-ledgers-place.result c.loop-next.invariant c.in-Some.is c.place.ensures c.index-ledgers-place.is in
    is_found c.args.ledgers.now c.args.table.now c.requires c.args.id.now c.in-Some.place c.index-ledgers-place.result next.stands next.within (sym c.eq.ensures ∙ c.if-eq.true)

pub loop-next-smaller : goal.loop-next-smaller
loop-next-smaller c =
    let l = c.index-ledgers-place.result in
    let next = comes c.args.ledgers.now c.args.table.now c.requires c.args.id.now c.loop-next.next c.in-Some.place c.place.result l c.loop-next.invariant c.in-Some.is c.place.ensures c.index-ledgers-place.is in
    subst (λ (o : Option ℕ). left o < left c.loop-next.next) (sym c.ledger-next-in-Some.ensures)
    (subst (λ (o : Option ℕ). left l.before < left o) (sym c.in-Some.is) (falls c.args.ledgers.now c.args.table.now c.requires c.args.id.now c.in-Some.place l next.stands))

pub loop-next-preserved : goal.loop-next-preserved
loop-next-preserved c =
    let next = comes c.args.ledgers.now c.args.table.now c.requires c.args.id.now c.loop-next.next c.in-Some.place c.place.result c.index-ledgers-place.result c.loop-next.invariant c.in-Some.is c.place.ensures c.index-ledgers-place.is in
    subst (Searches (headers_of c.args.ledgers.now) (length c.args.table.now) c.args.id.now) (sym c.ledger-next-in-Some.ensures)
    (goes_on c.args.ledgers.now c.args.table.now c.requires c.args.id.now c.in-Some.place c.index-ledgers-place.result next.searches next.stands (sym c.eq.ensures ∙ c.if-eq.false))

pub returns : goal.returns
returns c = is_nowhere c.args.ledgers.now c.args.table.now c.requires c.args.id.now (subst (Searches (headers_of c.args.ledgers.now) (length c.args.table.now) c.args.id.now) c.in_default.is c.loop-next.invariant)
