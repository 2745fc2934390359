-- the jumps follow from the parent's, and the bucket leads to the new ledger and on to the one before it
use Rattle.std.proofs.Common.{◌≡◌, ℕ, List, Option, length, set, sym, ap, subst, vec_capacity, ◌∙◌, arith}
use Rattle.std.proofs.lemmas.List.{length-map}
use Rattle.xl_ledger.specs.declared.header.Header.{Header}
use Rattle.xl_ledger.specs.Chains.{place_of, Joins}
use Rattle.xl_ledger.specs.declared.ledger.Ledger.{Ledger}
use Rattle.xl_ledger.specs.Jumps.{AreJumpsBelow}
use Rattle.xl_ledger.specs.Tables.{headers_of, HaveJumps, IsSound}
use Rattle.xl_ledger.proofs.Jumping.{have_jumps}
use Rattle.xl_ledger.proofs.Storing.{pushed}
use Rattle.xl_ledger.proofs.registry.Registry.push.Goals as goal

pub invariant_of-self : goal.invariant_of-self
invariant_of-self c =
    let r = c.self.inside in
    let same : headers_of r.ledgers.items ≡ c.args.self.now.headers = ap (λ x. x.headers) c.self.view_is in
    let limit : r.limit ≡ c.args.self.now.limit = ap (λ x. x.limit) c.self.view_is in
    subst (λ (o : Option ℕ). IsSound c.push_reserved.new.self.items (set r.table.items c.bucket_of-bucket.result o) r.limit (vec_capacity c.push_reserved.new.self)) (sym c.to.ensures)
    (pushed r.ledgers.items c.push_reserved.new.self.items r.table.items r.limit _ _ c.self.invariant c.args.h.now c.args.id c.args.parent c.len-2.result c.bucket_of-bucket.result c.at-place.result c.jumps_below-jumps.result c.index.result.now
    (omega (arith, c.push_reserved.ensures.capacity)) c.push_reserved.ensures.items c.requires.id
    (subst (λ (x : List Header). Joins x c.args.h.now) (sym same) c.requires.joins)
    (ap (λ (x : List Header). place_of x c.args.h.now.parent) same ∙ c.requires.follows)
    (subst (λ (x : List Ledger). AreJumpsBelow (headers_of x) c.args.parent c.jumps_below-jumps.result) c.deref.ensures.value c.jumps_below-jumps.ensures)
    (omega (arith, c.requires.room, limit, ap length same, length-map r.ledgers.items (λ l. l.header)))
    (omega (arith, c.len-2.ensures, r.table.ok.0)) c.bucket_of-bucket.ensures.value c.bucket_of-bucket.ensures.within c.index.ensures (omega (arith, c.at-place.ensures, c.len.ensures, r.ledgers.ok.0)))

pub jumps_below-jumps-requires-clause-jumps : goal.jumps_below-jumps-requires-clause-jumps
jumps_below-jumps-requires-clause-jumps c = subst (λ (x : List Ledger). HaveJumps x) (sym c.deref.ensures.value) (have_jumps c.self.inside.ledgers.items c.self.inside.table.items c.self.invariant.indexed)
