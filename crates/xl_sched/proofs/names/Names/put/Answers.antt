-- a new name has no place yet, the next place becomes its own, and if there is no memory the list is cut back
use Rattle.std.proofs.Common.{◌≡◌, ap, ◌∙◌, length, refl, arith}
use Rattle.std.proofs.Math.Seq.{take-append_seam}
use Rattle.std.specs.Str.{bytes_eq}
use Rattle.xl_sched.specs.Names.{id_named}
use Rattle.xl_sched.proofs.NameLemmas.{position-none, AreFirst-more, AreFirst-kept}
use Rattle.xl_sched.proofs.LedgerLemmas.{AreUpTo-more}
use Rattle.xl_sched.proofs.names.Names.put.Goals as goal

pub insert-requires : goal.insert-requires
insert-requires c =
    let names = c.self.inside.declared.items in
    let name = c.args.name.now in
    c.self.invariant.0.by_name name
    ∙ position-none (λ n. n.id) (λ n. bytes_eq name n.name) names (ap (λ ns. id_named ns name) c.self.view_is ∙ c.requires.new)

pub invariant_of-self-in-Ok : goal.invariant_of-self-in-Ok
invariant_of-self-in-Ok c =
    let names = c.self.inside.declared.items in
    let at : c.len-place.result ≡ length names = omega (arith, c.self.inside.declared.ok.0, c.len-place.ensures) in
    rw c.in_ok-push.ensures.items (
      AreFirst-more _ _ names _ _ _ _ c.in-Ok.ensures.more at (c.from_vec.ensures ∙ c.in_ok-copy.ensures.items) refl c.self.invariant.0,
      AreUpTo-more names _ c.self.invariant.1 (rw c.self.view_is c.requires.low),
    )

pub invariant_of-self-in-Err : goal.invariant_of-self-in-Err
invariant_of-self-in-Err c =
    let names = c.self.inside.declared.items in
    let at : c.len-place.result ≡ length names = omega (arith, c.self.inside.declared.ok.0, c.len-place.ensures) in
    rw (c.truncate.ensures.items, c.in_ok-push.ensures.items, at, take-append_seam) (AreFirst-kept _ _ names c.in-Err.ensures.kept c.self.invariant.0, c.self.invariant.1)
