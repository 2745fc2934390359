-- counting anew changes no reader's queue, and the last N of the last N items and one more are the last N of all
use Rattle.std.proofs.Common.{◌≡◌, ◌≤◌, ℕ, List, length, map, ap, sym, subst, ◌∙◌, arith, refl, ◌++◌, ◌∷◌, []}
use Rattle.std.specs.Prelude.{All}
use Rattle.circular_buffer.specs.Buffer.{Buffer, keep_last}
use Rattle.xl_queues.specs.declared.broadcast.Reader.{Reader}
use Rattle.xl_queues.specs.declared.broadcast.Broadcast.TheInside.{Inside}
use Rattle.xl_queues.specs.Broadcasts.{waiting_for, KeepsUp, counted_anew}
use Rattle.xl_queues.proofs.Broadcasting.{all_anew, all_up_anew, push_waits, push_keeps}
use Rattle.xl_queues.proofs.AllAccounting.{all_push}
use Rattle.xl_queues.proofs.broadcast.Broadcast.push.Goals as goal
use Rattle.xl_queues.proofs.broadcast.Broadcast.push.Goals.{then-self, else-self}

-- what holds before the push, counted anew or not
record IsCounted {T : Type 0} (n : ℕ) (old : Buffer T) (count : ℕ) (readers : List Reader) (new : Buffer T) (count' : ℕ) (readers' : List Reader) : Type 0 where
  pub items : new ≡ old
  pub waits : map (waiting_for n new.items count') readers' ≡ map (waiting_for n old.items count) readers
  pub up : All (KeepsUp n (length new.items) count') readers'

as_it_was : {T : Type 0} (n : ℕ) (old : Buffer T) (count : ℕ) (readers : List Reader) → All (KeepsUp n (length old.items) count) readers → IsCounted n old count readers old count readers
as_it_was n old count readers up = record { items = refl; waits = refl; up = up }

anew : {T : Type 0} (n : ℕ) (old : Buffer T) (count : ℕ) (readers readers' : List Reader) (held : ℕ) → held ≡ n → length old.items ≤ n → readers' ≡ map (counted_anew held count) readers →
    All (KeepsUp n (length old.items) count) readers → IsCounted n old count readers old held readers'
anew n old count readers readers' held is few made up =
    let made' : readers' ≡ map (counted_anew n count) readers = made ∙ ap (λ (k : ℕ). map (counted_anew k count) readers) is in
    subst (λ (k : ℕ). IsCounted n old count readers old k readers') (sym is)
    (subst (λ (rs : List Reader). IsCounted n old count readers old n rs) (sym made')
    (record { items = refl; waits = all_anew n old.items count readers few; up = all_up_anew n (length old.items) count readers few up }))

pub invariant_of-self : goal.invariant_of-self
invariant_of-self g c =
    let n = g.row.N in
    let old = c.self.inside in
    let new = c.if-self.self-inside in
    let counted : IsCounted n old.items old.pushed old.readers new.items new.pushed new.readers = elim c.if-self.branch [
      | then-self w ↦
          subst (λ (i : Inside _ _ _). IsCounted n old.items old.pushed old.readers i.items i.pushed i.readers) (sym w.self-inside-is)
          (anew n old.items old.pushed old.readers w.count_anew.new.readers w.capacity-held.result (w.capacity-held.ensures.capacity ∙ c.self.invariant.0) c.self.invariant.1 w.count_anew.ensures c.self.invariant.2)
      | else-self w ↦
          subst (λ (i : Inside _ _ _). IsCounted n old.items old.pushed old.readers i.items i.pushed i.readers) (sym w.self-inside-is)
          (as_it_was n old.items old.pushed old.readers c.self.invariant.2)
    ] in
    let few : length new.items.items ≤ n = omega (arith, ap (λ (b : Buffer _). length b.items) counted.items, c.self.invariant.1) in
    let keeps = push_keeps n new.items.items c.push_back.new.self.items new.pushed new.readers c.args.item
    (ap (λ (b : Buffer _). b.items) c.push_back.ensures.items ∙ ap (λ (k : ℕ). keep_last k (new.items.items ++ c.args.item ∷ [])) (ap (λ (b : Buffer _). b.capacity) counted.items ∙ c.self.invariant.0))
    few counted.up in
    (ap (λ (b : Buffer _). b.capacity) c.push_back.ensures.items ∙ ap (λ (b : Buffer _). b.capacity) counted.items ∙ c.self.invariant.0, keeps.0, keeps.1)

pub returns : goal.returns
returns g c =
    let n = g.row.N in
    let old = c.self.inside in
    let new = c.if-self.self-inside in
    let counted : IsCounted n old.items old.pushed old.readers new.items new.pushed new.readers = elim c.if-self.branch [
      | then-self w ↦
          subst (λ (i : Inside _ _ _). IsCounted n old.items old.pushed old.readers i.items i.pushed i.readers) (sym w.self-inside-is)
          (anew n old.items old.pushed old.readers w.count_anew.new.readers w.capacity-held.result (w.capacity-held.ensures.capacity ∙ c.self.invariant.0) c.self.invariant.1 w.count_anew.ensures c.self.invariant.2)
      | else-self w ↦
          subst (λ (i : Inside _ _ _). IsCounted n old.items old.pushed old.readers i.items i.pushed i.readers) (sym w.self-inside-is)
          (as_it_was n old.items old.pushed old.readers c.self.invariant.2)
    ] in
    let few : length new.items.items ≤ n = omega (arith, ap (λ (b : Buffer _). length b.items) counted.items, c.self.invariant.1) in
    let pushed = push_waits n new.items.items c.push_back.new.self.items new.pushed new.readers c.args.self.now c.args.item
    (ap (λ (b : Buffer _). b.items) c.push_back.ensures.items ∙ ap (λ (k : ℕ). keep_last k (new.items.items ++ c.args.item ∷ [])) (ap (λ (b : Buffer _). b.capacity) counted.items ∙ c.self.invariant.0))
    few counted.up (counted.waits ∙ c.self.view_is) in
    record { pushed = pushed; accounted = all_push n c.args.self.now _ c.args.item pushed }
