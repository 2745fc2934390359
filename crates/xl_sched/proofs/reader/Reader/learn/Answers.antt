-- each kind of line changes its own part of what was read, and every line counts one
use Rattle.std.proofs.Common.{◌≡◌, ℕ, ◌+◌, true, List, [], ◌∷◌, ◌++◌, Some, refl, ap, ◌∙◌, rules}
use Rattle.xl_ledger.specs.declared.header.Header.{Header}
use Rattle.xl_ledger.specs.Headers.{header_id}
use Rattle.xl_sched.specs.declared.event.Event.{Event}
use Rattle.xl_sched.specs.declared.line.Line.{Line}
use Rattle.xl_sched.specs.declared.line.Line.TheVariants as line
use Rattle.xl_sched.specs.declared.named.Named.{Named}
use Rattle.xl_sched.specs.Reading.{Reading, counted, lists_in, after}
use Rattle.xl_sched.proofs.reader.Reader.learn.Goals.{in-Node+in_ok-declare-in-Node, in-Liar+in_ok-declare-in-Liar, in-Name+in_ok-declare-in-Name, in-Limit, in-Ledger+in_ok-declare_ledger-in-Ledger, in-At, in-Speak, in-Event}
use Rattle.xl_sched.proofs.reader.Reader.learn.Goals as goal

after_ledger : (r : Reading) (l : Line) (name parent as_slice : List ℕ) (header : Header) (names : List Named) → l ≡ line.Ledger name parent header → as_slice ≡ name → names ≡ r.names ++ record { name = as_slice; id = (header_id header).0; header = Some header } ∷ [] → record (counted r) { names = names } ≡ after r l
after_ledger r l name parent as_slice header names is same known = rw (is, known, same) refl

after_event : (r : Reading) (l : Line) (e : Event) (more : ℕ) → l ≡ line.Event e → more ≡ lists_in e.what → record (counted r) { started = true; lists = r.lists + more } ≡ after r l
after_event r l e more is says = rw (is, says) refl

pub returns-clause-learnt : goal.returns-clause-learnt
returns-clause-learnt c = elim c.match-line.branch [
  | in-Node+in_ok-declare-in-Node w ↦ search rules
  | in-Liar+in_ok-declare-in-Liar w ↦ search rules
  | in-Name+in_ok-declare-in-Name w ↦ search rules
  | in-Limit w ↦ search rules
  | in-Ledger+in_ok-declare_ledger-in-Ledger w ↦ rw w.self-inside-is (after_ledger _ c.args.line.now _ _ _ _ _ w.in-Ledger.is w.as_slice-in-Ledger.ensures w.in_ok-declare_ledger-in-Ledger.ensures.declared ∙ ap (λ r. after r c.args.line.now) c.self.view_is)
  | in-At w ↦ search rules
  | in-Speak w ↦ search rules
  | in-Event w ↦ rw w.self-inside-is (after_event _ c.args.line.now _ _ w.in-Event.is w.lists_in.ensures.value ∙ ap (λ r. after r c.args.line.now) c.self.view_is)
]
