-- A node beside its disk: what each event at it must show.
use Rattle.std.proofs.Common.{◌≡◌, ℕ, ◌<◌, ◌≤◌, List, [], arith, Option, Some, None, subst}
use Rattle.std.specs.Prelude.{◌==◌, ◌&&◌, All, IsTrue, IfSome, map, count_by, option_map, option_to_list}
use Rattle.std.proofs.lemmas.Bool.{and_parts, or_right, eqb-true}
use Rattle.std.proofs.lemmas.List.Elements.{All-weaker, All-nil, All-cons}
use Rattle.xl_base.specs.declared.ids.LedgerId.{LedgerId}
use Rattle.xl_lists.specs.Lists.{IsValid}
use Rattle.xl_lists.specs.declared.said.SaidLedger.{SaidLedger}
use Rattle.xl_lists.specs.Agreement.{with_said, vouches, IsGenuine, IsBacked}
use Rattle.xl_lists.proofs.Agreement.{same_id-true, now_said}
use Rattle.xl_lists.proofs.Counting.{count_image}
use Rattle.xl_wire.specs.declared.validation.Validation.{Validation}
use Rattle.xl_validations.specs.declared.row.Row.{Row}
use Rattle.xl_validations.specs.Rows.{is_full_of, count_full}
use Rattle.xl_core.specs.declared.report.Report.{Report}
use Rattle.xl_core.specs.Node.{Node, Reply}
use Rattle.xl_world.specs.declared.place.Disk.{Disk}
use Rattle.xl_world.specs.Disk.{held_by}
use Rattle.xl_io.specs.Keepers.{MayHold}
use Rattle.xl_world.specs.World.{said_by, reported_by}
use Rattle.xl_world.proofs.Standing.{RowSays, NodeSays}

-- a node and its disk
pub record Seat : Type 0 where
  pub node : Node
  pub disk : Disk

-- a node's rows are its list's, on which each member stands once, and the number that it kept is its disk's
pub record IsWell (p : Seat) : Type 0 where
  pub members : map (λ row. row.member) p.node.rows ≡ p.node.list.members
  pub valid : IsValid p.node.list
  pub in_force : p.node.kept ≡ p.disk.in_force

-- what each event at a node must show, of its disk and its report
pub record IsStep (p : Seat) (r : Reply) (k : Disk) : Type 0 where
  pub me : r.node.me ≡ p.node.me
  pub well : IsWell (record { node = r.node; disk = k })
  pub rises : (j : ℕ) → MayHold (held_by k) j → (i : ℕ) × (i ≤ j) × MayHold (held_by p.disk) i
  pub above : IfSome r.issued (λ v. (i : ℕ) × (i < v.seq) × MayHold (held_by p.disk) i)
  pub saved : IfSome r.issued (λ v. (j : ℕ) → MayHold (held_by k) j → v.seq ≤ j)
  pub quorum : IfSome r.report (λ q. r.node.list.quorum ≤ count_full q.seq q.id r.node.rows)

-- and of what stands at the node then, and of what it issues
pub record ReplySays (P : SaidLedger → Type 0) (me : ℕ) (r : Reply) : Type 0 where
  pub node : NodeSays P r.node
  pub issued : IfSome r.issued (λ v. P (said_by me v))

pub if_some : {X : Type 0} (P Q : X → Type 0) → ((x : X) → P x → Q x) → (o : Option X) → IfSome o P → IfSome o Q
if_some P Q h None p = tt
if_some P Q h (Some x) p = h x p

pub some_same : {X : Type 0} (x n : X) → Some x ≡ Some n → n ≡ x
some_same x n e = cc

-- who vouches for a ledger vouches for it by another name
vouches_same : (liars : List ℕ) (said : List SaidLedger) (m : ℕ) {s t : ℕ} {a b : LedgerId} → s ≡ t → a ≡ b → IsTrue (vouches liars said s a m) → IsTrue (vouches liars said t b m)
vouches_same liars said m {t = t} {a = a} same_seq same h =
    subst (λ id. IsTrue (vouches liars said t id m)) same (subst (λ seq. IsTrue (vouches liars said seq a m)) same_seq h)

-- at what a row holds
at_current : (liars : List ℕ) (said : List SaidLedger) (seq : ℕ) (id : LedgerId) (m : ℕ) (current : Option Validation) → IfSome current (λ u. IsGenuine liars said (said_by m u)) →
    IsTrue (is_full_of seq id current) → IsTrue (vouches liars said seq id m)
at_current liars said seq id m None says full = cc
at_current liars said seq id m (Some u) says full =
    let parts = and_parts (u.full && u.seq == seq) _ full in
    vouches_same liars said m (eqb-true _ _ (and_parts u.full _ parts.0).1) (same_id-true _ _ parts.1) says

-- the rows that hold it belong to members that vouch for it
count_rows : (liars : List ℕ) (said : List SaidLedger) (seq : ℕ) (id : LedgerId) (rows : List Row) → All (RowSays (IsGenuine liars said)) rows →
    count_full seq id rows ≤ count_by (vouches liars said seq id) (map (λ row. row.member) rows)
count_rows liars said seq id rows says =
    count_image (λ row. is_full_of seq id row.current) (vouches liars said seq id) (λ row. row.member) rows
    (All-weaker (RowSays (IsGenuine liars said)) _ (λ row. at_current liars said seq id row.member row.current) rows says)

-- what a step says, as the world has it
abbrev pub spoken : ℕ → Option Validation → Option SaidLedger
spoken i issued = option_map (said_by i) issued

-- a fact of an issued validation is one of what the world has it say
pub spoken_fact : (P : SaidLedger → Type 0) (i : ℕ) (o : Option Validation) → IfSome o (λ v. P (said_by i v)) → IfSome (spoken i o) P
spoken_fact P i None h = tt
spoken_fact P i (Some v) h = h

-- what is issued is genuine then
pub issued_genuine : (liars : List ℕ) (said : List SaidLedger) (i : ℕ) (o : Option Validation) → IfSome o (λ v. IsGenuine liars (with_said said (spoken i o)) (said_by i v))
issued_genuine liars said i None = tt
issued_genuine liars said i (Some v) = or_right _ _ (now_said said (said_by i v))

-- the report of a node whose rows are genuine has its quorum
pub report_backed : (liars : List ℕ) (said : List SaidLedger) (p : Seat) → IsWell p → All (RowSays (IsGenuine liars said)) p.node.rows →
    (o : Option Report) → IfSome o (λ q. p.node.list.quorum ≤ count_full q.seq q.id p.node.rows) → All (IsBacked liars said) (option_to_list (option_map (reported_by p.node) o))
report_backed liars said p well says None h = All-nil (IsBacked liars said)
report_backed liars said p well says (Some q) h = All-cons (IsBacked liars said) (reported_by p.node q) []
    (record {
      once = well.valid.once;
      quorum = subst (λ ms. p.node.list.quorum ≤ count_by (vouches liars said q.seq q.id) ms) well.members (omega (arith, h, count_rows liars said q.seq q.id p.node.rows says));
    })
    (All-nil (IsBacked liars said))
