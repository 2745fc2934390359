-- One part of a text behind another.
use Rattle.std.proofs.Common.{◌≡◌, ◌+◌, ◌<◌, ◌≤◌, ◌++◌, ◌⊎◌, inl, inr, ℕ, List, [], Option, Some, None, Result, Ok, Err, refl, sym, ap, ◌∙◌, subst, arith, length, length-append, append_assoc, append-nil}
use Rattle.std.specs.Prelude.{◌↔◌, IsSome, MatchResult, ⊤}
use Rattle.std.specs.Result.{IsErrAnd}
use Rattle.std.specs.Io.KnownBytes.{append_known}
use Rattle.xl_base.specs.Faults.{Rose}
use Rattle.xl_io.specs.Sinks.{GrewByFront}
use Rattle.xl_io.proofs.Growing.{append_known-none, append_known-twice}
use Rattle.xl_recorder.specs.declared.record_end.RecordEnd.{RecordEnd}
use Rattle.xl_recorder.specs.declared.record_end.RecordEnd.TheVariants.{Write, Memory, Full, Apart}
use Rattle.xl_recorder.specs.Limits.{most_entries}
use Rattle.xl_recorder.specs.Parts.{HasReason, HasStopped, HasWritten, Part}

pub written_as : (a b : Part) (n m : ℕ) (t u : List ℕ) → n ≡ m → t ≡ u → HasWritten a n t b → HasWritten a m u b
written_as a b n m t u counts texts w =
    subst (λ (k : ℕ). HasWritten a k u b) counts (subst (λ (xs : List ℕ). HasWritten a n xs b) texts w)

pub stopped_as : (a b : Part) (stands : Type 0) (n m : ℕ) (t u : List ℕ) (why : RecordEnd) → n ≡ m → t ≡ u
    → HasStopped a stands n t why b → HasStopped a stands m u why b
stopped_as a b stands n m t u why counts texts s =
    subst (λ (k : ℕ). HasStopped a stands k u why b) counts
    (subst (λ (xs : List ℕ). HasStopped a stands n xs why b) texts s)

pub written_none : (a : Part) → HasWritten a 0 [] a
written_none a = record {
  count = omega arith;
  bytes = omega arith;
  held = sym (append_known-none a.held);
  faults = refl;
}

-- nothing is written
pub nothing : (a : Part) (stands : Type 0) (n : ℕ) (t : List ℕ) (why : RecordEnd) → HasReason a stands n t a why
    → HasStopped a stands n t why a
nothing a stands n t why reason = record {
  front = record { written = []; missing = t; parts = refl; held = sym (append_known-none a.held) };
  within = omega arith;
  reason = reason;
}

-- a write fails, of a text for which there is room
pub failed : (a c : Part) (stands : Type 0) (n : ℕ) (t : List ℕ) → length t ≤ a.room.bytes
    → GrewByFront a.held c.held t → Rose a.faults c.faults → HasStopped a stands n t Write c
failed a c stands n t fits front rose = record {
  front = front;
  within = omega (arith, fits, ap (length {A = ℕ}) front.parts, length-append front.written front.missing);
  reason = rose;
}

-- what isn't there doesn't stand there
pub none_stands : {A : Type 0} (o : Option A) (stands : Type 0) → o ≡ None → IsSome o ↔ stands → stands → ⊥
none_stands {A} None stands is both it = let some : IsSome {T = A} None = both.1 it in absurd (cc)
none_stands {A} (Some x) stands is both it = absurd (cc)

-- what is said of the end that an error names
pub by_end : {T : Type 0} (r : Result T RecordEnd) (end : RecordEnd) (P : T → Type 0) (Q : RecordEnd → Type 0)
    → IsErrAnd r (λ y. y ≡ end) → Q end → MatchResult r P Q
by_end (Ok x) end P Q same q = absurd same
by_end (Err y) end P Q same q = subst Q (sym same) q

module _ (a b c : Part) (n m : ℕ) (t u : List ℕ) (first : HasWritten a n t b) where
  pub written_then : HasWritten b m u c → HasWritten a (n + m) (t ++ u) c
  written_then then_written = record {
    count = omega (arith, first.count, then_written.count);
    bytes = omega (arith, first.bytes, then_written.bytes, length-append t u);
    held = then_written.held ∙ ap (λ (known : Option (List ℕ)). append_known known u) first.held
        ∙ append_known-twice a.held t u;
    faults = then_written.faults ∙ first.faults;
  }

  reason_then : (stands both : Type 0) (why : RecordEnd) → (both → stands) → HasReason b stands m u c why
      → HasReason a both (n + m) (t ++ u) c why
  reason_then stands both Write if reason = subst (λ (k : ℕ). Rose k c.faults) first.faults reason
  reason_then stands both Memory if reason = reason ∙ first.faults
  reason_then stands both Full if reason = (
    reason.0 ∙ first.faults,
    elim reason.1 as (λ _. (a.room.bytes < length (t ++ u)) ⊎ (most_entries < a.room.entries + (n + m))) [
      | inl long ↦ inl (omega (arith, long, first.bytes, length-append t u))
      | inr many ↦ inr (omega (arith, many, first.count))
    ],
  )
  reason_then stands both Apart if reason = (reason.0 ∙ first.faults, λ it. reason.1 (if it))

  pub stopped_then : (stands both : Type 0) (why : RecordEnd) → (both → stands) → HasStopped b stands m u why c
      → HasStopped a both (n + m) (t ++ u) why c
  stopped_then stands both why if s = record {
    front = record {
      written = t ++ s.front.written;
      missing = s.front.missing;
      parts = ap (λ (xs : List ℕ). t ++ xs) s.front.parts ∙ sym (append_assoc t s.front.written s.front.missing);
      held = s.front.held ∙ ap (λ (known : Option (List ℕ)). append_known known s.front.written) first.held
          ∙ append_known-twice a.held t s.front.written;
    };
    within = omega (arith, s.within, first.bytes, length-append t s.front.written);
    reason = reason_then stands both why if s.reason;
  }

module _ (a c : Part) (stands both : Type 0) (n m : ℕ) (t u : List ℕ) (if : both → stands) where
  reason_more : (why : RecordEnd) → HasReason a stands n t c why → HasReason a both (n + m) (t ++ u) c why
  reason_more Write reason = reason
  reason_more Memory reason = reason
  reason_more Full reason = (
    reason.0,
    elim reason.1 as (λ _. (a.room.bytes < length (t ++ u)) ⊎ (most_entries < a.room.entries + (n + m))) [
      | inl long ↦ inl (omega (arith, long, length-append t u))
      | inr many ↦ inr (omega (arith, many))
    ],
  )
  reason_more Apart reason = (reason.0, λ it. reason.1 (if it))

  -- what stopped has stopped before more too
  pub stopped_more : (why : RecordEnd) → HasStopped a stands n t why c → HasStopped a both (n + m) (t ++ u) why c
  stopped_more why s = record {
    front = record {
      written = s.front.written;
      missing = s.front.missing ++ u;
      parts = ap (λ (xs : List ℕ). xs ++ u) s.front.parts ∙ append_assoc s.front.written s.front.missing u;
      held = s.front.held;
    };
    within = s.within;
    reason = reason_more why s.reason;
  }

-- a line that isn't written whole
pub line_stopped : (a c : Part) (stands : Type 0) (t u : List ℕ) (why : RecordEnd) → t ≡ u
    → HasStopped a ⊤ 0 t why c → HasStopped a stands 1 u why c
line_stopped a c stands t u why same s =
    stopped_as a c stands 1 1 (t ++ []) u why refl (append-nil t ∙ same)
    (stopped_more a c ⊤ stands 0 1 t [] (λ _. tt) why s)

pub line_stops : {T U : Type 0} (r : Result T RecordEnd) (s : Result U RecordEnd) (end : RecordEnd) (a c : Part)
    (stands : Type 0) (t u : List ℕ) → t ≡ u → IsErrAnd r (λ y. y ≡ end) → s ≡ Err end
    → MatchResult s (λ _. HasWritten a 0 t c) (λ why. HasStopped a ⊤ 0 t why c)
    → MatchResult r (λ _. HasWritten a 1 u c) (λ why. HasStopped a stands 1 u why c)
line_stops {T} {U} r s end a c stands t u texts same was m =
    by_end r end (λ _. HasWritten a 1 u c) (λ why. HasStopped a stands 1 u why c) same
    (line_stopped a c stands t u end texts
    (subst (λ (it : Result U RecordEnd). MatchResult it (λ _. HasWritten a 0 t c) (λ why. HasStopped a ⊤ 0 t why c)) was m))

-- the head is written, and memory runs out then
pub head_stops : {T U : Type 0} (r : Result T RecordEnd) (s : Result U RecordEnd) (end : RecordEnd) (P : T → Type 0)
    (a c : Part) (t u : List ℕ) → t ≡ u → IsErrAnd r (λ y. y ≡ end) → s ≡ Err end
    → MatchResult s (λ _. HasWritten a 0 t c) (λ why. HasStopped a ⊤ 0 t why c)
    → MatchResult r P (λ why. HasStopped a ⊤ 0 u why c)
head_stops {T} {U} r s end P a c t u texts same was m =
    by_end r end P (λ why. HasStopped a ⊤ 0 u why c) same
    (stopped_as a c ⊤ 0 0 t u end refl texts
    (subst (λ (it : Result U RecordEnd). MatchResult it (λ _. HasWritten a 0 t c) (λ why. HasStopped a ⊤ 0 t why c)) was m))

pub head_whole : (a b : Part) (t u : List ℕ) → t ≡ u → HasWritten a 0 t b → HasStopped a ⊤ 0 u Memory b
head_whole a b t u same w = record {
  front = record { written = u; missing = []; parts = sym (append-nil u); held = w.held ∙ ap (append_known a.held) same };
  within = omega (arith, w.bytes, ap (length {A = ℕ}) same);
  reason = w.faults;
}
