-- The status of a command, by how its run and its recorder ended.
use Rattle.std.proofs.Common.{◌≡◌, ◌≢◌, ◌⊎◌, ℕ, Bool, true, false, cond, List, Option, Some, None, refl, sym, ap, ◌∙◌, subst, inl, inr}
use Rattle.xl_base.specs.declared.status.Status.{Status}
use Rattle.xl_base.specs.declared.status.Status.TheVariants as status
use Rattle.xl_recorder.specs.declared.record_end.RecordEnd.{RecordEnd}
use Rattle.xl_recorder.specs.declared.record_end.RecordEnd.TheVariants as why
use Rattle.xl_validator.specs.Ends.{CompletesAt}
use Rattle.xl_recorder.specs.declared.file_recorder.FileRecorder.{FileRecorder}
use Rattle.xl_validator.specs.Following.{end_by, gives_way, status_with}
use Rattle.xl_validator.specs.Validators.{IsKnown}

-- a run that memory ended, or the keeper, ends so whatever its recorder met
pub keeps_memory : (w : Option RecordEnd) → status_with w status.OutOfMemory ≡ status.OutOfMemory
keeps_memory (Some why.Write) = refl
keeps_memory (Some why.Memory) = refl
keeps_memory other = refl

one_or : (b : Bool) (fault ended end : Status) → end ≡ cond b fault ended → end ≢ fault → ended ≡ end
one_or true fault ended end is other = absurd (other is)
one_or false fault ended end is other = sym is

-- another status than the two of a recorder is the run's
pub of_run : (w : Option RecordEnd) (ended end : Status) → end ≡ status_with w ended → end ≢ status.WriteFault
    → end ≢ status.OutOfMemory → ended ≡ end
of_run (Some why.Write) ended end is no_write no_memory = one_or (gives_way ended) status.WriteFault ended end is no_write
of_run (Some why.Memory) ended end is no_write no_memory = one_or (gives_way ended) status.OutOfMemory ended end is no_memory
of_run other ended end is no_write no_memory = sym is

-- at a status of its own
pub run_is : (w : Option RecordEnd) (ended end one : Status) → end ≡ status_with w ended → one ≢ status.WriteFault
    → one ≢ status.OutOfMemory → end ≡ one → ended ≡ one
run_is w ended end one is no_write no_memory same =
    of_run w ended one (sym same ∙ is) no_write no_memory

write_or : (b : Bool) (ended end : Status) → end ≡ cond b status.OutOfMemory ended → end ≡ status.WriteFault
    → ended ≡ status.WriteFault
write_or true ended end is same = let no : status.OutOfMemory ≡ status.WriteFault = sym is ∙ same in cc
write_or false ended end is same = sym is ∙ same

-- a write that failed is the run's or the recorder's
pub write_is : (w : Option RecordEnd) (ended end : Status) → end ≡ status_with w ended → end ≡ status.WriteFault
    → (ended ≡ status.WriteFault) ⊎ (w ≡ Some why.Write)
write_is (Some why.Write) ended end is same = inr refl
write_is (Some why.Memory) ended end is same = inl (write_or (gives_way ended) ended end is same)
write_is other ended end is same = inl (sym is ∙ same)

known_or : (b : Bool) (fault ended : Status) → IsKnown fault → IsKnown ended → IsKnown (cond b fault ended)
known_or true fault ended one other = one
known_or false fault ended one other = other

pub known_with : (w : Option RecordEnd) (ended end : Status) → end ≡ status_with w ended → IsKnown ended → IsKnown end
known_with w ended end is known = subst IsKnown (sym is) (go w)
  where
    go : (w : Option RecordEnd) → IsKnown (status_with w ended)
    go (Some why.Write) = known_or (gives_way ended) status.WriteFault ended tt known
    go (Some why.Memory) = known_or (gives_way ended) status.OutOfMemory ended tt known
    go other = known

module _ (input : Option (List ℕ)) (may_give : ℕ → Bool) where
  complete_or : (b : Bool) (ended end : Status) → end ≡ cond b status.OutOfMemory ended → (moment : ℕ)
      → may_give moment ≡ true → (ended ≢ status.StoreFull → CompletesAt input may_give ended) → end ≢ status.StoreFull
      → CompletesAt input may_give end
  complete_or true ended end is moment given complete full =
      subst (CompletesAt input may_give) (sym is) (moment, given, tt)
  complete_or false ended end is moment given complete full =
      subst (CompletesAt input may_give) (sym is) (complete (λ so. full (is ∙ so)))

  -- a run that is complete is so with a recorder of which no write failed
  pub complete_with : (w : Option RecordEnd) (ended end : Status) → end ≡ status_with w ended → (w ≡ Some why.Write → ⊥)
      → (moment : ℕ) → may_give moment ≡ true → (ended ≢ status.StoreFull → CompletesAt input may_give ended)
      → end ≢ status.StoreFull → CompletesAt input may_give end
  complete_with (Some why.Write) ended end is no_write moment given complete full = absurd (no_write refl)
  complete_with (Some why.Memory) ended end is no_write moment given complete full =
      complete_or (gives_way ended) ended end is moment given complete full
  complete_with other ended end is no_write moment given complete full =
      subst (CompletesAt input may_give) (sym is) (complete (λ so. full (is ∙ so)))

-- without a recorder the status is the run's
pub unrecorded : {S : Type 0} (recorder : Option (FileRecorder S)) (end : Status) → recorder ≡ None
    → end ≡ status_with (end_by recorder) end
unrecorded {S} recorder end none = sym (ap (λ (r : Option (FileRecorder S)). status_with (end_by r) end) none)
