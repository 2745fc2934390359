-- What a status says of the run that it stands for.
use Rattle.std.proofs.Common.{◌≡◌, ◌≢◌, ◌<◌, ◌++◌, length, length-append, arith, ℕ, Bool, true, false, List, [], Option, Some, None, Result, Ok, Err, IfSome, ◌⊎◌, inl, inr, refl, sym, ap, subst, ◌∙◌}
use Rattle.std.specs.Prelude.{IfOk, IfErr, IsErrOf}
use Rattle.std.specs.Io.KnownBytes.{append_known}
use Rattle.xl_base.specs.Faults.{Rose}
use Rattle.xl_base.specs.declared.status.Status.{Status}
use Rattle.xl_base.specs.declared.status.Status.TheVariants.{Done, Fork, InputRefused, ReadFault, WriteFault, OutOfMemory, KeepFault, NetFault}
use Rattle.xl_io.specs.Sinks.{GrewByFront, GrewByLess}
use Rattle.xl_lines.specs.declared.fault.Fault.{Fault}
use Rattle.xl_lines.specs.declared.fault.Fault.TheVariants.{Read, Write, Memory}
use Rattle.xl_lines.specs.declared.machine.Verdict.{Verdict}
use Rattle.xl_lines.specs.declared.machine.Verdict.TheVariants.{Good, Found, Refused}
use Rattle.xl_lines.specs.Rules.{Told}
use Rattle.xl_lines.specs.Running.{TellsAll}
use Rattle.xl_lines.specs.Soon.{silence}
use Rattle.xl_replay.specs.Headlines.{names_of, world_after, AddsReport}
use Rattle.xl_replay.specs.Replays.{report_of}
use Rattle.xl_replay.proofs.Headline.{as_written}
use Rattle.xl_show.specs.Soon.{soon_from, soon_in}
use Rattle.xl_words.specs.declared.command.Telling.{Telling}
use Rattle.xl_words.specs.declared.command.Telling.TheVariants.{Replay}
use Rattle.xl_texts.specs.Promises.{Reads, on, to_what_is_found, nothing, Showing, always, if_some, if_read, IsAtItsEnd, LacksSome, LeavesOut, ShowsEnd}
use Rattle.xl_texts.specs.Streams.{Streams}
use Rattle.xl_texts.specs.Keeps.{Keeps}
use Rattle.xl_texts.proofs.Keeping.{nothing_done as nothing_kept}
use Rattle.xl_top.specs.Commands.{status_after, promise_by, ReadsTo}
use Rattle.xl_top.specs.Statuses.{IsTold, IsAnswered, IsWritten, status_of}
use Rattle.xl_top.specs.Texts.{WritesText, HasCause}

pub if_any : {X : Type 0} (o : Option X) (P : X → Type 0) → ((x : X) → P x) → IfSome o P
if_any None P all = tt
if_any (Some x) P all = all x

-- how a command ended that a status stands for
abbrev end_of : Status → Result Verdict Fault
end_of Done = Ok Good
end_of Fork = Ok Found
end_of InputRefused = Ok Refused
end_of ReadFault = Err Read
end_of WriteFault = Err Write
end_of other = Err Memory

end_of_status : (r : Result Verdict Fault) → end_of (status_after r) ≡ r
end_of_status (Ok Good) = refl
end_of_status (Err Read) = refl
end_of_status other = refl

-- so with one status two commands ended alike
same_end : (r r' : Result Verdict Fault) → status_after r ≡ status_after r' → r ≡ r'
same_end r r' is = sym (end_of_status r) ∙ (ap end_of is ∙ end_of_status r')

-- what a verdict promises holds with its status
said_by : (r : Result Verdict Fault) (P : Verdict → Type 0) (v : Verdict) → IfOk r P → status_after r ≡ status_after (Ok v) → P v
said_by r P v all is = subst (λ (it : Result Verdict Fault). IfOk it P) (same_end r (Ok v) is) all

end_after : (r : Result Verdict Fault) (E : Type 0) → IfOk r (λ verdict. verdict ≢ Refused → E) → (status_after r ≡ Done) ⊎ (status_after r ≡ Fork) → E
end_after r E end (inl is) = said_by r (λ verdict. verdict ≢ Refused → E) Good end is (λ no. cc)
end_after r E end (inr is) = said_by r (λ verdict. verdict ≢ Refused → E) Found end is (λ no. cc)

complete_after : (r : Result Verdict Fault) (A B : Type 0) → IfErr r (λ fault. (A → ⊥) → (B → ⊥) → fault ≡ Memory) → (A → ⊥) → (B → ⊥) → IsTold (status_after r) ⊎ (status_after r ≡ OutOfMemory)
complete_after (Ok Good) A B only a b = inl tt
complete_after (Ok Found) A B only a b = inl tt
complete_after (Ok Refused) A B only a b = inl tt
complete_after (Err Read) A B only a b = let no = only a b in absurd cc
complete_after (Err Write) A B only a b = let no = only a b in absurd cc
complete_after (Err Memory) A B only a b = inr refl

pub known_after : (r : Result Verdict Fault) → IsAnswered (status_after r)
known_after (Ok Good) = tt
known_after (Err Read) = tt
known_after other = tt

abbrev len_known : Option (List ℕ) → ℕ
len_known None = 0
len_known (Some xs) = length xs

-- a text of which some is missing isn't written whole
less_says : (before after : Option (List ℕ)) (text : List ℕ) → GrewByLess before after text → IsWritten before after text → ⊥
less_says before after text less whole =
    let held = whole.0 in
    let front = less.0 in
    let some : 0 < length front.missing = less.1 in
    let same : Some (held ++ text) ≡ Some (held ++ front.written) = sym whole.2 ∙ (front.held ∙ ap (λ known. append_known known front.written) whole.1) in
    let equal : length (held ++ text) ≡ length (held ++ front.written) = ap len_known same in
    let long : length text ≡ length (front.written ++ front.missing) = ap length front.parts in
    omega (arith, some, equal, long, length-append held text, length-append held front.written, length-append front.written front.missing)

says : (v : Verdict) → status_after (Ok v) ≡ status_of v
says Good = refl
says Found = refl
says Refused = refl

-- a verdict that shows the end was answered behind it
at_end_after : (reads : Reads) (r : Result Verdict Fault) (E : Type 0) → IfOk r (λ verdict. ShowsEnd reads verdict → E) → (status_after r ≡ Done) ⊎ (status_after r ≡ Fork) → ReadsTo reads (status_after r) → E
at_end_after on r E end ends reads = end_after r E end ends
at_end_after to_what_is_found r E end ends reads = said_by r (λ verdict. verdict ≡ Good → E) Good end reads refl
at_end_after nothing r E end ends reads = absurd reads

-- a text that shows its end isn't written whole behind a failed read
lacks_some : (shows : Showing) (text : List ℕ) (reads reads' : ℕ) → Rose reads reads' → IsAtItsEnd shows text reads reads' → (LacksSome shows text → ⊥) → ⊥
lacks_some always text reads reads' rose shown never = never tt
lacks_some if_some text reads reads' rose shown never = never shown
lacks_some if_read text reads reads' rose shown never = shown rose

shown_end : (shows : Showing) (told : List ℕ → Told) (left held held' : Option (List ℕ)) (reads reads' : ℕ) (r : Result Verdict Fault)
    → IfOk r (λ verdict. IfSome left (λ bytes. TellsAll held held' verdict (told bytes)))
    → IfErr r (λ fault. IfSome left (λ bytes. LeavesOut shows (told bytes).text fault → GrewByLess held held' (told bytes).text))
    → (IsErrOf r Read → Rose reads reads')
    → IfSome left (λ bytes. IsAtItsEnd shows (told bytes).text reads reads' → IsWritten held held' (told bytes).text → (status_after r ≡ status_of (told bytes).verdict) ⊎ (status_after r ≡ OutOfMemory))
shown_end shows told None held held' reads reads' r whole less read = tt
shown_end shows told (Some bytes) held held' reads reads' (Ok v) whole less read = λ _ written. inl (says v ∙ ap status_of (sym whole.says))
shown_end shows told (Some bytes) held held' reads reads' (Err Read) whole less read = λ shown written.
    absurd (lacks_some shows (told bytes).text reads reads' (read refl) shown (λ lacks. less_says held held' (told bytes).text (less lacks) written))
shown_end shows told (Some bytes) held held' reads reads' (Err Write) whole less read = λ _ written. absurd (less_says held held' (told bytes).text (less tt) written)
shown_end shows told (Some bytes) held held' reads reads' (Err Memory) whole less read = λ _ _. inr refl

-- what was written of a report
report_written : (left before after : Option (List ℕ)) → IfSome left (λ bytes. GrewByFront before after (report_of bytes).text) → IfSome left (λ bytes. AddsReport (names_of bytes) (world_after bytes) before after (report_of bytes))
report_written None before after grew = tt
report_written (Some bytes) before after grew = as_written bytes before after grew

-- a command that keeps its promise writes its text
pub writes_kept : (telling : Telling) (old new : Streams) (r : Result Verdict Fault) → Keeps (promise_by telling) old new r → WritesText telling old new (status_after r)
writes_kept telling old new r keeps =
    let says : Verdict → Type 0 = λ verdict. IfSome old.left (λ bytes. TellsAll old.held new.held verdict ((promise_by telling).told bytes)) in
    record {
      done = said_by r says Good keeps.whole;
      fork = said_by r says Found keeps.whole;
      refused = said_by r says Refused keeps.whole;
      as_written = λ is.
          report_written old.left old.held new.held
          (subst (λ (t : Telling). IfSome old.left (λ bytes. GrewByFront old.held new.held ((promise_by t).told bytes).text)) is keeps.front);
      at_end = at_end_after (promise_by telling).reads r _ keeps.to_end;
      front = keeps.front;
      soon = λ is. keeps.soon (same_end r (Err Read) is);
      unended = λ is. keeps.unended (same_end r (Err Read) is);
      further = keeps.further;
      read_exact = λ other. keeps.read_exact (λ is. other (ap status_after is));
      write_exact = λ other. keeps.write_exact (λ is. other (ap status_after is));
      complete = complete_after r _ _ keeps.complete;
      whole = shown_end (promise_by telling).shows (promise_by telling).told old.left old.held new.held old.reads new.reads r keeps.whole keeps.less keeps.read;
    }

-- a command that reads its input
pub reads_on : on ≡ nothing → ⊥
reads_on is = cc

pub reads_some : to_what_is_found ≡ nothing → ⊥
reads_some is = cc

-- a status that names a fault has its cause
pub cause_after : (s : Status) (r : Result Verdict Fault) (A B : Type 0) → s ≡ status_after r → (IsErrOf r Read → A) → (IsErrOf r Write → B) → HasCause s A B ⊥ ⊥
cause_after s r A B is read write = record {
  by_read = λ failed. read (same_end r (Err Read) (sym is ∙ failed));
  by_write = λ failed. write (same_end r (Err Write) (sym is ∙ failed));
  by_keeper = λ failed. subst IsAnswered (sym is ∙ failed) (known_after r);
  by_net = λ failed. subst IsAnswered (sym is ∙ failed) (known_after r);
}

-- what no other call can cause has the cause of these two, and a failed write may be another's
pub cause_among : (s : Status) (A B X C D : Type 0) → HasCause s A B ⊥ ⊥ → HasCause s A (B ⊎ X) C D
cause_among s A B X C D cause = record {
  by_read = cause.by_read;
  by_write = λ failed. inl (cause.by_write failed);
  by_keeper = λ failed. absurd (cause.by_keeper failed);
  by_net = λ failed. absurd (cause.by_net failed);
}

abbrev names_fault : Status → Bool
names_fault ReadFault = true
names_fault WriteFault = true
names_fault KeepFault = true
names_fault NetFault = true
names_fault other = false

-- a status that names no fault needs no cause
pub uncaused : (s t : Status) (A B C D : Type 0) → names_fault t ≡ false → s ≡ t → HasCause s A B C D
uncaused s t A B C D calm is =
    let no : (u : Status) → names_fault u ≡ true → s ≡ u → ⊥ =
    λ u named failed. let both = sym calm ∙ (ap names_fault (sym is ∙ failed) ∙ named) in absurd cc in
    record {
      by_read = λ failed. absurd (no ReadFault refl failed);
      by_write = λ failed. absurd (no WriteFault refl failed);
      by_keeper = λ failed. absurd (no KeepFault refl failed);
      by_net = λ failed. absurd (no NetFault refl failed);
    }

-- nothing is told before the first byte
quiet : (telling : Telling) → (promise_by telling).soon [] ≡ silence
unfolding soon_from soon_in
quiet Replay = refl
quiet other = refl

-- nothing is written if memory runs out before the command begins
pub nothing_done : (telling : Telling) (at : Streams) → WritesText telling at at OutOfMemory
nothing_done telling at = writes_kept telling at at (Err Memory) (nothing_kept (promise_by telling) at (quiet telling))
