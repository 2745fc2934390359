-- How a promise is kept by what tells the text.
use Rattle.std.proofs.Common.{◌≡◌, ◌≢◌, ℕ, List, [], true, Option, Some, None, Result, Ok, Err, IfSome, refl, sym, ap, subst, ◌∙◌, ◌++◌, length, arith, append-nil, length-append}
use Rattle.std.specs.Prelude.{IfOk, IfErr, IsErrOf}
use Rattle.std.specs.Io.KnownBytes.{append_known}
use Rattle.xl_base.specs.Faults.{Rose}
use Rattle.xl_io.specs.Sinks.{GrewByFront, GrewByLess}
use Rattle.xl_io.proofs.Growing.{append_known-none}
use Rattle.xl_lines.specs.declared.fault.Fault.{Fault}
use Rattle.xl_lines.specs.declared.fault.Fault.TheVariants.{Read, Write, Memory}
use Rattle.xl_lines.specs.declared.machine.Verdict.{Verdict}
use Rattle.xl_lines.specs.declared.machine.Verdict.TheVariants.{Good, Refused}
use Rattle.xl_lines.specs.Rules.{Told}
use Rattle.xl_lines.specs.Causes.{IsAloud}
use Rattle.xl_lines.specs.Running.{TellsAll}
use Rattle.xl_lines.specs.Soon.{silence, WasRead, ReadsNoFurther}
use Rattle.xl_lines.specs.Ends.{ReadsOn}
use Rattle.xl_texts.specs.Promises.{Promise, Reads, on, to_what_is_found, nothing, Showing, always, if_some, if_read, ReadsSo, ShowsSo, ShowsEnd, LacksSome, LeavesOut, at_once}
use Rattle.xl_texts.specs.Streams.{Streams}
use Rattle.xl_texts.specs.Keeps.{Keeps}

pub if_any : {X : Type 0} (o : Option X) (P : X → Type 0) → ((x : X) → P x) → IfSome o P
if_any None P all = tt
if_any (Some x) P all = all x

front_none : (held : Option (List ℕ)) (text : List ℕ) → GrewByFront held held text
front_none held text = record { written = []; missing = text; parts = refl; held = sym (append_known-none held) }

len_left : Option (List ℕ) → ℕ
len_left None = 0
len_left (Some bytes) = length bytes

-- what was read of a source that is as it was is nothing, and that leaves a text open which tells nothing yet
pub still_unended : (left : Option (List ℕ)) (soon : List ℕ → Told) → soon [] ≡ silence → (bytes : List ℕ) → WasRead left left bytes → ReadsNoFurther soon bytes
unfolding len_left
still_unended None soon quiet bytes read = absurd read
still_unended (Some left) soon quiet bytes read =
    let same : length left ≡ length (bytes ++ left) = ap len_left read in
    record {
      front = [];
      piece = bytes;
      parts = refl;
      unended = ap (λ (told : Told). told.closed) quiet;
      short = omega (arith, same, length-append bytes left);
    }

-- what leaves the one open leaves the other so
pub further_so : (soon soon' : List ℕ → Told) (bytes : List ℕ) → ((xs : List ℕ) → soon xs ≡ soon' xs) → ReadsNoFurther soon bytes → ReadsNoFurther soon' bytes
further_so soon soon' bytes same further = record {
  front = further.front;
  piece = further.piece;
  parts = further.parts;
  unended = ap (λ (told : Told). told.closed) (sym (same further.front)) ∙ further.unended;
  short = further.short;
}

-- nothing was done, for lack of memory
pub nothing_done : (promise : Promise) (at : Streams) → promise.soon [] ≡ silence → Keeps promise at at (Err Memory)
nothing_done promise at quiet = record {
  whole = tt;
  to_end = tt;
  front = if_any at.left _ (λ bytes. front_none at.held (promise.told bytes).text);
  soon = λ is. absurd cc;
  unended = λ is. absurd cc;
  further = still_unended at.left promise.soon quiet;
  less = if_any at.left _ (λ bytes no. absurd no);
  read = λ is. absurd cc;
  write = λ is. absurd cc;
  read_exact = λ _. refl;
  write_exact = λ _. refl;
  complete = λ _ _. refl;
}

-- what holds of what is told, where two tell the same
pub if_same : (left : Option (List ℕ)) (P : Told → Type 0) (a b : List ℕ → Told) → ((bytes : List ℕ) → a bytes ≡ b bytes) → IfSome left (λ bytes. P (a bytes)) → IfSome left (λ bytes. P (b bytes))
if_same None P a b same holds = tt
if_same (Some bytes) P a b same holds = subst P (same bytes) holds

module _ (left held held' : Option (List ℕ)) (promise : Promise) (tells : List ℕ → Told) (same : (bytes : List ℕ) → tells bytes ≡ promise.told bytes) where
  pub whole_so : (r : Result Verdict Fault) → IfOk r (λ verdict. IfSome left (λ bytes. TellsAll held held' verdict (tells bytes)))
      → IfOk r (λ verdict. IfSome left (λ bytes. TellsAll held held' verdict (promise.told bytes)))
  whole_so (Ok verdict) whole = if_same left (TellsAll held held' verdict) tells promise.told same whole
  whole_so (Err fault) whole = tt

  pub front_so : IfSome left (λ bytes. GrewByFront held held' (tells bytes).text) → IfSome left (λ bytes. GrewByFront held held' (promise.told bytes).text)
  front_so front = if_same left (λ (told : Told). GrewByFront held held' told.text) tells promise.told same front

-- behind a failed read some isn't written, if that shows the end of the text
less_read : {T : Type 0} (shows : Showing) (tells : T → List ℕ → Told) (G : Type 0) → ShowsSo shows tells → (IsAloud tells → G) → (text : List ℕ) → LacksSome shows text → G
less_read always tells G so less text lacks = less so
less_read if_some tells G so less text lacks = absurd so
less_read if_read tells G so less text lacks = absurd lacks

pub less_so : {T : Type 0} (by_tells : T → List ℕ → Told) (left held held' : Option (List ℕ)) (promise : Promise) (tells : List ℕ → Told) → ((bytes : List ℕ) → tells bytes ≡ promise.told bytes)
    → (r : Result Verdict Fault) → ShowsSo promise.shows by_tells
    → (IsAloud by_tells → IfErr r (λ fault. fault ≢ Memory → IfSome left (λ bytes. GrewByLess held held' (tells bytes).text)))
    → (IsErrOf r Write → IfSome left (λ bytes. GrewByLess held held' (tells bytes).text))
    → IfErr r (λ fault. IfSome left (λ bytes. LeavesOut promise.shows (promise.told bytes).text fault → GrewByLess held held' (promise.told bytes).text))
less_so by_tells left held held' promise tells same (Ok verdict) so less cut = tt
less_so by_tells None held held' promise tells same (Err fault) so less cut = tt
less_so by_tells (Some bytes) held held' promise tells same (Err Read) so less cut = λ lacks.
    subst (λ (told : Told). GrewByLess held held' told.text) (same bytes) (less_read promise.shows by_tells (GrewByLess held held' (tells bytes).text) so (λ aloud. less aloud (λ is. cc)) (promise.told bytes).text lacks)
less_so by_tells (Some bytes) held held' promise tells same (Err Write) so less cut = λ _. subst (λ (told : Told). GrewByLess held held' told.text) (same bytes) (cut refl)
less_so by_tells (Some bytes) held held' promise tells same (Err Memory) so less cut = λ no. absurd no

pub to_end_so : {T : Type 0} (reads : Reads) (tells : T → List ℕ → Told) (r : Result Verdict Fault) (E : Type 0) → ReadsSo reads tells
    → (ReadsOn tells → IfOk r (λ verdict. verdict ≢ Refused → E)) → IfOk r (λ verdict. verdict ≡ Good → E) → IfOk r (λ verdict. ShowsEnd reads verdict → E)
to_end_so on tells r E so to_end good = to_end so
to_end_so to_what_is_found tells r E so to_end good = good
to_end_so nothing tells r E so to_end good = absurd so

pub further_at_once : (promise : Promise) (bytes : List ℕ) → ReadsNoFurther promise.soon bytes → ReadsNoFurther (at_once promise).soon bytes
further_at_once promise bytes further = record {
  front = further.front;
  piece = further.piece;
  parts = further.parts;
  unended = further.unended;
  short = further.short;
}

-- a text of which nothing is written before all is known, if it never was
pub silent_kept : (promise : Promise) (old new : Streams) → new.held ≡ old.held → new.writes ≡ old.writes → Rose old.reads new.reads
    → ((bytes : List ℕ) → WasRead old.left new.left bytes → (promise.soon bytes).closed ≡ true)
    → ((bytes : List ℕ) → WasRead old.left new.left bytes → ReadsNoFurther promise.soon bytes) → Keeps (at_once promise) old new (Err Read)
silent_kept promise old new same writes rose unended further = record {
  whole = tt;
  to_end = tt;
  front = if_any old.left _ (λ bytes. none_of (promise.told bytes).text);
  soon = λ _ bytes read. same ∙ sym (append_known-none old.held);
  unended = λ _. unended;
  further = λ bytes read. further_at_once promise bytes (further bytes read);
  less = if_any old.left _ (λ bytes some. (none_of (promise.told bytes).text, some));
  read = λ _. rose;
  write = λ is. absurd cc;
  read_exact = λ other. absurd (other refl);
  write_exact = λ _. writes;
  complete = λ none _. absurd (none rose);
}
  where
    none_of : (text : List ℕ) → GrewByFront old.held new.held text
    none_of text = record { written = []; missing = text; parts = refl; held = same ∙ sym (append_known-none old.held) }

-- where some of a text that was kept in memory isn't written, some of what is told isn't
module _ (first kept : Option (List ℕ)) (text : List ℕ) where
  kept_is : (told : List ℕ) → first ≡ Some [] → kept ≡ Some text → kept ≡ append_known first told → text ≡ told
  kept_is told empty is grew =
      let same : Some text ≡ Some told = sym is ∙ (grew ∙ ap (λ (known : Option (List ℕ)). append_known known told) empty) in
      cc

  less_kept : (left before after : Option (List ℕ)) (verdict : Verdict) (told : List ℕ → Told)
      → first ≡ Some [] → kept ≡ Some text → IfSome left (λ bytes. TellsAll first kept verdict (told bytes))
      → GrewByLess before after text → IfSome left (λ bytes. GrewByLess before after (told bytes).text)
  less_kept None before after verdict told empty is all less = tt
  less_kept (Some bytes) before after verdict told empty is all less =
      subst (λ (whole : List ℕ). GrewByLess before after whole) (kept_is (told bytes).text empty is all.held) less

  front_kept : (left before after : Option (List ℕ)) (verdict : Verdict) (told : List ℕ → Told)
      → first ≡ Some [] → kept ≡ Some text → IfSome left (λ bytes. TellsAll first kept verdict (told bytes))
      → GrewByFront before after text → IfSome left (λ bytes. GrewByFront before after (told bytes).text)
  front_kept None before after verdict told empty is all front = tt
  front_kept (Some bytes) before after verdict told empty is all front =
      subst (λ (whole : List ℕ). GrewByFront before after whole) (kept_is (told bytes).text empty is all.held) front

  any_less : (left : Option (List ℕ)) (P Q : List ℕ → Type 0) → IfSome left P → IfSome left (λ bytes. Q bytes → P bytes)
  any_less None P Q less = tt
  any_less (Some bytes) P Q less = λ _. less

  pub cut_kept : (promise : Promise) (old new : Streams) (verdict : Verdict)
      → first ≡ Some [] → kept ≡ Some text → IfSome old.left (λ bytes. TellsAll first kept verdict (promise.told bytes))
      → GrewByLess old.held new.held text → Rose old.writes new.writes → new.reads ≡ old.reads
      → ((bytes : List ℕ) → WasRead old.left new.left bytes → ReadsNoFurther promise.soon bytes) → Keeps (at_once promise) old new (Err Write)
  cut_kept promise old new verdict empty is all less rose reads further = record {
    whole = tt;
    to_end = tt;
    front = front_kept old.left old.held new.held verdict promise.told empty is all less.0;
    soon = λ read. absurd cc;
    unended = λ read. absurd cc;
    further = λ bytes read. further_at_once promise bytes (further bytes read);
    less = any_less old.left (λ bytes. GrewByLess old.held new.held (promise.told bytes).text) (λ _. Unit {0}) (less_kept old.left old.held new.held verdict promise.told empty is all less);
    read = λ read. absurd cc;
    write = λ _. rose;
    read_exact = λ _. reads;
    write_exact = λ other. absurd (other refl);
    complete = λ _ none. absurd (none rose);
  }
