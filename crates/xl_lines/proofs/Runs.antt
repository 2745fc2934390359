-- A run over an input, as far as it has come.
use Rattle.std.proofs.Common.{◌≡◌, ◌≢◌, Result, Ok, Err, ◌++◌, ◌<◌, length, ℕ, List, [], Option, Some, None, IfSome, refl, sym, ap, ◌∙◌, append_assoc}
use Rattle.std.specs.Io.KnownBytes.{prepend_known, IsAtEnd}
use Rattle.xl_io.specs.Sinks.{GrewByFront, GrewByLess}
use Rattle.xl_io.specs.declared.source.Piece.{Piece}
use Rattle.xl_io.specs.declared.source.Piece.TheVariants.{Got, End, Failed}
use Rattle.std.proofs.Common.{true}
use Rattle.std.proofs.lemmas.Bool.{false≢true}
use Rattle.xl_lines.specs.declared.machine.Verdict.TheVariants.{Found}
use Rattle.xl_lines.specs.Rules.{Told, found}
use Rattle.std.specs.Prelude.{IfErr, IsErrOf}
use Rattle.std.specs.Result.{IsErrAnd}
use Rattle.xl_lines.specs.declared.fault.Fault.{Fault}
use Rattle.xl_lines.specs.declared.fault.Fault.TheVariants.{Read, Write, Memory}
use Rattle.xl_lines.specs.Causes.{HasCause}
use Rattle.xl_lines.specs.Running.{Tells}
use Rattle.xl_lines.proofs.Telling.{tells_from, tells_none, tells_then, tells_front, front_of_tells, tells_less, less_of_tells}

-- Of what all says about the bytes, a front is held, and now says what is left to tell about those that are to come.
pub record Runs (left0 left held0 held : Option (List ℕ)) (all now : List ℕ → Told) : Type 0 where
  pub consumed : List ℕ
  pub source : left0 ≡ prepend_known consumed left
  pub tells : (rest : List ℕ) → Tells held0 held (all (consumed ++ rest)) (now rest)

pub prepend_known-none : (known : Option (List ℕ)) → known ≡ prepend_known [] known
prepend_known-none None = refl
prepend_known-none (Some xs) = refl

pub prepend_known-twice : (xs ys : List ℕ) (known : Option (List ℕ)) → prepend_known xs (prepend_known ys known) ≡ prepend_known (xs ++ ys) known
prepend_known-twice xs ys None = refl
prepend_known-twice xs ys (Some bytes) = ap Some (sym (append_assoc xs ys bytes))

-- a fact about all the bytes, from one about those that are left
if_left : (left0 left : Option (List ℕ)) (consumed : List ℕ) (P : List ℕ → Type 0) → left0 ≡ prepend_known consumed left → ((rest : List ℕ) → left ≡ Some rest → P (consumed ++ rest)) → IfSome left0 P
if_left left0 None consumed P e f = rw e tt
if_left left0 (Some rest) consumed P e f = rw e (f rest refl)

at_end : (left : Option (List ℕ)) (rest : List ℕ) → IsAtEnd left → left ≡ Some rest → rest ≡ []
at_end None rest end e = cc
at_end (Some xs) rest end e = cc

pub runs_none : (left held : Option (List ℕ)) (all : List ℕ → Told) → Runs left left held held all all
runs_none left held all = record { consumed = []; source = prepend_known-none left; tells = λ rest. tells_none held (all rest) }

module _ {left0 left held0 held : Option (List ℕ)} {all now : List ℕ → Told} (runs : Runs left0 left held0 held all now) where
  pub runs_more : {left' held' : Option (List ℕ)} (now' : List ℕ → Told) (piece : List ℕ) → left ≡ prepend_known piece left' → ((rest : List ℕ) → Tells held held' (now (piece ++ rest)) (now' rest)) → Runs left0 left' held0 held' all now'
  runs_more {left' = left'} now' piece e more = record {
    consumed = runs.consumed ++ piece;
    source = runs.source ∙ ap (prepend_known runs.consumed) e ∙ prepend_known-twice runs.consumed piece left';
    tells = λ rest. tells_from (ap all (append_assoc runs.consumed piece rest)) (tells_then (runs.tells (piece ++ rest)) (more rest));
  }

  pub runs_front : IfSome left0 (λ bytes. GrewByFront held0 held (all bytes).text)
  runs_front = if_left left0 left runs.consumed (λ bytes. GrewByFront held0 held (all bytes).text) runs.source (λ rest e. front_of_tells (runs.tells rest))

  pub runs_more_front : {held' : Option (List ℕ)} (left' : Option (List ℕ)) (piece : List ℕ) → left ≡ prepend_known piece left' → ((rest : List ℕ) → GrewByFront held held' (now (piece ++ rest)).text) → IfSome left0 (λ bytes. GrewByFront held0 held' (all bytes).text)
  runs_more_front {held' = held'} left' piece e more =
      if_left left0 left' (runs.consumed ++ piece) (λ bytes. GrewByFront held0 held' (all bytes).text)
      (runs.source ∙ ap (prepend_known runs.consumed) e ∙ prepend_known-twice runs.consumed piece left')
      (λ rest e. rw append_assoc (tells_front (runs.tells (piece ++ rest)) (more rest)))

  pub runs_last_front : {held' : Option (List ℕ)} → IsAtEnd left → GrewByFront held held' (now []).text → IfSome left0 (λ bytes. GrewByFront held0 held' (all bytes).text)
  runs_last_front {held' = held'} end last =
      if_left left0 left runs.consumed (λ bytes. GrewByFront held0 held' (all bytes).text) runs.source
      (λ rest e. rw (at_end left rest end e) (tells_front (runs.tells []) last))

  -- and some isn't written: of what is left, or of the next piece, or of the end
  pub runs_less : ((rest : List ℕ) → 0 < length (now rest).text) → IfSome left0 (λ bytes. GrewByLess held0 held (all bytes).text)
  runs_less aloud = if_left left0 left runs.consumed (λ bytes. GrewByLess held0 held (all bytes).text) runs.source (λ rest e. less_of_tells (runs.tells rest) (aloud rest))

  pub runs_more_less : {held' : Option (List ℕ)} (left' : Option (List ℕ)) (piece : List ℕ) → left ≡ prepend_known piece left' → ((rest : List ℕ) → GrewByLess held held' (now (piece ++ rest)).text) → IfSome left0 (λ bytes. GrewByLess held0 held' (all bytes).text)
  runs_more_less {held' = held'} left' piece e more =
      if_left left0 left' (runs.consumed ++ piece) (λ bytes. GrewByLess held0 held' (all bytes).text)
      (runs.source ∙ ap (prepend_known runs.consumed) e ∙ prepend_known-twice runs.consumed piece left')
      (λ rest e. rw append_assoc (tells_less (runs.tells (piece ++ rest)) (more rest)))

  pub runs_last_less : {held' : Option (List ℕ)} → IsAtEnd left → GrewByLess held held' (now []).text → IfSome left0 (λ bytes. GrewByLess held0 held' (all bytes).text)
  runs_last_less {held' = held'} end last =
      if_left left0 left runs.consumed (λ bytes. GrewByLess held0 held' (all bytes).text) runs.source
      (λ rest e. rw (at_end left rest end e) (tells_less (runs.tells []) last))

  -- nothing is found before the end where what is found is told of the whole input
  pub runs_on : {held' : Option (List ℕ)} (piece : List ℕ) → ((rest : List ℕ) → Tells held held' (now (piece ++ rest)) (found [])) → ((bytes : List ℕ) → (all bytes).verdict ≡ Found → (all bytes).closed ≡ true) → ⊥
  runs_on piece more reads =
      let ends = (tells_then (runs.tells (piece ++ [])) (more [])).parts in
      false≢true (sym (ap (λ told. told.closed) ends) ∙ reads _ (ap (λ told. told.verdict) ends))

-- the fault that is answered, if it isn't lack of memory, is one of the sink
pub by_fault : {T : Type 0} (result : Result T Fault) (before later : ℕ) (P : Type 0) → HasCause before later result → (IsErrOf result Write → P) → IfErr result (λ fault. fault ≢ Memory → P)
by_fault (Ok x) before later P cause less = tt
by_fault (Err Read) before later P cause less = absurd (cause.read refl)
by_fault (Err Write) before later P cause less = λ _. less refl
by_fault (Err Memory) before later P cause less = λ no. absurd (no refl)

-- a write fault that is passed on was one
pub write_from : {T U : Type 0} (r : Result T Fault) (s : Result U Fault) (e : Fault) → IsErrAnd r (λ y. y ≡ e) → s ≡ Err e → IsErrOf r Write → IsErrOf s Write
write_from (Ok x) s e same was is = absurd same
write_from (Err y) s e same was is = let written : y ≡ Write = cc in was ∙ ap Err (sym same ∙ written)

-- and a cause of it is kept
pub passed_on : {T U : Type 0} (r : Result T Fault) (s : Result U Fault) (e : Fault) (before later : ℕ) → IsErrAnd r (λ y. y ≡ e) → s ≡ Err e → HasCause before later s → HasCause before later r
passed_on (Ok x) s e before later same was cause = absurd same
passed_on (Err y) s e before later same was cause = record {
  later = cause.later;
  write = λ is. cause.write (write_from (Err y) s e same was is);
  exact = λ other. cause.exact (λ is. let written : y ≡ Write = cc in other (ap Err written));
  read = λ is. let read : y ≡ Read = cc in cause.read (was ∙ ap Err (sym same ∙ read));
}

-- unless a fault is answered, its count is as before
pub ok_exact : {T : Type 0} (r : Result T Fault) (x : T) (before later : ℕ) → r ≡ Ok x → HasCause before later r → later ≡ before
ok_exact (Ok y) x before later is cause = cause.exact (λ written. cc)
ok_exact (Err y) x before later is cause = absurd cc

pub got_exact : (piece : Piece) (n before later : ℕ) → piece ≡ Got n → (piece ≢ Failed → later ≡ before) → later ≡ before
got_exact (Got m) n before later is exact = exact (λ failed. cc)
got_exact End n before later is exact = absurd cc
got_exact Failed n before later is exact = absurd cc
