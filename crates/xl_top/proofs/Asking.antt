-- What the words ask, and what holds if nothing was done.
use Rattle.std.proofs.Common.{◌≡◌, Option, Some, None, Result, Ok, Err, IfSome, ◌⊎◌, inl, inr, refl, sym, subst}
use Rattle.xl_words.specs.declared.command.Command.{Command}
use Rattle.xl_words.specs.declared.command.WordsFault.{WordsFault}
use Rattle.xl_words.specs.declared.command.WordsFault.TheVariants.{Refused as WordsRefused, Memory as NoMemory}

-- the command that is asked
pub by_asked : {X : Type 0} (o : Option X) (c : X) (P : X → Type 0) → o ≡ Some c → P c → IfSome o P
by_asked {X} o c P is holds = subst (λ (x : Option X). IfSome x P) (sym is) holds

-- nothing is asked if the words are refused
pub unasked : (o : Option Command) (r : Result Command WordsFault) → r ≡ Err WordsRefused → ((c : Command) → o ≡ Some c → (r ≡ Ok c) ⊎ (r ≡ Err NoMemory)) → o ≡ None
unasked None r is given = refl
unasked (Some c) r is given = go (given c refl)
  where
    go : (r ≡ Ok c) ⊎ (r ≡ Err NoMemory) → Some c ≡ None
    go (inl ok) = cc
    go (inr memory) = cc

pub by_none : {X : Type 0} (o : Option X) (P : X → Type 0) → o ≡ None → IfSome o P
by_none o P none = rw none tt
