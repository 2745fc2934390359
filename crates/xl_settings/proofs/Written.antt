-- Texts that are written one after the other.
use Rattle.std.proofs.Common.{◌≡◌, ◌∙◌, ℕ, List, ◌++◌, Option, Result, Ok, Err, OnErr, sym, ap, arith, append_assoc}
use Rattle.std.proofs.lemmas.List.{length-append}
use Rattle.std.specs.Io.KnownBytes.{append_known}
use Rattle.xl_io.specs.Sinks.{GrewByFront, GrewByLess}
use Rattle.xl_io.proofs.Growing.{append_known-twice}

-- a front of the first text is one of both
pub front_of_first : (old new : Option (List ℕ)) (a b : List ℕ) → GrewByFront old new a → GrewByFront old new (a ++ b)
front_of_first old new a b f = record {
  written = f.written;
  missing = f.missing ++ b;
  parts = ap (λ (xs : List ℕ). xs ++ b) f.parts ∙ append_assoc f.written f.missing b;
  held = f.held;
}

pub less_of_first : (old new : Option (List ℕ)) (a b : List ℕ) → GrewByLess old new a → GrewByLess old new (a ++ b)
unfolding front_of_first
less_of_first old new a b less = (
  front_of_first old new a b less.0,
  omega
      (arith, less.1, length-append less.0.missing b),
)

-- the first text, and a front of the second
pub front_of_second : (old mid new : Option (List ℕ)) (a b : List ℕ) → mid ≡ append_known old a
    → GrewByFront mid new b → GrewByFront old new (a ++ b)
front_of_second old mid new a b first f = record {
  written = a ++ f.written;
  missing = f.missing;
  parts = ap (λ (xs : List ℕ). a ++ xs) f.parts ∙ sym (append_assoc a f.written f.missing);
  held = f.held ∙ ap (λ known. append_known known f.written) first ∙ append_known-twice old a f.written;
}

pub less_of_second : (old mid new : Option (List ℕ)) (a b : List ℕ) → mid ≡ append_known old a
    → GrewByLess mid new b → GrewByLess old new (a ++ b)
unfolding front_of_second
less_of_second old mid new a b first less = (front_of_second old mid new a b first less.0, less.1)

-- both
pub both : (old mid new : Option (List ℕ)) (a b : List ℕ) → mid ≡ append_known old a → new ≡ append_known mid b
    → new ≡ append_known old (a ++ b)
both old mid new a b first second = second ∙ ap (λ known. append_known known b) first ∙ append_known-twice old a b

-- a fact stands by any answer
pub on_err : {T E P : Type 0} (r : Result T E) → P → OnErr r P
on_err (Ok x) h = tt
on_err (Err e) h = h
