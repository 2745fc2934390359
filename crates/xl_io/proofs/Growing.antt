-- What a sink holds, as it grows.
use Rattle.std.proofs.Common.{◌≡◌, ◌<◌, ◌++◌, length, ℕ, List, [], Some, None, Option, take, drop, refl, sym, ap, ◌∙◌, append_assoc, append-nil}
use Rattle.std.proofs.lemmas.List.{take-append-drop}
use Rattle.std.specs.Io.KnownBytes.{append_known}
use Rattle.xl_io.specs.Sinks.{GrewByFront, GrewByLess}

-- Of all the bytes, those that aren't in the rest are held.
pub record Written (old new : Option (List ℕ)) (all rest : List ℕ) : Type 0 where
  pub front : List ℕ
  pub parts : all ≡ front ++ rest
  pub held : new ≡ append_known old front

-- nothing more is held
pub append_known-none : (known : Option (List ℕ)) → append_known known [] ≡ known
append_known-none None = refl
append_known-none (Some xs) = ap Some (append-nil xs)

-- first some bytes, and then others
pub append_known-twice : (known : Option (List ℕ)) (xs ys : List ℕ) → append_known (append_known known xs) ys ≡ append_known known (xs ++ ys)
append_known-twice None xs ys = refl
append_known-twice (Some bytes) xs ys = ap Some (append_assoc bytes xs ys)

pub written_none : (known : Option (List ℕ)) (all : List ℕ) → Written known known all all
written_none known all = record { front = []; parts = refl; held = sym (append_known-none known) }

pub written_more : (old mid new : Option (List ℕ)) (all rest : List ℕ) (n : ℕ) → Written old mid all rest → new ≡ append_known mid (take n rest) → Written old new all (drop n rest)
written_more old mid new all rest n w more = record {
  front = w.front ++ take n rest;
  parts = w.parts ∙ ap (λ xs. w.front ++ xs) (sym (take-append-drop n rest)) ∙ sym (append_assoc w.front (take n rest) (drop n rest));
  held = more ∙ ap (λ known. append_known known (take n rest)) w.held ∙ append_known-twice old w.front (take n rest);
}

pub front_of_written : (old new : Option (List ℕ)) (all rest : List ℕ) → Written old new all rest → GrewByFront old new all
front_of_written old new all rest w = record { written = w.front; missing = rest; parts = w.parts; held = w.held }

pub less_of_written : (old mid new : Option (List ℕ)) (all rest : List ℕ) → Written old mid all rest → new ≡ mid → 0 < length rest → GrewByLess old new all
less_of_written old mid new all rest w same some = (record { written = w.front; missing = rest; parts = w.parts; held = same ∙ w.held }, some)

pub all_written : (old new : Option (List ℕ)) (all : List ℕ) → Written old new all [] → new ≡ append_known old all
all_written old new all w = w.held ∙ ap (append_known old) (sym (append-nil w.front) ∙ sym w.parts)
