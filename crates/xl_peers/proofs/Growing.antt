-- What a link took and told, as it grows.
use Rattle.std.proofs.Common.{◌≡◌, ◌++◌, ℕ, List, [], Some, None, Option, take, drop, refl, sym, ap, ◌∙◌, append_assoc}
use Rattle.std.proofs.Common.{append-nil, arith, subst, inl, inr}
use Rattle.std.proofs.lemmas.List.{take-append-drop}
use Rattle.std.specs.Io.KnownBytes.{prepend_known, append_known}
use Rattle.xl_io.specs.declared.sink.Wrote.TheVariants.{Took}
use Rattle.xl_links.specs.Links.{Wire, Writes}
use Rattle.xl_links.specs.Tellings.{append_told, AddsTold}
use Rattle.xl_peers.specs.Going.{Sent}

pub append_known-none : (known : Option (List ℕ)) → append_known known [] ≡ known
append_known-none None = refl
append_known-none (Some xs) = ap Some (append-nil xs)

pub append_known-twice : (known : Option (List ℕ)) (xs ys : List ℕ)
    → append_known (append_known known xs) ys ≡ append_known known (xs ++ ys)
append_known-twice None xs ys = refl
append_known-twice (Some bytes) xs ys = ap Some (append_assoc bytes xs ys)

pub prepend_known-none : (known : Option (List ℕ)) → prepend_known [] known ≡ known
prepend_known-none None = refl
prepend_known-none (Some xs) = refl

pub prepend_known-twice : (xs ys : List ℕ) (known : Option (List ℕ))
    → prepend_known xs (prepend_known ys known) ≡ prepend_known (xs ++ ys) known
prepend_known-twice xs ys None = refl
prepend_known-twice xs ys (Some bytes) = ap Some (sym (append_assoc xs ys bytes))

module _ {A : Type 0} where
  pub append_told-none : (told : Option (List A)) → append_told told [] ≡ told
  append_told-none None = refl
  append_told-none (Some xs) = ap Some (append-nil xs)

  append_told-twice : (told : Option (List A)) (xs ys : List A)
      → append_told (append_told told xs) ys ≡ append_told told (xs ++ ys)
  append_told-twice None xs ys = refl
  append_told-twice (Some zs) xs ys = ap Some (append_assoc zs xs ys)

  -- nothing more is told
  pub tells_nothing : (told : Option (List A)) → AddsTold told told []
  tells_nothing told = inr (sym (append_told-none told))

  -- first some, and then others
  pub tells_both : (old mid new : Option (List A)) (xs ys : List A) → AddsTold old mid xs → AddsTold mid new ys
      → AddsTold old new (xs ++ ys)
  tells_both old mid new xs ys a (inl none) = inl none
  tells_both old mid new xs ys (inl none) (inr e) =
      inl (e ∙ ap (λ (told : Option (List A)). append_told told ys) none)
  tells_both old mid new xs ys (inr d) (inr e) =
      inr (e ∙ ap (λ (told : Option (List A)). append_told told ys) d ∙ append_told-twice old xs ys)

  -- what is told stays, and so do those that were added
  pub tells_same : (old mid new : Option (List A)) (xs ys : List A) → new ≡ mid → ys ≡ xs → AddsTold old mid xs
      → AddsTold old new ys
  tells_same old mid new xs ys stays are a =
      subst (λ (l : List A). AddsTold old new l) (sym are)
      (subst (λ (told : Option (List A)). AddsTold old told xs) (sym stays) a)

-- of all the bytes, those that aren't in the rest were sent
pub record Sending (old new : Wire) (all rest : List ℕ) : Type 0 where
  pub front : List ℕ
  pub parts : all ≡ front ++ rest
  pub sent : Sent old front new

pub sent_none : (w : Wire) → Sent w [] w
sent_none w = record { took = sym (append_known-none w.took); left = refl; openings = refl; readings = refl; permissions = refl; later = omega arith }

pub sent_both : (old mid new : Wire) (xs ys : List ℕ) → Sent old xs mid → Sent mid ys new → Sent old (xs ++ ys) new
sent_both old mid new xs ys a b = record {
  took = b.took ∙ ap (λ known. append_known known ys) a.took ∙ append_known-twice old.took xs ys;
  left = b.left ∙ a.left;
  openings = b.openings ∙ a.openings;
  readings = b.readings ∙ a.readings;
  permissions = b.permissions ∙ a.permissions;
  later = let p = a.later in let q = b.later in omega arith;
}

pub sending_more : (old mid new : Wire) (all rest : List ℕ) (n : ℕ) → Sending old mid all rest
    → Sent mid (take n rest) new → Sending old new all (drop n rest)
sending_more old mid new all rest n s more = record {
  front = s.front ++ take n rest;
  parts = s.parts ∙ ap (λ xs. s.front ++ xs) (sym (take-append-drop n rest))
      ∙ sym (append_assoc s.front (take n rest) (drop n rest));
  sent = sent_both old mid new s.front (take n rest) s.sent more;
}

pub sent_took : (old new : Wire) (n : ℕ) (rest : List ℕ) → Writes old (Took n) rest new → Sent old (take n rest) new
sent_took old new n rest w = record { took = w.took; left = w.left; openings = w.openings; readings = w.readings; permissions = w.permissions; later = w.later }
