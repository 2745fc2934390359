-- What is written of a journal's text, as it grows.
use Rattle.std.proofs.Common.{◌≡◌, ◌++◌, ℕ, List, [], ◌∷◌, Option, Some, None, Result, Ok, Err, refl, sym, ap, ◌∙◌, subst, append_assoc, arith, length-append}
use Rattle.std.specs.Prelude.{IfNone, IfSome, OnOk}
use Rattle.std.specs.Io.KnownBytes.{append_known}
use Rattle.xl_io.specs.Sinks.{GrewByFront, GrewByLess}
use Rattle.xl_io.proofs.Growing.{Written, append_known-twice}
use Rattle.xl_lines.specs.Causes.{HasCause}
use Rattle.xl_lines.specs.declared.fault.Fault.{Fault}
use Rattle.xl_turns.specs.Histories.{IsLegal, Runs}
use Rattle.xl_core.specs.Core.{Core}
use Rattle.xl_store.specs.declared.entry.Entry.{Entry}
use Rattle.xl_store.specs.Entries.{Leads, reply_of}
use Rattle.xl_audit.specs.Lines.{Lines, MayStand, behind, line_at, text_from}

-- THE NEXT PIECE

module _ (old mid new : Option (List ℕ)) (all piece rest : List ℕ) (so_far : Written old mid all (piece ++ rest)) where
  -- the piece is written too
  pub piece_written : new ≡ append_known mid piece → Written old new all rest
  piece_written grew = record {
    front = so_far.front ++ piece;
    parts = so_far.parts ∙ sym (append_assoc so_far.front piece rest);
    held = grew ∙ ap (λ (known : Option (List ℕ)). append_known known piece) so_far.held ∙ append_known-twice old so_far.front piece;
  }

  -- or a front of it
  pub piece_front : GrewByFront mid new piece → GrewByFront old new all
  piece_front grew = record {
    written = so_far.front ++ grew.written;
    missing = grew.missing ++ rest;
    parts = so_far.parts
        ∙ ap (λ (xs : List ℕ). so_far.front ++ (xs ++ rest)) grew.parts
        ∙ ap (λ (xs : List ℕ). so_far.front ++ xs) (append_assoc grew.written grew.missing rest)
        ∙ sym (append_assoc so_far.front grew.written (grew.missing ++ rest));
    held = grew.held ∙ ap (λ (known : Option (List ℕ)). append_known known grew.written) so_far.held
        ∙ append_known-twice old so_far.front grew.written;
  }

  pub piece_less : GrewByLess mid new piece → GrewByLess old new all
  unfolding piece_front
  piece_less grew = (piece_front grew.0, omega (arith, grew.1, length-append grew.0.missing rest))

-- THE NEXT ENTRY

module _ (at : Lines) (left : List Entry) (e : Entry) (es : List Entry) (next : left ≡ e ∷ es) where
  next_legal : IsLegal Leads at.core left → IsLegal Leads at.core (e ∷ es)
  next_legal legal = subst (IsLegal Leads at.core) next legal

  pub next_stands : IsLegal Leads at.core left → MayStand at.core e
  next_stands legal = record {
    allowed = (next_legal legal).1.1.allowed;
    outcome = (next_legal legal).1.1.outcome;
  }

  module _ (after : Lines) (is : after ≡ behind at e) where
    pub later_legal : IsLegal Leads at.core left → IsLegal Leads after.core es
    later_legal legal =
        let it = next_legal legal in
        let core : (reply_of at.core e).core ≡ after.core = ap (λ (l : Lines). l.core) (sym is) in
        (it.0, subst (λ (c : Core). Runs Leads c es it.0) (it.1.1.core ∙ core) it.1.2)

    pub next_text : text_from at left ≡ line_at at e ++ text_from after es
    next_text = ap (text_from at) next ∙ ap (λ (l : Lines). line_at at e ++ text_from l es) (sym is)

    -- the same is written, with the next line in front of what is left
    pub next_written : (old mid : Option (List ℕ)) (all : List ℕ) → Written old mid all (text_from at left)
        → Written old mid all (line_at at e ++ text_from after es)
    next_written old mid all w = record {
      front = w.front;
      parts = w.parts ∙ ap (λ (xs : List ℕ). w.front ++ xs) next_text;
      held = w.held;
    }

-- what is said of what is there
pub some_so : {A : Type 0} (o : Option A) (x : A) (P : A → Type 0) → o ≡ Some x → IfSome o P → P x
some_so {A} o x P is h = subst (λ (it : Option A). IfSome it P) is h

-- nothing is left
pub none_left : {A : Type 0} (r : Option A) (P Q : Type 0) → r ≡ None → IfNone r (P × Q) → P
none_left None P Q is both = both.0
none_left (Some x) P Q is both = absurd (cc)

pub last_written : (old mid : Option (List ℕ)) (all : List ℕ) (at : Lines) (left : List Entry) → left ≡ []
    → Written old mid all (text_from at left) → Written old mid all []
last_written old mid all at left last w = record {
  front = w.front;
  parts = w.parts ∙ ap (λ (es : List Entry). w.front ++ text_from at es) last;
  held = w.held;
}

-- a cause behind calls that didn't fail is a cause of all of them
pub caused_later : {T : Type 0} (r : Result T Fault) (before mid later : ℕ) → mid ≡ before → HasCause mid later r → HasCause before later r
caused_later r before mid later same cause = subst (λ (n : ℕ). HasCause n later r) same cause

pub caused_none : {T : Type 0} (x : T) (before later : ℕ) → later ≡ before → HasCause before later (Ok x)
caused_none x before later same = record {
  later = omega (arith, same);
  write = λ is. absurd cc;
  exact = λ _. same;
  read = λ is. cc;
}

-- THE HEAD, AND THEN THE ENTRIES

module _ (old new : Option (List ℕ)) (head rest : List ℕ) where
  pub front_before : GrewByFront old new head → GrewByFront old new (head ++ rest)
  front_before grew = record {
    written = grew.written;
    missing = grew.missing ++ rest;
    parts = ap (λ (xs : List ℕ). xs ++ rest) grew.parts ∙ append_assoc grew.written grew.missing rest;
    held = grew.held;
  }

  pub less_before : GrewByLess old new head → GrewByLess old new (head ++ rest)
  unfolding front_before
  less_before grew = (front_before grew.0, omega (arith, grew.1, length-append grew.0.missing rest))

  pub front_at : new ≡ append_known old head → GrewByFront old new (head ++ rest)
  front_at grew = record { written = head; missing = rest; parts = refl; held = grew }

module _ (old mid new : Option (List ℕ)) (head rest : List ℕ) (first : mid ≡ append_known old head) where
  pub whole_behind : {T : Type 0} (r : Result T Fault) → OnOk r (new ≡ append_known mid rest) → OnOk r (new ≡ append_known old (head ++ rest))
  whole_behind (Ok x) grew =
      grew ∙ ap (λ (known : Option (List ℕ)). append_known known rest) first ∙ append_known-twice old head rest
  whole_behind (Err e) grew = tt

  pub front_behind : GrewByFront mid new rest → GrewByFront old new (head ++ rest)
  front_behind grew = record {
    written = head ++ grew.written;
    missing = grew.missing;
    parts = ap (λ (xs : List ℕ). head ++ xs) grew.parts ∙ sym (append_assoc head grew.written grew.missing);
    held = grew.held ∙ ap (λ (known : Option (List ℕ)). append_known known grew.written) first
        ∙ append_known-twice old head grew.written;
  }

  pub less_behind : GrewByLess mid new rest → GrewByLess old new (head ++ rest)
  unfolding front_behind
  less_behind grew = (front_behind grew.0, grew.1)
