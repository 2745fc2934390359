-- What the argument of `gen` reads as, and what a parse met.
use Rattle.std.proofs.Common.{◌≡◌, ◌<◌, ℕ, List, codes, Bool, true, false, Option, Some, None, option_and_then, Result, Ok, Err, refl, sym, ◌^◌}
use Rattle.std.specs.Str.Parse.{IsNumeral, ParsesUnsigned, digits_value, without_leading_plus}
use Rattle.std.proofs.lemmas.Bool.{cond_both, and_parts, le-leb, leb-true}
use Rattle.clap.specs.Words.{ReadsOne, Text}
use Rattle.clap.specs.ValueTests.{is_unsigned_in}
use Rattle.clap.proofs.ValueTestLemmas.{accepts-Accepts, Accepts-accepts}
use Rattle.clap.specs.declared.builder.value_parser.ValueParser.TheVariants as vp
use Rattle.clap.specs.Words.{Row, first_of}
use Rattle.xl_words.specs.Commands.{in_range, is_plain, number_from, number_in, rounds_in}

found_some : {E : Type 0} (G : Text → Result ℕ E → Type 0)
    → ((u : Text) (x : Result ℕ E) → G u x → ParsesUnsigned 64 10 u x)
    → (t : Text) (r : Option ℕ) → ReadsOne G t r → number_from t ≡ option_and_then in_range r
found_some G only t (Some n) read =
    let h = only t (Ok n) read in
    go h.0.0 h.0.1 h.1 (is_unsigned_in 1 1000 t) refl
  where
    go : IsNumeral 10 (without_leading_plus t) → digits_value 10 (without_leading_plus t) < 2 ^ 64 → n ≡ digits_value 10 (without_leading_plus t) → (b : Bool) → is_unsigned_in 1 1000 t ≡ b → number_from t ≡ in_range n
    go num small is true e =
        let h = accepts-Accepts false (vp.Unsigned 1 1000) t e in
        rw (e, ← is, le-leb 1 n (rw is h.2), le-leb n 1000 (rw is h.3)) refl
    go num small is false e = cond_both _ _ _ (λ (o : Option ℕ). number_from t ≡ o)
        (λ yes. let parts = and_parts _ _ yes in
        let bad = Accepts-accepts false (vp.Unsigned 1 1000) t (num, small, rw (← is) (leb-true 1 n parts.0), rw (← is) (leb-true n 1000 parts.1)) in
        cc)
        (λ no. rw e refl)
found_some G only t None read = cond_both _ _ _ (λ (o : Option ℕ). o ≡ None)
    (λ yes. let h = accepts-Accepts false (vp.Unsigned 1 1000) t yes in
    absurd (only t (Err read.0) read.1 (h.0, h.1)))
    (λ no. refl)

pub number_found : {E : Type 0} (G : Text → Result ℕ E → Type 0)
    → ((u : Text) (x : Result ℕ E) → G u x → ParsesUnsigned 64 10 u x)
    → (o : Option Text) (r : Option ℕ) → (o ≡ None → r ≡ None) → ((t : Text) → o ≡ Some t → ReadsOne G t r)
    → option_and_then in_range r ≡ option_and_then number_from o
number_found G only None r none some = rw (none refl) refl
number_found G only (Some t) r none some = sym (found_some G only t r (some t refl))

-- the number, by how it is written
pub not_written : (rows : List Row) → first_of (codes "rounds") rows ≡ None → rounds_in rows ≡ None
not_written rows e = rw e refl

pub plainly_written : (rows : List Row) (text : Text) → first_of (codes "rounds") rows ≡ Some text → is_plain text ≡ true → rounds_in rows ≡ number_in rows
plainly_written rows text e plain = rw (e, plain) refl

pub otherwise_written : (rows : List Row) (text : Text) → first_of (codes "rounds") rows ≡ Some text → is_plain text ≡ false → rounds_in rows ≡ None
otherwise_written rows text e plain = rw (e, plain) refl
