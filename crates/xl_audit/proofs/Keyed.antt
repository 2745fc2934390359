-- Whose keys a ring has.
use Rattle.std.proofs.Common.{◌≡◌, ◌==◌, ℕ, List, not, length, refl, Ok, Err}
use Rattle.std.specs.Prelude.{is_some}
use Rattle.std.proofs.lemmas.Bool.{cond_both}
use Rattle.xl_tags.specs.Rings.{Ring, key_of, with_key, no_keys}
use Rattle.xl_sched.specs.Members.{member_of}
use Rattle.xl_sched.specs.Refusals.{miscounted}
use Rattle.xl_sched.specs.declared.refusal.SchedRefusal.TheVariants.{Number, Twice}
use Rattle.xl_audit.specs.Opening.{key_in, with_new_key}
use Rattle.xl_audit.specs.Tokens.{id_of}
use Rattle.xl_audit.specs.Words.{others, word_at}
use Rattle.xl_audit.proofs.Fitting.{Holds, held, then_}

pub no_keys_of : (me : ℕ) → (no_keys me).me ≡ me
unfolding no_keys
no_keys_of me = refl

new_key_keeps : (ring : Ring) (m : ℕ) (token digits : List ℕ)
    → Holds (λ r. r.me ≡ ring.me) (with_new_key ring m token digits)
new_key_keeps ring m token digits =
    cond_both (m == ring.me) (Err (Number token)) _ (Holds (λ r. r.me ≡ ring.me)) (λ _. tt)
    (λ _. cond_both (is_some (key_of ring m)) (Err (Twice token)) _ (Holds (λ r. r.me ≡ ring.me)) (λ _. tt)
    (λ _. then_ (λ r. r.me ≡ ring.me) (id_of digits) (λ key. Ok (with_key ring m key)) (λ key. refl)))

key_in_keeps : (ring : Ring) (words : List (List ℕ)) → Holds (λ r. r.me ≡ ring.me) (key_in ring words)
key_in_keeps ring words =
    cond_both (not (length (others words) == 2)) (miscounted (others words)) _ (Holds (λ r. r.me ≡ ring.me)) (λ _. tt)
    (λ _. then_ (λ r. r.me ≡ ring.me) (member_of (word_at (others words) 0)) _
    (λ m. new_key_keeps ring m (word_at (others words) 0) (word_at (others words) 1)))

-- one key more, and it is the same member's ring
pub still_own : (ring after : Ring) (words : List (List ℕ)) → key_in ring words ≡ Ok after → after.me ≡ ring.me
still_own ring after words is = held (λ r. r.me ≡ ring.me) (key_in ring words) after (key_in_keeps ring words) is
