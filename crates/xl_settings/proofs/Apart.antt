-- What the keys of a journal say of each other.
use Rattle.std.proofs.Common.{◌≡◌, ◌≤◌, ℕ, Bool, true, false, List, Option, Some, None, IfSome, refl, subst, arith, not}
use Rattle.std.proofs.lemmas.Option.{same_Some}
use Rattle.toml.specs.Data.{Data}
use Rattle.xl_settings.specs.Journals.{bytes_from, is_behind}
use Rattle.xl_settings.specs.Limits.{usual_journal_bytes, greatest_journal_bytes}
use Rattle.xl_settings.specs.Paths.{path_if}
use Rattle.xl_settings.proofs.Bounds.{whole_bounded}

file_apart : (behind : Bool) (value : Option Data) (file : Option (List ℕ)) → path_if (not behind) value ≡ Some file
    → IfSome file (λ _. behind ≡ false)
file_apart behind None file e = subst (λ (o : Option (List ℕ)). IfSome o (λ _. behind ≡ false)) (same_Some None file e) tt
file_apart true (Some value) file e = cc
file_apart false (Some value) None e = tt
file_apart false (Some value) (Some path) e = refl

-- a journal that is written to a file isn't written behind the run
pub apart : (asked : Option Bool) (journal : Bool) (value : Option Data) (file : Option (List ℕ))
    → asked ≡ Some journal → path_if (not (is_behind asked)) value ≡ Some file
    → IfSome file (λ _. journal ≡ false)
apart None journal value file e f = cc
apart (Some behind) journal value file e f =
    subst (λ (b : Bool). IfSome file (λ _. b ≡ false)) (same_Some behind journal e) (file_apart behind value file f)

pub bytes_bounded : (file : Bool) (value : Option Data) (n : ℕ) → bytes_from file value ≡ Some n
    → (1 ≤ n) × (n ≤ greatest_journal_bytes)
bytes_bounded file None n e =
    let same : usual_journal_bytes ≡ n = same_Some usual_journal_bytes n e in
    (omega (arith, same), omega (arith, same))
bytes_bounded true (Some value) n e = whole_bounded 1 greatest_journal_bytes n value e
bytes_bounded false (Some value) n e = cc
