-- The first of some causes.
use Rattle.std.proofs.Common.{◌≡◌, ◌∙◌, ◌++◌, List, Option, Some, None, ap, refl}
use Rattle.std.specs.Option.{option_or, unwrap_or}
use Rattle.std.specs.Prelude.{option_to_list}
use Rattle.xl_base.specs.declared.status.Status.{Status}
use Rattle.xl_base.specs.declared.status.Status.TheVariants.{Done}
use Rattle.xl_heartbeat.specs.Statuses.{first_of}

first_there : (a b c d : Option Status)
    → unwrap_or (option_or (option_or (option_or a b) c) d) Done
    ≡ first_of (option_to_list a ++ option_to_list b ++ option_to_list c ++ option_to_list d)
first_there (Some s) b c d = refl
first_there None (Some s) c d = refl
first_there None None (Some s) d = refl
first_there None None None (Some s) = refl
first_there None None None None = refl

-- the first of four that is there, or none
pub first_met : (a b c d : Option Status) (ws xs ys zs : List Status)
    → option_to_list a ≡ ws → option_to_list b ≡ xs → option_to_list c ≡ ys → option_to_list d ≡ zs
    → unwrap_or (option_or (option_or (option_or a b) c) d) Done ≡ first_of (ws ++ xs ++ ys ++ zs)
first_met a b c d ws xs ys zs first second third last =
    first_there a b c d
    ∙ ap (λ (l : List Status). first_of (l ++ option_to_list b ++ option_to_list c ++ option_to_list d)) first
    ∙ ap (λ (l : List Status). first_of (ws ++ l ++ option_to_list c ++ option_to_list d)) second
    ∙ ap (λ (l : List Status). first_of (ws ++ xs ++ l ++ option_to_list d)) third
    ∙ ap (λ (l : List Status). first_of (ws ++ xs ++ ys ++ l)) last
