-- Lines hand publishers what they say, and the law of rolls does the rest.
use Rattle.std.proofs.Common.{◌≡◌, ℕ, ◌/◌, List, [], ◌∷◌, Option, refl, sym, ap, ◌∙◌}
use Rattle.xl_publish.specs.Forces.{list_at}
use Rattle.xl_publish.specs.Registers.{Register}
use Rattle.xl_publish.specs.Runs.{after_from}
use Rattle.xl_publish.proofs.RunLaws.{keeps_alike}
use Rattle.xl_merge.specs.declared.line.Line.{Line}
use Rattle.xl_merge.specs.declared.line.Line.TheVariants as line
use Rattle.xl_merge.specs.Merging.{Merging, at_first, after_line}
use Rattle.xl_merge.specs.Orders.{after_lines, acts_of, ListsAlike}
use Rattle.xl_merge.specs.Texts.{list_text}

-- what publishers have after lines is what they have after the acts
registered : (m : Merging) (lines : List Line) → (after_lines m lines).register ≡ after_from m.register (acts_of lines)
registered m [] = refl
registered m (line.Publisher publisher key ∷ lines) = registered (after_line m (line.Publisher publisher key)) lines
registered m (line.Threshold threshold ∷ lines) = registered (after_line m (line.Threshold threshold)) lines
registered m (line.Roll bytes ∷ lines) = registered (after_line m (line.Roll bytes)) lines
registered m (line.At at ∷ lines) = registered (after_line m (line.At at)) lines
registered m (line.List ∷ lines) = registered (after_line m line.List) lines

abbrev told : List (Option (List ℕ)) → ℕ → ℕ → List ℕ
told kept now threshold = list_text (list_at kept (now / 1000) threshold)

pub lists_alike : ListsAlike
lists_alike a b same threshold now =
    let kept : (after_lines at_first a).register.kept ≡ (after_lines at_first b).register.kept =
    ap (λ (r : Register). r.kept) (registered at_first a) ∙ keeps_alike (acts_of a) (acts_of b) same ∙ ap (λ (r : Register). r.kept) (sym (registered at_first b)) in
    ap (λ (k : List (Option (List ℕ))). told k (after_lines at_first a).now (after_lines at_first a).threshold) kept
    ∙ ap (λ (n : ℕ). told (after_lines at_first b).register.kept n (after_lines at_first a).threshold) now
    ∙ ap (told (after_lines at_first b).register.kept (after_lines at_first b).now) threshold
