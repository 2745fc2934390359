-- What a page is answered by the program's exit statuses. Source: this project's own.
use Rattle.std.specs.Prelude.{◌≡◌, ◌⊎◌, ℕ, List}
use Rattle.xl_lines.specs.declared.machine.Verdict.TheVariants.{Good, Found, Refused}
use Rattle.xl_lines.specs.Rules.{Told}
use Rattle.xl_page.specs.Pages.{HandsAll}

-- the whole text is handed out, and the code says how it ends, or the code is that of lack of memory
pub record IsAnswer (told : Told) (code n : ℕ) (room : List ℕ) : Type 0 where
  pub done : code ≡ 0 → HandsAll Good told n room
  pub fork : code ≡ 1 → HandsAll Found told n room
  pub refused : code ≡ 3 → HandsAll Refused told n room
  pub known : (code ≡ 0) ⊎ (code ≡ 1) ⊎ (code ≡ 3) ⊎ (code ≡ 6)
