-- A page is an answer by its code.
use Rattle.std.proofs.Common.{ℕ, List, inl, inr, refl}
use Rattle.xl_base.specs.Statuses.{code_of}
use Rattle.xl_base.specs.declared.status.Status.{Status}
use Rattle.xl_base.specs.declared.status.Status.TheVariants.{Done, Fork, InputRefused, OutOfMemory}
use Rattle.xl_lines.specs.Rules.{Told}
use Rattle.xl_page.specs.Pages.{IsPage}
use Rattle.xl_web.specs.Answers.{IsAnswer}

pub answers : (told : Told) (status : Status) (n : ℕ) (room : List ℕ) → IsPage told status n room
    → IsAnswer told (code_of status) n room
answers told Done n room page = record { done = λ _. page; fork = λ is. cc; refused = λ is. cc; known = inl refl }
answers told Fork n room page = record { done = λ is. cc; fork = λ _. page; refused = λ is. cc; known = inr (inl refl) }
answers told InputRefused n room page =
    record { done = λ is. cc; fork = λ is. cc; refused = λ _. page; known = inr (inr (inl refl)) }
answers told OutOfMemory n room page =
    record { done = λ is. cc; fork = λ is. cc; refused = λ is. cc; known = inr (inr (inr refl)) }
answers told other n room page = elim page [ ]
