-- The lines of entries that stand behind others.
use Rattle.std.proofs.Common.{◌≡◌, ◌++◌, ℕ, List, [], ◌∷◌, ap, refl, subst, sym, ◌∙◌, append_assoc}
use Rattle.xl_turns.specs.Histories.{IsLegal, Runs}
use Rattle.xl_core.specs.Core.{Core}
use Rattle.xl_core.specs.CoreLives.{core_after}
use Rattle.xl_store.specs.declared.entry.Entry.{Entry}
use Rattle.xl_store.specs.Entries.{Leads, life_of, reply_of}
use Rattle.xl_audit.specs.Lines.{Lines, MayStand, behind, behind_all, line_at, text_from}

pub text_append : (at : Lines) (xs ys : List Entry)
    → text_from at (xs ++ ys) ≡ text_from at xs ++ text_from (behind_all at xs) ys
text_append at [] ys = refl
text_append at (x ∷ xs) ys =
    ap (λ (text : List ℕ). line_at at x ++ text) (text_append (behind at x) xs ys)
    ∙ sym (append_assoc (line_at at x) (text_from (behind at x) xs) (text_from (behind_all (behind at x) xs) ys))

pub behind_append : (at : Lines) (xs ys : List Entry) → behind_all at (xs ++ ys) ≡ behind_all (behind_all at xs) ys
behind_append at [] ys = refl
behind_append at (x ∷ xs) ys = behind_append (behind at x) xs ys

pub legal_front : (core : Core) (xs ys : List Entry) → IsLegal Leads core (xs ++ ys) → IsLegal Leads core xs
legal_front core [] ys l = (core, refl)
legal_front core (x ∷ xs) ys l =
    let front : IsLegal Leads l.1.0 xs = legal_front l.1.0 xs ys (l.0, l.1.2) in (front.0, (l.1.0, l.1.1, front.1))

pub legal_rest : (core : Core) (xs ys : List Entry) → IsLegal Leads core (xs ++ ys)
    → IsLegal Leads (core_after core (life_of xs)) ys
legal_rest core [] ys l = l
legal_rest core (x ∷ xs) ys l =
    legal_rest (reply_of core x).core xs ys
    (l.0, subst (λ (c : Core). Runs Leads c (xs ++ ys) l.0) l.1.1.core l.1.2)

-- the first of legal entries may stand there
pub first_stands : (core : Core) (e : Entry) (es : List Entry) → IsLegal Leads core (e ∷ es) → MayStand core e
first_stands core e es l = record { allowed = l.1.1.allowed; outcome = l.1.1.outcome }
