-- Each declared name stands for one id: a name is declared once.
use Rattle.std.proofs.Common.{◌≡◌, ◌∙◌, refl, sym, ap, Bool, true, false, cond, ℕ, List, [], ◌∷◌, ◌++◌, find, Option, Some, None, option_map, Result, Ok, Err, arith}
use Rattle.std.specs.Prelude.{All}
use Rattle.std.specs.Option.{option_or}
use Rattle.std.specs.Str.{bytes_eq}
use Rattle.std.proofs.lemmas.List.Elements.{All-append, All-cons, All-nil, All-weaker}
use Rattle.std.proofs.lemmas.List.Folds.{find-append}
use Rattle.std.proofs.lemmas.Slice.Eq.{bytes_eq-Decides}
use Rattle.xl_ledger.specs.Headers.{header_id}
use Rattle.xl_sched.specs.declared.line.Line.{Line}
use Rattle.xl_sched.specs.declared.line.Line.TheVariants as line
use Rattle.xl_sched.specs.declared.named.Named.{Named}
use Rattle.xl_sched.specs.declared.refusal.SchedRefusal.{SchedRefusal}
use Rattle.xl_sched.specs.Answers.{LineAnswer, passes, gives, refuses, answer_to, bounded_line, reading_of}
use Rattle.xl_sched.specs.Names.{is_name, id_named, root}
use Rattle.xl_sched.specs.Reading.{Reading}
use Rattle.xl_running.proofs.Declaring.{AnswerDeclares, IsNew, reading_declares}

-- it is spelled as a name is, and by it its own id is found
pub record StandsForOne (names : List Named) (n : Named) : Type 0 where
  pub spelled : is_name n.name ≡ true
  pub own : id_named names n.name ≡ Some n.id

abbrev pub AreNames : List Named → Type 0
AreNames names = All (StandsForOne names) names

pub root_names : AreNames (root ∷ [])
root_names = All-cons (StandsForOne (root ∷ [])) root [] (record { spelled = refl; own = refl }) (All-nil (StandsForOne (root ∷ [])))

-- a name that is found stands where it did before others
found_before : (first last : Option Named) (id : List ℕ) → option_map (λ n. n.id) first ≡ Some id → option_map (λ n. n.id) (option_or first last) ≡ Some id
found_before None last id e = cc
found_before (Some n) last id e = e

found_behind : (first last : Option Named) → option_map (λ n. n.id) first ≡ None → option_or first last ≡ last
found_behind None last e = refl
found_behind (Some n) last e = cc

named_more : (names : List Named) (n : Named) → AreNames names → IsNew names n.name → AreNames (names ++ n ∷ [])
named_more names n are new =
    All-append (StandsForOne (names ++ n ∷ [])) names (n ∷ [])
    (All-weaker (StandsForOne names) (StandsForOne (names ++ n ∷ [])) (λ m stands. record { spelled = stands.spelled; own = still m.name m.id stands.own }) names are)
    (All-cons (StandsForOne (names ++ n ∷ [])) n [] (record { spelled = new.spelled; own = itself }) (All-nil (StandsForOne (names ++ n ∷ []))))
  where
    still : (name id : List ℕ) → id_named names name ≡ Some id → id_named (names ++ n ∷ []) name ≡ Some id
    still name id e = ap (option_map (λ m. m.id)) (find-append (λ m. bytes_eq name m.name) names (n ∷ [])) ∙ found_before (find (λ m. bytes_eq name m.name) names) (find (λ m. bytes_eq name m.name) (n ∷ [])) id e

    same : bytes_eq n.name n.name ≡ true
    same = grind (arith, bytes_eq-Decides)

    alone : find (λ m. bytes_eq n.name m.name) (n ∷ []) ≡ Some n
    alone = rw same refl

    itself : id_named (names ++ n ∷ []) n.name ≡ Some n.id
    itself =
        ap (option_map (λ m. m.id)) (find-append (λ m. bytes_eq n.name m.name) names (n ∷ []) ∙ (found_behind (find (λ m. bytes_eq n.name m.name) names) (find (λ m. bytes_eq n.name m.name) (n ∷ [])) new.unused ∙ alone))

-- what a reader knows after a line has such names
abbrev pub AnswerNames : LineAnswer → Type 0
AnswerNames (passes reading) = AreNames reading.names
AnswerNames (gives l reading) = AreNames reading.names
AnswerNames (refuses why) = Unit {0}

answer_names : (reading : Reading) (r : Result (Option Line) SchedRefusal) → AreNames reading.names → AnswerDeclares reading.names (answer_to reading r) → AnswerNames (answer_to reading r)
answer_names reading (Err e) are declared = tt
answer_names reading (Ok (Some (line.Name name id))) are declared = named_more reading.names (record { name = name; id = id; header = None }) are declared
answer_names reading (Ok (Some (line.Ledger name parent header))) are declared = named_more reading.names (record { name = name; id = (header_id header).0; header = Some header }) are declared
answer_names reading other are declared = are

pub reading_names : (reading : Reading) (sent : ℕ) (bytes : List ℕ) → AreNames reading.names → AnswerNames (reading_of reading sent bytes)
reading_names reading sent bytes are = answer_names reading (bounded_line reading sent bytes) are (reading_declares reading sent bytes)
