-- If all that was heard was given, and no keeper falls behind, no two reports differ whose lists are enough.
use Rattle.std.proofs.Common.{◌≡◌, ℕ, Bool, true, false, cond, List, [], ◌∷◌, get_or, map, refl, sym, ap, ◌∙◌}
use Rattle.std.specs.Prelude.{◌==◌, All, filter}
use Rattle.std.proofs.lemmas.Bool.{eq-eqb, eqb-true}
use Rattle.std.proofs.lemmas.List.Elements.{All-cons, All-contains, All-head, All-nil, All-tail, All-weaker}
use Rattle.xl_base.specs.declared.ids.LedgerId.{LedgerId}
use Rattle.xl_lists.specs.Lists.{TrustedList}
use Rattle.xl_lists.specs.Quorums.{Enough}
use Rattle.xl_lists.specs.declared.report.Report.{Report as ReportUnder}
use Rattle.xl_audit.specs.Opening.{core_of}
use Rattle.xl_world.specs.Lives.{NeverBehind, reports_of}
use Rattle.xl_journals.specs.Journals.{AreJournals, IsJournal, Journal, life_in, lives_in}
use Rattle.xl_journals.proofs.Journals.{headline_of_journals}
use Rattle.xl_evidence.specs.Evidence.{reported_in}
use Rattle.xl_evidence.specs.Journals.{IsRightJournal}
use Rattle.xl_forks.specs.Forks.{forks_in}
use Rattle.xl_forks.specs.Laws.{IsFork}
use Rattle.xl_forks.specs.declared.reported.Reported.{Reported}
use Rattle.xl_forks.specs.declared.said.Said.{Said}
use Rattle.xl_forks.proofs.Forking.{forks_are}
use Rattle.xl_blamed.specs.Gathering.{reports_from, words_from}
use Rattle.xl_blamed.specs.Given.{AllGivenAgree, HasOwnKeys, journals_of}
use Rattle.xl_blamed.proofs.Gathering.{all_back, all_front, all_two, from_each, reports_all}
use Rattle.xl_blamed.proofs.Given.{IsUnforgedIn, all_given_unforged}

-- THE JOURNALS OF A NODE

-- what holds of all holds of those that pass, which pass
those_that_pass : {X : Type 0} (P Q : X → Type 0) (p : X → Bool) → ((x : X) → P x → p x ≡ true → Q x) → (xs : List X) → All P xs
    → All Q (filter p xs)
those_that_pass P Q p each [] all = All-nil Q
those_that_pass {X} P Q p each (x ∷ xs) all = by (those_that_pass P Q p each xs (All-tail P x xs all)) (p x) refl
  where
    by : All Q (filter p xs) → (b : Bool) → p x ≡ b → All Q (cond b (x ∷ filter p xs) (filter p xs))
    by rest true passes = All-cons Q x (filter p xs) (each x (All-head P x xs all) passes) rest
    by rest false fails = rest

-- a right journal with its own keys, in which nothing forged comes
abbrev IsHonest : List Journal → Journal → Type 0
IsHonest all j = IsRightJournal j × HasOwnKeys j × IsUnforgedIn all j

of_number : (all : List Journal) (i : ℕ) (j : Journal) → IsHonest all j → (j.opening.me == i) ≡ true → IsJournal [] (journals_of all) i j
of_number all i j honest is = record {
  me = eqb-true j.opening.me i is;
  keys = honest.1 ∙ eqb-true j.opening.me i is;
  list = honest.0.list;
  right = honest.0.right;
  unforged = honest.2;
}

are_journals : (all : List Journal) → All (IsHonest all) all → ((i : ℕ) → NeverBehind 0 (lives_in (journals_of all) i))
    → AreJournals [] (journals_of all)
are_journals all honest behind i no_liar = (
  those_that_pass (IsHonest all) (IsJournal [] (journals_of all) i) (λ j. j.opening.me == i) (of_number all i) all honest,
  behind i,
)

-- what holds of all reports of a node holds of those in each of its journals
abbrev HasIfOf : (ReportUnder → Type 0) → ℕ → Journal → Type 0
HasIfOf P i j = (j.opening.me == i) ≡ true → All P (reported_in (life_in j))

in_each : (P : ReportUnder → Type 0) (i : ℕ) (js : List Journal) → All P (reports_of (lives_in (journals_of js) i)) → All (HasIfOf P i) js
in_each P i [] all = All-nil (HasIfOf P i)
in_each P i (j ∷ js) all = by (in_each P i js) (j.opening.me == i) refl all
  where
    by : (All P (reports_of (lives_in (journals_of js) i)) → All (HasIfOf P i) js) → (b : Bool) → (j.opening.me == i) ≡ b
        → All P (reports_of (map life_in (cond b (j ∷ journals_of js i) (journals_of js i)))) → All (HasIfOf P i) (j ∷ js)
    by rest true own found =
        All-cons (HasIfOf P i) j js (λ _. all_front P (reported_in (life_in j)) (reports_of (lives_in (journals_of js) i)) found)
        (rest (all_back P (reported_in (life_in j)) (reports_of (lives_in (journals_of js) i)) found))
    by rest false other found =
        All-cons (HasIfOf P i) j js (λ own. absurd (let never : true ≡ false = sym own ∙ other in cc)) (rest found)

-- TWO REPORTS

-- two reports are one if their lists are enough
abbrev Agrees : TrustedList → ℕ → LedgerId → TrustedList → ℕ → LedgerId → Type 0
Agrees a s x b t y = Enough [] a b → s ≡ t → x ≡ y

abbrev AgreesWith : ReportUnder → ReportUnder → Type 0
AgreesWith r q = Agrees r.list r.seq r.id q.list q.seq q.id

-- those of a journal, each with all of every node
abbrev AgreesWithAll : List Journal → ReportUnder → Type 0
AgreesWithAll all r = (i : ℕ) → All (AgreesWith r) (reports_of (lives_in (journals_of all) i))

module _ (all : List Journal) (are : AreJournals [] (journals_of all)) where
  node_agrees : (i : ℕ) → All (AgreesWithAll all) (reports_of (lives_in (journals_of all) i))
  node_agrees i = λ k d within j. headline_of_journals [] (journals_of all) are i j refl refl k d within

  journal_agrees : All (λ here. All (AgreesWithAll all) (reported_in (life_in here))) all
  journal_agrees = λ k d within.
      let here : Journal = get_or all k d in
      in_each (AgreesWithAll all) here.opening.me all (node_agrees here.opening.me) k d within (eq-eqb here.opening.me here.opening.me refl)

  -- a report with those of all journals
  row_agrees : (r : ReportUnder) → AgreesWithAll all r
      → All (λ (q : Reported). Agrees r.list r.seq r.id q.list q.seq q.id) (reports_from 1 all)
  row_agrees r agrees =
      from_each (λ (q : Reported). Agrees r.list r.seq r.id q.list q.seq q.id) 1 all (λ k d within l.
      let there : Journal = get_or all k d in
      reports_all (λ b t y. Agrees r.list r.seq r.id b t y) l 0 (core_of there.opening there.ring) there.entries
      (in_each (AgreesWith r) there.opening.me all (agrees there.opening.me) k d within (eq-eqb there.opening.me there.opening.me refl)))

  abbrev IsOneOf : TrustedList → ℕ → LedgerId → Type 0
  IsOneOf a s x = All (λ (q : Reported). Agrees a s x q.list q.seq q.id) (reports_from 1 all)

  reports_agree : All (λ (r : Reported). IsOneOf r.list r.seq r.id) (reports_from 1 all)
  reports_agree =
      from_each (λ (r : Reported). IsOneOf r.list r.seq r.id) 1 all (λ k d within l.
      let here : Journal = get_or all k d in
      reports_all IsOneOf l 0 (core_of here.opening here.ring) here.entries
      (All-weaker (AgreesWithAll all) (λ r. IsOneOf r.list r.seq r.id) row_agrees (reported_in (life_in here)) (journal_agrees k d within)))

  none_differ : All (λ f. ¬ (Enough [] f.one.list f.other.list)) (forks_in (words_from 1 all) (reports_from 1 all))
  none_differ =
      let said : List Said = words_from 1 all in
      let reports : List Reported = reports_from 1 all in
      All-weaker (IsFork said reports) (λ f. ¬ (Enough [] f.one.list f.other.list))
      (λ f fork enough.
      let row = All-contains (λ (r : Reported). IsOneOf r.list r.seq r.id) reports f.one reports_agree fork.has_one in
      let agrees = All-contains (λ (q : Reported). Agrees f.one.list f.one.seq f.one.id q.list q.seq q.id) reports f.other row fork.has_other in
      fork.two_ids (agrees enough fork.one_seq))
      (forks_in said reports) (forks_are said reports)

pub all_given_agree : AllGivenAgree
all_given_agree journals right own given behind =
    let unforged = all_given_unforged journals right given in
    let keyed = all_two HasOwnKeys (IsUnforgedIn journals) (λ j. HasOwnKeys j × IsUnforgedIn journals j) (λ j k u. (k, u)) journals own unforged in
    let honest = all_two IsRightJournal (λ j. HasOwnKeys j × IsUnforgedIn journals j) (IsHonest journals) (λ j r k. (r, k.0, k.1)) journals right keyed in
    none_differ journals (are_journals journals honest behind)
