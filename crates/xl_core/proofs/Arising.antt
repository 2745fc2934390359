-- What a node at rest reports once a row has taken a validation: that validation's ledger, or nothing.
use Rattle.std.proofs.Common.{◌≡◌, ℕ, ◌*◌, ◌<◌, ◌≤◌, true, false, List, length, refl, arith, ap, sym, ◌∙◌, inl, inr, Option, Some, None, subst}
use Rattle.std.specs.Prelude.{◌&&◌, ◌||◌, find, filter_map, option_map, IsSome, IfSome, is_some, nat_le}
use Rattle.std.proofs.lemmas.Bool.{and_parts, and_from, cond_both, cond-true, cases_Bool, leb-true, le-leb, le-ltb}
use Rattle.xl_base.specs.declared.ids.LedgerId.{LedgerId}
use Rattle.xl_lists.proofs.Counting.{quorums_meet}
use Rattle.xl_wire.specs.declared.validation.Validation.{Validation}
use Rattle.xl_validations.specs.declared.row.Row.{Row}
use Rattle.xl_validations.specs.Rows.{row_of, with_validation, at_member, is_full_of, count_full}
use Rattle.xl_core.specs.declared.last.LastReport.{LastReport}
use Rattle.xl_core.specs.declared.report.Report.{Report}
use Rattle.xl_core.specs.Lasts.{is_news, last_after}
use Rattle.xl_core.specs.Node.{arises_in, arisen_in, report_of}
use Rattle.xl_core.specs.Node.{report_if}
use Rattle.xl_core.specs.Rest.{NothingArises}
use Rattle.xl_core.proofs.Counts.{count_of_others, names_it, found_if_held, found_if_taken, find_passes, find_none}

abbrev currents : List Row → List Validation
currents rows = filter_map (λ row. row.current) rows

-- what arises is news, and a quorum holds it
pub parts_of : (quorum : ℕ) (rows : List Row) (last : LastReport) (v : Validation) → arises_in quorum rows last v ≡ true → (quorum ≤ count_full v.seq v.id rows) × (is_news last v.seq v.id ≡ true)
parts_of quorum rows last v arises =
    let parts = and_parts (nat_le quorum (count_full v.seq v.id rows)) (is_news last v.seq v.id) arises in (leb-true _ _ parts.0, parts.1)

-- a report is its sequence and its id
pub same_report : (s t : ℕ) (a b : LedgerId) → s ≡ t → a ≡ b → ◌≡◌ {A = Report} (record { seq = s; id = a }) (record { seq = t; id = b })
same_report s t a b p q = cc

-- TWO QUORUMS OF THE SAME ROWS

both_name : (s t : ℕ) (a b : LedgerId) (o : Option Validation) → is_full_of s a o ≡ true → is_full_of t b o ≡ true → (s ≡ t) × (a ≡ b)
both_name s t a b None p q = let never : false ≡ true = p in absurd cc
both_name s t a b (Some v) p q =
    let first = names_it v s a p in
    let second = names_it v t b q in (sym first.0 ∙ second.0, sym first.1 ∙ second.1)

-- hold one ledger
pub held_once : (quorum : ℕ) (rows : List Row) → length rows < 2 * quorum → (s t : ℕ) (a b : LedgerId) → quorum ≤ count_full s a rows → quorum ≤ count_full t b rows → (s ≡ t) × (a ≡ b)
held_once quorum rows few s t a b enough also =
    let met = quorums_meet (λ row. is_full_of s a row.current) (λ row. is_full_of t b row.current) quorum rows few enough also in
    both_name s t a b met.1.current met.4.0 met.4.1

-- what was just reported is no news
no_longer : (r : Report) (seq : ℕ) (id : LedgerId) → r.seq ≡ seq → is_news (record { report = Some r; relisted = false }) seq id ≡ false
no_longer r seq id same = ap (λ b. b || false) (le-ltb r.seq seq (omega (arith, same)))

-- at rest no validation arises
pub none_arises : (quorum : ℕ) (rows : List Row) (last : LastReport) → NothingArises quorum rows last → (v : Validation) → arises_in quorum rows last v ≡ false
none_arises quorum rows last rest v =
    elim (cases_Bool (arises_in quorum rows last v)) [
      | inl it_does ↦
          let parts = parts_of quorum rows last v it_does in
          let never : true ≡ false = sym parts.1 ∙ rest v.seq v.id parts.0 in
          cc
      | inr not_so ↦ not_so
    ]

pub nothing_arisen : (quorum : ℕ) (rows : List Row) (last : LastReport) → NothingArises quorum rows last → (vs : List Validation) → option_map report_of (find (arises_in quorum rows last) vs) ≡ None
nothing_arisen quorum rows last rest vs = ap (option_map report_of) (find_none (arises_in quorum rows last) (none_arises quorum rows last rest) vs)

-- ONCE WHAT ARISES IN ROWS IS REPORTED

-- nothing is left
pub rest_reported : (quorum : ℕ) (rows : List Row) (last : LastReport) → length rows < 2 * quorum → NothingArises quorum rows (last_after last (arisen_in quorum rows last))
rest_reported quorum rows last few = by (find (arises_in quorum rows last) (currents rows)) refl
  where
    by : (o : Option Validation) → find (arises_in quorum rows last) (currents rows) ≡ o → NothingArises quorum rows (last_after last (option_map report_of o))
    by None none seq id enough =
        elim (cases_Bool (is_news last seq id)) [
          | inl news ↦
              let each : (v : Validation) → is_full_of seq id (Some v) ≡ true → arises_in quorum rows last v ≡ true =
              λ v full.
              let named = names_it v seq id full in
              let holds : quorum ≤ count_full v.seq v.id rows = subst (λ s. quorum ≤ count_full s v.id rows) (sym named.0) (subst (λ i. quorum ≤ count_full seq i rows) (sym named.1) enough) in
              and_from _ _ (le-leb quorum _ holds) (ap (λ s. is_news last s v.id) named.0 ∙ ap (is_news last seq) named.1 ∙ news) in
              let found : true ≡ false = sym (found_if_held (arises_in quorum rows last) seq id each rows (omega (arith, enough, few))) ∙ ap is_some none in
              cc
          | inr old ↦ old
        ]
    by (Some v) found seq id enough =
        let arises : arises_in quorum rows last v ≡ true = subst (λ o. IfSome o (λ x. arises_in quorum rows last x ≡ true)) found (find_passes (arises_in quorum rows last) (currents rows)) in
        no_longer (report_of v) seq id (held_once quorum rows few v.seq seq v.id id (parts_of quorum rows last v arises).0 enough).0

-- A ROW HAS TAKEN A VALIDATION

module _ (quorum : ℕ) (rows : List Row) (last : LastReport) (from : ℕ) (v : Validation) (rest : NothingArises quorum rows last) where
  abbrev taken : List Row
  taken = at_member from (with_validation v) rows

  -- another ledger doesn't reach a quorum
  others_rest : (seq : ℕ) (id : LedgerId) → quorum ≤ count_full seq id taken → is_full_of seq id (Some v) ≡ false → is_news last seq id ≡ false
  others_rest seq id enough other = rest seq id (omega (arith, enough, count_of_others rows from v seq id other))

  -- only the taken validation's ledger arises
  only_that : (u : Validation) → arises_in quorum taken last u ≡ true → (v.seq ≡ u.seq) × (v.id ≡ u.id)
  only_that u arises =
      let parts = parts_of quorum taken last u arises in
      elim (cases_Bool (is_full_of u.seq u.id (Some v))) [
        | inl that ↦ names_it v u.seq u.id that
        | inr other ↦ let never : true ≡ false = sym parts.1 ∙ others_rest u.seq u.id parts.0 other in cc
      ]

  pub arisen_by : IsSome (row_of rows from) → arisen_in quorum taken last ≡ report_if (arises_in quorum taken last v) v
  arisen_by has = by (find (arises_in quorum taken last) (currents taken)) refl
    where
      by : (o : Option Validation) → find (arises_in quorum taken last) (currents taken) ≡ o → option_map report_of o ≡ report_if (arises_in quorum taken last v) v
      by None none =
          cond_both (arises_in quorum taken last v) (Some (report_of v)) None (λ o. None ≡ o)
          (λ it_does. let found : true ≡ false = sym (found_if_taken (arises_in quorum taken last) rows from v has it_does) ∙ ap is_some none in cc)
          (λ _. refl)
      by (Some u) found =
          let arises : arises_in quorum taken last u ≡ true = subst (λ o. IfSome o (λ x. arises_in quorum taken last x ≡ true)) found (find_passes (arises_in quorum taken last) (currents taken)) in
          let same = only_that u arises in
          let its : arises_in quorum taken last v ≡ true =
          ap (λ s. nat_le quorum (count_full s v.id taken) && is_news last s v.id) same.0
          ∙ ap (λ i. nat_le quorum (count_full u.seq i taken) && is_news last u.seq i) same.1
          ∙ arises in
          ap (λ r. Some r) (sym (same_report v.seq u.seq v.id u.id same.0 same.1)) ∙ sym (cond-true _ (Some (report_of v)) None its)
