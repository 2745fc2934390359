-- A recorder that takes batches.
use Rattle.std.proofs.Common.{◌≡◌, ◌≢◌, ◌+◌, ◌++◌, ℕ, List, [], ◌∷◌, Result, Ok, Err, refl, sym, ap, ◌∙◌, subst, arith, length, length-append, append_assoc, append-nil}
use Rattle.std.specs.Prelude.{MatchResult, OnOk, ⊤}
use Rattle.std.specs.Result.{IsErrAnd}
use Rattle.xl_turns.specs.Histories.{IsLegal}
use Rattle.xl_core.specs.CoreLives.{core_after}
use Rattle.xl_store.specs.declared.entry.Entry.{Entry}
use Rattle.xl_store.specs.declared.retention.Batch.{Batch}
use Rattle.xl_store.specs.Entries.{Leads, life_of}
use Rattle.xl_audit.specs.Journals.{head_text_as}
use Rattle.xl_audit.specs.Lines.{Lines, MayStand, behind, behind_all, line_at, text_from}
use Rattle.xl_audit.proofs.Joining.{behind_append, first_stands, legal_front, legal_rest, text_append}
use Rattle.xl_recorder.specs.declared.file_recorder.Stage.{Stage}
use Rattle.xl_recorder.specs.declared.file_recorder.Stage.TheVariants.{Goes, Ended}
use Rattle.xl_recorder.specs.declared.record_end.RecordEnd.{RecordEnd}
use Rattle.xl_recorder.specs.Parts.{HasStopped, HasWritten, Part}
use Rattle.xl_recorder.specs.Recorders.{HasCome, MayBe, Opened, Recording, Takes, first_lines, first_part, settled, text_of}
use Rattle.xl_recorder.proofs.Written.{by_end, stopped_as, stopped_more, stopped_then, written_as, written_then}

-- ENTRY BY ENTRY

-- the entries that were written, before those that are left
pub record Done (start : Lines) (all : List Entry) (a : Part) (at : Lines) (left : List Entry) (b : Part) : Type 0 where
  pub done : List Entry
  pub parts : all ≡ done ++ left
  pub behind : at ≡ behind_all start done
  pub written : HasWritten a (length done) (text_from start done) b

one_line : (at : Lines) (e : Entry) → line_at at e ≡ text_from at (e ∷ [])
one_line at e = sym (append-nil (line_at at e))

module _ (start : Lines) (all : List Entry) (a : Part) (at : Lines) (left : List Entry) (b c : Part)
    (d : Done start all a at left b) where
  module _ (e : Entry) (es : List Entry) (next : left ≡ e ∷ es) where
    pub done_more : (after : Lines) → after ≡ behind at e → HasWritten b 1 (line_at at e) c → Done start all a after es c
    done_more after is w = record {
      done = d.done ++ e ∷ [];
      parts = d.parts ∙ ap (λ (xs : List Entry). d.done ++ xs) next ∙ sym (append_assoc d.done (e ∷ []) es);
      behind = is ∙ ap (λ (l : Lines). behind l e) d.behind ∙ sym (behind_append start d.done (e ∷ []));
      written = written_as a c (length d.done + 1) (length (d.done ++ e ∷ []))
          (text_from start d.done ++ line_at at e) (text_from start (d.done ++ e ∷ []))
          (sym (length-append d.done (e ∷ [])))
          (ap (λ (xs : List ℕ). text_from start d.done ++ xs)
          (one_line at e ∙ ap (λ (l : Lines). text_from l (e ∷ [])) d.behind)
          ∙ sym (text_append start d.done (e ∷ [])))
          (written_then a b c (length d.done) 1 (text_from start d.done) (line_at at e) d.written w);
    }

    stands_so : IsLegal Leads start.core all → MayStand at.core e
    stands_so legal =
        let whole : all ≡ d.done ++ e ∷ es = d.parts ∙ ap (λ (xs : List Entry). d.done ++ xs) next in
        let rest : IsLegal Leads (core_after start.core (life_of d.done)) (e ∷ es) =
        legal_rest start.core d.done (e ∷ es) (subst (IsLegal Leads start.core) whole legal) in
        subst (λ (l : Lines). MayStand l.core e) (sym d.behind)
        (first_stands (core_after start.core (life_of d.done)) e es rest)

    pub done_stopped : (why : RecordEnd) → HasStopped b (MayStand at.core e) 1 (line_at at e) why c
        → HasStopped a (IsLegal Leads start.core all) (length all) (text_from start all) why c
    done_stopped why s =
        let rest : List ℕ = text_from (behind at e) es in
        let whole : all ≡ d.done ++ e ∷ es = d.parts ∙ ap (λ (xs : List Entry). d.done ++ xs) next in
        let long : length d.done + (1 + length es) ≡ length all =
        omega (arith, ap (length {A = Entry}) whole, length-append d.done (e ∷ es)) in
        let text : text_from start d.done ++ (line_at at e ++ rest) ≡ text_from start all =
        ap (λ (l : Lines). text_from start d.done ++ text_from l (e ∷ es)) d.behind
        ∙ sym (text_append start d.done (e ∷ es)) ∙ ap (text_from start) (sym whole) in
        stopped_as a c (IsLegal Leads start.core all) (length d.done + (1 + length es)) (length all)
        (text_from start d.done ++ (line_at at e ++ rest)) (text_from start all) why long text
        (stopped_then a b c (length d.done) (1 + length es) (text_from start d.done) (line_at at e ++ rest) d.written
        (IsLegal Leads start.core all) (IsLegal Leads start.core all) why (λ legal. legal)
        (stopped_more b c (MayStand at.core e) (IsLegal Leads start.core all) 1 (length es) (line_at at e) rest
        stands_so why s))

    pub done_stops : {T U : Type 0} (r : Result T RecordEnd) (s : Result U RecordEnd) (end : RecordEnd) (P : T → Type 0)
        (O : U → Type 0) → IsErrAnd r (λ y. y ≡ end) → s ≡ Err end
        → MatchResult s O (λ why. HasStopped b (MayStand at.core e) 1 (line_at at e) why c)
        → MatchResult r P (λ why. HasStopped a (IsLegal Leads start.core all) (length all) (text_from start all) why c)
    done_stops {T} {U} r s end P O same was m =
        by_end r end P (λ why. HasStopped a (IsLegal Leads start.core all) (length all) (text_from start all) why c) same
        (done_stopped end
        (subst (λ (it : Result U RecordEnd). MatchResult it O (λ why. HasStopped b (MayStand at.core e) 1 (line_at at e) why c)) was m))

-- BATCH BY BATCH

module _ (o : Opened) (past es : List Entry) where
  text_more : text_of o (past ++ es) ≡ text_of o past ++ text_from (behind_all (first_lines o) past) es
  text_more =
      let head : List ℕ = head_text_as o.tagging o.settings o.now o.kept in
      ap (λ (xs : List ℕ). head ++ xs) (text_append (first_lines o) past es)
      ∙ sym (append_assoc head (text_from (first_lines o) past) (text_from (behind_all (first_lines o) past) es))

  module _ (at : Lines) (b c : Part) (come : HasCome o past b (Goes at)) where
    text_so : text_of o past ++ text_from at es ≡ text_of o (past ++ es)
    text_so = ap (λ (l : Lines). text_of o past ++ text_from l es) come.0 ∙ sym text_more

    pub onward_written : (after : Lines) → after ≡ behind_all at es → HasWritten b (length es) (text_from at es) c
        → HasCome o (past ++ es) c (Goes after)
    onward_written after is w = (
      is ∙ ap (λ (l : Lines). behind_all l es) come.0 ∙ sym (behind_append (first_lines o) past es),
      written_as (first_part o) c (length past + length es) (length (past ++ es))
          (text_of o past ++ text_from at es) (text_of o (past ++ es)) (sym (length-append past es)) text_so
          (written_then (first_part o) b c (length past) (length es) (text_of o past) (text_from at es) come.1 w),
    )

    legal_so : MayBe o (past ++ es) → IsLegal Leads at.core es
    legal_so legal =
        subst (λ (l : Lines). IsLegal Leads l.core es) (sym come.0) (legal_rest (first_lines o).core past es legal)

    pub onward_stopped : (why : RecordEnd)
        → HasStopped b (IsLegal Leads at.core es) (length es) (text_from at es) why c
        → HasCome o (past ++ es) c (Ended why)
    onward_stopped why s =
        stopped_as (first_part o) c (MayBe o (past ++ es)) (length past + length es) (length (past ++ es))
        (text_of o past ++ text_from at es) (text_of o (past ++ es)) why (sym (length-append past es)) text_so
        (stopped_then (first_part o) b c (length past) (length es) (text_of o past) (text_from at es) come.1
        (IsLegal Leads at.core es) (MayBe o (past ++ es)) why legal_so s)

  pub ended_more : (why : RecordEnd) (c : Part) → HasCome o past c (Ended why) → HasCome o (past ++ es) c (Ended why)
  ended_more why c s =
      stopped_as (first_part o) c (MayBe o (past ++ es)) (length past + length es) (length (past ++ es))
      (text_of o past ++ text_from (behind_all (first_lines o) past) es) (text_of o (past ++ es)) why
      (sym (length-append past es)) (sym text_more)
      (stopped_more (first_part o) c (MayBe o past) (MayBe o (past ++ es)) (length past) (length es) (text_of o past)
      (text_from (behind_all (first_lines o) past) es) (legal_front (first_lines o).core past es) why s)

abbrev going : Lines → Part → Recording
going at reached = record { stage = Goes at; reached = reached }

abbrev over : RecordEnd → Part → Recording
over why reached = record { stage = Ended why; reached = reached }

-- what has ended stays so
pub takes_over : (why : RecordEnd) (reached : Part) (batch : Batch) → Takes (over why reached) batch (over why reached)
takes_over why reached batch = record {
  onward = λ o past so _. ended_more o past batch.entries why reached so;
  apart = λ _. refl;
  ended = λ _ _. refl;
}

-- what goes on writes a batch that stands behind the others
pub takes_going : (at after : Lines) (b c : Part) (batch : Batch) (r : Result (Unit {0}) RecordEnd)
    → (batch.first ≢ b.room.entries → c ≡ b)
    → (batch.first ≡ b.room.entries → OnOk r (after ≡ behind_all at batch.entries))
    → (batch.first ≡ b.room.entries → MatchResult r
    (λ _. HasWritten b (length batch.entries) (text_from at batch.entries) c)
    (λ why. HasStopped b (IsLegal Leads at.core batch.entries) (length batch.entries)
    (text_from at batch.entries) why c))
    → Takes (going at b) batch (settled r (going after c))
takes_going at after b c batch (Ok x) differs moves writes = record {
  onward = λ o past so first.
      let here : batch.first ≡ b.room.entries = omega (arith, first, so.1.count) in
      onward_written o past batch.entries at b c so after (moves here) (writes here);
  apart = differs;
  ended = λ why has. absurd (cc);
}
takes_going at after b c batch (Err why) differs moves writes = record {
  onward = λ o past so first.
      let here : batch.first ≡ b.room.entries = omega (arith, first, so.1.count) in
      onward_stopped o past batch.entries at b c so why (writes here);
  apart = differs;
  ended = λ _ has. absurd (cc);
}

abbrev so_far : Stage → Part → Recording
so_far stage reached = record { stage = stage; reached = reached }

-- so it is of a recorder whose stage was looked at
pub takes_if_over : (stage : Stage) (why : RecordEnd) (reached : Part) (batch : Batch) → stage ≡ Ended why
    → Takes (so_far stage reached) batch (settled {T = Unit {0}} (Err why) (so_far stage reached))
takes_if_over stage why reached batch is =
    subst (λ (s : Stage). Takes (so_far s reached) batch (settled {T = Unit {0}} (Err why) (so_far s reached))) (sym is)
    (takes_over why reached batch)

pub takes_if_going : (stage : Stage) (at after : Lines) (b c : Part) (batch : Batch) (r : Result (Unit {0}) RecordEnd)
    → stage ≡ Goes at
    → (batch.first ≢ b.room.entries → c ≡ b)
    → (batch.first ≡ b.room.entries → OnOk r (after ≡ behind_all at batch.entries))
    → (batch.first ≡ b.room.entries → MatchResult r
    (λ _. HasWritten b (length batch.entries) (text_from at batch.entries) c)
    (λ why. HasStopped b (IsLegal Leads at.core batch.entries) (length batch.entries)
    (text_from at batch.entries) why c))
    → Takes (so_far stage b) batch (settled r (so_far (Goes after) c))
takes_if_going stage at after b c batch r is differs moves writes =
    subst (λ (s : Stage). Takes (so_far s b) batch (settled r (so_far (Goes after) c))) (sym is)
    (takes_going at after b c batch r differs moves writes)

-- AT ITS OPENING

-- what is written then is the head, or a front of it
pub opened_so : (o : Opened) (r : Result Lines RecordEnd) (stage : Stage) (c : Part)
    → MatchResult r
    (λ at. (at ≡ first_lines o) × HasWritten (first_part o) 0 (head_text_as o.tagging o.settings o.now o.kept) c)
    (λ why. HasStopped (first_part o) ⊤ 0 (head_text_as o.tagging o.settings o.now o.kept) why c)
    → MatchResult r (λ at. stage ≡ Goes at) (λ why. stage ≡ Ended why)
    → HasCome o [] c stage
opened_so o (Ok at) stage c begun is =
    subst (HasCome o [] c) (sym is) (
      begun.0,
      written_as (first_part o) c 0 0 (head_text_as o.tagging o.settings o.now o.kept) (text_of o []) refl
          (sym (append-nil (head_text_as o.tagging o.settings o.now o.kept))) begun.1,
    )
opened_so o (Err why) stage c begun is =
    subst (HasCome o [] c) (sym is)
    (stopped_more (first_part o) c ⊤ (MayBe o []) 0 0 (head_text_as o.tagging o.settings o.now o.kept) [] (λ _. tt) why begun)
