-- A core's life: what happened since it opened, what its keeper may hold then, each frame that it gave, and each
-- report.
-- Source: this profile, by which a node saves a sequence before it says it, and a full queue drops its oldest item.
use Rattle.std.specs.Prelude.{◌≡◌, ℕ, ◌+◌, ◌≤◌, List, [], ◌∷◌, ◌++◌, length, take, option_to_list, All, IfSome}
use Rattle.std.specs.Prelude.{Some, None, Result, Ok}
use Rattle.std.specs.declared.option.Option.{Option}
use Rattle.xl_io.specs.Keepers.{Held, MayHold, after_save}
use Rattle.xl_queues.specs.Accounts.{IsAccounted}
use Rattle.xl_wire.specs.declared.body.Body.{Body}
use Rattle.xl_wire.specs.declared.body.Body.TheVariants as bodies
use Rattle.xl_wire.specs.declared.refusal.WireRefusal.{WireRefusal}
use Rattle.xl_wire.specs.declared.validation.Validation.{Validation}
use Rattle.xl_wire.specs.Bodies.{body_of}
use Rattle.xl_wire.specs.Heads.{Split, split_of}
use Rattle.xl_wire.specs.Heads.Split.{Whole}
use Rattle.xl_core.specs.declared.event.CoreEvent.{CoreEvent}
use Rattle.xl_core.specs.declared.report.Report.{Report}
use Rattle.xl_core.specs.declared.settings.Settings.{Settings}
use Rattle.xl_core.specs.Answers.{given_in, handed_in}
use Rattle.xl_core.specs.Core.{Core, core_happens, core_asks, with_queues}
use Rattle.xl_core.specs.Node.{Save, is_kept, opened_node}
use Rattle.xl_core.specs.Queues.{most_untaken}
use Rattle.xl_core.specs.Rest.{IsKeyed}

-- an event, and how its save was answered
pub record CoreHappening : Type 0 where
  pub event : CoreEvent
  pub save : Save

-- the core after these happenings, the first of them first
abbrev pub core_after : Core → List CoreHappening → Core
core_after core [] = core
core_after core (h ∷ hs) = core_after (core_happens core h.event h.save).core hs

-- what its keeper may hold then
abbrev pub held_after : Held → Core → List CoreHappening → Held
held_after held core [] = held
held_after held core (h ∷ hs) =
    held_after (after_save held (core_asks core h.event) (is_kept h.save)) (core_happens core h.event h.save).core hs

-- every frame that it gave in them
abbrev pub given_over : Core → List CoreHappening → List (List ℕ)
given_over core [] = []
given_over core (h ∷ hs) =
    given_in (core_happens core h.event h.save).answer ++ given_over (core_happens core h.event h.save).core hs

-- the validation that a body is, if it is one
abbrev pub validation_of : Result Body WireRefusal → Option Validation
validation_of (Ok (bodies.Validation v)) = Some v
validation_of other = None

abbrev pub validation_split : Split → Option Validation
validation_split (Whole f) = validation_of (body_of f.kind f.body)
validation_split other = None

-- the validation in the bytes of a frame, if there is one
abbrev pub validation_in : List ℕ → Option Validation
validation_in bytes = validation_split (split_of bytes)

-- a frame's validation, if it has one, is of a sequence that is at most this
abbrev pub IsFrameCovered : ℕ → List ℕ → Type 0
IsFrameCovered kept frame = IfSome (validation_in frame) (λ v. v.seq ≤ kept)

-- every validation in a frame that a drain ever gave has a sequence of at most each number that the keeper may hold;
-- so a stop at any moment leaves no number below it
abbrev pub SaidIsSaved : Type 0
SaidIsSaved =
    (settings : Settings) (now kept : ℕ) (held : Held) (life : List CoreHappening) (n : ℕ) →
    IsKeyed settings.me settings.list.members settings.keys → ((k : ℕ) → MayHold held k → kept ≤ k) →
    MayHold (held_after held (with_queues (opened_node settings now kept)) life) n →
    All (IsFrameCovered n) (given_over (with_queues (opened_node settings now kept)) life)

-- every report that arose in them
abbrev pub arisen_over : Core → List CoreHappening → List Report
arisen_over core [] = []
arisen_over core (h ∷ hs) =
    option_to_list (core_happens core h.event h.save).report ++ arisen_over (core_happens core h.event h.save).core hs

-- every report that it handed out in them
abbrev pub handed_over : Core → List CoreHappening → List Report
handed_over core [] = []
handed_over core (h ∷ hs) =
    handed_in (core_happens core h.event h.save).answer ++ handed_over (core_happens core h.event h.save).core hs

-- What is handed out in a life is, in order, what arose in it, except for what waits and for older ones that were lost and
-- counted.
abbrev pub ReportsAreHandedOut : Type 0
ReportsAreHandedOut =
    (settings : Settings) (now kept : ℕ) (life : List CoreHappening) →
    let core = with_queues (opened_node settings now kept) in
    IsAccounted (arisen_over core life) (handed_over core life) (core_after core life).untaken

-- never did more than this many wait, of the reports that arose in these happenings
abbrev pub NeverMore : ℕ → Core → List CoreHappening → Type 0
NeverMore n core life = (k : ℕ) → length (arisen_over core (take k life)) ≤ length (handed_over core (take k life)) + n

-- None is lost in a life in which never more than 1,024 waited.
abbrev pub NoneIsLost : Type 0
NoneIsLost =
    (settings : Settings) (now kept : ℕ) (life : List CoreHappening) →
    let core = with_queues (opened_node settings now kept) in
    let after = core_after core life in
    NeverMore most_untaken core life →
    (arisen_over core life ≡ handed_over core life ++ after.untaken.items) × (after.untaken.lost ≡ 0)
