-- Over a life of a core, each report that arose was handed out, waits, or was lost and counted.
use Rattle.std.proofs.Common.{◌≡◌, ℕ, zero, suc, ◌+◌, ◌≤◌, true, List, [], ◌∷◌, ◌++◌, length, take, drop, refl, ap, sym, ◌∙◌, subst, arith, Option, Some, None, append_assoc}
use Rattle.std.specs.Prelude.{nat_lt, option_to_list}
use Rattle.std.proofs.lemmas.Bool.{cond_both, cond-true, lt-ltb}
use Rattle.std.proofs.lemmas.List.{append-nil, length-append, take-append-drop}
use Rattle.xl_queues.specs.Accounts.{IsAccounted, Accounts}
use Rattle.xl_base.specs.Counts.{one_more}
use Rattle.xl_queues.specs.Queues.{Backlog, with_item}
use Rattle.xl_queues.proofs.Accounting.{push_accounts, pop_accounts}
use Rattle.xl_wire.specs.declared.validation.Validation.{Validation}
use Rattle.xl_core.proofs.Timing.{timing_by, submit_either, relist_either}
use Rattle.xl_core.specs.declared.event.CoreEvent.{CoreEvent}
use Rattle.xl_core.specs.declared.refusal.Refusal.TheVariants.{NotAfter}
use Rattle.xl_core.specs.declared.report.Report.{Report}
use Rattle.xl_core.specs.Answers.{Answer, handed_in}
use Rattle.xl_core.specs.Core.{Core, core_happens, with_queues}
use Rattle.xl_core.specs.CoreLives.{CoreHappening, core_after, arisen_over, handed_over, ReportsAreHandedOut, NoneIsLost}
use Rattle.xl_core.specs.Node as nodes
use Rattle.xl_core.specs.Node.{Node, Event, Reply, Save, happens, timer_reply, issued_unless_off, refusing_reply, at_moment, own_validation, opened_node}
use Rattle.xl_core.specs.Issuing.Save.{Kept, Failed}
use Rattle.xl_core.specs.Queues.{with_report, without}
use Rattle.xl_core.proofs.Beside.{node_or_other}
use Rattle.xl_core.proofs.Stopping.{heard_keeps}

-- AN EVENT AT THE NODE

unless_hands : (n : Node) (failed : Option ℕ) (save : Save) (v : Validation) → handed_in (issued_unless_off n failed save v).answer ≡ []
unless_hands n None Kept v = refl
unless_hands n None (Failed count) v = refl
unless_hands n (Some failed) save v = refl

-- it hands out nothing
pub happens_hands : (n : Node) (e : Event) (save : Save) → handed_in (happens n e save).answer ≡ []
happens_hands n (nodes.Issue now seq id full) save =
    let m : Node = at_moment now n in
    cond_both (nat_lt m.kept seq) (issued_unless_off m m.failed_save save (own_validation m seq id full)) (refusing_reply m (NotAfter m.kept)) (λ r. handed_in r.answer ≡ [])
    (λ _. unless_hands m m.failed_save save (own_validation m seq id full)) (λ _. refl)
happens_hands n (nodes.Frame now bytes) save = (heard_keeps n now bytes).handed
happens_hands n (nodes.Timer now) save = timing_by (λ t. handed_in (timer_reply t save).answer ≡ []) (at_moment now n) (λ r told said. refl) (λ ledgers r said h place moved_on _. refl)
happens_hands n (nodes.Submit now tx) save = submit_either (λ r. handed_in r.answer ≡ []) (at_moment now n) tx (λ _. refl) refl
happens_hands n (nodes.Relist now list) save = relist_either (λ r. handed_in r.answer ≡ []) (at_moment now n) list (λ _. refl) (λ _. refl)

-- A STEP

-- nothing came and nothing was taken
stays_accounted : (q : Backlog Report) → Accounts q q [] []
stays_accounted q before out was =
    subst (λ xs. IsAccounted xs (out ++ []) q) (sym (append-nil before)) (subst (λ xs. IsAccounted before xs q) (sym (append-nil out)) was)

-- one came, or none
comes : (q : Backlog Report) (o : Option Report) → Accounts q (with_report q o) (option_to_list o) []
comes q None = stays_accounted q
comes q (Some r) = push_accounts 1024 q (with_item 1024 q r) r refl

-- one call after the other
both_account : (a b c : Backlog Report) (pushed taken pushed' taken' : List Report) → Accounts a b pushed taken → Accounts b c pushed' taken' → Accounts a c (pushed ++ pushed') (taken ++ taken')
both_account a b c pushed taken pushed' taken' first then_ before out was =
    subst (λ xs. IsAccounted xs (out ++ (taken ++ taken')) c) (append_assoc before pushed pushed')
    (subst (λ xs. IsAccounted ((before ++ pushed) ++ pushed') xs c) (append_assoc out taken taken') (then_ (before ++ pushed) (out ++ taken) (first before out was)))

-- the oldest were taken
goes : (n : ℕ) (items : List Report) (lost : ℕ) → let q : Backlog Report = record { items = items; lost = lost } in Accounts q (without n q) [] (take n items)
goes zero items lost = stays_accounted (record { items = items; lost = lost })
goes (suc n) [] lost = stays_accounted (record { items = []; lost = lost })
goes (suc n) (r ∷ rs) lost =
    let q : Backlog Report = record { items = r ∷ rs; lost = lost } in
    let q' : Backlog Report = record { items = rs; lost = lost } in
    both_account q q' (without n q') [] (r ∷ []) [] (take n rs) (pop_accounts q q' (Some r) refl refl) (goes n rs lost)

-- an event at the node
node_accounts : (core : Core) (reply : Reply) → handed_in reply.answer ≡ [] → Accounts core.untaken (with_report core.untaken reply.report) (option_to_list reply.report) (handed_in reply.answer)
node_accounts core reply none = subst (λ xs. Accounts core.untaken (with_report core.untaken reply.report) (option_to_list reply.report) xs) (sym none) (comes core.untaken reply.report)

-- what leaves the reports as they were
other_accounts : (q q' : Backlog Report) (a : Answer) → q' ≡ q → handed_in a ≡ [] → Accounts q q' [] (handed_in a)
other_accounts q q' a same none = subst (λ x. Accounts q x [] (handed_in a)) (sym same) (subst (λ xs. Accounts q q [] xs) (sym none) (stays_accounted q))

pub step_accounts : (core : Core) (e : CoreEvent) (save : Save) → let reply = core_happens core e save in
    Accounts core.untaken reply.core.untaken (option_to_list reply.report) (handed_in reply.answer)
step_accounts core e save =
    node_or_other (λ r. Accounts core.untaken r.core.untaken (option_to_list r.report) (handed_in r.answer)) core e save
    (λ n _. node_accounts core (happens core.node n save) (happens_hands core.node n save))
    (λ after a _ untaken none. other_accounts core.untaken after.untaken a untaken none)
    (λ room. goes room core.untaken.items core.untaken.lost)

-- A LIFE

life_accounts : (core : Core) (life : List CoreHappening) → Accounts core.untaken (core_after core life).untaken (arisen_over core life) (handed_over core life)
life_accounts core [] = stays_accounted core.untaken
life_accounts core (h ∷ hs) =
    let reply = core_happens core h.event h.save in
    both_account core.untaken reply.core.untaken (core_after reply.core hs).untaken
    (option_to_list reply.report) (handed_in reply.answer) (arisen_over reply.core hs) (handed_over reply.core hs)
    (step_accounts core h.event h.save) (life_accounts reply.core hs)

pub all_handed : ReportsAreHandedOut
all_handed settings now kept life =
    let core : Core = with_queues (opened_node settings now kept) in
    life_accounts core life [] [] (record { gone = []; in_order = refl; handed_out = refl; counted = omega arith })

-- WHERE NONE IS LOST

-- what came was taken or waits
pub record IsWhole (before out : List Report) (q : Backlog Report) : Type 0 where
  pub all : before ≡ out ++ q.items
  pub none : q.lost ≡ 0

-- nothing comes and nothing is taken
stays_whole : (before out : List Report) (q : Backlog Report) → IsWhole before out q → IsWhole (before ++ []) (out ++ []) q
stays_whole before out q was = record { all = append-nil before ∙ was.all ∙ ap (λ xs. xs ++ q.items) (sym (append-nil out)); none = was.none }

comes_whole : (before out : List Report) (q : Backlog Report) (o : Option Report) → length (before ++ option_to_list o) ≤ length out + 1024 → IsWhole before out q → IsWhole (before ++ option_to_list o) (out ++ []) (with_report q o)
comes_whole before out q None few was = stays_whole before out q was
comes_whole before out q (Some r) few was =
    let room : nat_lt (length q.items) 1024 ≡ true = lt-ltb (length q.items) 1024 (omega (arith, few, length-append before (r ∷ []), ap length was.all, length-append out q.items)) in
    record {
      all = ap (λ xs. xs ++ r ∷ []) was.all ∙ append_assoc out q.items (r ∷ [])
          ∙ ap (λ xs. xs ++ (q.items ++ r ∷ [])) (sym (append-nil out))
          ∙ ap (λ xs. (out ++ []) ++ xs) (sym (cond-true (nat_lt (length q.items) 1024) (q.items ++ r ∷ []) (drop 1 (q.items ++ r ∷ [])) room));
      none = cond-true (nat_lt (length q.items) 1024) q.lost (one_more q.lost) room ∙ was.none;
    }

node_whole : (core : Core) (reply : Reply) (before out : List Report) → handed_in reply.answer ≡ [] → length (before ++ option_to_list reply.report) ≤ length (out ++ handed_in reply.answer) + 1024 →
    IsWhole before out core.untaken → IsWhole (before ++ option_to_list reply.report) (out ++ handed_in reply.answer) (with_report core.untaken reply.report)
node_whole core reply before out none few was =
    subst (λ xs. IsWhole (before ++ option_to_list reply.report) (out ++ xs) (with_report core.untaken reply.report)) (sym none)
    (comes_whole before out core.untaken reply.report (omega (arith, few, length-append out (handed_in reply.answer), ap length none)) was)

other_whole : (before out : List Report) (q q' : Backlog Report) (a : Answer) → q' ≡ q → handed_in a ≡ [] → IsWhole before out q → IsWhole (before ++ []) (out ++ handed_in a) q'
other_whole before out q q' a same none was =
    subst (λ x. IsWhole (before ++ []) (out ++ handed_in a) x) (sym same) (subst (λ xs. IsWhole (before ++ []) (out ++ xs) q) (sym none) (stays_whole before out q was))

step_whole : (core : Core) (e : CoreEvent) (save : Save) (before out : List Report) → let reply = core_happens core e save in
    length (before ++ option_to_list reply.report) ≤ length (out ++ handed_in reply.answer) + 1024 →
    IsWhole before out core.untaken → IsWhole (before ++ option_to_list reply.report) (out ++ handed_in reply.answer) reply.core.untaken
step_whole core e save before out =
    node_or_other
    (λ r. length (before ++ option_to_list r.report) ≤ length (out ++ handed_in r.answer) + 1024 → IsWhole before out core.untaken →
    IsWhole (before ++ option_to_list r.report) (out ++ handed_in r.answer) r.core.untaken) core e save
    (λ n _ few was. node_whole core (happens core.node n save) before out (happens_hands core.node n save) few was)
    (λ after a _ untaken none few was. other_whole before out core.untaken after.untaken a untaken none was)
    (λ room few was. record {
      all = append-nil before ∙ was.all ∙ ap (λ xs. out ++ xs) (sym (take-append-drop room core.untaken.items)) ∙ sym (append_assoc out (take room core.untaken.items) (drop room core.untaken.items));
      none = was.none;
    })

-- never more than 1,024 wait, of those that came before too
abbrev NeverMoreAfter : List Report → List Report → Core → List CoreHappening → Type 0
NeverMoreAfter before out core life = (k : ℕ) → length (before ++ arisen_over core (take k life)) ≤ length (out ++ handed_over core (take k life)) + 1024

life_whole : (core : Core) (life : List CoreHappening) (before out : List Report) → NeverMoreAfter before out core life → IsWhole before out core.untaken →
    IsWhole (before ++ arisen_over core life) (out ++ handed_over core life) (core_after core life).untaken
life_whole core [] before out few was = stays_whole before out core.untaken was
life_whole core (h ∷ hs) before out few was =
    let reply = core_happens core h.event h.save in
    let came : List Report = option_to_list reply.report in
    let went : List Report = handed_in reply.answer in
    let first : length (before ++ came) ≤ length (out ++ went) + 1024 =
    subst (λ xs. length (before ++ xs) ≤ length (out ++ went) + 1024) (append-nil came) (subst (λ xs. length (before ++ (came ++ [])) ≤ length (out ++ xs) + 1024) (append-nil went) (few 1)) in
    let rest : NeverMoreAfter (before ++ came) (out ++ went) reply.core hs = λ k.
    subst (λ xs. length xs ≤ length ((out ++ went) ++ handed_over reply.core (take k hs)) + 1024) (sym (append_assoc before came (arisen_over reply.core (take k hs))))
    (subst (λ xs. length (before ++ (came ++ arisen_over reply.core (take k hs))) ≤ length xs + 1024) (sym (append_assoc out went (handed_over reply.core (take k hs)))) (few (suc k))) in
    subst (λ xs. IsWhole xs (out ++ (went ++ handed_over reply.core hs)) (core_after reply.core hs).untaken) (append_assoc before came (arisen_over reply.core hs))
    (subst (λ xs. IsWhole ((before ++ came) ++ arisen_over reply.core hs) xs (core_after reply.core hs).untaken) (append_assoc out went (handed_over reply.core hs))
    (life_whole reply.core hs (before ++ came) (out ++ went) rest (step_whole core h.event h.save before out first was)))

pub none_lost : NoneIsLost
none_lost settings now kept life few =
    let core : Core = with_queues (opened_node settings now kept) in
    let whole = life_whole core life [] [] few (record { all = refl; none = refl }) in
    (whole.all, whole.none)
