-- what the home keeps is what the store keeps of the journal so far, so the page has a node exactly if it is to be kept
use Rattle.std.proofs.Common.{◌≡◌, ◌<◌, ◌^◌, ◌++◌, ◌∷◌, [], List, length, arith, sym, ap, subst, ◌∙◌}
use Rattle.xl_turns.specs.Knowing.{after_turn}
use Rattle.xl_turns.specs.Passes.{knows, opening}
use Rattle.xl_store.specs.declared.entry.Entry.{Entry}
use Rattle.xl_store.specs.Homes.{Goes}
use Rattle.xl_store.specs.Pages.{on, has_node}
use Rattle.xl_store.specs.Retentions.{kept_with, passed_with, takes_reports}
use Rattle.xl_store.proofs.Kept.{kept_all, node_if, only_one, room_if, goes_so, passed_is}
use Rattle.xl_store.proofs.store.Store.finish.Goals as goal

pub entry-entry-requires : goal.entry-entry-requires
entry-entry-requires g c = record { page = (c.requires.ends.entry, c.requires.ends.written) }

pub keep-gone-requires-clause-node : goal.keep-gone-requires-clause-node
keep-gone-requires-clause-node g c =
    let ends = c.requires.ends in
    node_if c.args.self.now.retention (has_node c.args.page) c.deref_mut.result.now.kept c.args.turn.journal
    (ap (λ h. h.kept) c.deref_mut.ensures.value ∙ ends.kept
    ∙ kept_all g.K.Keeper.held g.K.Keeper.saves g.K.Keeper.faults g.K.Keeper.save_gives c.args.self.now.retention
    (opening c.args.self.now.lock) ends.found c.args.turn.journal c.args.self.now.kept ends.runs) ends.node

pub keep-gone-requires-clause-room : goal.keep-gone-requires-clause-room
keep-gone-requires-clause-room g c =
    let ends = c.requires.ends in
    let limited = c.args.self.now.lock.limited.1 in
    let below = c.requires.turn.4 in
    let few : length c.args.turn.journal < 2 ^ 62 = omega (arith, limited, below) in
    room_if c.args.self.now.retention c.deref_mut.result.now.kept c.args.turn.journal (on c.args.page) ends.entry
    (ap (λ h. h.kept) c.deref_mut.ensures.value ∙ ends.kept
    ∙ kept_all g.K.Keeper.held g.K.Keeper.saves g.K.Keeper.faults g.K.Keeper.save_gives c.args.self.now.retention
    (opening c.args.self.now.lock) ends.found c.args.turn.journal c.args.self.now.kept ends.runs) ends.written few

pub finish-requires-clause-leads : goal.finish-requires-clause-leads
finish-requires-clause-leads g c =
    let ends = c.requires.ends in
    let entry : Entry = c.entry-entry.result.now in
    let same : ends.entry ≡ entry = only_one ends.entry entry (sym ends.written ∙ c.entry-entry.ensures.entry) in
    let kept = ap (λ h. h.kept) c.deref_mut.ensures.value ∙ ends.kept in (
      ends.found,
      entry,
      ends.runs,
      (
        goes_so g.K.Keeper.held g.K.Keeper.saves g.K.Keeper.faults g.K.Keeper.save_gives
            ends.found.value c.args.turn.object.value c.keep-gone.new.self entry
            (subst (λ (e : Entry). Goes g.K.Keeper.held g.K.Keeper.saves g.K.Keeper.faults g.K.Keeper.save_gives
            ends.found.value e c.args.turn.object.value) same ends.goes)
            (c.keep-gone.ensures.core ∙ ap (λ h. h.core) c.deref_mut.ensures.value)
            (c.keep-gone.ensures.keeper ∙ ap (λ h. h.keeper) c.deref_mut.ensures.value),
        c.keep-gone.ensures.kept
            ∙ (λ i. kept_with (kept i) (c.takes_reports-takes.ensures i) (c.entry-entry.ensures.entry i)),
      ),
      c.written-written.ensures,
    )

pub returns-clause-known : goal.returns-clause-known
returns-clause-known g c =
    c.finish.ensures.known
    ∙ ap (λ (l : List Entry). after_turn (knows c.args.turn) (length c.args.turn.journal) l)
    (c.written-written.ensures ∙ ap (λ (l : List Entry). c.args.turn.journal ++ l) (sym c.entry-entry.ensures.entry))

pub returns-clause-handed : goal.returns-clause-handed
returns-clause-handed g c e is =
    let ends = c.requires.ends in
    let same = only_one c.entry-entry.result.now e (sym c.entry-entry.ensures.entry ∙ is) in
    let kept = ap (λ h. h.kept) c.deref_mut.ensures.value ∙ ends.kept
    ∙ kept_all g.K.Keeper.held g.K.Keeper.saves g.K.Keeper.faults g.K.Keeper.save_gives c.args.self.now.retention
    (opening c.args.self.now.lock) ends.found c.args.turn.journal c.args.self.now.kept ends.runs in
    let takes = c.takes_reports-takes.ensures ∙ ap (λ (x : Entry). takes_reports x.event) same in
    c.batch.ensures ∙ c.keep-gone.ensures.gone
    ∙ (λ i. passed_with (kept i) (takes i) (is i))
    ∙ passed_is c.args.self.now.retention c.args.turn.journal e
