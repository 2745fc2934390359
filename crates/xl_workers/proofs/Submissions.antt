-- One id more is submitted.
use Rattle.std.proofs.Common.{◌≡◌, Bool, ℕ, true, List, [], ◌∷◌, ◌++◌, refl, ap, append-nil, subst}
use Rattle.xl_base.specs.declared.ids.TxId.{TxId}
use Rattle.xl_turns.specs.declared.view.Knowledge.{Knowledge}
use Rattle.xl_core.specs.declared.event.CoreEvent.TheVariants.{Submit}
use Rattle.xl_core.specs.Answers.{Answer}
use Rattle.xl_core.specs.Core.{Core}
use Rattle.xl_store.specs.declared.entry.Entry.{Entry}
use Rattle.xl_store.specs.declared.store.Store.{Store}
use Rattle.xl_store.specs.declared.store.StoreEnd.{StoreEnd}
use Rattle.xl_store.specs.declared.store.StoreEnd.TheVariants as refused
use Rattle.xl_store.specs.Calls.{Made}
use Rattle.xl_store.specs.Stores.{turns_of, IsWhy}
use Rattle.xl_store.proofs.Making.{made_none, made_both}
use Rattle.xl_workers.specs.Submits.{IsSubmit, Submitted, HadNoTurn}
use Rattle.xl_workers.proofs.Pairs.{paired_more}

module _ (start : Core) (may : ℕ → Bool) (old : Knowledge Entry) where
  pub submits_none : Submitted start may old [] old
  submits_none = record { calls = []; each = tt; made = made_none start old old refl refl refl }

  pub submits_more : (ids : List TxId) (id : TxId) (now : ℕ) (answer : Answer) (mid new : Knowledge Entry)
      → Submitted start may old ids mid → may now ≡ true
      → Made start mid new (record { event = Submit now id; answer = answer } ∷ [])
      → Submitted start may old (ids ++ id ∷ []) new
  submits_more ids id now answer mid new s given made = record {
    calls = s.calls ++ record { event = Submit now id; answer = answer } ∷ [];
    each = paired_more (IsSubmit may) ids s.calls id (record { event = Submit now id; answer = answer }) s.each
        (now, given, refl);
    made = made_both start old mid new s.calls _ s.made made;
  }

  -- the pass made no call
  pub submits_stay : (ids : List TxId) (mid new : Knowledge Entry) → Submitted start may old ids mid
      → Made start mid new [] → Submitted start may old ids new
  submits_stay ids mid new s made = record {
    calls = s.calls;
    each = s.each;
    made = subst (λ cs. Made start old new cs) (append-nil s.calls)
        (made_both start old mid new s.calls [] s.made made);
  }

-- why a call had no turn
pub had_no_turn : {B K : Type 0} (store : Store B K) (old new : Knowledge Entry) (e : StoreEnd) → IsWhy store old e new
    → HadNoTurn (turns_of store) new e
had_no_turn store old new refused.OutOfMemory why = tt
had_no_turn store old new (refused.StoreFull n) why = (why.0, ap (λ (k : Knowledge Entry). k.drawn) why.2)
