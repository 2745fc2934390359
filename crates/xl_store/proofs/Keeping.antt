-- What a history leaves of the core and of the keeper.
use Rattle.std.proofs.Common.{◌≡◌, ℕ, ◌≤◌, inl, inr, Bool, List, [], ◌∷◌, ◌++◌, refl, sym, ap, ◌∙◌, subst, arith, append_assoc, append-nil, Option, Some, None}
use Rattle.std.specs.Prelude.{All, option_map, option_to_list}
use Rattle.std.proofs.lemmas.List.Elements.{All-append, All-cons, All-nil, All-weaker}
use Rattle.std.specs.Io.KnownBytes.{append_known}
use Rattle.std.specs.Global.{Box}
use Rattle.xl_base.specs.Faults.{Rose}
use Rattle.xl_io.specs.Keepers.{Held, AddsSave, after_save}
use Rattle.xl_core.specs.Core.{Core, core_asks}
use Rattle.xl_core.specs.CoreLives.{held_after}
use Rattle.xl_core.specs.Keeping.{AsksSave}
use Rattle.xl_core.specs.Node.{is_kept}
use Rattle.xl_turns.specs.Histories.{Runs}
use Rattle.xl_store.specs.declared.entry.Entry.{Entry}
use Rattle.xl_store.specs.declared.entry.Saved.{Saved}
use Rattle.xl_store.specs.declared.entry.Saved.TheVariants as saved
use Rattle.xl_store.specs.declared.home.Home.{Home}
use Rattle.xl_store.specs.Entries.{Leads, reply_of, save_of, life_of}
use Rattle.xl_store.specs.Homes.{IsCounted, Goes, LeadsHome}
use Rattle.xl_store.specs.Closing.{asked_over, AddsSaves, count_in, counts_of, IsBetween, KeepsAll}

map_same : (o : Option Held) → o ≡ option_map (λ held. held) o
map_same None = refl
map_same (Some held) = refl

known_same : (o : Option (List ℕ)) → o ≡ append_known o []
known_same None = refl
known_same (Some xs) = ap Some (sym (append-nil xs))

known_assoc : (o : Option (List ℕ)) (s : ℕ) (seqs : List ℕ)
    → append_known (append_known o (s ∷ [])) seqs ≡ append_known o (s ∷ seqs)
known_assoc None s seqs = refl
known_assoc (Some xs) s seqs = ap Some (append_assoc xs (s ∷ []) seqs)

-- what may be held after an event
abbrev held_then : Core → Entry → Held → Held
held_then core e held = after_save held (core_asks core e.event) (is_kept (save_of e.outcome))

-- one event, and then a history: what may be held
held_both : (core : Core) (e : Entry) (es : List Entry) (o : Option Held)
    → option_map (λ held. held_after held (reply_of core e).core (life_of es)) (option_map (held_then core e) o)
    ≡ option_map (λ held. held_after held core (life_of (e ∷ es))) o
held_both core e es None = refl
held_both core e es (Some held) = refl

adds_some : (s : ℕ) (seqs : List ℕ) (x y z : Option (List ℕ)) → AddsSave x y s → AddsSaves y z seqs
    → AddsSaves x z (s ∷ seqs)
adds_some s seqs x y z a (inl b) = inl b
adds_some s seqs x y z (inl a) (inr b) = inl (b ∙ ap (λ (o : Option (List ℕ)). append_known o seqs) a)
adds_some s seqs x y z (inr a) (inr b) =
    inr (b ∙ (ap (λ (o : Option (List ℕ)). append_known o seqs) a ∙ known_assoc x s seqs))

-- the numbers that were asked
adds_both : (asked : Option ℕ) (rest : List ℕ) (x y z : Option (List ℕ)) → AsksSave asked x y → AddsSaves y z rest
    → AddsSaves x z (option_to_list asked ++ rest)
adds_both None rest x y z a b = subst (λ (o : Option (List ℕ)). AddsSaves o z rest) a b
adds_both (Some s) rest x y z a b = adds_some s rest x y z a b

-- the counts of failures
rose_before : (a m c : ℕ) → a ≤ m → Rose m c → Rose a c
rose_before a m c h r = omega (arith, h, r)

between_before : (a m b c : ℕ) → a ≤ m → IsBetween m b c → IsBetween a b c
between_before a m b c h i = (rose_before a m c h i.0, i.1)

one_between : (outcome : Option Saved) (a m b : ℕ) → IsCounted outcome a m → m ≤ b
    → All (IsBetween a b) (count_in outcome)
one_between None a m b i h = All-nil (IsBetween a b)
one_between (Some saved.Ok) a m b i h = All-nil (IsBetween a b)
one_between (Some (saved.Failed count)) a m b i h =
    All-cons (IsBetween a b) count []
    (subst (λ (n : ℕ). Rose a n) (sym i.1) i.0, subst (λ (n : ℕ). n ≤ b) (sym i.1) h)
    (All-nil (IsBetween a b))

module _ {K : Type 0}
    (held_by : K → Option Held) (saves_of : K → Option (List ℕ)) (faults_of : K → ℕ)
    (gives : K → ℕ → Bool → K → Type 0) where
  keeps_none : (start : Core) (k : K) → KeepsAll held_by saves_of faults_of gives start [] k k
  keeps_none start k = record {
    held = map_same (held_by k);
    saves = inr (known_same (saves_of k));
    keeper = refl;
    later = omega arith;
    counts = All-nil (IsBetween (faults_of k) (faults_of k));
  }

module _ {B K : Type 0}
    (held_by : K → Option Held) (saves_of : K → Option (List ℕ)) (faults_of : K → ℕ)
    (gives : K → ℕ → Bool → K → Type 0) where
  -- of core and keeper the core alone
  pub cores_run : (a b : Box (Home B K)) (es : List Entry) → Runs (LeadsHome held_by saves_of faults_of gives) a es b
      → Runs Leads a.value.core es b.value.core
  cores_run a b [] r = ap (λ (x : Box (Home B K)). x.value.core) r
  cores_run a b (e ∷ es) r = (r.0.value.core, r.1.0.core, cores_run r.0 b es r.2)

  keeps_more : (before after : Home B K) (e : Entry) (es : List Entry) (b : K)
      → Goes held_by saves_of faults_of gives before e after
      → KeepsAll held_by saves_of faults_of gives (reply_of before.core e).core es after.keeper b
      → KeepsAll held_by saves_of faults_of gives before.core (e ∷ es) before.keeper b
  keeps_more before after e es b one rest =
      let core : Core = before.core in
      let a : K = before.keeper in
      let m : K = after.keeper in
      let asked : Option ℕ = core_asks core e.event in
      record {
        held = rest.held
            ∙ ap (option_map (λ held. held_after held (reply_of core e).core (life_of es))) one.keeper.held
            ∙ held_both core e es (held_by a);
        saves = adds_both asked (asked_over (reply_of core e).core es) (saves_of a) (saves_of m) (saves_of b)
            one.keeper.saves rest.saves;
        keeper = (m, one.keeper.keeper, rest.keeper);
        later = omega (arith, one.keeper.later, rest.later);
        counts = All-append (IsBetween (faults_of a) (faults_of b)) (count_in e.outcome) (counts_of es)
            (one_between e.outcome (faults_of a) (faults_of m) (faults_of b) one.counted rest.later)
            (All-weaker (IsBetween (faults_of m) (faults_of b)) (IsBetween (faults_of a) (faults_of b))
            (λ c. between_before (faults_of a) (faults_of m) (faults_of b) c one.keeper.later) (counts_of es) rest.counts);
      }

  pub keeps_run : (a b : Box (Home B K)) (es : List Entry) → Runs (LeadsHome held_by saves_of faults_of gives) a es b
      → KeepsAll held_by saves_of faults_of gives a.value.core es a.value.keeper b.value.keeper
  keeps_run a b [] r =
      subst
      (λ (x : Box (Home B K)). KeepsAll held_by saves_of faults_of gives a.value.core [] a.value.keeper x.value.keeper) r
      (keeps_none held_by saves_of faults_of gives a.value.core a.value.keeper)
  keeps_run a b (e ∷ es) r =
      keeps_more a.value r.0.value e es b.value.keeper r.1.0
      (subst (λ (c : Core). KeepsAll held_by saves_of faults_of gives c es r.0.value.keeper b.value.keeper)
      r.1.0.core.core (keeps_run r.0 b es r.2))
