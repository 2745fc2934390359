-- What was told stays in front of what is told later, so that a world can be cut back to it.
use Rattle.std.proofs.Common.{◌≡◌, ℕ, List, [], ◌++◌, length, take, refl, ap, sym, subst, ◌∙◌, append_assoc, append-nil}
use Rattle.std.specs.Prelude.{true}
use Rattle.std.proofs.lemmas.List.{take_at}
use Rattle.xl_lists.specs.declared.report.Report.{Report as Reported}
use Rattle.xl_lists.specs.declared.said.SaidLedger.{SaidLedger}
use Rattle.xl_world.specs.declared.place.Place.{Place}
use Rattle.xl_world.specs.declared.plan.InForce.{InForce}
use Rattle.xl_world.specs.Ends.{Grows, IsLonger}
use Rattle.xl_world.specs.Seen.{with_forged, with_places}
use Rattle.xl_world.specs.Sending.{Sent}
use Rattle.xl_world.specs.World.{World}

-- LISTS

pub longer_same : {X : Type 0} (xs ys : List X) → ys ≡ xs → IsLonger xs ys
longer_same xs ys is = ([], is ∙ sym (append-nil xs))

pub longer_on : {X : Type 0} (xs ys zs : List X) → IsLonger xs ys → IsLonger ys zs → IsLonger xs zs
longer_on {X} xs ys zs first next = (first.0 ++ next.0, next.1 ∙ (ap (λ (l : List X). l ++ next.0) first.1 ∙ append_assoc xs first.0 next.0))

front : {X : Type 0} (xs ys : List X) → IsLonger xs ys → take (length xs) ys ≡ xs
front xs ys longer = ap (take (length xs)) longer.1 ∙ take_at xs longer.0 (length xs) refl

-- WORLDS

pub grows_same : (w v : World) → v ≡ w → Grows w v
grows_same w v is = subst (Grows w) (sym is) (record {
  liars = refl;
  numbers = refl;
  sent = longer_same w.sent w.sent refl;
  said = longer_same w.said w.said refl;
  reports = longer_same w.reports w.reports refl;
  lists = longer_same w.lists w.lists refl;
})

pub grows_on : (w u v : World) → Grows w u → Grows u v → Grows w v
grows_on w u v first next = record {
  liars = next.liars ∙ first.liars;
  numbers = next.numbers ∙ first.numbers;
  sent = longer_on w.sent u.sent v.sent first.sent next.sent;
  said = longer_on w.said u.said v.said first.said next.said;
  reports = longer_on w.reports u.reports v.reports first.reports next.reports;
  lists = longer_on w.lists u.lists v.lists first.lists next.lists;
}

-- whatever its places, its mark and its count are
pub grows_placed : (w u : World) (ps : List Place) → u ≡ w → Grows w (with_places u ps)
grows_placed w u ps is = let g = grows_same w u is in record { liars = g.liars; numbers = g.numbers; sent = g.sent; said = g.said; reports = g.reports; lists = g.lists }

pub grows_from : (w u v : World) (ps : List Place) → u ≡ w → Grows (with_places u ps) v → Grows w v
grows_from w u v ps is g = grows_on w (with_places u ps) v (grows_placed w u ps is) g

-- with longer lists
pub grows_so : (w u : World) (ps : List Place) (sent : List Sent) (mark : ℕ) (said : List SaidLedger) (reports : List Reported) (lists : List InForce) → u ≡ w → IsLonger u.sent sent → IsLonger u.said said → IsLonger u.reports reports → IsLonger u.lists lists →
    Grows w (record u { places = ps; sent = sent; mark = mark; said = said; reports = reports; lists = lists })
grows_so w u ps sent mark said reports lists is more_sent more_said more_reports more_lists =
    let g = grows_same w u is in
    record {
      liars = g.liars;
      numbers = g.numbers;
      sent = longer_on w.sent u.sent sent g.sent more_sent;
      said = longer_on w.said u.said said g.said more_said;
      reports = longer_on w.reports u.reports reports g.reports more_reports;
      lists = longer_on w.lists u.lists lists g.lists more_lists;
    }

pub grows_counted : (w v : World) (n : ℕ) → Grows w v → Grows w (with_forged n v)
grows_counted w v n g = record { liars = g.liars; numbers = g.numbers; sent = g.sent; said = g.said; reports = g.reports; lists = g.lists }

-- CUT BACK

-- a spent world with no node in it
abbrev left : ℕ → ℕ → List ℕ → List ℕ → List Sent → List SaidLedger → List Reported → List InForce → World
left mark forged liars numbers sent said reports lists =
    record { liars = liars; numbers = numbers; places = []; sent = sent; mark = mark; said = said; reports = reports; lists = lists; forged = forged; spent = true }
