-- A world whose memory ran out: what it told before stands, and no node is left in it.
-- Source: this profile, by which such a world answers every later event the same.
use Rattle.std.specs.Prelude.{◌≡◌, true, List, [], ◌++◌, length, take}
use Rattle.xl_world.specs.declared.extent.Extent.{Extent}
use Rattle.xl_world.specs.Starts.{IsRun}
use Rattle.xl_world.specs.World.{World}

-- what is left of a world when an event runs out of memory: all that was sent, said and reported before that event
abbrev pub spent_world : World → World
spent_world w = record w { places = []; spent = true }

-- the world is what is left of a run
abbrev pub IsLeft : World → Type 0
IsLeft w = (before : World) × IsRun before × (w ≡ spent_world before)

-- HOW IT IS CUT BACK

-- a list with more behind it
abbrev pub IsLonger : {X : Type 0} → List X → List X → Type 0
IsLonger {X} xs ys = (more : List X) × (ys ≡ xs ++ more)

-- what a world told stands in another one, with whatever was told later behind it
pub record Grows (w v : World) : Type 0 where
  pub liars : v.liars ≡ w.liars
  pub numbers : v.numbers ≡ w.numbers
  pub sent : IsLonger w.sent v.sent
  pub said : IsLonger w.said v.said
  pub reports : IsLonger w.reports v.reports
  pub lists : IsLonger w.lists v.lists

-- how much a world told so far
abbrev pub extent_of : World → Extent
extent_of w = record {
  sent = length w.sent;
  mark = w.mark;
  said = length w.said;
  reports = length w.reports;
  lists = length w.lists;
  forged = w.forged;
}

-- a world with no more told than that, and no node in it
abbrev pub cut_back : Extent → World → World
cut_back e w = record w {
  places = [];
  sent = take e.sent w.sent;
  mark = e.mark;
  said = take e.said w.said;
  reports = take e.reports w.reports;
  lists = take e.lists w.lists;
  forged = e.forged;
}
