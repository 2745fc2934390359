-- How frames of journals are kept. Source: what the code of this crate keeps.
use Rattle.std.specs.Prelude.{◌≡◌, ℕ, ◌-◌, ◌≤◌, ◌==◌, ◌&&◌, List, All, drop, length, map, option_map, take, None, if◌then◌else◌}
use Rattle.std.specs.declared.option.Option.{Option}
use Rattle.std.specs.Borrow.{Bor}
use Rattle.std.specs.BTreeMap.{BTreeMap, get}
use Rattle.std.specs.Cmp.Lexicographic.{slice_cmp}
use Rattle.std.specs.Option.{option_or}
use Rattle.std.specs.Ordering.{nat_cmp, ordering_then}
use Rattle.std.specs.declared.cmp.Ordering.{Ordering}
use Rattle.xl_wire.specs.Heads.{split_of}
use Rattle.xl_wire.specs.Heads.Split.{Whole}
use Rattle.xl_wire.specs.Kinds.{span}
use Rattle.xl_wire.specs.Raws.{RawFrame}
use Rattle.xl_given.specs.Given.{Noted, giver_at, giver_of}
use Rattle.xl_given.specs.declared.givers.Giver.{Giver}
use Rattle.xl_given.specs.declared.noted.Noted as code
use Rattle.xl_given.specs.declared.noted_frames.NotedFrames.TheInside.{Inside}
use Rattle.xl_given.specs.declared.noted_frames.Place.{Place}

-- a frame with its bytes
abbrev pub noted_seen : code.Noted → Noted
noted_seen x = record { member = x.member; journal = x.journal; entry = x.entry; frame = x.frame.now }

-- the frame of a place among the bytes of all
abbrev pub noted_in : List ℕ → Place → Noted
noted_in bytes p = record {
  member = p.member;
  journal = p.journal;
  entry = p.entry;
  frame = take (p.ends - p.begins) (drop p.begins bytes);
}

abbrev pub frames_seen : Inside → List Noted
frames_seen f = map (noted_in f.bytes.items) f.places.items

-- each place is one among so many bytes
abbrev pub IsWithin : ℕ → Place → Type 0
IsWithin count p = (p.begins ≤ p.ends) × (p.ends ≤ count)

abbrev pub AreWithin : Inside → Type 0
AreWithin f = All (IsWithin (length f.bytes.items)) f.places.items

-- an entry of a journal
abbrev pub giver_seen : Noted → Giver
giver_seen x = record { journal = x.journal; entry = x.entry }

-- keys are ordered by member, then by frame
abbrev pub by_both : ℕ × Bor (List ℕ) → ℕ × Bor (List ℕ) → Ordering
by_both a b = ordering_then (nat_cmp a.0 b.0) (slice_cmp nat_cmp a.1.now b.1.now)

-- the map has the first giver of each frame
abbrev pub IsKept : BTreeMap (ℕ × Bor (List ℕ)) Giver → List Noted → Type 0
IsKept givers given =
    (m : ℕ) (frame : Bor (List ℕ)) →
    get by_both givers (m, frame) ≡ option_map giver_seen (giver_of given m frame.now)

-- entries are ordered by their journals, then by their places
abbrev pub by_entry : ℕ × ℕ → ℕ × ℕ → Ordering
by_entry a b = ordering_then (nat_cmp a.0 b.0) (nat_cmp a.1 b.1)

-- the map has the first giver of what was heard in each entry
abbrev pub IsKeptByEntry : BTreeMap (ℕ × ℕ) Giver → List Noted → List Noted → Type 0
IsKeptByEntry givers given heard =
    (k e : ℕ) → get by_entry givers (k, e) ≡ option_map giver_seen (giver_at given heard k e)

-- an entry gets a giver, unless it has one
abbrev pub IsFirstKept : BTreeMap (ℕ × ℕ) Giver → BTreeMap (ℕ × ℕ) Giver → ℕ → ℕ → Option Giver → Type 0
IsFirstKept before after journal entry giver =
    (k e : ℕ) →
    get by_entry after (k, e)
    ≡ option_or (get by_entry before (k, e)) (if journal == k && entry == e then giver else None)

-- the bytes begin with this frame
pub record IsFirst (bytes frame : List ℕ) : Type 0 where
  pub raw : RawFrame
  pub splits : split_of bytes ≡ Whole raw
  pub is : frame ≡ take (span raw.body) bytes
  pub long : length frame ≡ span raw.body
  pub within : length frame ≤ length bytes

abbrev pub HasNoFirst : List ℕ → Type 0
HasNoFirst bytes = (raw : RawFrame) → ¬ (split_of bytes ≡ Whole raw)
