-- What a feed hands out, and how it is left. Source: this project's own.
use Rattle.std.specs.Borrow.{MutBor, Fml}
use Rattle.std.specs.Io.BufRead.{Rests}
use Rattle.std.specs.Prelude.{◌≡◌}
use Rattle.xl_wire.specs.declared.feed.Next.{Next}
use Rattle.xl_wire.specs.declared.feed.Next.TheVariants as next
use Rattle.xl_wire.specs.contracts.feed.Feed.{the_row}
use Rattle.xl_wire.specs.Feeding.{Fed, Offer, after_next}
use Rattle.xl_wire.specs.Feeding.Offer.{Frame, Need, Refused}
use Rattle.xl_wire.specs.Raws.{SpellsRaw, raw_frame}

abbrev pub offer : Next → Offer
offer (next.Frame raw bytes) = Frame bytes.now
offer (next.Need lack) = Need lack
offer (next.Refused refusal) = Refused refusal

-- the parts of a frame are those that its bytes spell, all of them
abbrev pub IsSplit : Next → Type 0
IsSplit (next.Frame raw bytes) = SpellsRaw (raw_frame raw) bytes.now
IsSplit (next.Need lack) = Unit {0}
IsSplit (next.Refused refusal) = Unit {0}

-- once the frame is no longer used, the feed is as it is after this call
abbrev pub GoesOn : MutBor Fed → Fml
GoesOn feed = Rests the_row feed (λ new. new ≡ after_next feed.now)
