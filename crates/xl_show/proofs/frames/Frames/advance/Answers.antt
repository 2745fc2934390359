-- what a look sees stays the same if more bytes follow, so the text that it writes is the front of what all tell
use Rattle.std.proofs.Common.{◌≤◌, ◌+◌, List, ℕ, length, sym, subst, refl, arith}
use Rattle.std.specs.String.{string_bytes}
use Rattle.xl_show.specs.Reading.{IsSeen}
use Rattle.xl_show.specs.Limits.{most_bytes}
use Rattle.xl_show.proofs.Looking.{stays_without, follows_without, tells_seen, front_seen, less_seen}
use Rattle.xl_show.proofs.Soon.{puts_seen}
use Rattle.xl_show.proofs.frames.Frames.advance.Goals as goal
use Rattle.xl_show.proofs.frames.Frames.advance.Goals.{After-write_all}

-- what was seen, in the bytes that have come, and what is told of it
seen : (g : _) (c : After-write_all g) → IsSeen c.in_ok-look.look c.args.self.now.place c.args.self.now.begun.items c.as_bytes.result.now
seen g c =
    subst (λ (text : List ℕ). IsSeen c.in_ok-look.look c.args.self.now.place c.args.self.now.begun.items text) (sym c.as_bytes.ensures.value)
    (subst (λ (bytes : List ℕ). IsSeen c.in_ok-look.look c.args.self.now.place bytes (string_bytes c.read.new.text)) c.deref.ensures.value c.in_ok-look.ensures)

within : (g : _) (c : After-write_all g) → c.args.self.now.place + length c.args.self.now.begun.items ≤ most_bytes
within g c = let self = c.args.self.now in omega (arith, self.within, self.begun.ok.0)

pub returns-in_err-write_all-clause-front : goal.returns-in_err-write_all-clause-front
returns-in_err-write_all-clause-front g c = λ rest.
    let at = (goal.at.returns-in_err-write_all-clause-front g c).After-write_all in
    let self = c.args.self.now in
    front_seen self.place self.count self.begun.items (within g at) c.in_ok-look.look c.as_bytes.result.now (seen g at) c.in_err-write_all.ensures.front rest

pub returns-in_err-write_all-clause-less : goal.returns-in_err-write_all-clause-less
returns-in_err-write_all-clause-less g c = λ _ rest.
    let at = (goal.at.returns-in_err-write_all-clause-less g c).After-write_all in
    let self = c.args.self.now in
    less_seen self.place self.count self.begun.items (within g at) c.in_ok-look.look c.as_bytes.result.now (seen g at) c.in_err-write_all.ensures.less rest

pub returns-in-Frame-clause-ok : goal.returns-in-Frame-clause-ok
returns-in-Frame-clause-ok g c = λ rest.
    let at = (goal.at.returns-in-Frame-clause-ok g c).After-write_all in
    let self = c.args.self.now in
    let new = c.leave.new.self in
    rw c.in-Frame.is at (tells_seen self.place self.count self.begun.items (within g at) c.in_ok-look.look c.as_bytes.result.now (seen g at) new.place new.count new.begun.items (rw c.in-Frame.is (c.leave.ensures.place, c.leave.ensures.count, c.leave.ensures.begun)) c.in_ok-write_all.ensures.whole rest)

pub returns-in-Frame-clause-front : goal.returns-in-Frame-clause-front
returns-in-Frame-clause-front g c = λ rest.
    let at = (goal.at.returns-in-Frame-clause-front g c).After-write_all in
    let self = c.args.self.now in
    front_seen self.place self.count self.begun.items (within g at) c.in_ok-look.look c.as_bytes.result.now (seen g at) c.in_ok-write_all.ensures.front rest

pub returns-in_default-clause-ok : goal.returns-in_default-clause-ok
returns-in_default-clause-ok g c = λ rest.
    let at = (goal.at.returns-in_default-clause-ok g c).After-write_all in
    let self = c.args.self.now in
    tells_seen self.place self.count self.begun.items (within g at) c.in_ok-look.look c.as_bytes.result.now (seen g at) self.place self.count self.begun.items (stays_without c.in_ok-look.look self.place self.count self.begun.items c.in_default.not-Frame) c.in_ok-write_all.ensures.whole rest

pub returns-in_default-clause-follows : goal.returns-in_default-clause-follows
returns-in_default-clause-follows g c =
    let at = (goal.at.returns-in_default-clause-follows g c).After-write_all in
    follows_without c.in_ok-look.look c.args.self.now _ c.as_bytes.result.now c.in_default.not-Frame refl refl refl (seen g at)

pub returns-in_default-clause-front : goal.returns-in_default-clause-front
returns-in_default-clause-front g c = λ rest.
    let at = (goal.at.returns-in_default-clause-front g c).After-write_all in
    let self = c.args.self.now in
    front_seen self.place self.count self.begun.items (within g at) c.in_ok-look.look c.as_bytes.result.now (seen g at) c.in_ok-write_all.ensures.front rest

pub returns-in-Frame-clause-soon : goal.returns-in-Frame-clause-soon
returns-in-Frame-clause-soon g c =
    let at = (goal.at.returns-in-Frame-clause-soon g c).After-write_all in
    let self = c.args.self.now in
    let new = c.leave.new.self in
    rw c.in-Frame.is at (puts_seen self.place self.count self.begun.items c.in_ok-look.look c.as_bytes.result.now (seen g at) new.place new.count new.begun.items (rw c.in-Frame.is (c.leave.ensures.place, c.leave.ensures.count, c.leave.ensures.begun)) _ _ c.in_ok-write_all.ensures.whole)

pub returns-in_default-clause-soon : goal.returns-in_default-clause-soon
returns-in_default-clause-soon g c =
    let at = (goal.at.returns-in_default-clause-soon g c).After-write_all in
    let self = c.args.self.now in
    puts_seen self.place self.count self.begun.items c.in_ok-look.look c.as_bytes.result.now (seen g at) self.place self.count self.begun.items (stays_without c.in_ok-look.look self.place self.count self.begun.items c.in_default.not-Frame) _ _ c.in_ok-write_all.ensures.whole
