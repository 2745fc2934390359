-- What is told, part by part.
use Rattle.std.proofs.Common.{◌≡◌, ◌<◌, ◌≤◌, ◌-◌, ◌∷◌, ◌++◌, length, length-append, arith, ℕ, true, false, List, [], Option, refl, sym, ap, ◌∙◌, append_assoc, append-nil, subst}
use Rattle.std.specs.Io.KnownBytes.{append_known}
use Rattle.xl_io.specs.Sinks.{GrewByFront, GrewByLess}
use Rattle.xl_io.proofs.Growing.{append_known-none, append_known-twice}
use Rattle.xl_lines.specs.declared.limits.Limits.{Limits}
use Rattle.xl_lines.specs.declared.machine.Verdict.{Verdict}
use Rattle.xl_lines.specs.declared.machine.Verdict.TheVariants.{Refused, Found}
use Rattle.xl_lines.specs.declared.machine.Next.{Next}
use Rattle.xl_lines.specs.declared.machine.Next.TheVariants as next
use Rattle.xl_lines.specs.Rules.{Rules, Step, goes_on, refuses, finds, step_given, Told, refused, found}
use Rattle.xl_lines.specs.Told.{after, told_by, step_within}
use Rattle.xl_lines.specs.Running.{Tells, TellsAll, told_at, left_unless_ended, step_text}
use Rattle.xl_lines.specs.Lines.{before_newline}
use Rattle.xl_lines.proofs.Newlines.{IsOneLine}
use Rattle.xl_lines.proofs.Cutting.{told_at-ended, told_at-last}

-- nothing is written yet
pub tells_none : (known : Option (List ℕ)) (told : Told) → Tells known known told told
tells_none known told = record { written = []; held = sym (append_known-none known); parts = refl }

pub tells_then : {old mid new : Option (List ℕ)} {a b c : Told} → Tells old mid a b → Tells mid new b c → Tells old new a c
tells_then {old} {c = c} x y = record {
  written = x.written ++ y.written;
  held = y.held ∙ ap (λ known. append_known known y.written) x.held ∙ append_known-twice old x.written y.written;
  parts = x.parts ∙ ap (after x.written) y.parts ∙ ap (λ text. record { text = text; verdict = c.verdict; closed = c.closed }) (sym (append_assoc x.written y.written c.text));
}

pub tells_front : {old mid new : Option (List ℕ)} {a b : Told} → Tells old mid a b → GrewByFront mid new b.text → GrewByFront old new a.text
tells_front {old} x y = record {
  written = x.written ++ y.written;
  missing = y.missing;
  parts = ap (λ told. told.text) x.parts ∙ ap (λ text. x.written ++ text) y.parts ∙ sym (append_assoc x.written y.written y.missing);
  held = y.held ∙ ap (λ known. append_known known y.written) x.held ∙ append_known-twice old x.written y.written;
}

-- what is written of a text is a front of it
pub front_of_tells : {old new : Option (List ℕ)} {a b : Told} → Tells old new a b → GrewByFront old new a.text
front_of_tells {b = b} x = record { written = x.written; missing = b.text; parts = ap (λ told. told.text) x.parts; held = x.held }

pub tells_from : {old new : Option (List ℕ)} {a b c : Told} → a ≡ b → Tells old new b c → Tells old new a c
tells_from e x = record { written = x.written; held = x.held; parts = e ∙ x.parts }

pub front_from : {old new : Option (List ℕ)} {a b : Told} → a ≡ b → GrewByFront old new b.text → GrewByFront old new a.text
front_from e x = record { written = x.written; missing = x.missing; parts = ap (λ told. told.text) e ∙ x.parts; held = x.held }

-- and some of it isn't
pub tells_less : {old mid new : Option (List ℕ)} {a b : Told} → Tells old mid a b → GrewByLess mid new b.text → GrewByLess old new a.text
unfolding tells_front
tells_less x y = (tells_front x y.0, y.1)

pub less_from : {old new : Option (List ℕ)} {a b : Told} → a ≡ b → GrewByLess old new b.text → GrewByLess old new a.text
unfolding front_from
less_from e x = (front_from e x.0, x.1)

pub less_of_tells : {old new : Option (List ℕ)} {a b : Told} → Tells old new a b → 0 < length b.text → GrewByLess old new a.text
unfolding front_of_tells
less_of_tells x some = (front_of_tells x, some)

-- a last text is written
pub tells_refused : {old new : Option (List ℕ)} (text : List ℕ) → new ≡ append_known old text → Tells old new (refused text) (refused [])
tells_refused text held = record { written = text; held = held; parts = ap refused (sym (append-nil text)) }

pub tells_found : {old new : Option (List ℕ)} (text : List ℕ) → new ≡ append_known old text → Tells old new (found text) (found [])
tells_found text held = record { written = text; held = held; parts = ap found (sym (append-nil text)) }

-- the text of a step is written
pub tells_step : {S : Type 0} {old new : Option (List ℕ)} (next : Next) (text : List ℕ) (state : S) (then : S → Told) (step : Step S) → step_given next text state ≡ step → new ≡ append_known old text → Tells old new (told_by then step) (left_unless_ended next (then state))
unfolding told_by
tells_step next.Line text state then step e held = record { written = text; held = held; parts = ap (told_by then) (sym e) }
tells_step next.Refused text state then step e held = tells_from (ap (told_by then) (sym e)) (tells_refused text held)
tells_step next.Found text state then step e held = tells_from (ap (told_by then) (sym e)) (tells_found text held)

-- a front of the text of a step is written
pub front_of_step : {S : Type 0} {old new : Option (List ℕ)} (then : S → Told) (step : Step S) → GrewByFront old new (step_text step) → GrewByFront old new (told_by then step).text
unfolding told_by
front_of_step then (goes_on text state) x = record {
  written = x.written;
  missing = x.missing ++ (then state).text;
  parts = ap (λ xs. xs ++ (then state).text) x.parts ∙ append_assoc x.written x.missing (then state).text;
  held = x.held;
}
front_of_step then (refuses text) x = x
front_of_step then (finds text) x = x

less_of_step : {S : Type 0} {old new : Option (List ℕ)} (then : S → Told) (step : Step S) → GrewByLess old new (step_text step) → GrewByLess old new (told_by then step).text
unfolding told_by front_of_step
less_of_step then (goes_on text state) x = (front_of_step then (goes_on text state) x.0, omega (arith, x.1, length-append x.0.missing (then state).text))
less_of_step then (refuses text) x = x
less_of_step then (finds text) x = x

-- some of an answer isn't written
pub less_answered : {S : Type 0} {old new : Option (List ℕ)} (next : Next) (text : List ℕ) (state : S) (step : Step S) → step_given next text state ≡ step → GrewByLess old new text → GrewByLess old new (step_text step)
less_answered {old = old} {new = new} next.Line text state step e x = subst (λ given. GrewByLess old new (step_text given)) e x
less_answered {old = old} {new = new} next.Refused text state step e x = subst (λ given. GrewByLess old new (step_text given)) e x
less_answered {old = old} {new = new} next.Found text state step e x = subst (λ given. GrewByLess old new (step_text given)) e x

-- A line has ended, within the limits, and this of it is handed to the machine.
pub record LineEnds (limits : Limits) (line handed : List ℕ) : Type 0 where
  pub one_line : IsOneLine line
  pub short : length line ≤ limits.bytes
  pub handed_on : handed ≡ before_newline limits.returns line

module _ {S : Type 0} (rules : Rules S) (state : S) {limits : Limits} (left : ℕ) {line handed : List ℕ} {old new : Option (List ℕ)} where
  pub tells_line : (next : Next) (text : List ℕ) (state' : S) → LineEnds limits line handed → step_given next text state' ≡ step_within rules left state handed true → new ≡ append_known old text → (rest : List ℕ) → Tells old new (told_at limits rules left state line (10 ∷ rest)) (left_unless_ended next (told_at limits rules (left - 1) state' [] rest))
  tells_line next text state' e step held rest =
      tells_from (told_at-ended limits rules left state line handed rest e.one_line e.short e.handed_on)
      (tells_step next text state' (λ s. told_at limits rules (left - 1) s [] rest) (step_within rules left state handed true) step held)

  pub front_of_line : LineEnds limits line handed → GrewByFront old new (step_text (step_within rules left state handed true)) → (rest : List ℕ) → GrewByFront old new (told_at limits rules left state line (10 ∷ rest)).text
  front_of_line e front rest =
      front_from (told_at-ended limits rules left state line handed rest e.one_line e.short e.handed_on)
      (front_of_step (λ s. told_at limits rules (left - 1) s [] rest) (step_within rules left state handed true) front)

  pub less_of_line : LineEnds limits line handed → GrewByLess old new (step_text (step_within rules left state handed true)) → (rest : List ℕ) → GrewByLess old new (told_at limits rules left state line (10 ∷ rest)).text
  less_of_line e less rest =
      less_from (told_at-ended limits rules left state line handed rest e.one_line e.short e.handed_on)
      (less_of_step (λ s. told_at limits rules (left - 1) s [] rest) (step_within rules left state handed true) less)

-- The input ends in a line, within the limits, and it is handed to the machine.
pub record LineIsLast (limits : Limits) (line handed : List ℕ) : Type 0 where
  pub some : 0 < length line
  pub one_line : IsOneLine line
  pub short : length line ≤ limits.bytes
  pub handed_on : handed ≡ line

module _ {S : Type 0} (rules : Rules S) (state : S) {limits : Limits} (left : ℕ) {line handed : List ℕ} {old new : Option (List ℕ)} where
  pub tells_last : (next : Next) (text : List ℕ) (state' : S) → LineIsLast limits line handed → step_given next text state' ≡ step_within rules left state handed false → new ≡ append_known old text → Tells old new (told_at limits rules left state line []) (left_unless_ended next (rules.closing state'))
  tells_last next text state' e step held =
      tells_from (told_at-last limits rules left state line handed e.some e.one_line e.short e.handed_on)
      (tells_step next text state' rules.closing (step_within rules left state handed false) step held)

  pub front_of_last : LineIsLast limits line handed → GrewByFront old new (step_text (step_within rules left state handed false)) → GrewByFront old new (told_at limits rules left state line []).text
  front_of_last e front =
      front_from (told_at-last limits rules left state line handed e.some e.one_line e.short e.handed_on)
      (front_of_step rules.closing (step_within rules left state handed false) front)

  pub less_of_last : LineIsLast limits line handed → GrewByLess old new (step_text (step_within rules left state handed false)) → GrewByLess old new (told_at limits rules left state line []).text
  less_of_last e less =
      less_from (told_at-last limits rules left state line handed e.some e.one_line e.short e.handed_on)
      (less_of_step rules.closing (step_within rules left state handed false) less)

pub tells_all_then : {old mid new : Option (List ℕ)} {a b : Told} {verdict : Verdict} → Tells old mid a b → TellsAll mid new verdict b → TellsAll old new verdict a
tells_all_then {old} {b = b} x y = record {
  held = y.held ∙ ap (λ known. append_known known b.text) x.held ∙ append_known-twice old x.written b.text ∙ ap (λ told. append_known old told.text) (sym x.parts);
  says = ap (λ told. told.verdict) x.parts ∙ y.says;
}

pub tells_all_refused : {old new : Option (List ℕ)} {a : Told} → Tells old new a (refused []) → TellsAll old new Refused a
tells_all_refused {old} x = record {
  held = x.held ∙ ap (append_known old) (sym (append-nil x.written) ∙ ap (λ told. told.text) (sym x.parts));
  says = ap (λ told. told.verdict) x.parts;
}

pub tells_all_found : {old new : Option (List ℕ)} {a : Told} → Tells old new a (found []) → TellsAll old new Found a
tells_all_found {old} x = record {
  held = x.held ∙ ap (append_known old) (sym (append-nil x.written) ∙ ap (λ told. told.text) (sym x.parts));
  says = ap (λ told. told.verdict) x.parts;
}

pub all_from : {old new : Option (List ℕ)} {a b : Told} {verdict : Verdict} → a ≡ b → TellsAll old new verdict b → TellsAll old new verdict a
all_from {old} e x = record { held = x.held ∙ ap (λ told. append_known old told.text) (sym e); says = ap (λ told. told.verdict) e ∙ x.says }
