-- Where looks lead.
use Rattle.std.proofs.Common.{◌≡◌, ◌∙◌, ◌+◌, ◌<◌, ◌≤◌, ℕ, List, length, take, arith, true, false, true≢false, Option, Some, None, refl, sym, subst, inl, inr}
use Rattle.std.proofs.lemmas.Bool.{cases_Bool}
use Rattle.std.proofs.lemmas.List.{length-take-le}
use Rattle.xl_publish.specs.Registers.{Register}
use Rattle.xl_publish.specs.Texts.{after_text, first_refused, lines_of}
use Rattle.xl_publish.specs.declared.publishing.Publishing.{Publishing}
use Rattle.xl_status.specs.declared.look.Look.{Look}
use Rattle.xl_heartbeat.specs.declared.rolls_text.RollsText.{RollsText}
use Rattle.xl_heartbeat.specs.declared.standing.Standing.{Standing}
use Rattle.xl_heartbeat.specs.Looks.{IsLed, Looks, LooksAt, LooksIfDue, Reads, is_look_due, look_of}

pub led_on : (rolls : Option RollsText) (first : Option Publishing) (now : ℕ) (before looked : Standing)
    (look : Option Look) → LooksAt rolls now before look looked → IsLed rolls first before.publishing
    → IsLed rolls first looked.publishing
led_on None first now before looked look same led =
    subst (λ (s : Standing). IsLed None first s.publishing) (sym same.1) led
led_on (Some rolls) first now before looked look l led = elim (cases_Bool (is_look_due before.due now)) [
  | inl due ↦ IsLed.looks before.publishing looked.publishing look led (l.looks due).0
  | inr undue ↦ subst (λ (s : Standing). IsLed (Some rolls) first s.publishing) (sym (l.waits undue).1) led
]

-- a look that isn't due is none
pub not_due : (rolls : RollsText) (now : ℕ) (standing : Standing) → is_look_due standing.due now ≡ false
    → LooksIfDue rolls now standing None standing
not_due rolls now standing undue = record {
  set = refl;
  looks = λ due. absurd (true≢false (sym due ∙ undue));
  waits = λ _. (refl, refl);
}

pub looked : (rolls : RollsText) (now : ℕ) (old new : Standing) (look : Option Look) → is_look_due old.due now ≡ true
    → new.set ≡ old.set → Looks rolls old.publishing look new.publishing → new.due ≡ now + 60000
    → LooksIfDue rolls now old look new
looked rolls now old new look due set looks later = record {
  set = set;
  looks = λ _. (looks, later);
  waits = λ undue. absurd (true≢false (sym due ∙ undue));
}

-- what was read is shorter than the room
pub few_read : (count : ℕ) (room : List ℕ) → length room ≡ 32769 → count < length room
    → length (take count room) ≤ 32768
few_read count room long few = omega (arith, long, few, length-take-le count room (omega (arith, few)))

-- so it is a text that may be looked at
pub read_so : (members : List ℕ) (old new : Register) (look : Look) (count : ℕ) (room : List ℕ) → length room ≡ 32769
    → count < length room → look ≡ look_of (first_refused members old.keys 1 (lines_of (take count room)))
    → new ≡ after_text members old (take count room) → Reads members old look new
read_so members old new look count room long few told is =
    inr (take count room, few_read count room long few, told, is)
