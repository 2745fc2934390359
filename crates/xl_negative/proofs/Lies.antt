-- What the receiver of a lie hears in it: each validation but one of its own number, for which it has no key.
use Rattle.std.proofs.Common.{◌≡◌, ◌≢◌, ℕ, zero, suc, Bool, true, false, cond, List, [], length, refl, arith, ap, sym, ◌∙◌, Option, Some, None, Result, append-nil}
use Rattle.std.specs.Prelude.{◌==◌, ◌&&◌, not, nat_le, bytes_eq, option_map, IsSome}
use Rattle.std.specs.Option.{option_map_or}
use Rattle.std.proofs.lemmas.Bool.{cond-true, cond-false, eq-eqb, le-leb}
use Rattle.std.proofs.lemmas.Bool.Decides.{nat_tests}
use Rattle.xl_base.specs.Refusals.{unless_refused}
use Rattle.xl_lists.specs.Lists.{is_outside}
use Rattle.xl_sched.specs.declared.event.Lied.{Lied}
use Rattle.xl_sched.specs.declared.event.Lied.TheVariants as lied
use Rattle.xl_wire.specs.declared.body.Body.{Body}
use Rattle.xl_wire.specs.declared.body.Body.TheVariants as bodies
use Rattle.xl_wire.specs.declared.refusal.WireRefusal.{WireRefusal}
use Rattle.xl_wire.specs.declared.validation.Validation.{Validation}
use Rattle.xl_wire.specs.Bodies.{IsValidation, body_in, body_of, body_refusal}
use Rattle.xl_wire.specs.Frames.{raw_of}
use Rattle.xl_wire.specs.Heads.{head_refusal, kind_in, lacking, raw_in, split_of, split_unless}
use Rattle.xl_wire.specs.Kinds.{span}
use Rattle.xl_wire.specs.Raws.{IsRaw, RawFrame, raw_bytes}
use Rattle.xl_wire.proofs.BodyLaws.{body_again}
use Rattle.xl_wire.proofs.FrameLaws.{spelled_raw}
use Rattle.xl_wire.proofs.RawLaws.{length-raw_bytes, split_again}
use Rattle.xl_tags.specs.Macs.{mac}
use Rattle.xl_tags.specs.Opening.{is_sealed}
use Rattle.xl_tags.specs.PairKeys.{pair_key_of}
use Rattle.xl_tags.specs.Rings.{Ring, key_of, schedule_ring}
use Rattle.xl_tags.specs.Sealing.{as_sealed, before_tag}
use Rattle.xl_tags.proofs.OpeningLaws.{IsRaw-as_sealed, sealed_exactly, tag_as_sealed}
use Rattle.xl_core.specs.Sending.{blank_frame}
use Rattle.xl_core.proofs.Heard.{as_sealed_bytes}
use Rattle.xl_world.specs.Schedule.{lied_bytes}
use Rattle.xl_world.proofs.Liars.{heard_sealed}
use Rattle.xl_world.proofs.Lying.{key_of_another, key_of_own}
use Rattle.xl_world.proofs.Sealing.{IsNumber}
use Rattle.xl_negative.specs.Hearing.{opens, said_if_read, said_in, said_in_body, said_in_frame, said_in_split}

-- ---- what says nothing of a ledger

cond_none : {X : Type 0} (b : Bool) (o : Option X) → o ≡ None → cond b o None ≡ None
cond_none true o none = none
cond_none false o none = refl

unread : (from : ℕ) (why : Option WireRefusal) (body : Body) → said_in_body from body ≡ None → said_if_read from (unless_refused why body) ≡ None
unread from (Some why) body none = refl
unread from None body none = none

unsaid : (keys : Ring) (bytes : List ℕ) → ((from : ℕ) (body : List ℕ) → said_in_body from (body_in (kind_in bytes) body) ≡ None) → said_in keys bytes ≡ None
unsaid keys bytes none = by_split (head_refusal bytes) (lacking bytes)
  where
    f : RawFrame
    f = raw_in bytes

    by_split : (why : Option WireRefusal) (lack : ℕ) → said_in_split keys bytes (split_unless why lack f) ≡ None
    by_split (Some why) lack = refl
    by_split None (suc lack) = refl
    by_split None zero =
        cond_none (nat_le (length bytes) (span f.body)) (said_in_frame keys f)
        (cond_none (opens keys f) (said_if_read f.from (body_of f.kind f.body)) (unread f.from (body_refusal f.kind f.body) (body_in f.kind f.body) (none f.from f.body)))

-- whatever else is said
pub others_unheard : (from to : ℕ) (lie : Lied) → ((v : Validation) → lie ≡ lied.Validation v → ⊥) → None ≡ said_in (schedule_ring to) (lied_bytes from to lie)
others_unheard from to (lied.Proposal p) other = sym (unsaid (schedule_ring to) (lied_bytes from to (lied.Proposal p)) (λ m body. refl))
others_unheard from to (lied.Validation v) other = absurd (other v refl)
others_unheard from to (lied.Header name header) other = sym (unsaid (schedule_ring to) (lied_bytes from to (lied.Header name header)) (λ m body. refl))
others_unheard from to (lied.TxSet ids) other = sym (unsaid (schedule_ring to) (lied_bytes from to (lied.TxSet ids)) (λ m body. refl))
others_unheard from to (lied.Tx tx) other = sym (unsaid (schedule_ring to) (lied_bytes from to (lied.Tx tx)) (λ m body. refl))

-- ---- a validation

-- one whole frame
said_whole : (keys : Ring) (g : RawFrame) → IsRaw g → said_in keys (raw_bytes g) ≡ said_in_frame keys g
said_whole keys g ok =
    ap (said_in_split keys (raw_bytes g)) (ap split_of (sym (append-nil (raw_bytes g))) ∙ split_again g [] ok)
    ∙ cond-true (nat_le (length (raw_bytes g)) (span g.body)) (said_in_frame keys g) None (le-leb _ _ (omega (arith, length-raw_bytes g ok.tag)))

its_number : (to : ℕ) → let ring : Ring = schedule_ring to in ring.me ≡ to
unfolding schedule_ring
its_number to = refl

all_pass : (a b c : Bool) → a ≡ true → b ≡ false → c ≡ true → (a && not b && c) ≡ true
all_pass a b c p q r = rw (p, q, r) refl

last_fails : (a b c : Bool) → c ≡ false → (a && not b && c) ≡ false
last_fails a b c r = grind (arith, r)

inside : (m : ℕ) → IsNumber m → is_outside m ≡ false
inside m number = grind (arith, nat_tests, number.0, number.1)

some_key : (o : Option (List ℕ)) (key : List ℕ) → o ≡ Some key → IsSome o
some_key None key is = absurd cc
some_key (Some k) key is = refl

module _ (from to : ℕ) (v : Validation) (mine : IsNumber from) (its : IsNumber to) (fit : IsValidation v) where
  abbrev body : Body
  body = bodies.Validation v

  abbrev ring : Ring
  ring = schedule_ring to

  abbrev f : RawFrame
  f = raw_of (blank_frame from to body)

  ok : IsRaw f
  ok = spelled_raw (blank_frame from to body) (record { body = fit; from = omega (arith, mine.1); to = omega (arith, its.1); tag = refl })

  abbrev g : RawFrame
  g = as_sealed ring f

  -- its receiver takes it as sealed
  heard_so : said_in ring (lied_bytes from to (lied.Validation v)) ≡ cond (opens ring g) (Some (record { member = from; seq = v.seq; id = v.id })) None
  heard_so =
      ap (said_in ring) (sym (heard_sealed from to body mine its ok) ∙ as_sealed_bytes ring (raw_bytes f) f (record { frame = ok; spelling = refl }))
      ∙ said_whole ring g (IsRaw-as_sealed ring f ok)
      ∙ ap (λ (r : Result Body WireRefusal). cond (opens ring g) (said_if_read from r) None) (body_again body fit)

  pub validation_heard : from ≢ to → Some (record { member = from; seq = v.seq; id = v.id }) ≡ said_in (schedule_ring to) (lied_bytes from to (lied.Validation v))
  validation_heard other =
      let some : IsSome (key_of ring from) = some_key (key_of ring from) (pair_key_of to from) (key_of_another to from mine.0 mine.1 other) in
      let right : is_sealed ring g ≡ true = (sealed_exactly ring g (is_sealed ring g) refl).1 (tag_as_sealed ring f ok some) in
      sym (heard_so ∙ cond-true (opens ring g) _ _ (all_pass (to == ring.me) (is_outside from) (is_sealed ring g) (eq-eqb to ring.me (sym (its_number to))) (inside from mine) right))

  pub own_unheard : from ≡ to → None ≡ said_in (schedule_ring to) (lied_bytes from to (lied.Validation v))
  own_unheard same =
      let wrong : is_sealed ring g ≡ false =
      ap (λ (o : Option (List ℕ)). option_map_or (λ tag. bytes_eq tag g.tag) (option_map (λ key. mac key (before_tag (raw_bytes g))) o) false) (key_of_own to from mine.0 mine.1 same) in
      sym (heard_so ∙ cond-false (opens ring g) _ _ (last_fails (to == ring.me) (is_outside from) (is_sealed ring g) wrong))
