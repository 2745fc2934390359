-- What is known of bytes in which something is heard, and in which nothing is.
use Rattle.std.proofs.Common.{◌≡◌, ◌≢◌, ℕ, zero, suc, ◌<◌, ◌≤◌, subst, Bool, true, false, List, [], ◌∷◌, length, refl, ap, sym, ◌∙◌, arith, Option, Some, None, Result, Ok, Err}
use Rattle.std.specs.Prelude.{◌==◌, ◌||◌, ◌-◌, not, nat_lt, nat_le, unwrap_or, option_map, IfOk, if◌then◌else◌}
use Rattle.std.specs.Option.{option_or}
use Rattle.std.proofs.lemmas.List.{take_all}
use Rattle.std.proofs.lemmas.Bool.Decides.{nat_tests}
use Rattle.std.proofs.lemmas.Bool.{cond_both, cond-true, cond-false, le-leb, lt-ltb, ltb-false, le-ltb, eq-eqb}
use Rattle.xl_base.specs.Refusals.{refused_if, first_of, unless_refused}
use Rattle.xl_lists.specs.Lists.{is_on}
use Rattle.xl_wire.specs.declared.body.Body.{Body}
use Rattle.xl_wire.specs.declared.body.Body.TheVariants as bodies
use Rattle.xl_wire.specs.declared.refusal.WireRefusal.{WireRefusal}
use Rattle.xl_wire.specs.Bodies.{body_of, body_in, body_refusal}
use Rattle.xl_wire.specs.Heads.{split_of, split_unless, head_refusal, lacking, raw_in}
use Rattle.xl_wire.specs.Heads.Split.{Whole, Need, Refused}
use Rattle.xl_wire.specs.Kinds.{span}
use Rattle.xl_wire.specs.Raws.{RawFrame, SpellsRaw, raw_bytes}
use Rattle.xl_wire.proofs.RawLaws.{length-raw_bytes, spelled_split}
use Rattle.xl_wire.proofs.BodyLaws.{spelled_read}
use Rattle.xl_tags.specs.Opening.{refusal_of, is_sealed}
use Rattle.xl_tags.specs.Sealing.{as_sealed, tag_by}
use Rattle.xl_tags.proofs.OpeningLaws.{IsRaw-as_sealed, as_sealed_same, opens_alone, sealed_exactly}
use Rattle.xl_tags.specs.Rings.{Ring}
use Rattle.xl_tags.specs.declared.refusal.TagRefusal.{TagRefusal}
use Rattle.xl_tags.specs.declared.refusal.TagRefusal.TheVariants.{NotForMe, Stranger, BadTag}
use Rattle.xl_wire.specs.declared.validation.Validation.{Validation}
use Rattle.xl_core.specs.declared.hearing.Spoken.{Spoken}
use Rattle.xl_core.specs.declared.hearing.Speech.TheVariants as speech
use Rattle.xl_core.specs.declared.refusal.Refusal.{Refusal}
use Rattle.xl_core.specs.declared.refusal.Refusal.TheVariants.{Frame, Tag, Short, Extra}
use Rattle.xl_core.specs.declared.hearing.Tags.{Tags}
use Rattle.xl_core.specs.declared.hearing.Tags.TheVariants.{Tested, Assumed}
use Rattle.xl_core.specs.Hearing.{bytes_as_sealed, bytes_with, causes, frame_with, heard_so, spoken_in, said_in, sealed_in, speech_of, hearing_refusal, Carries}

-- THE CAUSES

some_none : {X : Type 0} (x : X) → Some x ≡ None → ⊥
some_none x e = cc

-- a cause that doesn't decide
no_cause : {X : Type 0} (b : Bool) (x : X) → refused_if b x ≡ None → b ≡ false
no_cause true x e = absurd (some_none x e)
no_cause false x e = refl

none_of : {X Y : Type 0} (f : X → Y) (o : Option X) → option_map f o ≡ None → o ≡ None
none_of f None e = refl
none_of f (Some x) e = absurd (some_none (f x) e)

-- none of the causes holds
none_holds : {X : Type 0} (a b c d e : Option X) → first_of (a ∷ b ∷ c ∷ d ∷ e ∷ []) ≡ None → (a ≡ None) × (b ≡ None) × (c ≡ None) × (d ≡ None) × (e ≡ None)
none_holds None None None None None is = (refl, refl, refl, refl, refl)
none_holds a b c d e is = absurd cc

-- nothing is refused of these bytes
pub record Passes (ring : Ring) (members bytes : List ℕ) (f : RawFrame) : Type 0 where
  pub head : head_refusal bytes ≡ None
  pub whole : lacking bytes ≡ 0
  pub last : length bytes ≤ span f.body
  pub opened : refusal_of ring members f ≡ None
  pub body : body_refusal f.kind f.body ≡ None

passes : (ring : Ring) (members bytes : List ℕ) (f : RawFrame) → first_of (causes ring members bytes f) ≡ None → Passes ring members bytes f
passes ring members bytes f none =
    let parts = none_holds (option_map Frame (head_refusal bytes)) (refused_if (nat_lt 0 (lacking bytes)) (Short (lacking bytes)))
    (refused_if (nat_lt (span f.body) (length bytes)) (Extra (length bytes - span f.body))) (option_map Tag (refusal_of ring members f))
    (option_map Frame (body_refusal f.kind f.body)) none in
    let lacks : lacking bytes ≤ 0 = ltb-false 0 (lacking bytes) (no_cause (nat_lt 0 (lacking bytes)) (Short (lacking bytes)) parts.1) in
    record {
      head = none_of Frame (head_refusal bytes) parts.0;
      whole = omega (arith, lacks);
      last = ltb-false (span f.body) (length bytes) (no_cause (nat_lt (span f.body) (length bytes)) (Extra (length bytes - span f.body)) parts.2);
      opened = none_of Tag (refusal_of ring members f) parts.3;
      body = none_of Frame (body_refusal f.kind f.body) parts.4;
    }

-- WHAT IS HEARD

-- it says something in a whole frame that the node opens
pub record IsHeard (ring : Ring) (members bytes : List ℕ) (said : Spoken) : Type 0 where
  pub frame : RawFrame
  pub split : split_of bytes ≡ Whole frame
  pub last : nat_le (length bytes) (span frame.body) ≡ true
  pub for_me : (frame.to == ring.me) ≡ true
  pub other : frame.from ≢ ring.me
  pub listed : is_on members frame.from ≡ true
  pub is_sealed : is_sealed ring frame ≡ true
  pub body : body_refusal frame.kind frame.body ≡ None
  pub says : said_in frame ≡ said

-- a frame that is opened is for the ring's member, and is sealed
pub opens : (ring : Ring) (members : List ℕ) (f : RawFrame) → refusal_of ring members f ≡ None → ((f.to == ring.me) ≡ true) × (is_on members f.from ≡ true) × (is_sealed ring f ≡ true)
opens ring members f none = by_receiver (f.to == ring.me) none
  where
    by_tag : (b : Bool) → (if b then None else Some (BadTag f.tag (unwrap_or (tag_by ring f.from f) []))) ≡ None → b ≡ true
    by_tag true e = refl
    by_tag false e = absurd (some_none _ e)

    by_sender : (me on : Bool) → (if me || not on then Some (Stranger f.from) else if is_sealed ring f then None else Some (BadTag f.tag (unwrap_or (tag_by ring f.from f) []))) ≡ None → (on ≡ true) × (is_sealed ring f ≡ true)
    by_sender true on e = absurd (some_none _ e)
    by_sender false true e = (refl, by_tag (is_sealed ring f) e)
    by_sender false false e = absurd (some_none _ e)

    by_receiver : (b : Bool) → (if not b then Some (NotForMe f.to) else if f.from == ring.me || not (is_on members f.from) then Some (Stranger f.from)
        else if is_sealed ring f then None else Some (BadTag f.tag (unwrap_or (tag_by ring f.from f) []))) ≡ None → (b ≡ true) × (is_on members f.from ≡ true) × (is_sealed ring f ≡ true)
    by_receiver true e = let parts = by_sender (f.from == ring.me) (is_on members f.from) e in (refl, parts.0, parts.1)
    by_receiver false e = absurd (some_none _ e)

abbrev told : Spoken → Result Spoken Refusal
told said = Ok said

same_said : (a b : Spoken) → told a ≡ told b → a ≡ b
same_said a b e = cc

-- bytes in which something is heard are refused for no cause
pub heard_by : (ring : Ring) (members bytes : List ℕ) (said : Spoken) → spoken_in ring members bytes ≡ Ok said → (hearing_refusal ring members bytes ≡ None) × (said_in (raw_in bytes) ≡ said)
heard_by ring members bytes said is = by (hearing_refusal ring members bytes) is
  where
    by : (o : Option Refusal) → unless_refused o (said_in (raw_in bytes)) ≡ Ok said → (o ≡ None) × (said_in (raw_in bytes) ≡ said)
    by None e = (refl, same_said (said_in (raw_in bytes)) said e)
    by (Some why) e = cc

-- and something is heard if none holds
pub heard_where : (ring : Ring) (members bytes : List ℕ) → hearing_refusal ring members bytes ≡ None → spoken_in ring members bytes ≡ Ok (said_in (raw_in bytes))
heard_where ring members bytes none = ap (λ (o : Option Refusal). unless_refused o (said_in (raw_in bytes))) none

split_whole : (o : Option WireRefusal) (lack : ℕ) (f : RawFrame) → o ≡ None → lack ≡ 0 → split_unless o lack f ≡ Whole f
split_whole o lack f e d = rw (e, d) refl

pub heard_parts : (ring : Ring) (members bytes : List ℕ) (said : Spoken) → spoken_in ring members bytes ≡ Ok said → IsHeard ring members bytes said
heard_parts ring members bytes said is =
    let by = heard_by ring members bytes said is in
    let f : RawFrame = raw_in bytes in
    let p = passes ring members bytes f by.0 in
    let right = opens ring members f p.opened in
    record {
      frame = f;
      split = split_whole (head_refusal bytes) (lacking bytes) f p.head p.whole;
      last = le-leb (length bytes) (span f.body) p.last;
      for_me = right.0;
      other = (opens_alone ring members f p.opened).1;
      listed = right.1;
      is_sealed = right.2;
      body = p.body;
      says = by.1;
    }

-- what is said is said by the sender
pub sender : (ring : Ring) (members bytes : List ℕ) (said : Spoken) (h : IsHeard ring members bytes said) → said.from ≡ h.frame.from
sender ring members bytes said h = sym (ap (λ (s : Spoken). s.from) h.says)

-- who is heard is listed
pub heard_listed : (ring : Ring) (members bytes : List ℕ) (r : Result Spoken Refusal) → r ≡ spoken_in ring members bytes → IfOk r (λ said. is_on members said.from ≡ true)
heard_listed ring members bytes (Ok said) is =
    let parts = heard_parts ring members bytes said (sym is) in
    ap (is_on members) (sender ring members bytes said parts) ∙ parts.listed
heard_listed ring members bytes (Err why) is = tt

-- nor is it the ring's own member
pub not_itself : (ring : Ring) (members bytes : List ℕ) (said : Spoken) → spoken_in ring members bytes ≡ Ok said → said.from ≢ ring.me
not_itself ring members bytes said is =
    let parts = heard_parts ring members bytes said is in
    subst (λ (from : ℕ). from ≢ ring.me) (sym (sender ring members bytes said parts)) parts.other

same_validation : (a b : Validation) → speech.Validation a ≡ speech.Validation b → a ≡ b
same_validation a b e = cc

-- a validation is said by the body of one
validation_says : (v : Validation) (body : Body) → speech_of body ≡ speech.Validation v → body ≡ bodies.Validation v
validation_says v (bodies.Validation u) is = ap (λ (w : Validation). (let b : Body = bodies.Validation w in b)) (same_validation u v is)
validation_says v other is = cc

-- a validation that is heard is the frame's body
pub validation_body : (ring : Ring) (members bytes : List ℕ) (from : ℕ) (v : Validation) (h : IsHeard ring members bytes (record { from = from; what = speech.Validation v })) →
    body_of h.frame.kind h.frame.body ≡ Ok (bodies.Validation v)
validation_body ring members bytes from v h =
    let body : Body = body_in h.frame.kind h.frame.body in
    ap (λ (o : Option WireRefusal). unless_refused o body) h.body
    ∙ ap (λ (b : Body). (let r : Result Body WireRefusal = Ok b in r)) (validation_says v body (ap (λ (s : Spoken). s.what) h.says))

-- WHAT THE TESTS FIND

-- what is made of a body, if it was read
abbrev pub read_so : ℕ → Result Body WireRefusal → Result Spoken Refusal
read_so from (Ok body) = Ok (record { from = from; what = speech_of body })
read_so from (Err why) = Err (Frame why)

pub so_read : (from : ℕ) (r : Result Body WireRefusal) → read_so from r ≡ heard_so (Ok from) r
so_read from (Ok body) = refl
so_read from (Err why) = refl

of_body : (f : RawFrame) (o : Option WireRefusal) → read_so f.from (unless_refused o (body_in f.kind f.body)) ≡ unless_refused (first_of (option_map Frame o ∷ [])) (said_in f)
of_body f None = refl
of_body f (Some why) = refl

split_refused : (o : Option WireRefusal) (lack : ℕ) (f : RawFrame) (why : WireRefusal) → split_unless o lack f ≡ Refused why → o ≡ Some why
split_refused None zero f why is = cc
split_refused None (suc lack) f why is = cc
split_refused (Some other) lack f why is = cc

split_need : (o : Option WireRefusal) (lack n : ℕ) (f : RawFrame) → split_unless o lack f ≡ Need n → (o ≡ None) × (lack ≡ n) × (0 < lack)
split_need None zero n f is = absurd cc
split_need None (suc lack) n f is = (refl, same (suc lack) n is, omega arith)
  where
    same : (a b : ℕ) → Need a ≡ Need b → a ≡ b
    same a b e = cc
split_need (Some why) lack n f is = absurd cc

split_found : (o : Option WireRefusal) (lack : ℕ) (raw f : RawFrame) → split_unless o lack raw ≡ Whole f → (o ≡ None) × (lack ≡ 0) × (raw ≡ f)
split_found None zero raw f is = (refl, refl, same raw f is)
  where
    same : (a b : RawFrame) → Whole a ≡ Whole b → a ≡ b
    same a b e = cc
split_found None (suc lack) raw f is = absurd cc
split_found (Some why) lack raw f is = absurd cc

module _ (ring : Ring) (members bytes : List ℕ) where
  -- the causes, once some are known
  abbrev heard_with : Option WireRefusal → ℕ → RawFrame → Bool → Option TagRefusal → Result Spoken Refusal
  heard_with head lack f more tag = unless_refused (first_of (
      option_map Frame head
      ∷ refused_if (nat_lt 0 lack) (Short lack)
      ∷ refused_if more (Extra (length bytes - span f.body))
      ∷ option_map Tag tag
      ∷ option_map Frame (body_refusal f.kind f.body)
      ∷ [])) (said_in f)

  pub no_frame : (why : WireRefusal) → split_of bytes ≡ Refused why → spoken_in ring members bytes ≡ Err (Frame why)
  no_frame why is =
      let f : RawFrame = raw_in bytes in
      ap (λ (o : Option WireRefusal). heard_with o (lacking bytes) f (nat_lt (span f.body) (length bytes)) (refusal_of ring members f)) (split_refused (head_refusal bytes) (lacking bytes) f why is)

  pub short : (lack : ℕ) → split_of bytes ≡ Need lack → spoken_in ring members bytes ≡ Err (Short lack)
  short lack is =
      let f : RawFrame = raw_in bytes in
      let found = split_need (head_refusal bytes) (lacking bytes) lack f is in
      let more = nat_lt (span f.body) (length bytes) in
      ap (λ (o : Option WireRefusal). heard_with o (lacking bytes) f more (refusal_of ring members f)) found.0
      ∙ cond_both (nat_lt 0 (lacking bytes)) (Some (Short (lacking bytes))) None
      (λ o. unless_refused (option_or o (first_of (refused_if more (Extra (length bytes - span f.body)) ∷ option_map Tag (refusal_of ring members f) ∷ option_map Frame (body_refusal f.kind f.body) ∷ []))) (said_in f) ≡ Err (Short lack))
      (λ _. ap (λ (n : ℕ). (let r : Result Spoken Refusal = Err (Short n) in r)) found.1)
      (λ none. absurd (omega (arith, found.2, ltb-false 0 (lacking bytes) none)))

  -- a whole frame
  of_frame : (f : RawFrame) → split_of bytes ≡ Whole f → spoken_in ring members bytes ≡ heard_with None 0 f (nat_lt (span f.body) (length bytes)) (refusal_of ring members f)
  of_frame f is =
      let found = split_found (head_refusal bytes) (lacking bytes) (raw_in bytes) f is in
      let raw : RawFrame = raw_in bytes in
      ap (λ (o : Option WireRefusal). heard_with o (lacking bytes) raw (nat_lt (span raw.body) (length bytes)) (refusal_of ring members raw)) found.0
      ∙ ap (λ (n : ℕ). heard_with None n raw (nat_lt (span raw.body) (length bytes)) (refusal_of ring members raw)) found.1
      ∙ ap (λ (g : RawFrame). heard_with None 0 g (nat_lt (span g.body) (length bytes)) (refusal_of ring members g)) found.2

  pub long : (f : RawFrame) → split_of bytes ≡ Whole f → span f.body < length bytes → spoken_in ring members bytes ≡ Err (Extra (length bytes - span f.body))
  long f is more =
      of_frame f is ∙ ap (λ (b : Bool). heard_with None 0 f b (refusal_of ring members f)) (lt-ltb (span f.body) (length bytes) more)

  pub opened : (f : RawFrame) → split_of bytes ≡ Whole f → length bytes ≤ span f.body → spoken_in ring members bytes ≡ heard_with None 0 f false (refusal_of ring members f)
  opened f is fits = of_frame f is ∙ ap (λ (b : Bool). heard_with None 0 f b (refusal_of ring members f)) (le-ltb (span f.body) (length bytes) fits)

  pub unopened : (f : RawFrame) (why : TagRefusal) → split_of bytes ≡ Whole f → length bytes ≤ span f.body → refusal_of ring members f ≡ Some why → spoken_in ring members bytes ≡ Err (Tag why)
  unopened f why is fits refused = opened f is fits ∙ ap (heard_with None 0 f false) refused

  -- its body was read
  pub read : (f : RawFrame) (r : Result Body WireRefusal) → split_of bytes ≡ Whole f → length bytes ≤ span f.body → refusal_of ring members f ≡ None → r ≡ body_of f.kind f.body →
      spoken_in ring members bytes ≡ read_so f.from r
  read f r is fits opens body =
      opened f is fits ∙ ap (heard_with None 0 f false) opens ∙ sym (of_body f (body_refusal f.kind f.body)) ∙ ap (read_so f.from) (sym body)

-- WHAT IS ALWAYS HEARD

pass : (to from on right : Bool) (a b c : TagRefusal) → to ≡ true → from ≡ false → on ≡ true → right ≡ true →
    (if not to then Some a else if from || not on then Some b else if right then None else Some c) ≡ None
pass to from on right a b c p q r s = rw (p, q, r, s) refl

differs : (m n : ℕ) → m ≢ n → (m == n) ≡ false
differs m n other = grind (arith, nat_tests)

-- a frame that another listed member sealed
pub carried : (ring : Ring) (members bytes : List ℕ) (f : RawFrame) (body : Body) → Carries ring members bytes f body →
    spoken_in ring members bytes ≡ Ok (record { from = f.from; what = speech_of body })
carried ring members bytes f body c =
    let long : length bytes ≡ span f.body = ap length c.frame.spelling ∙ length-raw_bytes f c.frame.frame.tag in
    let all : length bytes ≤ span f.body = omega (arith, long) in
    let whole : split_of bytes ≡ Whole f = spelled_split bytes f (subst (SpellsRaw f) (sym (take_all (span f.body) bytes all)) c.frame) in
    let opens : refusal_of ring members f ≡ None =
    pass (f.to == ring.me) (f.from == ring.me) (is_on members f.from) (is_sealed ring f) _ _ _
    (eq-eqb f.to ring.me c.mine) (differs f.from ring.me c.other) c.listed ((sealed_exactly ring f (is_sealed ring f) refl).1 c.tag) in
    read ring members bytes f (Ok body) whole all opens (sym (spelled_read f.kind f.body body c.says))

-- WHAT STANDS IN PLACE OF BYTES

-- bytes that aren't one whole frame stay
pub stays_refused : (tags : Tags) (ring : Ring) (bytes : List ℕ) (why : WireRefusal) → split_of bytes ≡ Refused why → bytes_with tags ring bytes ≡ bytes
stays_refused Tested ring bytes why is = refl
stays_refused Assumed ring bytes why is = ap (sealed_in ring bytes) is

pub stays_short : (tags : Tags) (ring : Ring) (bytes : List ℕ) (lack : ℕ) → split_of bytes ≡ Need lack → bytes_with tags ring bytes ≡ bytes
stays_short Tested ring bytes lack is = refl
stays_short Assumed ring bytes lack is = ap (sealed_in ring bytes) is

pub stays_long : (tags : Tags) (ring : Ring) (bytes : List ℕ) (f : RawFrame) → split_of bytes ≡ Whole f → span f.body < length bytes → bytes_with tags ring bytes ≡ bytes
stays_long Tested ring bytes f is more = refl
stays_long Assumed ring bytes f is more =
    ap (sealed_in ring bytes) is ∙ cond-true (nat_lt (span f.body) (length bytes)) bytes (raw_bytes (as_sealed ring f)) (lt-ltb (span f.body) (length bytes) more)

-- of one whole frame stands one whole frame
pub record IsFrame (bytes : List ℕ) (f : RawFrame) : Type 0 where
  pub split : split_of bytes ≡ Whole f
  pub all : length bytes ≤ span f.body

pub spelled_frame : (bytes : List ℕ) (f : RawFrame) → SpellsRaw f bytes → IsFrame bytes f
spelled_frame bytes f s =
    let long : length bytes ≡ span f.body = ap length s.spelling ∙ length-raw_bytes f s.frame.tag in
    let all : length bytes ≤ span f.body = omega (arith, long) in
    record { split = spelled_split bytes f (subst (SpellsRaw f) (sym (take_all (span f.body) bytes all)) s); all = all }

pub as_sealed_bytes : (ring : Ring) (bytes : List ℕ) (f : RawFrame) → SpellsRaw f bytes → bytes_as_sealed ring bytes ≡ raw_bytes (as_sealed ring f)
as_sealed_bytes ring bytes f s =
    let is = spelled_frame bytes f s in
    ap (sealed_in ring bytes) is.split ∙ cond-false (nat_lt (span f.body) (length bytes)) bytes (raw_bytes (as_sealed ring f)) (le-ltb (span f.body) (length bytes) is.all)

pub framed_with : (tags : Tags) (ring : Ring) (bytes : List ℕ) (f : RawFrame) → SpellsRaw f bytes → IsFrame (bytes_with tags ring bytes) (frame_with tags ring f)
framed_with Tested ring bytes f s = spelled_frame bytes f s
framed_with Assumed ring bytes f s =
    subst (λ (b : List ℕ). IsFrame b (as_sealed ring f)) (sym (as_sealed_bytes ring bytes f s))
    (spelled_frame (raw_bytes (as_sealed ring f)) (as_sealed ring f) (record { frame = IsRaw-as_sealed ring f s.frame; spelling = refl }))

-- bytes that their sender sealed stay
pub sealed_already : (ring : Ring) (bytes : List ℕ) (f : RawFrame) → SpellsRaw f bytes → tag_by ring f.from f ≡ Some f.tag → bytes_as_sealed ring bytes ≡ bytes
sealed_already ring bytes f s right = as_sealed_bytes ring bytes f s ∙ ap raw_bytes (as_sealed_same ring f right) ∙ sym s.spelling
