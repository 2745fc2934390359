-- What a liar says, said again.
use Rattle.std.proofs.Common.{◌≡◌, ◌+◌, ◌*◌, ◌≤◌, ◌==◌, inl, inr, ℕ, suc, Bool, true, false, cond, nat_le, List, [], ◌∷◌, length, map, Option, Some, None, Ok, Err, refl, ap, sym, ◌∙◌, subst, arith, codes}
use Rattle.std.specs.Prelude.{IfSome}
use Rattle.std.specs.List.{AllByRecursion}
use Rattle.std.specs.Str.{bytes_eq}
use Rattle.std.proofs.lemmas.Bool.Decides.{nat_tests}
use Rattle.hex.specs.Hex.{encode_lower, lower_digits}
use Rattle.std.proofs.lemmas.List.Elements.{recursion_from_All}
use Rattle.std.proofs.lemmas.Slice.Eq.{bytes_eq-Decides}
use Rattle.hex.proofs.HexLemmas.{length-encode_with}
use Rattle.xl_base.specs.declared.ids.LedgerId.{LedgerId}
use Rattle.xl_base.specs.declared.ids.SetId.{SetId}
use Rattle.xl_base.specs.declared.ids.TxId.{TxId}
use Rattle.xl_base.specs.Sets.{most_ids}
use Rattle.xl_sched.specs.declared.event.Lied.{Lied}
use Rattle.xl_sched.specs.declared.event.Lied.TheVariants as lied
use Rattle.xl_sched.specs.declared.named.Named.{Named}
use Rattle.xl_sched.specs.declared.refusal.SchedRefusal.TheVariants as refusal
use Rattle.xl_sched.specs.declared.word.LieWord.{LieWord}
use Rattle.xl_sched.specs.declared.word.LieWord.TheVariants as word
use Rattle.xl_sched.specs.Refusals.{◌>>=◌}
use Rattle.xl_sched.specs.Numbers.{number_of}
use Rattle.xl_sched.specs.Choices.{full_of}
use Rattle.xl_sched.specs.Tokens.{entries}
use Rattle.xl_sched.specs.Names.{ledger_id_of, set_id_of, tx_id_of}
use Rattle.xl_sched.specs.Ledgers.{ledger_of}
use Rattle.xl_sched.specs.TxSets.{rises, risen_id_of, risen_ids_of, joined_ids_of, tx_set_of}
use Rattle.xl_sched.specs.Lies.{lie_word, said_proposal, validation_of, told_if, said_validation, said_header, said_tx_set, said_tx, lied_of}
use Rattle.xl_spelling.specs.Spellings.{with_commas, set_word, validated_words, lied_words}
use Rattle.xl_base.specs.Ids.{IsId}
use Rattle.xl_spelling.specs.Stored.{IsStoredLied}
use Rattle.xl_spelling.proofs.Joins.{Clear, cut-joined, joined-spread, joined-all, spread}
use Rattle.xl_spelling.proofs.Numerals.{IsSolid, digits-solid}
use Rattle.xl_spelling.proofs.Parts.{Gives, steps, same-ok, passed, number-same, kind-same, id-read}
use Rattle.xl_spelling.proofs.Small.{IsInk, IsInked, IsSmall, small-inked, number-small, id-small, kind-small, inked, AreShort, AreLike}
use Rattle.xl_spelling.proofs.Asks.{IsAgain, ledger_id-read}
use Rattle.xl_spelling.proofs.WordLemmas.{lie_text, lie_text-same}

-- the digits of an id, and the byte beside them
abbrev id_spread : ℕ
id_spread = 65

-- the digits of other ids are those ids
set_id-read : (names : List Named) (t : List ℕ) (id : SetId) → IsId id.0 → set_id_of names t ≡ Ok id → set_id_of names (encode_lower id.0) ≡ set_id_of names t
set_id-read names t id h e = ap (λ read. read >>= (λ i. Ok (record { 0 = i }))) (id-read names id.0 h) ∙ sym e

pub tx_id-read : (names : List Named) (id : TxId) → IsId id.0 → tx_id_of names (encode_lower id.0) ≡ Ok id
tx_id-read names id h = ap (λ read. read >>= (λ i. Ok (record { 0 = i }))) (id-read names id.0 h)

proposal-again : (names : List Named) (old : List (List ℕ)) (l : Lied) → said_proposal names old ≡ Ok l → IsStoredLied l → IsAgain lied_words (said_proposal names) (codes "proposal") 16650 old l
proposal-again names (before ∷ position ∷ changes ∷ second ∷ made ∷ []) l e stored =
    let p = steps (ledger_id_of names before) (λ prev. set_id_of names position >>= (λ set. number_of changes >>= (λ pseq. number_of second >>= (λ close. number_of made >>= (λ time. Ok (lied.Proposal (record { prev = prev; set = set; pseq = pseq; close = close; time = time }))))))) l e in
    let s = steps (set_id_of names position) (λ set. number_of changes >>= (λ pseq. number_of second >>= (λ close. number_of made >>= (λ time. Ok (lied.Proposal (record { prev = p.value; set = set; pseq = pseq; close = close; time = time })))))) l p.rest in
    let q = steps (number_of changes) (λ pseq. number_of second >>= (λ close. number_of made >>= (λ time. Ok (lied.Proposal (record { prev = p.value; set = s.value; pseq = pseq; close = close; time = time }))))) l s.rest in
    let c = steps (number_of second) (λ close. number_of made >>= (λ time. Ok (lied.Proposal (record { prev = p.value; set = s.value; pseq = q.value; close = close; time = time })))) l q.rest in
    let m = steps (number_of made) (λ time. Ok (lied.Proposal (record { prev = p.value; set = s.value; pseq = q.value; close = c.value; time = time }))) l c.rest in
    let said : Lied = lied.Proposal (record { prev = p.value; set = s.value; pseq = q.value; close = c.value; time = m.value }) in
    let is = same-ok said l m.rest in
    let fits : IsId p.value.0 × IsId s.value.0 = subst IsStoredLied (sym is) stored in
    let pseq = number-same changes q.value q.gave in
    let close = number-same second c.value c.gave in
    let time = number-same made m.value m.gave in
    let prev-small = id-small p.value.0 fits.0 in
    let set-small = id-small s.value.0 fits.1 in
    let pseq-small = number-small changes q.value q.gave in
    let close-small = number-small second c.value c.gave in
    let time-small = number-small made m.value m.gave in
    record {
      arguments = encode_lower p.value.0 ∷ encode_lower s.value.0 ∷ changes ∷ second ∷ made ∷ [];
      words = ap lied_words (sym is) ∙ cc (pseq, close, time);
      same =
          ap (λ read. read >>= (λ prev. set_id_of names (encode_lower s.value.0) >>= (λ set. number_of changes >>= (λ pseq. number_of second >>= (λ close. number_of made >>= (λ time. Ok (lied.Proposal (record { prev = prev; set = set; pseq = pseq; close = close; time = time }))))))))
          (ledger_id-read names before p.value fits.0 p.gave)
          ∙ ap (λ read. ledger_id_of names before >>= (λ prev. read >>= (λ set. number_of changes >>= (λ pseq. number_of second >>= (λ close. number_of made >>= (λ time. Ok (lied.Proposal (record { prev = prev; set = set; pseq = pseq; close = close; time = time }))))))))
          (set_id-read names position s.value fits.1 s.gave)
          ∙ e;
      count = refl;
      like = inr (
        (small-inked 64 (encode_lower p.value.0) prev-small, (small-inked 64 (encode_lower s.value.0) set-small, (small-inked 10 changes pseq-small, (small-inked 10 second close-small, (small-inked 10 made time-small, tt))))),
        omega (arith, prev-small.few, set-small.few, pseq-small.few, close-small.few, time-small.few),
      );
    }
proposal-again names other l e stored = absurd (cc)

-- the tokens of what a validation tells
abbrev told_tokens : Option (List ℕ) → List (List ℕ)
told_tokens None = []
told_tokens (Some token) = token ∷ []

-- the ledger that a validation tells, where its line has one token more or not
record IsToldAgain (names : List Named) (old : Option (List ℕ)) (told : Option LedgerId) : Type 0 where
  tokens : List (List ℕ)
  new : Option (List ℕ)
  words : validated_words told ≡ tokens
  same : told_if names new ≡ Ok told
  -- a token more exactly where there was one
  fits : told_tokens new ≡ tokens
  count : length tokens ≡ length (told_tokens old)
  ink : AllByRecursion IsInked tokens
  few : spread tokens ≤ id_spread

told-again : (names : List Named) (old : Option (List ℕ)) (told : Option LedgerId) → told_if names old ≡ Ok told → IfSome told (λ id. IsId id.0) → IsToldAgain names old told
told-again names None told e stored =
    let is = same-ok None told e in
    record { tokens = []; new = None; words = ap validated_words (sym is); same = e; fits = refl; count = refl; ink = tt; few = omega arith }
told-again names (Some token) told e stored =
    let i = steps (ledger_id_of names token) (λ id. Ok (Some id)) told e in
    let is = same-ok (Some i.value) told i.rest in
    let fits : IsId i.value.0 = subst (λ (o : Option LedgerId). IfSome o (λ id. IsId id.0)) (sym is) stored in
    let digits = encode_lower i.value.0 in
    let digits-small = id-small i.value.0 fits in
    record {
      tokens = digits ∷ [];
      new = Some digits;
      words = ap validated_words (sym is);
      same = ap (λ read. read >>= (λ id. Ok (Some id))) (ledger_id-read names token i.value fits i.gave) ∙ e;
      fits = refl;
      count = refl;
      ink = (small-inked 64 digits digits-small, tt);
      few = omega (arith, digits-small.few);
    }

-- a validation by its parts
record IsValidationAgain (names : List Named) (sequence second kind : List ℕ) (old : Option (List ℕ)) (l : Lied) : Type 0 where
  id : List ℕ
  tokens : List (List ℕ)
  new : Option (List ℕ)
  fits : told_tokens new ≡ tokens
  words : lied_words l ≡ codes "validation" ∷ sequence ∷ id ∷ second ∷ kind ∷ tokens
  same : validation_of names sequence id second kind (told_if names new) ≡ Ok l
  count : length tokens ≡ length (told_tokens old)
  like : AreShort 16650 (sequence ∷ id ∷ second ∷ kind ∷ tokens)

validation_of-again : (names : List Named) (sequence id second kind : List ℕ) (old : Option (List ℕ)) (l : Lied) → validation_of names sequence id second kind (told_if names old) ≡ Ok l → IsStoredLied l →
    IsValidationAgain names sequence second kind old l
validation_of-again names sequence id second kind old l e stored =
    let s = steps (number_of sequence) (λ seq. ledger_id_of names id >>= (λ ledger. number_of second >>= (λ signed. full_of kind >>= (λ full. told_if names old >>= (λ told. Ok (lied.Validation (record { id = ledger; seq = seq; signed = signed; full = full; validated = told }))))))) l e in
    let i = steps (ledger_id_of names id) (λ ledger. number_of second >>= (λ signed. full_of kind >>= (λ full. told_if names old >>= (λ told. Ok (lied.Validation (record { id = ledger; seq = s.value; signed = signed; full = full; validated = told })))))) l s.rest in
    let g = steps (number_of second) (λ signed. full_of kind >>= (λ full. told_if names old >>= (λ told. Ok (lied.Validation (record { id = i.value; seq = s.value; signed = signed; full = full; validated = told }))))) l i.rest in
    let f = steps (full_of kind) (λ full. told_if names old >>= (λ told. Ok (lied.Validation (record { id = i.value; seq = s.value; signed = g.value; full = full; validated = told })))) l g.rest in
    let t = steps (told_if names old) (λ told. Ok (lied.Validation (record { id = i.value; seq = s.value; signed = g.value; full = f.value; validated = told }))) l f.rest in
    let said : Lied = lied.Validation (record { id = i.value; seq = s.value; signed = g.value; full = f.value; validated = t.value }) in
    let is = same-ok said l t.rest in
    let stands : IsId i.value.0 × IfSome t.value (λ id. IsId id.0) = subst IsStoredLied (sym is) stored in
    let told = told-again names old t.value t.gave stands.1 in
    let seq = number-same sequence s.value s.gave in
    let signed = number-same second g.value g.gave in
    let full = kind-same kind f.value f.gave in
    let told-words = told.words in
    let seq-small = number-small sequence s.value s.gave in
    let digits-small = id-small i.value.0 stands.0 in
    let signed-small = number-small second g.value g.gave in
    let full-small : IsSmall 7 kind = subst (IsSmall 7) full (kind-small f.value) in
    record {
      id = encode_lower i.value.0;
      tokens = told.tokens;
      new = told.new;
      fits = told.fits;
      words = ap lied_words (sym is) ∙ cc (seq, signed, full, told-words);
      same =
          ap (λ read. number_of sequence >>= (λ seq. read >>= (λ ledger. number_of second >>= (λ signed. full_of kind >>= (λ full. told_if names told.new >>= (λ told. Ok (lied.Validation (record { id = ledger; seq = seq; signed = signed; full = full; validated = told }))))))))
          (ledger_id-read names id i.value stands.0 i.gave)
          ∙ ap (λ read. number_of sequence >>= (λ seq. ledger_id_of names id >>= (λ ledger. number_of second >>= (λ signed. full_of kind >>= (λ full. read >>= (λ told. Ok (lied.Validation (record { id = ledger; seq = seq; signed = signed; full = full; validated = told }))))))))
          (told.same ∙ sym t.gave)
          ∙ e;
      count = told.count;
      like = (
        (small-inked 10 sequence seq-small, (small-inked 64 (encode_lower i.value.0) digits-small, (small-inked 10 second signed-small, (small-inked 7 kind full-small, told.ink)))),
        omega (arith, seq-small.few, digits-small.few, signed-small.few, full-small.few, told.few),
      );
    }

validation-said : (names : List Named) (sequence id second kind : List ℕ) (o : Option (List ℕ)) (tokens : List (List ℕ)) → told_tokens o ≡ tokens →
    said_validation names (sequence ∷ id ∷ second ∷ kind ∷ tokens) ≡ validation_of names sequence id second kind (told_if names o)
validation-said names sequence id second kind None tokens fits = ap (λ ts. said_validation names (sequence ∷ id ∷ second ∷ kind ∷ ts)) (sym fits)
validation-said names sequence id second kind (Some token) tokens fits = ap (λ ts. said_validation names (sequence ∷ id ∷ second ∷ kind ∷ ts)) (sym fits)

validation-parts : (names : List Named) (sequence id second kind : List ℕ) (o : Option (List ℕ)) (l : Lied) → validation_of names sequence id second kind (told_if names o) ≡ Ok l → IsStoredLied l →
    IsAgain lied_words (said_validation names) (codes "validation") 16650 (sequence ∷ id ∷ second ∷ kind ∷ told_tokens o) l
validation-parts names sequence id second kind o l e stored =
    let again = validation_of-again names sequence id second kind o l e stored in
    record {
      arguments = sequence ∷ again.id ∷ second ∷ kind ∷ again.tokens;
      words = again.words;
      same = validation-said names sequence again.id second kind again.new again.tokens again.fits ∙ again.same;
      count = ap (λ n. suc (suc (suc (suc n)))) again.count;
      like = inr again.like;
    }

validation-again : (names : List Named) (old : List (List ℕ)) (l : Lied) → said_validation names old ≡ Ok l → IsStoredLied l → IsAgain lied_words (said_validation names) (codes "validation") 16650 old l
validation-again names (sequence ∷ id ∷ second ∷ kind ∷ []) l e stored = validation-parts names sequence id second kind None l e stored
validation-again names (sequence ∷ id ∷ second ∷ kind ∷ token ∷ []) l e stored = validation-parts names sequence id second kind (Some token) l e stored
validation-again names other l e stored = absurd (cc)

header-again : (names : List Named) (old : List (List ℕ)) (l : Lied) → said_header names old ≡ Ok l → IsAgain lied_words (said_header names) (codes "header") 16650 old l
header-again names (name ∷ []) l e =
    let h = steps (ledger_of names name) (λ ledger. Ok (lied.Header name ledger.header)) l e in
    let said : Lied = lied.Header name h.value.header in
    let is = same-ok said l h.rest in
    record {
      arguments = name ∷ [];
      words = ap lied_words (sym is);
      same = e;
      count = refl;
      like = inl refl;
    }
header-again names other l e = absurd (cc)

tx-again : (names : List Named) (old : List (List ℕ)) (l : Lied) → said_tx names old ≡ Ok l → IsStoredLied l → IsAgain lied_words (said_tx names) (codes "tx") 16650 old l
tx-again names (token ∷ []) l e stored =
    let i = steps (tx_id_of names token) (λ id. Ok (lied.Tx id)) l e in
    let is = same-ok (lied.Tx i.value) l i.rest in
    let fits : IsId i.value.0 = subst IsStoredLied (sym is) stored in
    let digits-small = id-small i.value.0 fits in
    record {
      arguments = encode_lower i.value.0 ∷ [];
      words = ap lied_words (sym is);
      same = ap (λ read. read >>= (λ id. Ok (lied.Tx id))) (tx_id-read names i.value fits) ∙ ap (λ l. Ok l) is;
      count = refl;
      like = inr ((small-inked 64 (encode_lower i.value.0) digits-small, tt), omega (arith, digits-small.few));
    }
tx-again names other l e stored = absurd (cc)

abbrev hexes : List TxId → List (List ℕ)
hexes ids = map (λ id. encode_lower id.0) ids

abbrev AreIds : List TxId → Type 0
AreIds ids = AllByRecursion (λ id. IsId id.0) ids

-- ids that rise are read again from their digits
risen-again : (names : List Named) (before : Option TxId) (parts : List (List ℕ)) (ids : List TxId) → risen_ids_of names before parts ≡ Ok ids → AreIds ids → risen_ids_of names before (hexes ids) ≡ Ok ids
risen-again names before [] ids e h = subst (λ ids. Gives (risen_ids_of names before (hexes ids)) ids) (same-ok [] ids e) refl
risen-again names before (part ∷ parts) ids e h =
    let r = steps (risen_id_of names before part) (λ id. risen_ids_of names (Some id) parts >>= (λ ids. Ok (id ∷ ids))) ids e in
    let q = steps (risen_ids_of names (Some r.value) parts) (λ ids. Ok (r.value ∷ ids)) ids r.rest in
    let t = steps (tx_id_of names part) (λ id. cond (rises before id) (Ok id) (Err (refusal.Id part))) r.value r.gave in
    let p = passed (rises before t.value) t.value r.value (refusal.Id part) t.rest in
    let above : rises before r.value ≡ true = subst (λ id. rises before id ≡ true) p.1 p.0 in
    let is = same-ok (r.value ∷ q.value) ids q.rest in
    let fits : AreIds (r.value ∷ q.value) = subst AreIds (sym is) h in
    let digits = encode_lower r.value.0 in
    let here : risen_id_of names before digits ≡ Ok r.value =
    ap (λ read. read >>= (λ id. cond (rises before id) (Ok id) (Err (refusal.Id digits)))) (tx_id-read names r.value fits.0)
    ∙ ap (λ b. cond b (Ok r.value) (Err (refusal.Id digits))) above in
    let rest = risen-again names (Some r.value) parts q.value q.gave fits.1 in
    subst (λ ids. Gives (risen_ids_of names before (hexes ids)) ids) is
    (ap (λ read. read >>= (λ id. risen_ids_of names (Some id) (hexes q.value) >>= (λ ids. Ok (id ∷ ids)))) here
    ∙ ap (λ read. read >>= (λ ids. Ok (r.value ∷ ids))) rest)

solid-clear : (t : List ℕ) → AllByRecursion IsSolid t → Clear (λ b. b == 44) t
solid-clear [] h = tt
solid-clear (b ∷ bs) h =
    let above = h.0.0 in
    (grind (arith, nat_tests), solid-clear bs h.1)

hexes-clear : (ids : List TxId) → AreIds ids → AllByRecursion (Clear (λ b. b == 44)) (hexes ids)
hexes-clear [] h = tt
hexes-clear (id ∷ ids) h = (solid-clear (encode_lower id.0) (digits-solid id.0 h.0.1), hexes-clear ids h.1)

hexes-ink : (ids : List TxId) → AreIds ids → AllByRecursion (AllByRecursion IsInk) (hexes ids)
hexes-ink [] h = tt
hexes-ink (id ∷ ids) h = ((id-small id.0 h.0).ink, hexes-ink ids h.1)

hexes-spread : (ids : List TxId) → AreIds ids → spread (hexes ids) ≡ id_spread * length ids
hexes-spread [] h = refl
hexes-spread (id ∷ ids) h = omega (arith, h.0.0, length-encode_with lower_digits id.0, hexes-spread ids h.1)

never-true : (b : Bool) → (b ≡ true → ⊥) → b ≡ false
never-true true h = absurd (h refl)
never-true false h = refl

-- as many ids as a set may have
set-few : (names : List Named) (token : List ℕ) (ids : List TxId) → joined_ids_of names token ≡ Ok ids → (risen_ids_of names None (entries token) ≡ Ok ids) × (length ids ≤ most_ids)
set-few names token ids e =
    let r = steps (risen_ids_of names None (entries token)) (λ ids. cond (nat_le (length ids) most_ids) (Ok ids) (Err (refusal.Id token))) ids e in
    let p = passed (nat_le (length r.value) most_ids) r.value ids (refusal.Id token) r.rest in
    let within : length r.value ≤ most_ids = grind (arith, nat_tests) in
    (r.gave ∙ ap (λ ids. Ok ids) p.1, subst (λ (ids : List TxId). length ids ≤ most_ids) p.1 within)

-- the spelling of a set
record IsSetAgain (names : List Named) (ids : List TxId) : Type 0 where
  same : tx_set_of names (set_word ids) ≡ Ok ids
  small : IsSmall (id_spread * most_ids) (set_word ids)

joined-again : (names : List Named) (parts : List (List ℕ)) (ids : List TxId) → risen_ids_of names None parts ≡ Ok ids → length ids ≤ most_ids → AreIds ids → IsSetAgain names ids
joined-again names parts [] e few h = record { same = refl; small = record { some = omega arith; few = omega arith; ink = inked (codes "-") refl } }
joined-again names parts (id ∷ ids) e few h =
    let token = with_commas (hexes (id ∷ ids)) in
    let clear = hexes-clear (id ∷ ids) h in
    let cut : entries token ≡ hexes (id ∷ ids) = cut-joined 44 (λ b. b == 44) (encode_lower id.0) (hexes ids) refl clear.0 clear.1 in
    let long : length token + 1 ≡ id_spread * length (id ∷ ids) = joined-spread 44 (encode_lower id.0) (hexes ids) ∙ hexes-spread (id ∷ ids) h in
    let none : bytes_eq token (codes "-") ≡ false = never-true (bytes_eq token (codes "-")) (λ same. omega (arith, long, ap length ((bytes_eq-Decides token (codes "-")).0 same))) in
    let within : nat_le (length (id ∷ ids)) most_ids ≡ true = grind (arith, nat_tests) in
    record {
      same =
          ap (λ b. cond b (Ok []) (joined_ids_of names token)) none
          ∙ ap (λ read. read >>= (λ ids. cond (nat_le (length ids) most_ids) (Ok ids) (Err (refusal.Id token))))
          (ap (risen_ids_of names None) cut ∙ risen-again names None parts (id ∷ ids) e h)
          ∙ ap (λ b. cond b (Ok (id ∷ ids)) (Err (refusal.Id token))) within;
      small = record {
        some = omega (arith, long);
        few = omega (arith, long, few);
        ink = joined-all IsInk 44 (hexes (id ∷ ids)) (omega arith, omega arith) (hexes-ink (id ∷ ids) h);
      };
    }

set-again : (names : List Named) (token : List ℕ) (ids : List TxId) → tx_set_of names token ≡ Ok ids → AreIds ids → IsSetAgain names ids
set-again names token ids e h =
    elim (bytes_eq token (codes "-")) as (λ b. Gives (cond b (Ok []) (joined_ids_of names token)) ids → IsSetAgain names ids) [
      | true ↦ λ k. subst (IsSetAgain names) (same-ok [] ids k) (joined-again names [] [] refl (omega arith) tt)
      | false ↦ λ k.
          let few = set-few names token ids k in
          joined-again names (entries token) ids few.0 few.1 h
    ] e

tx_set-again : (names : List Named) (old : List (List ℕ)) (l : Lied) → said_tx_set names old ≡ Ok l → IsStoredLied l → IsAgain lied_words (said_tx_set names) (codes "set") 16650 old l
tx_set-again names (token ∷ []) l e stored =
    let i = steps (tx_set_of names token) (λ ids. Ok (lied.TxSet ids)) l e in
    let is = same-ok (lied.TxSet i.value) l i.rest in
    let fits : AreIds i.value = recursion_from_All (λ id. IsId id.0) i.value (subst IsStoredLied (sym is) stored) in
    let again = set-again names token i.value i.gave fits in
    let small = again.small in
    record {
      arguments = set_word i.value ∷ [];
      words = ap lied_words (sym is);
      same = ap (λ read. read >>= (λ ids. Ok (lied.TxSet ids))) again.same ∙ ap (λ l. Ok l) is;
      count = refl;
      like = inr ((small-inked (id_spread * most_ids) (set_word i.value) small, tt), omega (arith, small.few));
    }
tx_set-again names other l e stored = absurd (cc)

-- a lie of whichever word
pub record IsLiedAgain (names : List Named) (token : List ℕ) (old : List (List ℕ)) (l : Lied) : Type 0 where
  pub arguments : List (List ℕ)
  pub words : lied_words l ≡ token ∷ arguments
  pub same : lied_of names (lie_word token) token arguments ≡ Ok l
  pub count : length arguments ≡ length old
  pub like : AreLike 16650 old arguments
  pub small : IsSmall 10 token

lie_text-small : (w : LieWord) → IsSmall 10 (lie_text w)
lie_text-small word.Proposal = record { some = omega arith; few = omega arith; ink = inked (codes "proposal") refl }
lie_text-small word.Validation = record { some = omega arith; few = omega arith; ink = inked (codes "validation") refl }
lie_text-small word.Header = record { some = omega arith; few = omega arith; ink = inked (codes "header") refl }
lie_text-small word.TxSet = record { some = omega arith; few = omega arith; ink = inked (codes "set") refl }
lie_text-small word.Tx = record { some = omega arith; few = omega arith; ink = inked (codes "tx") refl }

word-again : (names : List Named) (token : List ℕ) (old : List (List ℕ)) (l : Lied) (w : LieWord) → lie_word token ≡ Some w → lied_of names (Some w) token old ≡ Ok l → IsStoredLied l → IsAgain lied_words (lied_of names (Some w) token) (lie_text w) 16650 old l
word-again names token old l word.Proposal q e stored = proposal-again names old l e stored
word-again names token old l word.Validation q e stored = validation-again names old l e stored
word-again names token old l word.Header q e stored = header-again names old l e
word-again names token old l word.TxSet q e stored = tx_set-again names old l e stored
word-again names token old l word.Tx q e stored = tx-again names old l e stored

pub lied-again : (names : List Named) (token : List ℕ) (old : List (List ℕ)) (l : Lied) → lied_of names (lie_word token) token old ≡ Ok l → IsStoredLied l → IsLiedAgain names token old l
lied-again names token old l e stored =
    elim (lie_word token) as (λ o. lie_word token ≡ o → Gives (lied_of names o token old) l → IsLiedAgain names token old l) [
      | None ↦ λ _ k. absurd (cc)
      | Some w ↦ λ q k.
          let again = word-again names token old l w q k stored in
          let text = lie_text-same token w q in
          record {
            arguments = again.arguments;
            words = again.words ∙ ap (λ t. t ∷ again.arguments) text;
            same = ap (λ o. lied_of names o token again.arguments) q ∙ again.same;
            count = again.count;
            like = again.like;
            small = subst (IsSmall 10) text (lie_text-small w);
          }
    ] refl e
