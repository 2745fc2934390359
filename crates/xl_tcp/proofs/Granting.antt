-- The first frame of what a peer has sent, and what is granted behind it.
use Rattle.std.proofs.Common.{◌≡◌, ◌<◌, ◌-◌, ℕ, zero, suc, Bool, true, false, List, length, drop, sym, ap, ◌∙◌, arith}
use Rattle.std.specs.Prelude.{if◌then◌else◌}
use Rattle.xl_wire.specs.Heads.{Split, split_of}
use Rattle.xl_wire.specs.Raws.{RawFrame}
use Rattle.xl_wire.specs.Kinds.{span}
use Rattle.xl_tcp.specs.declared.conduct.Conduct.{Conduct}
use Rattle.xl_tcp.specs.Conduct.{may_give, after_frame, after_payment, after_given, payment_of}
use Rattle.xl_tcp.specs.Granting.{Granted, granted_of, granted_by, none_granted, with_more}

-- what is granted with a frame that stands first, and behind it
abbrev pub behind : ℕ → Conduct → List ℕ → ℕ → RawFrame → Granted
behind most peer bytes now frame =
    with_more (span frame.body)
    (granted_of (most - 1) (after_frame peer frame now) (drop (span frame.body) bytes) now)

n_is : (n : ℕ) → n ≡ suc n - 1
n_is n = omega arith

granted_once : (most : ℕ) (peer : Conduct) (bytes : List ℕ) (now : ℕ) → 0 < most
    → granted_of most peer bytes now
    ≡ granted_by (split_of bytes) (length bytes) peer now (behind most peer bytes now)
granted_once zero peer bytes now some = absurd (omega (arith, some))
granted_once (suc n) peer bytes now some =
    ap (λ (m : ℕ). granted_by (split_of bytes) (length bytes) peer now
    (λ (frame : RawFrame). with_more (span frame.body)
    (granted_of m (after_frame peer frame now) (drop (span frame.body) bytes) now)))
    (n_is n)

module _ (most : ℕ) (peer : Conduct) (bytes : List ℕ) (now : ℕ) (some : 0 < most) (f : RawFrame)
    (is : Split.Whole f ≡ split_of bytes) where
  by_the_first : (may : Bool) → may_give peer f now ≡ may
      → granted_of most peer bytes now
      ≡ (if may then behind most peer bytes now f else none_granted peer)
  by_the_first may gives =
      granted_once most peer bytes now some
      ∙ ap (λ (s : Split). granted_by s (length bytes) peer now (behind most peer bytes now)) (sym is)
      ∙ ap (λ (b : Bool). if b then behind most peer bytes now f else none_granted peer) gives

  pub granted_none : may_give peer f now ≡ false → granted_of most peer bytes now ≡ none_granted peer
  granted_none = by_the_first false

  pub granted_more : may_give peer f now ≡ true → granted_of most peer bytes now ≡ behind most peer bytes now f
  granted_more = by_the_first true

-- a frame that is held back changes nothing
pub held_back : (peer : Conduct) (frame : RawFrame) (now : ℕ) → may_give peer frame now ≡ false
    → after_frame peer frame now ≡ peer
held_back peer frame now lacks =
    ap (λ (b : Bool). if b then after_payment (payment_of peer frame now) (after_given peer frame now) frame now else peer) lacks
