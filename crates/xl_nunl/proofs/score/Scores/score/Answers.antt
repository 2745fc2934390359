-- the ledger above the last one found is also above the flag ledger, and each turn counts one sequence further down
use Rattle.std.proofs.Common.{◌≡◌, ℕ, ◌+◌, ◌-◌, ◌<◌, ◌≤◌, Bool, true, false, cond, List, Some, length, slice_get, refl, sym, ap, subst, ◌∙◌, arith}
use Rattle.xl_ledger.specs.declared.header.Header.{Header}
use Rattle.xl_ledger.specs.Chains.{seq_at, id_at, chain}
use Rattle.xl_ledger.specs.Jumps.{ancestor_of}
use Rattle.xl_ledger.specs.Registries.{Ledgers}
use Rattle.xl_lists.specs.declared.said.SaidLedger.{SaidLedger}
use Rattle.xl_nunl.specs.Heard.{names, last_heard, agrees}
use Rattle.xl_nunl.specs.Rings.{Remembers, agrees_in, last_kept}
use Rattle.xl_nunl.proofs.Rings.{counted_down, one_down, all_down, all_kept_down, starts_at, goes_up}
use Rattle.xl_nunl.proofs.score.Scores.score.Goals as goal
use Rattle.xl_nunl.proofs.score.Scores.score.Goals.{then-agrees, else-agrees}

pub loop-back-init : goal.loop-back-init
loop-back-init c = record {
  goes_on = record { stays = refl; later = omega arith };
  known = c.requires.known;
  seq = omega (arith, c.seq_of-top.ensures.value);
  at = starts_at c.args.walk.now.ledgers.headers c.args.flag c.seq_of-top.result c.seq_of-top.ensures.value;
  most = omega arith;
  counted = λ heard remembers. refl;
  kept = refl;
}

pub loop-back-preserved : goal.loop-back-preserved
loop-back-preserved c =
    let ls : List Header = c.args.walk.now.ledgers.headers in
    let top : ℕ = c.seq_of-top.result in
    let back : ℕ = c.loop-back.back in
    let before : c.loop-back.walk.ledgers.headers ≡ ls = ap (λ (r : Ledgers). r.headers) c.loop-back.invariant.goes_on.stays in
    let after : c.ancestor-at.new.self.ledgers.headers ≡ ls = ap (λ (r : Ledgers). r.headers) c.ancestor-at.ensures.goes_on.stays ∙ before in
    let here : top - (back + 1 - 1) ≡ top - back = omega arith in
    let found : slice_get (chain ls c.loop-back.at) (top - back) ≡ Some c.ancestor-at.result =
    subst (λ (hs : List Header). slice_get (chain hs c.loop-back.at) (top - back) ≡ Some c.ancestor-at.result) before c.ancestor-at.ensures.value in
    let up : c.ancestor-at.result ≡ ancestor_of ls c.args.flag (top - back) =
    goes_up ls c.args.flag c.loop-back.at (top - (back - 1)) (top - back) c.ancestor-at.result c.seq_of-top.ensures.ledgers c.requires.known c.loop-back.invariant.at
    (omega (arith, c.seq_of-top.ensures.value)) (omega arith) found in
    let id : c.id_at.result ≡ id_at ls (ancestor_of ls c.args.flag (top - back)) =
    c.id_at.ensures ∙ ap (λ (hs : List Header). id_at hs c.ancestor-at.result) after ∙ ap (id_at ls) up in
    let told : (heard : List SaidLedger) → Remembers c.args.self.now heard → agrees ls heard c.args.member c.args.flag (top - back) ≡ c.agrees.result =
    λ heard remembers. sym (c.agrees.ensures.value heard remembers ∙ ap (names (last_heard heard c.args.member (top - back)) (top - back)) id) in
    let told_kept : agrees_in ls c.args.self.now c.args.member c.args.flag (top - back) ≡ c.agrees.result =
    sym (c.agrees.ensures.kept ∙ ap (names (last_kept c.args.self.now c.args.member (top - back)) (top - back)) id) in
    let low : back ≤ top = omega (arith, c.loop-back-test.true, c.requires.high, c.seq_of-top.ensures.value) in
    let score_next : (b : Bool) → c.agrees.result ≡ b → c.if-agrees.score ≡ cond b 1 0 + c.loop-back.score →
    (heard : List SaidLedger) → Remembers c.args.self.now heard → c.if-agrees.score ≡ counted_down (agrees ls heard c.args.member c.args.flag) top (back + 1) =
    λ b is more heard remembers. more ∙ ap (λ (n : ℕ). cond b 1 0 + n) (c.loop-back.invariant.counted heard remembers)
    ∙ sym (one_down (agrees ls heard c.args.member c.args.flag) top back b low (told heard remembers ∙ is)) in
    let kept_next : (b : Bool) → c.agrees.result ≡ b → c.if-agrees.score ≡ cond b 1 0 + c.loop-back.score →
    c.if-agrees.score ≡ counted_down (agrees_in ls c.args.self.now c.args.member c.args.flag) top (back + 1) =
    λ b is more. more ∙ ap (λ (n : ℕ). cond b 1 0 + n) c.loop-back.invariant.kept
    ∙ sym (one_down (agrees_in ls c.args.self.now c.args.member c.args.flag) top back b low (told_kept ∙ is)) in
    record {
      goes_on = record {
        stays = c.ancestor-at.ensures.goes_on.stays ∙ c.loop-back.invariant.goes_on.stays;
        later = omega (arith, c.ancestor-at.ensures.goes_on.later, c.loop-back.invariant.goes_on.later);
      };
      known = subst (λ (hs : List Header). c.ancestor-at.result < length hs) before c.ancestor-at.ensures.known;
      seq = subst (λ (hs : List Header). seq_at hs c.ancestor-at.result ≡ top - back) before c.ancestor-at.ensures.sequence ∙ sym here;
      at = up ∙ ap (ancestor_of ls c.args.flag) (sym here);
      most = elim c.if-agrees.branch [
        | then-agrees w ↦ omega (arith, w.score-is, c.loop-back.invariant.most)
        | else-agrees w ↦ omega (arith, w.score-is, c.loop-back.invariant.most)
      ];
      counted = elim c.if-agrees.branch [
        | then-agrees w ↦ score_next true w.if-agrees.true (omega (arith, w.score-is))
        | else-agrees w ↦ score_next false w.if-agrees.false (omega (arith, w.score-is))
      ];
      kept = elim c.if-agrees.branch [
        | then-agrees w ↦ kept_next true w.if-agrees.true (omega (arith, w.score-is))
        | else-agrees w ↦ kept_next false w.if-agrees.false (omega (arith, w.score-is))
      ];
    }

pub returns-clause-value : goal.returns-clause-value
returns-clause-value c heard remembers =
    let ls : List Header = c.args.walk.now.ledgers.headers in
    let all : c.loop-back.back ≡ 256 = omega (arith, c.loop-back-test.false, c.loop-back.auto.back-end) in
    c.loop-back.invariant.counted heard remembers
    ∙ ap (λ (n : ℕ). counted_down (agrees ls heard c.args.member c.args.flag) n c.loop-back.back) c.seq_of-top.ensures.value
    ∙ all_down ls heard c.args.member c.args.flag c.loop-back.back all

pub returns-clause-kept : goal.returns-clause-kept
returns-clause-kept c =
    let ls : List Header = c.args.walk.now.ledgers.headers in
    let all : c.loop-back.back ≡ 256 = omega (arith, c.loop-back-test.false, c.loop-back.auto.back-end) in
    c.loop-back.invariant.kept
    ∙ ap (λ (n : ℕ). counted_down (agrees_in ls c.args.self.now c.args.member c.args.flag) n c.loop-back.back) c.seq_of-top.ensures.value
    ∙ all_kept_down ls c.args.self.now c.args.member c.args.flag c.loop-back.back all
