-- The first ledgers of the spans below one are the candidates of the definitions.
use Rattle.std.proofs.Common.{◌≡◌, ◌≢◌, ℕ, zero, suc, ◌+◌, ◌<◌, ◌≤◌, ◌&&◌, ◌==◌, List, length, take, Option, Some, None, sym, ap, subst, ◌∙◌, arith, inl, inr}
use Rattle.xl_trie.proofs.Common.{range_with_len, nat_lt, and_parts, and_from, eqb-true, ltb-true, lt-ltb, Header, Vote, parent_of, AreLedgers, is_on_chain, branch_of, follows, candidates, Name, Span, In, IsKid, AreSpans, way, OnWay, IsBegin}
use Rattle.xl_ledger.proofs.Finding.{follows_is, follows_some}
use Rattle.xl_trie.proofs.Listing.{none_some, in_range, of_range, counted, count_some, in_filter, to_filter}
use Rattle.xl_trie.proofs.Trees.{on_self, front_of, on_through, root_short, begin_size, begin_on, hung, leads_to, toward_vote, known_vote, span_branch}
use Rattle.xl_trie.proofs.Ways.{way_one, way_short, parent_if, of_parent, on_true, on_from}

module _ (hs : List Header) (ok : AreLedgers hs) (votes : List Vote) where
  -- what a candidate is
  pub record IsCandidate (x c : ℕ) : Type 0 where
    pub known : c < length hs
    pub parent : parent_of hs c ≡ Some x
    pub some : 0 < branch_of hs votes c

  pub of_candidates : (x c : ℕ) → In c (candidates hs votes x) → IsCandidate x c
  of_candidates x c i =
      let f = in_filter (λ c. follows (parent_of hs c) x && nat_lt 0 (branch_of hs votes c)) (range_with_len 0 (length hs)) c i in
      let t = and_parts (follows (parent_of hs c) x) (nat_lt 0 (branch_of hs votes c)) f.1 in
      record { known = of_range (length hs) c f.0; parent = follows_is (parent_of hs c) x t.0; some = ltb-true 0 (branch_of hs votes c) t.1 }

  pub to_candidates : (x c : ℕ) → IsCandidate x c → In c (candidates hs votes x)
  to_candidates x c is =
      to_filter (λ c. follows (parent_of hs c) x && nat_lt 0 (branch_of hs votes c)) (range_with_len 0 (length hs)) c (in_range (length hs) c is.known)
      (and_from (follows (parent_of hs c) x) (nat_lt 0 (branch_of hs votes c)) (follows_some (parent_of hs c) x is.parent) (lt-ltb 0 (branch_of hs votes c) is.some))

module _ (hs : List Header) (ok : AreLedgers hs) (votes : List Vote) (S : Name → Option Span) (T : AreSpans hs votes S None) where
  -- a ledger with votes at or below it stands on the way to one
  pub record HasVote (c : ℕ) : Type 0 where
    pub vote : Vote
    pub there : In vote votes
    pub on : OnWay hs c vote.ledger

  pub has_vote : (c : ℕ) → 0 < branch_of hs votes c → HasVote c
  has_vote c some =
      let v = counted (λ (w : Vote). is_on_chain hs c w.ledger) votes some in
      record { vote = v.0; there = v.1; on = on_true hs ok c v.0.ledger (known_vote hs ok S T.linked votes None T v.0 v.1) v.2 }

  some_votes : (c : ℕ) → c < length hs → (v : Vote) → In v votes → OnWay hs c v.ledger → 0 < branch_of hs votes c
  some_votes c kc v i on = count_some (λ (w : Vote). is_on_chain hs c w.ledger) votes v i (on_from hs ok c v.ledger kc (known_vote hs ok S T.linked votes None T v i) on)

  -- a span but the root's has votes at or below it
  pub some_branch : (n : ℕ) (a : Name) (s : Span) → S a ≡ Some s → s.ledger ≢ 0 → length hs ≤ n + length (way hs s.ledger) → 0 < branch_of hs votes s.ledger
  some_branch zero a s e other few = absurd (let ks = T.linked.known a s e in omega (arith, few, ks, way_short hs ok s.ledger s.ledger (omega arith) ks))
  some_branch (suc n) a s e other few = elim (T.needed a s e (λ none. none_some a none)) [
    | inl root ↦ absurd (other root)
    | inr (inl tip) ↦
        let v = counted (λ (w : Vote). w.ledger == s.ledger) votes (omega (arith, tip, T.counted.tip a s e)) in
        some_votes s.ledger (T.linked.known a s e) v.0 v.1 (subst (OnWay hs s.ledger) (sym (eqb-true v.0.ledger s.ledger v.2)) (on_self hs s.ledger))
    | inr (inr fork) ↦
        let kid = fork.4 in
        let h = hung hs ok S T.linked a fork.0 s fork.2 e kid in
        let v = has_vote fork.2.ledger (some_branch n fork.0 fork.2 kid.0 (λ root. omega (arith, h.above, root_short hs ok fork.2.ledger root)) (omega (arith, few, h.above))) in
        some_votes s.ledger (T.linked.known a s e) v.vote v.there (on_through hs s.ledger fork.2.ledger v.vote.ledger h.on v.on)
  ]

  module _ (a : Name) (s : Span) (e : S a ≡ Some s) where
    -- the first ledger of a child's span
    pub record IsFirst (t : Span) : Type 0 where
      pub candidate : IsCandidate hs ok votes s.ledger t.first
      pub counted : branch_of hs votes t.first ≡ t.branch

    pub first_is : (b : Name) (t : Span) → IsKid S a b t → IsFirst t
    first_is b t kid =
        let h = hung hs ok S T.linked a b s t e kid in
        let kf = T.linked.first b t kid.0 in
        let size = begin_size hs ok t.ledger s.ledger t.first h.above h.first in
        let on = begin_on hs ok t.ledger s.ledger t.first h.above h.first in
        let same = span_branch hs ok S T.linked votes None T a b s t t.first e kid kf on (omega (arith, size)) in
        let some = some_branch (length hs) b t kid.0 (λ root. omega (arith, h.above, root_short hs ok t.ledger root)) (omega arith) in
        record {
          candidate = record { known = kf; parent = parent_if hs ok t.first s.ledger kf (T.linked.known a s e) size (front_of hs s.ledger t.first t.ledger h.on on (omega (arith, size))).1; some = omega (arith, some, same, T.counted.branch b t kid.0) };
          counted = same;
        }

    -- each candidate is one
    pub record FirstOf (c : ℕ) : Type 0 where
      pub name : Name
      pub node : Span
      pub kid : IsKid S a name node
      pub is : node.first ≡ c

    pub first_of : (c : ℕ) → IsCandidate hs ok votes s.ledger c → FirstOf c
    first_of c is =
        let v = has_vote c is.some in
        let p = of_parent hs ok c s.ledger is.known is.parent in
        let on = on_through hs s.ledger c v.vote.ledger (omega (arith, p.long), p.on) v.on in
        let u = toward_vote hs ok S T.linked votes None T a s v.vote e v.there on (omega (arith, v.on.0, p.long)) in
        let begin : IsBegin hs v.vote.ledger s.ledger c = sym v.on.1 ∙ ap (λ k. take k (way hs v.vote.ledger)) p.long in
        record { name = u.name; node = u.span; kid = u.kid; is = way_one hs ok u.span.first c (T.linked.first u.name u.span u.kid.0) is.known (leads_to hs ok S T.linked a u.name s u.span v.vote.ledger e u.kid u.on ∙ sym begin) }
