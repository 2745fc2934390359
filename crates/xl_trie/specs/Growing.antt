-- The nodes stay those of the votes as a header is added. `Trie` gives this as the trait's law `grows`. What a law
-- cites must stand in the crate's specs, so its proof stands here and not with the others.
-- Source: what the code of this crate relies on.
use Rattle.std.proofs.Common.{◌≡◌, ℕ, suc, ◌+◌, ◌<◌, ◌≤◌, ◌==◌, Bool, List, Option, Some, [], ◌∷◌, ◌++◌, length, take, drop, cond, All, refl, sym, ap, subst, ◌∙◌, arith, inl, inr}
use Rattle.std.specs.List.{list_any, count_by}
use Rattle.std.proofs.lemmas.List.{length-append}
use Rattle.std.proofs.lemmas.List.Sums.{sum_by-cons}
use Rattle.xl_ledger.specs.declared.header.Header.{Header}
use Rattle.xl_ledger.specs.declared.vote.Vote.{Vote}
use Rattle.xl_ledger.specs.Chains.{AreLedgers}
use Rattle.xl_ledger.specs.Votes.{is_on_chain}
use Rattle.xl_ledger.proofs.Growing.{chain-more}
use Rattle.xl_pool.specs.Pools.{Slot}
use Rattle.xl_pool.specs.declared.name.Name.{Name}
use Rattle.xl_trie.specs.declared.node.Node.{Node}
use Rattle.xl_trie.specs.declared.node.Span.{Span}
use Rattle.xl_trie.specs.Nodes.{In}
use Rattle.xl_trie.specs.Ways.{way, OnWay}
use Rattle.xl_trie.specs.Tries.{Hangs, AreLinked, GoesWith}

all_in : {X : Type 0} (P : X → Type 0) (xs : List X) → All P xs → (x : X) → In x xs → P x
all_in P [] all x i = absurd i
all_in P (y ∷ xs) all x (inl e) = subst P (sym e) (all 0 x (omega arith))
all_in P (y ∷ xs) all x (inr i) = all_in P xs (λ k d lt. all (suc k) d (omega (arith, lt))) x i

count_alike : (p q : Vote → Bool) (votes : List Vote) → ((v : Vote) → In v votes → p v ≡ q v) → count_by p votes ≡ count_by q votes
count_alike p q [] alike = refl
count_alike p q (v ∷ votes) alike =
    sum_by-cons (λ x. cond (p x) 1 0) v votes
    ∙ ap (λ b. cond {A = ℕ} b 1 0 + count_by p votes) (alike v (inl refl))
    ∙ ap (λ n. cond {A = ℕ} (q v) 1 0 + n) (count_alike p q votes (λ w i. alike w (inr i)))
    ∙ sym (sum_by-cons (λ x. cond (q x) 1 0) v votes)

module _ (hs : List Header) (h : Header) (ok : AreLedgers hs) where
  longer : (x : ℕ) → x < length hs → x < length (hs ++ h ∷ [])
  longer x lt = omega (arith, lt, length-append hs (h ∷ []))

  same : (x : ℕ) → x < length hs → way hs x ≡ way (hs ++ h ∷ []) x
  unfolding way
  same x known = sym (ap (drop 1) (chain-more hs ok h x known))

  on_more : (x y : ℕ) → x < length hs → y < length hs → OnWay hs x y → OnWay (hs ++ h ∷ []) x y
  on_more x y kx ky on = subst (λ w. (length w ≤ length (way (hs ++ h ∷ []) y)) × (take (length w) (way (hs ++ h ∷ []) y) ≡ w)) (same x kx) (subst (λ w. (length (way hs x) ≤ length w) × (take (length (way hs x)) w ≡ way hs x)) (same y ky) on)

  hangs_more : (S : Name → Option Span) → AreLinked hs S → (a : Name) (s : Span) → S a ≡ Some s → Hangs hs S s → Hangs (hs ++ h ∷ []) S s
  hangs_more S L a s e g =
      let ko = L.known g.name g.over g.there in
      let ks = L.known a s e in
      record {
        name = g.name;
        over = g.over;
        is = g.is;
        there = g.there;
        above = omega (arith, g.above, ap (length {A = ℕ}) (same g.over.ledger ko), ap (length {A = ℕ}) (same s.ledger ks));
        on = on_more g.over.ledger s.ledger ko ks g.on;
        first = sym (same s.first (L.first a s e)) ∙ g.first ∙ ap (λ w. take (length w + 1) (way hs s.ledger)) (same g.over.ledger ko) ∙ ap (take (length (way (hs ++ h ∷ []) g.over.ledger) + 1)) (same s.ledger ks);
      }

  linked_more : (S : Name → Option Span) → AreLinked hs S → AreLinked (hs ++ h ∷ []) S
  linked_more S L = record {
    known = λ a s e. longer s.ledger (L.known a s e);
    first = λ a s e. longer s.first (L.first a s e);
    one = L.one;
    hangs = λ a s e. elim (L.hangs a s e) [ inl root ↦ inl root | inr g ↦ inr (hangs_more S L a s e g) ];
    apart = L.apart;
  }

  pub goes_more : (votes : List Vote) (nodes : List (Slot Node)) (root : Name) → GoesWith hs votes nodes root → GoesWith (hs ++ h ∷ []) votes nodes root
  goes_more votes nodes root goes =
      let V = goes.0.spans in (
        record {
          spans = record {
            known = λ k d lt. longer _ (V.known k d lt);
            linked = linked_more _ V.linked;
            voted = V.voted;
            counted = record {
              tip = V.counted.tip;
              branch = λ a s e. V.counted.branch a s e
                  ∙ count_alike (λ (v : Vote). is_on_chain hs s.ledger v.ledger) (λ (v : Vote). is_on_chain (hs ++ h ∷ []) s.ledger v.ledger) votes (λ v i. sym (ap (list_any (λ y. y == s.ledger)) (chain-more hs ok h v.ledger (all_in (λ (w : Vote). w.ledger < length hs) votes V.known v i))));
            };
            needed = V.needed;
          };
          kids = goes.0.kids;
        },
        goes.1,
        sym (same 0 ok.some) ∙ goes.2,
        goes.3,
      )
