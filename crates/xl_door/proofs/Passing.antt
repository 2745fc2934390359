-- What a door gave and its clients took, one part behind the other.
use Rattle.std.proofs.Common.{◌≡◌, ◌≤◌, ◌++◌, ◌⊎◌, false, ℕ, List, [], ◌∷◌, None, Some, Option, length, refl, sym, ap, ◌∙◌, append_assoc, arith, inl, inr}
use Rattle.std.specs.Prelude.{◌==◌, fold}
use Rattle.std.proofs.lemmas.Bool.{cond_both}
use Rattle.std.proofs.lemmas.Bool.Decides.{nat_tests}
use Rattle.std.specs.Io.KnownBytes.{append_known}
use Rattle.xl_base.specs.Counts.{one_more}
use Rattle.xl_base.specs.Faults.{Rose}
use Rattle.xl_io.proofs.Growing.{append_known-none, append_known-twice}
use Rattle.xl_links.specs.Doors.{Doorway, line_before}
use Rattle.xl_store.specs.Calls.{Call}
use Rattle.xl_door.specs.declared.replies.Reply.{Reply}
use Rattle.xl_door.specs.Attending.{Passes, lines_before}
use Rattle.xl_door.specs.Hearing.{Tells}
use Rattle.xl_door.specs.Rounds.{Round, Quiet, Heard, counted_in}
use Rattle.xl_door.specs.Replies.{text_of}

no_lines_before : (left : Option (List (List ℕ))) → left ≡ lines_before [] left
no_lines_before None = refl
no_lines_before (Some lines) = refl

lines_before-twice : (xs ys : List (List ℕ)) (left : Option (List (List ℕ)))
    → lines_before xs (lines_before ys left) ≡ lines_before (xs ++ ys) left
lines_before-twice xs ys None = refl
lines_before-twice xs ys (Some lines) = ap Some (sym (append_assoc xs ys lines))

one_before : (line : List ℕ) (left : Option (List (List ℕ))) → line_before line left ≡ lines_before (line ∷ []) left
one_before line None = refl
one_before line (Some lines) = refl

-- nothing was said
pub passes_none : (door : Doorway) → Passes door [] [] door.faults door
passes_none door = record {
  left = no_lines_before door.left;
  took = sym (append_known-none door.took);
  counted = omega arith;
}

-- the least count behind a round isn't less for a greater one before it
counted_more : (a b : ℕ) (round : Round) → a ≤ b → counted_in a round ≤ counted_in b round
counted_more a b Quiet le = le
counted_more a b (Heard line calls reply taken) le =
    cond_both (length taken == length (text_of reply)) a (one_more a)
    (λ n. n ≤ counted_in b (Heard line calls reply taken))
    (λ whole. cond_both (length taken == length (text_of reply)) b (one_more b) (λ n. a ≤ n) (λ _. le)
    (λ cut. absurd cc))
    (λ cut. cond_both (length taken == length (text_of reply)) b (one_more b) (λ n. one_more a ≤ n)
    (λ whole. absurd cc) (λ _. omega (arith, le)))

all_counted_more : (a b : ℕ) (rounds : List Round) → a ≤ b → fold counted_in a rounds ≤ fold counted_in b rounds
all_counted_more a b [] le = le
all_counted_more a b (round ∷ rounds) le =
    all_counted_more (counted_in a round) (counted_in b round) rounds (counted_more a b round le)

pub passes_both : (old mid new : Doorway) (xs ys : List (List ℕ)) (ts us : List ℕ) (least : ℕ) (rounds : List Round)
    → Passes old xs ts least mid → Passes mid ys us (fold counted_in mid.faults rounds) new
    → Passes old (xs ++ ys) (ts ++ us) (fold counted_in least rounds) new
passes_both old mid new xs ys ts us least rounds p q = record {
  left = p.left ∙ ap (lines_before xs) q.left ∙ lines_before-twice xs ys new.left;
  took = q.took ∙ ap (λ (known : Option (List ℕ)). append_known known us) p.took ∙ append_known-twice old.took ts us;
  counted = let a = all_counted_more least mid.faults rounds p.counted in let b = q.counted in omega (arith, a, b);
}

-- an answer that wasn't taken whole is counted
counted_cut : (a b c : ℕ) (taken text : List ℕ) → (length taken == length text) ≡ false → a ≤ b
    → Rose b c ⊎ (taken ≡ text) → one_more a ≤ c
counted_cut a b c taken text cut le (inl rose) = omega (arith, rose, le)
counted_cut a b c taken text cut le (inr same) =
    let long = ap (length {A = ℕ}) same in absurd (grind (arith, nat_tests, cut, long))

-- a line came, and was answered
pub passes_line : (old mid new : Doorway) (line : List ℕ) (calls : List Call) (reply : Reply)
    → old.left ≡ line_before line mid.left → mid.took ≡ old.took → old.faults ≤ mid.faults
    → (t : Tells (text_of reply) mid new)
    → Passes old (line ∷ []) t.taken (counted_in old.faults (Heard line calls reply t.taken)) new
passes_line old mid new line calls reply left took later t = record {
  left = left ∙ ap (line_before line) (sym t.left) ∙ one_before line new.left;
  took = t.took ∙ ap (λ (known : Option (List ℕ)). append_known known t.taken) took;
  counted = cond_both (length t.taken == length (text_of reply)) old.faults (one_more old.faults) (λ n. n ≤ new.faults)
      (λ _. let a = t.later in omega (arith, later, a))
      (λ cut. counted_cut old.faults mid.faults new.faults t.taken (text_of reply) cut later t.all);
}
