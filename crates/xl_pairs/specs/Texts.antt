-- The lines that `xl lists` writes. Source: this project's own formats; the paper's condition is that of Chase and
-- MacBrough, "Analysis of the XRP Ledger Consensus Protocol" (2018).
use Rattle.std.specs.Prelude.{ℕ, zero, suc, ◌+◌, ◌-◌, ◌*◌, ◌==◌, nat_lt, Bool, List, [], ◌∷◌, ◌++◌, length, decimal, codes, find, Option, Some, None, option_map, if◌then◌else◌}
use Rattle.std.specs.List.{flat_map}
use Rattle.xl_lists.specs.Lists.{TrustedList}
use Rattle.xl_lists.specs.Quorums.{overlap, liars_shared, bound_of}
use Rattle.xl_pairs.specs.declared.declared.Node.{Node}

abbrev pub space : List ℕ
space = codes " "

abbrev pub newline : List ℕ
newline = 10 ∷ []

unfoldable pub enough_text : Bool → List ℕ
enough_text enough = if enough then codes "ok" else codes "short"

-- what two nodes share, how many of that are liars, both quorums together, and what they must exceed
unfoldable pub pair_numbers : ℕ → ℕ → ℕ → ℕ → ℕ → ℕ → List ℕ
pair_numbers i j shared lying sum bound =
    codes "pair " ++ decimal i ++ space ++ decimal j ++ space ++ decimal shared ++ space ++ decimal lying ++ space
    ++ decimal sum ++ space ++ decimal bound ++ space

-- and whether they do
abbrev pub pair_text : ℕ → ℕ → ℕ → ℕ → ℕ → ℕ → List ℕ
pair_text i j shared lying sum bound =
    pair_numbers i j shared lying sum bound ++ enough_text (nat_lt bound sum) ++ newline

abbrev pub pair_line : List ℕ → ℕ → TrustedList → ℕ → TrustedList → List ℕ
pair_line liars i a j b =
    pair_text i j (overlap a.members b.members) (liars_shared liars a.members b.members) (a.quorum + b.quorum)
    (bound_of liars a b)

unfoldable pub yes_text : Bool → List ℕ
yes_text holds = if holds then codes "yes" else codes "no"

-- the two sides of the paper's condition on i and j, doubled: O > n_j / 2 + n_i - q_i + t
abbrev pub paper_left : TrustedList → TrustedList → ℕ
paper_left a b = 2 * overlap a.members b.members

abbrev pub paper_right : List ℕ → TrustedList → TrustedList → ℕ
paper_right liars a b = length b.members + 2 * (length a.members - a.quorum + liars_shared liars a.members b.members)

unfoldable pub paper_numbers : ℕ → ℕ → ℕ → ℕ → List ℕ
paper_numbers i j left right =
    codes "paper " ++ decimal i ++ space ++ decimal j ++ space ++ decimal left ++ space ++ decimal right ++ space

abbrev pub paper_text : ℕ → ℕ → ℕ → ℕ → List ℕ
paper_text i j left right = paper_numbers i j left right ++ yes_text (nat_lt right left) ++ newline

abbrev pub paper_line : List ℕ → ℕ → TrustedList → ℕ → TrustedList → List ℕ
paper_line liars i a j b = paper_text i j (paper_left a b) (paper_right liars a b)

-- of two different nodes both conditions are written
abbrev pub papers_of : List ℕ → ℕ → TrustedList → ℕ → TrustedList → List ℕ
papers_of liars i a j b = if i == j then [] else paper_line liars i a j b ++ paper_line liars j b i a

-- the list of a declared node
abbrev pub list_in : List Node → ℕ → Option TrustedList
list_in nodes i = option_map (λ node. node.list) (find (λ node. node.me == i) nodes)

-- the pair of a node and a number, if that is a node too
abbrev pub pair_with : List ℕ → ℕ → TrustedList → ℕ → Option TrustedList → List ℕ
pair_with liars i a j None = []
pair_with liars i a j (Some b) = pair_line liars i a j b ++ papers_of liars i a j b

-- this many numbers from one on
unfoldable pub up_from : ℕ → ℕ → List ℕ
up_from n zero = []
up_from n (suc k) = n ∷ up_from (n + 1) k

-- the pairs of a number, if it is a node, with the numbers from it on
abbrev pub pairs_of : List ℕ → List Node → ℕ → Option TrustedList → List ℕ
pairs_of liars nodes i None = []
pairs_of liars nodes i (Some a) = flat_map (λ j. pair_with liars i a j (list_in nodes j)) (up_from i (65 - i))

-- the pairs of nodes, by rising numbers
abbrev pub pair_lines : List ℕ → List Node → List ℕ
pair_lines liars nodes = flat_map (λ i. pairs_of liars nodes i (list_in nodes i)) (up_from 1 64)
