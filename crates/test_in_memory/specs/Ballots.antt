-- What a form of a branch has. Source: this project's own, for the comparison of two forms.
use Rattle.std.specs.Prelude.{◌≡◌, ℕ, List}
use Rattle.test_in_memory.specs.declared.ballot.Ballot.{Ballot}
use Rattle.xl_ledger.specs.declared.header.Header.{Header}
use Rattle.xl_ledger.specs.declared.vote.Vote.{Vote}

-- it goes with the registry, and has the votes that were cast, with room for those of twelve members
pub record IsReady {B : Type 0} (goes_with : B → List Header → Type 0) (votes : B → List Vote) (room : B → ℕ)
    (b : Ballot B) : Type 0 where
  pub goes : goes_with b.branch b.registry.headers
  pub same : votes b.branch ≡ b.cast.items
  pub twelve : room b.branch ≡ 12
