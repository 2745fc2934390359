-- What a board in memory shows. Source: this project's own, for tests of what says how a node is.
use Rattle.std.specs.Prelude.{ℕ, List, option_map}
use Rattle.std.specs.declared.option.Option.{Option}
use Rattle.xl_board.specs.declared.memory.MemBoard.{MemBoard}

-- the text that stands there
abbrev pub text_on : MemBoard → Option (List ℕ)
text_on board = option_map (λ text. text.items) board.text
