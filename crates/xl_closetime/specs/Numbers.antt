-- The numbers of close times. Source: classical rippled's LedgerTiming, as this profile takes them.
use Rattle.std.specs.Prelude.{ℕ}

-- this many percent of the times make an agreement
abbrev pub agreed_percent : ℕ
agreed_percent = 75

-- once in this many ledgers the resolution becomes finer
abbrev pub finer_once_in : ℕ
finer_once_in = 8

-- no second is later
abbrev pub last_second : ℕ
last_second = 4294967295
