-- A text that is said alone keeps its promise, whatever the input.
use Rattle.std.proofs.Common.{◌≡◌, ℕ, List, Option, Result, Ok, Err, IfSome, refl, ap}
use Rattle.std.specs.Io.KnownBytes.{append_known}
use Rattle.xl_base.specs.Faults.{Rose}
use Rattle.xl_io.specs.Sinks.{GrewByFront, GrewByLess}
use Rattle.xl_lines.specs.declared.fault.Fault.TheVariants.{Write, Memory}
use Rattle.xl_lines.specs.Rules.{Told}
use Rattle.xl_texts.specs.Promises.{alone}
use Rattle.xl_texts.specs.Streams.{streams}
use Rattle.xl_texts.specs.Keeps.{SaysAlone}
use Rattle.xl_texts.proofs.Keeping.{if_any, nothing_done, still_unended}

-- memory ran out before a word was said
pub unsaid : (told : Told) (held : Option (List ℕ)) (writes : ℕ) → SaysAlone told held writes held writes (Err Memory)
unsaid told held writes = λ left reads. nothing_done (alone told) (streams left reads held writes) refl

module _ (told : Told) (held held' : Option (List ℕ)) (writes writes' : ℕ) (front : GrewByFront held held' told.text) where
  -- all of it was said
  pub said_whole : held' ≡ append_known held told.text → writes' ≡ writes → SaysAlone told held writes held' writes' (Ok told.verdict)
  said_whole whole same = λ left reads. record {
    whole = if_any left _ (λ bytes. record { held = whole; says = refl });
    to_end = λ no. absurd no;
    front = if_any left _ (λ bytes. front);
    soon = λ is. absurd cc;
    unended = λ is. absurd cc;
    further = still_unended left (alone told).soon refl;
    less = tt;
    read = λ is. absurd cc;
    write = λ is. absurd cc;
    read_exact = λ _. refl;
    write_exact = λ _. same;
    complete = tt;
  }

  -- some of it wasn't, for the sink failed
  pub said_in_part : GrewByLess held held' told.text → Rose writes writes' → SaysAlone told held writes held' writes' (Err Write)
  said_in_part less rose = λ left reads. record {
    whole = tt;
    to_end = tt;
    front = if_any left _ (λ bytes. front);
    soon = λ is. absurd cc;
    unended = λ is. absurd cc;
    further = still_unended left (alone told).soon refl;
    less = if_any left _ (λ bytes _. less);
    read = λ is. absurd cc;
    write = λ _. rose;
    read_exact = λ _. refl;
    write_exact = λ other. absurd (other refl);
    complete = λ _ none. absurd (none rose);
  }
