use Rattle.xl_words.specs.Commands.{words_of}
use Rattle.xl_words.proofs.Exact.{exactly}
use Rattle.xl_words.proofs.command.Command.of.Goals as goal

pub returns-clause-exact : goal.returns-clause-exact
returns-clause-exact c = λ command w. c.found.ensures.given command (exactly (words_of c.args.words.now) command w)
