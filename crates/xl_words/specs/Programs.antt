-- The program as `clap` sees it. Source: this project's own command line.
use Rattle.std.specs.Prelude.{true, codes, Some}
use Rattle.clap.specs.Words.{App, Rule, Shape, Text, new_app, new_rule, with_rule, with_subcommand}
use Rattle.clap.specs.declared.builder.action.ArgAction.TheVariants.{Set}
use Rattle.clap.specs.declared.builder.value_parser.ValueParser.TheVariants.{Unsigned}

-- the argument of `gen`: a number from 1 to 1000
abbrev pub rounds_rule : Rule
rounds_rule = record (new_rule (codes "rounds")) {
  action = Some Set;
  parser = Some (Unsigned 1 1000);
  required = true;
}

-- a command with no argument
abbrev pub plain : Text → Shape
plain name = (new_app name).top

abbrev pub with_rounds : Shape
with_rounds = (with_rule (new_app (codes "gen")) rounds_rule).top

-- a command is wanted, help isn't one, and there is a version
abbrev pub bare : App
bare = record (new_app (codes "xl")) {
  top = record (new_app (codes "xl")).top {
    subcommand_required = true;
    disable_help_subcommand = true;
    has_version = true;
  };
}

-- the program with the first five of its eleven commands
abbrev pub first_commands : App
first_commands = with_subcommand (with_subcommand (with_subcommand (with_subcommand (with_subcommand bare (plain (codes
    "replay"))) (plain (codes "node"))) (plain (codes "show"))) (plain (codes "lists"))) (plain (codes "merge"))

-- the program with each that has no argument
abbrev pub plain_commands : App
plain_commands = with_subcommand (with_subcommand (with_subcommand (with_subcommand (with_subcommand first_commands (plain
    (codes "audit"))) (plain (codes "blame"))) (plain (codes "flags"))) (plain (codes "negative"))) (plain (codes "tell"))

-- the program with all of them
abbrev pub program : App
program = with_subcommand plain_commands with_rounds
