-- The program's command line, as its parser sees it.
use Rattle.std.specs.Prelude.{◌≡◌, true, List, ℕ, Some, codes}
use Rattle.clap.specs.declared.builder.action.ArgAction.TheVariants.{Set}
use Rattle.clap.specs.declared.builder.command.Command.{Command}
use Rattle.clap.specs.Words.{AddsSubcommand, App, Rule, Shape, app_of, new_app, new_rule, with_rule, with_subcommand}

-- `--name VALUE`
abbrev pub option_rule : List ℕ → Rule
option_rule name = record (new_rule name) { long = Some name; action = Some Set; value_names = 1 }

-- an option that has to be given
abbrev pub required_rule : List ℕ → Rule
required_rule name = record (option_rule name) { required = true }

abbrev pub with_option : List ℕ → App → App
with_option name a = with_rule a (option_rule name)

abbrev pub with_required : List ℕ → App → App
with_required name a = with_rule a (required_rule name)

abbrev pub stream_shape : Shape
stream_shape = (with_option (codes "realm") (new_app (codes "stream"))).top

abbrev pub script_shape : Shape
script_shape = (with_option (codes "realm") (with_required (codes "nodes") (new_app (codes "script")))).top

abbrev pub serve_shape : Shape
serve_shape =
    (with_option (codes "realm") (with_option (codes "dir")
    (with_required (codes "key") (with_required (codes "port") (with_required (codes "nodes") (new_app (codes "serve"))))))).top

abbrev pub top_shape : Shape
top_shape = record ((new_app (codes "wampd")).top) {
  has_version = true;
  no_binary_name = true;
  disable_help_subcommand = true;
  subcommand_required = true;
}

-- the program without its subcommands
abbrev pub bare : App
bare = record (new_app (codes "wampd")) { top = top_shape }

unfoldable pub program : App
program = with_subcommand (with_subcommand (with_subcommand bare stream_shape) script_shape) serve_shape

-- what may be added as a subcommand of this shape
abbrev pub IsSubcommand : Shape → Command → Type 0
IsSubcommand shape c = (old new : Command) → AddsSubcommand old c new → app_of new ≡ with_subcommand (app_of old) shape
