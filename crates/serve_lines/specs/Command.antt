-- Which commands the lines of standard input are (docs/OPERATING.md, "Start, and what it writes").
use Rattle.std.specs.Prelude.{ℕ, ◌==◌, ◌++◌, ◌∷◌, [], List, Option, Some, None, if◌then◌else◌, take, bytes_eq, codes}
use Rattle.serve_lines.specs.declared.command.Command.{Command}
use Rattle.serve_lines.specs.declared.command.Command.TheVariants.{Status, Other}

-- a line is a command by its octets without the line feed; of a line the first seven are kept, one more than the longest command has
abbrev pub command_of : List ℕ → Command
command_of line = if bytes_eq line (codes "status") then Status else Other

-- what is kept of the line after this octet: nothing after a line feed, which ends it
abbrev pub keeping : ℕ → List ℕ → List ℕ
keeping octet line = if octet == 10 then [] else take 7 (line ++ octet ∷ [])

-- the command that this octet ends
abbrev pub ended : ℕ → List ℕ → Option Command
ended octet line = if octet == 10 then Some (command_of line) else None
