use Rattle.std.proofs.Common.{rules}
use Rattle.command_codec.proofs.entry.put_entry.Goals as goal

pub returns-in-Lost : goal.returns-in-Lost
returns-in-Lost g c = search rules
