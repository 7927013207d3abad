use Rattle.command_codec.proofs.Entries.{entry_again, entry_spelled, entries_apart}
use Rattle.command_codec.proofs.laws.spellings_are_apart.Goals as goal

pub returns-clause-apart : goal.returns-clause-apart
returns-clause-apart g c = entries_apart g.C.Coder.spelling g.C.Coder.reading g.met.C.Coder.read_again g.met.C.Coder.spelled

pub returns-clause-read_again : goal.returns-clause-read_again
returns-clause-read_again g c = entry_again g.C.Coder.spelling g.C.Coder.reading g.met.C.Coder.read_again g.met.C.Coder.spelled

pub returns-clause-spelled : goal.returns-clause-spelled
returns-clause-spelled g c = entry_spelled g.C.Coder.spelling g.C.Coder.reading g.met.C.Coder.read_again g.met.C.Coder.spelled
