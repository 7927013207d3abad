use Rattle.std.proofs.Common.{rules}
use Rattle.command_codec.proofs.Numbers.{octets_are}
use Rattle.command_codec.proofs.Entries.{whole_spelled, one_entry, nothing_left, only_memory}
use Rattle.command_codec.proofs.entry.take_entry.Goals as goal

pub returns-then-is_empty-clause-spelled : goal.returns-then-is_empty-clause-spelled
returns-then-is_empty-clause-spelled g c =
    let octets = c.args.octets.now in
    whole_spelled g.C.Coder.spelling g.C.Coder.reading g.met.C.Coder.read_again g.met.C.Coder.spelled octets c.in-Ok.front.1.now
    c.in-Ok.front.0 (octets_are octets c.type_inv.octets) c.in-Ok.ensures.taken c.if-is_empty.ensures

pub returns-then-is_empty-clause-read_again : goal.returns-then-is_empty-clause-read_again
returns-then-is_empty-clause-read_again g c = λ e h.
    one_entry g.C.Coder.spelling g.C.Coder.reading g.met.C.Coder.read_again g.met.C.Coder.spelled c.args.octets.now c.in-Ok.front.1.now
    e c.in-Ok.front.0 h c.in-Ok.ensures.taken

pub returns-else-is_empty-clause-read_again : goal.returns-else-is_empty-clause-read_again
returns-else-is_empty-clause-read_again g c = λ e h.
    absurd
    (nothing_left g.C.Coder.spelling g.C.Coder.reading g.met.C.Coder.read_again g.met.C.Coder.spelled c.args.octets.now
    c.in-Ok.front.1.now e c.in-Ok.front.0 h c.in-Ok.ensures.taken c.if-is_empty.ensures)

pub returns-in-Err-clause-read_again : goal.returns-in-Err-clause-read_again
returns-in-Err-clause-read_again g c = λ e h.
    only_memory g.C.Coder.spelling g.C.Coder.reading g.met.C.Coder.read_again g.met.C.Coder.spelled c.in-Err.fault c.args.octets.now e h
    c.in-Err.ensures.fault

pub returns-else-is_empty-clause-taken : goal.returns-else-is_empty-clause-taken
returns-else-is_empty-clause-taken g c = search rules

pub returns-else-is_empty-clause-spelled : goal.returns-else-is_empty-clause-spelled
returns-else-is_empty-clause-spelled g c = search rules
