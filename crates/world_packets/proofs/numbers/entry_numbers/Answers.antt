use Rattle.std.proofs.Common.{◌∙◌}
use Rattle.world_packets.proofs.Entries.{numbers_at, numbers_past}
use Rattle.world_packets.proofs.numbers.entry_numbers.Goals as goal

pub returns-in-Some-Boot : goal.returns-in-Some-Boot
returns-in-Some-Boot g c =
    let h = c.in-Some-Boot.ensures.lookup in
    numbers_at c.args.entries.now c.args.index c.in-Some-Boot.field-0.now _ h.3.0 h.1 c.in-Some-Boot.field-0-is

pub returns-in-Some-Lost : goal.returns-in-Some-Lost
returns-in-Some-Lost g c =
    let h = c.in-Some-Lost.ensures.lookup in
    numbers_at c.args.entries.now c.args.index c.in-Some-Lost.field-0.now _ h.3.0 h.1 c.in-Some-Lost.field-0-is

pub returns-in-Some-Item : goal.returns-in-Some-Item
returns-in-Some-Item g c =
    let h = c.in-Some-Item.ensures.lookup in
    numbers_at c.args.entries.now c.args.index c.in-Some-Item.field-0.now _ h.3.0 h.1 c.in-Some-Item.field-0-is

pub returns-in-Some-Noop : goal.returns-in-Some-Noop
returns-in-Some-Noop g c =
    let h = c.in-Some-Noop.ensures.lookup in
    c.no_entry.ensures ∙ numbers_at c.args.entries.now c.args.index c.in-Some-Noop.field-0.now _ h.3.0 h.1 c.in-Some-Noop.field-0-is

pub returns-in-None : goal.returns-in-None
returns-in-None g c =
    c.no_entry-in-None.ensures ∙ numbers_past c.args.entries.now c.args.index c.in-None.ensures.lookup.3
