use Rattle.std.proofs.Common.{◌≡◌, ◌++◌, ◌∷◌, [], List}
use Rattle.std.specs.Prelude.{filter}
use Rattle.paxos_packets.specs.declared.entry.Entry.{Entry}
use Rattle.replica_machine.specs.Roll.{is_wanted_by}
use Rattle.world_rescue.proofs.Listing.{from_ok, filters_on, filters_all}
use Rattle.world_rescue.proofs.falling.wanted.Goals as goal

pub loop-entry-preserved : goal.loop-entry-preserved
loop-entry-preserved g c = λ stands is.
    let e : Entry g.row.B.Denot = c.entry-item.result in
    let all : List (Entry g.row.B.Denot) = filter (is_wanted_by stands) c.args.pending.now in
    let one : c.keep_wanted.new.entries ≡ c.loop-entry.entries ++ filter (is_wanted_by stands) (e ∷ []) =
    from_ok c.keep_wanted.result c.in_ok-keep_wanted.field-0 c.in_ok-keep_wanted.was (c.keep_wanted.ensures stands is) in
    filters_on (is_wanted_by stands) c.args.pending.now c.loop-entry.entries c.keep_wanted.new.entries all c.loop-entry.entry-index e c.loop-entry-test.true
    c.entry-item.is one (c.loop-entry.invariant stands is)

pub returns : goal.returns
returns g c = λ stands is.
    filters_all (is_wanted_by stands) c.args.pending.now c.loop-entry.entries (filter (is_wanted_by stands) c.args.pending.now) c.loop-entry.entry-index
    c.loop-entry-test.false (c.loop-entry.invariant stands is)
