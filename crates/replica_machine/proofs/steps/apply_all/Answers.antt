use Rattle.std.proofs.Common.{rules, ◌≡◌, ap, ◌∙◌, arith, List, [], ◌∷◌, ◌+◌, ◌++◌, length, map, suc}
use Rattle.std.specs.Prelude.{vec_len}
use Rattle.std.specs.Vec.Iter.{into_iter_items}
use Rattle.std.proofs.lemmas.List.{append-nil, map-append}
use Rattle.paxos_packets.specs.declared.entry.Entry.{Entry}
use Rattle.replica_machine.specs.Log.{machine_from}
use Rattle.replica_machine.specs.Replay.{sayings_by_slot}
use Rattle.replica_machine.proofs.Applying.{at_on, said_at, at_longer, rolled_longer}
use Rattle.replica_machine.proofs.Appending.{rest_applied, begins_on, said_on}
use Rattle.replica_machine.proofs.steps.apply_all.Goals as goal

pub loop-entry-init : goal.loop-entry-init
loop-entry-init g c =
    let rest : into_iter_items c.into_iter-entry-iterator.result ≡ c.args.entries.items = search rules in
    let count : length (into_iter_items c.into_iter-entry-iterator.result) ≡ length c.args.entries.items = ap (λ l. length l) rest in
    let applied = c.args.applied.now.items in (
      (let a = c.requires.room in let k = c.args.entries.ok.0 in let n = count in omega arith),
      (let a = c.requires.said_room in let k = c.args.entries.ok.0 in let n = count in omega arith),
      ap (λ n. vec_len c.args.said.now + n) count,
      ap (λ l. applied ++ l) rest,
      ([], append-nil applied),
      λ under rolled. rolled,
      λ first under stands.
          let m = machine_from g.M.Machine.steps first in
          (stands, ap (λ l. map (λ says. says.items) c.args.said.now.items ++ sayings_by_slot m (under ++ applied) l) rest),
      λ alive. alive,
    )

pub loop-entry-preserved : goal.loop-entry-preserved
loop-entry-preserved g c =
    let so_far = c.loop-entry.invariant in
    let did = c.in_ok-_took.ensures in
    let old = c.loop-entry.applied.items in
    let new = c.apply_in_room.new.applied.items in
    let steps = g.M.Machine.steps in
    let content = g.M.Machine.content in
    let more : List (Entry g.row.M-Body.Denot) = into_iter_items c.next.new.self in
    let rest : into_iter_items c.loop-entry.entry-iterator ≡ c.in-Some.entry ∷ more = search rules in
    let count : length (into_iter_items c.loop-entry.entry-iterator) ≡ suc (length more) = ap (λ l. length l) rest in (
      (let a = so_far.0 in let b = did.length in let d = did.capacity in let n = count in omega arith),
      (let a = so_far.1 in let b = c.push_reserved.ensures.len in let d = c.push_reserved.ensures.capacity in let n = count in omega arith),
      (let a = so_far.2 in let b = c.push_reserved.ensures.len in let n = count in omega arith),
      rest_applied old new _ more _ c.in-Some.entry did.ok rest so_far.3,
      begins_on c.args.applied.now.items old new c.in-Some.entry did.ok so_far.4,
      λ under rolled. rolled_longer under old new c.in-Some.entry c.apply_in_room.new.roll did.ok (did.roll (under ++ old) (so_far.5 under rolled)),
      λ first under stands.
          let was = so_far.6 first under stands in (
            at_longer steps content first under old new c.in-Some.entry c.apply_in_room.new.roll c.apply_in_room.new.machine did.ok
                (at_on steps content first (under ++ old) c.in-Some.entry c.loop-entry.roll c.apply_in_room.new.roll
                c.loop-entry.machine c.apply_in_room.new.machine c.in_ok-_took._took was.0 did.took did.roll did.content),
            said_on (machine_from steps first) under old new _ more c.in-Some.entry _ _ _ _ did.ok rest
                (said_at steps content first (under ++ old) c.in-Some.entry c.loop-entry.roll c.loop-entry.machine
                c.in_ok-_took._took _ was.0 did.took did.says)
                (ap (λ l. map (λ says. says.items) l) c.push_reserved.ensures.items
                ∙ map-append (λ says. says.items) c.loop-entry.said.items (c.in_ok-_took.says ∷ []))
                was.1,
          ),
      λ alive. did.alive (so_far.7 alive),
    )

pub returns-clause-stands : goal.returns-clause-stands
returns-clause-stands g c = λ first under stands. (c.loop-entry.invariant.6 first under stands).0

pub returns-clause-rolled : goal.returns-clause-rolled
returns-clause-rolled g c = λ under rolled. c.loop-entry.invariant.5 under rolled

pub returns-clause-alive : goal.returns-clause-alive
returns-clause-alive g c = λ alive. c.loop-entry.invariant.7 alive
