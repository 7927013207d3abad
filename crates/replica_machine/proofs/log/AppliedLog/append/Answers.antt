use Rattle.std.proofs.Common.{◌≡◌, refl, sym, ap, ◌∙◌, [], ◌++◌, List, arith, map}
use Rattle.replica_machine.specs.declared.log.LearnFault.TheVariants.{Memory, Failed}
use Rattle.paxos_packets.specs.declared.entry.Entry.{Entry}
use Rattle.replica_machine.specs.Log.{IsAt, IsLogOf, machine_from}
use Rattle.replica_machine.specs.Replay.{sayings_by_slot}
use Rattle.replica_machine.proofs.Appending.{memory_failed, memory_disagree, failed_disagree, other_fault, no_fault}
use Rattle.replica_machine.proofs.Appending.{if_not_err, log_stays, stays_empty, not_failed, applied_is, begins_with, begins_same, begins_to}
use Rattle.replica_machine.proofs.Appending.{floor_is, alive_inside, rolled_inside, stands_inside, log_on}
use Rattle.replica_machine.proofs.log.AppliedLog.append.Goals as goal

pub apply_all-requires : goal.apply_all-requires
apply_all-requires g c =
    let many = c.len-2.ensures in
    let kept = if_not_err _ (sym c.if-is_err.ensures.value) c.reserve.ensures.ok in
    let none = c.in-Ok.ensures.len in
    let made = c.in-Ok.ensures.capacity in
    let asked = c.len.ensures in
    record {
      room = omega arith;
      said_room = omega arith;
    }

pub returns-in_default : goal.returns-in_default
returns-in_default g c = record {
  applied = tt;
  count = tt;
  ahead = c.requires;
  floor = refl;
  alive = tt;
  machine = λ _. tt;
  failed = λ f. absurd (not_failed c.args.self.now _ c.self.view_is c.if-self.false f);
  memory = λ _. refl;
  refused = λ e. absurd (other_fault Memory Failed memory_failed e);
  no_other = memory_disagree;
  err = begins_same c.args.self.now c.args.self.now refl c.args.self.now.applied refl;
  front = (c.args.entries.items, refl);
  follows = λ _ _. tt;
  says = λ _ _. tt;
  rolled = λ _ _. tt;
  goes_on = λ _ _ _. tt;
  told = λ _ _ _. tt;
}

pub returns-then-is_err : goal.returns-then-is_err
returns-then-is_err g c = record {
  applied = tt;
  count = tt;
  ahead = stays_empty c.args.self.now _ c.self.view_is c.requires;
  floor = floor_is c.args.self.now _ c.self.view_is;
  alive = tt;
  machine = λ _. tt;
  failed = λ f. absurd (not_failed c.args.self.now _ c.self.view_is c.if-self.false f);
  memory = λ _. log_stays c.args.self.now _ c.self.view_is _ c.reserve.ensures.items;
  refused = λ e. absurd (other_fault Memory Failed memory_failed e);
  no_other = memory_disagree;
  err = begins_same c.args.self.now _ c.self.view_is _ c.reserve.ensures.items;
  front = (c.args.entries.items, ap (λ l. l ++ c.args.entries.items) (applied_is c.args.self.now _ c.self.view_is _ c.reserve.ensures.items));
  follows = λ _ _. tt;
  says = λ _ _. tt;
  rolled = λ _ _. tt;
  goes_on = λ _ _ _. tt;
  told = λ _ _ _. tt;
}

pub returns-in_default-apply_all : goal.returns-in_default-apply_all
returns-in_default-apply_all g c = record {
  applied = tt;
  count = tt;
  ahead = stays_empty c.args.self.now _ c.self.view_is c.requires;
  floor = floor_is c.args.self.now _ c.self.view_is;
  alive = tt;
  machine = λ _. tt;
  failed = λ _. refl;
  memory = λ e. absurd (other_fault Failed Memory (λ f. memory_failed (sym f)) e);
  refused = λ _. refl;
  no_other = failed_disagree;
  err = begins_with c.args.self.now _ c.self.view_is _ _ c.reserve.ensures.items c.in_default-apply_all.ensures.err;
  front = begins_to c.args.self.now _ c.self.view_is _ _ _ c.reserve.ensures.items c.in_default-apply_all.ensures.front;
  follows = λ _ _. tt;
  says = λ _ _. tt;
  rolled = λ _ _. tt;
  goes_on = λ _ _ _. tt;
  told = λ _ _ _. tt;
}

pub returns : goal.returns
returns g c =
    let now = c.args.self.now in
    let done = c.in-Ok-apply_all.ensures in
    let stood = c.reserve.ensures.items in
    let before = applied_is now _ c.self.view_is _ stood in
    let none = c.in-Ok.ensures.len in
    let count = done.count in
    let content = g.M.Machine.content in
    let steps = g.M.Machine.steps in
    let stands : (first : g.M.Machine.Content) (under : List (Entry g.row.M-Body.Denot)) → IsLogOf steps content first under now
    → IsAt steps content first (under ++ c.reserve.new.self.items) c.self.inside.roll c.self.inside.machine =
    λ first under was. stands_inside now _ c.self.view_is steps content first under c.reserve.new.self.items stood was in
    let on : (first : g.M.Machine.Content) (under : List (Entry g.row.M-Body.Denot)) → IsLogOf steps content first under now
    → IsLogOf steps content first under _ =
    λ first under was. log_on now _ c.self.view_is steps content first under _ refl was (done.stands first under (stands first under was)) in
    let told : (first : g.M.Machine.Content) (under : List (Entry g.row.M-Body.Denot)) → IsLogOf steps content first under now
    → map (λ says. says.items) c.apply_all.new.said.items ≡ sayings_by_slot (machine_from steps first) (under
    ++ now.applied) c.args.entries.items =
    λ first under was. done.said first under (stands first under was)
    ∙ ap (λ l. map (λ says. says.items) l ++ sayings_by_slot (machine_from steps first) (under
    ++ c.reserve.new.self.items) c.args.entries.items)
    c.in-Ok.ensures.items
    ∙ ap (λ l. sayings_by_slot (machine_from steps first) (under ++ l) c.args.entries.items) before in
    record {
      applied = done.applied ∙ ap (λ l. l ++ c.args.entries.items) before;
      count = omega arith;
      ahead = stays_empty now _ c.self.view_is c.requires;
      floor = floor_is now _ c.self.view_is;
      alive = c.if-self.false;
      machine = λ was. done.alive (alive_inside now _ c.self.view_is g.M.Machine.has_failed was);
      failed = λ f. absurd (not_failed now _ c.self.view_is c.if-self.false f);
      memory = λ e. absurd (no_fault c.apply_all.new.said Memory e);
      refused = λ e. absurd (no_fault c.apply_all.new.said Failed e);
      no_other = tt;
      err = tt;
      front = tt;
      follows = λ first was. on first [] was;
      says = λ first was. told first [] was;
      rolled = λ under was. done.rolled under (rolled_inside now _ c.self.view_is under c.reserve.new.self.items stood was);
      goes_on = on;
      told = told;
    }
