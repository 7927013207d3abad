use Rattle.std.proofs.Common.{◌≡◌, [], true, List, None, Some, ap, length, refl, reverse, rules}
use Rattle.std.proofs.lemmas.List.Elements.{All-pop}
use Rattle.paxos_node.specs.declared.event.Event.{Event}
use Rattle.actor_parts.proofs.Carrying.{who_on}
use Rattle.actor_parts.specs.Tried.{events_in}
use Rattle.actor_parts.specs.declared.tried.Tried.{Tried}
use Rattle.node_actor.specs.Calls.{is_own}
use Rattle.node_actor.specs.Trying.{acting_before}
use Rattle.node_actor.proofs.Bringing.{own_is_other}
use Rattle.node_actor.proofs.OwnEvents.{own_at, plans_ahead, received_own, round_first}
use Rattle.node_actor.proofs.OwnNext.{so_all, so_due, so_first, so_full, so_held, so_last, so_next}
use Rattle.node_actor.proofs.Viewing.{owned_event}
use Rattle.node_actor.proofs.making.make_all.Goals as goal

pub loop-event-init : goal.loop-event-init
loop-event-init g c = (
  so_first g.M.Body.Body.same g.M.Machine.steps g.M.Machine.content g.M.Machine.loaded g.K.Keeper.holds g.K.Keeper.finds g.K.Keeper.failures
      (reverse c.args.own.now.items) (acting_before c.args.parts.now c.args.seat.now) c.args.says.now.items
      (events_in c.args.staged.now.tried) (ap (λ (ts : List (Tried g.row.M-Body.Denot)). events_in ts) c.requires.none)
      (round_first g.M.Body.Body.same g.M.Machine.steps g.M.Machine.content g.M.Machine.loaded g.K.Keeper.holds g.K.Keeper.finds
      g.K.Keeper.failures g.K.Keeper.is_failed c.args.parts.now c.args.seat.now c.args.staged.now c.requires.trying c.limits.ensures),
  c.requires.trying,
  c.requires.owned,
  record { me = refl; members = refl; waits_me = refl; waits_members = refl },
  c.requires.own,
)

-- the event is one that a call may make

pub make_one-requires-clause-own : goal.make_one-requires-clause-own
make_one-requires-clause-own g c =
    let was = c.loop-event.invariant in
    let mine = All-pop (λ e. is_own c.args.parts.now.node.me e ≡ true) c.loop-event.own.items c.pop.new.self.items (Some c.in-Some.event)
    c.in-Some.ensures.items was.4 in
    plans_ahead g.M.Body.Body.same g.K.Keeper.holds g.K.Keeper.is_failed c.loop-event.parts c.loop-event.seat c.loop-event.staged c.in-Some.event
    was.1 (own_at c.args.parts.now.node.me c.loop-event.parts.node.me c.in-Some.event was.3.me mine.1)

pub make_one-requires-clause-other : goal.make_one-requires-clause-other
make_one-requires-clause-other g c =
    let mine = All-pop (λ e. is_own c.args.parts.now.node.me e ≡ true) c.loop-event.own.items c.pop.new.self.items (Some c.in-Some.event)
    c.in-Some.ensures.items c.loop-event.invariant.4 in
    own_is_other c.args.parts.now.node.me c.in-Some.event mine.1

pub make_one-requires-clause-received : goal.make_one-requires-clause-received
make_one-requires-clause-received g c =
    let mine = All-pop (λ e. is_own c.args.parts.now.node.me e ≡ true) c.loop-event.own.items c.pop.new.self.items (Some c.in-Some.event)
    c.in-Some.ensures.items c.loop-event.invariant.4 in
    received_own c.loop-event.seat.members c.in-Some.event c.loop-event.seat.part (owned_event c.args.parts.now.node.me c.in-Some.event mine.1).2

-- it is made or tried, or passed over
pub loop-event-preserved : goal.loop-event-preserved
loop-event-preserved g c =
    let was = c.loop-event.invariant in
    let left : List (Event g.row.M-Body.Denot) = c.pop.new.self.items in
    let fresh = c.requires.trying.fresh in
    let f = so_last g.M.Body.Body.same g.M.Machine.steps g.M.Machine.content g.M.Machine.loaded g.K.Keeper.holds g.K.Keeper.finds
    g.K.Keeper.failures (reverse c.args.own.now.items) (acting_before c.args.parts.now c.args.seat.now) c.args.says.now.items
    c.loop-event.own.items left c.in-Some.event (events_in c.loop-event.staged.tried) (acting_before c.loop-event.parts c.loop-event.seat)
    c.loop-event.says.items c.in-Some.ensures.items was.0 in
    let mine = All-pop (λ e. is_own c.args.parts.now.node.me e ≡ true) c.loop-event.own.items left (Some c.in-Some.event)
    c.in-Some.ensures.items was.4 in
    let none : c.in-Ok-None.field-0 ≡ None = search rules in
    let next = so_next g.M.Body.Body.same g.M.Machine.steps g.M.Machine.content g.M.Machine.loaded g.K.Keeper.holds g.K.Keeper.finds
    g.K.Keeper.failures
    (reverse c.args.own.now.items) (acting_before c.args.parts.now c.args.seat.now) c.args.says.now.items c.in-Some.event (reverse left)
    (events_in c.loop-event.staged.tried) (acting_before c.loop-event.parts c.loop-event.seat) c.loop-event.says.items f (events_in
    c.make_one.new.staged.tried)
    (acting_before c.make_one.new.parts c.make_one.new.seat) c.make_one.new.says.items c.in-Ok-None.field-0 none
    (c.in-Ok-None.ensures.makes (reverse c.args.own.now.items) _ (acting_before c.args.parts.now c.args.seat.now) c.args.seat.now
    c.args.says.now.items f.all [] fresh (c.requires.trying.sound.serves fresh).up f.heads
    (so_due g.M.Body.Body.same g.M.Machine.steps g.M.Machine.content g.M.Machine.loaded g.K.Keeper.holds g.K.Keeper.finds
    g.K.Keeper.failures (reverse c.args.own.now.items) (acting_before c.args.parts.now c.args.seat.now) c.args.says.now.items
    c.in-Some.event (reverse left) (events_in c.loop-event.staged.tried) (acting_before c.loop-event.parts c.loop-event.seat)
    c.loop-event.says.items f)) in (
      next,
      c.in-Ok-None.ensures.trying,
      c.make_one.ensures.owned,
      who_on c.args.parts.now c.loop-event.parts c.make_one.new.parts was.3 c.make_one.ensures.who,
      mine.0,
    )

-- there is no room for it: it goes back to the others
pub returns-in-Ok-Some-clause-makes : goal.returns-in-Ok-Some-clause-makes
returns-in-Ok-Some-clause-makes g c =
    let was = c.loop-event.invariant in
    let left : List (Event g.row.M-Body.Denot) = c.pop.new.self.items in
    let fresh = c.requires.trying.fresh in
    let f = so_last g.M.Body.Body.same g.M.Machine.steps g.M.Machine.content g.M.Machine.loaded g.K.Keeper.holds g.K.Keeper.finds
    g.K.Keeper.failures (reverse c.args.own.now.items) (acting_before c.args.parts.now c.args.seat.now) c.args.says.now.items
    c.loop-event.own.items left c.in-Some.event (events_in c.loop-event.staged.tried) (acting_before c.loop-event.parts c.loop-event.seat)
    c.loop-event.says.items c.in-Some.ensures.items was.0 in
    let it : c.in-Ok-Some.field-0 ≡ Some c.in-Ok-Some.event = search rules in
    so_held g.M.Body.Body.same g.M.Machine.steps g.M.Machine.content g.M.Machine.loaded g.K.Keeper.holds g.K.Keeper.finds g.K.Keeper.failures
    (reverse c.args.own.now.items) (acting_before c.args.parts.now c.args.seat.now) c.args.says.now.items (events_in c.make_one.new.staged.tried)
    (acting_before c.make_one.new.parts c.make_one.new.seat) c.make_one.new.says.items tt c.push_reserved.new.self.items left c.in-Ok-Some.event
    c.push_reserved.ensures.items
    (so_full g.M.Body.Body.same g.M.Machine.steps g.M.Machine.content g.M.Machine.loaded g.K.Keeper.holds g.K.Keeper.finds g.K.Keeper.failures
    (reverse c.args.own.now.items) (acting_before c.args.parts.now c.args.seat.now) c.args.says.now.items c.in-Some.event (reverse left)
    (events_in c.loop-event.staged.tried) (acting_before c.loop-event.parts c.loop-event.seat) c.loop-event.says.items f (events_in
    c.make_one.new.staged.tried)
    (acting_before c.make_one.new.parts c.make_one.new.seat) c.make_one.new.says.items tt
    c.in-Ok-Some.field-0 c.in-Ok-Some.event it
    (c.in-Ok-Some.ensures.makes (reverse c.args.own.now.items) _ (acting_before c.args.parts.now c.args.seat.now) c.args.seat.now
    c.args.says.now.items f.all [] fresh (c.requires.trying.sound.serves fresh).up f.heads
    (so_due g.M.Body.Body.same g.M.Machine.steps g.M.Machine.content g.M.Machine.loaded g.K.Keeper.holds g.K.Keeper.finds
    g.K.Keeper.failures (reverse c.args.own.now.items) (acting_before c.args.parts.now c.args.seat.now) c.args.says.now.items
    c.in-Some.event (reverse left) (events_in c.loop-event.staged.tried) (acting_before c.loop-event.parts c.loop-event.seat)
    c.loop-event.says.items f)))

-- a fault has ended the round
pub returns-in-Err-clause-makes : goal.returns-in-Err-clause-makes
returns-in-Err-clause-makes g c =
    let was = c.loop-event.invariant in
    let left : List (Event g.row.M-Body.Denot) = c.pop.new.self.items in
    let fresh = c.requires.trying.fresh in
    let f = so_last g.M.Body.Body.same g.M.Machine.steps g.M.Machine.content g.M.Machine.loaded g.K.Keeper.holds g.K.Keeper.finds
    g.K.Keeper.failures (reverse c.args.own.now.items) (acting_before c.args.parts.now c.args.seat.now) c.args.says.now.items
    c.loop-event.own.items left c.in-Some.event (events_in c.loop-event.staged.tried) (acting_before c.loop-event.parts c.loop-event.seat)
    c.loop-event.says.items c.in-Some.ensures.items was.0 in
    c.in-Err.ensures.makes (reverse c.args.own.now.items) _ (acting_before c.args.parts.now c.args.seat.now) c.args.seat.now
    c.args.says.now.items f.all [] fresh (c.requires.trying.sound.serves fresh).up f.heads
    (so_due g.M.Body.Body.same g.M.Machine.steps g.M.Machine.content g.M.Machine.loaded g.K.Keeper.holds g.K.Keeper.finds
    g.K.Keeper.failures (reverse c.args.own.now.items) (acting_before c.args.parts.now c.args.seat.now) c.args.says.now.items
    c.in-Some.event (reverse left) (events_in c.loop-event.staged.tried) (acting_before c.loop-event.parts c.loop-event.seat)
    c.loop-event.says.items f)

-- none is left

pub returns-clause-owned : goal.returns-clause-owned
returns-clause-owned g c = c.loop-event.invariant.2

pub returns-clause-trying : goal.returns-clause-trying
returns-clause-trying g c = c.loop-event.invariant.1

pub returns-clause-who : goal.returns-clause-who
returns-clause-who g c = c.loop-event.invariant.3

pub returns-clause-makes : goal.returns-clause-makes
returns-clause-makes g c =
    let size : length c.pop.new.self.items ≡ 0 = search rules in
    so_all g.M.Body.Body.same g.M.Machine.steps g.M.Machine.content g.M.Machine.loaded g.K.Keeper.holds g.K.Keeper.finds g.K.Keeper.failures
    (reverse c.args.own.now.items) (acting_before c.args.parts.now c.args.seat.now) c.args.says.now.items c.loop-event.own.items
    c.pop.new.self.items c.in_default.ensures.items size (events_in c.loop-event.staged.tried)
    (acting_before c.loop-event.parts c.loop-event.seat) c.loop-event.says.items tt c.loop-event.invariant.0
