use Rattle.std.proofs.Common.{◌≡◌, ◌<◌, ◌^◌, ℕ, ◌+◌, List, ◌++◌, length, ap, sym, ◌∙◌, subst, arith}
use Rattle.paxos_packets.specs.Snapshot.{floor_in}
use Rattle.paxos_packets.specs.declared.entry.Entry.{Entry}
use Rattle.paxos_proposer.specs.Moves.{after_moves, ArePossible}
use Rattle.paxos_proposer.specs.State as proposing
use Rattle.paxos_learner.specs.Hearing.{hear_all, HasRoomFor}
use Rattle.paxos_learner.specs.Learned.{Begins}
use Rattle.paxos_learner.specs.Learner as learning
use Rattle.paxos_learner.proofs.Overlay.{floor_stays}
use Rattle.replica_machine.specs.declared.roll.Standing.{Standing}
use Rattle.replica_machine.specs.Roll.{HasStandings, standings_from}
use Rattle.paxos_planning.specs.Node.{NodeState, log_length}
use Rattle.paxos_planning.specs.Front.{IsFront}
use Rattle.paxos_node.specs.Moved.{Moved}
use Rattle.paxos_node.specs.Held.{Held, learner_in}
use Rattle.paxos_planning.specs.Parts.{proposer_of, learner_of, pending_with, counted_with, first_learned}
use Rattle.paxos_node.specs.Applying.{base}
use Rattle.paxos_node.specs.Adopting.{pending_behind, moved_on}
use Rattle.paxos_node.proofs.Parts.{proposer_is, learner_is, held_is}
use Rattle.paxos_planning.proofs.Staying.{me_stays, members_stay, heard_stay}
use Rattle.paxos_node.proofs.Adoption.{length_both, first_both}
use Rattle.paxos_node.proofs.Rolling.{roll_of}
use Rattle.paxos_node.proofs.node.Node.go_on.Goals as goal

pub move_in_room-requires-clause-possible : goal.move_in_room-requires-clause-possible
move_in_room-requires-clause-possible g c =
    let of_moves : ArePossible c.moves.inside.proposer.items (proposer_of c.args.self.now.me c.args.self.now.members c.args.self.now.state) =
    subst (λ (m : Moved g.row.B.Denot). ArePossible m.proposer (proposer_of c.args.self.now.me c.args.self.now.members c.args.self.now.state))
    (sym c.moves.view_is) c.requires.moves in
    subst (λ (s : proposing.State g.row.B.Denot). ArePossible c.moves.inside.proposer.items s)
    (sym (proposer_is c.self.inside.proposer.state c.self.inside.me c.self.inside.members c.self.invariant.0 c.self.invariant.1))
    (subst (λ (h : Held g.row.B.Denot). ArePossible c.moves.inside.proposer.items (proposer_of h.me h.members h.state)) (sym c.self.view_is) of_moves)

pub hear_in_room-requires : goal.hear_in_room-requires
hear_in_room-requires g c =
    let of_moves : HasRoomFor c.moves.inside.news.items (learner_in c.args.self.now) =
    subst (λ (m : Moved g.row.B.Denot). HasRoomFor m.news (learner_in c.args.self.now)) (sym c.moves.view_is) c.requires.learner in
    subst (λ (l : learning.Held g.row.B.Denot). HasRoomFor c.moves.inside.news.items l) (sym (held_is c.self.inside.learner c.self.inside.members c.self.invariant.2))
    (subst (λ (h : Held g.row.B.Denot). HasRoomFor c.moves.inside.news.items (learner_in h)) (sym c.self.view_is) of_moves)

pub invariant_of-self : goal.invariant_of-self
invariant_of-self g c =
    let floor : ℕ = floor_in c.self.inside.acceptor.rows.snapshot in
    let log : List (Entry g.row.B.Denot) = first_learned c.self.inside.applied c.self.inside.learner.state.learner.learned in
    let more : List (Entry g.row.B.Denot) = c.args.applied.now in
    let stands : ℕ → Standing = standings_from (base c.self.inside.acceptor.rows) log in
    let counted : length log ≡ c.self.inside.applied = c.self.invariant.4 in
    let begun : Begins c.self.inside.learner.state.learner.floor (log ++ more)
    (hear_all c.moves.inside.news.items (record { members = c.self.inside.members; learner = c.self.inside.learner.state.learner })).learner.learned =
    subst (λ (h : Held g.row.B.Denot). Begins h.state.learner.floor (h.state.applied ++ more)
    (hear_all c.moves.inside.news.items (learner_of h.members h.state)).learner.learned) (sym c.self.view_is)
    (subst (λ (m : Moved g.row.B.Denot). Begins c.args.self.now.state.learner.floor (c.args.self.now.state.applied ++ more)
    (hear_all m.news (learner_of c.args.self.now.members c.args.self.now.state)).learner.learned)
    (sym c.moves.view_is) c.requires.begins) in
    let within : floor + length log + length more < 2 ^ 40 =
    subst (λ (h : Held g.row.B.Denot). log_length h.state + length more < 2 ^ 40) (sym c.self.view_is) c.requires.within in
    let heard : c.hear_in_room.new.self.state ≡ hear_all c.moves.inside.news.items (record { members = c.self.inside.members; learner = c.self.inside.learner.state.learner }) =
    c.hear_in_room.ensures
    ∙ ap (λ (s : learning.State g.row.B.Denot). hear_all c.moves.inside.news.items s) (learner_is c.self.inside.learner.state c.self.inside.members c.self.invariant.2) in
    let begins : Begins floor (log ++ more) c.hear_in_room.new.self.state.learner.learned =
    subst (λ (n : ℕ). Begins n (log ++ more) c.hear_in_room.new.self.state.learner.learned) c.self.invariant.3
    (subst (λ (s : learning.State g.row.B.Denot). Begins c.self.inside.learner.state.learner.floor (log ++ more) s.learner.learned) (sym heard) begun) in
    let now : first_learned (c.self.inside.applied + length more) c.hear_in_room.new.self.state.learner.learned ≡ log ++ more =
    (λ i. first_learned (sym counted i + length more) c.hear_in_room.new.self.state.learner.learned)
    ∙ first_both floor log more c.hear_in_room.new.self.state.learner.learned begins in
    let number : floor + length log + length more ≡ floor + (c.self.inside.applied + length more) = omega arith in
    let x : NodeState g.row.B.Denot =
    record {
      rows = c.self.inside.acceptor.rows;
      up = c.self.inside.is_up;
      proposer = c.self.inside.proposer.state.proposer;
      learner = c.self.inside.learner.state.learner;
      applied = log;
      pending = c.self.inside.pending.items;
      taken = c.self.inside.taken;
    } in
    let of_moves : IsFront c.moves.inside.front (log_length c.args.self.now.state + length more)
    (after_moves c.moves.inside.proposer.items (proposer_of c.args.self.now.me c.args.self.now.members c.args.self.now.state)).proposer.role
    (moved_on c.args.self.now.me c.args.self.now.members
    (record { proposer = c.moves.inside.proposer.items; news = c.moves.inside.news.items; added = c.moves.inside.added; over = c.moves.inside.over; front = c.moves.inside.front; log = c.moves.inside.log })
    more c.args.self.now.state).pending =
    subst (λ (m : Moved g.row.B.Denot). IsFront m.front (log_length c.args.self.now.state + length more)
    (moved_on c.args.self.now.me c.args.self.now.members m more c.args.self.now.state).proposer.role
    (moved_on c.args.self.now.me c.args.self.now.members m more c.args.self.now.state).pending) (sym c.moves.view_is) c.requires.front in
    let of_parts : IsFront c.moves.inside.front (floor + length log + length more)
    (after_moves c.moves.inside.proposer.items (proposer_of c.self.inside.me c.self.inside.members x)).proposer.role
    (pending_behind stands more (pending_with c.moves.inside.added c.self.inside.pending.items)) =
    subst (λ (h : Held g.row.B.Denot). IsFront c.moves.inside.front (log_length h.state + length more)
    (after_moves c.moves.inside.proposer.items (proposer_of h.me h.members h.state)).proposer.role
    (pending_behind (standings_from (base h.state.rows) h.state.applied) more (pending_with c.moves.inside.added h.state.pending))) (sym c.self.view_is) of_moves in
    let moved : c.move_in_room.new.self.state ≡ after_moves c.moves.inside.proposer.items (proposer_of c.self.inside.me c.self.inside.members x) =
    c.move_in_room.ensures
    ∙ ap (λ (s : proposing.State g.row.B.Denot). after_moves c.moves.inside.proposer.items s)
    (proposer_is c.self.inside.proposer.state c.self.inside.me c.self.inside.members c.self.invariant.0 c.self.invariant.1) in
    let pending : c.apply_all.new.pending.items ≡ pending_behind stands more (pending_with c.moves.inside.added c.self.inside.pending.items) =
    c.apply_all.ensures.pending stands c.self.invariant.5 ∙ ap (λ (es : List (Entry g.row.B.Denot)). pending_behind stands more es) c.wait.ensures.pending in
    let front : IsFront c.moves.inside.front (floor + (c.self.inside.applied + length more)) c.move_in_room.new.self.state.proposer.role c.apply_all.new.pending.items =
    subst (λ (n : ℕ). IsFront c.moves.inside.front n c.move_in_room.new.self.state.proposer.role c.apply_all.new.pending.items) number
    (subst (λ (s : proposing.State g.row.B.Denot). IsFront c.moves.inside.front (floor + length log + length more) s.proposer.role c.apply_all.new.pending.items) (sym moved)
    (subst (λ (es : List (Entry g.row.B.Denot)). IsFront c.moves.inside.front (floor + length log + length more)
    (after_moves c.moves.inside.proposer.items (proposer_of c.self.inside.me c.self.inside.members x)).proposer.role es) (sym pending) of_parts)) in
    let roll : HasStandings (standings_from (base c.self.inside.acceptor.rows) (log ++ more)) c.apply_all.new.roll =
    roll_of (base c.self.inside.acceptor.rows) log more c.apply_all.new.roll (c.apply_all.ensures.roll stands c.self.invariant.5) in (
      ap (λ (s : proposing.State g.row.B.Denot). s.me) c.move_in_room.ensures ∙ me_stays c.moves.inside.proposer.items c.self.inside.proposer.state ∙ c.self.invariant.0,
      ap (λ (s : proposing.State g.row.B.Denot). s.members) c.move_in_room.ensures ∙ members_stay c.moves.inside.proposer.items c.self.inside.proposer.state
          ∙ c.self.invariant.1,
      ap (λ (s : learning.State g.row.B.Denot). s.members) c.hear_in_room.ensures ∙ heard_stay c.moves.inside.news.items c.self.inside.learner.state ∙ c.self.invariant.2,
      ap (λ (s : learning.State g.row.B.Denot). s.learner.floor) c.hear_in_room.ensures ∙ floor_stays c.moves.inside.news.items c.self.inside.learner.state
          ∙ c.self.invariant.3,
      ap (λ (l : List (Entry g.row.B.Denot)). length l) now ∙ length_both log more ∙ ap (λ (n : ℕ). n + length more) counted,
      subst (λ (l : List (Entry g.row.B.Denot)). HasStandings (standings_from (base c.self.inside.acceptor.rows) l) c.apply_all.new.roll) (sym now) roll,
      subst (λ (l : List (Entry g.row.B.Denot)). Begins floor l c.hear_in_room.new.self.state.learner.learned) (sym now) begins,
      subst (λ (n : ℕ). n < 2 ^ 40) number within,
      front,
      c.self.invariant.9,
    )

pub returns-clause-state : goal.returns-clause-state
returns-clause-state g c =
    let floor : ℕ = floor_in c.self.inside.acceptor.rows.snapshot in
    let log : List (Entry g.row.B.Denot) = first_learned c.self.inside.applied c.self.inside.learner.state.learner.learned in
    let more : List (Entry g.row.B.Denot) = c.args.applied.now in
    let stands : ℕ → Standing = standings_from (base c.self.inside.acceptor.rows) log in
    let x : NodeState g.row.B.Denot =
    record {
      rows = c.self.inside.acceptor.rows;
      up = c.self.inside.is_up;
      proposer = c.self.inside.proposer.state.proposer;
      learner = c.self.inside.learner.state.learner;
      applied = log;
      pending = c.self.inside.pending.items;
      taken = c.self.inside.taken;
    } in
    let counted : length log ≡ c.self.inside.applied = c.self.invariant.4 in
    let begun : Begins c.self.inside.learner.state.learner.floor (log ++ more) (hear_all c.args.moves.news (learner_of c.self.inside.members x)).learner.learned =
    subst (λ (h : Held g.row.B.Denot). Begins h.state.learner.floor (h.state.applied ++ more)
    (hear_all c.args.moves.news (learner_of h.members h.state)).learner.learned) (sym c.self.view_is) c.requires.begins in
    let learned : first_learned (length log + length more) (hear_all c.args.moves.news (learner_of c.self.inside.members x)).learner.learned ≡ log ++ more =
    first_both c.self.inside.learner.state.learner.floor log more (hear_all c.args.moves.news (learner_of c.self.inside.members x)).learner.learned begun in
    let moved : c.move_in_room.new.self.state ≡ after_moves c.args.moves.proposer (proposer_of c.self.inside.me c.self.inside.members x) =
    c.move_in_room.ensures
    ∙ ap (λ (s : proposing.State g.row.B.Denot). after_moves c.moves.inside.proposer.items s)
    (proposer_is c.self.inside.proposer.state c.self.inside.me c.self.inside.members c.self.invariant.0 c.self.invariant.1)
    ∙ ap (λ (m : Moved g.row.B.Denot). after_moves m.proposer (proposer_of c.self.inside.me c.self.inside.members x)) c.moves.view_is in
    let heard : c.hear_in_room.new.self.state ≡ hear_all c.args.moves.news (learner_of c.self.inside.members x) =
    c.hear_in_room.ensures
    ∙ ap (λ (s : learning.State g.row.B.Denot). hear_all c.moves.inside.news.items s) (learner_is c.self.inside.learner.state c.self.inside.members c.self.invariant.2)
    ∙ ap (λ (m : Moved g.row.B.Denot). hear_all m.news (learner_of c.self.inside.members x)) c.moves.view_is in
    let now : first_learned (c.self.inside.applied + length more) c.hear_in_room.new.self.state.learner.learned ≡ log ++ more =
    (λ i. first_learned (sym counted i + length more) (heard i).learner.learned) ∙ learned in
    let waits : c.wait.new.pending.items ≡ pending_with c.args.moves.added c.self.inside.pending.items =
    c.wait.ensures.pending ∙ ap (λ (m : Moved g.row.B.Denot). pending_with m.added c.self.inside.pending.items) c.moves.view_is in
    let pending : c.apply_all.new.pending.items ≡ pending_behind stands more (pending_with c.args.moves.added c.self.inside.pending.items) =
    c.apply_all.ensures.pending stands c.self.invariant.5 ∙ ap (λ (es : List (Entry g.row.B.Denot)). pending_behind stands more es) waits in
    let taken : c.wait.new.taken ≡ counted_with c.args.moves.added c.self.inside.taken =
    c.wait.ensures.taken ∙ ap (λ (m : Moved g.row.B.Denot). counted_with m.added c.self.inside.taken) c.moves.view_is in
    (λ i. record {
      rows = c.self.inside.acceptor.rows;
      up = c.self.inside.is_up;
      proposer = (moved i).proposer;
      learner = (heard i).learner;
      applied = now i;
      pending = pending i;
      taken = taken i;
    })
    ∙ ap (λ (h : Held g.row.B.Denot). moved_on h.me h.members c.args.moves more h.state) c.self.view_is
