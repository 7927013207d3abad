use Rattle.std.proofs.Common.{◌≡◌, ℕ, ◌+◌, ◌≤◌, false, None, Some, List, subst, [], ◌∷◌, ◌++◌, ◌∙◌, ap, sym, arith}
use Rattle.std.specs.Prelude.{vec_len, vec_capacity}
use Rattle.paxos_proposer.specs.declared.phase.Phase.{Phase}
use Rattle.paxos_proposer.specs.declared.moves.Move.{Move}
use Rattle.paxos_proposer.specs.declared.moves.Move.TheVariants.{Promised}
use Rattle.paxos_proposer.specs.Moves.{after_moves}
use Rattle.paxos_proposer.specs.Promises.{called_by}
use Rattle.paxos_proposer.specs.Proposing.{Draft, IsTold, role_then, after, led, led_from}
use Rattle.paxos_proposer.specs.Role.{Role}
use Rattle.paxos_proposer.specs.State.{State, after_promise}
use Rattle.paxos_proposer.proofs.Drafting as d
use Rattle.paxos_proposer.proofs.proposing.Proposing.on_promise.Goals as goal

pub invariant_of-self-in_default : goal.invariant_of-self-in_default
invariant_of-self-in_default g c =
    let s : State g.row.B.Denot = c.self.inside.proposer.now.state in
    let now : State g.row.B.Denot = after_moves c.self.inside.moves.items s in
    let items : c.push_reserved.new.self.items ≡ c.self.inside.moves.items ++ Promised c.args.node c.args.ballot c.args.floor c.args.votes c.args.own ∷ [] =
    c.push_reserved.ensures.items ∙ ap (λ (ms : List (Move g.row.B.Denot)). ms ++ Promised c.args.node c.args.ballot c.args.floor c.args.votes c.args.own ∷ []) c.reserve.ensures.items in
    let same : now.proposer.role ≡ s.proposer.role =
    ap (λ (a : Draft g.row.B.Denot). role_then a) c.self.view_is ∙ c.requires ∙ ap (λ (a : Draft g.row.B.Denot). a.before.proposer.role) (sym c.self.view_is) in
    let called : called_by now.members c.args.node c.args.ballot c.args.floor c.args.votes c.args.own now.proposer.role ≡ c.in_ok-called.called =
    ap (λ (m : ℕ). called_by m c.args.node c.args.ballot c.args.floor c.args.votes c.args.own now.proposer.role) c.self.invariant.0.members_is
    ∙ ap (λ (r : Role g.row.B.Denot). called_by s.members c.args.node c.args.ballot c.args.floor c.args.votes c.args.own r) same ∙ sym c.in_ok-called.ensures.called in
    d.told_more _ _ _ _ c.self.inside.moves.items _ (Promised c.args.node c.args.ballot c.args.floor c.args.votes c.args.own) s items c.self.invariant.1 tt
    (d.told_count c.self.inside.seen c.args.node c.args.ballot c.args.floor c.args.votes c.args.own _ _ _ s now c.self.invariant.0 (called ∙ c.in_default.is))

pub returns-in_default-clause-ok : goal.returns-in_default-clause-ok
returns-in_default-clause-ok g c =
    let items : c.push_reserved.new.self.items ≡ c.self.inside.moves.items ++ Promised c.args.node c.args.ballot c.args.floor c.args.votes c.args.own ∷ [] =
    c.push_reserved.ensures.items ∙ ap (λ (ms : List (Move g.row.B.Denot)). ms ++ Promised c.args.node c.args.ballot c.args.floor c.args.votes c.args.own ∷ []) c.reserve.ensures.items in
    d.and_one c.self.inside.proposer.now.state c.self.inside.moves.items _ (Promised c.args.node c.args.ballot c.args.floor c.args.votes c.args.own) _ items c.self.view_is

pub returns-in_default-clause-after : goal.returns-in_default-clause-after
returns-in_default-clause-after g c =
    let s : State g.row.B.Denot = c.self.inside.proposer.now.state in
    let now : State g.row.B.Denot = after_moves c.self.inside.moves.items s in
    let items : c.push_reserved.new.self.items ≡ c.self.inside.moves.items ++ Promised c.args.node c.args.ballot c.args.floor c.args.votes c.args.own ∷ [] =
    c.push_reserved.ensures.items ∙ ap (λ (ms : List (Move g.row.B.Denot)). ms ++ Promised c.args.node c.args.ballot c.args.floor c.args.votes c.args.own ∷ []) c.reserve.ensures.items in
    d.after_more c.self.inside.moves.items _ (Promised c.args.node c.args.ballot c.args.floor c.args.votes c.args.own) s items
    ∙ ap (λ (a : Draft g.row.B.Denot). after_promise c.args.node c.args.ballot c.args.floor c.args.votes c.args.own (after a)) c.self.view_is

pub invariant_of-self-2 : goal.invariant_of-self-2
invariant_of-self-2 g c =
    let s : State g.row.B.Denot = c.self.inside.proposer.now.state in
    let now : State g.row.B.Denot = after_moves c.self.inside.moves.items s in
    let items : c.push_reserved.new.self.items ≡ c.self.inside.moves.items ++ Promised c.args.node c.args.ballot c.args.floor c.args.votes c.args.own ∷ [] =
    c.push_reserved.ensures.items ∙ ap (λ (ms : List (Move g.row.B.Denot)). ms ++ Promised c.args.node c.args.ballot c.args.floor c.args.votes c.args.own ∷ []) c.reserve.ensures.items in
    let same : now.proposer.role ≡ s.proposer.role =
    ap (λ (a : Draft g.row.B.Denot). role_then a) c.self.view_is ∙ c.requires ∙ ap (λ (a : Draft g.row.B.Denot). a.before.proposer.role) (sym c.self.view_is) in
    let called : called_by now.members c.args.node c.args.ballot c.args.floor c.args.votes c.args.own now.proposer.role ≡ c.in_ok-called.called =
    ap (λ (m : ℕ). called_by m c.args.node c.args.ballot c.args.floor c.args.votes c.args.own now.proposer.role) c.self.invariant.0.members_is
    ∙ ap (λ (r : Role g.row.B.Denot). called_by s.members c.args.node c.args.ballot c.args.floor c.args.votes c.args.own r) same ∙ sym c.in_ok-called.ensures.called in
    let some : c.in_ok-called.called ≡ Some c.in-Some.entries = c.in-Some.is in
    let slot : c.led_from-slot.result ≡ led_from c.args.node c.args.floor c.args.votes c.args.own now.proposer.role =
    c.led_from-slot.ensures.slot c.args.node c.args.votes
    ∙ ap (λ (r : Role g.row.B.Denot). led_from c.args.node c.args.floor c.args.votes c.args.own r) (sym same) in
    let is_led : c.led-self-inside.result ≡ led c.led_from-slot.result c.self.inside.phase = c.led-self-inside.ensures in
    let none : c.clear.new.self.votes ≡ [] = c.clear.ensures.votes in
    d.told_more _ _ _ _ c.self.inside.moves.items _ (Promised c.args.node c.args.ballot c.args.floor c.args.votes c.args.own) s items c.self.invariant.1 tt
    (subst (λ (p : Phase). IsTold c.self.inside.seen p false c.clear.new.self.votes s (after_promise c.args.node c.args.ballot c.args.floor c.args.votes c.args.own now)) (sym is_led)
    (d.told_lead c.self.inside.seen c.args.node c.args.ballot c.args.floor c.args.votes c.args.own c.self.inside.phase c.self.inside.goes_on c.self.inside.proposed.votes
    c.clear.new.self.votes s now c.in-Some.entries c.self.invariant.0 (called ∙ some) none c.led_from-slot.result slot
    c.led_from-slot.ensures.least))

pub returns-clause-ok : goal.returns-clause-ok
returns-clause-ok g c =
    let items : c.push_reserved.new.self.items ≡ c.self.inside.moves.items ++ Promised c.args.node c.args.ballot c.args.floor c.args.votes c.args.own ∷ [] =
    c.push_reserved.ensures.items ∙ ap (λ (ms : List (Move g.row.B.Denot)). ms ++ Promised c.args.node c.args.ballot c.args.floor c.args.votes c.args.own ∷ []) c.reserve.ensures.items in
    d.and_one c.self.inside.proposer.now.state c.self.inside.moves.items _ (Promised c.args.node c.args.ballot c.args.floor c.args.votes c.args.own) _ items c.self.view_is

pub returns-clause-after : goal.returns-clause-after
returns-clause-after g c =
    let s : State g.row.B.Denot = c.self.inside.proposer.now.state in
    let now : State g.row.B.Denot = after_moves c.self.inside.moves.items s in
    let items : c.push_reserved.new.self.items ≡ c.self.inside.moves.items ++ Promised c.args.node c.args.ballot c.args.floor c.args.votes c.args.own ∷ [] =
    c.push_reserved.ensures.items ∙ ap (λ (ms : List (Move g.row.B.Denot)). ms ++ Promised c.args.node c.args.ballot c.args.floor c.args.votes c.args.own ∷ []) c.reserve.ensures.items in
    d.after_more c.self.inside.moves.items _ (Promised c.args.node c.args.ballot c.args.floor c.args.votes c.args.own) s items
    ∙ ap (λ (a : Draft g.row.B.Denot). after_promise c.args.node c.args.ballot c.args.floor c.args.votes c.args.own (after a)) c.self.view_is

pub returns-then-is_err-clause-err : goal.returns-then-is_err-clause-err
returns-then-is_err-clause-err g c = d.as_it_was c.self.inside.proposer.now.state c.self.inside.moves.items _ _ c.reserve.ensures.items c.self.view_is

pub returns-in_default-clause-called : goal.returns-in_default-clause-called
returns-in_default-clause-called g c =
    d.called_still c.self.inside.proposer.now.state c.self.inside.moves.items c.args.self.now c.args.node c.args.ballot c.args.floor c.args.votes c.args.own c.in_ok-called.called
    None c.self.view_is c.requires c.self.invariant.0.members_is c.in_ok-called.ensures.called c.in_default.is

pub returns-clause-called : goal.returns-clause-called
returns-clause-called g c =
    d.called_still c.self.inside.proposer.now.state c.self.inside.moves.items c.args.self.now c.args.node c.args.ballot c.args.floor c.args.votes c.args.own c.in_ok-called.called
    (Some c.in-Some.entries) c.self.view_is c.requires c.self.invariant.0.members_is c.in_ok-called.ensures.called c.in-Some.is

pub invariant_of-self : goal.invariant_of-self
invariant_of-self g c =
    d.told_still c.self.inside.seen c.self.inside.phase c.self.inside.goes_on c.self.inside.proposed.votes c.self.inside.moves.items _
    c.self.inside.proposer.now.state c.reserve.ensures.items c.self.invariant

pub push_reserved-requires : goal.push_reserved-requires
push_reserved-requires g c =
    let room : vec_len c.reserve.new.self + 1 ≤ vec_capacity c.reserve.new.self = d.where_ok c.reserve.result c.if-is_err.ensures.value c.reserve.ensures.ok in
    omega arith
