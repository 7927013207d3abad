use Rattle.std.proofs.Common.{◌≡◌, ◌+◌, ◌≤◌, true, List, [], ◌∷◌, ◌++◌, ◌∙◌, ap, sym, arith, rules}
use Rattle.std.specs.Prelude.{vec_len, vec_capacity}
use Rattle.paxos_proposer.specs.declared.moves.Move.{Move}
use Rattle.paxos_proposer.specs.declared.moves.Move.TheVariants.{Nacked}
use Rattle.paxos_proposer.specs.Moves.{after_moves}
use Rattle.paxos_proposer.specs.Proposer.{is_refused}
use Rattle.paxos_proposer.specs.Proposing.{Draft, after}
use Rattle.paxos_proposer.specs.State.{State, after_nack}
use Rattle.paxos_proposer.proofs.Drafting as d
use Rattle.paxos_proposer.proofs.proposing.Proposing.on_nack.Goals as goal

pub invariant_of-self-2 : goal.invariant_of-self-2
invariant_of-self-2 g c =
    let s : State g.row.B.Denot = c.self.inside.proposer.now.state in
    let now : State g.row.B.Denot = after_moves c.self.inside.moves.items s in
    let items : c.push_reserved.new.self.items ≡ c.self.inside.moves.items ++ Nacked c.args.ballot c.args.promised ∷ [] =
    c.push_reserved.ensures.items ∙ ap (λ (ms : List (Move g.row.B.Denot)). ms ++ Nacked c.args.ballot c.args.promised ∷ []) c.reserve.ensures.items in
    let f : c.is_refused.result ≡ true = search rules in
    let over : is_refused c.args.ballot c.args.promised now.proposer.role ≡ true =
    ap (λ (a : Draft g.row.B.Denot). is_refused c.args.ballot c.args.promised (after a).proposer.role) c.self.view_is ∙ sym c.is_refused.ensures ∙ f in
    d.told_more _ _ _ _ c.self.inside.moves.items _ (Nacked c.args.ballot c.args.promised) s items c.self.invariant.1 tt
    (d.told_rest c.self.inside.seen _ _ _ _ s now _ c.self.invariant.0 (d.is_over c.args.ballot c.args.promised now.proposer.role over))

pub returns-clause-after : goal.returns-clause-after
returns-clause-after g c =
    let s : State g.row.B.Denot = c.self.inside.proposer.now.state in
    let now : State g.row.B.Denot = after_moves c.self.inside.moves.items s in
    let items : c.push_reserved.new.self.items ≡ c.self.inside.moves.items ++ Nacked c.args.ballot c.args.promised ∷ [] =
    c.push_reserved.ensures.items ∙ ap (λ (ms : List (Move g.row.B.Denot)). ms ++ Nacked c.args.ballot c.args.promised ∷ []) c.reserve.ensures.items in
    d.after_more c.self.inside.moves.items _ (Nacked c.args.ballot c.args.promised) s items ∙ ap (λ (a : Draft g.row.B.Denot). after_nack c.args.ballot c.args.promised (after a)) c.self.view_is

pub invariant_of-self : goal.invariant_of-self
invariant_of-self g c =
    d.told_still c.self.inside.seen c.self.inside.phase c.self.inside.goes_on c.self.inside.proposed.votes c.self.inside.moves.items _
    c.self.inside.proposer.now.state c.reserve.ensures.items c.self.invariant

pub push_reserved-requires : goal.push_reserved-requires
push_reserved-requires g c =
    let room : vec_len c.reserve.new.self + 1 ≤ vec_capacity c.reserve.new.self = d.where_ok c.reserve.result c.if-is_err.ensures.value c.reserve.ensures.ok in
    omega arith

pub returns-then-is_err-clause-err : goal.returns-then-is_err-clause-err
returns-then-is_err-clause-err g c = d.as_it_was c.self.inside.proposer.now.state c.self.inside.moves.items _ _ c.reserve.ensures.items c.self.view_is
