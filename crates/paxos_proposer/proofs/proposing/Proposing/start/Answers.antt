use Rattle.std.proofs.Common.{◌≡◌, suc, ◌+◌, ◌<◌, ◌≤◌, false, List, [], ◌∷◌, ◌++◌, ◌∙◌, ap, arith}
use Rattle.std.specs.Prelude.{vec_len, vec_capacity}
use Rattle.paxos_proposer.specs.declared.moves.Move.{Move}
use Rattle.paxos_proposer.specs.declared.moves.Move.TheVariants.{Started}
use Rattle.paxos_proposer.specs.Moves.{after_moves}
use Rattle.paxos_proposer.specs.Proposer.{is_spent, round_end}
use Rattle.paxos_proposer.specs.Proposing.{Draft, after}
use Rattle.paxos_proposer.specs.State.{State, started}
use Rattle.paxos_proposer.proofs.Drafting as d
use Rattle.paxos_proposer.proofs.proposing.Proposing.start.Goals as goal

pub invariant_of-self-2 : goal.invariant_of-self-2
invariant_of-self-2 g c =
    let s : State g.row.B.Denot = c.self.inside.proposer.now.state in
    let now : State g.row.B.Denot = after_moves c.self.inside.moves.items s in
    let items : c.push_reserved.new.self.items ≡ c.self.inside.moves.items ++ Started c.args.first c.args.floor c.args.votes ∷ [] =
    c.push_reserved.ensures.items ∙ ap (λ (ms : List (Move g.row.B.Denot)). ms ++ Started c.args.first c.args.floor c.args.votes ∷ []) c.reserve.ensures.items in
    let spent : is_spent now.proposer ≡ false = ap (λ (a : Draft g.row.B.Denot). is_spent (after a).proposer) c.self.view_is ∙ c.requires.round in
    d.told_more _ _ _ _ c.self.inside.moves.items _ (Started c.args.first c.args.floor c.args.votes) s items c.self.invariant.1 (c.requires.first, spent)
    (d.told_start c.self.inside.seen c.me.result c.args.first c.args.floor _ _ _ c.clear.new.self.votes s now c.args.votes c.self.invariant.0 c.requires.first c.me.ensures)

pub returns-clause-ok : goal.returns-clause-ok
returns-clause-ok g c =
    let items : c.push_reserved.new.self.items ≡ c.self.inside.moves.items ++ Started c.args.first c.args.floor c.args.votes ∷ [] =
    c.push_reserved.ensures.items ∙ ap (λ (ms : List (Move g.row.B.Denot)). ms ++ Started c.args.first c.args.floor c.args.votes ∷ []) c.reserve.ensures.items in
    d.and_one c.self.inside.proposer.now.state c.self.inside.moves.items _ (Started c.args.first c.args.floor c.args.votes) _ items c.self.view_is

pub returns-clause-after : goal.returns-clause-after
returns-clause-after g c =
    let s : State g.row.B.Denot = c.self.inside.proposer.now.state in
    let now : State g.row.B.Denot = after_moves c.self.inside.moves.items s in
    let items : c.push_reserved.new.self.items ≡ c.self.inside.moves.items ++ Started c.args.first c.args.floor c.args.votes ∷ [] =
    c.push_reserved.ensures.items ∙ ap (λ (ms : List (Move g.row.B.Denot)). ms ++ Started c.args.first c.args.floor c.args.votes ∷ []) c.reserve.ensures.items in
    d.after_more c.self.inside.moves.items _ (Started c.args.first c.args.floor c.args.votes) s items ∙ ap (λ (a : Draft g.row.B.Denot). started c.args.first c.args.floor c.args.votes (after a)) c.self.view_is

pub returns-then-is_err-clause-err : goal.returns-then-is_err-clause-err
returns-then-is_err-clause-err g c = d.as_it_was c.self.inside.proposer.now.state c.self.inside.moves.items _ _ c.reserve.ensures.items c.self.view_is

pub invariant_of-self : goal.invariant_of-self
invariant_of-self g c =
    d.told_still c.self.inside.seen c.self.inside.phase c.self.inside.goes_on c.self.inside.proposed.votes c.self.inside.moves.items _
    c.self.inside.proposer.now.state c.reserve.ensures.items c.self.invariant

pub push_reserved-requires : goal.push_reserved-requires
push_reserved-requires g c =
    let room : vec_len c.reserve.new.self + 1 ≤ vec_capacity c.reserve.new.self = d.where_ok c.reserve.result c.if-is_err.ensures.value c.reserve.ensures.ok in
    omega arith

pub overflow_add-self : goal.overflow_add-self
unfolding round_end
overflow_add-self g c =
    let s : State g.row.B.Denot = c.self.inside.proposer.now.state in
    let now : State g.row.B.Denot = after_moves c.self.inside.moves.items s in
    let spent : is_spent now.proposer ≡ false = ap (λ (a : Draft g.row.B.Denot). is_spent (after a).proposer) c.self.view_is ∙ c.requires.round in
    let left : suc c.self.inside.seen < 281474976710656 =
    d.round_left c.self.inside.seen c.self.inside.phase c.self.inside.goes_on c.self.inside.proposed.votes s now c.self.invariant.0 spent in
    omega arith
