use Rattle.std.proofs.Common.{◌≡◌, ◌+◌, ◌≤◌, true, is_some, List, subst, [], ◌∷◌, ◌++◌, ◌∙◌, ap, sym, arith}
use Rattle.std.specs.Prelude.{vec_len, vec_capacity}
use Rattle.std.proofs.lemmas.Bool.{false≢true}
use Rattle.paxos_packets.specs.declared.entry.Entry.{Entry}
use Rattle.paxos_packets.specs.declared.vote.Vote.{Vote}
use Rattle.paxos_proposer.specs.declared.phase.Phase.{Phase}
use Rattle.paxos_proposer.specs.declared.phase.Phase.TheVariants as Kept
use Rattle.paxos_proposer.specs.declared.proposing.Offer.{Offer}
use Rattle.paxos_proposer.specs.declared.moves.Move.{Move}
use Rattle.paxos_proposer.specs.declared.moves.Move.TheVariants.{Submitted}
use Rattle.paxos_proposer.specs.Moves.{after_moves, ArePossible}
use Rattle.paxos_proposer.specs.Proposer.{next_vote, slot_end}
use Rattle.paxos_proposer.specs.Proposing.{Draft, role_then, IsTold, after, offer_of}
use Rattle.paxos_proposer.specs.State.{State, after_submit}
use Rattle.paxos_proposer.proofs.Drafting as d
use Rattle.paxos_proposer.proofs.proposing.Proposing.submit.Goals as goal

pub invariant_of-self-2 : goal.invariant_of-self-2
invariant_of-self-2 g c =
    let s : State g.row.B.Denot = c.self.inside.proposer.now.state in
    let now : State g.row.B.Denot = after_moves c.self.inside.moves.items s in
    let copy : c.in-Ok-Ok.copy ≡ c.args.entry.now = c.in-Ok-Ok.ensures' in
    let items : c.push_reserved.new.self.items ≡ c.self.inside.moves.items ++ Submitted c.args.entry.now ∷ [] =
    c.push_reserved.ensures.items ∙ ap (λ (ms : List (Move g.row.B.Denot)). ms ++ Submitted c.in-Ok-Ok.copy ∷ []) c.reserve.ensures.items
    ∙ ap (λ (e : Entry g.row.B.Denot). c.self.inside.moves.items ++ Submitted e ∷ []) copy in
    let kept : c.in-Ok-Ok.kept ≡ c.args.entry.now = c.in-Ok-Ok.ensures in
    let slot : c.in-Some.slot ≡ c.in-Leading.next = c.in-Some.ensures.value in
    let votes : c.push_reserved-2.new.self.votes ≡ c.self.inside.proposed.votes ++ next_vote c.in-Leading.ballot c.in-Leading.next c.args.entry.now ∷ [] =
    c.push_reserved-2.ensures.votes
    ∙ ap (λ (vs : List (Vote g.row.B.Denot)). vs ++ record { slot = c.in-Some.slot; ballot = c.in-Leading.ballot; entry = c.in-Ok-Ok.kept } ∷ []) c.make_room.ensures.votes
    ∙ (λ i. c.self.inside.proposed.votes ++ record { slot = slot i; ballot = c.in-Leading.ballot; entry = kept i } ∷ []) in
    let phase : c.self.inside.phase ≡ Kept.Leading c.in-Leading.ballot c.in-Leading.next = c.in-Leading.is in
    let told : IsTold c.self.inside.seen (Kept.Leading c.in-Leading.ballot c.in-Leading.next) c.self.inside.goes_on c.self.inside.proposed.votes s now =
    subst (λ (p : Phase). IsTold c.self.inside.seen p c.self.inside.goes_on c.self.inside.proposed.votes s now) phase c.self.invariant.0 in
    let offers : is_some {T = Offer} (offer_of now.proposer.role) ≡ true =
    ap (λ (a : Draft g.row.B.Denot). is_some {T = Offer} (offer_of (role_then a))) c.self.view_is ∙ c.requires in
    d.told_more _ _ _ _ c.self.inside.moves.items _ (Submitted c.args.entry.now) s items c.self.invariant.1 (d.may_submit now.proposer.role offers)
    (d.told_submit c.self.inside.seen c.in-Leading.ballot c.in-Leading.next _ _ _ s now c.args.entry.now told votes)

pub returns-clause-ok : goal.returns-clause-ok
returns-clause-ok g c =
    let copy : c.in-Ok-Ok.copy ≡ c.args.entry.now = c.in-Ok-Ok.ensures' in
    let items : c.push_reserved.new.self.items ≡ c.self.inside.moves.items ++ Submitted c.args.entry.now ∷ [] =
    c.push_reserved.ensures.items ∙ ap (λ (ms : List (Move g.row.B.Denot)). ms ++ Submitted c.in-Ok-Ok.copy ∷ []) c.reserve.ensures.items
    ∙ ap (λ (e : Entry g.row.B.Denot). c.self.inside.moves.items ++ Submitted e ∷ []) copy in
    d.and_one c.self.inside.proposer.now.state c.self.inside.moves.items _ (Submitted c.args.entry.now) _ items c.self.view_is

pub returns-clause-after : goal.returns-clause-after
returns-clause-after g c =
    let s : State g.row.B.Denot = c.self.inside.proposer.now.state in
    let now : State g.row.B.Denot = after_moves c.self.inside.moves.items s in
    let copy : c.in-Ok-Ok.copy ≡ c.args.entry.now = c.in-Ok-Ok.ensures' in
    let items : c.push_reserved.new.self.items ≡ c.self.inside.moves.items ++ Submitted c.args.entry.now ∷ [] =
    c.push_reserved.ensures.items ∙ ap (λ (ms : List (Move g.row.B.Denot)). ms ++ Submitted c.in-Ok-Ok.copy ∷ []) c.reserve.ensures.items
    ∙ ap (λ (e : Entry g.row.B.Denot). c.self.inside.moves.items ++ Submitted e ∷ []) copy in
    d.after_more c.self.inside.moves.items _ (Submitted c.args.entry.now) s items
    ∙ ap (λ (a : Draft g.row.B.Denot). after_submit c.args.entry.now (after a)) c.self.view_is

pub unreachable-requires : goal.unreachable-requires
unreachable-requires g c =
    let s : State g.row.B.Denot = c.self.inside.proposer.now.state in
    let now : State g.row.B.Denot = after_moves c.self.inside.moves.items s in
    let offers : is_some {T = Offer} (offer_of now.proposer.role) ≡ true =
    ap (λ (a : Draft g.row.B.Denot). is_some {T = Offer} (offer_of (role_then a))) c.self.view_is ∙ c.requires in
    d.offering_leads c.self.inside.phase (d.offering c.self.inside.seen c.self.inside.phase _ _ s now c.self.invariant.0 offers) c.in_default.not-Leading

pub unreachable-requires-in_default-new : goal.unreachable-requires-in_default-new
unfolding slot_end
unreachable-requires-in_default-new g c =
    let s : State g.row.B.Denot = c.self.inside.proposer.now.state in
    let now : State g.row.B.Denot = after_moves c.self.inside.moves.items s in
    let offers : is_some {T = Offer} (offer_of now.proposer.role) ≡ true =
    ap (λ (a : Draft g.row.B.Denot). is_some {T = Offer} (offer_of (role_then a))) c.self.view_is ∙ c.requires in
    let left : d.IsOffering (Kept.Leading c.in-Leading.ballot c.in-Leading.next) =
    subst (λ (p : Phase). d.IsOffering p) c.in-Leading.is (d.offering c.self.inside.seen c.self.inside.phase _ _ s now c.self.invariant.0 offers) in
    absurd (false≢true (c.in_default-new.ensures.valid.1 left))

pub invariant_of-self : goal.invariant_of-self
invariant_of-self g c =
    d.told_still c.self.inside.seen c.self.inside.phase c.self.inside.goes_on c.self.inside.proposed.votes c.self.inside.moves.items _
    c.self.inside.proposer.now.state c.reserve.ensures.items c.self.invariant

pub invariant_of-self-then-is_err-2 : goal.invariant_of-self-then-is_err-2
invariant_of-self-then-is_err-2 g c =
    let s : State g.row.B.Denot = c.self.inside.proposer.now.state in
    let ms : List (Move g.row.B.Denot) = c.reserve.new.self.items in
    subst
    (λ (vs : List (Vote g.row.B.Denot)). IsTold c.self.inside.seen c.self.inside.phase c.self.inside.goes_on vs s (after_moves ms s) × ArePossible ms s)
    (sym c.make_room.ensures.votes)
    (d.told_still c.self.inside.seen c.self.inside.phase c.self.inside.goes_on c.self.inside.proposed.votes c.self.inside.moves.items ms s
    c.reserve.ensures.items c.self.invariant)

pub push_reserved-requires : goal.push_reserved-requires
push_reserved-requires g c =
    let room : vec_len c.reserve.new.self + 1 ≤ vec_capacity c.reserve.new.self = d.where_ok c.reserve.result c.if-is_err.ensures.value c.reserve.ensures.ok in
    omega arith

pub push_reserved-requires-2 : goal.push_reserved-requires-2
push_reserved-requires-2 g c = d.where_ok c.make_room.result c.if-is_err-2.ensures.value c.make_room.ensures.ok
