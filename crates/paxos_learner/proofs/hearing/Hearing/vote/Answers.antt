use Rattle.std.proofs.Common.{◌≡◌, ℕ, Bool, true, false, Option, List, [], ◌∷◌, ◌++◌, ◌∙◌, ap, sym, subst, refl, rules}
use Rattle.paxos_packets.specs.Members.{is_majority, is_in, set_with}
use Rattle.paxos_packets.specs.declared.entry.Entry.{Entry}
use Rattle.paxos_packets.specs.declared.vote.Vote.{Vote}
use Rattle.paxos_learner.specs.declared.hearing.News.{News}
use Rattle.paxos_learner.specs.declared.hearing.News.TheVariants.{Cast}
use Rattle.paxos_learner.specs.Tallies.{Heard, place_of, nodes_heard, insert_entry, same_place}
use Rattle.paxos_learner.specs.Learned.{is_closed}
use Rattle.paxos_learner.specs.Learner.{State, is_other, vote_disagrees}
use Rattle.paxos_learner.specs.Hearing.{Draft, IsOver, hear_all, after}
use Rattle.paxos_learner.proofs.Counting.{few_agree, most_agree, closed_votes_agree}
use Rattle.paxos_learner.proofs.Drafting.{drafted, drafted_more, over_kept, on_err}
use Rattle.paxos_learner.proofs.Overlay.{members_stay, over_same, over_cast, over_few, over_most, over_closed}
use Rattle.paxos_learner.proofs.hearing.Hearing.vote.Goals as goal

pub invariant_of-self-then-is_closed : goal.invariant_of-self-then-is_closed
invariant_of-self-then-is_closed g c =
    let v : Vote g.row.B.Denot = c.args.vote.now in
    let s : State g.row.B.Denot = c.self.inside.learner.now.state in
    let now : State g.row.B.Denot = hear_all c.self.inside.news.items s in
    let f : c.is_closed.result ≡ true = search rules in
    let o : is_closed now.learner.floor v.slot ≡ true =
    ap (λ (k : ℕ). is_closed k v.slot) c.self.invariant.floor ∙ sym c.is_closed.ensures ∙ f in
    let items : c.push_reserved.new.self.items ≡ c.self.inside.news.items ++ Cast c.args.node v ∷ [] =
    c.push_reserved.ensures.items
    ∙ ap (λ (ns : List (News g.row.B.Denot)). ns ++ Cast c.args.node c.in-Ok.copy ∷ []) c.reserve.ensures.items
    ∙ ap (λ (w : Vote g.row.B.Denot). c.self.inside.news.items ++ Cast c.args.node w ∷ []) c.in-Ok.ensures in
    subst (λ (ns : List (News g.row.B.Denot)). IsOver c.self.inside.changed.heard c.self.inside.gained.learned s.learner (hear_all ns s).learner)
    (sym items)
    (over_cast c.args.node v c.self.inside.news.items s c.self.inside.changed.heard c.self.inside.gained.learned
    (over_closed c.self.inside.changed.heard c.self.inside.gained.learned s.learner now.learner now.members c.args.node v c.self.invariant o))

pub returns-then-is_closed-clause-ok : goal.returns-then-is_closed-clause-ok
returns-then-is_closed-clause-ok g c =
    let items : c.push_reserved.new.self.items ≡ c.self.inside.news.items ++ Cast c.args.node c.args.vote.now ∷ [] =
    c.push_reserved.ensures.items
    ∙ ap (λ (ns : List (News g.row.B.Denot)). ns ++ Cast c.args.node c.in-Ok.copy ∷ []) c.reserve.ensures.items
    ∙ ap (λ (w : Vote g.row.B.Denot). c.self.inside.news.items ++ Cast c.args.node w ∷ []) c.in-Ok.ensures in
    drafted_more c.self.inside.learner.now.state c.push_reserved.new.self.items c.self.inside.news.items (Cast c.args.node c.args.vote.now)
    c.args.self.now items c.self.view_is

pub returns-then-is_closed-clause-other : goal.returns-then-is_closed-clause-other
returns-then-is_closed-clause-other g c =
    let v : Vote g.row.B.Denot = c.args.vote.now in
    let s : State g.row.B.Denot = c.self.inside.learner.now.state in
    let now : State g.row.B.Denot = hear_all c.self.inside.news.items s in
    let f : c.is_closed.result ≡ true = search rules in
    let o : is_closed now.learner.floor v.slot ≡ true =
    ap (λ (k : ℕ). is_closed k v.slot) c.self.invariant.floor ∙ sym c.is_closed.ensures ∙ f in
    let no : vote_disagrees g.B.Body.same now.members c.args.node v now.learner ≡ false =
    closed_votes_agree g.B.Body.same now.members c.args.node v now.learner o in
    sym no ∙ ap (λ (d : Draft g.row.B.Denot). vote_disagrees g.B.Body.same (after d).members c.args.node v (after d).learner) c.self.view_is

pub invariant_of-self-then-not-has_majority : goal.invariant_of-self-then-not-has_majority
invariant_of-self-then-not-has_majority g c =
    let v : Vote g.row.B.Denot = c.args.vote.now in
    let s : State g.row.B.Denot = c.self.inside.learner.now.state in
    let now : State g.row.B.Denot = hear_all c.self.inside.news.items s in
    let n : c.is_closed.result ≡ false = search rules in
    let o : is_closed now.learner.floor v.slot ≡ false =
    ap (λ (f : ℕ). is_closed f v.slot) c.self.invariant.floor ∙ sym c.is_closed.ensures ∙ n in
    let f : c.has_majority.result ≡ false = search rules in
    let nodes : c.with-nodes.result ≡ set_with (nodes_heard (place_of v) now.learner.heard) c.args.node =
    c.with-nodes.ensures ∙ ap (λ (h : List Bool). set_with h c.args.node) (c.nodes_over.ensures ∙ sym (c.self.invariant.heard (place_of v))) in
    let few : is_majority now.members (is_in c.with-nodes.result) ≡ false =
    ap (λ (m : ℕ). is_majority m (is_in c.with-nodes.result)) (members_stay c.self.inside.news.items s) ∙ sym c.has_majority.ensures ∙ f in
    let changed : c.put_in_room.new.self.heard ≡ insert_entry same_place c.self.inside.changed.heard (place_of v) c.with-nodes.result =
    c.put_in_room.ensures ∙ ap (λ (h : Heard). insert_entry same_place h (place_of v) c.with-nodes.result) c.make_room.ensures.heard in
    let items : c.push_reserved-then-not-has_majority.new.self.items ≡ c.self.inside.news.items ++ Cast c.args.node v ∷ [] =
    c.push_reserved-then-not-has_majority.ensures.items
    ∙ ap (λ (ns : List (News g.row.B.Denot)). ns ++ Cast c.args.node c.in-Ok.copy ∷ []) c.reserve.ensures.items
    ∙ ap (λ (w : Vote g.row.B.Denot). c.self.inside.news.items ++ Cast c.args.node w ∷ []) c.in-Ok.ensures in
    subst (λ (ns : List (News g.row.B.Denot)). IsOver c.put_in_room.new.self.heard c.self.inside.gained.learned s.learner (hear_all ns s).learner)
    (sym items)
    (over_same _ c.put_in_room.new.self.heard c.self.inside.gained.learned c.self.inside.gained.learned _ _ changed refl
    (over_cast c.args.node v c.self.inside.news.items s _ c.self.inside.gained.learned
    (over_few now.members c.args.node v c.self.inside.changed.heard c.self.inside.gained.learned s.learner now.learner c.with-nodes.result
    c.self.invariant o nodes few)))

pub returns-then-not-has_majority-clause-other : goal.returns-then-not-has_majority-clause-other
returns-then-not-has_majority-clause-other g c =
    let v : Vote g.row.B.Denot = c.args.vote.now in
    let s : State g.row.B.Denot = c.self.inside.learner.now.state in
    let now : State g.row.B.Denot = hear_all c.self.inside.news.items s in
    let f : c.has_majority.result ≡ false = search rules in
    let nodes : c.with-nodes.result ≡ set_with (nodes_heard (place_of v) now.learner.heard) c.args.node =
    c.with-nodes.ensures ∙ ap (λ (h : List Bool). set_with h c.args.node) (c.nodes_over.ensures ∙ sym (c.self.invariant.heard (place_of v))) in
    let few : is_majority now.members (is_in (set_with (nodes_heard (place_of v) now.learner.heard) c.args.node)) ≡ false =
    ap (λ (h : List Bool). is_majority now.members (is_in h)) (sym nodes)
    ∙ ap (λ (m : ℕ). is_majority m (is_in c.with-nodes.result)) (members_stay c.self.inside.news.items s) ∙ sym c.has_majority.ensures ∙ f in
    let no : vote_disagrees g.B.Body.same now.members c.args.node v now.learner ≡ false =
    few_agree g.B.Body.same now.members c.args.node v now.learner few in
    sym no ∙ ap (λ (d : Draft g.row.B.Denot). vote_disagrees g.B.Body.same (after d).members c.args.node v (after d).learner) c.self.view_is

pub invariant_of-self-2 : goal.invariant_of-self-2
invariant_of-self-2 g c =
    let v : Vote g.row.B.Denot = c.args.vote.now in
    let s : State g.row.B.Denot = c.self.inside.learner.now.state in
    let now : State g.row.B.Denot = hear_all c.self.inside.news.items s in
    let n : c.is_closed.result ≡ false = search rules in
    let o : is_closed now.learner.floor v.slot ≡ false =
    ap (λ (f : ℕ). is_closed f v.slot) c.self.invariant.floor ∙ sym c.is_closed.ensures ∙ n in
    let f : c.has_majority.result ≡ true = search rules in
    let nodes : c.with-nodes.result ≡ set_with (nodes_heard (place_of v) now.learner.heard) c.args.node =
    c.with-nodes.ensures ∙ ap (λ (h : List Bool). set_with h c.args.node) (c.nodes_over.ensures ∙ sym (c.self.invariant.heard (place_of v))) in
    let most : is_majority now.members (is_in c.with-nodes.result) ≡ true =
    ap (λ (m : ℕ). is_majority m (is_in c.with-nodes.result)) (members_stay c.self.inside.news.items s) ∙ sym c.has_majority.ensures ∙ f in
    let changed : c.put_in_room-2.new.self.heard ≡ insert_entry same_place c.self.inside.changed.heard (place_of v) c.with-nodes.result =
    c.put_in_room-2.ensures ∙ ap (λ (h : Heard). insert_entry same_place h (place_of v) c.with-nodes.result) c.make_room.ensures.heard in
    let items : c.push_reserved-2.new.self.items ≡ c.self.inside.news.items ++ Cast c.args.node v ∷ [] =
    c.push_reserved-2.ensures.items
    ∙ ap (λ (ns : List (News g.row.B.Denot)). ns ++ Cast c.args.node c.in-Ok.copy ∷ []) c.reserve.ensures.items
    ∙ ap (λ (w : Vote g.row.B.Denot). c.self.inside.news.items ++ Cast c.args.node w ∷ []) c.in-Ok.ensures in
    subst (λ (ns : List (News g.row.B.Denot)). IsOver c.put_in_room-2.new.self.heard c.gain.new.gained.learned s.learner (hear_all ns s).learner)
    (sym items)
    (over_same _ c.put_in_room-2.new.self.heard _ c.gain.new.gained.learned _ _ changed c.in_ok-other.ensures.ok
    (over_cast c.args.node v c.self.inside.news.items s _ _
    (over_most now.members c.args.node v c.self.inside.changed.heard c.self.inside.gained.learned s.learner now.learner c.with-nodes.result
    c.self.invariant o nodes most c.gain.ensures.most)))

pub returns-clause-other : goal.returns-clause-other
returns-clause-other g c =
    let v : Vote g.row.B.Denot = c.args.vote.now in
    let s : State g.row.B.Denot = c.self.inside.learner.now.state in
    let now : State g.row.B.Denot = hear_all c.self.inside.news.items s in
    let n : c.is_closed.result ≡ false = search rules in
    let o : is_closed now.learner.floor v.slot ≡ false =
    ap (λ (f : ℕ). is_closed f v.slot) c.self.invariant.floor ∙ sym c.is_closed.ensures ∙ n in
    let f : c.has_majority.result ≡ true = search rules in
    let nodes : c.with-nodes.result ≡ set_with (nodes_heard (place_of v) now.learner.heard) c.args.node =
    c.with-nodes.ensures ∙ ap (λ (h : List Bool). set_with h c.args.node) (c.nodes_over.ensures ∙ sym (c.self.invariant.heard (place_of v))) in
    let most : is_majority now.members (is_in (set_with (nodes_heard (place_of v) now.learner.heard) c.args.node)) ≡ true =
    ap (λ (h : List Bool). is_majority now.members (is_in h)) (sym nodes)
    ∙ ap (λ (m : ℕ). is_majority m (is_in c.with-nodes.result)) (members_stay c.self.inside.news.items s) ∙ sym c.has_majority.ensures ∙ f in
    c.in_ok-other.ensures.other
    ∙ ap (λ (o : Option (Entry g.row.B.Denot)). is_other g.B.Body.same v.entry o) (sym (c.self.invariant.learned v.slot))
    ∙ most_agree g.B.Body.same now.members c.args.node v now.learner o most
    ∙ ap (λ (d : Draft g.row.B.Denot). vote_disagrees g.B.Body.same (after d).members c.args.node v (after d).learner) c.self.view_is

pub invariant_of-self : goal.invariant_of-self
invariant_of-self g c =
    over_kept c.self.inside.changed.heard c.self.inside.changed.heard c.self.inside.gained.learned c.self.inside.gained.learned
    c.self.inside.learner.now.state c.reserve.new.self.items c.self.inside.news.items refl refl c.reserve.ensures.items c.self.invariant

pub returns-then-is_err-clause-err : goal.returns-then-is_err-clause-err
returns-then-is_err-clause-err g c =
    drafted c.self.inside.learner.now.state c.reserve.new.self.items c.self.inside.news.items c.args.self.now c.reserve.ensures.items
    c.self.view_is

pub invariant_of-self-in_err-make_room : goal.invariant_of-self-in_err-make_room
invariant_of-self-in_err-make_room g c =
    over_kept c.self.inside.changed.heard c.make_room.new.self.heard c.self.inside.gained.learned c.self.inside.gained.learned
    c.self.inside.learner.now.state c.reserve.new.self.items c.self.inside.news.items c.make_room.ensures.heard refl
    c.reserve.ensures.items c.self.invariant

pub returns-in_err-make_room-clause-err : goal.returns-in_err-make_room-clause-err
returns-in_err-make_room-clause-err g c =
    on_err c.from_residual.result _
    (drafted c.self.inside.learner.now.state c.reserve.new.self.items c.self.inside.news.items c.args.self.now c.reserve.ensures.items
    c.self.view_is)

pub invariant_of-self-in_err-other : goal.invariant_of-self-in_err-other
invariant_of-self-in_err-other g c =
    over_kept c.self.inside.changed.heard c.make_room.new.self.heard c.self.inside.gained.learned c.gain.new.gained.learned
    c.self.inside.learner.now.state c.reserve.new.self.items c.self.inside.news.items c.make_room.ensures.heard c.in_err-other.ensures.err
    c.reserve.ensures.items c.self.invariant

pub returns-in_err-other-clause-err : goal.returns-in_err-other-clause-err
returns-in_err-other-clause-err g c =
    on_err c.from_residual-in_err-other.result _
    (drafted c.self.inside.learner.now.state c.reserve.new.self.items c.self.inside.news.items c.args.self.now c.reserve.ensures.items
    c.self.view_is)

pub returns-then-not-has_majority-clause-ok : goal.returns-then-not-has_majority-clause-ok
returns-then-not-has_majority-clause-ok g c =
    let items : c.push_reserved-then-not-has_majority.new.self.items ≡ c.self.inside.news.items ++ Cast c.args.node c.args.vote.now ∷ [] =
    c.push_reserved-then-not-has_majority.ensures.items
    ∙ ap (λ (ns : List (News g.row.B.Denot)). ns ++ Cast c.args.node c.in-Ok.copy ∷ []) c.reserve.ensures.items
    ∙ ap (λ (w : Vote g.row.B.Denot). c.self.inside.news.items ++ Cast c.args.node w ∷ []) c.in-Ok.ensures in
    drafted_more c.self.inside.learner.now.state c.push_reserved-then-not-has_majority.new.self.items c.self.inside.news.items
    (Cast c.args.node c.args.vote.now) c.args.self.now items c.self.view_is

pub returns-clause-ok : goal.returns-clause-ok
returns-clause-ok g c =
    let items : c.push_reserved-2.new.self.items ≡ c.self.inside.news.items ++ Cast c.args.node c.args.vote.now ∷ [] =
    c.push_reserved-2.ensures.items
    ∙ ap (λ (ns : List (News g.row.B.Denot)). ns ++ Cast c.args.node c.in-Ok.copy ∷ []) c.reserve.ensures.items
    ∙ ap (λ (w : Vote g.row.B.Denot). c.self.inside.news.items ++ Cast c.args.node w ∷ []) c.in-Ok.ensures in
    drafted_more c.self.inside.learner.now.state c.push_reserved-2.new.self.items c.self.inside.news.items (Cast c.args.node c.args.vote.now)
    c.args.self.now items c.self.view_is
