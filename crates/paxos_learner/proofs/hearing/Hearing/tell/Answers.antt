use Rattle.std.proofs.Common.{◌≡◌, ℕ, true, false, Option, List, [], ◌∷◌, ◌++◌, ◌∙◌, ap, sym, subst, refl, rules}
use Rattle.paxos_packets.specs.declared.entry.Entry.{Entry}
use Rattle.paxos_learner.specs.declared.hearing.News.{News}
use Rattle.paxos_learner.specs.declared.hearing.News.TheVariants.{Told}
use Rattle.paxos_learner.specs.Learned.{is_closed}
use Rattle.paxos_learner.specs.Learner.{State, is_other, disagrees}
use Rattle.paxos_learner.specs.Hearing.{Draft, IsOver, hear_all, after}
use Rattle.paxos_learner.proofs.Counting.{closed_agrees, open_disagrees}
use Rattle.paxos_learner.proofs.Drafting.{drafted, drafted_more, over_kept, on_err}
use Rattle.paxos_learner.proofs.Overlay.{over_same, over_tell, over_told, over_untold}
use Rattle.paxos_learner.proofs.hearing.Hearing.tell.Goals as goal

pub invariant_of-self-then-is_closed : goal.invariant_of-self-then-is_closed
invariant_of-self-then-is_closed g c =
    let now : State g.row.B.Denot = hear_all c.self.inside.news.items c.self.inside.learner.now.state in
    let f : c.is_closed.result ≡ true = search rules in
    let o : is_closed now.learner.floor c.args.slot ≡ true =
    ap (λ (k : ℕ). is_closed k c.args.slot) c.self.invariant.floor ∙ sym c.is_closed.ensures ∙ f in
    let items : c.push_reserved.new.self.items ≡ c.self.inside.news.items ++ Told c.args.slot c.args.entry.now ∷ [] =
    c.push_reserved.ensures.items
    ∙ ap (λ (ns : List (News g.row.B.Denot)). ns ++ Told c.args.slot c.in-Ok.copy ∷ []) c.reserve.ensures.items
    ∙ ap (λ (e : Entry g.row.B.Denot). c.self.inside.news.items ++ Told c.args.slot e ∷ []) c.in-Ok.ensures in
    subst (λ (ns : List (News g.row.B.Denot)). IsOver c.self.inside.changed.heard c.self.inside.gained.learned c.self.inside.learner.now.state.learner
    (hear_all ns c.self.inside.learner.now.state).learner) (sym items)
    (over_tell c.args.slot c.args.entry.now c.self.inside.news.items c.self.inside.learner.now.state c.self.inside.changed.heard
    c.self.inside.gained.learned
    (over_untold c.self.inside.changed.heard c.self.inside.gained.learned c.self.inside.learner.now.state.learner now.learner c.args.slot
    c.args.entry.now c.self.invariant o))

pub returns-then-is_closed-clause-ok : goal.returns-then-is_closed-clause-ok
returns-then-is_closed-clause-ok g c =
    let items : c.push_reserved.new.self.items ≡ c.self.inside.news.items ++ Told c.args.slot c.args.entry.now ∷ [] =
    c.push_reserved.ensures.items
    ∙ ap (λ (ns : List (News g.row.B.Denot)). ns ++ Told c.args.slot c.in-Ok.copy ∷ []) c.reserve.ensures.items
    ∙ ap (λ (e : Entry g.row.B.Denot). c.self.inside.news.items ++ Told c.args.slot e ∷ []) c.in-Ok.ensures in
    drafted_more c.self.inside.learner.now.state c.push_reserved.new.self.items c.self.inside.news.items (Told c.args.slot c.args.entry.now)
    c.args.self.now items c.self.view_is

pub returns-then-is_closed-clause-other : goal.returns-then-is_closed-clause-other
returns-then-is_closed-clause-other g c =
    let now : State g.row.B.Denot = hear_all c.self.inside.news.items c.self.inside.learner.now.state in
    let f : c.is_closed.result ≡ true = search rules in
    let o : is_closed now.learner.floor c.args.slot ≡ true =
    ap (λ (k : ℕ). is_closed k c.args.slot) c.self.invariant.floor ∙ sym c.is_closed.ensures ∙ f in
    sym (closed_agrees g.B.Body.same c.args.slot c.args.entry.now now.learner o)
    ∙ ap (λ (d : Draft g.row.B.Denot). disagrees g.B.Body.same c.args.slot c.args.entry.now (after d).learner) c.self.view_is

pub invariant_of-self-2 : goal.invariant_of-self-2
invariant_of-self-2 g c =
    let now : State g.row.B.Denot = hear_all c.self.inside.news.items c.self.inside.learner.now.state in
    let n : c.is_closed.result ≡ false = search rules in
    let o : is_closed now.learner.floor c.args.slot ≡ false =
    ap (λ (f : ℕ). is_closed f c.args.slot) c.self.invariant.floor ∙ sym c.is_closed.ensures ∙ n in
    let items : c.push_reserved-2.new.self.items ≡ c.self.inside.news.items ++ Told c.args.slot c.args.entry.now ∷ [] =
    c.push_reserved-2.ensures.items
    ∙ ap (λ (ns : List (News g.row.B.Denot)). ns ++ Told c.args.slot c.in-Ok.copy ∷ []) c.reserve.ensures.items
    ∙ ap (λ (e : Entry g.row.B.Denot). c.self.inside.news.items ++ Told c.args.slot e ∷ []) c.in-Ok.ensures in
    subst (λ (ns : List (News g.row.B.Denot)). IsOver c.self.inside.changed.heard c.gain.new.gained.learned c.self.inside.learner.now.state.learner
    (hear_all ns c.self.inside.learner.now.state).learner) (sym items)
    (over_same c.self.inside.changed.heard c.self.inside.changed.heard _ c.gain.new.gained.learned _ _ refl c.in_ok-other.ensures.ok
    (over_tell c.args.slot c.args.entry.now c.self.inside.news.items c.self.inside.learner.now.state c.self.inside.changed.heard _
    (over_told c.self.inside.changed.heard c.self.inside.gained.learned c.self.inside.learner.now.state.learner
    now.learner c.args.slot c.args.entry.now c.self.invariant o c.gain.ensures.most)))

pub invariant_of-self : goal.invariant_of-self
invariant_of-self g c =
    over_kept c.self.inside.changed.heard c.self.inside.changed.heard c.self.inside.gained.learned c.self.inside.gained.learned
    c.self.inside.learner.now.state c.reserve.new.self.items c.self.inside.news.items refl refl c.reserve.ensures.items c.self.invariant

pub returns-then-is_err-clause-err : goal.returns-then-is_err-clause-err
returns-then-is_err-clause-err g c =
    drafted c.self.inside.learner.now.state c.reserve.new.self.items c.self.inside.news.items c.args.self.now c.reserve.ensures.items
    c.self.view_is

pub invariant_of-self-in_err-other : goal.invariant_of-self-in_err-other
invariant_of-self-in_err-other g c =
    over_kept c.self.inside.changed.heard c.self.inside.changed.heard c.self.inside.gained.learned c.gain.new.gained.learned
    c.self.inside.learner.now.state c.reserve.new.self.items c.self.inside.news.items refl c.in_err-other.ensures.err
    c.reserve.ensures.items c.self.invariant

pub returns-in_err-other-clause-err : goal.returns-in_err-other-clause-err
returns-in_err-other-clause-err g c =
    on_err c.from_residual.result _
    (drafted c.self.inside.learner.now.state c.reserve.new.self.items c.self.inside.news.items c.args.self.now c.reserve.ensures.items
    c.self.view_is)

pub returns-clause-ok : goal.returns-clause-ok
returns-clause-ok g c =
    let items : c.push_reserved-2.new.self.items ≡ c.self.inside.news.items ++ Told c.args.slot c.args.entry.now ∷ [] =
    c.push_reserved-2.ensures.items
    ∙ ap (λ (ns : List (News g.row.B.Denot)). ns ++ Told c.args.slot c.in-Ok.copy ∷ []) c.reserve.ensures.items
    ∙ ap (λ (e : Entry g.row.B.Denot). c.self.inside.news.items ++ Told c.args.slot e ∷ []) c.in-Ok.ensures in
    drafted_more c.self.inside.learner.now.state c.push_reserved-2.new.self.items c.self.inside.news.items (Told c.args.slot c.args.entry.now)
    c.args.self.now items c.self.view_is

pub returns-clause-other : goal.returns-clause-other
returns-clause-other g c =
    let now : State g.row.B.Denot = hear_all c.self.inside.news.items c.self.inside.learner.now.state in
    let n : c.is_closed.result ≡ false = search rules in
    let o : is_closed now.learner.floor c.args.slot ≡ false =
    ap (λ (f : ℕ). is_closed f c.args.slot) c.self.invariant.floor ∙ sym c.is_closed.ensures ∙ n in
    c.in_ok-other.ensures.other
    ∙ ap (λ (o : Option (Entry g.row.B.Denot)). is_other g.B.Body.same c.args.entry.now o) (sym (c.self.invariant.learned c.args.slot))
    ∙ open_disagrees g.B.Body.same c.args.slot c.args.entry.now now.learner o
    ∙ ap (λ (d : Draft g.row.B.Denot). disagrees g.B.Body.same c.args.slot c.args.entry.now (after d).learner) c.self.view_is
