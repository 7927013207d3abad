use Rattle.std.proofs.Common.{◌≡◌, true, false, sym, subst}
use Rattle.std.specs.Prelude.{All}
use Rattle.std.proofs.lemmas.List.Elements.{All-push}
use Rattle.node_actor.specs.Calls.{is_own}
use Rattle.actor_run.specs.Events.{is_own_cut}
use Rattle.actor_run.proofs.Gathering.{gave_cut, gave_other, gave_own}
use Rattle.actor_run.proofs.rounds.take_in.Goals as goal

pub returns-then-is_own_cut-clause-takes : goal.returns-then-is_own_cut-clause-takes
returns-then-is_own_cut-clause-takes g c = λ o u.
    c.cut.ensures.gathers o c.args.events.now.items (gave_cut g.M.Body.Body.same g.M.Machine.steps g.M.Machine.content g.M.Machine.loaded
    g.F.RoundFeed.saw o c.args.events.now.items c.args.event c.args.actor.now c.args.feed.now u
    (subst (λ k. is_own_cut k c.args.event ≡ true) c.me.ensures (sym c.if-is_own_cut.ensures)))

pub returns-then-is_own_cut-clause-own : goal.returns-then-is_own_cut-clause-own
returns-then-is_own_cut-clause-own g c =
    subst (λ k. All (λ e. is_own k e ≡ true) c.args.events.now.items) (sym c.cut.ensures.me) c.requires.own

pub returns-then-not-is_own-clause-takes : goal.returns-then-not-is_own-clause-takes
returns-then-not-is_own-clause-takes g c = λ o u.
    gave_other g.M.Body.Body.same g.M.Machine.steps g.M.Machine.content g.M.Machine.loaded g.F.RoundFeed.saw o
    c.args.events.now.items c.args.event c.args.actor.now c.args.feed.now u
    (subst (λ k. is_own k c.args.event ≡ false) c.me-2.ensures (sym c.if-not-is_own.ensures))

-- the event is one more of the round
pub returns-clause-takes : goal.returns-clause-takes
returns-clause-takes g c = λ o u.
    gave_own g.M.Body.Body.same g.M.Machine.steps g.M.Machine.content g.M.Machine.loaded g.F.RoundFeed.saw o
    c.args.events.now.items c.args.event c.args.actor.now c.args.feed.now u c.push_reserved.new.self.items c.push_reserved.ensures.items

pub returns-clause-own : goal.returns-clause-own
returns-clause-own g c =
    rw c.push_reserved.ensures.items (All-push (λ e. is_own c.args.actor.now.node.me e ≡ true) c.args.events.now.items c.args.event c.requires.own
    (subst (λ k. is_own k c.args.event ≡ true) c.me-2.ensures (sym c.if-not-is_own.ensures)))
