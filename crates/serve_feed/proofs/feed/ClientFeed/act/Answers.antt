use Rattle.std.proofs.Common.{◌∷◌, [], ◌++◌, ◌∙◌, ap, sym, subst}
use Rattle.paxos_node.specs.declared.event.Event.TheVariants.{Take}
use Rattle.actor_run.specs.Events.{asked_in}
use Rattle.serve_feed.specs.Tells.{Tells}
use Rattle.serve_feed.specs.Saw.{Saw}
use Rattle.serve_feed.proofs.Giving.{gives_none, gives_act}
use Rattle.serve_feed.proofs.feed.ClientFeed.act.Goals as goal

pub returns-in_default : goal.returns-in_default
returns-in_default c =
    let node = c.args.self.now.node in
    record {
      saw = λ given saw. gives_none node c.wake_told.new.self.sources given
          (subst (λ s. Tells s (asked_in node given)) (sym c.wake_told.ensures.sources) (c.in_default.ensures.looks (asked_in node given) saw));
    }

pub returns : goal.returns
returns c =
    let node = c.args.self.now.node in
    let number = c.in-Some.transport in
    let body = c.in-Some.body in
    record {
      saw = λ given saw.
          let gave = gives_act node number body c.next-next.new.self.sources given (c.in-Some.ensures.looks (asked_in node given) saw) in
          let here = subst (λ s. Saw node s (given ++ Take node number body ∷ [])) (sym (ap (λ l. l.sources) c.stay.ensures.lanes ∙ c.wake_told.ensures.sources))
          gave in
          subst (λ n. Saw n c.stay.new.self.lanes.sources (given ++ Take n number body ∷ [])) (sym c.stay.ensures.node) here;
    }
