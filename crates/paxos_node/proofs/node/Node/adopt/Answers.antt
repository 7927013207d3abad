-- Each exit, whole: what making room leaves, and what adopting makes of it.
use Rattle.std.proofs.Common.{◌≡◌, false, refl, ap, sym, ◌∙◌}
use Rattle.paxos_node.specs.Held.{Held}
use Rattle.paxos_node.specs.Adopting.{adopted}
use Rattle.paxos_node.proofs.Done.{not_both}
use Rattle.paxos_node.proofs.node.Node.adopt.Goals as goal

pub returns-in_default : goal.returns-in_default
returns-in_default g c =
    record {
      ok = tt;
      packets = tt;
      applied = tt;
      ok_failed = tt;
      me = ap (λ (h : Held g.row.B.Denot). h.me) c.self.view_is ∙ c.make_room.ensures.me;
      members = ap (λ (h : Held g.row.B.Denot). h.members) c.self.view_is ∙ c.make_room.ensures.members;
      err = ap (λ (h : Held g.row.B.Denot). h.state) c.self.view_is ∙ c.make_room.ensures.state;
      err_failed = refl;
      failed = λ e. refl;
      memory = refl;
    }

pub returns : goal.returns
returns g c =
    let well : c.make_room.new.self.failed ≡ false = c.in-Ok.ensures.ok.stands in
    record {
      ok = c.adopt_in_room.ensures.state
          ∙ (λ i. adopted (c.make_room.ensures.me i) (c.make_room.ensures.members i) c.args.outcome (c.make_room.ensures.state i));
      packets = c.adopt_in_room.ensures.packets;
      applied = c.adopt_in_room.ensures.applied;
      ok_failed = c.adopt_in_room.ensures.failed ∙ well;
      me = c.adopt_in_room.ensures.me ∙ c.make_room.ensures.me;
      members = c.adopt_in_room.ensures.members ∙ c.make_room.ensures.members;
      err = tt;
      err_failed = tt;
      failed = λ e. not_both c.args.self.now.failed (sym c.make_room.ensures.failed ∙ well) e;
      memory = tt;
    }
