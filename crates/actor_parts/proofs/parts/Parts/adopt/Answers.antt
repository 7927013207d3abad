use Rattle.std.proofs.Common.{List, refl, subst, ◌∙◌, rules}
use Rattle.paxos_packets.specs.declared.packet.Packet.{Packet}
use Rattle.actor_outboxes.specs.Outboxes.{WaitBehind}
use Rattle.actor_parts.specs.Parts.{Parted}
use Rattle.actor_parts.specs.Steps.{Adopts}
use Rattle.actor_parts.proofs.parts.Parts.adopt.Goals as goal

pub returns-clause-adopts : goal.returns-clause-adopts
returns-clause-adopts g c =
    let new : Parted g.row.M-Body.Denot g.row.M.Denot g.row.K.Denot = record {
      node = c.adopt_in_room-packets.new.self;
      keeper = c.self.inside.keeper;
      waiting = c.put_all.new.self;
      log = c.self.inside.log;
      failed = c.self.inside.failed;
      spoiled = c.self.inside.spoiled;
    } in
    subst (λ (a : Parted g.row.M-Body.Denot g.row.M.Denot g.row.K.Denot). Adopts c.args.outcome a new) c.self.view_is (record {
      node = c.adopt_in_room-packets.ensures.state;
      me = c.adopt_in_room-packets.ensures.me;
      members = c.adopt_in_room-packets.ensures.members;
      waits = subst (λ (ps : List (Packet g.row.M-Body.Denot)). WaitBehind ps c.self.inside.outboxes c.put_all.new.self)
          (c.into_vec.ensures ∙ c.adopt_in_room-packets.ensures.packets) c.put_all.ensures.waits;
      waits_me = c.put_all.ensures.me;
      waits_members = c.put_all.ensures.members;
      keeper = refl;
      log = refl;
      failed = refl;
      spoiled = refl;
    })

pub returns-clause-applied : goal.returns-clause-applied
returns-clause-applied g c = search rules
