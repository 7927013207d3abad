use Rattle.std.proofs.Common.{◌≡◌, ◌+◌, Some, ap, sym, subst, refl, ◌∙◌, arith}
use Rattle.std.specs.Prelude.{slice_get}
use Rattle.std.proofs.lemmas.Option.{slice_get_within}
use Rattle.paxos_node.specs.declared.event.Event.TheVariants.{Deliver}
use Rattle.realm_acts.specs.Act.{same_act}
use Rattle.cluster_world.specs.Scripts.{deliver_no}
use Rattle.script_program.specs.declared.player.Player.{Player}
use Rattle.script_program.specs.Player.{IsAt}
use Rattle.script_program.specs.Playing.{happen}
use Rattle.script_program.proofs.Steps.{grown, has_delivered}
use Rattle.script_program.proofs.Turns.{sent_is}
use Rattle.script_program.proofs.player.Player.deliver_at.Goals as goal

pub returns-in_default : goal.returns-in_default
returns-in_default c = λ config members s at.
    subst (λ o. IsAt config members c.args.self.now (deliver_no same_act members (c.args.place + 1) o s))
    (c.in_default.ensures config s.events at.stands ∙ ap (λ ps. slice_get ps c.args.place) (sent_is config members c.args.self.now s at)) at

pub returns : goal.returns
returns c = λ config members s at.
    let packet = c.in-Ok.packet in
    let new : Player = record { alloc = c.happen.new.self.alloc; world = c.happen.new.self.world; waiting = c.deliver.new.self } in
    let found : Some c.in-Ok.packet ≡ slice_get s.world.sent c.args.place =
    ap Some c.in-Ok.ensures ∙ c.in-Some.ensures config s.events at.stands
    ∙ ap (λ ps. slice_get ps c.args.place) (sent_is config members c.args.self.now s at) in
    let within = slice_get_within s.world.sent c.args.place c.in-Ok.packet (sym found) in
    let more = grown config members (Deliver c.in-Ok.packet) s in
    subst (λ o. IsAt config members new (deliver_no same_act members (c.args.place + 1) o s)) found
    (has_delivered config members c.happen.new.self new
    (happen config members (Deliver c.in-Ok.packet) s) c.args.place (omega (arith, within, more))
    (c.in_ok-happen.ensures config members s at) refl c.deliver.ensures)
