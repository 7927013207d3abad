use Rattle.std.proofs.Common.{[], ◌∷◌, ◌++◌}
use Rattle.std.proofs.lemmas.Result.{on_ok_weaker}
use Rattle.realm_machine.specs.Machine.{begun}
use Rattle.script_program.specs.declared.player.Player.{Player}
use Rattle.script_program.proofs.Steps.{happened}
use Rattle.script_program.proofs.player.Player.happen.Goals as goal

pub returns : goal.returns
returns c = λ config members s at.
    let stands = c.in-Ok.ensures.ok (begun config) s.events at.stands in
    let new : Player = record { alloc = c.args.self.now.alloc; world = c.run-ran.new.self; waiting = c.send_new.new.waiting } in
    on_ok_weaker c.send_new.result
    (λ sent. happened config members c.args.self.now new
    s c.args.event at c.run-ran.ensures.members stands sent)
    (c.send_new.ensures config (s.events ++ c.args.event ∷ []) stands)
