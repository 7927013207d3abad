use Rattle.script_program.proofs.player.Player.take.Goals as goal

pub returns-in-Tick : goal.returns-in-Tick
returns-in-Tick c = rw c.in-Tick.is c.happen.ensures
