use Rattle.std.proofs.Common.{◌≡◌, false, rules}
use Rattle.node_actor.proofs.Viewing.{pass_acts, shorts}
use Rattle.node_actor.proofs.event.pass.Goals as goal

pub returns-clause-acts : goal.returns-clause-acts
returns-clause-acts g c = λ view reach.
    let fresh : c.args.parts.now.spoiled ≡ false = search rules in
    pass_acts _ _ _ _ _ _ _ _ c.args.parts.now view c.args.seat.now c.silence.result c.silence.ensures fresh (c.requires.sound.serves fresh)
    (shorts _ _ _ c.args.parts.now c.requires.sound c.limits.ensures) c.requires.seated reach
