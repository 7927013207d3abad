-- The laws over every log, at those of the world's nodes.
use Rattle.std.proofs.Common.{arith}
use Rattle.realm_acts.specs.Act.{same_act}
use Rattle.cluster_world.specs.World.{played}
use Rattle.replicated_laws.proofs.Replicating.{sound, replies, realms_follow, answers_of_realms}
use Rattle.replicated_laws.proofs.laws.replicated_realm.Goals as goal

pub returns-clause-sound : goal.returns-clause-sound
returns-clause-sound c = λ es h. sound (played same_act c.args.world.now.members es)

pub returns-clause-replies : goal.returns-clause-replies
returns-clause-replies c = λ es h. replies (played same_act c.args.world.now.members es)

pub returns-clause-realms : goal.returns-clause-realms
returns-clause-realms c = λ config es h. realms_follow config es c.args.world.now h

pub returns-clause-answers : goal.returns-clause-answers
returns-clause-answers c = λ config es h.
    answers_of_realms config es c.args.world.now h (omega (arith, c.count.ensures.value, c.count.ensures.most, c.members.ensures))
