use Rattle.std.proofs.Common.{ap, ◌∙◌, subst}
use Rattle.realm_machine.specs.Content.{limits_in}
use Rattle.realm_machine.specs.Realm.{IsLimited}
use Rattle.realm_machine.proofs.Limited.{act_stays}
use Rattle.realm_machine.proofs.realm.Realm.act.Goals as goal

pub invariant_of-self-in-Ok-1 : goal.invariant_of-self-in-Ok-1
invariant_of-self-in-Ok-1 c =
    let config = c.self.inside.config in
    ap limits_in c.in-Ok.ensures.1
    ∙ act_stays config c.in-Some.content c.args.transport c.args.act.now
    ∙ subst (IsLimited config) c.in-Some.is c.self.invariant
