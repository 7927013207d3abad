use Rattle.std.proofs.Common.{ap, ◌∙◌, subst}
use Rattle.realm_machine.specs.Content.{limits_in}
use Rattle.realm_machine.specs.Realm.{IsLimited}
use Rattle.realm_machine.proofs.Limited.{gone_stays}
use Rattle.realm_machine.proofs.realm.Realm.gone.Goals as goal

pub invariant_of-self-in-Ok-1 : goal.invariant_of-self-in-Ok-1
invariant_of-self-in-Ok-1 c =
    ap limits_in c.in-Ok.ensures.1
    ∙ gone_stays c.in-Some.content c.args.node
    ∙ subst (IsLimited c.self.inside.config) c.in-Some.is c.self.invariant
