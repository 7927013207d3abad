use Rattle.std.proofs.Common.{◌≡◌, ◌∷◌, [], ◌++◌, sym, subst, rules}
use Rattle.core_tests.proofs.Machines.{new_more}
use Rattle.core_tests.specs.Machines.{AllNew}
use Rattle.core_tests.proofs.random_worlds.push_new.Goals as goal

pub returns-clause-new : goal.returns-clause-new
returns-clause-new g c = λ a.
    let e : c.push.new.self.items ≡ c.args.machines.now.items ++ c.new.result ∷ [] = search rules in
    subst (λ cs. AllNew cs) (sym e) (new_more c.args.machines.now.items c.new.result a (search rules))
