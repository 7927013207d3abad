-- Along a list of inputs a realm that carries its configuration goes on as the realm of that configuration.
use Rattle.std.proofs.Common.{◌≡◌, refl, ap, List, [], ◌∷◌, ◌++◌, fold}
use Rattle.replica_machine.specs.declared.input.Input.{Input}
use Rattle.replica_machine.specs.Replay.{inputs, sayings_from}
use Rattle.realm_acts.specs.declared.act.Act.{Act}
use Rattle.realm_machine.specs.Config.{Config}
use Rattle.realm_machine.specs.Content.{Content, empty}
use Rattle.realm_machine.specs.Step.{after_input, said_at}
use Rattle.realm_machine.specs.Machine.{Live, realm_of, next_live}
use Rattle.realm_machine.specs.Laws.{live_realm, FollowsAsItsRealm, SaysAsItsRealm}

abbrev with_content : Config → Content → Live
with_content config c = record { config = config; content = c }

goes_on : (config : Config) (c : Content) (is : List (Input Act))
    → fold next_live (with_content config c) is ≡ with_content config (fold (after_input config) c is)
goes_on config c [] = refl
goes_on config c (i ∷ is) = goes_on config (after_input config c i) is

says_on : (config : Config) (c : Content) (is : List (Input Act))
    → sayings_from (live_realm config) (with_content config c) is ≡ sayings_from (realm_of config) c is
says_on config c [] = refl
says_on config c (i ∷ is) = ap (λ said. said_at config c i ++ said) (says_on config (after_input config c i) is)

pub follows : FollowsAsItsRealm
follows config log = goes_on config (empty config.limits) (inputs log)

pub says_so : SaysAsItsRealm
says_so config log = says_on config (empty config.limits) (inputs log)
