-- Whatever the world, a realm that carries its configuration hands out what the realm of that configuration does.
use Rattle.std.proofs.Common.{◌≡◌, cond, refl, ap, List, [], ◌∷◌, ◌++◌, fold, ◌∙◌}
use Rattle.std.specs.Prelude.{filter, ◌&&◌, ◌==◌}
use Rattle.paxos_packets.specs.Transport.{same_transport}
use Rattle.paxos_packets.specs.declared.transport.Transport.{Transport}
use Rattle.replica_machine.specs.declared.input.Input.{Input}
use Rattle.replica_machine.specs.Replay.{inputs, inputs_behind, sayings_from, sayings_behind}
use Rattle.realm_acts.specs.declared.act.Act.{Act}
use Rattle.realm_machine.specs.Config.{Config}
use Rattle.realm_machine.specs.Content.{Content, empty}
use Rattle.realm_machine.specs.Step.{after_input, said_at}
use Rattle.realm_machine.specs.Machine.{Live, realm_of, next_live, to}
use Rattle.realm_machine.specs.Laws.{live_realm}
use Rattle.cluster_world.specs.World.{Applied, handed_at, handed_in}
use Rattle.script_program.specs.Playing.{HandsOutAsRealm}

module _ (config : Config) where
  abbrev with_content : Content → Live
  with_content c = record { config = config; content = c }

  goes_on : (c : Content) (is : List (Input Act)) → fold next_live (with_content c) is ≡ with_content (fold (after_input config) c is)
  goes_on c [] = refl
  goes_on c (i ∷ is) = goes_on (after_input config c i) is

  says_on : (c : Content) (is : List (Input Act)) → sayings_from (live_realm config) (with_content c) is ≡ sayings_from (realm_of config) c is
  says_on c [] = refl
  says_on c (i ∷ is) = ap (λ said. said_at config c i ++ said) (says_on (after_input config c i) is)

  behind : (a : Applied Act) → sayings_behind (live_realm config) a.log a.entries ≡ sayings_behind (realm_of config) a.log a.entries
  behind a =
      ap (λ live. sayings_from (live_realm config) live (inputs_behind a.log a.entries)) (goes_on (empty config.limits) (inputs a.log))
      ∙ says_on (fold (after_input config) (empty config.limits) (inputs a.log)) (inputs_behind a.log a.entries)

  at_one : (t : Transport) (a : Applied Act) → handed_at (live_realm config) t a ≡ handed_at (realm_of config) t a
  at_one t a = ap (λ said. cond ((a.node == t.node) && (a.boot == t.boot)) (filter (λ y. same_transport (to y) t) said) []) (behind a)

  at_all : (t : Transport) (list : List (Applied Act)) → handed_in (live_realm config) t list ≡ handed_in (realm_of config) t list
  at_all t [] = refl
  at_all t (a ∷ more) = λ i. at_one t a i ++ at_all t more i

pub handed_alike : HandsOutAsRealm
handed_alike config t w = at_all config t w.applied
