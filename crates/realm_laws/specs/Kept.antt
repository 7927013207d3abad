-- Realms that come back out of their lists (docs/PROTOCOL.md, "Snapshots").
use Rattle.std.specs.Prelude.{◌≡◌, ◌<◌, true, All, Some}
use Rattle.replica_machine.specs.declared.input.Input.{Input}
use Rattle.replica_machine.specs.Given.{IsGiven}
use Rattle.realm_acts.specs.declared.act.Act.{Act}
use Rattle.realm_sessions.specs.declared.links.Link.{Link}
use Rattle.realm_sessions.specs.Restoring.{is_numbered}
use Rattle.realm_registrations.specs.declared.registration.Registration.{Registration}
use Rattle.realm_subscriptions.specs.declared.subscription.Subscription.{Subscription}
use Rattle.realm_machine.specs.Config.{Config}
use Rattle.realm_machine.specs.Content.{Content, empty}
use Rattle.realm_machine.specs.Step.{after_input}
use Rattle.realm_machine.specs.Parts.{content_of, lists_of}
use Rattle.realm_laws.specs.Laws.{IsSound, AreSoundOpenCalls}

-- its transports are ones, and its ids begin with 1
pub record IsNumbered (c : Content) : Type 0 where
  -- of nodes 1 to 7, in boots 1 to 2^48 - 1, numbered from 1
  pub links : All (λ (link : Link). is_numbered link.transport ≡ true) c.sessions.list
  pub registrations : All (λ (registration : Registration). 0 < registration.id) c.registrations.list
  pub subscriptions : All (λ (subscription : Subscription). 0 < subscription.id) c.subscriptions.list

-- what a realm keeps that is told nothing but inputs whose nodes, boots and transports are ones
pub record IsKept (config : Config) (c : Content) : Type 0 where
  pub sound : IsSound config c
  pub calls : AreSoundOpenCalls c
  pub numbered : IsNumbered c

abbrev pub EmptyIsKept : Type 0
EmptyIsKept = (config : Config) → IsKept config (empty config.limits)

abbrev pub EachInputKeepsCalls : Type 0
EachInputKeepsCalls = (config : Config) (c : Content) (input : Input Act) → IsSound config c → AreSoundOpenCalls c
    → AreSoundOpenCalls (after_input config c input)

abbrev pub EachInputKeepsNumbered : Type 0
EachInputKeepsNumbered = (config : Config) (c : Content) (input : Input Act) → IsGiven input → IsNumbered c
    → IsNumbered (after_input config c input)

abbrev pub EachInputKeepsAll : Type 0
EachInputKeepsAll = (config : Config) (c : Content) (input : Input Act) → IsGiven input → IsKept config c
    → IsKept config (after_input config c input)

-- its lists are those of one realm, and it is that realm: what is saved of it is never damaged
abbrev pub KeptComesBack : Type 0
KeptComesBack = (config : Config) (c : Content) → IsKept config c → content_of config.limits (lists_of c) ≡ Some c
