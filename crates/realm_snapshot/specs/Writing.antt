-- A realm as octets (docs/PROTOCOL.md, "Snapshots").
use Rattle.std.specs.Prelude.{ℕ, Bool, true, false, List, ◌++◌, length, flat_map, Option, None, Some}
use Rattle.std.specs.Int.{bytes_high_first}
use Rattle.paxos_packets.specs.declared.transport.Transport.{Transport}
use Rattle.wamp_ids.specs.declared.policy.Match.{Match}
use Rattle.wamp_ids.specs.declared.policy.Match.TheVariants.{Exact, Prefix, Wildcard}
use Rattle.wamp_ids.specs.declared.policy.Invoke.{Invoke}
use Rattle.wamp_ids.specs.declared.policy.Invoke.TheVariants.{Single, First, Last, RoundRobin}
use Rattle.realm_sessions.specs.declared.links.Session.{Session}
use Rattle.realm_sessions.specs.declared.links.Link.{Link}
use Rattle.realm_registrations.specs.declared.registration.Registration.{Registration}
use Rattle.realm_subscriptions.specs.declared.subscription.Subscription.{Subscription}
use Rattle.realm_calls.specs.declared.calls.Open.{Open}
use Rattle.realm_machine.specs.declared.config.Limits.{Limits}
use Rattle.realm_machine.specs.Config.{Config}
use Rattle.realm_machine.specs.Machine.{Live}
use Rattle.realm_machine.specs.Parts.{Lists, lists_of}

-- ---- numbers, the highest octet first

abbrev pub one_octet : ℕ → List ℕ
one_octet n = bytes_high_first 1 n

unfoldable pub two_octets : ℕ → List ℕ
two_octets n = bytes_high_first 2 n

unfoldable pub four_octets : ℕ → List ℕ
four_octets n = bytes_high_first 4 n

unfoldable pub eight_octets : ℕ → List ℕ
eight_octets n = bytes_high_first 8 n

abbrev pub flag_number : Bool → ℕ
flag_number false = 0
flag_number true = 1

abbrev pub flag_octets : Bool → List ℕ
flag_octets flag = one_octet (flag_number flag)

abbrev pub number_or_none : Option ℕ → ℕ
number_or_none None = 0
number_or_none (Some n) = n

-- an id, or 0 for none
abbrev pub option_octets : Option ℕ → List ℕ
option_octets id = eight_octets (number_or_none id)

abbrev pub match_number : Match → ℕ
match_number Exact = 0
match_number Prefix = 1
match_number Wildcard = 2

abbrev pub invoke_number : Invoke → ℕ
invoke_number Single = 0
invoke_number First = 1
invoke_number Last = 2
invoke_number RoundRobin = 3

-- ---- lists and texts, after the number of what they have

abbrev pub list_octets : {A : Type 0} → (A → List ℕ) → List A → List ℕ
list_octets octets_of list = eight_octets (length list) ++ flat_map octets_of list

abbrev pub name_octets : List ℕ → List ℕ
name_octets name = eight_octets (length name) ++ name

abbrev pub text_octets : List ℕ → List ℕ
text_octets text = two_octets (length text) ++ text

-- ---- what a realm holds

abbrev pub transport_octets : Transport → List ℕ
transport_octets t = one_octet t.node ++ (eight_octets t.boot ++ four_octets t.number)

abbrev pub session_octets : Option Session → List ℕ
session_octets None = eight_octets 0 ++ (one_octet 0 ++ eight_octets 0)
session_octets (Some session) =
    eight_octets session.id ++ (flag_octets session.canceling ++ option_octets session.last_invocation)

abbrev pub link_octets : Link → List ℕ
link_octets link = transport_octets link.transport ++ session_octets link.session

-- the callees in the order of their turns
abbrev pub registration_octets : Registration → List ℕ
registration_octets it =
    eight_octets it.id ++ (one_octet (match_number it.pattern.matching) ++ (one_octet (invoke_number it.invoke)
    ++ (text_octets it.pattern.text ++ list_octets eight_octets it.callees)))

-- the members in the order of joining
abbrev pub subscription_octets : Subscription → List ℕ
subscription_octets it =
    eight_octets it.id ++ (one_octet (match_number it.pattern.matching)
    ++ (text_octets it.pattern.text ++ list_octets eight_octets it.members))

abbrev pub call_octets : Open → List ℕ
call_octets call =
    eight_octets call.caller ++ (eight_octets call.request ++ (eight_octets call.callee
    ++ (eight_octets call.invocation ++ flag_octets call.progress)))

-- ---- a realm

abbrev pub limits_octets : Limits → List ℕ
limits_octets limits =
    four_octets limits.sessions ++ (four_octets limits.registrations
    ++ (four_octets limits.subscriptions ++ four_octets limits.calls))

-- the version, and what the realm is made with
abbrev pub config_octets : Config → List ℕ
config_octets config = one_octet 1 ++ (name_octets config.name ++ limits_octets config.limits)

abbrev pub lists_octets : Lists → List ℕ
lists_octets lists =
    eight_octets lists.last_registration ++ (eight_octets lists.last_subscription
    ++ (list_octets link_octets lists.links ++ (list_octets registration_octets lists.registrations
    ++ (list_octets subscription_octets lists.subscriptions ++ list_octets call_octets lists.calls))))

-- the octets that a realm is saved as
abbrev pub saved : Live → List ℕ
saved live = config_octets live.config ++ lists_octets (lists_of live.content)
