-- Octets as a realm: the realm at their head, or that an octet is missing, a number out of its range, or a text none (docs/PROTOCOL.md,
-- "Snapshots").
use Rattle.std.specs.Prelude.{ℕ, zero, suc, ◌==◌, Bool, true, false, nat_le, List, []}
use Rattle.std.specs.Prelude.{◌∷◌, length, take, drop, Option, None, Some, Result, Ok, Err}
use Rattle.std.specs.Prelude.{if◌then◌else◌}
use Rattle.std.specs.Str.{is_utf8}
use Rattle.command_codec.specs.declared.fault.CodecFault.TheVariants.{Short, Range}
use Rattle.command_codec.specs.Coder.{and_then}
use Rattle.command_codec.specs.Number.{Reading, number_reading, node_form, boot_form, transport_form}
use Rattle.paxos_packets.specs.declared.transport.Transport.{Transport}
use Rattle.wamp_ids.specs.declared.uri.UriFault.{UriFault}
use Rattle.wamp_ids.specs.declared.policy.Match.{Match}
use Rattle.wamp_ids.specs.declared.policy.Match.TheVariants.{Exact, Prefix, Wildcard}
use Rattle.wamp_ids.specs.declared.policy.Invoke.{Invoke}
use Rattle.wamp_ids.specs.declared.policy.Invoke.TheVariants.{Single, First, Last, RoundRobin}
use Rattle.wamp_ids.specs.Pattern.{PatternValue, pattern_of}
use Rattle.realm_sessions.specs.declared.links.Session.{Session}
use Rattle.realm_sessions.specs.declared.links.Link.{Link}
use Rattle.realm_registrations.specs.declared.registration.Registration.{Registration}
use Rattle.realm_subscriptions.specs.declared.subscription.Subscription.{Subscription}
use Rattle.realm_calls.specs.declared.calls.Open.{Open}
use Rattle.realm_machine.specs.declared.config.Limits.{Limits}
use Rattle.realm_machine.specs.Config.{Config}
use Rattle.realm_machine.specs.Parts.{Lists}
use Rattle.realm_snapshot.specs.Forms.{version_form, count_form, length_form, limit_form, id_form, id_or_none_form, flag_form, match_form}
use Rattle.realm_snapshot.specs.Forms.{invoke_form}

-- ---- numbers

abbrev pub id_reading : List ℕ → Reading ℕ
id_reading octets = number_reading id_form octets

abbrev pub flag_reading : List ℕ → Reading Bool
flag_reading octets = and_then (number_reading flag_form octets) (λ n rest. Ok (n == 1, rest))

-- 0 is none
abbrev pub option_of : ℕ → Option ℕ
option_of n = if n == 0 then None else Some n

abbrev pub option_reading : List ℕ → Reading (Option ℕ)
option_reading octets = and_then (number_reading id_or_none_form octets) (λ n rest. Ok (option_of n, rest))

abbrev pub match_of : ℕ → Match
match_of n = if n == 0 then Exact else (if n == 1 then Prefix else Wildcard)

abbrev pub match_reading : List ℕ → Reading Match
match_reading octets = and_then (number_reading match_form octets) (λ n rest. Ok (match_of n, rest))

abbrev pub invoke_of : ℕ → Invoke
invoke_of n = if n == 0 then Single else (if n == 1 then First else (if n == 2 then Last else RoundRobin))

abbrev pub invoke_reading : List ℕ → Reading Invoke
invoke_reading octets = and_then (number_reading invoke_form octets) (λ n rest. Ok (invoke_of n, rest))

-- ---- lists and texts

-- this many elements, one after the other
abbrev pub elements_reading : {A : Type 0} → (List ℕ → Reading A) → ℕ → List ℕ → Reading (List A)
elements_reading reading zero octets = Ok ([], octets)
elements_reading reading (suc count) octets =
    and_then (reading octets) (λ first rest.
    and_then (elements_reading reading count rest) (λ more rest. Ok (first ∷ more, rest)))

abbrev pub list_reading : {A : Type 0} → (List ℕ → Reading A) → List ℕ → Reading (List A)
list_reading reading octets = and_then (number_reading count_form octets) (elements_reading reading)

abbrev pub unless_text : List ℕ → List ℕ → Reading (List ℕ)
unless_text text rest = if is_utf8 text then Ok (text, rest) else Err Range

-- a text of this many octets
abbrev pub octets_reading : ℕ → List ℕ → Reading (List ℕ)
octets_reading count octets =
    if nat_le count (length octets) then unless_text (take count octets) (drop count octets) else Err Short

abbrev pub name_reading : List ℕ → Reading (List ℕ)
name_reading octets = and_then (number_reading count_form octets) octets_reading

abbrev pub text_reading : List ℕ → Reading (List ℕ)
text_reading octets = and_then (number_reading length_form octets) octets_reading

abbrev pub unless_faulty : Result PatternValue UriFault → List ℕ → Reading PatternValue
unless_faulty (Ok pattern) rest = Ok (pattern, rest)
unless_faulty (Err fault) rest = Err Range

-- a pattern of this match
abbrev pub pattern_reading : Match → List ℕ → Reading PatternValue
pattern_reading matching octets = and_then (text_reading octets) (λ text rest. unless_faulty (pattern_of text matching) rest)

-- ---- what a realm holds

abbrev pub transport_reading : List ℕ → Reading Transport
transport_reading octets =
    and_then (number_reading node_form octets) (λ node rest.
    and_then (number_reading boot_form rest) (λ boot rest.
    and_then (number_reading transport_form rest) (λ number rest. Ok (record { node = node; boot = boot; number = number }, rest))))

-- without a session there is nothing else of one
abbrev pub session_of : Option ℕ → Bool → Option ℕ → List ℕ → Reading (Option Session)
session_of (Some id) canceling last rest = Ok (Some (record { id = id; canceling = canceling; last_invocation = last }), rest)
session_of None true last rest = Err Range
session_of None false (Some last) rest = Err Range
session_of None false None rest = Ok (None, rest)

abbrev pub session_reading : List ℕ → Reading (Option Session)
session_reading octets =
    and_then (option_reading octets) (λ id rest.
    and_then (flag_reading rest) (λ canceling rest.
    and_then (option_reading rest) (λ last rest. session_of id canceling last rest)))

abbrev pub link_reading : List ℕ → Reading Link
link_reading octets =
    and_then (transport_reading octets) (λ transport rest.
    and_then (session_reading rest) (λ session rest. Ok (record { transport = transport; session = session }, rest)))

abbrev pub registration_reading : List ℕ → Reading Registration
registration_reading octets =
    and_then (id_reading octets) (λ id rest.
    and_then (match_reading rest) (λ matching rest.
    and_then (invoke_reading rest) (λ invoke rest.
    and_then (pattern_reading matching rest) (λ pattern rest.
    and_then (list_reading id_reading rest) (λ callees rest.
    Ok (record { id = id; pattern = pattern; invoke = invoke; callees = callees }, rest))))))

abbrev pub subscription_reading : List ℕ → Reading Subscription
subscription_reading octets =
    and_then (id_reading octets) (λ id rest.
    and_then (match_reading rest) (λ matching rest.
    and_then (pattern_reading matching rest) (λ pattern rest.
    and_then (list_reading id_reading rest) (λ members rest.
    Ok (record { id = id; pattern = pattern; members = members }, rest)))))

abbrev pub call_reading : List ℕ → Reading Open
call_reading octets =
    and_then (id_reading octets) (λ caller rest.
    and_then (id_reading rest) (λ request rest.
    and_then (id_reading rest) (λ callee rest.
    and_then (id_reading rest) (λ invocation rest.
    and_then (flag_reading rest) (λ progress rest.
    Ok (record { caller = caller; request = request; callee = callee; invocation = invocation; progress = progress }, rest))))))

-- ---- a realm

abbrev pub limits_reading : List ℕ → Reading Limits
limits_reading octets =
    and_then (number_reading limit_form octets) (λ sessions rest.
    and_then (number_reading limit_form rest) (λ registrations rest.
    and_then (number_reading limit_form rest) (λ subscriptions rest.
    and_then (number_reading limit_form rest) (λ calls rest.
    Ok (record { sessions = sessions; registrations = registrations; subscriptions = subscriptions; calls = calls }, rest)))))

abbrev pub config_reading : List ℕ → Reading Config
config_reading octets =
    and_then (number_reading version_form octets) (λ version rest.
    and_then (name_reading rest) (λ name rest.
    and_then (limits_reading rest) (λ limits rest. Ok (record { name = name; limits = limits }, rest))))

abbrev pub lists_reading : List ℕ → Reading Lists
lists_reading octets =
    and_then (number_reading id_or_none_form octets) (λ last_registration rest.
    and_then (number_reading id_or_none_form rest) (λ last_subscription rest.
    and_then (list_reading link_reading rest) (λ links rest.
    and_then (list_reading registration_reading rest) (λ registrations rest.
    and_then (list_reading subscription_reading rest) (λ subscriptions rest.
    and_then (list_reading call_reading rest) (λ calls rest.
    Ok (
      record {
        links = links;
        registrations = registrations;
        last_registration = last_registration;
        subscriptions = subscriptions;
        last_subscription = last_subscription;
        calls = calls;
      },
      rest,
    )))))))

-- what a realm is made of
pub record Made : Type 0 where
  pub config : Config
  pub lists : Lists

abbrev pub made_reading : List ℕ → Reading Made
made_reading octets =
    and_then (config_reading octets) (λ config rest.
    and_then (lists_reading rest) (λ lists rest. Ok (record { config = config; lists = lists }, rest)))
