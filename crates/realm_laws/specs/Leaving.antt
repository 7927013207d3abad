-- *Leave* in the order of docs/PROTOCOL.md, "The realm": the sessions that are told are looked up before the one that leaves is taken off
-- its transport.
use Rattle.std.specs.Prelude.{◌≡◌, ℕ, ◌++◌, None, Some}
use Rattle.std.specs.List.{flat_map}
use Rattle.paxos_packets.specs.declared.transport.Transport.{Transport}
use Rattle.realm_sessions.specs.Links.{by_transport, set_session}
use Rattle.realm_sessions.specs.Sessions.{with_list}
use Rattle.realm_sessions.specs.Laws.{AreSoundLinks}
use Rattle.realm_registrations.specs.Registrations as registrations
use Rattle.realm_subscriptions.specs.Leaving as subscriptions
use Rattle.realm_calls.specs.Calls as calls
use Rattle.realm_calls.specs.Calls.{calls_to, calls_by, without_session}
use Rattle.realm_machine.specs.Sayings.Endings.{end_for_caller, end_for_callee}
use Rattle.realm_machine.specs.Content.{Content, Step}
use Rattle.realm_machine.specs.Leaving.{leave}

-- the calls to it by others end, then its calls to others, and silently those to itself; then it has no session, registration or
-- subscription
abbrev pub left : Content → Transport → ℕ → Step
left c t session = record {
  content = record {
    sessions = with_list c.sessions (set_session c.sessions.list t None);
    registrations = registrations.leave c.registrations session;
    subscriptions = subscriptions.leave c.subscriptions session;
    calls = calls.with_list c.calls (without_session c.calls.list session);
  };
  says = flat_map (end_for_caller c.sessions.list) (calls_to c.calls.list session)
      ++ flat_map (end_for_callee c.sessions.list) (calls_by c.calls.list session);
}

-- if each transport is connected once, and each session is at one, that is how a session leaves
abbrev pub LeavesInOrder : Type 0
LeavesInOrder = (c : Content) (t : Transport) (session : ℕ) → AreSoundLinks c.sessions.list
    → by_transport c.sessions.list t ≡ Some (Some session) → leave c t ≡ left c t session
