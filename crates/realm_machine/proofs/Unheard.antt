-- Nothing is said to a transport that hangs up: others hear of the calls that end with its session.
use Rattle.std.proofs.Common.{◌≡◌, ℕ, Bool, true, false, List, [], ◌∷◌, ◌++◌, Option, None, Some, option_map, find, refl, if◌then◌else◌}
use Rattle.std.specs.List.{All, flat_map}
use Rattle.std.proofs.lemmas.Bool.{cond_both, false≢true}
use Rattle.std.proofs.lemmas.List.Elements.{All-nil, All-cons, All-append}
use Rattle.paxos_packets.specs.declared.transport.Transport.{Transport}
use Rattle.paxos_packets.specs.Transport.{same_transport}
use Rattle.wamp_message_types.specs.declared.request_kind.RequestKind.TheVariants as kind
use Rattle.wamp_ids.specs.declared.policy.Mode.TheVariants.{KillNoWait}
use Rattle.wamp_message_types.specs.declared.message.Message.{Message}
use Rattle.realm_sessions.specs.declared.links.Link.{Link}
use Rattle.realm_sessions.specs.Links.{is_of, has_id, by_transport, announces, put_session, set_session}
use Rattle.realm_calls.specs.declared.calls.Open.{Open}
use Rattle.realm_calls.specs.Calls.{calls_to, calls_by, without_callee}
use Rattle.realm_machine.specs.declared.sayings.say.Say.{Say}
use Rattle.realm_machine.specs.Sayings.{say, say_to, to_session, refusal, canceled}
use Rattle.realm_machine.specs.Sayings.Invocations.{interrupt}
use Rattle.realm_machine.specs.Sayings.Endings.{end_for_caller, end_for_callee}
use Rattle.realm_machine.specs.Content.{Content}
use Rattle.realm_machine.specs.Leaving.{leave_session, leave}
use Rattle.realm_machine.specs.Laws.{HungUpIsToldNothing}

abbrev IsUnheard : Transport → List Say → Type 0
IsUnheard t said = All (λ (it : Say). same_transport it.transport t ≡ false) said

none_unheard : (t : Transport) → IsUnheard t []
none_unheard t = All-nil (λ (it : Say). same_transport it.transport t ≡ false)

both_unheard : (t : Transport) (first second : List Say) → IsUnheard t first → IsUnheard t second → IsUnheard t (first ++ second)
both_unheard t first second a b = All-append (λ (it : Say). same_transport it.transport t ≡ false) first second a b

-- ---- no session is found at a transport that has none any more

abbrev IsOther : Transport → Option Link → Type 0
IsOther t None = Unit {0}
IsOther t (Some link) = is_of t link ≡ false

cleared_other : (t : Transport) (session : ℕ) (link : Link) (b : Bool) → is_of t link ≡ b
    → has_id session (if b then record { transport = link.transport; session = None } else link) ≡ true
    → is_of t (if b then record { transport = link.transport; session = None } else link) ≡ false
cleared_other t session link true e h = absurd (false≢true h)
cleared_other t session link false e h = e

found_other : (links : List Link) (t : Transport) (session : ℕ) → IsOther t (find (has_id session) (set_session links t None))
found_other [] t session = tt
found_other (link ∷ links) t session =
    let cleared = put_session t None link in
    cond_both (has_id session cleared) (Some cleared) (find (has_id session) (set_session links t None)) (IsOther t)
    (λ h. cleared_other t session link (is_of t link) refl h) (λ _. found_other links t session)

said_unheard : (t : Transport) (o : Option Link) (message : Message) → IsOther t o
    → IsUnheard t (say_to (option_map (λ (link : Link). link.transport) o) message)
said_unheard t None message h = none_unheard t
said_unheard t (Some link) message h =
    All-cons (λ (it : Say). same_transport it.transport t ≡ false) (say link.transport message) [] h (none_unheard t)

to_unheard : (links : List Link) (t : Transport) (session : ℕ) (message : Message)
    → IsUnheard t (to_session (set_session links t None) session message)
to_unheard links t session message =
    said_unheard t (find (has_id session) (set_session links t None)) message (found_other links t session)

-- ---- leaving

flat_unheard : {A : Type 0} (t : Transport) (f : A → List Say) (xs : List A) → ((x : A) → IsUnheard t (f x)) → IsUnheard t (flat_map f xs)
flat_unheard t f [] h = none_unheard t
flat_unheard t f (x ∷ xs) h = both_unheard t (f x) (flat_map f xs) (h x) (flat_unheard t f xs h)

callee_unheard : (links : List Link) (t : Transport) (call : Open) → IsUnheard t (end_for_callee (set_session links t None) call)
callee_unheard links t call =
    let cleared = set_session links t None in
    cond_both (announces cleared call.callee) (to_session cleared call.callee (interrupt call KillNoWait)) [] (IsUnheard t)
    (λ _. to_unheard links t call.callee (interrupt call KillNoWait)) (λ _. none_unheard t)

left_unheard : (c : Content) (t : Transport) (session : Option (Option ℕ)) → IsUnheard t (leave_session c t session).says
left_unheard c t None = none_unheard t
left_unheard c t (Some None) = none_unheard t
left_unheard c t (Some (Some session)) =
    let links = c.sessions.list in
    let cleared = set_session links t None in
    let to = calls_to c.calls.list session in
    let by = calls_by (without_callee c.calls.list session) session in
    both_unheard t (flat_map (end_for_caller cleared) to) (flat_map (end_for_callee cleared) by ++ [])
    (flat_unheard t (end_for_caller cleared) to
    (λ call. to_unheard links t call.caller (refusal kind.Call call.request canceled)))
    (both_unheard t (flat_map (end_for_callee cleared) by) [] (flat_unheard t (end_for_callee cleared) by (callee_unheard links t)) (none_unheard t))

pub hung_unheard : HungUpIsToldNothing
hung_unheard config c t = both_unheard t (leave c t).says [] (left_unheard c t (by_transport c.sessions.list t)) (none_unheard t)
