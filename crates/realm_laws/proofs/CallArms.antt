-- What the requests of calls do to the open calls: a CALL opens one or is answered, the others pay for their final
-- replies, and a progressive result is said to a call that stays open.
use Rattle.std.proofs.Common.{◌≡◌, ⊎_elim, ℕ, ◌+◌, ◌≤◌, ◌==◌, Bool, true, false, not, ◌&&◌, refl, sym, ap, subst}
use Rattle.std.proofs.Common.{if◌then◌else◌}
use Rattle.std.proofs.Common.{List, [], ◌∷◌, ◌++◌, find, filter, Option, Some, None, Result, Ok, Err, arith}
use Rattle.std.proofs.lemmas.Bool.{cond_both, and_parts, and_from, eqb-true, eq-eqb, both_ways, false_from_ne_true}
use Rattle.paxos_packets.specs.declared.transport.Transport.{Transport}
use Rattle.paxos_packets.specs.Transport.{same_transport}
use Rattle.wamp_ids.specs.declared.policy.Mode.{Mode}
use Rattle.wamp_ids.specs.declared.policy.Mode.TheVariants.{Skip, Kill, KillNoWait}
use Rattle.wamp_ids.specs.Uri.{uri_of as read_uri, is_reserved}
use Rattle.wamp_ids.specs.declared.uri.UriFault.{UriFault}
use Rattle.wamp_values.specs.declared.args.Args.{Args}
use Rattle.wamp_message_types.specs.declared.request_kind.RequestKind.TheVariants as kind
use Rattle.wamp_message_types.specs.declared.message.Message.{Message}
use Rattle.wamp_message_types.specs.declared.call.Call.{Call}
use Rattle.wamp_message_types.specs.declared.call.Cancel.{Cancel}
use Rattle.wamp_message_types.specs.declared.call.Yield.{Yield}
use Rattle.realm_sessions.specs.declared.links.Session.{Session}
use Rattle.realm_sessions.specs.declared.links.Link.{Link}
use Rattle.realm_sessions.specs.Links.{is_taken, transport_of, announces}
use Rattle.realm_sessions.specs.Links.{has_id, has_number, found_session, invocation_of, session_with, set_invocation}
use Rattle.realm_sessions.specs.Sessions.{with_list, invoked_with, next_invocation}
use Rattle.realm_sessions.proofs.SoundLinks.{same_is}
use Rattle.realm_sessions.proofs.FreeInvocations.{free_invocation_free}
use Rattle.realm_sessions.proofs.Invoking.{invoked_links}
use Rattle.realm_calls.proofs.SoundCalls.{opened_sound as call_opened}
use Rattle.realm_registrations.specs.declared.registration.Chosen.{Chosen}
use Rattle.realm_registrations.specs.Registrations.{Registrations, choose, turn}
use Rattle.realm_calls.specs.declared.calls.Open.{Open}
use Rattle.realm_calls.specs.Calls.{is_call, is_invocation, has, call_of, peek, is_full, open_call, with_call, open_of, end}
use Rattle.realm_calls.specs.Calls.{cancel_one}
use Rattle.realm_machine.specs.declared.sayings.say.Say.{Say}
use Rattle.realm_machine.specs.Sayings.{say, to_session, refusal, invalid_uri, invalid_argument, no_such_procedure}
use Rattle.realm_machine.specs.Sayings.{limit, canceled}
use Rattle.realm_machine.specs.Sayings.Invocations.{interrupt, invocation, result_of, failure}
use Rattle.realm_machine.specs.declared.requester.Requester.{Requester}
use Rattle.realm_machine.specs.Content.{Content, Step, quiet, refuse, with_calls}
use Rattle.realm_machine.specs.Leaving.{violation}
use Rattle.realm_machine.specs.Calling.{refuse_call, invoke, call_chosen, call_uri}
use Rattle.realm_machine.specs.Calling.{on_call}
use Rattle.realm_machine.specs.Calling.{canceled_as, cancel_found, on_cancel, replied, reply_to, progressed, on_yield}
use Rattle.realm_machine.specs.Calling.{on_failure, unfit_call}
use Rattle.realm_laws.specs.Trace.{is_final_message, is_progress_message, is_final}
use Rattle.realm_laws.proofs.Has.{Has, any_has, find_has, has_last}
use Rattle.realm_laws.proofs.Counts.{bit, count, bit_le, bit_one, bit_false, count_append, count_le, count_none}
use Rattle.realm_laws.proofs.Counts.{count_less}
use Rattle.realm_laws.proofs.Standing.{at, one_transport, one_id, at_taken}
use Rattle.realm_laws.proofs.Standing.{invoked_at, invoked_taken}
use Rattle.realm_laws.proofs.Moves.{holds, opens, finals, partials, is_reply, IsPlain, Base, Moves, IsSilent, no_finals, no_partials}
use Rattle.realm_laws.proofs.Moves.{none_at, silent_to, plain_to, silent_both, plain_both, said_moves, quiet_moves, kept_base}
use Rattle.realm_laws.proofs.Moves.{violation_moves, told_pays}

-- ---- calls end

same_call : (call : Open) → is_call call.caller call.request call ≡ true
same_call call =
    and_from (call.caller == call.caller) (call.request == call.request) (eq-eqb call.caller call.caller refl)
    (eq-eqb call.request call.request refl)

ended_base : (c : Content) (call : Open) → Base c → Base (with_calls c (end c.calls.list call))
ended_base c call base = kept_base c (λ it. not (is_call call.caller call.request it)) base

-- a call ends, and what is said pays for no more than it
end_moves : (c : Content) (call : Open) (said : List Say) → Base c → Has c.calls.list call
    → ((t : Transport) (r : ℕ) → finals t r said ≤ bit (holds c.sessions.list t r call)) → IsPlain said
    → Moves c (record { content = with_calls c (end c.calls.list call); says = said })
end_moves c call said base there_is paid plain_said = record {
  base = ended_base c call base;
  pays = λ t r.
      let links = c.sessions.list in
      let one : finals t r said ≤ bit (holds links t r call) = paid t r in
      let less : bit (holds links t r call) + count (holds links t r) (end c.calls.list call)
      ≤ count (holds links t r) c.calls.list =
      count_less (holds links t r) (λ other. not (is_call call.caller call.request other)) c.calls.list call there_is
      (ap not (same_call call)) in
      omega (arith, one, less);
  plain = plain_said;
}

replied_moves : (c : Content) (callee request : ℕ) (answer : ℕ → Message) (o : Option Open)
    → ((r q : ℕ) → is_final_message q (answer r) ≡ (r == q)) → ((r q : ℕ) → is_progress_message q (answer r) ≡ false)
    → find (is_invocation callee request) c.calls.list ≡ o → Base c
    → Moves c (replied c answer o)
replied_moves c callee request answer None is off e base = quiet_moves c base
replied_moves c callee request answer (Some call) is off e base =
    end_moves c call (to_session c.sessions.list call.caller (answer call.request)) base
    (find_has (is_invocation callee request) c.calls.list e).0
    (λ t r. told_pays is_final_message c.sessions.list call (answer call.request) (is call.request) t r)
    (plain_to c.sessions.list call.caller (answer call.request) (off call.request))

pub reply_moves : (c : Content) (callee request : ℕ) (answer : ℕ → Message)
    → ((r q : ℕ) → is_final_message q (answer r) ≡ (r == q)) → ((r q : ℕ) → is_progress_message q (answer r) ≡ false)
    → Base c → Moves c (reply_to c callee request answer)
reply_moves c callee request answer is off base =
    replied_moves c callee request answer (find (is_invocation callee request) c.calls.list) is off refl base

-- a step that may say a progressive result, to a caller whose call is open afterwards
pub record Continues (c : Content) (s : Step) : Type 0 where
  pub base : Base s.content
  pub pays : (t : Transport) (r : ℕ) → opens s.content t r + finals t r s.says ≤ opens c t r
  pub stays : (t : Transport) (r : ℕ) → partials t r s.says ≤ opens s.content t r

pub moves_continues : (c : Content) (s : Step) → Moves c s → Continues c s
moves_continues c s moves = record {
  base = moves.base;
  pays = moves.pays;
  stays = λ t r. let none : partials t r s.says ≡ 0 = moves.plain t r in omega (arith, none);
}

-- a progressive result is no final reply, and the call stays open
progressed_moves : (c : Content) (args : Args) (call : Open) → Base c → Has c.calls.list call
    → Continues c (record { content = c; says = to_session c.sessions.list call.caller (result_of true args call.request) })
progressed_moves c args call base there_is =
    let links = c.sessions.list in
    let result = result_of true args call.request in
    record {
      base = base;
      pays = λ t r.
          let none : finals t r (to_session links call.caller result) ≡ 0 =
          none_at is_final_message (transport_of links call.caller) result (λ q. refl) t r in
          omega (arith, none);
      stays = λ t r.
          let one : partials t r (to_session links call.caller result) ≤ bit (holds links t r call) =
          told_pays is_progress_message links call result (λ q. refl) t r in
          let less : bit (holds links t r call) + count (holds links t r) (filter (λ other. false) c.calls.list)
          ≤ count (holds links t r) c.calls.list =
          count_less (holds links t r) (λ other. false) c.calls.list call there_is refl in
          omega (arith, one, less);
    }

progressed_with : (c : Content) (callee request : ℕ) (args : Args) (o : Option Open)
    → find (is_invocation callee request) c.calls.list ≡ o → Base c
    → Continues c (progressed c args o)
progressed_with c callee request args None e base = moves_continues c (quiet c) (quiet_moves c base)
progressed_with c callee request args (Some call) e base =
    let said = to_session c.sessions.list call.caller (result_of true args call.request) in
    cond_both call.progress (record { content = c; says = said }) (quiet c) (λ (s : Step). Continues c s)
    (λ _. progressed_moves c args call base (find_has (is_invocation callee request) c.calls.list e).0)
    (λ _. moves_continues c (quiet c) (quiet_moves c base))

pub yield_moves : (c : Content) (requester : Requester) (it : Yield) → Base c → Continues c (on_yield c requester it)
yield_moves c requester it base =
    let found = peek c.calls.list requester.session it.request in
    let replying = reply_to c requester.session it.request (result_of false it.args) in
    cond_both it.progress (progressed c it.args found) replying (λ (s : Step). Continues c s)
    (λ _. progressed_with c requester.session it.request it.args found refl base)
    (λ _. moves_continues c replying
    (reply_moves c requester.session it.request (result_of false it.args) (λ r q. refl) (λ r q. refl) base))

pub failure_moves : (c : Content) (requester : Requester) (request : ℕ) (error : List ℕ) (args : Args) → Base c
    → Moves c (on_failure c requester request error args)
failure_moves c requester request error args base =
    reply_moves c requester.session request (failure error args) (λ r q. refl) (λ r q. refl) base

-- the caller gets the ERROR for its canceled call, after something that is no reply
canceled_pays : (c : Content) (t : Transport) (call : Open) (front : List Say)
    → at c.sessions.list t call.caller ≡ true → IsSilent front
    → (u : Transport) (r : ℕ)
    → finals u r (front ++ say t (refusal kind.Call call.request canceled) ∷ []) ≤ bit (holds c.sessions.list u r call)
canceled_pays c t call front here silent u r =
    let links = c.sessions.list in
    let last = say t (refusal kind.Call call.request canceled) ∷ [] in
    let both : finals u r (front ++ last) ≡ finals u r front + finals u r last =
    count_append (is_final u r) front last in
    let none : finals u r front ≡ 0 = no_finals front silent u r in
    let one : bit (call.request == r && same_transport t u) ≤ bit (holds links u r call) =
    bit_le (call.request == r && same_transport t u) (holds links u r call)
    (λ h. let parts = and_parts (call.request == r) (same_transport t u) h in
    and_from (call.request == r) (at links u call.caller) parts.0
    (subst (λ (v : Transport). at links v call.caller ≡ true) (same_is t u parts.1) here)) in
    omega (arith, both, none, one)

canceled_plain : (t : Transport) (call : Open) (front : List Say) → IsSilent front
    → IsPlain (front ++ say t (refusal kind.Call call.request canceled) ∷ [])
canceled_plain t call front silent =
    plain_both front (say t (refusal kind.Call call.request canceled) ∷ []) (no_partials front silent) (λ u r. refl)

cancel_moves : (c : Content) (requester : Requester) (call : Open) (mode : Mode) (announced : Bool) → Base c
    → Has c.calls.list call
    → at c.sessions.list requester.transport call.caller ≡ true
    → Moves c (canceled_as c requester (cancel_one call mode announced))
cancel_moves c requester call mode false base there_is here =
    end_moves c call _ base there_is (canceled_pays c requester.transport call [] here (λ t r. refl))
    (canceled_plain requester.transport call [] (λ t r. refl))
cancel_moves c requester call Skip true base there_is here =
    end_moves c call _ base there_is (canceled_pays c requester.transport call [] here (λ t r. refl))
    (canceled_plain requester.transport call [] (λ t r. refl))
cancel_moves c requester call Kill true base there_is here =
    let links = c.sessions.list in
    let front = to_session links call.callee (interrupt call Kill) in
    said_moves c (front ++ []) base
    (silent_both front [] (silent_to links call.callee (interrupt call Kill) (λ q. refl)) (λ t r. refl))
cancel_moves c requester call KillNoWait true base there_is here =
    let links = c.sessions.list in
    let front = to_session links call.callee (interrupt call KillNoWait) in
    let silent = silent_to links call.callee (interrupt call KillNoWait) (λ q. refl) in
    end_moves c call _ base there_is (canceled_pays c requester.transport call front here silent)
    (canceled_plain requester.transport call front silent)

cancel_found_moves : (c : Content) (requester : Requester) (request : ℕ) (mode : Mode) (o : Option Open)
    → call_of c.calls.list requester.session request ≡ o → Base c
    → at c.sessions.list requester.transport requester.session ≡ true
    → Moves c (cancel_found c requester mode o)
cancel_found_moves c requester request mode None e base here = quiet_moves c base
cancel_found_moves c requester request mode (Some call) e base here =
    let found = find_has (is_call requester.session request) c.calls.list e in
    let parts = and_parts (call.caller == requester.session) (call.request == request) found.1 in
    cancel_moves c requester call mode (announces c.sessions.list call.callee) base found.0
    (subst (λ (s : ℕ). at c.sessions.list requester.transport s ≡ true)
    (sym (eqb-true call.caller requester.session parts.0)) here)

pub on_cancel_moves : (c : Content) (requester : Requester) (it : Cancel) → Base c
    → at c.sessions.list requester.transport requester.session ≡ true → Moves c (on_cancel c requester it)
on_cancel_moves c requester it base here =
    cancel_found_moves c requester it.request it.mode (call_of c.calls.list requester.session it.request) refl base here

-- ---- a CALL

-- what a transport that asks under a request owes: at most one call or one reply; and all others pay
pub record Owes (c : Content) (t : Transport) (r : ℕ) (s : Step) : Type 0 where
  pub base : Base s.content
  pub owed : opens s.content t r + finals t r s.says ≤ 1
  pub paid : (u : Transport) (q : ℕ) → (t ≡ u → r ≡ q → ⊥) → opens s.content u q + finals u q s.says ≤ opens c u q
  pub plain : IsPlain s.says

pub moves_owes : (c : Content) (t : Transport) (r : ℕ) (s : Step) → Moves c s → opens c t r ≤ 1 → Owes c t r s
moves_owes c t r s moves once = record {
  base = moves.base;
  owed = let one : opens s.content t r + finals t r s.says ≤ opens c t r = moves.pays t r in omega (arith, one, once);
  paid = λ u q _. moves.pays u q;
  plain = moves.plain;
}

-- a request that is not open holds no call
none_open : (c : Content) (t : Transport) (session request : ℕ) → Base c → at c.sessions.list t session ≡ true
    → has c.calls.list session request ≡ false → opens c t request ≡ 0
none_open c t session request base here off =
    let links = c.sessions.list in
    count_none (holds links t request) c.calls.list
    (λ call h it. let parts = and_parts (call.request == request) (at links t call.caller) it in
    both_ways (has c.calls.list session request) off
    (any_has (is_call session request) h
    (and_from (call.caller == session) (call.request == request)
    (eq-eqb call.caller session (one_id links t call.caller session base.links parts.1 here)) parts.0)))

refused_owes : (c : Content) (t : Transport) (request : ℕ) (error : List ℕ) → Base c → opens c t request ≡ 0
    → Owes c t request (refuse c t kind.Call request error)
refused_owes c t request error base none = record {
  base = base;
  owed =
      let one : bit (request == request && same_transport t t) ≤ 1 =
      bit_one (request == request && same_transport t t) in
      let said : finals t request (refuse c t kind.Call request error).says
      ≡ bit (request == request && same_transport t t) + 0 = refl in
      omega (arith, one, said, none);
  paid = λ u q other.
      let off : bit (request == q && same_transport t u) ≡ 0 =
      bit_false (false_from_ne_true (request == q && same_transport t u)
      (λ h. let parts = and_parts (request == q) (same_transport t u) h in
      other (same_is t u parts.1) (eqb-true request q parts.0))) in
      let said : finals u q (refuse c t kind.Call request error).says ≡ bit (request == q && same_transport t u) + 0 =
      refl in
      omega (arith, off, said);
  plain = λ u q. refl;
}

-- a session that has a next invocation is there, and the invocation is not open
served_by : (links : List Link) (taken : List ℕ) (callee id : ℕ) (o : Option Link) → find (has_id callee) links ≡ o
    → invocation_of taken (found_session o) ≡ Some id → (is_taken links callee ≡ true) × (has_number taken id ≡ false)
served_by links taken callee id None e h = absurd (none h)
  where
    none : None ≡ Some id → ⊥
    none p = cc
served_by links taken callee id (Some link) e h = (
  any_has (has_id callee) (find_has (has_id callee) links e).0 (find_has (has_id callee) links e).1,
  free link.session h,
)
  where
    free : (session : Option Session) → invocation_of taken session ≡ Some id → has_number taken id ≡ false
    free None p = absurd (none p)
      where
        none : None ≡ Some id → ⊥
        none q = cc
    free (Some session) p = (free_invocation_free taken session.last_invocation id p).1

invoked_holds : (links : List Link) (callee id : ℕ) (u : Transport) (q : ℕ) (list : List Open)
    → count (holds (set_invocation links callee id) u q) list ≤ count (holds links u q) list
invoked_holds links callee id u q list =
    count_le (holds (set_invocation links callee id) u q) (holds links u q) list
    (λ call h it. let parts = and_parts (call.request == q) (at (set_invocation links callee id) u call.caller) it in
    and_from (call.request == q) (at links u call.caller) parts.0 (invoked_at links callee id u call.caller parts.1))

-- a call is opened, and its callee is sent something
abbrev opening : Content → Open → Registrations → Message → Step
opening c new registrations m =
    let links' = set_invocation c.sessions.list new.callee new.invocation in
    record {
      content = record {
        sessions = with_list c.sessions links';
        registrations = registrations;
        subscriptions = c.subscriptions;
        calls = with_call c.calls new;
      };
      says = to_session links' new.callee m;
    }

opening_base : (c : Content) (t : Transport) (new : Open) (registrations : Registrations) (m : Message) → Base c
    → at c.sessions.list t new.caller ≡ true → has c.calls.list new.caller new.request ≡ false
    → is_taken c.sessions.list new.callee ≡ true
    → has_number (open_of c.calls.list new.callee) new.invocation ≡ false
    → Base (opening c new registrations m).content
opening_base c t new registrations m base here off there_is free =
    let links = c.sessions.list in
    record {
      links = invoked_links links new.callee new.invocation base.links;
      known = λ other h. invoked_taken links new.callee new.invocation other.caller
          (⊎_elim (λ old. base.known other old)
          (λ e. subst (λ (k : Open). is_taken links k.caller ≡ true) e (at_taken links t new.caller here))
          (has_last c.calls.list new h));
      served = λ other h. invoked_taken links new.callee new.invocation other.callee
          (⊎_elim (λ old. base.served other old)
          (λ e. subst (λ (k : Open). is_taken links k.callee ≡ true) e there_is)
          (has_last c.calls.list new h));
      calls = call_opened c.calls new off free base.calls;
    }

-- how many calls are open then
opening_opens : (c : Content) (new : Open) (registrations : Registrations) (m : Message) (u : Transport) (q : ℕ)
    → opens (opening c new registrations m).content u q
    ≤ opens c u q + bit (new.request == q && at (set_invocation c.sessions.list new.callee new.invocation) u new.caller)
opening_opens c new registrations m u q =
    let links' = set_invocation c.sessions.list new.callee new.invocation in
    let less : count (holds links' u q) c.calls.list ≤ opens c u q =
    invoked_holds c.sessions.list new.callee new.invocation u q c.calls.list in
    let both : count (holds links' u q) (c.calls.list ++ new ∷ []) ≡ count (holds links' u q) c.calls.list
    + (bit (new.request == q && at links' u new.caller) + 0) = count_append (holds links' u q) c.calls.list (new ∷ []) in
    omega (arith, less, both)

opening_owes : (c : Content) (t : Transport) (new : Open) (registrations : Registrations) (m : Message) → Base c
    → at c.sessions.list t new.caller ≡ true → opens c t new.request ≡ 0
    → has c.calls.list new.caller new.request ≡ false
    → is_taken c.sessions.list new.callee ≡ true
    → has_number (open_of c.calls.list new.callee) new.invocation ≡ false
    → ((q : ℕ) → is_reply q m ≡ false) → Owes c t new.request (opening c new registrations m)
opening_owes c t new registrations m base here none off there_is free silent = record {
  base = opening_base c t new registrations m base here off there_is free;
  owed =
      let links' = set_invocation c.sessions.list new.callee new.invocation in
      let last : bit (new.request == new.request && at links' t new.caller) ≤ 1 =
      bit_one (new.request == new.request && at links' t new.caller) in
      let more : opens (opening c new registrations m).content t new.request
      ≤ opens c t new.request + bit (new.request == new.request && at links' t new.caller) =
      opening_opens c new registrations m t new.request in
      let said : finals t new.request (opening c new registrations m).says ≡ 0 =
      no_finals (to_session links' new.callee m) (silent_to links' new.callee m silent) t new.request in
      omega (arith, last, more, said, none);
  paid = λ u q other.
      let links' = set_invocation c.sessions.list new.callee new.invocation in
      let off : bit (new.request == q && at links' u new.caller) ≡ 0 =
      bit_false (false_from_ne_true (new.request == q && at links' u new.caller)
      (λ h. let parts = and_parts (new.request == q) (at links' u new.caller) h in
      other (one_transport c.sessions.list t u new.caller base.links here
      (invoked_at c.sessions.list new.callee new.invocation u new.caller parts.1))
      (eqb-true new.request q parts.0))) in
      let more : opens (opening c new registrations m).content u q
      ≤ opens c u q + bit (new.request == q && at links' u new.caller) =
      opening_opens c new registrations m u q in
      let said : finals u q (opening c new registrations m).says ≡ 0 =
      no_finals (to_session links' new.callee m) (silent_to links' new.callee m silent) u q in
      omega (arith, off, more, said);
  plain =
      let links' = set_invocation c.sessions.list new.callee new.invocation in
      no_partials (to_session links' new.callee m) (silent_to links' new.callee m silent);
}

invoked_owes : (c : Content) (requester : Requester) (call : Call) (chosen : Chosen) (o : Option ℕ) → Base c
    → has c.calls.list requester.session call.request ≡ false
    → invocation_of (open_of c.calls.list chosen.callee) (session_with c.sessions.list chosen.callee) ≡ o
    → at c.sessions.list requester.transport requester.session ≡ true → opens c requester.transport call.request ≡ 0
    → Owes c requester.transport call.request (invoke c requester call chosen (invoked_with c.sessions chosen.callee o))
invoked_owes c requester call chosen None base off e here none =
    refused_owes c requester.transport call.request limit base none
invoked_owes c requester call chosen (Some id) base off e here none =
    let is = served_by c.sessions.list (open_of c.calls.list chosen.callee) chosen.callee id
    (find (has_id chosen.callee) c.sessions.list) refl e in
    let new = open_call requester.session call.request chosen.callee id call.receive_progress in
    opening_owes c requester.transport new (turn c.registrations chosen.registration)
    (invocation id requester.session chosen call) base here none off is.0 is.1 (λ q. refl)

chosen_owes : (c : Content) (requester : Requester) (call : Call) (o : Option Chosen) → Base c
    → has c.calls.list requester.session call.request ≡ false
    → at c.sessions.list requester.transport requester.session ≡ true → opens c requester.transport call.request ≡ 0
    → Owes c requester.transport call.request (call_chosen c requester call o)
chosen_owes c requester call None base off here none =
    refused_owes c requester.transport call.request no_such_procedure base none
chosen_owes c requester call (Some chosen) base off here none =
    let taken = open_of c.calls.list chosen.callee in
    cond_both (is_full c.calls requester.session) (refuse_call c requester call limit)
    (invoke c requester call chosen (next_invocation c.sessions chosen.callee taken))
    (λ (s : Step). Owes c requester.transport call.request s)
    (λ _. refused_owes c requester.transport call.request limit base none)
    (λ _. invoked_owes c requester call chosen
    (invocation_of taken (session_with c.sessions.list chosen.callee)) base off refl here none)

call_uri_owes : (c : Content) (requester : Requester) (call : Call) (o : Result (List ℕ) UriFault) → Base c
    → has c.calls.list requester.session call.request ≡ false
    → at c.sessions.list requester.transport requester.session ≡ true
    → opens c requester.transport call.request ≡ 0
    → Owes c requester.transport call.request (call_uri c requester call o)
call_uri_owes c requester call (Ok uri) base new here none =
    cond_both (is_reserved uri) (refuse_call c requester call no_such_procedure) (call_chosen c requester call (choose c.registrations uri))
    (λ (s : Step). Owes c requester.transport call.request s)
    (λ _. refused_owes c requester.transport call.request no_such_procedure base none)
    (λ _. chosen_owes c requester call (choose c.registrations uri) base new here none)
call_uri_owes c requester call (Err fault) base new here none =
    refused_owes c requester.transport call.request invalid_uri base none

pub call_owes : (c : Content) (requester : Requester) (call : Call) → Base c
    → opens c requester.transport call.request ≤ 1
    → at c.sessions.list requester.transport requester.session ≡ true
    → Owes c requester.transport call.request (on_call c requester call)
call_owes c requester call base once here =
    let t = requester.transport in
    cond_both (has c.calls.list requester.session call.request) (violation c t) (call_uri c requester call (read_uri call.procedure))
    (λ (s : Step). Owes c t call.request s)
    (λ _. moves_owes c t call.request (violation c t) (violation_moves c t base) once)
    (λ new. call_uri_owes c requester call (read_uri call.procedure) base new here
    (none_open c t requester.session call.request base here new))

-- an unfit one is refused, or quiet
pub unfit_call_owes : (c : Content) (requester : Requester) (request : ℕ) (is_quiet : Bool) → Base c
    → opens c requester.transport request ≤ 1
    → at c.sessions.list requester.transport requester.session ≡ true
    → Owes c requester.transport request (unfit_call c requester request
    (if is_quiet then quiet c else refuse c requester.transport kind.Call request invalid_argument))
unfit_call_owes c requester request is_quiet base once here =
    let t = requester.transport in
    let refused = refuse c t kind.Call request invalid_argument in
    cond_both (has c.calls.list requester.session request) (violation c t) (if is_quiet then quiet c else refused)
    (λ (s : Step). Owes c t request s)
    (λ _. moves_owes c t request (violation c t) (violation_moves c t base) once)
    (λ new. cond_both is_quiet (quiet c) refused (λ (s : Step). Owes c t request s)
    (λ _. moves_owes c t request (quiet c) (quiet_moves c base) once)
    (λ _. refused_owes c t request invalid_argument base (none_open c t requester.session request base here new)))
