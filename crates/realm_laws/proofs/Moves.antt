-- An open call is paid for by its final reply: no step makes the open calls under a request of a transport more, and each final reply that
-- it says leaves one call fewer open. No such step says a progressive result.
use Rattle.std.proofs.Common.{◌≡◌, inl, inr, ℕ, ◌+◌, ◌≤◌, ◌==◌, Bool, true, false, not, ◌&&◌, ◌||◌, refl, sym, ◌∙◌}
use Rattle.std.proofs.Common.{ap, subst, List, []}
use Rattle.std.proofs.Common.{◌∷◌, ◌++◌, filter, Option, Some, None, arith}
use Rattle.std.specs.List.{flat_map}
use Rattle.std.proofs.lemmas.Bool.{cond_both, and_parts, and_from, eq-eqb, both_ways, false≢true}
use Rattle.paxos_packets.specs.declared.transport.Transport.{Transport}
use Rattle.paxos_packets.specs.Transport.{same_transport}
use Rattle.wamp_ids.specs.declared.policy.Mode.TheVariants.{KillNoWait}
use Rattle.wamp_message_types.specs.declared.request_kind.RequestKind.TheVariants as kind
use Rattle.wamp_message_types.specs.declared.message.Message.{Message}
use Rattle.realm_sessions.specs.declared.links.Link.{Link}
use Rattle.realm_sessions.specs.Links.{is_taken, by_transport, transport_of, announces, set_session, without_transport}
use Rattle.realm_sessions.specs.Laws.{AreSoundLinks}
use Rattle.realm_sessions.proofs.SoundLinks.{same_is, closed_sound, removed_sound}
use Rattle.realm_calls.specs.declared.calls.Open.{Open}
use Rattle.realm_calls.specs.Calls.{is_to, calls_to, calls_by, without_callee, without_caller}
use Rattle.realm_calls.specs.Laws.{AreSoundCalls}
use Rattle.realm_calls.proofs.SoundCalls.{kept_sound}
use Rattle.realm_machine.specs.declared.sayings.say.Out.{Out}
use Rattle.realm_machine.specs.declared.sayings.say.Out.TheVariants.{Send, Close}
use Rattle.realm_machine.specs.declared.sayings.say.Say.{Say}
use Rattle.realm_machine.specs.Sayings.{say, shut, say_to, to_session, refusal, abort, goodbye as goodbye_for, canceled}
use Rattle.realm_machine.specs.Sayings.{protocol_violation, goodbye_and_out}
use Rattle.realm_machine.specs.Sayings.Endings.{end_for_caller, end_for_callee, farewell}
use Rattle.realm_machine.specs.Sayings.Invocations.{interrupt}
use Rattle.realm_machine.specs.Content.{Content, Step, quiet, and_then, with_links, with_calls}
use Rattle.realm_machine.specs.Leaving.{leave_session, leave}
use Rattle.realm_machine.specs.Leaving.{remove, stop, violation, aborted, goodbye, one_gone, all_gone}
use Rattle.realm_laws.specs.Trace.{is_final_message, is_progress_message, is_sent, is_said, is_final, is_progress}
use Rattle.realm_laws.proofs.Has.{Has, has_filter, filter_test}
use Rattle.realm_laws.proofs.Counts.{bit, count, bit_le, count_append, count_le, count_filter, count_split, count_flat}
use Rattle.realm_laws.proofs.Counts.{count_flat_none}
use Rattle.realm_laws.proofs.Standing.{at, IsEmptyAt, one_id, place_at, session_at, empty_at, cleared_at, cleared_empty}
use Rattle.realm_laws.proofs.Standing.{set_taken}
use Rattle.realm_laws.proofs.Standing.{removed_at, removed_taken}

-- the call is under this request, and its caller is at this transport
abbrev pub holds : List Link → Transport → ℕ → Open → Bool
holds links t r call = call.request == r && at links t call.caller

abbrev pub opens : Content → Transport → ℕ → ℕ
opens c t r = count (holds c.sessions.list t r) c.calls.list

-- how many messages that pass the test are said to the transport
abbrev pub tells : (ℕ → Message → Bool) → Transport → ℕ → List Say → ℕ
tells test t r said = count (is_said test t r) said

abbrev pub finals : Transport → ℕ → List Say → ℕ
finals t r said = tells is_final_message t r said

abbrev pub partials : Transport → ℕ → List Say → ℕ
partials t r said = tells is_progress_message t r said

-- a final reply or a progressive result
abbrev pub is_reply : ℕ → Message → Bool
is_reply r m = is_final_message r m || is_progress_message r m

-- no progressive result is said
abbrev pub IsPlain : List Say → Type 0
IsPlain said = (t : Transport) (r : ℕ) → partials t r said ≡ 0

pub record Base (c : Content) : Type 0 where
  pub links : AreSoundLinks c.sessions.list
  -- callers are sessions that are there
  pub known : (call : Open) → Has c.calls.list call → is_taken c.sessions.list call.caller ≡ true
  -- so are callees
  pub served : (call : Open) → Has c.calls.list call → is_taken c.sessions.list call.callee ≡ true
  -- no two calls have one caller and request, nor one callee and invocation
  pub calls : AreSoundCalls c.calls.list

pub record Moves (c : Content) (s : Step) : Type 0 where
  pub base : Base s.content
  pub pays : (t : Transport) (r : ℕ) → opens s.content t r + finals t r s.says ≤ opens c t r
  pub plain : IsPlain s.says

-- ---- sayings that are no reply

abbrev pub IsSilent : List Say → Type 0
IsSilent said = (t : Transport) (r : ℕ) → tells is_reply t r said ≡ 0

-- a test that another one implies
fewer_tells : (test wide : ℕ → Message → Bool) (t : Transport) (r : ℕ) (said : List Say)
    → ((m : Message) → test r m ≡ true → wide r m ≡ true) → tells test t r said ≤ tells wide t r said
fewer_tells test wide t r said wider =
    count_le (is_said test t r) (is_said wide t r) said
    (λ it h passes. let parts = and_parts (is_sent test r it.out) (same_transport it.transport t) passes in
    and_from (is_sent wide r it.out) (same_transport it.transport t) (sent it.out parts.0) parts.1)
  where
    sent : (out : Out) → is_sent test r out ≡ true → is_sent wide r out ≡ true
    sent (Send m) e = wider m e
    sent Close e = absurd (false≢true e)

or_first : (a b : Bool) → a ≡ true → (a || b) ≡ true
or_first true b e = refl
or_first false b e = absurd (false≢true e)

or_second : (a b : Bool) → b ≡ true → (a || b) ≡ true
or_second true b e = refl
or_second false b e = e

pub no_finals : (said : List Say) → IsSilent said → (t : Transport) (r : ℕ) → finals t r said ≡ 0
no_finals said silent t r =
    let none : tells is_reply t r said ≡ 0 = silent t r in
    let fewer : finals t r said ≤ tells is_reply t r said =
    fewer_tells is_final_message is_reply t r said (λ m e. or_first (is_final_message r m) (is_progress_message r m) e) in
    omega (arith, none, fewer)

pub no_partials : (said : List Say) → IsSilent said → IsPlain said
no_partials said silent t r =
    let none : tells is_reply t r said ≡ 0 = silent t r in
    let fewer : partials t r said ≤ tells is_reply t r said =
    fewer_tells is_progress_message is_reply t r said
    (λ m e. or_second (is_final_message r m) (is_progress_message r m) e) in
    omega (arith, none, fewer)

pub none_at : (test : ℕ → Message → Bool) (o : Option Transport) (m : Message) → ((q : ℕ) → test q m ≡ false)
    → (t : Transport) (r : ℕ) → tells test t r (say_to o m) ≡ 0
none_at test None m off t r = refl
none_at test (Some u) m off t r =
    let none : tells test t r (say_to (Some u) m) ≡ 0 = ap (λ b. bit (b && same_transport u t) + 0) (off r) in none

pub silent_to : (links : List Link) (s : ℕ) (m : Message) → ((q : ℕ) → is_reply q m ≡ false)
    → IsSilent (to_session links s m)
silent_to links s m off = none_at is_reply (transport_of links s) m off

pub plain_to : (links : List Link) (s : ℕ) (m : Message) → ((q : ℕ) → is_progress_message q m ≡ false)
    → IsPlain (to_session links s m)
plain_to links s m off = none_at is_progress_message (transport_of links s) m off

none_both : (test : ℕ → Message → Bool) (t : Transport) (r : ℕ) (a b : List Say) → tells test t r a ≡ 0 → tells test t r b ≡ 0
    → tells test t r (a ++ b) ≡ 0
none_both test t r a b one two =
    let both : tells test t r (a ++ b) ≡ tells test t r a + tells test t r b = count_append (is_said test t r) a b in
    omega (arith, both, one, two)

pub silent_both : (a b : List Say) → IsSilent a → IsSilent b → IsSilent (a ++ b)
silent_both a b first second t r = none_both is_reply t r a b (first t r) (second t r)

pub plain_both : (a b : List Say) → IsPlain a → IsPlain b → IsPlain (a ++ b)
plain_both a b first second t r = none_both is_progress_message t r a b (first t r) (second t r)

-- ---- moves

pub still_moves : (c d : Content) (said : List Say) → Base d → d.calls.list ≡ c.calls.list
    → ((t : Transport) (call : Open) → Has c.calls.list call → at d.sessions.list t call.caller ≡ true
    → at c.sessions.list t call.caller ≡ true)
    → IsSilent said → Moves c (record { content = d; says = said })
still_moves c d said base same fewer silent = record {
  base = base;
  pays = λ t r.
      let none : finals t r said ≡ 0 = no_finals said silent t r in
      let all : opens d t r ≡ count (holds d.sessions.list t r) c.calls.list =
      ap (count (holds d.sessions.list t r)) same in
      let less : count (holds d.sessions.list t r) c.calls.list ≤ opens c t r =
      count_le (holds d.sessions.list t r) (holds c.sessions.list t r) c.calls.list
      (λ call h holds'. let parts = and_parts (call.request == r) (at d.sessions.list t call.caller) holds' in
      and_from (call.request == r) (at c.sessions.list t call.caller) parts.0 (fewer t call h parts.1)) in
      omega (arith, none, all, less);
  plain = no_partials said silent;
}

-- the content stays, and no reply is said
pub said_moves : (c : Content) (said : List Say) → Base c → IsSilent said
    → Moves c (record { content = c; says = said })
said_moves c said base silent = still_moves c c said base refl (λ t call h stands. stands) silent

pub quiet_moves : (c : Content) → Base c → Moves c (quiet c)
quiet_moves c base = said_moves c [] base (λ t r. refl)

pub moves_then : (c : Content) (a : Step) (f : Content → Step) → Moves c a → Moves a.content (f a.content)
    → Moves c (and_then a f)
moves_then c a f first second = record {
  base = second.base;
  pays = λ t r.
      let both : finals t r (a.says ++ (f a.content).says) ≡ finals t r a.says + finals t r (f a.content).says =
      count_append (is_final t r) a.says (f a.content).says in
      let one : opens a.content t r + finals t r a.says ≤ opens c t r = first.pays t r in
      let two : opens (f a.content).content t r + finals t r (f a.content).says ≤ opens a.content t r =
      second.pays t r in
      omega (arith, both, one, two);
  plain = plain_both a.says (f a.content).says first.plain second.plain;
}

-- ---- calls end with a session

-- a reply to the caller's transport is one for that call
pub told_pays : (test : ℕ → Message → Bool) (links : List Link) (call : Open) (m : Message)
    → ((q : ℕ) → test q m ≡ (call.request == q))
    → (t : Transport) (r : ℕ) → tells test t r (to_session links call.caller m) ≤ bit (holds links t r call)
told_pays test links call m is t r = by_place (transport_of links call.caller) refl
  where
    by_place : (o : Option Transport) → transport_of links call.caller ≡ o
        → tells test t r (say_to o m) ≤ bit (holds links t r call)
    by_place None e = omega arith
    by_place (Some u) e =
        let less : bit (test r m && same_transport u t) ≤ bit (holds links t r call) =
        bit_le (test r m && same_transport u t) (holds links t r call)
        (λ h. let parts = and_parts (test r m) (same_transport u t) h in
        and_from (call.request == r) (at links t call.caller) (sym (is r) ∙ parts.0)
        (subst (λ (v : Transport). at links v call.caller ≡ true) (same_is u t parts.1)
        (place_at links call.caller u e))) in
        let is_one : tells test t r (say_to (Some u) m) ≡ bit (test r m && same_transport u t) + 0 = refl in
        omega (arith, is_one, less)

pub kept_base : (c : Content) (test : Open → Bool) → Base c → Base (with_calls c (filter test c.calls.list))
kept_base c test base = record {
  links = base.links;
  known = λ call h. base.known call (has_filter test c.calls.list h);
  served = λ call h. base.served call (has_filter test c.calls.list h);
  calls = kept_sound test c.calls.list base.calls;
}

silent_end : (links : List Link) (call : Open) → IsSilent (end_for_callee links call)
silent_end links call =
    cond_both (announces links call.callee) (to_session links call.callee (interrupt call KillNoWait)) [] IsSilent
    (λ _. silent_to links call.callee (interrupt call KillNoWait) (λ q. refl)) (λ _ t r. refl)

-- ---- a session leaves

pub not_is : (b : Bool) → not b ≡ true → b ≡ false
not_is true h = absurd (false≢true h)
not_is false h = refl

callee_off : (to by : Bool) → not (to && not by) ≡ true → by ≡ false → to ≡ false
callee_off true true h e = absurd (false≢true (sym e))
callee_off true false h e = absurd (false≢true h)
callee_off false by h e = refl

-- of the calls that are left none is by the session or to it
others_left : (list : List Open) (session : ℕ) (call : Open)
    → Has (without_caller (without_callee list session) session) call
    → ((call.caller == session) ≡ false) × ((call.callee == session) ≡ false)
others_left list session call h =
    let by : (call.caller == session) ≡ false = not_is (call.caller == session)
    (filter_test (λ (it : Open). not (it.caller == session)) (without_callee list session) h) in
    let to = filter_test (λ it. not (is_to session it)) list
    (has_filter (λ (it : Open). not (it.caller == session)) (without_callee list session) h) in
    (by, callee_off (call.callee == session) (call.caller == session) to by)

-- its calls end, and each caller gets the ERROR for its own
left_moves : (c : Content) (t : Transport) (session : ℕ) → Base c → by_transport c.sessions.list t ≡ Some (Some session)
    → Moves c (leave_session c t (Some (Some session)))
left_moves c t session base found = record { base = left_base; pays = left_pays; plain = left_plain }
  where
    links : List Link
    links = c.sessions.list

    cleared : List Link
    cleared = set_session links t None

    list : List Open
    list = c.calls.list

    others : List Open
    others = without_callee list session

    left : List Open
    left = without_caller others session

    stays : (s : ℕ) → (s == session) ≡ false → is_taken links s ≡ true → is_taken cleared s ≡ true
    stays s off taken =
        set_taken links t None s
        (λ stands. both_ways (s == session) off
        (eq-eqb s session (one_id links t s session base.links stands (session_at links t session found))))
        taken

    was : {call : Open} → Has left call → Has list call
    was h =
        has_filter (λ it. not (is_to session it)) list (has_filter (λ (it : Open). not (it.caller == session)) others h)

    left_base : Base (leave_session c t (Some (Some session))).content
    left_base = record {
      links = closed_sound links t base.links;
      known = λ call h. stays call.caller (others_left list session call h).0 (base.known call (was h));
      served = λ call h. stays call.callee (others_left list session call h).1 (base.served call (was h));
      calls = kept_sound (λ (it : Open). not (it.caller == session)) others
          (kept_sound (λ it. not (is_to session it)) list base.calls);
    }

    left_pays : (u : Transport) (r : ℕ)
        → opens (leave_session c t (Some (Some session))).content u r
        + finals u r (leave_session c t (Some (Some session))).says ≤ opens c u r
    left_pays u r =
        let to = flat_map (end_for_caller cleared) (calls_to list session) in
        let by = flat_map (end_for_callee cleared) (calls_by others session) in
        let paid : finals u r to ≤ count (holds cleared u r) (calls_to list session) =
        count_flat (is_final u r) (holds cleared u r) (end_for_caller cleared) (calls_to list session)
        (λ call. told_pays is_final_message cleared call (refusal kind.Call call.request canceled) (λ q. refl) u r) in
        let none : finals u r by ≡ 0 =
        count_flat_none (is_final u r) (end_for_callee cleared) (calls_by others session)
        (λ call. no_finals (end_for_callee cleared call) (silent_end cleared call) u r) in
        let first : finals u r (to ++ (by ++ [])) ≡ finals u r to + finals u r (by ++ []) =
        count_append (is_final u r) to (by ++ []) in
        let second : finals u r (by ++ []) ≡ finals u r by + 0 = count_append (is_final u r) by [] in
        let fewer : count (holds cleared u r) left ≤ count (holds cleared u r) others =
        count_filter (holds cleared u r) (λ (call : Open). not (call.caller == session)) others in
        let split : count (holds cleared u r) others + count (holds cleared u r) (calls_to list session)
        ≤ count (holds cleared u r) list =
        count_split (holds cleared u r) (λ call. not (is_to session call)) (is_to session) list
        (λ call off on. both_ways (not (is_to session call)) (ap not on) off) in
        let less : count (holds cleared u r) list ≤ opens c u r =
        count_le (holds cleared u r) (holds links u r) list
        (λ call h stands. let parts = and_parts (call.request == r) (at cleared u call.caller) stands in
        and_from (call.request == r) (at links u call.caller) parts.0 (cleared_at links t u call.caller parts.1)) in
        omega (arith, paid, none, first, second, fewer, split, less)

    left_plain : IsPlain (leave_session c t (Some (Some session))).says
    left_plain =
        let to = flat_map (end_for_caller cleared) (calls_to list session) in
        let by = flat_map (end_for_callee cleared) (calls_by others session) in
        plain_both to (by ++ [])
        (λ u r. count_flat_none (is_progress u r) (end_for_caller cleared) (calls_to list session)
        (λ call. plain_to cleared call.caller (refusal kind.Call call.request canceled) (λ q. refl) u r))
        (plain_both by []
        (λ u r. count_flat_none (is_progress u r) (end_for_callee cleared) (calls_by others session)
        (λ call. no_partials (end_for_callee cleared call) (silent_end cleared call) u r))
        (λ u r. refl))

leave_with : (c : Content) (t : Transport) (o : Option (Option ℕ)) → by_transport c.sessions.list t ≡ o → Base c
    → Moves c (leave_session c t o)
leave_with c t None e base = quiet_moves c base
leave_with c t (Some None) e base = quiet_moves c base
leave_with c t (Some (Some session)) e base = left_moves c t session base e

pub leave_moves : (c : Content) (t : Transport) → Base c → Moves c (leave c t)
leave_moves c t base = leave_with c t (by_transport c.sessions.list t) refl base

empty_with : (c : Content) (t : Transport) (o : Option (Option ℕ)) → by_transport c.sessions.list t ≡ o → Base c
    → IsEmptyAt (leave_session c t o).content.sessions.list t
empty_with c t None e base = empty_at c.sessions.list t base.links (inl e)
empty_with c t (Some None) e base = empty_at c.sessions.list t base.links (inr e)
empty_with c t (Some (Some session)) e base = cleared_empty c.sessions.list t

pub leave_empty : (c : Content) (t : Transport) → Base c → IsEmptyAt (leave c t).content.sessions.list t
leave_empty c t base = empty_with c t (by_transport c.sessions.list t) refl base

go_moves : (d : Content) (t : Transport) → Base d → IsEmptyAt d.sessions.list t
    → Moves d (quiet (with_links d (without_transport d.sessions.list t)))
go_moves d t base empty =
    let links = d.sessions.list in
    still_moves d (with_links d (without_transport links t)) []
    (record {
      links = removed_sound links t base.links;
      known = λ call h. removed_taken links t call.caller (empty call.caller) (base.known call h);
      served = λ call h. removed_taken links t call.callee (empty call.callee) (base.served call h);
      calls = base.calls;
    })
    refl (λ u call h stands. removed_at links t u call.caller stands) (λ u r. refl)

pub remove_moves : (c : Content) (t : Transport) → Base c → Moves c (remove c t)
remove_moves c t base =
    let left = leave_moves c t base in
    moves_then c (leave c t) (λ d. quiet (with_links d (without_transport d.sessions.list t))) left
    (go_moves (leave c t).content t left.base (leave_empty c t base))

-- something that is no reply is said after it
behind_moves : (c : Content) (a : Step) (said : List Say) → Moves c a → IsSilent said
    → Moves c (and_then a (λ d. record { content = d; says = said }))
behind_moves c a said moves silent =
    moves_then c a (λ d. record { content = d; says = said }) moves (said_moves a.content said moves.base silent)

pub stop_moves : (c : Content) (t : Transport) (reason : List ℕ) → Base c → Moves c (stop c t reason)
stop_moves c t reason base =
    behind_moves c (remove c t) (say t (abort reason) ∷ (shut t ∷ [])) (remove_moves c t base) (λ u r. refl)

pub violation_moves : (c : Content) (t : Transport) → Base c → Moves c (violation c t)
violation_moves c t base = stop_moves c t protocol_violation base

pub aborted_moves : (c : Content) (t : Transport) → Base c → Moves c (aborted c t)
aborted_moves c t base = behind_moves c (remove c t) (shut t ∷ []) (remove_moves c t base) (λ u r. refl)

pub goodbye_moves : (c : Content) (t : Transport) → Base c → Moves c (goodbye c t)
goodbye_moves c t base =
    behind_moves c (leave c t) (say t (goodbye_for goodbye_and_out) ∷ []) (leave_moves c t base) (λ u r. refl)

-- ---- a node is gone

silent_farewell : (t : Transport) (o : Option (Option ℕ)) → IsSilent (farewell t o)
silent_farewell t None u r = refl
silent_farewell t (Some None) u r = refl
silent_farewell t (Some (Some session)) u r = refl

one_gone_moves : (c : Content) (t : Transport) → Base c → Moves c (one_gone c t)
one_gone_moves c t base =
    behind_moves c (remove c t) (farewell t (by_transport c.sessions.list t)) (remove_moves c t base)
    (silent_farewell t (by_transport c.sessions.list t))

pub all_gone_moves : (ts : List Transport) (c : Content) → Base c → Moves c (all_gone ts c)
all_gone_moves [] c base = quiet_moves c base
all_gone_moves (t ∷ ts) c base =
    let one = one_gone_moves c t base in
    moves_then c (one_gone c t) (all_gone ts) one (all_gone_moves ts (one_gone c t).content one.base)
