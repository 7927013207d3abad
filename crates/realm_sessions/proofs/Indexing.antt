-- What finds the connected transports and their sessions goes on finding them.
use Rattle.std.proofs.Common.{◌≡◌, ℕ, ◌+◌, ◌==◌, Bool, true, false, cond, List, [], ◌∷◌, ◌++◌, Option, None, Some}
use Rattle.std.proofs.Common.{refl, sym, ap, subst, ◌∙◌, arith, if◌then◌else◌, option_map}
use Rattle.std.proofs.lemmas.Bool.{eqb-true, false≢true}
use Rattle.paxos_packets.specs.declared.transport.Transport.{Transport}
use Rattle.paxos_packets.specs.Transport.{same_transport}
use Rattle.realm_lists.specs.OrderedList.{IsAbove, members, member_at, without, with_member}
use Rattle.realm_lists.specs.Finding.{AreRising, IsIndex}
use Rattle.realm_lists.proofs.Members.{count_pushed, count_without, members_pushed}
use Rattle.realm_lists.proofs.Telling.{index_came, index_back, index_gone}
use Rattle.realm_lists.proofs.Told.{told_member}
use Rattle.realm_lists.proofs.Changing.{index_changed, index_kept, index_longer, count_with}
use Rattle.realm_sessions.specs.declared.links.Session.{Session}
use Rattle.realm_sessions.specs.declared.links.Link.{Link}
use Rattle.realm_sessions.specs.Links.{is_of, is_session, has_id, is_open, has_session, is_connected, is_taken, session_count}
use Rattle.realm_sessions.specs.Links.{invoked, by_transport, id_of}
use Rattle.realm_sessions.specs.Connected.{place_of, place_with, AreIndexed, less_one}
use Rattle.realm_sessions.proofs.SoundLinks.{same_is}

-- a transport comes as the last one, without a session
pub indexed_pushed : (rows : List (ℕ × Link)) (transports new_transports : List (Transport × ℕ)) (ids : List (ℕ × ℕ)) (count : ℕ)
    (place : ℕ) (t : Transport) → IsAbove place rows → is_connected (members rows) t ≡ false
    → ((other : Transport) → place_of new_transports other ≡ (if same_transport t other then Some place else place_of transports other))
    → AreIndexed rows transports ids count
    → AreIndexed (rows ++ (place, record { transport = t; session = None }) ∷ []) new_transports ids count
indexed_pushed rows transports new_transports ids count place t above new put ok =
    let link : Link = record { transport = t; session = None } in
    record {
      transports_index = index_came same_transport same_is is_of (place_of transports) (place_of new_transports) rows place link t
          (λ other. refl) above new put ok.transports_index;
      ids_index = index_longer has_id (place_with ids) rows place link (λ id. refl) ok.ids_index;
      counted = ok.counted ∙ sym (ap session_count (members_pushed rows place link) ∙ count_pushed has_session (members rows) link
          ∙ plain (session_count (members rows)));
    }
  where
    plain : (n : ℕ) → n + 0 ≡ n
    plain n = omega arith

-- and is not put after all
pub indexed_back : (rows : List (ℕ × Link)) (transports between new_transports : List (Transport × ℕ)) (ids : List (ℕ × ℕ))
    (count : ℕ) (place : ℕ) (t : Transport) → is_connected (members rows) t ≡ false
    → ((other : Transport) → place_of between other ≡ (if same_transport t other then Some place else place_of transports other))
    → ((other : Transport) → place_of new_transports other ≡ (if same_transport t other then None else place_of between other))
    → AreIndexed rows transports ids count → AreIndexed rows new_transports ids count
indexed_back rows transports between new_transports ids count place t new put removed ok = record {
  transports_index = index_back same_transport same_is is_of (place_of transports) (place_of between) (place_of new_transports) rows place t
      new put removed ok.transports_index;
  ids_index = ok.ids_index;
  counted = ok.counted;
}

-- ---- a session opens

-- a link without a session has no id
no_session : (link : Link) (id : ℕ) → link.session ≡ None → has_id id link ≡ false
no_session link id none = ap (is_session id) none

free_of : (links : List Link) (session : Session) (id : ℕ) → (session.id == id) ≡ true → is_taken links session.id ≡ false
    → is_taken links id ≡ false
free_of links session id same free = subst (λ n. is_taken links n ≡ false) (eqb-true session.id id same) free

one_more : (b : Bool) (count before after : ℕ) → b ≡ false → count ≡ before → after + cond b 1 0 ≡ before + 1 → count + 1 ≡ after
one_more true count before after h is more = absurd (false≢true (sym h))
one_more false count before after h is more = omega (arith, is, more)

pub indexed_opened : (rows : List (ℕ × Link)) (transports : List (Transport × ℕ)) (ids new_ids : List (ℕ × ℕ)) (count : ℕ) (place : ℕ)
    (link : Link) (session : Session) → AreRising rows → member_at place rows ≡ Some link → link.session ≡ None
    → is_taken (members rows) session.id ≡ false
    → ((other : ℕ) → place_with new_ids other ≡ (if session.id == other then Some place else place_with ids other))
    → AreIndexed rows transports ids count
    → AreIndexed (with_member place (record { transport = link.transport; session = Some session }) rows) transports new_ids (count + 1)
indexed_opened rows transports ids new_ids count place link session rising there none free put ok =
    let new : Link = record { transport = link.transport; session = Some session } in
    record {
      transports_index = index_kept is_of (place_of transports) rows place link new rising there (λ t. refl) ok.transports_index;
      ids_index = index_changed has_id (place_with ids) (place_with new_ids) rows place link new
          rising there (λ id is was. free_of (members rows) session id is free)
          (λ id. put id
          ∙ ap (λ (b : Bool). cond (session.id == id) (Some place) (cond b None (place_with ids id))) (sym (no_session link id none)))
          ok.ids_index;
      counted = one_more (has_session link) count (session_count (members rows)) (session_count (members (with_member place new rows)))
          (ap is_open none) ok.counted (count_with has_session place rows link new there);
    }

-- ---- a session ends

one_less : (session : Option Session) (count before after : ℕ) → count ≡ before → after + cond (is_open session) 1 0 ≡ before + 0
    → less_one count session ≡ after
one_less None count before after is less = omega (arith, is, less)
one_less (Some session) count before after is less = omega (arith, is, less)

pub indexed_closed : (rows : List (ℕ × Link)) (transports : List (Transport × ℕ)) (ids new_ids : List (ℕ × ℕ)) (count : ℕ) (place : ℕ)
    (link : Link) → AreRising rows → member_at place rows ≡ Some link
    → ((other : ℕ) → place_with new_ids other ≡ (if is_session other link.session then None else place_with ids other))
    → AreIndexed rows transports ids count
    → AreIndexed (with_member place (record { transport = link.transport; session = None }) rows) transports new_ids
    (less_one count link.session)
indexed_closed rows transports ids new_ids count place link rising there gone ok =
    let new : Link = record { transport = link.transport; session = None } in
    record {
      transports_index = index_kept is_of (place_of transports) rows place link new rising there (λ t. refl) ok.transports_index;
      ids_index = index_changed has_id (place_with ids) (place_with new_ids) rows place link new
          rising there (λ id is was. absurd (false≢true is)) gone ok.ids_index;
      counted = one_less link.session count (session_count (members rows)) (session_count (members (with_member place new rows))) ok.counted
          (count_with has_session place rows link new there);
    }

-- ---- a transport goes

pub indexed_without : (rows : List (ℕ × Link)) (transports new_transports : List (Transport × ℕ)) (ids new_ids : List (ℕ × ℕ))
    (count : ℕ) (place : ℕ) (gone : Link) (t : Transport) → AreRising rows → member_at place rows ≡ Some gone → t ≡ gone.transport
    → ((other : Transport) → place_of new_transports other ≡ (if same_transport t other then None else place_of transports other))
    → ((other : ℕ) → place_with new_ids other ≡ (if is_session other gone.session then None else place_with ids other))
    → AreIndexed rows transports ids count → AreIndexed (without place rows) new_transports new_ids (less_one count gone.session)
indexed_without rows transports new_transports ids new_ids count place gone t rising there same removed went ok = record {
  transports_index = index_gone same_transport is_of (place_of transports) (place_of new_transports) rows place gone t
      (λ other. ap (λ (u : Transport). same_transport u other) (sym same)) rising there removed ok.transports_index;
  ids_index = index_gone (λ (key other : ℕ). has_id other gone) has_id (place_with ids)
      (place_with new_ids) rows place gone 0 (λ other. refl) rising there went
      ok.ids_index;
  counted = one_less gone.session count (session_count (members rows)) (session_count (members (without place rows))) ok.counted
      (count_without has_session place rows gone there ∙ plain (session_count (members rows)));
}
  where
    plain : (n : ℕ) → n ≡ n + 0
    plain n = omega arith

-- ---- a session is invoked

invoked_id : (invocation id : ℕ) (session : Option Session) → is_session id (invoked invocation session) ≡ is_session id session
invoked_id invocation id None = refl
invoked_id invocation id (Some session) = refl

invoked_open : (invocation : ℕ) (session : Option Session) → is_open (invoked invocation session) ≡ is_open session
invoked_open invocation None = refl
invoked_open invocation (Some session) = refl

as_many : (b c : Bool) (count before after : ℕ) → c ≡ b → count ≡ before → after + cond b 1 0 ≡ before + cond c 1 0 → count ≡ after
as_many true true count before after h is same = omega (arith, is, same)
as_many false false count before after h is same = omega (arith, is, same)
as_many true false count before after h is same = absurd (false≢true h)
as_many false true count before after h is same = absurd (false≢true (sym h))

pub indexed_invoked : (rows : List (ℕ × Link)) (transports : List (Transport × ℕ)) (ids : List (ℕ × ℕ)) (count : ℕ) (place : ℕ)
    (link : Link) (invocation : ℕ) → AreRising rows → member_at place rows ≡ Some link → AreIndexed rows transports ids count
    → AreIndexed (with_member place (record { transport = link.transport; session = invoked invocation link.session }) rows) transports ids
    count
indexed_invoked rows transports ids count place link invocation rising there ok =
    let new : Link = record { transport = link.transport; session = invoked invocation link.session } in
    record {
      transports_index = index_kept is_of (place_of transports) rows place link new rising there (λ t. refl) ok.transports_index;
      ids_index = index_kept has_id (place_with ids) rows place link new rising there (λ id. invoked_id invocation id link.session)
          ok.ids_index;
      counted = as_many (has_session link) (has_session new) count (session_count (members rows))
          (session_count (members (with_member place new rows))) (invoked_open invocation link.session) ok.counted
          (count_with has_session place rows link new there);
    }

-- ---- how a link is changed

abbrev pub with_this : Option Session → Link → Link
with_this session link = record { transport = link.transport; session = session }

abbrev pub with_last : ℕ → Link → Link
with_last invocation link = record { transport = link.transport; session = invoked invocation link.session }

-- a transport that is connected without a session has a link without one
pub is_without : (rows : List (ℕ × Link)) (look_up : Transport → Option ℕ) (t : Transport) (place : ℕ) (link : Link) → AreRising rows
    → IsIndex is_of look_up rows → look_up t ≡ Some place → member_at place rows ≡ Some link
    → by_transport (members rows) t ≡ Some None → link.session ≡ None
is_without rows look_up t place link rising ok is there without =
    let found = told_member (is_of t) (look_up t) rows place rising is (ok.found t) (ok.told t place is) ∙ there in
    nobody link.session (same_some (sym (ap (option_map id_of) found) ∙ without))
  where
    same_some : {o u : Option ℕ} → Some o ≡ Some u → o ≡ u
    same_some h = cc

    nobody : (o : Option Session) → option_map (λ (session : Session). session.id) o ≡ None → o ≡ None
    nobody None h = refl
    nobody (Some session) h = cc
