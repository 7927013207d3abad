-- What every realm keeps of its links: each transport is there once, and no two sessions have one id.
use Rattle.std.proofs.Common.{◌≡◌, ◌≢◌, ℕ, ◌==◌, true, false, not, ◌&&◌, List, [], ◌∷◌, ◌++◌, Option, None, Some, refl, sym, ap, subst}
use Rattle.std.proofs.Common.{◌∙◌, ◌⊎◌, ⊎_elim, inl, inr}
use Rattle.std.specs.List.{All}
use Rattle.std.proofs.lemmas.Bool.{and_parts, and_from, eqb-true, eq-eqb, cond_both, both_ways, false≢true}
use Rattle.std.proofs.lemmas.List.Elements.{All-weaker}
use Rattle.std.proofs.lemmas.List.Kept.{AllPairs-filter}
use Rattle.std.proofs.lemmas.List.Quantifiers.{all_pairs_push}
use Rattle.paxos_packets.specs.declared.transport.Transport.{Transport}
use Rattle.realm_sessions.specs.declared.links.Session.{Session}
use Rattle.realm_sessions.specs.declared.links.Link.{Link}
use Rattle.paxos_packets.specs.Transport.{same_transport}
use Rattle.realm_sessions.specs.Links.{is_of, is_session, has_id, is_taken, is_connected, connect, put_session}
use Rattle.realm_sessions.specs.Links.{set_session, without_transport}
use Rattle.realm_sessions.specs.Laws.{AreOtherSessions, AreSoundLinks}
use Rattle.realm_sessions.proofs.Pairs.{AllPairs-nil, AllPairs-map, All-none}

pub same_is : (a b : Transport) → same_transport a b ≡ true → a ≡ b
same_is a b h =
    let parts = and_parts (a.node == b.node) ((a.boot == b.boot) && (a.number == b.number)) h in
    let rest = and_parts (a.boot == b.boot) (a.number == b.number) parts.1 in
    let node = eqb-true a.node b.node parts.0 in
    let boot = eqb-true a.boot b.boot rest.0 in
    let number = eqb-true a.number b.number rest.1 in
    λ i. record { node = node i; boot = boot i; number = number i }

pub is_same : (a b : Transport) → a ≡ b → same_transport a b ≡ true
is_same a b h =
    and_from (a.node == b.node) ((a.boot == b.boot) && (a.number == b.number)) (eq-eqb a.node b.node (ap (λ (t : Transport). t.node) h))
    (and_from (a.boot == b.boot) (a.number == b.number) (eq-eqb a.boot b.boot (ap (λ (t : Transport). t.boot) h))
    (eq-eqb a.number b.number (ap (λ (t : Transport). t.number) h)))

abbrev Apart : Link → Link → Type 0
Apart a b = a.transport ≢ b.transport

pub nothing_sound : AreSoundLinks []
nothing_sound = record { transports = AllPairs-nil Apart; sessions = AllPairs-nil AreOtherSessions }

pub removed_sound : (links : List Link) (t : Transport) → AreSoundLinks links → AreSoundLinks (without_transport links t)
removed_sound links t ok = record {
  transports = AllPairs-filter Apart (λ link. not (is_of t link)) links ok.transports;
  sessions = AllPairs-filter AreOtherSessions (λ link. not (is_of t link)) links ok.sessions;
}

-- a link without a session has no id
no_session : (t : Transport) (id : ℕ) → has_id id (record { transport = t; session = None }) ≡ true → ⊥
no_session t id h = false≢true h

added_sound : (links : List Link) (t : Transport) → is_connected links t ≡ false → AreSoundLinks links
    → AreSoundLinks (links ++ record { transport = t; session = None } ∷ [])
added_sound links t new ok =
    let link : Link = record { transport = t; session = None } in
    let others : All (λ (a : Link). Apart a link) links = All-weaker (λ (a : Link). is_of t a ≡ false) (λ (a : Link). Apart a link)
    (λ a off same. both_ways (is_of t a) off (is_same a.transport t same)) links (All-none (is_of t) links new) in
    record {
      transports = all_pairs_push Apart links link ok.transports (λ k d within. others k d within);
      sessions = all_pairs_push AreOtherSessions links link ok.sessions (λ k d within id has hasnt. no_session t id hasnt);
    }

pub connected_sound : (links : List Link) (t : Transport) → AreSoundLinks links → AreSoundLinks (connect links t)
connected_sound links t ok =
    cond_both (is_connected links t) links (links ++ record { transport = t; session = None } ∷ []) AreSoundLinks
    (λ there. ok) (λ new. added_sound links t new ok)

-- ---- a session is set

put_transport : (t : Transport) (session : Option Session) (link : Link) → (put_session t session link).transport ≡ link.transport
put_transport t session link =
    cond_both (is_of t link) (record { transport = link.transport; session = session }) link
    (λ (l : Link). l.transport ≡ link.transport)
    (λ _. refl) (λ _. refl)

-- whose id a link has then: the new session's, at this transport, or the one that it had
pub put_id : (t : Transport) (session : Option Session) (id : ℕ) (link : Link) → has_id id (put_session t session link) ≡ true
    → ((is_of t link ≡ true) × (is_session id session ≡ true)) ⊎ (has_id id link ≡ true)
put_id t session id link =
    cond_both (is_of t link) (record { transport = link.transport; session = session }) link
    (λ (l : Link). has_id id l ≡ true → ((is_of t link ≡ true) × (is_session id session ≡ true)) ⊎ (has_id id link ≡ true))
    (λ here h. inl (here, h)) (λ _ h. inr h)

-- the session's id is no other link's
abbrev IsFree : Option Session → Link → Type 0
IsFree session link = (id : ℕ) → is_session id session ≡ true → has_id id link ≡ true → ⊥

put_sessions : (t : Transport) (session : Option Session) (a b : Link) → IsFree session a → IsFree session b
    → Apart a b × AreOtherSessions a b → AreOtherSessions (put_session t session a) (put_session t session b)
put_sessions t session a b free_a free_b apart id at_a at_b =
    ⊎_elim
    (λ new_a. ⊎_elim
    (λ new_b. apart.0 (same_is a.transport t new_a.0 ∙ sym (same_is b.transport t new_b.0)))
    (λ old_b. free_b id new_a.1 old_b)
    (put_id t session id b at_b))
    (λ old_a. ⊎_elim
    (λ new_b. free_a id new_b.1 old_a)
    (λ old_b. apart.1 id old_a old_b)
    (put_id t session id b at_b))
    (put_id t session id a at_a)

set_sound : (links : List Link) (t : Transport) (session : Option Session) → All (IsFree session) links → AreSoundLinks links
    → AreSoundLinks (set_session links t session)
set_sound links t session free ok = record {
  transports = AllPairs-map (put_session t session) (IsFree session) Apart Apart
      (λ a b _ _ apart same. apart (sym (put_transport t session a) ∙ (same ∙ put_transport t session b))) links free ok.transports;
  sessions = AllPairs-map (put_session t session) (IsFree session) (λ (a b : Link). Apart a b × AreOtherSessions a b) AreOtherSessions
      (put_sessions t session) links free (λ i j d before within. (ok.transports i j d before within, ok.sessions i j d before within));
}

pub closed_sound : (links : List Link) (t : Transport) → AreSoundLinks links → AreSoundLinks (set_session links t None)
closed_sound links t ok = set_sound links t None (λ k d within id none has. false≢true none) ok

session_is : (id other : ℕ) (session : Session) → is_session other (Some session) ≡ true → session.id ≡ id → other ≡ id
session_is id other session h is = sym (eqb-true session.id other h) ∙ is

pub opened_sound : (links : List Link) (t : Transport) (session : Session) → is_taken links session.id ≡ false → AreSoundLinks links
    → AreSoundLinks (set_session links t (Some session))
opened_sound links t session free ok =
    set_sound links t (Some session)
    (All-weaker (λ (link : Link). has_id session.id link ≡ false) (IsFree (Some session))
    (λ link off id is has. both_ways (has_id session.id link) off
    (subst (λ (n : ℕ). has_id n link ≡ true) (sym (eqb-true session.id id is)) has))
    links (All-none (has_id session.id) links free)) ok
