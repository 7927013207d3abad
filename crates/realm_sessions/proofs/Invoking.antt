-- What an invocation's id leaves as it was: where the sessions are, and what they announced.
use Rattle.std.proofs.Common.{◌≡◌, ◌≢◌, ℕ, Bool, List, [], ◌∷◌, map, find, Option, None, Some, option_map, refl, sym, ap, ◌∙◌}
use Rattle.std.proofs.Common.{cond}
use Rattle.std.specs.Prelude.{⊤}
use Rattle.std.proofs.lemmas.Bool.{cond_both, cond-true, cond-false}
use Rattle.realm_sessions.specs.declared.links.Session.{Session}
use Rattle.realm_sessions.specs.declared.links.Link.{Link}
use Rattle.paxos_packets.specs.declared.transport.Transport.{Transport}
use Rattle.paxos_packets.specs.Transport.{same_transport}
use Rattle.realm_sessions.specs.Links.{is_of, is_session, has_id, id_of, is_canceling, found_canceling}
use Rattle.realm_sessions.specs.Links.{invoked, put_invocation, set_invocation, invocation_of, session_with}
use Rattle.realm_sessions.specs.Sessions.{Sessions, invoked_with}
use Rattle.realm_sessions.specs.Laws.{AreOtherSessions, AreSoundLinks, InvokeKeepsSound, InvokeKeepsPlaces}
use Rattle.realm_sessions.proofs.Pairs.{AllPairs-map}

-- ---- of one link

invoked_session : (other invocation : ℕ) (session : Option Session) → is_session other (invoked invocation session) ≡ is_session other session
invoked_session other invocation None = refl
invoked_session other invocation (Some session) = refl

invoked_id : (invocation : ℕ) (session : Option Session)
    → option_map (λ (s : Session). s.id) (invoked invocation session) ≡ option_map (λ (s : Session). s.id) session
invoked_id invocation None = refl
invoked_id invocation (Some session) = refl

invoked_canceling : (invocation : ℕ) (session : Option Session) → is_canceling (invoked invocation session) ≡ is_canceling session
invoked_canceling invocation None = refl
invoked_canceling invocation (Some session) = refl

abbrev invoked_link : ℕ → Link → Link
invoked_link invocation link = record { transport = link.transport; session = invoked invocation link.session }

put_transport : (id invocation : ℕ) (link : Link) → (put_invocation id invocation link).transport ≡ link.transport
put_transport id invocation link =
    cond_both (has_id id link) (invoked_link invocation link) link (λ (l : Link). l.transport ≡ link.transport) (λ _. refl) (λ _. refl)

put_has : (id invocation other : ℕ) (link : Link) → has_id other (put_invocation id invocation link) ≡ has_id other link
put_has id invocation other link =
    cond_both (has_id id link) (invoked_link invocation link) link (λ (l : Link). has_id other l ≡ has_id other link)
    (λ _. invoked_session other invocation link.session) (λ _. refl)

put_id : (id invocation : ℕ) (link : Link) → id_of (put_invocation id invocation link) ≡ id_of link
put_id id invocation link =
    cond_both (has_id id link) (invoked_link invocation link) link (λ (l : Link). id_of l ≡ id_of link)
    (λ _. invoked_id invocation link.session) (λ _. refl)

put_canceling : (id invocation : ℕ) (link : Link) → is_canceling (put_invocation id invocation link).session ≡ is_canceling link.session
put_canceling id invocation link =
    cond_both (has_id id link) (invoked_link invocation link) link
    (λ (l : Link). is_canceling l.session ≡ is_canceling link.session)
    (λ _. invoked_canceling invocation link.session) (λ _. refl)

abbrev Apart : Link → Link → Type 0
Apart a b = a.transport ≢ b.transport

-- ---- of all links

-- what is shown of an element that is found, if the change of each element keeps the test and what is shown
found_same : {Y : Type 0} (f : Link → Link) (test : Link → Bool) (show : Option Link → Y) → ((x : Link) → test (f x) ≡ test x)
    → ((x : Link) → show (Some (f x)) ≡ show (Some x)) → (xs : List Link) → show (find test (map f xs)) ≡ show (find test xs)
found_same f test show keeps shown [] = refl
found_same f test show keeps shown (x ∷ xs) =
    rw (keeps x)
    (cond_both (test x) (Some x) (find test xs)
    (λ (o : Option Link). show (cond (test x) (Some (f x)) (find test (map f xs))) ≡ show o)
    (λ here. ap show (cond-true (test x) (Some (f x)) (find test (map f xs)) here) ∙ shown x)
    (λ off. ap show (cond-false (test x) (Some (f x)) (find test (map f xs)) off) ∙ found_same f test show keeps shown xs))

pub invoked_places : InvokeKeepsPlaces
invoked_places links id invocation = (
  λ t. found_same (put_invocation id invocation) (is_of t) (λ o. option_map id_of o)
      (λ x. ap (λ (u : Transport). same_transport u t) (put_transport id invocation x))
      (λ x. ap (λ (o : Option ℕ). Some o) (put_id id invocation x)) links,
  λ other. found_same (put_invocation id invocation) (has_id other) (λ o. option_map (λ (link : Link). link.transport) o)
      (put_has id invocation other)
      (λ x. ap (λ (t : Transport). Some t) (put_transport id invocation x)) links,
  λ other. found_same (put_invocation id invocation) (has_id other) found_canceling
      (put_has id invocation other) (put_canceling id invocation) links,
)

-- ---- each transport once, no two sessions of one id

pub invoked_links : (links : List Link) (id invocation : ℕ) → AreSoundLinks links → AreSoundLinks (set_invocation links id invocation)
invoked_links links id invocation ok = record {
  transports = AllPairs-map (put_invocation id invocation) (λ _. ⊤) Apart Apart
      (λ a b _ _ apart same. apart (sym (put_transport id invocation a) ∙ (same ∙ put_transport id invocation b))) links
      (λ k d within. tt) ok.transports;
  sessions = AllPairs-map (put_invocation id invocation) (λ _. ⊤) AreOtherSessions AreOtherSessions
      (λ a b _ _ apart other at_a at_b.
      apart other (sym (put_has id invocation other a) ∙ at_a) (sym (put_has id invocation other b) ∙ at_b)) links
      (λ k d within. tt) ok.sessions;
}

invoked_sound : (sessions : Sessions) (id : ℕ) (o : Option ℕ) → AreSoundLinks sessions.list
    → AreSoundLinks (invoked_with sessions id o).sessions.list
invoked_sound sessions id None ok = ok
invoked_sound sessions id (Some invocation) ok = invoked_links sessions.list id invocation ok

pub invoke_sound : InvokeKeepsSound
invoke_sound sessions id taken ok = invoked_sound sessions id (invocation_of taken (session_with sessions.list id)) ok
