-- At which transport a session is, and what each change of the links leaves of that.
use Rattle.std.proofs.Common.{◌≡◌, ◌≢◌, ◌⊎◌, inl, inr, ⊎_elim, ℕ, ◌==◌, Bool, true, false, not, ◌&&◌, refl, sym, ◌∙◌}
use Rattle.std.proofs.Common.{ap, subst, List, [], ◌∷◌}
use Rattle.std.proofs.Common.{◌++◌, map, filter, find, Option, Some, None, option_map}
use Rattle.std.specs.List.{list_any}
use Rattle.std.proofs.lemmas.Bool.{cond_both, cond-true, cond-false, and_parts, and_from, eqb-true, both_ways}
use Rattle.std.proofs.lemmas.Bool.{false≢true, eq-eqb, false_from_ne_true}
use Rattle.paxos_packets.specs.declared.transport.Transport.{Transport}
use Rattle.realm_sessions.specs.declared.links.Session.{Session}
use Rattle.realm_sessions.specs.declared.links.Link.{Link}
use Rattle.realm_sessions.specs.Links.{is_of, is_session, has_id, is_taken, is_connected, id_of, by_transport}
use Rattle.realm_sessions.specs.Links.{transport_of, connect, put_session}
use Rattle.realm_sessions.specs.Links.{set_session, without_transport, put_invocation, set_invocation, invoked}
use Rattle.realm_sessions.specs.Laws.{AreOtherSessions, AreSoundLinks}
use Rattle.realm_sessions.proofs.SoundLinks.{same_is, is_same, put_id}
use Rattle.realm_laws.proofs.Has.{Has, in_front, further, has_filter, has_map, has_last, any_has, has_any}
use Rattle.realm_laws.proofs.Has.{find_has, two_are_one, All-has}
use Rattle.realm_sessions.proofs.Pairs.{All-not_found}

abbrev pub stands : Transport → ℕ → Link → Bool
stands t s link = is_of t link && has_id s link

-- the session is at the transport
abbrev pub at : List Link → Transport → ℕ → Bool
at links t s = list_any (stands t s) links

abbrev Apart : Link → Link → Type 0
Apart a b = a.transport ≢ b.transport

pub stands_parts : (t : Transport) (s : ℕ) (link : Link) → stands t s link ≡ true
    → (is_of t link ≡ true) × (has_id s link ≡ true)
stands_parts t s link h = and_parts (is_of t link) (has_id s link) h

stand : (t : Transport) (s : ℕ) (link : Link) → is_of t link ≡ true → has_id s link ≡ true → stands t s link ≡ true
stand t s link of has = and_from (is_of t link) (has_id s link) of has

-- ---- one session is at one transport

session_is : (s r : ℕ) (o : Option Session) → is_session s o ≡ true → is_session r o ≡ true → s ≡ r
session_is s r None h g = absurd (false≢true h)
session_is s r (Some session) h g = sym (eqb-true session.id s h) ∙ eqb-true session.id r g

pub one_transport : (links : List Link) (t u : Transport) (s : ℕ) → AreSoundLinks links → at links t s ≡ true
    → at links u s ≡ true → t ≡ u
one_transport links t u s ok h g =
    let a = has_any (stands t s) links h in
    let b = has_any (stands u s) links g in
    let p = stands_parts t s a.0 a.2 in
    let q = stands_parts u s b.0 b.2 in
    let same : a.0 ≡ b.0 =
    two_are_one AreOtherSessions ok.sessions a.1 b.1 (λ apart. apart s p.1 q.1) (λ apart. apart s q.1 p.1) in
    sym (same_is a.0.transport t p.0) ∙ (ap (λ (l : Link). l.transport) same ∙ same_is b.0.transport u q.0)

-- two links of one transport are one
pub one_link : (links : List Link) (t : Transport) (a b : Link) → AreSoundLinks links → Has links a → Has links b
    → is_of t a ≡ true
    → is_of t b ≡ true → a ≡ b
one_link links t a b ok g h p q =
    let same = same_is a.transport t p ∙ sym (same_is b.transport t q) in
    two_are_one Apart ok.transports g h (λ apart. apart same) (λ apart. apart (sym same))

pub one_id : (links : List Link) (t : Transport) (s r : ℕ) → AreSoundLinks links → at links t s ≡ true
    → at links t r ≡ true → s ≡ r
one_id links t s r ok h g =
    let a = has_any (stands t s) links h in
    let b = has_any (stands t r) links g in
    let p = stands_parts t s a.0 a.2 in
    let q = stands_parts t r b.0 b.2 in
    let same : a.0 ≡ b.0 = one_link links t a.0 b.0 ok a.1 b.1 p.0 q.0 in
    session_is s r b.0.session (subst (λ (l : Link). has_id s l ≡ true) same p.1) q.1

pub at_taken : (links : List Link) (t : Transport) (s : ℕ) → at links t s ≡ true → is_taken links s ≡ true
at_taken links t s h =
    let a = has_any (stands t s) links h in
    any_has (has_id s) a.1 (stands_parts t s a.0 a.2).1

some_is : {A : Type 0} {x y : A} → Some x ≡ Some y → x ≡ y
some_is h = cc

-- a session is where it is found
place_found : (links : List Link) (s : ℕ) (t : Transport) (o : Option Link) → find (has_id s) links ≡ o
    → option_map (λ (l : Link). l.transport) o ≡ Some t → at links t s ≡ true
place_found links s t None e h = absurd (none h)
  where
    none : None ≡ Some t → ⊥
    none p = cc
place_found links s t (Some link) e h =
    let found = find_has (has_id s) links e in
    any_has (stands t s) found.0 (stand t s link (is_same link.transport t (some_is h)) found.1)

pub place_at : (links : List Link) (s : ℕ) (t : Transport) → transport_of links s ≡ Some t → at links t s ≡ true
place_at links s t h = place_found links s t (find (has_id s) links) refl h

-- the session that a transport has is there
id_is : (s : ℕ) (o : Option Session) → option_map (λ (x : Session). x.id) o ≡ Some s → is_session s o ≡ true
id_is s None h = absurd (none h)
  where
    none : None ≡ Some s → ⊥
    none p = cc
id_is s (Some session) h = is (some_is h)
  where
    is : session.id ≡ s → (session.id == s) ≡ true
    is p = eq-eqb session.id s p

session_found : (links : List Link) (t : Transport) (s : ℕ) (o : Option Link) → find (is_of t) links ≡ o
    → option_map id_of o ≡ Some (Some s) → at links t s ≡ true
session_found links t s None e h = absurd (none h)
  where
    none : None ≡ Some (Some s) → ⊥
    none p = cc
session_found links t s (Some link) e h =
    let found = find_has (is_of t) links e in
    any_has (stands t s) found.0 (stand t s link found.1 (id_is s link.session (some_is h)))

pub session_at : (links : List Link) (t : Transport) (s : ℕ) → by_transport links t ≡ Some (Some s)
    → at links t s ≡ true
session_at links t s h = session_found links t s (find (is_of t) links) refl h

-- ---- no session is at a transport without one

abbrev pub IsEmptyAt : List Link → Transport → Type 0
IsEmptyAt links t = (s : ℕ) → at links t s ≡ true → ⊥

none_found : (links : List Link) (t : Transport) → find (is_of t) links ≡ None → IsEmptyAt links t
none_found links t e s h =
    let a = has_any (stands t s) links h in
    both_ways (is_of t a.0) (All-has (λ (l : Link). is_of t l ≡ false) (All-not_found (is_of t) links e) a.1)
    (stands_parts t s a.0 a.2).0

no_id : (s : ℕ) (o : Option Session) → option_map (λ (x : Session). x.id) o ≡ None → is_session s o ≡ true → ⊥
no_id s None h g = false≢true g
no_id s (Some session) h g = some h
  where
    some : Some session.id ≡ None → ⊥
    some p = cc

empty_found : (links : List Link) (t : Transport) (o : Option Link) → find (is_of t) links ≡ o → AreSoundLinks links
    → option_map id_of o ≡ Some None → IsEmptyAt links t
empty_found links t None e ok h s g = none h
  where
    none : ◌≡◌ {A = Option (Option ℕ)} None (Some None) → ⊥
    none p = cc
empty_found links t (Some link) e ok h s g =
    let found = find_has (is_of t) links e in
    let a = has_any (stands t s) links g in
    let parts = stands_parts t s a.0 a.2 in
    let same : a.0 ≡ link = one_link links t a.0 link ok a.1 found.0 parts.0 found.1 in
    no_id s link.session (some_is h) (subst (λ (l : Link). has_id s l ≡ true) same parts.1)

-- a transport that is not connected, or has no session
pub empty_at : (links : List Link) (t : Transport) → AreSoundLinks links
    → (by_transport links t ≡ None) ⊎ (by_transport links t ≡ Some None) → IsEmptyAt links t
empty_at links t ok (inl h) = none_found links t (no_link (find (is_of t) links) h)
  where
    no_link : (o : Option Link) → option_map id_of o ≡ None → o ≡ None
    no_link None p = refl
    no_link (Some link) p = absurd (some p)
      where
        some : Some (id_of link) ≡ None → ⊥
        some q = cc
empty_at links t ok (inr h) = empty_found links t (find (is_of t) links) refl ok h

-- ---- a session ends

map_has : {A B : Type 0} (f : A → B) {xs : List A} {x : A} → Has xs x → Has (map f xs) (f x)
map_has f in_front = in_front
map_has f (further h) = further (map_has f h)

put_of : (t : Transport) (o : Option Session) (u : Transport) (link : Link)
    → is_of u (put_session t o link) ≡ is_of u link
put_of t o u link =
    cond_both (is_of t link) (record { transport = link.transport; session = o }) link
    (λ (l : Link). is_of u l ≡ is_of u link)
    (λ _. refl) (λ _. refl)

put_else : (t : Transport) (o : Option Session) (link : Link) → is_of t link ≡ false → put_session t o link ≡ link
put_else t o link off = cond-false (is_of t link) (record { transport = link.transport; session = o }) link off

-- a session that is there after one was set was there before, or is that one
pub set_at : (links : List Link) (t : Transport) (o : Option Session) (u : Transport) (s : ℕ)
    → at (set_session links t o) u s ≡ true
    → ((t ≡ u) × (is_session s o ≡ true)) ⊎ (at links u s ≡ true)
set_at links t o u s h =
    let a = has_any (stands u s) (set_session links t o) h in
    let b = has_map (put_session t o) links a.1 in
    let parts = stands_parts u s a.0 a.2 in
    let of : is_of u b.0 ≡ true = sym (put_of t o u b.0) ∙ (ap (is_of u) b.2 ∙ parts.0) in
    ⊎_elim
    (λ new. inl (sym (same_is b.0.transport t new.0) ∙ same_is b.0.transport u of, new.1))
    (λ old. inr (any_has (stands u s) b.1 (stand u s b.0 of old)))
    (put_id t o s b.0 (ap (has_id s) b.2 ∙ parts.1))

pub cleared_at : (links : List Link) (t u : Transport) (s : ℕ) → at (set_session links t None) u s ≡ true
    → at links u s ≡ true
cleared_at links t u s h = ⊎_elim (λ new. absurd (false≢true new.1)) (λ old. old) (set_at links t None u s h)

-- no session is where the session ended
pub cleared_empty : (links : List Link) (t : Transport) → IsEmptyAt (set_session links t None) t
cleared_empty links t s h =
    let a = has_any (stands t s) (set_session links t None) h in
    let b = has_map (put_session t None) links a.1 in
    let parts = stands_parts t s a.0 a.2 in
    let of : is_of t b.0 ≡ true = sym (put_of t None t b.0) ∙ (ap (is_of t) b.2 ∙ parts.0) in
    let now : put_session t None b.0 ≡ record { transport = b.0.transport; session = None } =
    cond-true (is_of t b.0) (record { transport = b.0.transport; session = None }) b.0 of in
    false≢true (ap (has_id s) (sym now) ∙ (ap (has_id s) b.2 ∙ parts.1))

-- a session that was not there keeps its id
pub set_taken : (links : List Link) (t : Transport) (o : Option Session) (s : ℕ) → (at links t s ≡ true → ⊥)
    → is_taken links s ≡ true
    → is_taken (set_session links t o) s ≡ true
set_taken links t o s off h =
    let a = has_any (has_id s) links h in
    let kept : put_session t o a.0 ≡ a.0 =
    put_else t o a.0 (false_from_ne_true (is_of t a.0) (λ of. off (any_has (stands t s) a.1 (stand t s a.0 of a.2)))) in
    any_has (has_id s) (map_has (put_session t o) a.1) (ap (has_id s) kept ∙ a.2)

-- ---- a transport goes

pub removed_at : (links : List Link) (t u : Transport) (s : ℕ) → at (without_transport links t) u s ≡ true
    → at links u s ≡ true
removed_at links t u s h =
    let a = has_any (stands u s) (without_transport links t) h in
    any_has (stands u s) (has_filter (λ link. not (is_of t link)) links a.1) a.2

filter_has : {A : Type 0} (test : A → Bool) {xs : List A} {x : A} → Has xs x → test x ≡ true → Has (filter test xs) x
filter_has test (in_front {x = x} {xs = xs}) t =
    cond_both (test x) (x ∷ filter test xs) (filter test xs) (λ zs. Has zs x) (λ e. in_front)
    (λ e. absurd (both_ways (test x) e t))
filter_has test (further {x = x} {y = y} {xs = xs} h) t =
    cond_both (test y) (y ∷ filter test xs) (filter test xs) (λ zs. Has zs x) (λ e. further (filter_has test h t))
    (λ e. filter_has test h t)

pub removed_taken : (links : List Link) (t : Transport) (s : ℕ) → (at links t s ≡ true → ⊥) → is_taken links s ≡ true
    → is_taken (without_transport links t) s ≡ true
removed_taken links t s off h =
    let a = has_any (has_id s) links h in
    let other : is_of t a.0 ≡ false =
    false_from_ne_true (is_of t a.0) (λ of. off (any_has (stands t s) a.1 (stand t s a.0 of a.2))) in
    any_has (has_id s) (filter_has (λ link. not (is_of t link)) a.1 (ap not other)) a.2

-- ---- a transport comes

has_left : {A : Type 0} {xs : List A} {x : A} (ys : List A) → Has xs x → Has (xs ++ ys) x
has_left ys in_front = in_front
has_left ys (further h) = further (has_left ys h)

pub connected_at : (links : List Link) (t u : Transport) (s : ℕ) → at (connect links t) u s ≡ true → at links u s ≡ true
connected_at links t u s =
    cond_both (is_connected links t) links (links ++ record { transport = t; session = None } ∷ [])
    (λ (after : List Link). at after u s ≡ true → at links u s ≡ true) (λ _ h. h) (λ _ h. added h)
  where
    added : at (links ++ record { transport = t; session = None } ∷ []) u s ≡ true → at links u s ≡ true
    added h =
        let a = has_any (stands u s) (links ++ record { transport = t; session = None } ∷ []) h in
        ⊎_elim
        (λ old. any_has (stands u s) old a.2)
        (λ e. absurd (false≢true (ap (has_id s) e ∙ (stands_parts u s a.0 a.2).1)))
        (has_last links (record { transport = t; session = None }) a.1)

pub connected_taken : (links : List Link) (t : Transport) (s : ℕ) → is_taken links s ≡ true
    → is_taken (connect links t) s ≡ true
connected_taken links t s h =
    cond_both (is_connected links t) links (links ++ record { transport = t; session = None } ∷ [])
    (λ (after : List Link). is_taken after s ≡ true) (λ _. h)
    (λ _. let a = has_any (has_id s) links h in any_has (has_id s)
    (has_left (record { transport = t; session = None } ∷ []) a.1) a.2)

-- ---- a session is invoked

invoked_has : (i s : ℕ) (o : Option Session) → is_session s (invoked i o) ≡ is_session s o
invoked_has i s None = refl
invoked_has i s (Some session) = refl

put_stands : (id i : ℕ) (u : Transport) (s : ℕ) (link : Link) → stands u s (put_invocation id i link) ≡ stands u s link
put_stands id i u s link =
    cond_both (has_id id link) (record { transport = link.transport; session = invoked i link.session }) link
    (λ (l : Link). stands u s l ≡ stands u s link) (λ _. ap (λ b. is_of u link && b) (invoked_has i s link.session))
    (λ _. refl)

put_has : (id i : ℕ) (s : ℕ) (link : Link) → has_id s (put_invocation id i link) ≡ has_id s link
put_has id i s link =
    cond_both (has_id id link) (record { transport = link.transport; session = invoked i link.session }) link
    (λ (l : Link). has_id s l ≡ has_id s link) (λ _. invoked_has i s link.session) (λ _. refl)

pub invoked_at : (links : List Link) (id i : ℕ) (u : Transport) (s : ℕ) → at (set_invocation links id i) u s ≡ true
    → at links u s ≡ true
invoked_at links id i u s h =
    let a = has_any (stands u s) (set_invocation links id i) h in
    let b = has_map (put_invocation id i) links a.1 in
    any_has (stands u s) b.1 (sym (put_stands id i u s b.0) ∙ (ap (stands u s) b.2 ∙ a.2))

pub invoked_taken : (links : List Link) (id i s : ℕ) → is_taken links s ≡ true
    → is_taken (set_invocation links id i) s ≡ true
invoked_taken links id i s h =
    let a = has_any (has_id s) links h in
    any_has (has_id s) (map_has (put_invocation id i) a.1) (put_has id i s a.0 ∙ a.2)
