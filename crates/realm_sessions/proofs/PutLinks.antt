-- A link that clashes with none is put in by its transport, and then its session.
use Rattle.std.proofs.Common.{◌≡◌, ℕ, Bool, true, false, ◌||◌, cond, List, [], ◌∷◌, ◌++◌, map, find, Option, None, Some, refl, sym, ap, ◌∙◌}
use Rattle.std.proofs.Common.{option_map, Err}
use Rattle.std.specs.List.{list_any}
use Rattle.std.proofs.lemmas.Bool.{or_parts, cond-true, cond-false}
use Rattle.std.proofs.lemmas.List.{map-append}
use Rattle.paxos_packets.specs.declared.transport.Transport.{Transport}
use Rattle.realm_sessions.specs.Apart.{is_refused, put_all}
use Rattle.realm_sessions.specs.declared.fault.RestoreFault.{RestoreFault}
use Rattle.realm_sessions.specs.declared.fault.RestoreFault.TheVariants.{Damaged, Memory}
use Rattle.realm_sessions.specs.Sessions.{Sessions}
use Rattle.realm_sessions.specs.declared.links.Session.{Session}
use Rattle.realm_sessions.specs.declared.links.Link.{Link}
use Rattle.realm_sessions.specs.Links.{is_of, has_id, id_of, by_transport, is_connected, is_taken, put_session, set_session}
use Rattle.realm_sessions.specs.Restoring.{Becomes, Restores, is_misnumbered, has_session_of, clash, sessions_of}
use Rattle.realm_sessions.proofs.Apart.{or_between, any_last, put_checked}
use Rattle.realm_sessions.proofs.SoundLinks.{is_same}

pub any_or : {T : Type 0} (p q : T → Bool) (xs : List T) → list_any (λ x. p x || q x) xs ≡ (list_any p xs || list_any q xs)
any_or p q [] = refl
any_or p q (x ∷ xs) = ap (λ b. (p x || q x) || b) (any_or p q xs) ∙ or_between (p x) (q x) (list_any p xs) (list_any q xs)

pub any_none : {T : Type 0} (xs : List T) → list_any (λ x. false) xs ≡ false
any_none [] = refl
any_none (x ∷ xs) = any_none xs

-- the last one is found if no other passes
pub find_last : {T : Type 0} (test : T → Bool) (xs : List T) (x : T) → list_any test xs ≡ false → test x ≡ true → find test (xs ++ x ∷ []) ≡ Some x
find_last test [] x none is = cond-true (test x) (Some x) None is
find_last test (y ∷ ys) x none is =
    let parts = or_parts (test y) (list_any test ys) none in
    cond-false (test y) (Some y) (find test (ys ++ x ∷ [])) parts.0 ∙ find_last test ys x parts.1 is

-- what does not clash is of another transport and of another session
pub apart : (held : List Link) (link : Link) → is_refused is_misnumbered clash held link ≡ false
    → (is_connected held link.transport ≡ false) × (list_any (has_session_of link.session) held ≡ false)
apart held link h =
    let clashes = (or_parts (is_misnumbered link) (list_any (λ (m : Link). clash m link) held) h).1 in
    or_parts (list_any (is_of link.transport) held) (list_any (has_session_of link.session) held)
    (sym (any_or (is_of link.transport) (has_session_of link.session) held) ∙ clashes)

abbrev pub without_session : Transport → Link
without_session t = record { transport = t; session = None }

pub stands_alone : (held : List Link) (t : Transport) → is_connected held t ≡ false → by_transport (held ++ without_session t ∷ []) t ≡ Some None
stands_alone held t none = ap (λ o. option_map id_of o) (find_last (is_of t) held (without_session t) none (is_same t t refl))

pub still_free : (held : List Link) (t : Transport) (id : ℕ) → is_taken held id ≡ false → is_taken (held ++ without_session t ∷ []) id ≡ false
still_free held t id free = any_last (has_id id) held (without_session t) ∙ ap (λ b. b || false) free

others_stay : (held : List Link) (t : Transport) (session : Option Session) → is_connected held t ≡ false → set_session held t session ≡ held
others_stay [] t session none = refl
others_stay (link ∷ rest) t session none =
    let parts = or_parts (is_of t link) (list_any (is_of t) rest) none in
    ap (λ (l : Link). l ∷ set_session rest t session) (cond-false (is_of t link) (record { transport = link.transport; session = session }) link parts.0)
    ∙ ap (λ (ls : List Link). link ∷ ls) (others_stay rest t session parts.1)

pub put_last : (held : List Link) (t : Transport) (session : Option Session) → is_connected held t ≡ false
    → set_session (held ++ without_session t ∷ []) t session ≡ held ++ record { transport = t; session = session } ∷ []
put_last held t session none =
    map-append (put_session t session) held (without_session t ∷ [])
    ∙ ap (λ (ls : List Link). ls ++ set_session (without_session t ∷ []) t session) (others_stay held t session none)
    ∙ ap (λ (l : Link). held ++ l ∷ []) (cond-true (is_of t (without_session t)) (record { transport = t; session = session }) (without_session t)
    (is_same t t refl))

-- ---- what a look-up of both finds

clash_is : (held : List Link) (link : Link)
    → list_any (λ member. clash member link) held ≡ (is_connected held link.transport || list_any (has_session_of link.session) held)
clash_is held link = any_or (is_of link.transport) (has_session_of link.session) held

pub clash_here : (held : List Link) (link : Link) → is_connected held link.transport ≡ true → list_any (λ member. clash member link) held ≡ true
clash_here held link here = clash_is held link ∙ ap (λ b. b || list_any (has_session_of link.session) held) here

pub clash_by_session : (held : List Link) (link : Link) (session : Session) → is_connected held link.transport ≡ false
    → link.session ≡ Some session → list_any (λ member. clash member link) held ≡ is_taken held session.id
clash_by_session held link session none is =
    clash_is held link ∙ ap (λ b. b || list_any (has_session_of link.session) held) none ∙ ap (λ s. list_any (has_session_of s) held) is

pub clash_by_none : (held : List Link) (link : Link) → is_connected held link.transport ≡ false → link.session ≡ None
    → list_any (λ member. clash member link) held ≡ false
clash_by_none held link none is =
    clash_is held link ∙ ap (λ b. b || list_any (has_session_of link.session) held) none ∙ ap (λ s. list_any (has_session_of s) held) is
    ∙ any_none held

-- ---- a link is put in

pub free_of_others : (held : List Link) (link : Link) (session : Session) → is_refused is_misnumbered clash held link ≡ false
    → link.session ≡ Some session → is_taken held session.id ≡ false
free_of_others held link session h is = sym (ap (λ s. list_any (has_session_of s) held) is) ∙ (apart held link h).1

pub put_whole : (held : List Link) (link : Link) (session : Session) → is_connected held link.transport ≡ false → link.session ≡ Some session
    → set_session (held ++ without_session link.transport ∷ []) link.transport (Some session) ≡ held ++ link ∷ []
put_whole held link session none is =
    put_last held link.transport (Some session) none
    ∙ ap (λ (s : Option Session). held ++ record { transport = link.transport; session = s } ∷ []) (sym is)

pub put_bare : (held : List Link) (link : Link) → link.session ≡ None → held ++ without_session link.transport ∷ [] ≡ held ++ link ∷ []
put_bare held link is = ap (λ (s : Option Session). held ++ record { transport = link.transport; session = s } ∷ []) (sym is)

-- ---- all links

pub none_made : (fault : RestoreFault) (limit : ℕ) (links new : List Link) → Becomes (Err fault) new (put_all is_misnumbered clash [] links)
    → Restores (Err fault) (sessions_of limit links)
none_made Damaged limit links new h =
    ap (option_map (λ (list : List Link). record { limit = limit; list = list })) (sym (put_checked is_misnumbered clash links) ∙ h)
none_made Memory limit links new h = tt

pub all_made : (limit : ℕ) (links new : List Link) → put_all is_misnumbered clash [] links ≡ Some new
    → sessions_of limit links ≡ Some (record { limit = limit; list = new })
all_made limit links new h =
    ap (option_map (λ (list : List Link). record { limit = limit; list = list })) (sym (put_checked is_misnumbered clash links) ∙ h)
