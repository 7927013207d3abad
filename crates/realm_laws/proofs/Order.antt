-- A session that is told of a leaving one is found alike once that one is off its transport.
use Rattle.std.proofs.Common.{◌≡◌, ℕ, ◌==◌, Bool, true, false, not, cond, refl, sym, ap, ◌∙◌, List, [], ◌∷◌, ◌++◌, map, find}
use Rattle.std.proofs.Common.{Option, None, Some, option_map}
use Rattle.std.specs.List.{flat_map}
use Rattle.std.proofs.lemmas.Bool.{cond-true, cond-false, and_parts, and_from, both_ways, eq-eqb, false_from_ne_true}
use Rattle.paxos_packets.specs.declared.transport.Transport.{Transport}
use Rattle.wamp_ids.specs.declared.policy.Mode.TheVariants.{KillNoWait}
use Rattle.wamp_message_types.specs.declared.request_kind.RequestKind.TheVariants as kind
use Rattle.realm_sessions.specs.declared.links.Link.{Link}
use Rattle.realm_sessions.specs.Links.{is_of, has_id, by_transport, set_session, put_session, found_canceling}
use Rattle.realm_sessions.specs.Sessions.{with_list}
use Rattle.realm_sessions.specs.Laws.{AreSoundLinks}
use Rattle.realm_registrations.specs.Registrations as registrations
use Rattle.realm_subscriptions.specs.Leaving as subscriptions
use Rattle.realm_calls.specs.declared.calls.Open.{Open}
use Rattle.realm_calls.specs.Calls.{is_to, is_by, calls_to, calls_by, without_callee}
use Rattle.realm_calls.specs.Calls as calls
use Rattle.realm_calls.proofs.EndedCalls.{leaving_ends_all, leaving_names_all}
use Rattle.realm_machine.specs.Sayings.{say_to, refusal, canceled}
use Rattle.realm_machine.specs.Sayings.Endings.{end_for_caller, end_for_callee}
use Rattle.realm_machine.specs.Sayings.Invocations.{interrupt}
use Rattle.realm_machine.specs.Leaving.{leave_session}
use Rattle.realm_laws.specs.Leaving.{left, LeavesInOrder}
use Rattle.realm_laws.proofs.Has.{Has, in_front, further, any_has, filter_test}
use Rattle.realm_laws.proofs.Moves.{not_is}
use Rattle.realm_laws.proofs.Standing.{stands, one_id, session_at}

-- ---- lists

flat_same : {A B : Type 0} (f g : A → List B) (xs : List A) → ((x : A) → Has xs x → f x ≡ g x) → flat_map f xs ≡ flat_map g xs
flat_same f g [] same = refl
flat_same f g (x ∷ xs) same = λ i. same x in_front i ++ flat_same f g xs (λ y h. same y (further h)) i

nothing_more : {A : Type 0} (xs : List A) → xs ++ [] ≡ xs
nothing_more [] = refl
nothing_more (x ∷ xs) = λ i. x ∷ nothing_more xs i

-- what is found is found after a change that touches nothing that passes, and makes nothing pass
find_same : {A : Type 0} (p : A → Bool) (f : A → A) (xs : List A) → ((x : A) → Has xs x → (p (f x) ≡ p x) × (p x ≡ true → f x ≡ x))
    → find p (map f xs) ≡ find p xs
find_same p f [] same = refl
find_same p f (x ∷ xs) same =
    let here = same x in_front in
    ap (λ (b : Bool). cond b (Some (f x)) (find p (map f xs))) here.0
    ∙ either (p x) here.1 (find_same p f xs (λ y h. same y (further h)))
  where
    either : (b : Bool) → (b ≡ true → f x ≡ x) → find p (map f xs) ≡ find p xs
        → cond b (Some (f x)) (find p (map f xs)) ≡ cond b (Some x) (find p xs)
    either true stays rest = ap Some (stays refl)
    either false stays rest = rest

-- ---- other sessions are found as before

module _ (links : List Link) (t : Transport) (session : ℕ) (ok : AreSoundLinks links)
    (here : by_transport links t ≡ Some (Some session)) where
  abbrev cleared : List Link
  cleared = set_session links t None

  other_stays : (s : ℕ) → (s == session) ≡ false → (link : Link) → Has links link
      → (has_id s (put_session t None link) ≡ has_id s link) × (has_id s link ≡ true → put_session t None link ≡ link)
  other_stays s off link h = by (is_of t link) refl
    where
      gone : Link
      gone = record { transport = link.transport; session = None }

      by : (b : Bool) → is_of t link ≡ b
          → (has_id s (put_session t None link) ≡ has_id s link) × (has_id s link ≡ true → put_session t None link ≡ link)
      by false e = let same = cond-false (is_of t link) gone link e in (ap (has_id s) same, λ has. same)
      by true e =
          let no : has_id s link ≡ false =
          false_from_ne_true (has_id s link)
          (λ has. both_ways (s == session) off
          (eq-eqb s session
          (one_id links t s session ok (any_has (stands t s) h (and_from (is_of t link) (has_id s link) e has)) (session_at links t session here)))) in
          let changed : put_session t None link ≡ gone = cond-true (is_of t link) gone link e in
          (ap (has_id s) changed ∙ sym no, λ has. absurd (both_ways (has_id s link) no has))

  found_same : (s : ℕ) → (s == session) ≡ false → find (has_id s) cleared ≡ find (has_id s) links
  found_same s off = find_same (has_id s) (put_session t None) links (other_stays s off)

  caller_same : (list : List Open) (call : Open) → Has (calls_to list session) call → end_for_caller cleared call ≡ end_for_caller links call
  caller_same list call h =
      let parts = and_parts (call.callee == session) (not (call.caller == session)) (filter_test (is_to session) list h) in
      ap (λ (o : Option Link). say_to (option_map (λ (l : Link). l.transport) o) (refusal kind.Call call.request canceled))
      (found_same call.caller (not_is (call.caller == session) parts.1))

  callee_same : (list : List Open) (call : Open) → Has (calls_by list session) call → end_for_callee cleared call ≡ end_for_callee links call
  callee_same list call h =
      let parts = and_parts (call.caller == session) (not (call.callee == session)) (filter_test (is_by session) list h) in
      ap (λ (o : Option Link). cond (found_canceling o) (say_to (option_map (λ (l : Link). l.transport) o) (interrupt call KillNoWait)) [])
      (found_same call.callee (not_is (call.callee == session) parts.1))

  said_same : (list : List Open) → flat_map (end_for_caller cleared) (calls_to list session)
      ++ (flat_map (end_for_callee cleared) (calls_by (without_callee list session) session) ++ [])
      ≡ flat_map (end_for_caller links) (calls_to list session) ++ flat_map (end_for_callee links) (calls_by list session)
  said_same list =
      let second : flat_map (end_for_callee cleared) (calls_by (without_callee list session) session) ++ []
      ≡ flat_map (end_for_callee links) (calls_by list session) =
      nothing_more _ ∙ ap (flat_map (end_for_callee cleared)) (leaving_names_all list session)
      ∙ flat_same (end_for_callee cleared) (end_for_callee links) (calls_by list session) (callee_same list) in
      let first = flat_same (end_for_caller cleared) (end_for_caller links) (calls_to list session) (caller_same list) in
      λ i. first i ++ second i

pub leaves_in_order : LeavesInOrder
leaves_in_order c t session ok here = ap (leave_session c t) here ∙ same
  where
    same : leave_session c t (Some (Some session)) ≡ left c t session
    same = λ i. record {
      content = record {
        sessions = with_list c.sessions (set_session c.sessions.list t None);
        registrations = registrations.leave c.registrations session;
        subscriptions = subscriptions.leave c.subscriptions session;
        calls = calls.with_list c.calls (leaving_ends_all c.calls.list session i);
      };
      says = said_same c.sessions.list t session ok here c.calls.list i;
    }
