-- The events of a rescue restart its node at most once, and take no other node down or up.
use Rattle.std.proofs.Common.{◌≡◌, ◌⊎◌, inl, inr, ⊎_elim, ℕ, suc, Bool, true, false, ◌||◌, refl, sym, ap, ◌∙◌, subst, List, [], ◌∷◌, ◌++◌}
use Rattle.std.proofs.Common.{append_assoc, Option, Some, None}
use Rattle.std.specs.Prelude.{if◌then◌else◌}
use Rattle.std.specs.List.{flat_map}
use Rattle.std.proofs.lemmas.Bool.{cond_both}
use Rattle.cluster_world.proofs.Lists.{has_nil, has_cons, has_one, has_cases, has_right}
use Rattle.cluster_world.specs.Has.{Has, here, there}
use Rattle.paxos_packets.specs.Ballot.{below}
use Rattle.paxos_packets.specs.declared.ballot.Ballot.{Ballot}
use Rattle.paxos_packets.specs.declared.packet.Kind.TheVariants.{Nack, Snapshot}
use Rattle.paxos_packets.specs.declared.vote.Vote.{Vote}
use Rattle.paxos_node.specs.declared.event.Event.{Event}
use Rattle.paxos_node.specs.declared.event.Event.TheVariants.{Start, Crash, Restart}
use Rattle.paxos_planning.specs.Node.{NodeState, log_length}
use Rattle.cluster_world.specs.Rescue.{RestartsOnce}
use Rattle.world_rescue.specs.Course.{Seat, Crew, Act, delivered, refusal, asked_in_vain, look, promises, lead, cast_by, pass, take}
use Rattle.world_rescue.specs.Course.{first_votes, second_votes, again_votes, seen, ballot_after, first_pass, goes_on, comes_back, falls}
use Rattle.world_rescue.specs.Course.{floor_of, fetch_by, source_again, fetch_again, floor_again, level_course, course}
use Rattle.world_rescue.specs.Reaching.{Source, fetch, holds_boot, falls_after, turn_over, reach_by, source_of, reached}

off : true ≡ false → ⊥
off e = cc

-- it takes a node down or up
abbrev is_turn : {B : Type 0} → Event B → Bool
is_turn (Crash n) = true
is_turn (Restart n) = true
is_turn _ = false

abbrev Quiet : {B : Type 0} → List (Event B) → Type 0
Quiet {B} es = (e : Event B) → Has es e → is_turn e ≡ false

quiet_none : {B : Type 0} → Quiet {B = B} []
quiet_none e h = absurd (has_nil h)

quiet_cons : {B : Type 0} (e : Event B) (es : List (Event B)) → is_turn e ≡ false → Quiet es → Quiet (e ∷ es)
quiet_cons e es q r f h = ⊎_elim (λ i. ap (λ z. is_turn z) (sym i) ∙ q) (λ i. r f i) (has_cons h)

quiet_both : {B : Type 0} (es fs : List (Event B)) → Quiet es → Quiet fs → Quiet (es ++ fs)
quiet_both es fs q r f h = ⊎_elim (λ i. q f i) (λ i. r f i) (has_cases es fs h)

quiet_all : {A B : Type 0} (f : A → List (Event B)) (xs : List A) → ((x : A) → Quiet (f x)) → Quiet (flat_map f xs)
quiet_all f [] q = quiet_none
quiet_all f (x ∷ xs) q = quiet_both (f x) (flat_map f xs) (q x) (quiet_all f xs q)

quiet_refusal : {B : Type 0} (b : Ballot) (k : ℕ) (p : Option Ballot) → Quiet {B = B} (refusal b k p)
quiet_refusal b k None = quiet_none
quiet_refusal {B} b k (Some p) =
    cond_both (below p b) [] (delivered k (Nack b p) b.node ∷ []) (λ (l : List (Event B)). Quiet l) (λ t. quiet_none)
    (λ t. quiet_cons (delivered k (Nack b p) b.node) [] refl quiet_none)

quiet_look : {B : Type 0} (b : Ballot) (first : ℕ) (seats : List (Seat B)) → Quiet (look b first seats)
quiet_look {B} b first seats =
    quiet_cons (Start b.node) (flat_map (asked_in_vain b first) seats) refl
    (quiet_all (asked_in_vain b first) seats (λ s. quiet_cons _ (refusal b s.number s.node.rows.promised) refl
    (quiet_refusal b s.number s.node.rows.promised)))

quiet_lead : {B : Type 0} (b : Ballot) (first : ℕ) (cast : List (Vote B)) (seats : List (Seat B)) → Quiet (lead b first cast seats)
quiet_lead {B} b first cast seats =
    quiet_cons (Start b.node) (flat_map (promises b first cast) seats) refl
    (quiet_all (promises b first cast) seats (λ s. quiet_cons _ _ refl (quiet_cons _ [] refl quiet_none)))

quiet_pass : {B : Type 0} (n : ℕ) (seats : List (Seat B)) (votes : List (Vote B)) → Quiet (pass n seats votes)
quiet_pass n seats votes =
    quiet_all (λ v. flat_map (cast_by n v) seats) votes
    (λ v. quiet_all (cast_by n v) seats (λ s. quiet_cons _ _ refl (quiet_cons _ [] refl quiet_none)))

-- with one there is one
just_one : {B : Type 0} (n : ℕ) (xs ys early later : List (Event B)) → Quiet xs → Quiet ys → xs ++ Restart n ∷ ys
    ≡ early ++ Restart n ∷ later
    → Has later (Restart n) → ⊥
just_one {B} n [] ys [] later q r e h = off (r (Restart n) (subst (λ l. Has l (Restart n)) (sym (tail e)) h))
  where
    tail : ◌≡◌ {A = List (Event B)} (Restart n ∷ ys) (Restart n ∷ later) → ys ≡ later
    tail i = cc
just_one {B} n [] ys (f ∷ early) later q r e h =
    off (r (Restart n) (subst (λ l. Has l (Restart n)) (sym (tail e)) (has_right early here)))
  where
    tail : ◌≡◌ {A = List (Event B)} (Restart n ∷ ys) (f ∷ (early ++ Restart n ∷ later)) → ys ≡ early ++ Restart n ∷ later
    tail i = cc
just_one {B} n (x ∷ xs) ys [] later q r e h = off (ap (λ z. is_turn z) (sym (head e)) ∙ q x here)
  where
    head : ◌≡◌ {A = List (Event B)} (x ∷ (xs ++ Restart n ∷ ys)) (Restart n ∷ later) → x ≡ Restart n
    head i = cc
just_one {B} n (x ∷ xs) ys (f ∷ early) later q r e h = just_one n xs ys early later (λ g i. q g (there i)) r (tail e) h
  where
    tail : ◌≡◌ {A = List (Event B)} (x ∷ (xs ++ Restart n ∷ ys)) (f ∷ (early ++ Restart n ∷ later))
        → xs ++ Restart n ∷ ys ≡ early ++ Restart n ∷ later
    tail i = cc

-- where the node crashes, it restarts right then
crash_first : {B : Type 0} (n : ℕ) (xs ys early later : List (Event B)) → Quiet xs → Quiet ys → xs ++ Crash n ∷ Restart n ∷ ys
    ≡ early ++ Crash n ∷ later
    → later ≡ Restart n ∷ ys
crash_first {B} n [] ys [] later q r e = sym (tail e)
  where
    tail : ◌≡◌ {A = List (Event B)} (Crash n ∷ Restart n ∷ ys) (Crash n ∷ later) → Restart n ∷ ys ≡ later
    tail i = cc
crash_first {B} n [] ys (f ∷ early) later q r e =
    absurd (⊎_elim (λ i. differ i) (λ i. off (r (Crash n) i)) (has_cons (subst (λ l. Has l (Crash n)) (sym (tail e)) (has_right early here))))
  where
    tail : ◌≡◌ {A = List (Event B)} (Crash n ∷ Restart n ∷ ys) (f ∷ (early ++ Crash n ∷ later)) → Restart n ∷ ys ≡ early ++ Crash n ∷ later
    tail i = cc

    differ : ◌≡◌ {A = Event B} (Restart n) (Crash n) → ⊥
    differ i = cc
crash_first {B} n (x ∷ xs) ys [] later q r e = absurd (off (ap (λ z. is_turn z) (sym (head e)) ∙ q x here))
  where
    head : ◌≡◌ {A = List (Event B)} (x ∷ (xs ++ Crash n ∷ Restart n ∷ ys)) (Crash n ∷ later) → x ≡ Crash n
    head i = cc
crash_first {B} n (x ∷ xs) ys (f ∷ early) later q r e = crash_first n xs ys early later (λ g i. q g (there i)) r (tail e)
  where
    tail : ◌≡◌ {A = List (Event B)} (x ∷ (xs ++ Crash n ∷ Restart n ∷ ys)) (f ∷ (early ++ Crash n ∷ later))
        → xs ++ Crash n ∷ Restart n ∷ ys ≡ early ++ Crash n ∷ later
    tail i = cc

one_after_crash : {B : Type 0} (n : ℕ) (xs ys early later : List (Event B)) → Quiet xs → Quiet ys → xs ++ Crash n ∷ Restart n ∷ ys
    ≡ early ++ Restart n ∷ later
    → Has later (Restart n) → ⊥
one_after_crash {B} n [] ys [] later q r e h = differ e
  where
    differ : ◌≡◌ {A = List (Event B)} (Crash n ∷ Restart n ∷ ys) (Restart n ∷ later) → ⊥
    differ i = cc
one_after_crash {B} n [] ys (f ∷ early) later q r e h = just_one n [] ys early later q r (tail e) h
  where
    tail : ◌≡◌ {A = List (Event B)} (Crash n ∷ Restart n ∷ ys) (f ∷ (early ++ Restart n ∷ later)) → Restart n ∷ ys ≡ early ++ Restart n ∷ later
    tail i = cc
one_after_crash {B} n (x ∷ xs) ys [] later q r e h = off (ap (λ z. is_turn z) (sym (head e)) ∙ q x here)
  where
    head : ◌≡◌ {A = List (Event B)} (x ∷ (xs ++ Crash n ∷ Restart n ∷ ys)) (Restart n ∷ later) → x ≡ Restart n
    head i = cc
one_after_crash {B} n (x ∷ xs) ys (f ∷ early) later q r e h = one_after_crash n xs ys early later (λ g i. q g (there i)) r (tail e) h
  where
    tail : ◌≡◌ {A = List (Event B)} (x ∷ (xs ++ Crash n ∷ Restart n ∷ ys)) (f ∷ (early ++ Restart n ∷ later))
        → xs ++ Crash n ∷ Restart n ∷ ys ≡ early ++ Restart n ∷ later
    tail i = cc

-- among these events are just these turns, one right after the other
record Turn {B : Type 0} (turns events : List (Event B)) : Type 0 where
  pub before : List (Event B)
  pub after : List (Event B)
  pub quiet : Quiet before
  pub quiet_then : Quiet after
  pub is : events ≡ before ++ (turns ++ after)

-- none; or the node restarts, or crashes and restarts
abbrev Turns : {B : Type 0} → ℕ → List (Event B) → Type 0
Turns n events = Quiet events ⊎ (Turn (Restart n ∷ []) events ⊎ Turn (Crash n ∷ Restart n ∷ []) events)

turn_among : {B : Type 0} (turns events : List (Event B)) → Turn turns events → (e : Event B) → is_turn e ≡ true → Has events e → Has turns e
turn_among turns events t e is h =
    ⊎_elim (λ i. absurd (off (sym is ∙ t.quiet e i)))
    (λ i. ⊎_elim (λ j. j) (λ j. absurd (off (sym is ∙ t.quiet_then e j))) (has_cases turns t.after i))
    (has_cases t.before (turns ++ t.after) (subst (λ l. Has l e) t.is h))

once_of : {B : Type 0} (n : ℕ) (events : List (Event B)) → Turns n events → RestartsOnce events n
once_of {B} n events t = ⊎_elim never (λ u. ⊎_elim restart crash u) t
  where
    differ : (k m : ℕ) → ◌≡◌ {A = Event B} (Restart m) (Crash k) → ⊥
    differ k m e = cc

    unlike : (k m : ℕ) → ◌≡◌ {A = Event B} (Crash m) (Restart k) → ⊥
    unlike k m e = cc

    names : (k : ℕ) → ◌≡◌ {A = Event B} (Restart n) (Restart k) → k ≡ n
    names k e = cc

    names_crash : (k : ℕ) → ◌≡◌ {A = Event B} (Crash n) (Crash k) → k ≡ n
    names_crash k e = cc

    never : Quiet events → RestartsOnce events n
    never q =
        record {
          none_crashes = λ k h. absurd (off (q (Crash k) h));
          crashes = λ early later e. absurd (off (q (Crash n) (subst (λ l. Has l (Crash n)) (sym e) (has_right early here))));
          own = λ k h. absurd (off (q (Restart k) h));
          once = λ early later e h. off (q (Restart n) (subst (λ l. Has l (Restart n)) (sym e) (has_right early here)));
        }

    restart : Turn (Restart n ∷ []) events → RestartsOnce events n
    restart u =
        record {
          none_crashes = λ k h. absurd (no_crash k h);
          crashes = λ early later e. absurd (no_crash n (subst (λ l. Has l (Crash n)) (sym e) (has_right early here)));
          own = λ k h. names k (has_one (turn_among (Restart n ∷ []) events u (Restart k) refl h));
          once = λ early later e h. just_one n u.before u.after early later u.quiet u.quiet_then (sym u.is ∙ e) h;
        }
      where
        no_crash : (k : ℕ) → Has events (Crash k) → ⊥
        no_crash k h = differ k n (has_one (turn_among (Restart n ∷ []) events u (Crash k) refl h))

    crash : Turn (Crash n ∷ Restart n ∷ []) events → RestartsOnce events n
    crash u =
        record {
          none_crashes = λ k h. ⊎_elim (λ i. names_crash k i) (λ i. absurd (differ k n (has_one i)))
              (has_cons (turn_among (Crash n ∷ Restart n ∷ []) events u (Crash k) refl h));
          crashes = λ early later e. (u.after, crash_first n u.before u.after early later u.quiet u.quiet_then (sym u.is ∙ e));
          own = λ k h. ⊎_elim (λ i. absurd (unlike k n i)) (λ i. names k (has_one i))
              (has_cons (turn_among (Crash n ∷ Restart n ∷ []) events u (Restart k) refl h));
          once = λ early later e h. one_after_crash n u.before u.after early later u.quiet u.quiet_then (sym u.is ∙ e) h;
        }

-- with more events that take no node down or up
turns_then : {B : Type 0} (n : ℕ) (xs es : List (Event B)) → Quiet xs → Turns n es → Turns n (xs ++ es)
turns_then {B} n xs es q t =
    ⊎_elim (λ r. inl (quiet_both xs es q r))
    (λ u. inr (⊎_elim (λ v. inl (more (Restart n ∷ []) v)) (λ v. inr (more (Crash n ∷ Restart n ∷ []) v)) u)) t
  where
    more : (turns : List (Event B)) → Turn turns es → Turn turns (xs ++ es)
    more turns v =
        record {
          before = xs ++ v.before;
          after = v.after;
          quiet = quiet_both xs v.before q v.quiet;
          quiet_then = v.quiet_then;
          is = ap (λ l. xs ++ l) v.is ∙ sym (append_assoc xs v.before (turns ++ v.after));
        }

quiet_passes : {B : Type 0} (b b' : Ballot) (first first' n : ℕ) (cast votes : List (Vote B)) (seats : List (Seat B))
    → Quiet (look b first seats ++ lead b' first' cast seats ++ pass n seats votes)
quiet_passes b b' first first' n cast votes seats =
    quiet_both (look b first seats ++ lead b' first' cast seats) (pass n seats votes)
    (quiet_both (look b first seats) (lead b' first' cast seats) (quiet_look b first seats) (quiet_lead b' first' cast seats))
    (quiet_pass n seats votes)

quiet_first : {B : Type 0} (same : B → B → Bool) (c : Crew B) (act : Act B) → Quiet (first_pass same c act)
quiet_first same c act = quiet_passes _ _ _ _ c.own.number [] (first_votes same c act) c.helpers

quiet_fetch : {B : Type 0} (n first : ℕ) (o : Option Source) → Quiet {B = B} (fetch_by n first o)
quiet_fetch n first None = quiet_none
quiet_fetch n first (Some t) = quiet_cons _ _ refl (quiet_cons _ _ refl (quiet_cons _ [] refl quiet_none))

-- a node that is level and does not fall takes no node down or up
quiet_level : {B : Type 0} (same : B → B → Bool) (c : Crew B) (act : Act B) → Quiet (first_pass same c act ++ goes_on same c act)
quiet_level same c act =
    quiet_both (first_pass same c act) (goes_on same c act) (quiet_first same c act)
    (quiet_cons (take c.own.number act) (pass c.own.number c.helpers (second_votes same c act)) refl
    (quiet_pass c.own.number c.helpers (second_votes same c act)))

-- a node that is level restarts if it falls
level_turns : {B : Type 0} (same : B → B → Bool) (c : Crew B) (act : Act B) → (b : Bool)
    → Turns c.own.number (first_pass same c act ++ (if b then comes_back same c act else goes_on same c act))
level_turns {B} same c act true =
    inr (inl (record {
      before = first_pass same c act;
      after = rest;
      quiet = quiet_first same c act;
      quiet_then = quiet_both (fetch_again c) then_taken (quiet_fetch c.own.number (suc (floor_of c.own)) (source_again c))
          (quiet_cons (take c.own.number act) then_led refl
          (quiet_both (lead (ballot_after same c act (suc (seen same c act))) (suc (floor_again c)) (first_votes same c act) c.helpers)
          (pass c.own.number c.helpers (again_votes same c act))
          (quiet_lead (ballot_after same c act (suc (seen same c act))) (suc (floor_again c)) (first_votes same c act) c.helpers)
          (quiet_pass c.own.number c.helpers (again_votes same c act))));
      is = ap (λ l. first_pass same c act ++ l)
          (append_assoc (Restart c.own.number ∷ fetch_again c)
          (take c.own.number act
          ∷ lead (ballot_after same c act (suc (seen same c act))) (suc (floor_again c)) (first_votes same c act) c.helpers)
          (pass c.own.number c.helpers (again_votes same c act)));
    }))
  where
    then_led : List (Event B)
    then_led =
        lead (ballot_after same c act (suc (seen same c act))) (suc (floor_again c)) (first_votes same c act) c.helpers
        ++ pass c.own.number c.helpers (again_votes same c act)

    then_taken : List (Event B)
    then_taken = take c.own.number act ∷ then_led

    rest : List (Event B)
    rest = fetch_again c ++ then_taken
level_turns {B} same c act false = inl (quiet_level same c act)

-- whether the node begins a boot as it is made level
abbrev pub anew_by : {B : Type 0} → ℕ → NodeState B → Option Source → Bool
anew_by n x None = false
anew_by n x (Some t) = holds_boot n t.snapshot x || falls_after n t.snapshot x

abbrev pub begins_anew : {B : Type 0} → Crew B → Bool
begins_anew c = anew_by c.own.number c.own.node (source_of c)

-- a node that begins a boot as it is made level does not fall then
pub restarts_once : {B : Type 0} (same : B → B → Bool) (c : Crew B) (act : Act B)
    → (begins_anew c ≡ true → falls same (reached c) act ≡ false) → RestartsOnce (course same c act) c.own.number
restarts_once {B} same c act stays =
    once_of c.own.number (course same c act) (by_source (source_of c) stays)
  where
    d : Crew B
    d = reached c

    n : ℕ
    n = c.own.number

    x : NodeState B
    x = c.own.node

    level : List (Event B)
    level = level_course same d act

    first : (t : Source) → Quiet {B = B} (Start n ∷ fetch n (suc (log_length x)) t)
    first t = quiet_cons _ _ refl (quiet_fetch n (suc (log_length x)) (Some t))

    quiet_then : falls same d act ≡ false → Quiet level
    quiet_then e =
        subst (λ b. Quiet (first_pass same d act ++ (if b then comes_back same d act else goes_on same d act))) (sym e)
        (quiet_level same d act)

    by_turn : (t : Source) (a b : Bool) → ((a || b) ≡ true → falls same d act ≡ false)
        → Turns n ((if a then Crash n ∷ Restart n ∷ delivered t.number (Snapshot t.snapshot) n ∷ [] else if b then Restart n ∷ [] else []) ++ level)
    by_turn t true b h =
        inr (inr (record {
          before = [];
          after = delivered t.number (Snapshot t.snapshot) n ∷ level;
          quiet = quiet_none;
          quiet_then = quiet_cons _ level refl (quiet_then (h refl));
          is = refl;
        }))
    by_turn t false true h =
        inr (inl (record { before = []; after = level; quiet = quiet_none; quiet_then = quiet_then (h refl); is = refl }))
    by_turn t false false h = level_turns same d act (falls same d act)

    by_source : (o : Option Source) → (anew_by n x o ≡ true → falls same d act ≡ false) → Turns n (reach_by n x o ++ level)
    by_source None h = level_turns same d act (falls same d act)
    by_source (Some t) h =
        subst (λ l. Turns n l) (sym (append_assoc (Start n ∷ fetch n (suc (log_length x)) t) (turn_over n t x) level))
        (turns_then n (Start n ∷ fetch n (suc (log_length x)) t) (turn_over n t x ++ level) (first t)
        (by_turn t (holds_boot n t.snapshot x) (falls_after n t.snapshot x) h))
