-- Learned entries are applied: the log stays chosen.
use Rattle.std.proofs.Common.{◌≡◌, ◌⊎◌, inl, inr, ⊎_elim, ℕ, zero, suc, ◌+◌, ◌≤◌, Bool, true, false, eqb, refl, sym, ap, ◌∙◌, subst, arith}
use Rattle.std.proofs.Common.{List, [], ◌∷◌, ◌++◌, length, append_assoc, length-append, Option, Some}
use Rattle.std.specs.Prelude.{slice_get, if◌then◌else◌, nat_lt}
use Rattle.std.proofs.lemmas.Bool.{cond_both, eqb-true}
use Rattle.std.proofs.lemmas.List.{append-nil}
use Rattle.cluster_world.proofs.Invariant.{IsChosen, NodeOk, promises}
use Rattle.cluster_world.proofs.Growth.{chosen_grows, role_free_grows}
use Rattle.cluster_world.proofs.WithNode.{with_node, kept_on, mine_ok}
use Rattle.cluster_world.proofs.Proposals.{silent, kept_none, State, Going, FreeAt}
use Rattle.cluster_world.proofs.Events.{ToBy}
use Rattle.cluster_world.proofs.Resting.{rests, rest_is}
use Rattle.cluster_world.specs.Has.{Has, here, there}
use Rattle.paxos_packets.specs.declared.entry.Entry.{Entry}
use Rattle.paxos_packets.specs.declared.packet.Packet.{Packet}
use Rattle.paxos_learner.specs.declared.learned.LearnedEntry.{LearnedEntry}
use Rattle.paxos_learner.specs.Learner.{run_with, run_from}
use Rattle.paxos_planning.specs.Node.{NodeState, Plan, log_length}
use Rattle.paxos_packets.specs.Rows.{raised}
use Rattle.paxos_node.specs.Applying.{down, started, note, ends, go_down, apply_all, settle}
use Rattle.paxos_node.specs.Snapshots.{rest_on}
use Rattle.paxos_packets.specs.Body.{IsEquality}
use Rattle.paxos_packets.specs.Snapshot.{Snapshot, floor_in}

-- each entry of the log is chosen in its slot
pub record Logged {B : Type 0} (members : ℕ) (sent : List (Packet B)) (log : List (Entry B)) : Type 0 where
  pub at : (i : ℕ) (e : Entry B) → slice_get log i ≡ Some e → IsChosen members sent (suc i) e

slice_get_push : {E : Type 0} (xs : List E) (x : E) (i : ℕ) (e : E) → slice_get (xs ++ x ∷ []) i ≡ Some e
    → (slice_get xs i ≡ Some e) ⊎ ((i ≡ length xs) × (x ≡ e))
slice_get_push [] x zero e h = inr (refl, same)
  where
    same : x ≡ e
    same = cc
slice_get_push [] x (suc i) e h = absurd (cc)
slice_get_push (y ∷ ys) x zero e h = inl h
slice_get_push (y ∷ ys) x (suc i) e h = ⊎_elim (λ a. inl a) (λ a. inr (ap suc a.0, a.1)) (slice_get_push ys x i e h)

pub logged_nil : {B : Type 0} (members : ℕ) (sent : List (Packet B)) → Logged members sent []
logged_nil {B} members sent = record { at = λ i e h. absurd (nothing i e h) }
  where
    nothing : (i : ℕ) (e : Entry B) → slice_get {X = Entry B} [] i ≡ Some e → ⊥
    nothing i e h = cc

logged_push : {B : Type 0} (members : ℕ) (sent : List (Packet B)) (log : List (Entry B)) (e : Entry B) → Logged members sent log
    → IsChosen members sent (suc (length log)) e → Logged members sent (log ++ e ∷ [])
logged_push {B} members sent log e ok c =
    record {
      at = λ i f h. ⊎_elim (λ a. ok.at i f a)
          (λ (a : (i ≡ length log) × (e ≡ f)). subst (λ (z : ℕ × Entry B). IsChosen members sent (suc z.0) z.1) (λ j. (sym a.0 j, a.1 j))
          c) (slice_get_push log e i f h);
    }

at_front : {E : Type 0} (xs ys : List E) (i : ℕ) (e : E) → slice_get xs i ≡ Some e → slice_get (xs ++ ys) i ≡ Some e
at_front [] ys i e h = absurd (cc)
at_front (x ∷ xs) ys zero e h = h
at_front (x ∷ xs) ys (suc i) e h = at_front xs ys i e h

-- its first entries alone
pub logged_front : {B : Type 0} (members : ℕ) (sent : List (Packet B)) (xs ys : List (Entry B)) → Logged members sent (xs ++ ys)
    → Logged members sent xs
logged_front members sent xs ys ok = record { at = λ i e h. ok.at i e (at_front xs ys i e h) }

-- the entries are chosen in the slots from this one on
abbrev pub RunOk : {B : Type 0} → ℕ → List (Packet B) → ℕ → List (Entry B) → Type 0
RunOk members sent slot [] = Unit {0}
RunOk members sent slot (e ∷ es) = IsChosen members sent slot e × RunOk members sent (suc slot) es

run_ok : {B : Type 0} (members : ℕ) (sent : List (Packet B)) (fs : List (LearnedEntry B)) (slot : ℕ)
    → ((f : LearnedEntry B) → Has fs f → IsChosen members sent f.slot f.entry) → RunOk members sent slot (run_from slot fs)
run_ok members sent [] slot ok = tt
run_ok {B} members sent (f ∷ fs) slot ok =
    go (λ s. run_ok members sent fs s (λ g h. ok g (there h))) (eqb f.slot slot) (nat_lt f.slot slot) refl
  where
    go : ((s : ℕ) → RunOk members sent s (run_from s fs)) → (a b : Bool) → eqb f.slot slot ≡ a
        → RunOk members sent slot (run_with a b f.entry (run_from (if a then suc slot else slot) fs))
    go rest true b e = (subst (λ s. IsChosen members sent s f.entry) (eqb-true f.slot slot e) (ok f here), rest (suc slot))
    go rest false true e = rest slot
    go rest false false e = tt

pub longer : {E : Type 0} (xs : List E) (x : E) → length (xs ++ x ∷ []) ≡ suc (length xs)
longer xs x = length-append xs (x ∷ []) ∙ plus_one (length xs)
  where
    plus_one : (k : ℕ) → k + 1 ≡ suc k
    plus_one k = omega arith

-- above a floor
pub one_longer : {E : Type 0} (floor : ℕ) (xs : List E) (x : E) → floor + length (xs ++ x ∷ []) ≡ suc (floor + length xs)
one_longer floor xs x = ap (λ k. floor + k) (longer xs x) ∙ plus_suc floor (length xs)
  where
    plus_suc : (a b : ℕ) → a + suc b ≡ suc (a + b)
    plus_suc a b = omega arith

-- up, with this snapshot, and with what it applied after what it had above it; it has taken this many acts
pub record UpFrom {B : Type 0} (held : Option Snapshot) (above : List (Entry B)) (count : ℕ) (o : Plan B) : Type 0 where
  pub up : o.node.up ≡ true
  pub base : o.node.rows.snapshot ≡ held
  pub log : o.node.applied ≡ above ++ o.applied
  pub acts : o.node.taken ≡ count

-- an event in this boot: so, or down
pub record From {B : Type 0} (held : Option Snapshot) (above : List (Entry B)) (boot count : ℕ) (o : Plan B) : Type 0 where
  pub boot_is : o.node.rows.boot ≡ boot
  pub case : UpFrom held above count o ⊎ ((o.node.up ≡ false) × (o.node.applied ≡ []))

applies_from : {B : Type 0} (n : ℕ) (held : Option Snapshot) (above : List (Entry B)) (boot count : ℕ) (es : List (Entry B)) (o : Plan B)
    → o.node.rows.boot ≡ boot → UpFrom held above count o → From held above boot count (apply_all n es o)
applies_from n held above boot count [] o b c = record { boot_is = b; case = inl c }
applies_from n held above boot count (e ∷ es) o b c =
    cond_both (ends n o.node e) (go_down (note e o)) (apply_all n es (note e o)) (λ z. From held above boot count z)
    (λ t. record { boot_is = b; case = inr (refl, refl) })
    (λ t. applies_from n held above boot count es (note e o) b
    (record {
      up = c.up;
      base = c.base;
      log = ap (λ l. l ++ e ∷ []) c.log ∙ append_assoc above o.applied (e ∷ []);
      acts = c.acts;
    }))

-- of a plan in whose event nothing is applied yet
pub settles_from : {B : Type 0} (n : ℕ) (u : Plan B) (boot count : ℕ) → u.node.up ≡ true → u.applied ≡ [] → u.node.rows.boot ≡ boot
    → u.node.taken ≡ count → From u.node.rows.snapshot u.node.applied boot count (settle n u)
settles_from n u boot count up none boot_is acts =
    applies_from n u.node.rows.snapshot u.node.applied boot count (run_from (suc (log_length u.node)) u.node.learner.learned) u boot_is
    (record { up = up; base = refl; log = sym (ap (λ l. u.node.applied ++ l) none ∙ append-nil u.node.applied); acts = acts })

-- what is applied changes nothing of what is committed
applies_change : {B : Type 0} (n : ℕ) (es : List (Entry B)) (o : Plan B) → (apply_all n es o).change ≡ o.change
applies_change n [] o = refl
applies_change n (e ∷ es) o =
    cond_both (ends n o.node e) (go_down (note e o)) (apply_all n es (note e o)) (λ z. z.change ≡ o.change) (λ t. refl)
    (λ t. applies_change n es (note e o))

applies_rows : {B : Type 0} (n : ℕ) (es : List (Entry B)) (o : Plan B) → (apply_all n es o).node.rows ≡ o.node.rows
applies_rows n [] o = refl
applies_rows n (e ∷ es) o =
    cond_both (ends n o.node e) (go_down (note e o)) (apply_all n es (note e o)) (λ z. z.node.rows ≡ o.node.rows) (λ t. refl)
    (λ t. applies_rows n es (note e o))

pub settle_rows : {B : Type 0} (n : ℕ) (o : Plan B) → (settle n o).node.rows ≡ o.node.rows
settle_rows n o = applies_rows n (run_from (suc (log_length o.node)) o.node.learner.learned) o

pub settle_change : {B : Type 0} (n : ℕ) (o : Plan B) → (settle n o).change ≡ o.change
settle_change n o = applies_change n (run_from (suc (log_length o.node)) o.node.learner.learned) o

-- `under` is the log up to the node's floor
module _ {B : Type 0} (same : B → B → Bool) (equal : IsEquality same) (members : ℕ) (many : 2 ≤ members) (at : ℕ → NodeState B) (n : ℕ)
    (before : List (Packet B)) where
  pub record Good (under : List (Entry B)) (o : Plan B) : Type 0 where
    pub inv : State same equal members many at n before o
    pub free : FreeAt same equal members many at n before o
    pub log : Logged members (before ++ o.packets) (under ++ o.node.applied)
    pub floor : length under ≡ floor_in o.node.rows.snapshot

  pub record Goes (under : List (Entry B)) (t u : Plan B) : Type 0 where
    pub going : Going same equal members many at n before t u
    pub free : FreeAt same equal members many at n before u
    pub log : Logged members (before ++ u.packets) (under ++ u.node.applied)
    pub floor : length under ≡ floor_in u.node.rows.snapshot
    pub agrees : t.disagrees ≡ false → u.disagrees ≡ false

  pub goes_on : {early under : List (Entry B)} {t u v : Plan B} → Goes early t u → Goes under u v → Goes under t v
  goes_on g h =
      record { going = kept_on g.going h.going; free = h.free; log = h.log; floor = h.floor; agrees = λ e. h.agrees (g.agrees e) }

  pub good_of : {under : List (Entry B)} {t u : Plan B} → Goes under t u → Good under u
  good_of g = record { inv = g.going.inv; free = g.free; log = g.log; floor = g.floor }

  keep : {under : List (Entry B)} (o : Plan B) → Good under o → Goes under o o
  keep o ok =
      record {
        going = kept_none members many at n o.node (before ++ o.packets) ok.inv;
        free = ok.free;
        log = ok.log;
        floor = ok.floor;
        agrees = λ e. e;
      }

  mine : {under : List (Entry B)} (o : Plan B) → Good under o → NodeOk members (promises (with_node at n o.node)) (before ++ o.packets) n o.node
  mine o ok = mine_ok members at n o.node (before ++ o.packets) ok.inv

  -- nothing above the floor
  bare_log : (under : List (Entry B)) (o : Plan B) → Good under o → Logged members (before ++ o.packets) (under ++ [])
  bare_log under o ok =
      subst (λ l. Logged members (before ++ o.packets) l) (sym (append-nil under))
      (logged_front members (before ++ o.packets) under o.node.applied ok.log)

  pub down_goes : (under : List (Entry B)) (o : Plan B) → Good under o → Goes under o (go_down o)
  down_goes under o ok =
      let m = mine o ok in
      record {
        going =
            silent members many at n o.node (down o.node.rows) (before ++ o.packets) ok.inv refl
            (record { rows = m.rows; role = tt; heard = λ t i k q. absurd (elim i [ ]); learned = λ f i. absurd (elim i [ ]) });
        free = tt;
        log = bare_log under o ok;
        floor = ok.floor;
        agrees = λ e. e;
      }

  pub start_goes : (under : List (Entry B)) (o : Plan B) → Good under o → Goes under o (record o { node = started n (raised o.node.rows) })
  start_goes under o ok =
      let m = mine o ok in
      record {
        going = silent members many at n o.node (started n (raised o.node.rows)) (before ++ o.packets) ok.inv refl
            (record {
              rows = record { reached = m.rows.reached; tops = m.rows.tops; above = m.rows.above; low = m.rows.low; known = m.rows.known };
              role = tt;
              heard = λ t i k q. absurd (elim i [ ]);
              learned = λ f i. absurd (elim i [ ]);
            });
        free = tt;
        log = bare_log under o ok;
        floor = ok.floor;
        agrees = λ e. e;
      }

  -- the log in full
  full_length : {under : List (Entry B)} (o : Plan B) → Good under o → length (under ++ o.node.applied) ≡ log_length o.node
  full_length {under} o ok = length-append under o.node.applied ∙ ap (λ k. k + length o.node.applied) ok.floor

  note_goes : {under : List (Entry B)} (e : Entry B) (o : Plan B) → Good under o → IsChosen members (before ++ o.packets) (suc (log_length o.node)) e
      → Goes under o (note e o)
  note_goes {under} e o ok c =
      let m = mine o ok in
      let g : Going same equal members many at n before o (note e o) =
      silent members many at n o.node (note e o).node (before ++ o.packets) ok.inv refl
      (record { rows = m.rows; role = m.role; heard = m.heard; learned = m.learned }) in
      record {
        going = g;
        free = role_free_grows members g.grows o.node.proposer.role ok.free;
        log =
            subst (λ l. Logged members (before ++ o.packets) l) (append_assoc under o.node.applied (e ∷ []))
            (logged_push members (before ++ o.packets) (under ++ o.node.applied) e ok.log
            (subst (λ k. IsChosen members (before ++ o.packets) (suc k) e) (sym (full_length o ok)) c));
        floor = ok.floor;
        agrees = λ d. d;
      }

  apply_goes : {under : List (Entry B)} (es : List (Entry B)) (o : Plan B) → Good under o
      → RunOk members (before ++ o.packets) (suc (log_length o.node)) es → Goes under o (apply_all n es o)
  apply_goes [] o ok r = keep o ok
  apply_goes {under} (e ∷ es) o ok r =
      let a = note_goes e o ok r.0 in
      cond_both (ends n o.node e) (go_down (note e o)) (apply_all n es (note e o)) (λ z. Goes under o z)
      (λ t. goes_on a (down_goes under (note e o) (good_of a)))
      (λ t. goes_on a (apply_goes es (note e o) (good_of a)
      (subst (λ k. RunOk members (before ++ o.packets) (suc k) es) (sym (one_longer (floor_in o.node.rows.snapshot) o.node.applied e)) r.1)))

  settle_goes : {under : List (Entry B)} (o : Plan B) → Good under o → Goes under o (settle n o)
  settle_goes o ok =
      apply_goes (run_from (suc (log_length o.node)) o.node.learner.learned) o ok
      (run_ok members (before ++ o.packets) o.node.learner.learned (suc (log_length o.node)) (mine o ok).learned)

  -- a step
  pub arrives : {under : List (Entry B)} {k : ℕ} (t u : Plan B) → Good under t → ToBy same equal members many at n before k t u → Goes under t u
  arrives {under} t u ok s =
      record {
        going = s.path.going;
        free = s.free;
        log =
            subst (λ l. Logged members (before ++ u.packets) (under ++ l)) (sym s.path.stays.log)
            (record { at = λ i e h. chosen_grows s.path.going.grows (ok.log.at i e h) });
        floor = ok.floor ∙ sym (ap floor_in s.path.stays.base);
        agrees = s.path.agrees;
      }

  -- it rests on a snapshot that was made from this log
  pub rest_goes : {early : List (Entry B)} (under : List (Entry B)) (over : Bool) (s : Snapshot) (t : Plan B) → Good early t
      → floor_in t.node.rows.snapshot ≤ s.floor → length under ≡ s.floor → Logged members (before ++ t.packets) under
      → Goes under t (rest_on over s t)
  rest_goes under over s t ok rises long logged =
      let r = rests same equal members many at n before over s t rises ok.inv ok.free in
      let i = rest_is over s t in
      record {
        going = r.going;
        free = r.free;
        log = subst (λ l. Logged members (before ++ t.packets) l) (sym (ap (λ l. under ++ l) i.log ∙ append-nil under)) logged;
        floor = long ∙ sym (ap floor_in i.base);
        agrees = λ e. e;
      }

  -- and what it taught is applied
  pub settled_goes : {under : List (Entry B)} (t u : Plan B) → Goes under t u → Goes under t (settle n u)
  settled_goes t u g = goes_on g (settle_goes u (good_of g))

  -- what was applied is chosen, in a node that it took down too
  apply_logged : (under log es : List (Entry B)) (o : Plan B) → under ++ o.node.applied ≡ log ++ o.applied
      → length under ≡ floor_in o.node.rows.snapshot
      → Logged members (before ++ o.packets) (under ++ o.node.applied) → RunOk members (before ++ o.packets) (suc (log_length o.node)) es
      → Logged members (before ++ (apply_all n es o).packets) (log ++ (apply_all n es o).applied)
  apply_logged under log [] o is long ok r = subst (λ l. Logged members (before ++ o.packets) l) is ok
  apply_logged under log (e ∷ es) o is long ok r =
      cond_both (ends n o.node e) (go_down (note e o)) (apply_all n es (note e o))
      (λ z. Logged members (before ++ z.packets) (log ++ z.applied))
      (λ t. subst (λ l. Logged members (before ++ o.packets) l) more all)
      (λ t. apply_logged under log es (note e o) more long all
      (subst (λ k. RunOk members (before ++ o.packets) (suc k) es) (sym (one_longer (floor_in o.node.rows.snapshot) o.node.applied e)) r.1))
    where
      long_log : length (under ++ o.node.applied) ≡ log_length o.node
      long_log = length-append under o.node.applied ∙ ap (λ k. k + length o.node.applied) long

      all : Logged members (before ++ o.packets) (under ++ (o.node.applied ++ e ∷ []))
      all =
          subst (λ l. Logged members (before ++ o.packets) l) (append_assoc under o.node.applied (e ∷ []))
          (logged_push members (before ++ o.packets) (under ++ o.node.applied) e ok
          (subst (λ k. IsChosen members (before ++ o.packets) (suc k) e) (sym long_log) r.0))

      more : under ++ (o.node.applied ++ e ∷ []) ≡ log ++ (o.applied ++ e ∷ [])
      more =
          sym (append_assoc under o.node.applied (e ∷ [])) ∙ ap (λ l. l ++ e ∷ []) is ∙ append_assoc log o.applied (e ∷ [])

  pub settled_logged : {under : List (Entry B)} (log : List (Entry B)) (t u : Plan B) → Goes under t u → under ++ u.node.applied ≡ log ++ u.applied
      → Logged members (before ++ (settle n u).packets) (log ++ (settle n u).applied)
  settled_logged {under} log t u g is =
      apply_logged under log (run_from (suc (log_length u.node)) u.node.learner.learned) u is g.floor g.log
      (run_ok members (before ++ u.packets) u.node.learner.learned (suc (log_length u.node)) (mine u (good_of g)).learned)
