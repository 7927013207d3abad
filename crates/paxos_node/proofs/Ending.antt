-- An event's end: what is applied entry by entry is applied at once, up to the loss of its boot; and what is planned then.
use Rattle.std.proofs.Common.{◌≡◌, ◌<◌, ◌≤◌, ◌+◌, ◌^◌, ℕ, suc, Bool, true, false, cond, not, ◌&&◌, ◌||◌, Result, Ok, Err, Option, Some, None, List, [], ◌∷◌, ◌++◌, take, length}
use Rattle.std.proofs.Common.{refl, ap, sym, ◌∙◌, subst, append_assoc, append-nil, arith, eqb}
use Rattle.std.proofs.lemmas.Bool.{eqb-true}
use Rattle.std.specs.Prelude.{IfOk, filter}
use Rattle.paxos_packets.specs.Snapshot.{floor_in}
use Rattle.paxos_packets.specs.declared.entry.Entry.{Entry}
use Rattle.paxos_packets.specs.declared.entry.Entry.TheVariants.{Noop, Boot, Lost, Item}
use Rattle.paxos_proposer.specs.Moves.{after_moves, ArePossible}
use Rattle.paxos_learner.specs.declared.learned.LearnedEntry.{LearnedEntry}
use Rattle.paxos_learner.specs.Hearing.{hear_all}
use Rattle.paxos_learner.specs.Learned.{numbered, Rises, Begins}
use Rattle.paxos_learner.specs.Learner.{run_from}
use Rattle.paxos_learner.proofs.Beginning.{goes_on}
use Rattle.replica_machine.specs.declared.roll.Standing.{Standing}
use Rattle.replica_machine.specs.Roll.{standing_after, standings_after, is_live, is_wanted_by}
use Rattle.paxos_node.specs.declared.fault.NodeFault.{NodeFault}
use Rattle.paxos_node.specs.declared.fault.NodeFault.TheVariants.{Rounds, Full, Disagree, Memory}
use Rattle.paxos_node.specs.declared.outcome.Outcome.{Outcome}
use Rattle.paxos_planning.specs.Node.{NodeState, Plan, log_length, told_length}
use Rattle.paxos_planning.specs.Parts.{proposer_of, learner_of, pending_with}
use Rattle.paxos_node.specs.Adopting.{pending_behind, front_behind, Settled}
use Rattle.paxos_node.specs.Applying.{base, standing_of, note, ends, down, go_down, apply_all, settle, ends_boot, count_to_end, has_end}
use Rattle.paxos_planning.specs.Front.{AllStand, IsFront}
use Rattle.paxos_planning.proofs.Planning.{first_full}
use Rattle.paxos_planning.proofs.Standing.{no_front}
use Rattle.paxos_proposer.specs.Role.{Role}
use Rattle.paxos_planning.specs.Drafting.{Known, plan_with_effects}
use Rattle.paxos_planning.specs.declared.effects.Effects.{Effects}
use Rattle.paxos_node.specs.Outcome.{outcome_with, with_added, added_in}
use Rattle.paxos_node.specs.Plans.{Answers}
use Rattle.paxos_node.proofs.Adoption.{length_both}
use Rattle.paxos_node.proofs.Rolling.{one_longer}

-- an entry ends a boot by where all nodes stand, or by the node's own standing

ends_alike : {B : Type 0} (me : ℕ) (x : NodeState B) (e : Entry B) → ends me x e ≡ ends_boot me x.rows.boot (standing_of x me) e
ends_alike me x Noop = refl
ends_alike me x (Boot n b) = refl
ends_alike me x (Item n b q t y) = refl
ends_alike me x (Lost n b) = go (eqb n me) (eqb b x.rows.boot) (eqb-true n me) (eqb-true b x.rows.boot)
  where
    go : (t u : Bool) → (t ≡ true → n ≡ me) → (u ≡ true → b ≡ x.rows.boot)
        → (t && u) && is_live (standing_of x n) b ≡ (t && u) && is_live (standing_of x me) x.rows.boot
    go true true p q = λ i. is_live (standing_of x (p refl i)) (q refl i)
    go true false p q = refl
    go false u p q = refl

-- where the nodes stand after one more entry

stands_on : {B : Type 0} (e : Entry B) (t : Plan B) → standings_after (standing_of t.node) e ≡ standing_of (note e t).node
stands_on e t = one_longer (base t.node.rows) t.node.applied e

-- many entries at once

abbrev pub noted : {B : Type 0} → List (Entry B) → Plan B → Plan B
noted es t =
    record t {
      node = record t.node { applied = t.node.applied ++ es; pending = pending_behind (standing_of t.node) es t.node.pending };
      applied = t.applied ++ es;
    }

abbrev pub ended : {B : Type 0} → Bool → Plan B → Plan B
ended b t = cond b (go_down t) t

noted_none : {B : Type 0} (t : Plan B) → noted [] t ≡ t
noted_none t = λ i. record t { node = record t.node { applied = append-nil t.node.applied i }; applied = append-nil t.applied i }

noted_more : {B : Type 0} (e : Entry B) (es : List (Entry B)) (t : Plan B) → noted es (note e t) ≡ noted (e ∷ es) t
noted_more e es t = λ i.
    record t {
      node = record t.node {
        applied = append_assoc t.node.applied (e ∷ []) es i;
        pending = pending_behind (sym (stands_on e t) i) es (filter (is_wanted_by (sym (stands_on e t) i)) t.node.pending);
      };
      applied = append_assoc t.applied (e ∷ []) es i;
    }

pub applied_at_once : {B : Type 0} (me boot : ℕ) (es : List (Entry B)) (s : Standing) (t : Plan B) → standing_of t.node me ≡ s → t.node.rows.boot ≡ boot
    → apply_all me es t ≡ ended (has_end me boot s es) (noted (take (count_to_end me boot s es) es) t)
applied_at_once me boot [] s t p q = sym (noted_none t)
applied_at_once {B} me boot (e ∷ es) s t p q =
    (λ i. cond (test i) (go_down (note e t)) (apply_all me es (note e t)))
    ∙ go (ends_boot me boot s e) (applied_at_once me boot es (standing_after me s e) (note e t) stands q)
  where
    test : ends me t.node e ≡ ends_boot me boot s e
    test = ends_alike me t.node e ∙ (λ i. ends_boot me (q i) (p i) e)

    stands : standing_of (note e t).node me ≡ standing_after me s e
    stands = (λ i. sym (stands_on e t) i me) ∙ ap (λ (x : Standing). standing_after me x e) p

    go : (x : Bool)
        → apply_all me es (note e t)
        ≡ ended (has_end me boot (standing_after me s e) es) (noted (take (count_to_end me boot (standing_after me s e) es) es) (note e t))
        → cond x (go_down (note e t)) (apply_all me es (note e t))
        ≡ ended (x || has_end me boot (standing_after me s e) es)
        (noted (take (cond x 1 (suc (count_to_end me boot (standing_after me s e) es))) (e ∷ es)) t)
    go true h = refl
    go false h =
        h
        ∙ ap (λ (u : Plan B). ended (has_end me boot (standing_after me s e) es) u)
        (noted_more e (take (count_to_end me boot (standing_after me s e) es) es) t)

-- a log that the learned entries begin with is short enough

pub rises_short : {B : Type 0} (n : ℕ) (ls : List (LearnedEntry B)) → Rises n ls → n < 2 ^ 40
rises_short n [] r = r
rises_short n (l ∷ ls) r = let h = rises_short l.slot ls r.1 in let k = r.0 in omega arith

pub short : {B : Type 0} (n : ℕ) (log : List (Entry B)) (ls : List (LearnedEntry B)) → take (length log) ls ≡ numbered (suc n) log → Rises n ls
    → n + length log < 2 ^ 40
short n [] ls p r = let h = rises_short n ls r in omega arith
short n (e ∷ es) [] p r = absurd (cc)
short {B} n (e ∷ es) (l ∷ ls) p r =
    let first : l ≡ record { slot = suc n; entry = e } = cc in
    let slot : l.slot ≡ suc n = ap (λ (m : LearnedEntry B). m.slot) first in
    let rest : take (length es) ls ≡ numbered (suc (suc n)) es = cc in
    let h = short (suc n) es ls rest (subst (λ (k : ℕ). Rises k ls) slot r.1) in
    omega arith

-- what is planned at an event's end

pub ended_change : {B : Type 0} (b : Bool) (t : Plan B) → t.change ≡ (ended b t).change
ended_change true t = refl
ended_change false t = refl

pub ended_packets : {B : Type 0} (b : Bool) (t : Plan B) → t.packets ≡ (ended b t).packets
ended_packets true t = refl
ended_packets false t = refl

pub ended_applied : {B : Type 0} (b : Bool) (t : Plan B) → t.applied ≡ (ended b t).applied
ended_applied true t = refl
ended_applied false t = refl

pub ended_disagrees : {B : Type 0} (b : Bool) (t : Plan B) → (ended b t).disagrees ≡ t.disagrees
ended_disagrees true t = refl
ended_disagrees false t = refl

pub ended_up : {B : Type 0} (b : Bool) (t : Plan B) → t.node.up ≡ true → b ≡ not (ended b t).node.up
ended_up true t p = refl
ended_up false t p = sym (ap not p)

pub ended_log : {B : Type 0} (b : Bool) (t : Plan B) (n : ℕ) → t.node.up ≡ true → n ≡ log_length t.node → cond b 0 n ≡ told_length (ended b t).node
ended_log true t n up p = refl
ended_log false t n up p = p ∙ ap (λ (u : Bool). cond u (log_length t.node) 0) (sym up)

pub ended_node : {B : Type 0} (b : Bool) (t : Plan B) → cond b (down t.node.rows) t.node ≡ (ended b t).node
ended_node true t = refl
ended_node false t = refl

-- what stood at the front stands if nothing is applied

pub nothing_more : (n : ℕ) → n + 0 ≡ n
nothing_more n = omega arith

still_front : {B : Type 0} (n : ℕ) (role : Role B) (log : ℕ) (stands : ℕ → Standing) (applied pending : List (Entry B)) (added : Option (Entry B))
    → IsFront n log role pending → n ≤ length pending
    → IsFront (front_behind n applied) (log + length applied) role (pending_behind stands applied (pending_with added pending))
still_front {B} n role log stands [] pending added front most = λ same ok leads.
    subst (λ (es : List (Entry B)). AllStand same (log + 0) role es) (sym (first_full n added pending most))
    (subst (λ (m : ℕ). AllStand same m role (take n pending)) (sym (nothing_more log)) (front same ok leads))
still_front n role log stands (e ∷ es) pending added front most =
    no_front (log + length (e ∷ es)) role (pending_behind stands (e ∷ es) (pending_with added pending))

pub settled : {B : Type 0} (k : Known B) (other : Bool) (e : Effects B) (run applied : List (Entry B)) (is_down : Bool) (log front : ℕ)
    → other ≡ false → k.state.up ≡ true → e.change.snapshot ≡ None → k.state.learner.floor ≡ floor_in k.state.rows.snapshot
    → run ≡ run_from (suc (log_length k.state)) (hear_all e.news.items (learner_of k.members k.state)).learner.learned
    → applied ≡ take (count_to_end k.me k.state.rows.boot (standing_of k.state k.me) run) run
    → is_down ≡ has_end k.me k.state.rows.boot (standing_of k.state k.me) run
    → log ≡ cond is_down 0 (log_length k.state + length applied)
    → ArePossible e.moves.items (proposer_of k.me k.members k.state)
    → Begins (floor_in k.state.rows.snapshot) k.state.applied k.state.learner.learned
    → Rises k.state.learner.floor (hear_all e.news.items (learner_of k.members k.state)).learner.learned
    → IsFront front (log_length k.state) (after_moves e.moves.items (proposer_of k.me k.members k.state)).proposer.role k.state.pending
    → front ≤ length k.state.pending
    → Settled k.me k.members k.state (plan_with_effects k other e) (with_added k.added (outcome_with e applied is_down log (front_behind front applied)))
settled {B} k other e run applied is_down log front agree up plain floor run_is applied_is down_is log_is moves begins rises stand most =
    subst
    (λ (u : Effects B). Settled k.me k.members k.state (plan_with_effects k other u)
    (with_added k.added (outcome_with u applied is_down log (front_behind front applied))))
    (λ i. record e { change = record e.change { snapshot = sym plain i } })
    (record {
      agrees = ap (λ (u : Plan B). u.disagrees) whole ∙ ended_disagrees is_down now ∙ agree;
      change = ended_change is_down now ∙ ap (λ (u : Plan B). u.change) (sym whole);
      packets = ended_packets is_down now ∙ ap (λ (u : Plan B). u.packets) (sym whole);
      applied = ended_applied is_down now ∙ ap (λ (u : Plan B). u.applied) (sym whole);
      is_down = ended_up is_down now up ∙ ap (λ (u : Plan B). not u.node.up) (sym whole);
      fits = record { moves = moves; rises = same_floor; applied = goes; within = within; front = fronts };
      node = ended_node is_down now ∙ ap (λ (u : Plan B). u.node) (sym whole);
      log = log_is ∙ ended_log is_down now (log_length k.state + length applied) up longer ∙ ap (λ (u : Plan B). told_length u.node) (sym whole);
    })
  where
    -- the effects, which have no snapshot
    bare : Effects B
    bare = record e { change = record e.change { snapshot = None } }

    t : Plan B
    t = plan_with_effects k other bare

    learned : List (LearnedEntry B)
    learned = (hear_all e.news.items (learner_of k.members k.state)).learner.learned

    role : Role B
    role = (after_moves e.moves.items (proposer_of k.me k.members k.state)).proposer.role

    s : Standing
    s = standing_of k.state k.me

    boot : ℕ
    boot = k.state.rows.boot

    count : ℕ
    count = count_to_end k.me boot s run

    now : Plan B
    now = noted applied t

    whole : settle k.me t ≡ ended is_down now
    whole =
        applied_at_once k.me boot (run_from (suc (log_length k.state)) learned) s t refl refl
        ∙ ap (λ (r : List (Entry B)). ended (has_end k.me boot s r) (noted (take (count_to_end k.me boot s r) r) t)) (sym run_is)
        ∙ (λ i. ended (sym down_is i) (noted (sym applied_is i) t))

    same_floor : k.state.learner.floor ≤ k.state.learner.floor
    same_floor = omega arith

    goes : Begins k.state.learner.floor (k.state.applied ++ applied) learned
    goes =
        subst (λ (es : List (Entry B)). Begins k.state.learner.floor (k.state.applied ++ es) learned)
        (ap (λ (f : ℕ). take count (run_from (suc (f + length k.state.applied)) learned)) floor
        ∙ ap (λ (r : List (Entry B)). take count r) (sym run_is) ∙ sym applied_is)
        (goes_on k.state.learner.floor k.state.applied e.news.items (learner_of k.members k.state) count
        (subst (λ (f : ℕ). Begins f k.state.applied k.state.learner.learned) (sym floor) begins) rises)

    fronts : IsFront (front_behind front applied) (log_length k.state + length applied) role
        (pending_behind (standing_of k.state) applied (pending_with k.added k.state.pending))
    fronts = still_front front role (log_length k.state) (standing_of k.state) applied k.state.pending k.added stand most

    longer : log_length k.state + length applied ≡ log_length now.node
    longer = let l = length_both k.state.applied applied in omega arith

    within : log_length k.state + length applied < 2 ^ 40
    within =
        let h = short k.state.learner.floor (k.state.applied ++ applied) learned goes rises in
        let l = length_both k.state.applied applied in
        let f = floor in
        omega arith

applied_disagrees : {B : Type 0} (me : ℕ) (es : List (Entry B)) (t : Plan B) → (apply_all me es t).disagrees ≡ t.disagrees
applied_disagrees me [] t = refl
applied_disagrees {B} me (e ∷ es) t = go (ends me t.node e) (applied_disagrees me es (note e t))
  where
    go : (b : Bool) → (apply_all me es (note e t)).disagrees ≡ t.disagrees
        → (cond b (go_down (note e t)) (apply_all me es (note e t))).disagrees ≡ t.disagrees
    go true h = refl
    go false h = h

pub settled_disagrees : {B : Type 0} (me : ℕ) (t : Plan B) → (settle me t).disagrees ≡ t.disagrees
settled_disagrees me t = applied_disagrees me (run_from (suc (log_length t.node)) t.node.learner.learned) t

-- if no entry becomes pending

pub without_added : {B : Type 0} (k : Known B) (t : Plan B) (other : Bool) (r : Result (Outcome B) NodeFault) → k.added ≡ None
    → IfOk r (λ o. o.moves.added ≡ None)
    → Answers false false other (λ (o : Outcome B). Settled k.me k.members k.state t (with_added k.added o)) r
    → Answers false false other (λ (o : Outcome B). Settled k.me k.members k.state t o) r
without_added {B} k t other (Ok o) p q a = (
  a.0,
  a.1,
  a.2,
  subst (λ (u : Outcome B). Settled k.me k.members k.state t u)
      (λ i. record o { moves = record o.moves { added = (p ∙ sym q) i } }) a.3,
)
without_added k t other (Err Rounds) p q a = a
without_added k t other (Err Full) p q a = a
without_added k t other (Err Disagree) p q a = a
without_added k t other (Err Memory) p q a = a

-- with the entry put into the outcome

pub with_entry : {B : Type 0} (e : Entry B) (other : Bool) (P : Outcome B → Type 0) (r : Result (Outcome B) NodeFault)
    → Answers false false other (λ (o : Outcome B). P (with_added (Some e) o)) r → Answers false false other P (added_in e r)
with_entry e other P (Ok o) a = a
with_entry e other P (Err Rounds) a = a
with_entry e other P (Err Full) a = a
with_entry e other P (Err Disagree) a = a
with_entry e other P (Err Memory) a = a
