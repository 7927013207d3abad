-- A node's own ballot: what it proposes in it, as its role goes along, and what that leaves as it was.
use Rattle.std.proofs.Common.{◌≡◌, ⊎_elim, ℕ, zero, suc, ◌+◌, ◌-◌, ◌<◌, ◌≤◌, Bool, true, false, not, ◌&&◌, refl, sym, ap, ◌∙◌, subst, arith}
use Rattle.std.proofs.Common.{List, [], ◌∷◌, ◌++◌, length, Some, None}
use Rattle.std.specs.Prelude.{max, nat_lt, if◌then◌else◌}
use Rattle.std.proofs.lemmas.Bool.{cond-true, cond-false, lt-ltb}
use Rattle.std.proofs.lemmas.List.{append-nil, append_assoc}
use Rattle.std.proofs.lemmas.List.Sums.{fold-append}
use Rattle.cluster_world.proofs.Casting.{HeardFrom, heard_later, AreEights, hears_own, counts_own, sent_to, hears_itself, hears_still}
use Rattle.cluster_world.proofs.Casting.{eights_more}
use Rattle.cluster_world.proofs.Lists.{has_nil, has_one, has_cases, has_left, has_right}
use Rattle.cluster_world.proofs.Reports.{lowest_is}
use Rattle.cluster_world.specs.Has.{Has, here, there}
use Rattle.paxos_packets.proofs.Order.{irreflexive}
use Rattle.paxos_packets.specs.Ballot.{below, same_ballot}
use Rattle.paxos_packets.specs.Members.{IsMember, is_in, is_majority}
use Rattle.paxos_packets.specs.Packet.{packet, to_others}
use Rattle.paxos_packets.specs.Snapshot.{floor_in}
use Rattle.paxos_packets.specs.Vote.{put_vote, put_votes}
use Rattle.paxos_packets.specs.declared.ballot.Ballot.{Ballot}
use Rattle.paxos_packets.specs.declared.entry.Entry.{Entry}
use Rattle.paxos_packets.specs.declared.packet.Kind.TheVariants.{Accept}
use Rattle.paxos_packets.specs.declared.packet.Packet.{Packet}
use Rattle.paxos_packets.specs.declared.vote.Vote.{Vote}
use Rattle.paxos_learner.specs.Learner.{LearnerState, hears, count_vote}
use Rattle.paxos_learner.specs.Tallies.{place_of, nodes_heard}
use Rattle.paxos_proposer.specs.declared.promises.CountedPromise.{CountedPromise}
use Rattle.paxos_proposer.specs.Promises.{with_promises, calls, lowest}
use Rattle.paxos_proposer.specs.Proposer.{slot_end, next_vote, submitted, is_leading}
use Rattle.paxos_proposer.specs.Proposing.{proposals_of}
use Rattle.paxos_proposer.specs.Reports.{is_counted, reports, past_reports, called_in, called_for}
use Rattle.paxos_proposer.specs.Role.{Role, Idle, Preparing, Leading}
use Rattle.paxos_planning.specs.Node.{NodeState, Plan, log_length}
use Rattle.paxos_planning.specs.Plan.{with_role, send, cast}
use Rattle.paxos_planning.specs.Proposals.{offer, propose_as, propose, propose_all, lead, stands, propose_new, propose_each, forwarded}
use Rattle.paxos_planning.specs.Proposals.{push}
use Rattle.paxos_planning.specs.Replies.{count_promise, on_promise_as}
use Rattle.world_rescue.specs.Course as course

-- it leads in this ballot, and proposes next in no slot after this one
abbrev pub LeadsBy : {B : Type 0} → Ballot → ℕ → Role B → Type 0
LeadsBy b most Idle = ⊥
LeadsBy b most (Preparing c first cs) = ⊥
LeadsBy b most (Leading c next table) = (c ≡ b) × (next ≤ most)

-- a leader goes on above this floor
abbrev pub IsAbove : {B : Type 0} → ℕ → Role B → Type 0
IsAbove floor Idle = Unit {0}
IsAbove floor (Preparing c first cs) = Unit {0}
IsAbove floor (Leading c next table) = floor < next

-- from which slot on nobody else can have been heard: from the next one of a leader
abbrev pub fresh_from : {B : Type 0} → Role B → ℕ
fresh_from Idle = 0
fresh_from (Preparing c first cs) = 0
fresh_from (Leading c next table) = next

-- these votes are for slots below this one
pub record AreBelow {B : Type 0} (past : ℕ) (vs : List (Vote B)) : Type 0 where
  pub each : (v : Vote B) → Has vs v → v.slot < past

-- it prepares this ballot, what was reported is below the slot `past`, and no floor reaches the first slot; or it leads in it so
abbrev pub IsIn : {B : Type 0} → Ballot → ℕ → ℕ → ℕ → Role B → Type 0
IsIn b first past most Idle = ⊥
IsIn b first past most (Preparing c f cs) =
    (c ≡ b) × (f ≡ first) × AreBelow past (reports cs) × ((d : CountedPromise _) → Has cs d → d.floor < first)
IsIn b first past most (Leading c next table) = (c ≡ b) × (next ≤ most)

-- what is called for is below it then
past_below : {B : Type 0} (first past : ℕ) (vs : List (Vote B)) → first ≤ past → AreBelow past vs → past_reports first vs ≤ past
past_below first past [] l h = l
past_below first past (v ∷ vs) l h =
    both (suc v.slot) (past_reports first vs) (h.each v here)
    (past_below first past vs l (record { each = λ w i. h.each w (there i) }))
  where
    both : (a c : ℕ) → a ≤ past → c ≤ past → max a c ≤ past
    both a c g k = omega arith

pub first_below : {B : Type 0} (first : ℕ) (vs : List (Vote B)) → first ≤ past_reports first vs
first_below first [] = omega arith
first_below first (v ∷ vs) = more (suc v.slot) (past_reports first vs) (first_below first vs)
  where
    more : (a c : ℕ) → first ≤ c → first ≤ max a c
    more a c l = omega arith

pub called_length : {B : Type 0} (vs : List (Vote B)) (slot n : ℕ) → length (called_in vs slot n) ≡ n
called_length vs slot zero = refl
called_length vs slot (suc n) = ap suc (called_length vs (suc slot) n)

called_below : {B : Type 0} (first past : ℕ) (vs : List (Vote B)) → first ≤ past → AreBelow past vs → first + length
    (called_for first vs) ≤ past
called_below first past vs l h =
    let k = called_length vs first (past_reports first vs - first) in
    let i = past_below first past vs l h in
    let j = first_below first vs in
    fits (past_reports first vs) (length (called_for first vs)) k i j
  where
    fits : (p c : ℕ) → c ≡ p - first → p ≤ past → first ≤ p → first + c ≤ past
    fits p c e g k = omega arith

pub below_both : {B : Type 0} (past : ℕ) (vs ws : List (Vote B)) → AreBelow past vs → AreBelow past ws → AreBelow past (vs ++ ws)
below_both past vs ws g h = record { each = λ v i. ⊎_elim (λ a. g.each v a) (λ c. h.each v c) (has_cases vs ws i) }

pub reports_more : {B : Type 0} (cs : List (CountedPromise B)) (c : CountedPromise B) → reports (cs ++ c ∷ []) ≡ reports cs ++ c.votes
reports_more [] c = append-nil c.votes
reports_more (d ∷ cs) c = ap (λ l. d.votes ++ l) (reports_more cs c) ∙ sym (append_assoc d.votes (reports cs) c.votes)

module _ {B : Type 0} (same : B → B → Bool) (members : ℕ) (many : 2 ≤ members) (n : ℕ) (low : n < 8) (b : Ballot)
    (votes : List (Vote B)) (y : NodeState B) where
  -- the node, which was y as the event began and had these votes as its ballot began, has this role in the ballot; all that it proposed it has
  -- voted for, heard its vote for, and asked each other for; it learned and applied nothing
  pub record Bids (x : NodeState B) (all : List (Packet B)) (r : Role B) : Type 0 where
    pub up : x.up ≡ true
    pub boot : x.rows.boot ≡ y.rows.boot
    pub base : x.rows.snapshot ≡ y.rows.snapshot
    pub promised : x.rows.promised ≡ Some b
    pub cast : x.rows.votes ≡ put_votes (proposals_of r) votes
    pub role : x.proposer.role ≡ r
    pub level : x.learner.floor ≡ floor_in y.rows.snapshot
    pub above : IsAbove (floor_in y.rows.snapshot) r
    pub learned : x.learner.learned ≡ y.learner.learned
    pub log : x.applied ≡ y.applied
    pub pending : x.pending ≡ y.pending
    pub taken : x.taken ≡ y.taken
    pub own : HeardFrom b (fresh_from r) n x.learner
    pub eights : AreEights x.learner.heard
    pub heard : (v : Vote B) → Has (proposals_of r) v → is_in (nodes_heard (place_of v) x.learner.heard) n ≡ true
    pub mine : (v : Vote B) → Has (proposals_of r) v → v.ballot ≡ b
    pub out : (v : Vote B) → Has (proposals_of r) v → (k : ℕ) → IsMember members k → (k ≡ n → ⊥) → Has all (packet n (Accept v) k)

  -- in the midst of an event, by what was sent before it
  module _ (before : List (Packet B)) where
    abbrev pub At : Plan B → Role B → Type 0
    At t r = Bids t.node (before ++ t.packets) r

    -- one entry more
    one_more : (next : ℕ) (table : List (Vote B)) (e : Entry B) (t : Plan B) → At t (Leading b next table) → next < slot_end
        → At (propose same members n e t) (Leading b (suc next) (table ++ next_vote b next e ∷ []))
    one_more next table e t ok l =
        subst (λ p. At p (Leading b (suc next) (table ++ v ∷ []))) (sym made)
        (record {
          up = ok.up;
          boot = ok.boot;
          base = ok.base;
          promised = refl;
          cast = ap (put_vote v) ok.cast ∙ sym (fold-append (λ us w. put_vote w us) votes table (v ∷ []));
          role = cond-false (below b b) Idle (Leading b (suc next) (table ++ v ∷ [])) (irreflexive b);
          level = ap (λ (x : LearnerState B). x.floor) quiet ∙ ok.level;
          above = further (floor_in y.rows.snapshot) next ok.above;
          learned = ap (λ (x : LearnerState B). x.learned) quiet ∙ ok.learned;
          log = ok.log;
          pending = ok.pending;
          taken = ok.taken;
          own = subst (λ x. HeardFrom b (suc next) n x) (sym quiet)
              (heard_later b next (suc next) n (hears n v t.node.learner) (omega arith) (hears_own b next n v t.node.learner ok.own));
          eights = subst (λ (x : LearnerState B). AreEights x.heard) (sym quiet) (eights_more n v t.node.learner ok.eights);
          heard = λ w h. subst (λ (x : LearnerState B). is_in (nodes_heard (place_of w) x.heard) n ≡ true) (sym quiet)
              (⊎_elim
              (λ o. hears_still n v t.node.learner ok.eights (place_of w) n (ok.heard w o))
              (λ o. subst (λ z. is_in (nodes_heard (place_of z) (hears n v t.node.learner).heard) n ≡ true) (has_one o)
              (hears_itself n low v t.node.learner ok.eights))
              (has_cases table (v ∷ []) h));
          mine = λ w h. ⊎_elim (λ o. ok.mine w o) (λ o. sym (ap (λ (z : Vote B). z.ballot) (has_one o))) (has_cases table (v ∷ []) h);
          out = λ w h k m d. ⊎_elim
              (λ o. ⊎_elim (λ i. has_left _ i) (λ i. has_right before (has_left _ (has_left _ i)))
              (has_cases before t.packets (ok.out w o k m d)))
              (λ o. has_right before (has_left _ (has_right t.packets
              (subst (λ z. Has (to_others members n (Accept v)) (packet n (Accept z) k)) (has_one o)
              (sent_to members n k (Accept v) m d)))))
              (has_cases table (v ∷ []) h);
        })
      where
        v : Vote B
        v = next_vote b next e

        u : Plan B
        u = cast same members n v (offer members n b next table e t)

        made : propose same members n e t ≡ u
        made =
            ap (λ r. propose_as same members n r e t) ok.role ∙ cond-true (nat_lt next slot_end) u t (lt-ltb next slot_end l)

        quiet : count_vote members n v t.node.learner ≡ hears n v t.node.learner
        quiet =
            counts_own members many b next n v t.node.learner (subst (λ f. f < next) (sym ok.level) ok.above) refl (omega arith) ok.own

        further : (f k : ℕ) → f < k → f < suc k
        further f k h = omega arith

    -- it goes on as a leader
    abbrev pub Goes : ℕ → Plan B → Role B → Type 0
    Goes most t r = At t r × LeadsBy b most r

    less_one : (next c most : ℕ) → next + suc c ≤ most → most ≤ slot_end → (next < slot_end) × (suc next + c ≤ most)
    less_one next c most l m = (omega arith, omega arith)

    -- the entries that it is called to propose
    pub proposes_all : (es : List (Entry B)) (next most : ℕ) (table : List (Vote B)) (t : Plan B) → At t (Leading b next table)
        → next + length es ≤ most → most ≤ slot_end → Goes most (propose_all same members n es t)
        (course.propose_all es (Leading b next table))
    proposes_all [] next most table t ok l m = (ok, (refl, omega arith))
    proposes_all (e ∷ es) next most table t ok l m =
        let f = less_one next (length es) most l m in
        proposes_all es (suc next) most (table ++ next_vote b next e ∷ []) (propose same members n e t)
        (one_more next table e t ok f.0) f.1 m

    -- and those that do not stand
    pub proposes_each : (es : List (Entry B)) (next most : ℕ) (table : List (Vote B)) (t : Plan B) → At t (Leading b next table)
        → next + length es ≤ most → most ≤ slot_end
        → Goes most (propose_each same members n es t) (course.propose_new same (log_length y) es (Leading b next table))
    proposes_each [] next most table t ok l m = (ok, (refl, omega arith))
    proposes_each (e ∷ es) next most table t ok l m = go (stands same (log_length y) (Leading b next table) e) refl
        (proposes_each es next most table t ok (less l) m)
        (proposes_each es (suc next) most (table ++ next_vote b next e ∷ []) (propose same members n e t)
        (one_more next table e t ok f.0) f.1 m)
      where
        f : (next < slot_end) × (suc next + length es ≤ most)
        f = less_one next (length es) most l m

        same_test : stands same (log_length t.node) t.node.proposer.role e ≡ stands same (log_length y) (Leading b next table) e
        same_test = λ i. stands same (floor_in (ok.base i) + length (ok.log i)) (ok.role i) e

        less : next + suc (length es) ≤ most → next + length es ≤ most
        less h = omega arith

        go : (g : Bool) → stands same (log_length y) (Leading b next table) e ≡ g
            → Goes most (propose_each same members n es t) (course.propose_new same (log_length y) es (Leading b next table))
            → Goes most (propose_each same members n es (propose same members n e t))
            (course.propose_new same (log_length y) es (Leading b (suc next) (table ++ next_vote b next e ∷ [])))
            → Goes most (propose_each same members n es (propose_new same members n e t))
            (course.propose_new same (log_length y) es (if g then Leading b next table else submitted e (Leading b next table)))
        go true h old new =
            subst (λ u. Goes most (propose_each same members n es u) (course.propose_new same (log_length y) es (Leading b next table)))
            (sym (cond-true (stands same (log_length t.node) t.node.proposer.role e) t (propose same members n e t) (same_test ∙ h)))
            old
        go false h old new =
            subst
            (λ u. Goes most (propose_each same members n es u)
            (course.propose_new same (log_length y) es (Leading b (suc next) (table ++ next_vote b next e ∷ []))))
            (sym (cond-false (stands same (log_length t.node) t.node.proposer.role e) t (propose same members n e t) (same_test ∙ h)))
            new

    -- a leader pushes what is pending
    pub pushes : (next most : ℕ) (table : List (Vote B)) (t : Plan B) → At t (Leading b next table) → next + length y.pending ≤ most
        → most ≤ slot_end → Goes most (push same members n t) (course.propose_new same (log_length y) y.pending (Leading b next table))
    pushes next most table t ok l m =
        subst (λ u. Goes most u (course.propose_new same (log_length y) y.pending (Leading b next table)))
        (sym
        (cond-true (is_leading t.node.proposer.role) (propose_each same members n t.node.pending t)
        (send (forwarded n t.node.rows.promised t.node.pending) t) (ap (λ r. is_leading r) ok.role)
        ∙ ap (λ es. propose_each same members n es t) ok.pending))
        (proposes_each y.pending next most table t ok l m)

    -- it leads: it proposes what the reports call for, and pushes
    pub leads : (first past most : ℕ) (es : List (Entry B)) (t : Plan B) → At t (Leading b first []) → first + length es ≤ past
        → past + length y.pending ≤ most → most ≤ slot_end
        → Goes most (push same members n (propose_all same members n es t))
        (course.propose_new same (log_length y) y.pending (course.propose_all es (Leading b first [])))
    leads first past most es t ok l m h =
        let g = proposes_all es first past [] t ok l (omega arith) in go (course.propose_all es (Leading b first [])) g.0 g.1
      where
        go : (r : Role B) → At (propose_all same members n es t) r → LeadsBy b past r
            → Goes most (push same members n (propose_all same members n es t)) (course.propose_new same (log_length y) y.pending r)
        go Idle k d = absurd d
        go (Preparing c floor cs) k d = absurd d
        go (Leading c next table) k d =
            let fits : next + length y.pending ≤ most = fits_in d.1 in
            subst
            (λ z. Goes most (push same members n (propose_all same members n es t))
            (course.propose_new same (log_length y) y.pending (Leading z next table))) (sym d.0)
            (pushes next most table (propose_all same members n es t)
            (subst (λ z. At (propose_all same members n es t) (Leading z next table)) d.0 k) fits h)
          where
            fits_in : next ≤ past → next + length y.pending ≤ most
            fits_in q = omega arith

    -- a promise is counted: as the role says
    pub hears_promise : (from floor own first past most : ℕ) (vs : List (Vote B)) (r : Role B) (t : Plan B) → At t r
        → IsIn b first past most r → first ≤ past → AreBelow past vs → floor < first → floor_in y.rows.snapshot ≡ own → own < first
        → past + length y.pending ≤ most → most ≤ slot_end
        → At (on_promise_as same members n from b floor vs r t)
        (course.hears same members (log_length y) y.pending b from floor vs own r)
        × IsIn b first past most (course.hears same members (log_length y) y.pending b from floor vs own r)
    hears_promise from floor own first past most vs Idle t ok e low' below' under is_own own_under room h = absurd e
    hears_promise from floor own first past most vs (Leading c next table) t ok e low' below' under is_own own_under room h = (ok, e)
    hears_promise from floor own first past most vs (Preparing c f cs) t ok e low' below' under is_own own_under room h =
        go (same_ballot b c && not (is_counted cs from))
      where
        one : CountedPromise B
        one = record { node = from; floor = floor; votes = vs }

        more : List (CountedPromise B)
        more = cs ++ one ∷ []

        mine : ℕ
        mine = floor_in t.node.rows.snapshot

        es : List (Entry B)
        es = called_for f (reports more)

        all_below : AreBelow past (reports more)
        all_below = subst (λ l. AreBelow past l) (sym (reports_more cs one)) (below_both past (reports cs) vs e.2 below')

        floors : (d : CountedPromise B) → Has more d → d.floor < first
        floors d i =
            ⊎_elim (λ o. e.3 d o) (λ o. subst (λ (z : CountedPromise B). z.floor < first) (has_one o) under) (has_cases cs (one ∷ []) i)

        floors_at : (d : CountedPromise B) → Has more d → d.floor < f
        floors_at d i = subst (λ k. d.floor < k) (sym e.1) (floors d i)

        own_at : own < f
        own_at = subst (λ k. own < k) (sym e.1) own_under

        -- so it leads from the slot on that it asked for
        own_is : lowest f own more ≡ f
        own_is = lowest_is f own more own_at floors_at

        mine_is : lowest f mine more ≡ f
        mine_is = ap (λ k. lowest f k more) (ap (λ s. floor_in s) ok.base ∙ is_own) ∙ own_is

        Both : Plan B → Role B → Type 0
        Both u r = At u r × IsIn b first past most r

        known : (r : Role B) → LeadsBy b most r → IsIn b first past most r
        known Idle d = absurd d
        known (Preparing d g ds) q = absurd q
        known (Leading d next table) q = q

        -- the ballot is idle but for this
        bare : (r : Role B) → proposals_of r ≡ [] → IsAbove (floor_in y.rows.snapshot) r → At (record t { node = with_role r t.node }) r
        bare r none above =
            record {
              up = ok.up;
              boot = ok.boot;
              base = ok.base;
              promised = ok.promised;
              cast = ok.cast ∙ ap (λ l. put_votes l votes) (sym none);
              role = refl;
              level = ok.level;
              above = above;
              learned = ok.learned;
              log = ok.log;
              pending = ok.pending;
              taken = ok.taken;
              own = heard_later b 0 (fresh_from r) n t.node.learner (omega arith) ok.own;
              eights = ok.eights;
              heard = λ v i. absurd (has_nil (subst (λ l. Has l v) none i));
              mine = λ v i. absurd (has_nil (subst (λ l. Has l v) none i));
              out = λ v i. absurd (has_nil (subst (λ l. Has l v) none i));
            }

        floor_at : floor_in y.rows.snapshot < f
        floor_at = subst (λ k. k < f) (sym is_own) own_at

        LedAt : ℕ → ℕ → Type 0
        LedAt a d =
            Both (push same members n (lead same members n c a (reports more) t))
            (course.propose_new same (log_length y) y.pending (course.propose_all (called_for d (reports more)) (Leading c d [])))

        led_first : LedAt f f
        led_first =
            let g =
            leads f past most es (record t { node = with_role (Leading b f []) t.node }) (bare (Leading b f []) refl floor_at)
            (subst (λ z. z + length (called_for z (reports more)) ≤ past) (sym e.1) (called_below first past (reports more) low' all_below))
            room h in
            subst
            (λ z. Both (push same members n (lead same members n z f (reports more) t))
            (course.propose_new same (log_length y) y.pending (course.propose_all es (Leading z f [])))) (sym e.0)
            (g.0, known _ g.1)

        led : LedAt (lowest f mine more) (lowest f own more)
        led = subst (λ (z : ℕ × ℕ). LedAt z.0 z.1) (λ i. (sym mine_is i, sym own_is i)) led_first

        waits : Both (record t { node = with_role (Preparing c f more) t.node }) (Preparing c f more)
        waits = (bare (Preparing c f more) refl tt, (e.0, e.1, all_below, floors))

        counted : (m : Bool)
            → Both (if m then push same members n (lead same members n c (lowest f mine more) (reports more) t)
            else record t { node = with_role (Preparing c f more) t.node })
            (course.proposes same (log_length y) y.pending (if m then Some (called_for (lowest f own more) (reports more)) else None)
            (if m then Leading c (lowest f own more) [] else Preparing c f more))
        counted true = led
        counted false = waits

        go : (m : Bool)
            → Both (if m then count_promise same members n c f mine more t else t)
            (course.proposes same (log_length y) y.pending (if m then calls members f own more else None)
            (if m then with_promises members c f own more else Preparing c f cs))
        go true = counted (is_majority members (is_counted more))
        go false = (ok, e)
