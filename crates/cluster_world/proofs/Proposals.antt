-- What a node does in its event keeps the invariant, and leads it where it may propose.
use Rattle.std.proofs.Common.{◌≡◌, ⊎_elim, ℕ, suc, ◌+◌, ◌<◌, ◌≤◌, Bool, true, false, not, ◌||◌, refl, sym, ap, ◌∙◌, subst, arith, List, []}
use Rattle.std.proofs.Common.{◌∷◌, ◌++◌, length, append_assoc, Option, Some}
use Rattle.std.specs.Prelude.{nat_lt}
use Rattle.std.proofs.lemmas.List.{append-nil}
use Rattle.std.proofs.lemmas.Bool.{cond-true, cond-false, cases_Bool, ltb-true, ltb-false}
use Rattle.cluster_world.proofs.Order.{le_refl, lt_not_le, lt_from_test}
use Rattle.cluster_world.proofs.Invariant.{Sent, Known, Safe, Free, RoleOk, LeadingOk, RoleFree, NodeOk, Inv, promises, AllSafe}
use Rattle.cluster_world.proofs.Growth.{grows_none, free_grows, safe_from_free, all_safe_grows}
use Rattle.cluster_world.proofs.InvariantKept.{sent_right}
use Rattle.cluster_world.proofs.WithNode.{with_node, Kept, kept_on, mine_ok}
use Rattle.cluster_world.proofs.Quiet.{quiet_moved}
use Rattle.cluster_world.proofs.AcceptorTests.{sent_nil, others_sent}
use Rattle.cluster_world.proofs.Active.{accept_moved, offer_moved, is_high}
use Rattle.cluster_world.proofs.Learner.{learner_of, with_learner_ok, count_ok, vote_agrees}
use Rattle.paxos_packets.specs.Ballot.{below}
use Rattle.paxos_packets.specs.Packet.{to_others}
use Rattle.paxos_packets.specs.Snapshot.{Snapshot, floor_in}
use Rattle.paxos_packets.specs.declared.ballot.Ballot.{Ballot}
use Rattle.paxos_packets.specs.declared.entry.Entry.{Entry}
use Rattle.paxos_packets.specs.declared.packet.Packet.{Packet}
use Rattle.paxos_packets.specs.declared.vote.Vote.{Vote}
use Rattle.paxos_packets.specs.declared.packet.Kind.TheVariants.{Accept, Accepted}
use Rattle.paxos_acceptor.specs.Acceptor.{may_accept}
use Rattle.paxos_proposer.specs.Role.{Role, Idle, Preparing, Leading}
use Rattle.paxos_proposer.specs.Proposer.{next_vote, offered, slot_end}
use Rattle.paxos_learner.specs.Learner.{count_vote, vote_disagrees}
use Rattle.paxos_planning.specs.Node.{NodeState, Plan}
use Rattle.paxos_planning.specs.Plan.{with_role, voted_at, counted_at, cast}
use Rattle.paxos_planning.specs.Proposals.{offer, propose_as, propose, propose_all}
use Rattle.paxos_packets.specs.Body.{IsEquality}

pub below_self : (b : Ballot) → below b b ≡ false
below_self b = go (below b b) refl
  where
    go : (t : Bool) → below b b ≡ t → below b b ≡ false
    go true e = absurd (lt_not_le (lt_from_test b b e) (le_refl b))
    go false e = e

accept_own : (o : Option Ballot) (b : Ballot) → o ≡ Some b → may_accept o b ≡ true
accept_own o b e = subst (λ z. may_accept z b ≡ true) (sym e) (ap not (below_self b))

pub neither : (a b : Bool) → a ≡ false → b ≡ false → (a || b) ≡ false
neither a b e f = λ i. e i || f i

module _ {B : Type 0} (members : ℕ) (many : 2 ≤ members) (at : ℕ → NodeState B) (n : ℕ) where
  pub kept_none : (x : NodeState B) (sent : List (Packet B)) → Inv members (with_node at n x) sent → Kept members at n x sent x sent
  kept_none x sent inv = record { inv = inv; grows = grows_none (promises (with_node at n x)) sent }

  -- a move that sends nothing
  pub silent : (x y : NodeState B) (sent : List (Packet B)) → Inv members (with_node at n x) sent → x.rows.promised ≡ y.rows.promised
      → NodeOk members (promises (with_node at n x)) sent n y → Kept members at n x sent y sent
  silent x y sent inv same ok =
      subst (λ l. Kept members at n x sent y l) (append-nil sent)
      (quiet_moved members at n x y sent [] inv same ok (λ k kind s. absurd (sent_nil k kind s)))

  pub counted_ok : (x : NodeState B) (sent : List (Packet B)) (k : ℕ) (v : Vote B) → Inv members (with_node at n x) sent
      → Sent sent k (Accepted v) → NodeOk members (promises (with_node at n x)) sent n (counted_at members k v x)
  counted_ok x sent k v inv s =
      let m = mine_ok members at n x sent inv in
      with_learner_ok members (promises (with_node at n x)) sent n x (count_vote members k v x.learner) m
      (count_ok members (promises (with_node at n x)) sent n x.learner k v inv.packets
      (learner_of members (promises (with_node at n x)) sent n x m) s)

  count_kept : (x : NodeState B) (sent : List (Packet B)) (k : ℕ) (v : Vote B) → Inv members (with_node at n x) sent
      → Sent sent k (Accepted v) → Kept members at n x sent (counted_at members k v x) sent
  count_kept x sent k v inv s = silent x (counted_at members k v x) sent inv refl (counted_ok x sent k v inv s)

  -- its snapshot does not give the vote's slot
  abbrev pub IsAbove : NodeState B → Vote B → Type 0
  IsAbove x v = (s : Snapshot) → x.rows.snapshot ≡ Some s → s.floor < v.slot

  pub cast_kept : (x : NodeState B) (sent : List (Packet B)) (v : Vote B) → Inv members (with_node at n x) sent
      → may_accept x.rows.promised v.ballot ≡ true → IsAbove x v → Known sent (Accept v)
      → Kept members at n x sent (counted_at members n v (voted_at v x)) (sent ++ to_others members n (Accepted v))
  cast_kept x sent v inv may high known =
      let a = accept_moved members at n x sent v inv may high known in
      kept_on a
      (count_kept (voted_at v x) (sent ++ to_others members n (Accepted v)) n v a.inv
      (sent_right sent (others_sent members n many (Accepted v))))

  -- a vote of its own brings no disagreement
  pub cast_agrees : (same : B → B → Bool) → IsEquality same → (x : NodeState B) (sent : List (Packet B)) (v : Vote B)
      → Inv members (with_node at n x) sent → may_accept x.rows.promised v.ballot ≡ true → IsAbove x v → Known sent (Accept v)
      → vote_disagrees same members n v x.learner ≡ false
  cast_agrees same equal x sent v inv may high known =
      let a = accept_moved members at n x sent v inv may high known in
      let later = sent ++ to_others members n (Accepted v) in
      vote_agrees members (promises (with_node at n (voted_at v x))) later n same equal x.learner n v a.inv.packets
      (learner_of members (promises (with_node at n (voted_at v x))) later n (voted_at v x)
      (mine_ok members at n (voted_at v x) later a.inv))
      (sent_right sent (others_sent members n many (Accepted v)))

  pub leads : (x : NodeState B) (sent : List (Packet B)) (b : Ballot) (next : ℕ) (table : List (Vote B)) → Inv members (with_node at n x) sent
      → x.proposer.role ≡ Leading b next table → LeadingOk x.rows.promised (floor_in x.rows.snapshot) sent n b next table
  leads x sent b next table inv is =
      subst (λ r. RoleOk (promises (with_node at n x)) x.rows.promised (floor_in x.rows.snapshot) sent n r) is (mine_ok members at n x sent inv).role

  -- the proposal is made
  pub offer_kept : (x : NodeState B) (sent : List (Packet B)) (b : Ballot) (next : ℕ) (table : List (Vote B)) (e : Entry B)
      → Inv members (with_node at n x) sent → x.proposer.role ≡ Leading b next table
      → Safe members (promises (with_node at n x)) sent (next_vote b next e)
      → Kept members at n x sent (with_role (offered b next table e) x) (sent ++ to_others members n (Accept (next_vote b next e)))
  offer_kept x sent b next table e inv is safe =
      offer_moved members at n x sent b next table e many inv (leads x sent b next table inv is) safe

  offered_may : (x : NodeState B) (sent : List (Packet B)) (b : Ballot) (next : ℕ) (table : List (Vote B))
      → Inv members (with_node at n x) sent → x.proposer.role ≡ Leading b next table → may_accept x.rows.promised b ≡ true
  offered_may x sent b next table inv is = accept_own x.rows.promised b (leads x sent b next table inv is).exact

  offered_high : (x : NodeState B) (sent : List (Packet B)) (b : Ballot) (next : ℕ) (table : List (Vote B)) (e : Entry B)
      → Inv members (with_node at n x) sent → x.proposer.role ≡ Leading b next table → IsAbove x (next_vote b next e)
  offered_high x sent b next table e inv is = is_high x.rows.snapshot next (leads x sent b next table inv is).high

  offer_known : (sent : List (Packet B)) (b : Ballot) (next : ℕ) (e : Entry B)
      → Known (sent ++ to_others members n (Accept (next_vote b next e))) (Accept (next_vote b next e))
  offer_known sent b next e = record { by = n; is = sent_right sent (others_sent members n many (Accept (next_vote b next e))) }

  pub offer_cast : (x : NodeState B) (sent : List (Packet B)) (b : Ballot) (next : ℕ) (table : List (Vote B)) (e : Entry B)
      → Inv members (with_node at n x) sent → x.proposer.role ≡ Leading b next table
      → Safe members (promises (with_node at n x)) sent (next_vote b next e)
      → Kept members at n x sent
      (counted_at members n (next_vote b next e) (voted_at (next_vote b next e) (with_role (offered b next table e) x)))
      ((sent ++ to_others members n (Accept (next_vote b next e))) ++ to_others members n (Accepted (next_vote b next e)))
  offer_cast x sent b next table e inv is safe =
      let a = offer_kept x sent b next table e inv is safe in
      kept_on a
      (cast_kept (with_role (offered b next table e) x) (sent ++ to_others members n (Accept (next_vote b next e))) (next_vote b next e)
      a.inv (offered_may x sent b next table inv is) (offered_high x sent b next table e inv is) (offer_known sent b next e))

  pub offer_agrees : (same : B → B → Bool) → IsEquality same
      → (x : NodeState B) (sent : List (Packet B)) (b : Ballot) (next : ℕ) (table : List (Vote B)) (e : Entry B)
      → Inv members (with_node at n x) sent → x.proposer.role ≡ Leading b next table
      → Safe members (promises (with_node at n x)) sent (next_vote b next e)
      → vote_disagrees same members n (next_vote b next e) x.learner ≡ false
  offer_agrees same equal x sent b next table e inv is safe =
      let a = offer_kept x sent b next table e inv is safe in
      cast_agrees same equal (with_role (offered b next table e) x) (sent ++ to_others members n (Accept (next_vote b next e)))
      (next_vote b next e) a.inv (offered_may x sent b next table inv is) (offered_high x sent b next table e inv is)
      (offer_known sent b next e)

-- what a plan leaves alone; it has taken this many acts
pub record Stays {B : Type 0} (taken : ℕ) (t u : Plan B) : Type 0 where
  pub boot : u.node.rows.boot ≡ t.node.rows.boot
  pub base : u.node.rows.snapshot ≡ t.node.rows.snapshot
  pub up : u.node.up ≡ t.node.up
  pub log : u.node.applied ≡ t.node.applied
  pub news : u.applied ≡ t.applied
  pub cut : u.change.snapshot ≡ t.change.snapshot
  pub acts : u.node.taken ≡ taken

pub stays_on : {B : Type 0} {k : ℕ} {t u v : Plan B} → Stays k t u → Stays u.node.taken u v → Stays k t v
stays_on s r =
    record {
      boot = r.boot ∙ s.boot;
      base = r.base ∙ s.base;
      up = r.up ∙ s.up;
      log = r.log ∙ s.log;
      news = r.news ∙ s.news;
      cut = r.cut ∙ s.cut;
      acts = r.acts ∙ s.acts;
    }

-- the same, of plans
module _ {B : Type 0} (same : B → B → Bool) (equal : IsEquality same) (members : ℕ) (many : 2 ≤ members) (at : ℕ → NodeState B) (n : ℕ)
    (before : List (Packet B)) where
  abbrev pub State : Plan B → Type 0
  State t = Inv members (with_node at n t.node) (before ++ t.packets)

  abbrev pub Going : Plan B → Plan B → Type 0
  Going t u = Kept members at n t.node (before ++ t.packets) u.node (before ++ u.packets)

  abbrev pub FreeAt : Plan B → Type 0
  FreeAt t = RoleFree members (promises (with_node at n t.node)) (before ++ t.packets) t.node.proposer.role

  -- where it goes
  pub record Path (taken : ℕ) (t u : Plan B) : Type 0 where
    pub going : Going t u
    pub agrees : t.disagrees ≡ false → u.disagrees ≡ false
    pub stays : Stays taken t u

  -- and the leader's slots are free there
  pub record StepTo (taken : ℕ) (t u : Plan B) : Type 0 where
    pub path : Path taken t u
    pub free : FreeAt u

  abbrev pub Step : Plan B → Plan B → Type 0
  Step t u = StepTo t.node.taken t u

  pub path_on : {k : ℕ} {t u v : Plan B} → Path k t u → Path u.node.taken u v → Path k t v
  path_on g s = record { going = kept_on g.going s.going; agrees = λ e. s.agrees (g.agrees e); stays = stays_on g.stays s.stays }

  pub step_on : {k : ℕ} {t u v : Plan B} → Path k t u → Step u v → StepTo k t v
  step_on g s = record { path = path_on g s.path; free = s.free }

  pub propose_made : (t : Plan B) (b : Ballot) (next : ℕ) (table : List (Vote B)) (e : Entry B) → t.node.proposer.role ≡ Leading b next table
      → nat_lt next slot_end ≡ true
      → propose same members n e t ≡ cast same members n (next_vote b next e) (offer members n b next table e t)
  propose_made t b next table e is l =
      ap (λ r. propose_as same members n r e t) is
      ∙ cond-true (nat_lt next slot_end) (cast same members n (next_vote b next e) (offer members n b next table e t)) t l

  pub propose_full : (t : Plan B) (b : Ballot) (next : ℕ) (table : List (Vote B)) (e : Entry B) → t.node.proposer.role ≡ Leading b next table
      → nat_lt next slot_end ≡ false → propose same members n e t ≡ t
  propose_full t b next table e is l =
      ap (λ r. propose_as same members n r e t) is
      ∙ cond-false (nat_lt next slot_end) (cast same members n (next_vote b next e) (offer members n b next table e t)) t l

  pub propose_path : (t : Plan B) (b : Ballot) (next : ℕ) (table : List (Vote B)) (e : Entry B) → State t
      → t.node.proposer.role ≡ Leading b next table
      → Safe members (promises (with_node at n t.node)) (before ++ t.packets) (next_vote b next e)
      → Path t.node.taken t (cast same members n (next_vote b next e) (offer members n b next table e t))
  propose_path t b next table e inv is safe =
      record {
        going =
            subst
            (λ l. Kept members at n t.node (before ++ t.packets)
            (cast same members n (next_vote b next e) (offer members n b next table e t)).node l)
            (append_assoc (before ++ t.packets) _ _
            ∙ (append_assoc before t.packets _ ∙ ap (λ l. before ++ l) (sym (append_assoc t.packets _ _))))
            (offer_cast members many at n t.node (before ++ t.packets) b next table e inv is safe);
        agrees =
            λ d.
            neither t.disagrees (vote_disagrees same members n (next_vote b next e) t.node.learner) d
            (offer_agrees members many at n same equal t.node (before ++ t.packets) b next table e inv is safe);
        stays = record { boot = refl; base = refl; up = refl; log = refl; news = refl; cut = refl; acts = refl };
      }

  pub proposed_role : (t : Plan B) (b : Ballot) (next : ℕ) (table : List (Vote B)) (e : Entry B)
      → (cast same members n (next_vote b next e) (offer members n b next table e t)).node.proposer.role ≡ offered b next table e
  proposed_role t b next table e = cond-false (below b b) Idle (offered b next table e) (below_self b)

  free_at : (t : Plan B) (b : Ballot) (next : ℕ) (table : List (Vote B)) → t.node.proposer.role ≡ Leading b next table → FreeAt t
      → (slot : ℕ) → next ≤ slot → slot < slot_end → Free members (promises (with_node at n t.node)) (before ++ t.packets) b slot
  free_at t b next table is free = subst (λ r. RoleFree members (promises (with_node at n t.node)) (before ++ t.packets) r) is free

  free_role : (t : Plan B) (b : Ballot) (next : ℕ) (table : List (Vote B)) → t.node.proposer.role ≡ Leading b next table
      → ((slot : ℕ) → next ≤ slot → slot < slot_end → Free members (promises (with_node at n t.node)) (before ++ t.packets) b slot)
      → FreeAt t
  free_role t b next table is free = subst (λ r. RoleFree members (promises (with_node at n t.node)) (before ++ t.packets) r) (sym is) free

  pub stay : (t : Plan B) → State t → FreeAt t → Step t t
  stay t inv free =
      record {
        path =
            record {
              going = kept_none members many at n t.node (before ++ t.packets) inv;
              agrees = λ e. e;
              stays = record { boot = refl; base = refl; up = refl; log = refl; news = refl; cut = refl; acts = refl };
            };
        free = free;
      }

  propose_step_as : (t : Plan B) (e : Entry B) → State t → FreeAt t → (r : Role B) → t.node.proposer.role ≡ r
      → Step t (propose same members n e t)
  propose_step_as t e inv free Idle is = subst (λ u. Step t u) (sym (ap (λ r. propose_as same members n r e t) is)) (stay t inv free)
  propose_step_as t e inv free (Preparing b floor ps) is =
      subst (λ u. Step t u) (sym (ap (λ r. propose_as same members n r e t) is)) (stay t inv free)
  propose_step_as t e inv free (Leading b next table) is =
      ⊎_elim
      (λ l. subst (λ u. Step t u) (sym (propose_made t b next table e is l)) (yes' l))
      (λ l. subst (λ u. Step t u) (sym (propose_full t b next table e is l)) (stay t inv free))
      (cases_Bool (nat_lt next slot_end))
    where
      u : Plan B
      u = cast same members n (next_vote b next e) (offer members n b next table e t)

      yes' : nat_lt next slot_end ≡ true → Step t u
      yes' l =
          let g =
          propose_path t b next table e inv is
          (safe_from_free e (free_at t b next table is free next (omega arith) (ltb-true next slot_end l))) in
          record {
            path = g;
            free =
                free_role u b (suc next) (table ++ next_vote b next e ∷ []) (proposed_role t b next table e)
                (λ slot a z. free_grows g.going.grows (free_at t b next table is free slot (omega arith) z));
          }

  -- a leader may propose anything from its next slot on
  pub propose_step : (t : Plan B) (e : Entry B) → State t → FreeAt t → Step t (propose same members n e t)
  propose_step t e inv free = propose_step_as t e inv free t.node.proposer.role refl

  propose_all_step : (es : List (Entry B)) (t : Plan B) → State t → FreeAt t → Step t (propose_all same members n es t)
  propose_all_step [] t inv free = stay t inv free
  propose_all_step (e ∷ es) t inv free =
      let s = propose_step t e inv free in
      step_on s.path (propose_all_step es (propose same members n e t) s.path.going.inv s.free)

  -- the entries that a new leader is called to propose

  pub recover_step : (es : List (Entry B)) (t : Plan B) (b : Ballot) (next : ℕ) (table : List (Vote B)) → State t
      → t.node.proposer.role ≡ Leading b next table → AllSafe members (promises (with_node at n t.node)) (before ++ t.packets) b next es
      → ((slot : ℕ) → next + length es ≤ slot → slot < slot_end
      → Free members (promises (with_node at n t.node)) (before ++ t.packets) b slot)
      → Step t (propose_all same members n es t)
  recover_step [] t b next table inv is safe free = stay t inv (free_role t b next table is (λ slot a z. free slot (omega arith) z))
  recover_step (e ∷ es) t b next table inv is safe free =
      ⊎_elim
      (λ l. subst (λ u. Step t (propose_all same members n es u)) (sym (propose_made t b next table e is l))
      (step_on path (recover_step es u b (suc next) (table ++ next_vote b next e ∷ []) path.going.inv (proposed_role t b next table e)
      (all_safe_grows members path.going.grows b (suc next) es safe.1)
      (λ slot a z. free_grows path.going.grows (free slot (omega arith) z)))))
      (λ l. subst (λ v. Step t (propose_all same members n es v)) (sym (propose_full t b next table e is l))
      (propose_all_step es t inv (free_role t b next table is (λ slot a z. absurd (past slot a z (ltb-false next slot_end l))))))
      (cases_Bool (nat_lt next slot_end))
    where
      u : Plan B
      u = cast same members n (next_vote b next e) (offer members n b next table e t)

      path : Path t.node.taken t u
      path = propose_path t b next table e inv is safe.0

      past : (slot : ℕ) → next ≤ slot → slot < slot_end → slot_end ≤ next → ⊥
      past slot a z y = omega arith
