-- All views show one reached world, and go on doing so when a node takes a step.
use Rattle.std.proofs.Common.{◌≡◌, ℕ, zero, suc, ◌+◌, ◌<◌, ◌≤◌, ◌⊎◌, Bool, true, false, not, ◌&&◌}
use Rattle.std.proofs.Common.{refl, sym, ap, ◌∙◌, subst, ⊎_elim, inl, inr, arith, List, [], ◌∷◌, ◌++◌, append_assoc}
use Rattle.std.proofs.lemmas.Bool.{and_from, lt-ltb, cases_eq}
use Rattle.std.proofs.lemmas.List.{append-nil}
use Rattle.cluster_world.proofs.Lists.{has_cases, has_left, has_right, has_nil}
use Rattle.cluster_world.proofs.Stepping.{sent_is_among, one_event_more, event_goes_on}
use Rattle.cluster_world.specs.Has.{Has}
use Rattle.cluster_world.specs.Steps.{may, Goes}
use Rattle.cluster_world.specs.World.{World, node_at, was_sent, next, played}
use Rattle.paxos_node.specs.Applying.{down, started}
use Rattle.paxos_node.specs.Events.{owner, possible, outcome_of}
use Rattle.paxos_node.specs.View.{Viewed, moved}
use Rattle.paxos_node.specs.declared.event.Event.{Event}
use Rattle.paxos_node.specs.declared.event.Event.TheVariants.{Deliver, Crash, Restart}
use Rattle.paxos_node.specs.declared.view.Opened.{Opened}
use Rattle.paxos_node.specs.declared.view.Opened.TheVariants.{Never, With}
use Rattle.paxos_packets.specs.Body.{IsEquality}
use Rattle.paxos_packets.specs.Members.{IsMember}
use Rattle.paxos_packets.specs.Rows.{last_boot, raised, first_rows}
use Rattle.paxos_packets.specs.declared.packet.Packet.{Packet}
use Rattle.paxos_packets.specs.declared.rows.Rows.{Rows}
use Rattle.paxos_planning.specs.Node.{NodeState}
use Rattle.mail_table.proofs.Places.{at_mine, at_other, at_both}
use Rattle.mail_table.specs.Covered.{Stands, Agreed, Shows, Matches, Covers, Covered, Fed, MayRenew, with_at, with_boot}
use Rattle.mail_table.specs.Views.{opened_with, reopened}

-- some further events change this node alone, to this one, and send these packets
pub record Leads {B : Type 0} (same : B → B → Bool) (n : ℕ) (es : List (Event B)) (k : ℕ) (y : NodeState B) (ps : List (Packet B)) :
    Type 0 where
  pub events : List (Event B)
  pub mine : node_at (played same n events).nodes k ≡ y
  pub others : (j : ℕ) → (j ≡ k → ⊥) → node_at (played same n events).nodes j ≡ node_at (played same n es).nodes j
  pub sent : (played same n events).sent ≡ (played same n es).sent ++ ps

-- the d with b = a + d + 1
gap : (a b : ℕ) → a < b → (d : ℕ) × (b ≡ a + suc d)
gap a zero l = absurd (omega arith)
gap zero (suc b) l = (b, omega arith)
gap (suc a) (suc b) l = let g = gap a b (omega arith) in (g.0, let e = g.1 in omega arith)

module _ {B : Type 0} (same : B → B → Bool) where
  leads_on : (n : ℕ) (es : List (Event B)) (k : ℕ) (x y : NodeState B) (ps qs : List (Packet B)) (a : Leads same n es k x ps)
      → Leads same n a.events k y qs → Leads same n es k y (ps ++ qs)
  leads_on n es k x y ps qs a b =
      record {
        events = b.events;
        mine = b.mine;
        others = λ j d. b.others j d ∙ a.others j d;
        sent = b.sent ∙ (ap (λ s. s ++ qs) a.sent ∙ append_assoc (played same n es).sent ps qs);
      }

  -- none
  leads_none : (n : ℕ) (es : List (Event B)) (k : ℕ) (y : NodeState B) → node_at (played same n es).nodes k ≡ y → Leads same n es k y []
  leads_none n es k y e =
      record { events = es; mine = e; others = λ j d. refl; sent = sym (append-nil (played same n es).sent) }

  -- one event, of a node that is so
  one_more : (n : ℕ) (es : List (Event B)) (e : Event B) (k : ℕ) (v : NodeState B) → owner e ≡ k → node_at (played same n es).nodes k ≡ v
      → was_sent same e (played same n es).sent ≡ true → possible e v ≡ true
      → Leads same n es k (outcome_of same n e v).node (outcome_of same n e v).packets
  one_more n es e k v own at was can =
      subst (λ j. Leads same n es j (outcome_of same n e v).node (outcome_of same n e v).packets) own
      (record {
        events = es ++ e ∷ [];
        mine = ap (λ (z : World B). node_at z.nodes (owner e)) p ∙ (g.mine ∙ ap (λ x. (outcome_of same n e x).node) here);
        others = λ j d. ap (λ (z : World B). node_at z.nodes j) p ∙ g.others j d;
        sent = ap (λ (z : World B). z.sent) p ∙ (g.sent ∙ ap (λ x. w.sent ++ (outcome_of same n e x).packets) here);
      })
    where
      w : World B
      w = played same n es

      here : node_at w.nodes (owner e) ≡ v
      here = subst (λ j. node_at w.nodes j ≡ v) (sym own) at

      t : may same w e ≡ true
      t = and_from (was_sent same e w.sent) (possible e (node_at w.nodes (owner e))) was (subst (λ x. possible e x ≡ true) (sym here) can)

      g : Goes same n w (next same n w e) e
      g = event_goes_on same n w e t

      p : played same n (es ++ e ∷ []) ≡ next same n w e
      p = one_event_more same n es e

  -- the views show the world after these events, too, if the node's view follows them
  covers_on : (n : ℕ) (seen : ℕ → Viewed B) (rows : ℕ → Rows B) (k : ℕ) (y : Viewed B) (v : NodeState B) (ps : List (Packet B))
      (c : Covers same n seen rows) → Leads same n c.events k v ps → Shows k y.opened y.node (rows k) v → y.sent ≡ (seen k).sent ++ ps
      → IsMember n k → Covers same n (with_at seen k y) rows
  covers_on n seen rows k y v ps c l shows sent m =
      record {
        events = l.events;
        nodes =
            at_both seen k y (λ j z. IsMember n j → Shows j z.opened z.node (rows j) (node_at (played same n l.events).nodes j))
            (λ _. subst (λ x. Shows k y.opened y.node (rows k) x) (sym l.mine) shows)
            (λ j d i. subst (λ x. Shows j (seen j).opened (seen j).node (rows j) x) (sym (l.others j d)) (c.nodes j i));
        sent =
            λ j p i h.
            at_both seen k y (λ j z. IsMember n j → Has z.sent p → Has (played same n l.events).sent p)
            (λ _ g. ⊎_elim (λ a. old k p m a) (λ b. there p (has_right (played same n c.events).sent b))
            (has_cases (seen k).sent ps (subst (λ s. Has s p) sent g)))
            (λ j d i g. old j p i g)
            j i h;
      }
    where
      there : (p : Packet B) → Has ((played same n c.events).sent ++ ps) p → Has (played same n l.events).sent p
      there p h = subst (λ s. Has s p) (sym l.sent) h

      old : (j : ℕ) (p : Packet B) → IsMember n j → Has (seen j).sent p → Has (played same n l.events).sent p
      old j p i h = there p (has_left ps (c.sent j p i h))

  -- if the other views match, and this one's rows are as they were
  matched : (n : ℕ) (seen : ℕ → Viewed B) (rows : ℕ → Rows B) (k : ℕ) (y : Viewed B)
      → ((j : ℕ) → IsMember n j → Matches (with_at seen k y j).opened (rows j)) → (Matches y.opened (rows k)
      → Matches (seen k).opened (rows k))
      → (j : ℕ) → IsMember n j → Matches (seen j).opened (rows j)
  matched n seen rows k y all back j m =
      ⊎_elim
      (λ (e : j ≡ k). subst (λ i. Matches (seen i).opened (rows i)) (sym e)
      (back (subst (λ (z : Viewed B). Matches z.opened (rows k)) (at_mine seen k y) (subst (λ i. Matches (with_at seen k y i).opened
      (rows i)) e (all j m)))))
      (λ d. subst (λ (z : Viewed B). Matches z.opened (rows j)) (at_other seen k y j d) (all j m))
      (cases_eq j k)

  -- an opened node is shown as it is
  pub shown : (o : Opened B) (k : ℕ) (x : NodeState B) (r q : Rows B) (v : NodeState B) → o ≡ With q → Shows k o x r v → v ≡ x
  shown o k x r q v e s = sym (subst (λ z. Shows k z x r v) e s)

  shows : (o : Opened B) (k : ℕ) (x : NodeState B) (r q : Rows B) → o ≡ With q → Shows k o x r x
  shows o k x r q e = subst (λ z. Shows k z x r x) (sym e) refl

  -- a crash, if it is up, and a restart
  begin_again : (n : ℕ) (es : List (Event B)) (k : ℕ) (v : NodeState B) → node_at (played same n es).nodes k ≡ v → v.rows.boot < last_boot
      → (b : Bool) → v.up ≡ b → Leads same n es k (started k (raised v.rows)) []
  begin_again n es k v at low false up =
      one_more n es (Restart k) k v refl at refl
      (and_from (not v.up) _ (ap not up) (lt-ltb v.rows.boot last_boot low))
  begin_again n es k v at low true up =
      let a = one_more n es (Crash k) k v refl at refl up in
      leads_on n es k (down v.rows) (started k (raised v.rows)) [] [] a
      (one_more n a.events (Restart k) k (down v.rows) refl a.mine refl (lt-ltb v.rows.boot last_boot low))

  -- so often, up to that boot
  begin_often : (n : ℕ) (d : ℕ) (es : List (Event B)) (k : ℕ) (v : NodeState B) → node_at (played same n es).nodes k ≡ v
      → v.rows.boot + suc d ≤ last_boot → Leads same n es k (started k (with_boot (v.rows.boot + suc d) v.rows)) []
  begin_often n zero es k v at low =
      let e : suc v.rows.boot ≡ v.rows.boot + suc zero = omega arith in
      subst (λ z. Leads same n es k (started k (with_boot z v.rows)) []) e (begin_again n es k v at (omega arith) v.up refl)
  begin_often n (suc d) es k v at low =
      let a = begin_again n es k v at (omega arith) v.up refl in
      let e : suc v.rows.boot + suc d ≡ v.rows.boot + suc (suc d) = omega arith in
      let b = begin_often n d a.events k (started k (raised v.rows)) a.mine (omega arith) in
      leads_on n es k (started k (raised v.rows)) (started k (with_boot (v.rows.boot + suc (suc d)) v.rows)) [] [] a
      (subst (λ z. Leads same n a.events k (started k (with_boot z v.rows)) []) e b)

  -- a node that nobody opened yet begins with its rows
  begin_first : (n : ℕ) (es : List (Event B)) (k : ℕ) (r : Rows B) → Stands k r (node_at (played same n es).nodes k)
      → Leads same n es k (started k r) []
  begin_first n es k r s =
      ⊎_elim
      (λ (t : (node_at (played same n es).nodes k ≡ started k first_rows) × (r ≡ first_rows)).
      leads_none n es k (started k r) (t.0 ∙ ap (started k) (sym t.1)))
      (λ (t : (old : Rows B) × (node_at (played same n es).nodes k ≡ down old) × (old.boot < last_boot) × (r ≡ raised old)).
      subst (λ z. Leads same n es k (started k z) []) (sym t.3)
      (one_more n es (Restart k) k (down t.0) refl t.1 refl (lt-ltb t.0.boot last_boot t.2)))
      s

module _ {B : Type 0} (same : B → B → Bool) (equal : IsEquality same) (n : ℕ) where
  -- a packet that some view sent was sent in the world
  fed_sent : (seen : ℕ → Viewed B) (rows : ℕ → Rows B) (c : Covers same n seen rows) (e : Event B) → Fed n seen e
      → was_sent same e (played same n c.events).sent ≡ true
  fed_sent seen rows c (Deliver p) f = (sent_is_among same equal p (played same n c.events).sent).1 (c.sent f.0 p f.1 f.2)
  fed_sent seen rows c _ f = refl

  pub covered_advance : (seen : ℕ → Viewed B) (k : ℕ) (e : Event B) (q : Rows B) → Covered same n seen → IsMember n k
      → (seen k).opened ≡ With q
      → owner e ≡ k → possible e (seen k).node ≡ true → Fed n seen e
      → Covered same n (with_at seen k (moved (outcome_of same n e (seen k).node).node (outcome_of same n e (seen k).node).packets
      (seen k)))
  covered_advance seen k e q cov m opens own can fed rows match agreed =
      let o = outcome_of same n e (seen k).node in
      let y = moved o.node o.packets (seen k) in
      let c = cov rows (matched same n seen rows k y match (λ h. h)) agreed in
      let at = shown same (seen k).opened k (seen k).node (rows k) q (node_at (played same n c.events).nodes k) opens (c.nodes k m) in
      covers_on same n seen rows k y o.node o.packets c
      (one_more same n c.events e k (seen k).node own at (fed_sent seen rows c e fed) can)
      (shows same (seen k).opened k o.node (rows k) q opens) refl m

  renewed : (seen : ℕ → Viewed B) (k : ℕ) (r : Rows B) (o : Opened B) → (seen k).opened ≡ o → Covered same n seen → IsMember n k
      → MayRenew o (seen k).node r → Covered same n (with_at seen k (record {
        opened = opened_with r o;
        node = started k r;
        sent =
            (seen k).sent;
      }))
  renewed seen k r Never is cov m may rows match agreed =
      let y : Viewed B = record { opened = With r; node = started k r; sent = (seen k).sent } in
      let mine : rows k ≡ r = subst (λ (z : Viewed B). Matches z.opened (rows k)) (at_mine seen k y) (match k m) in
      let c = cov rows (matched same n seen rows k y match (λ h. subst (λ z. Matches z (rows k)) (sym is) tt)) agreed in
      let s : Stands k (rows k) (node_at (played same n c.events).nodes k) = subst (λ z. Shows k z (seen k).node (rows k) (node_at
      (played same n c.events).nodes k)) is (c.nodes k m) in
      covers_on same n seen rows k y (started k r) [] c
      (subst (λ z. Leads same n c.events k (started k z) []) mine (begin_first same n c.events k (rows k) s))
      refl (sym (append-nil (seen k).sent)) m
  renewed seen k r (With q) is cov m may rows match agreed =
      let v = (seen k).node in
      let y : Viewed B = record { opened = With q; node = started k r; sent = (seen k).sent } in
      let c = cov rows (matched same n seen rows k y match (λ h. subst (λ z. Matches z (rows k)) (sym is) h)) agreed in
      let at = shown same (seen k).opened k v (rows k) q (node_at (played same n c.events).nodes k) is (c.nodes k m) in
      let g = gap v.rows.boot r.boot may.1 in
      let b : r.boot ≡ v.rows.boot + suc g.0 = g.1 in
      let l : v.rows.boot + suc g.0 ≤ last_boot = subst (λ z. z ≤ last_boot) b may.2 in
      let r' : with_boot (v.rows.boot + suc g.0) v.rows ≡ r = ap (λ z. with_boot z v.rows) (sym b) ∙ sym may.0 in
      covers_on same n seen rows k y (started k r) [] c
      (subst (λ z. Leads same n c.events k (started k z) []) r' (begin_often same n g.0 c.events k v at l))
      refl (sym (append-nil (seen k).sent)) m

  pub covered_renewed : (seen : ℕ → Viewed B) (k : ℕ) (r : Rows B) → Covered same n seen → IsMember n k
      → MayRenew (seen k).opened (seen k).node r
      → Covered same n (with_at seen k (reopened k r (seen k)))
  covered_renewed seen k r cov m may = renewed seen k r (seen k).opened refl cov m may

module _ {B : Type 0} (same : B → B → Bool) (n : ℕ) where
  -- views that show the same are covered alike
  pub covered_same : (f g : ℕ → Viewed B) → ((k : ℕ) → f k ≡ g k) → Covered same n f → Covered same n g
  covered_same f g e c = let path : ◌≡◌ {A = ℕ → Viewed B} f g = λ t k. e k t in subst (Covered same n) path c

  -- if no node was ever opened, any world will do
  pub covered_first : (f : ℕ → Viewed B) → ((k : ℕ) → (f k).opened ≡ Never) → ((k : ℕ) → (f k).sent ≡ []) → Covered same n f
  covered_first f never none rows match agreed =
      record {
        events = agreed.0;
        nodes = λ k m. subst (λ o. Shows k o (f k).node (rows k) (node_at (played same n agreed.0).nodes k)) (sym (never k)) (agreed.1 k m);
        sent = λ k p m h. absurd (has_nil (subst (λ s. Has s p) (none k) h));
      }
