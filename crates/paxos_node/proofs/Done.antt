-- What is returned if an event's part of the node may have run out of memory.
use Rattle.std.proofs.Common.{◌≡◌, ℕ, Bool, true, false, Result, Ok, Err, Option, None, List, refl, sym, ◌∙◌, subst}
use Rattle.std.proofs.lemmas.Result.{on_ok_weaker}
use Rattle.std.specs.Prelude.{IfOk, OnOk, OnErr}
use Rattle.paxos_packets.specs.declared.entry.Entry.{Entry}
use Rattle.paxos_node.specs.declared.fault.NodeFault.{NodeFault}
use Rattle.paxos_node.specs.declared.fault.NodeFault.TheVariants.{Rounds, Full, Disagree, Memory}
use Rattle.paxos_node.specs.declared.outcome.Outcome.{Outcome}
use Rattle.paxos_planning.specs.Drafting.{Known, Drafted, known}
use Rattle.paxos_planning.specs.Node.{NodeState, Plan}
use Rattle.paxos_node.specs.Adopting.{Settled}
use Rattle.paxos_node.specs.Applying.{settle}
use Rattle.paxos_node.specs.Outcome.{with_added}
use Rattle.paxos_node.specs.Plans.{Answers, Answered}
use Rattle.paxos_node.proofs.Ending.{settled_disagrees, without_added}

pub not_both : {X : Type 0} (b : Bool) → b ≡ false → b ≡ true → X
not_both b p q = absurd (cc)

-- if there is an answer, the part was done

pub was_done : {T E A Q : Type 0} (done : Result T E) (x : A) → OnErr done (◌≡◌ {A = Result A NodeFault} (Ok x) (Err Memory)) → OnOk done Q → Q
was_done (Ok y) x m q = q
was_done (Err f) x m q = absurd (cc)

pub not_undone : {T E A : Type 0} (Q : Type 0) (done : Result T E) (x : A) → OnErr done (◌≡◌ {A = Result A NodeFault} (Ok x) (Err Memory)) → OnErr done Q
not_undone Q (Ok y) x m = tt
not_undone Q (Err f) x m = absurd (cc)

-- a fault is returned, whatever would have been returned otherwise

same_fault : {A C : Type 0} (other more : Bool) (P : A → Type 0) (Q : C → Type 0) (f : NodeFault) → more ≡ other → Answers false false other P (Err f)
    → Answers false false more Q (Err f)
same_fault other more P Q Rounds e a = a
same_fault other more P Q Full e a = a
same_fault other more P Q Disagree e a = (a.0, a.1, e ∙ a.2)
same_fault other more P Q Memory e a = a

pub fault_alike : {T E : Type 0} (A C : Type 0) (done : Result T E) (f : NodeFault) → OnErr done (◌≡◌ {A = Result A NodeFault} (Err f) (Err Memory))
    → OnErr done (◌≡◌ {A = Result C NodeFault} (Err f) (Err Memory))
fault_alike A C (Ok y) f m = tt
fault_alike A C (Err d) f m = let same : f ≡ Memory = cc in (λ i. Err (same i))

module _ {B : Type 0} (me members : ℕ) (x : NodeState B) where
  pub settled_fault : {T E : Type 0} (added : Option (Entry B)) (t : Plan B) (done : Result T E) (f : NodeFault) (whole : List (Entry B))
      → OnOk done (Answers false false t.disagrees (λ (run : List (Entry B)). run ≡ whole) (Err f))
      → OnOk done (Answers false false (settle me t).disagrees (λ (o : Outcome B). Settled me members x t (with_added added o)) (Err f))
  settled_fault added t (Ok y) f whole a =
      same_fault t.disagrees (settle me t).disagrees (λ (run : List (Entry B)). run ≡ whole)
      (λ (o : Outcome B). Settled me members x t (with_added added o)) f (settled_disagrees me t) a
  settled_fault added t (Err d) f whole a = tt

  pub settled_done : {T E : Type 0} (added : Option (Entry B)) (t : Plan B) (done : Result T E) (o : Outcome B) → Settled me members x t (with_added added o)
      → OnOk done (Answers false false (settle me t).disagrees (λ (p : Outcome B). Settled me members x t (with_added added p)) (Ok o))
  settled_done added t (Ok y) o s = (refl, refl, s.agrees, s)
  settled_done added t (Err d) o s = tt

  -- if no entry becomes pending

  pub none_added : {T E : Type 0} (k : Known B) (t : Plan B) (done : Result T E) (r : Result (Outcome B) NodeFault) → k ≡ known me members x None
      → IfOk r (λ o. o.moves.added ≡ None)
      → OnOk done (Answers false false (settle me t).disagrees (λ (o : Outcome B). Settled me members x t (with_added k.added o)) r)
      → OnOk done (Answered me members x false false t r)
  none_added k t done r p q a =
      on_ok_weaker done
      (λ b. without_added (known me members x None) t (settle me t).disagrees r refl q
      (subst (λ (j : Known B). Answers false false (settle me t).disagrees (λ (o : Outcome B). Settled me members x t (with_added j.added o)) r) p b)) a

  -- what such a part makes of the node

  pub done_plan : {T E : Type 0} (d t : Plan B) (done : Result T E) (r : Result (Outcome B) NodeFault) → OnOk done (d ≡ t)
      → OnOk done (Answered me members x false false d r) → OnErr done (r ≡ Err Memory) → Answered me members x false false t r
  done_plan d t (Ok y) r p a m = subst (λ (u : Plan B). Answered me members x false false u r) p a
  done_plan d t (Err e) r p a m = subst (λ (s : Result (Outcome B) NodeFault). Answered me members x false false t s) (sym m) (refl, refl)

  pub done_pending : {T E : Type 0} (d : Drafted B) (added : Option (Entry B)) (t : Plan B) (done : Result T E) (r : Result (Outcome B) NodeFault)
      → d.of ≡ known me members x added → OnOk done (d.plan ≡ t)
      → OnOk done (Answers false false (settle me d.plan).disagrees (λ (o : Outcome B). Settled me members x d.plan (with_added d.of.added o)) r)
      → OnErr done (r ≡ Err Memory) → Answers false false (settle me t).disagrees (λ (o : Outcome B). Settled me members x t (with_added added o)) r
  done_pending d added t (Ok y) r p q a m =
      subst (λ (k : Known B). Answers false false (settle me t).disagrees (λ (o : Outcome B). Settled me members x t (with_added k.added o)) r) p
      (subst (λ (u : Plan B). Answers false false (settle me u).disagrees (λ (o : Outcome B). Settled me members x u (with_added d.of.added o)) r) q a)
  done_pending d added t (Err e) r p q a m =
      subst (λ (s : Result (Outcome B) NodeFault). Answers false false (settle me t).disagrees (λ (o : Outcome B). Settled me members x t (with_added added o)) s)
      (sym m) (refl, refl)
