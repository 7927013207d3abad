-- The entry that becomes pending is what the event makes.
use Rattle.std.proofs.Common.{◌≡◌, ℕ, Bool, true, cond, Result, Option, Some, None, List, [], ◌∷◌, ap, sym, ◌∙◌}
use Rattle.std.proofs.lemmas.Result.{IfOk-weaker}
use Rattle.std.specs.Prelude.{IfOk}
use Rattle.paxos_packets.specs.declared.entry.Entry.{Entry}
use Rattle.paxos_node.specs.declared.event.Event.{Event}
use Rattle.paxos_node.specs.declared.event.Event.TheVariants.{Take, Suspect}
use Rattle.paxos_node.specs.declared.fault.NodeFault.{NodeFault}
use Rattle.paxos_node.specs.declared.outcome.Outcome.{Outcome}
use Rattle.paxos_node.specs.Events.{owner, takes, new_item, has_room, new_lost, made_by, taken_by, suspected_by}
use Rattle.paxos_planning.specs.Drafting.{listed}
use Rattle.paxos_planning.specs.Node.{NodeState}

-- what becomes pending is this
abbrev pub Makes : {B : Type 0} → List (Entry B) → Result (Outcome B) NodeFault → Type 0
Makes made r = IfOk r (λ o. listed o.moves.added ≡ made)

-- the same, of an entry or none
abbrev pub Adds : {B : Type 0} → Option (Entry B) → Result (Outcome B) NodeFault → Type 0
Adds added r = IfOk r (λ o. o.moves.added ≡ added)

pub makes_added : {B : Type 0} (r : Result (Outcome B) NodeFault) (added : Option (Entry B)) (made : List (Entry B)) → listed added ≡ made → Adds added r
    → Makes made r
makes_added {B} r added made p a =
    IfOk-weaker r (λ (o : Outcome B). o.moves.added ≡ added) (λ (o : Outcome B). listed o.moves.added ≡ made)
    (λ o q. ap (λ (e : Option (Entry B)). listed e) q ∙ p) a

module _ {B : Type 0} (same : B → B → Bool) (me : ℕ) (x : NodeState B) (r : Result (Outcome B) NodeFault) where
  pub take_makes : (transport : ℕ) (body : B) (e : Entry B) → takes x ≡ true → e ≡ new_item me transport body x → Adds (Some e) r
      → Makes (taken_by me transport body x) r
  take_makes transport body e t p a =
      makes_added r (Some e) (taken_by me transport body x)
      (ap (λ (d : Entry B). d ∷ []) p ∙ ap (λ (b : Bool). cond {A = List (Entry B)} b (new_item me transport body x ∷ []) []) (sym t)) a

  pub none_makes : (other : ℕ) → ◌≡◌ {A = Option (Entry B)} None (new_lost same me other x) → Adds None r
      → Makes (suspected_by (new_lost same me other x) x) r
  none_makes other p a =
      makes_added r None (suspected_by (new_lost same me other x) x) (ap (λ (l : Option (Entry B)). suspected_by l x) p) a

  pub lost_makes : (other : ℕ) (lost : Entry B) → ◌≡◌ {A = Option (Entry B)} (Some lost) (new_lost same me other x) → has_room x ≡ true
      → Adds (Some lost) r → Makes (suspected_by (new_lost same me other x) x) r
  lost_makes other lost p t a =
      makes_added r (Some lost) (suspected_by (new_lost same me other x) x)
      (ap (λ (b : Bool). cond {A = List (Entry B)} b (lost ∷ []) []) (sym t) ∙ ap (λ (l : Option (Entry B)). suspected_by l x) p) a

  -- each event of this node

  pub makes_nothing : (e : Event B) → made_by same e x ≡ [] → Adds None r → Makes (made_by same e x) r
  makes_nothing e p a = makes_added r None (made_by same e x) (sym p) a

  pub makes_act : (e : Event B) (n t : ℕ) (body : B) → e ≡ Take n t body → owner e ≡ me → Makes (taken_by me t body x) r → Makes (made_by same e x) r
  makes_act e n t body p q a =
      IfOk-weaker r (λ (o : Outcome B). listed o.moves.added ≡ taken_by me t body x) (λ (o : Outcome B). listed o.moves.added ≡ made_by same e x)
      (λ o h. h ∙ ap (λ (k : ℕ). taken_by k t body x) (sym q ∙ ap owner p) ∙ ap (λ (f : Event B). made_by same f x) (sym p)) a

  pub makes_lost : (e : Event B) (n other : ℕ) → e ≡ Suspect n other → owner e ≡ me → Makes (suspected_by (new_lost same me other x) x) r
      → Makes (made_by same e x) r
  makes_lost e n other p q a =
      IfOk-weaker r (λ (o : Outcome B). listed o.moves.added ≡ suspected_by (new_lost same me other x) x)
      (λ (o : Outcome B). listed o.moves.added ≡ made_by same e x)
      (λ o h. h ∙ ap (λ (k : ℕ). suspected_by (new_lost same k other x) x) (sym q ∙ ap owner p) ∙ ap (λ (f : Event B). made_by same f x) (sym p)) a
