-- Lists of events with one more at the end, or none.
use Rattle.std.proofs.Common.{◌≡◌, ℕ, Bool, true, false, List, [], ◌∷◌, ◌++◌, ap, sym, ◌∙◌, refl, Option, Some, None}
use Rattle.std.specs.Prelude.{not, if◌then◌else◌}
use Rattle.std.specs.Option.{option_to_list, is_some}
use Rattle.std.proofs.lemmas.List.{append-nil, append_assoc}
use Rattle.paxos_packets.specs.declared.entry.Entry.{Entry}
use Rattle.paxos_packets.specs.declared.packet.Packet.{Packet}
use Rattle.paxos_node.specs.declared.event.Event.{Event}
use Rattle.paxos_node.specs.declared.event.Event.TheVariants.{Take, Deliver, Cut}
use Rattle.paxos_node.specs.Events.{takes, is_round_refused, is_full_refused}
use Rattle.paxos_node.specs.View.{Viewed}
use Rattle.paxos_planning.specs.Node.{NodeState}
use Rattle.paxos_node.specs.Snapshots.{may_cut}
use Rattle.paxos_packets.specs.Snapshot as taken
use Rattle.node_actor.specs.Calls.{is_own, turn_event, has_no_round, has_no_room}
use Rattle.node_actor.specs.Snapshots.{cut_to}
use Rattle.node_actor.specs.Views.{moved_by, is_for}
pub use Rattle.node_actor.proofs.EventLists.{behind_more, said_more, take_more, under_more}
use Rattle.actor_run.specs.Events.{asked_by, acts_in, gained_by, behind, gained_in, is_own_cut}

abbrev pub gained_at : {B : Type 0} → Option (Event B) → NodeState B → List (Entry B)
gained_at None x = []
gained_at (Some e) x = gained_by e x

module _ {B : Type 0} (same : B → B → Bool) (members : ℕ) where
  pub gained_more : (made : List (Event B)) (e : Option (Event B)) (s : Viewed B)
      → gained_in same members (made ++ option_to_list e) s ≡ gained_in same members made s ++ gained_at e (behind same members made s).node
  gained_more [] None s = refl
  gained_more [] (Some e) s = append-nil (gained_by e s.node)
  gained_more (x ∷ xs) e s =
      let t : Viewed B = moved_by same members (Some x) s in
      ap (λ g. gained_by x s.node ++ g) (gained_more xs e t)
      ∙ sym (append_assoc (gained_by x s.node) (gained_in same members xs t) (gained_at e (behind same members xs t).node))

  -- what one event asks and gains

  pub not_asked : (me : ℕ) (e : Event B) → is_own me e ≡ false → asked_by me e ≡ []
  not_asked me (Take n t body) h = rw h refl
  not_asked me _ h = refl

  pub none_asked : (me : ℕ) (e : Event B) (x : NodeState B) → is_round_refused e x ≡ true → asked_by me e ≡ []
  none_asked me (Take n t body) x h = absurd (let off : ◌≡◌ {A = Bool} false true = h in cc)
  none_asked me _ x h = refl

  takes_it : (b : Bool) → not b ≡ false → b ≡ true
  takes_it true h = refl
  takes_it false h = absurd (let off : ◌≡◌ {A = Bool} true false = h in cc)

  pub gains : (me : ℕ) (e : Event B) (x : NodeState B) → is_own me e ≡ true → is_full_refused same e x ≡ false
      → acts_in (gained_by e x) ≡ asked_by me e
  gains me (Take n t body) x own full = let room : takes x ≡ true = takes_it (takes x) full in rw (own, room) refl
  gains me _ x own full = refl

  -- a cut asks and gains nothing

  pub cut_asks : (me : ℕ) (e : Event B) → is_own_cut me e ≡ true → asked_by me e ≡ []
  cut_asks me (Take n t body) h = absurd (let off : ◌≡◌ {A = Bool} false true = h in cc)
  cut_asks me _ h = refl

  cut_by : (b : Bool) (me : ℕ) (snapshot : Option taken.Snapshot) (x : NodeState B)
      → gained_at {B = B} (if b then Some (Cut me snapshot) else None) x ≡ []
  cut_by true me snapshot x = refl
  cut_by false me snapshot x = refl

  pub cut_gains : (me : ℕ) (snapshot : Option taken.Snapshot) (y x : NodeState B) → gained_at (cut_to me snapshot y) x ≡ []
  cut_gains me snapshot y x = cut_by (may_cut snapshot y) me snapshot x

  -- a turn's event gains nothing, and is not refused

  abbrev turn_by : Bool → Packet B → Option (Event B)
  turn_by b p = if b then Some (Deliver p) else None

  gains_by : (b : Bool) (p : Packet B) (x : NodeState B) → gained_at (turn_by b p) x ≡ []
  gains_by true p x = refl
  gains_by false p x = refl

  pub turn_gains : (me : ℕ) (p : Option (Packet B)) (x : NodeState B) → gained_at (turn_event me members p) x ≡ []
  turn_gains me None x = refl
  turn_gains me (Some p) x = gains_by (is_for me members p) p x

  rounds_by : (b : Bool) (p : Packet B) (x : NodeState B) → has_no_round (turn_by b p) x ≡ false
  rounds_by true p x = refl
  rounds_by false p x = refl

  pub turn_rounds : (me : ℕ) (p : Option (Packet B)) (x : NodeState B) → has_no_round (turn_event me members p) x ≡ false
  turn_rounds me None x = refl
  turn_rounds me (Some p) x = rounds_by (is_for me members p) p x

  rooms_by : (b : Bool) (p : Packet B) (x : NodeState B) → has_no_room same (turn_by b p) x ≡ false
  rooms_by true p x = refl
  rooms_by false p x = refl

  pub turn_rooms : (me : ℕ) (p : Option (Packet B)) (x : NodeState B) → has_no_room same (turn_event me members p) x ≡ false
  turn_rooms me None x = refl
  turn_rooms me (Some p) x = rooms_by (is_for me members p) p x

-- an option that is seen to be none
pub none_seen : {A : Type 0} (x : Option A) → is_some x ≡ false → x ≡ None
none_seen None h = refl
none_seen (Some a) h = absurd (let off : ◌≡◌ {A = Bool} true false = h in cc)
