-- What comes of one event of a feed, and of one turn.
use Rattle.std.proofs.Common.{◌≡◌, ℕ, Bool, true, false, List, [], ◌∷◌, ◌++◌, ap, sym, subst, ◌∙◌, refl, Option, Some, None}
use Rattle.std.specs.Prelude.{Result, Ok, Err, MatchOption}
use Rattle.std.specs.Option.{option_to_list}
use Rattle.std.specs.declared.vec.Vec.{Vec}
use Rattle.std.specs.declared.alloc.Global.{Global}
use Rattle.std.proofs.lemmas.List.{append-nil, append_assoc}
use Rattle.std.proofs.lemmas.Grind.{flat_map-append}
use Rattle.paxos_packets.specs.declared.rows.Rows.{Rows}
use Rattle.paxos_node.specs.declared.event.Event.{Event}
use Rattle.paxos_node.specs.declared.event.Event.TheVariants.{Cut}
use Rattle.paxos_packets.specs.Snapshot as taken
use Rattle.paxos_node.specs.Events.{is_full_refused}
use Rattle.paxos_node.specs.View.{Viewed}
use Rattle.paxos_planning.specs.Node.{NodeState}
use Rattle.replica_machine.specs.Replay.{Steps}
use Rattle.actor_parts.specs.declared.fault.ActorFault.{ActorFault}
use Rattle.actor_parts.specs.declared.fault.ActorFault.TheVariants.{Failed, Rounds, Full, Keeper, Disagree, LostHere, Worn, Memory}
use Rattle.node_actor.specs.Actor.{Acting}
use Rattle.node_actor.specs.Calls.{Acts, Cuts, is_own, turn_event, has_no_round, has_no_room}
use Rattle.node_actor.specs.Snapshots.{cut_to}
use Rattle.node_actor.specs.Turns.{Turns, packet_got}
use Rattle.node_actor.specs.Views.{View, seen, StandsFor}
use Rattle.actor_run.specs.Answers.{is_refusal, says_of, IsQuiet, Gets, Answered}
use Rattle.actor_run.specs.Events.{asked_by, asked_in, acts_in, behind, gained_in, is_own_cut}
use Rattle.actor_run.specs.Runs.{Outset, Underway, Waits, IsLate, Ended, Makes, late_of, IsHeld, none_is, was_held, ended_it}
use Rattle.actor_run.proofs.Lists.{gained_at, gains, cut_asks, cut_gains, not_asked, none_asked, turn_gains, turn_rounds, turn_rooms}
use Rattle.actor_run.proofs.Going.{goes_on, posts_on, held_on}

module _ {B S Y M K : Type 0} (same : B → B → Bool) (steps : Steps B S Y) (content : M → S) (loaded : List ℕ → Option S)
    (holds : K → Rows B → Type 0) (finds : K → Rows B → Type 0) (failures : K → ℕ) where
  -- an event that is not refused is ended by no refusal
  pub fatal_by : (fault : ActorFault Y) (last : Option (Event B)) (mid now : Acting B M K) (v : View B)
      → Acts same steps content loaded holds finds failures last mid now v (Err fault) → has_no_round last (seen v).node ≡ false
      → has_no_room same last (seen v).node ≡ false → is_refusal fault ≡ false
  fatal_by Failed last mid now v a rounds rooms = refl
  fatal_by Rounds last mid now v a rounds rooms = absurd (let off : ◌≡◌ {A = Bool} true false = sym a.1 ∙ rounds in cc)
  fatal_by Full last mid now v a rounds rooms = absurd (let off : ◌≡◌ {A = Bool} true false = sym a.1 ∙ rooms in cc)
  fatal_by (Keeper cause) last mid now v a rounds rooms = refl
  fatal_by Disagree last mid now v a rounds rooms = refl
  fatal_by (LostHere says) last mid now v a rounds rooms = refl
  fatal_by Worn last mid now v a rounds rooms = refl
  fatal_by Memory last mid now v a rounds rooms = refl

module _ {B S Y M K F : Type 0} (same : B → B → Bool) (steps : Steps B S Y) (content : M → S) (loaded : List ℕ → Option S) (saw : F → List (Event B) → List Y → Type 0)
    (o : Outset B Y M K) where
  -- another list of late acts that is the same
  abbrev pub late_is : (late rest : List (ℕ × B)) (now : Acting B M K) (feed : F) → late ≡ rest → Underway same steps content loaded saw late o now feed
      → Underway same steps content loaded saw rest o now feed
  late_is late rest now feed e u =
      record {
        view = u.view;
        made = u.made;
        given = u.given;
        said = u.said;
        went = record {
          stands = u.went.stands;
          me = u.went.me;
          members = u.went.members;
          moved = u.went.moved;
          acts = ap (λ l. acts_in (gained_in same o.actor.node.members u.made (seen o.view)) ++ l) (sym e) ∙ u.went.acts;
          says = u.went.says;
          follows = u.went.follows;
        };
        told = u.told;
      }

  -- the feed gave an event, or none: its act is late, too
  pub given_on : (late : List (ℕ × B)) (now : Acting B M K) (feed next : F) (r : Option (Event B))
      → ((given : List (Event B)) (got : List Y) → saw feed given got → saw next (given ++ option_to_list r) got)
      → Underway same steps content loaded saw late o now feed → Underway same steps content loaded saw (late ++ late_of o.actor.node.me r) o now next
  given_on late now feed next r gives u =
      let me : ℕ = o.actor.node.me in
      let asked : asked_in me (u.given ++ option_to_list r) ≡ asked_in me u.given ++ late_of me r =
      flat_map-append (asked_by me) u.given (option_to_list r) ∙ ap (λ l. asked_in me u.given ++ l) (late_is_asked me r) in
      let made : List (ℕ × B) = acts_in (gained_in same o.actor.node.members u.made (seen o.view)) in
      record {
        view = u.view;
        made = u.made;
        given = u.given ++ option_to_list r;
        said = u.said;
        went = record {
          stands = u.went.stands;
          me = u.went.me;
          members = u.went.members;
          moved = u.went.moved;
          acts = sym (append_assoc made late (late_of me r)) ∙ (ap (λ l. l ++ late_of me r) u.went.acts ∙ sym asked);
          says = u.went.says;
          follows = u.went.follows;
        };
        told = subst (λ g. saw next g (o.got ++ u.said)) (append_assoc o.gave u.given (option_to_list r))
            (gives (o.gave ++ u.given) (o.got ++ u.said) u.told);
      }
    where
      late_is_asked : (me : ℕ) (r : Option (Event B)) → asked_in me (option_to_list r) ≡ late_of me r
      late_is_asked me None = refl
      late_is_asked me (Some e) = append-nil (asked_by me e)

  -- the next event that a feed gave, if none was held back
  pub next_of : (now : Acting B M K) (feed next : F) (r : Option (Event B))
      → ((given : List (Event B)) (got : List Y) → saw feed given got → saw next (given ++ option_to_list r) got)
      → Waits same steps content loaded saw None o now feed
      → MatchOption r (Waits same steps content loaded saw None o now next) (λ e. Underway same steps content loaded saw (asked_by now.node.me e) o now next)
  next_of now feed next None gives w = record { under = given_on [] now feed next None gives w.under; back = tt }
  next_of now feed next (Some e) gives w =
      late_is (asked_by o.actor.node.me e) (asked_by now.node.me e) now next (ap (λ k. asked_by k e) (sym w.under.went.me))
      (given_on [] now feed next (Some e) gives w.under)

  -- the one that was held back
  pub held_again : (now : Acting B M K) (feed : F) (e : Event B) → Waits same steps content loaded saw (Some e) o now feed
      → Underway same steps content loaded saw (asked_by now.node.me e) o now feed
  held_again now feed e w =
      late_is (asked_by o.actor.node.me e) (asked_by now.node.me e) now feed (ap (λ k. asked_by k e) (sym w.under.went.me)) w.under

  -- a cut asks nothing
  pub cut_asked : (now : Acting B M K) (feed : F) (e : Event B) → is_own_cut now.node.me e ≡ true
      → Underway same steps content loaded saw (asked_by now.node.me e) o now feed → Underway same steps content loaded saw [] o now feed
  cut_asked now feed e own u = late_is _ [] now feed (cut_asks same o.actor.node.members now.node.me e own) u

  -- an event that is no node's own asks nothing
  pub passes : (now : Acting B M K) (feed : F) (e : Event B) → is_own now.node.me e ≡ false
      → Underway same steps content loaded saw (asked_by now.node.me e) o now feed → Waits same steps content loaded saw None o now feed
  passes now feed e own u = record { under = late_is _ [] now feed (not_asked same o.actor.node.members now.node.me e own) u; back = tt }

  module _ (holds : K → Rows B → Type 0) (finds : K → Rows B → Type 0) (failures : K → ℕ) where
    -- the actor took it
    pub makes_ok : (mid now : Acting B M K) (feed next : F) (e : Event B) (says : Vec Y Global)
        → ((v : View B) → StandsFor mid v → Acts same steps content loaded holds finds failures (Some e) mid now v (Ok says))
        → is_own mid.node.me e ≡ true → now.node.me ≡ mid.node.me → now.node.members ≡ mid.node.members
        → Gets {B = B} saw says.items feed next → Underway same steps content loaded saw (asked_by mid.node.me e) o mid feed
        → Waits same steps content loaded saw None o now next
    makes_ok mid now feed next e says acts own me members gets u =
        let a = acts u.view u.went.stands in
        let full : is_full_refused same e (seen u.view).node ≡ false = a.2.0.1 in
        let gain : acts_in (gained_at (Some e) (seen u.view).node) ++ [] ≡ asked_by mid.node.me e =
        append-nil (acts_in (gained_at (Some e) (seen u.view).node)) ∙ gains same o.actor.node.members mid.node.me e (seen u.view).node own full in
        record {
          under = record {
            view = a.4.next;
            made = u.made ++ e ∷ [];
            given = u.given;
            said = u.said ++ says.items;
            went = goes_on same steps content loaded holds finds failures o (asked_by mid.node.me e) [] mid now u.view u.made u.given u.said says.items
                (Some e) u.went a.4 me members gain;
            told = subst (saw next (o.gave ++ u.given)) (append_assoc o.got u.said says.items) (gets (o.gave ++ u.given) (o.got ++ u.said) u.told);
          };
          back = tt;
        }

    -- the actor returned a fault
    pub makes_err : (mid now : Acting B M K) (feed next : F) (e : Event B) (fault : ActorFault Y) (r : Result (Option (Event B)) (ActorFault Y))
        → ((v : View B) → StandsFor mid v → Acts same steps content loaded holds finds failures (Some e) mid now v (Err fault))
        → Answered saw fault e feed next r → Underway same steps content loaded saw (asked_by mid.node.me e) o mid feed
        → Makes same steps content loaded saw holds finds failures o now next r
    makes_err mid now feed next e fault (Ok None) acts told u =
        let at : (v : View B) → StandsFor mid v → Acts same steps content loaded holds finds failures (Some e) mid now v (Err Rounds) =
        subst (λ f. (v : View B) → StandsFor mid v → Acts same steps content loaded holds finds failures (Some e) mid now v (Err f)) told.0 acts in
        let a = at u.view u.went.stands in
        let none : asked_by mid.node.me e ≡ [] = none_asked same o.actor.node.members mid.node.me e (seen u.view).node a.1 in
        subst (λ f. Waits same steps content loaded saw None o now f) (sym told.1)
        (subst (λ z. Waits same steps content loaded saw None o z feed) (sym a.2) (record { under = late_is _ [] mid feed none u; back = tt }))
    makes_err mid now feed next e fault (Ok (Some held)) acts told u =
        let at : (v : View B) → StandsFor mid v → Acts same steps content loaded holds finds failures (Some e) mid now v (Err Full) =
        subst (λ f. (v : View B) → StandsFor mid v → Acts same steps content loaded holds finds failures (Some e) mid now v (Err f)) told.0 acts in
        let a = at u.view u.went.stands in
        let full : is_full_refused same e (behind same o.actor.node.members u.made (seen o.view)).node ≡ true =
        subst (λ (z : Viewed B). is_full_refused same e z.node ≡ true) u.went.moved a.1 in
        subst (λ h. Waits same steps content loaded saw (Some h) o now next) (sym told.1)
        (subst (λ f. Waits same steps content loaded saw (Some e) o now f) (sym told.2)
        (subst (λ z. Waits same steps content loaded saw (Some e) o z feed) (sym a.2) (record {
          under = late_is _ (asked_by o.actor.node.me e) mid feed (ap (λ k. asked_by k e) u.went.me) u;
          back = record { front = u.made; since = []; all = sym (append-nil u.made); full = full; no_act = refl };
        })))
    makes_err mid now feed next e fault (Err answer) acts told u =
        record {
          late = asked_by mid.node.me e;
          last = Some e;
          fault = fault;
          before = mid;
          view = u.view;
          made = u.made;
          given = u.given;
          said = u.said;
          went = u.went;
          why = ended_it e (ap (λ k. asked_by k e) u.went.me) refl;
          ended = acts u.view u.went.stands;
          fatal = told.0;
          quiet = told.1;
          told = told.2 (o.gave ++ u.given) (o.got ++ u.said) u.told;
        }

    -- one turn

    held_still : (held : Option (Event B)) (made : List (Event B)) (e : Option (Event B)) → ((x : NodeState B) → gained_at e x ≡ [])
        → IsHeld same o.actor.node.members held made (seen o.view) → IsHeld same o.actor.node.members held (made ++ option_to_list e) (seen o.view)
    held_still None made e none back = tt
    held_still (Some h) made e none back = held_on same steps content loaded holds finds failures o h made e none back

    why_late : (held : Option (Event B)) (made : List (Event B)) (last : Option (Event B)) → IsHeld same o.actor.node.members held made (seen o.view)
        → IsLate same steps content loaded saw holds finds failures (late_of o.actor.node.me held) o made last
    why_late None made last back = none_is refl
    why_late (Some h) made last back = was_held h refl back

    -- a turn that returned what was said
    pub turned_ok : (held : Option (Event B)) (old now : Acting B M K) (feed next : F) (says : Vec Y Global)
        → (old.spoiled ≡ true → (now ≡ old) × ◌≡◌ {A = Result (Vec Y Global) (ActorFault Y)} (Ok says) (Err Failed))
        → ((v : View B) → StandsFor old v → old.spoiled ≡ false → Turns same steps content loaded holds finds failures old now v (Ok says))
        → now.node.me ≡ old.node.me → now.node.members ≡ old.node.members → Gets {B = B} saw says.items feed next
        → Waits same steps content loaded saw held o old feed → Waits same steps content loaded saw held o now next
    turned_ok held old now feed next says spoils turns me members gets w = by_spoiled old.spoiled refl
      where
        by_spoiled : (b : Bool) → old.spoiled ≡ b → Waits same steps content loaded saw held o now next
        by_spoiled true e = absurd (let off : ◌≡◌ {A = Result (Vec Y Global) (ActorFault Y)} (Ok says) (Err Failed) = (spoils e).1 in cc)
        by_spoiled false e =
            let u = w.under in
            let t = turns u.view u.went.stands e in
            let last : Option (Event B) = turn_event old.node.me old.node.members (packet_got t.got) in
            let late : List (ℕ × B) = late_of o.actor.node.me held in
            let none = turn_gains same old.node.members old.node.me (packet_got t.got) in
            let still = t.posts.beside.only.node in
            let a = t.acts in
            record {
              under = record {
                view = a.4.next;
                made = u.made ++ option_to_list last;
                given = u.given;
                said = u.said ++ says.items;
                went = goes_on same steps content loaded holds finds failures o late late t.mid now t.between u.made u.given u.said says.items last
                    (posts_on same steps content loaded holds finds failures o late old now u.view u.made u.given u.said (Ok says) t u.went) a.4
                    (me ∙ sym (ap (λ h. h.me) still)) (members ∙ sym (ap (λ h. h.members) still))
                    (ap (λ l. acts_in l ++ late) (none (seen t.between).node));
                told = subst (saw next (o.gave ++ u.given)) (append_assoc o.got u.said says.items)
                    (gets (o.gave ++ u.given) (o.got ++ u.said) u.told);
              };
              back = held_still held u.made last none w.back;
            }

    -- a cut that returned what was said
    pub cut_goes : (late : List (ℕ × B)) (snapshot : Option taken.Snapshot) (old now : Acting B M K) (feed next : F) (says : Vec Y Global)
        → ((v : View B) → StandsFor old v → Cuts same steps content loaded holds finds failures snapshot old now v (Ok says))
        → now.node.me ≡ old.node.me → now.node.members ≡ old.node.members → Gets {B = B} saw says.items feed next
        → Underway same steps content loaded saw late o old feed → Underway same steps content loaded saw late o now next
    cut_goes late snapshot old now feed next says cuts me members gets u =
        let a = cuts u.view u.went.stands in
        let e : Option (Event B) = cut_to old.node.me snapshot (seen u.view).node in
        let gain : acts_in (gained_at e (seen u.view).node) ++ late ≡ late =
        ap (λ l. acts_in l ++ late) (cut_gains same o.actor.node.members old.node.me snapshot (seen u.view).node (seen u.view).node) in
        record {
          view = a.4.next;
          made = u.made ++ option_to_list e;
          given = u.given;
          said = u.said ++ says.items;
          went = goes_on same steps content loaded holds finds failures o late late old now u.view u.made u.given u.said says.items e u.went a.4
              me members gain;
          told = subst (saw next (o.gave ++ u.given)) (append_assoc o.got u.said says.items) (gets (o.gave ++ u.given) (o.got ++ u.said) u.told);
        }

    pub cut_ok : (snapshot : Option taken.Snapshot) (old now : Acting B M K) (feed next : F) (says : Vec Y Global)
        → ((v : View B) → StandsFor old v → Cuts same steps content loaded holds finds failures snapshot old now v (Ok says))
        → now.node.me ≡ old.node.me → now.node.members ≡ old.node.members → Gets {B = B} saw says.items feed next
        → Underway same steps content loaded saw [] o old feed → Waits same steps content loaded saw None o now next
    cut_ok snapshot old now feed next says cuts me members gets u =
        record { under = cut_goes [] snapshot old now feed next says cuts me members gets u; back = tt }

    -- a cut that returned a fault
    pub cut_err : (snapshot : Option taken.Snapshot) (old now : Acting B M K) (feed next : F) (fault answer : ActorFault Y)
        → ((v : View B) → StandsFor old v → Cuts same steps content loaded holds finds failures snapshot old now v (Err fault))
        → IsQuiet fault answer → Gets {B = B} saw (says_of fault) feed next
        → Underway same steps content loaded saw [] o old feed → Ended same steps content loaded saw holds finds failures o now next answer
    cut_err snapshot old now feed next fault answer cuts quiet gets u =
        let last : Option (Event B) = Some (Cut old.node.me snapshot) in
        record {
          late = [];
          last = last;
          fault = fault;
          before = old;
          view = u.view;
          made = u.made;
          given = u.given;
          said = u.said;
          went = u.went;
          why = none_is refl;
          ended = cuts u.view u.went.stands;
          fatal = fatal_by same steps content loaded holds finds failures fault last old now u.view (cuts u.view u.went.stands) refl refl;
          quiet = quiet;
          told = gets (o.gave ++ u.given) (o.got ++ u.said) u.told;
        }

    -- a turn that returned a fault
    pub turned_err : (held : Option (Event B)) (old now : Acting B M K) (feed next : F) (fault answer : ActorFault Y)
        → (old.spoiled ≡ true → (now ≡ old) × ◌≡◌ {A = Result (Vec Y Global) (ActorFault Y)} (Err fault) (Err Failed))
        → ((v : View B) → StandsFor old v → old.spoiled ≡ false → Turns same steps content loaded holds finds failures old now v (Err fault))
        → IsQuiet fault answer → Gets {B = B} saw (says_of fault) feed next
        → Waits same steps content loaded saw held o old feed → Ended same steps content loaded saw holds finds failures o now next answer
    turned_err held old now feed next fault answer spoils turns quiet gets w = by_spoiled old.spoiled refl
      where
        by_spoiled : (b : Bool) → old.spoiled ≡ b → Ended same steps content loaded saw holds finds failures o now next answer
        by_spoiled true e =
            let u = w.under in
            let off : ◌≡◌ {A = Result (Vec Y Global) (ActorFault Y)} (Err fault) (Err Failed) = (spoils e).1 in
            let is : fault ≡ Failed = cc in
            record {
              late = late_of o.actor.node.me held;
              last = None;
              fault = fault;
              before = old;
              view = u.view;
              made = u.made;
              given = u.given;
              said = u.said;
              went = u.went;
              why = why_late held u.made None w.back;
              ended = subst (λ f. Acts same steps content loaded holds finds failures None old now u.view (Err f)) (sym is) (e, (spoils e).0);
              fatal = subst (λ f. is_refusal f ≡ false) (sym is) refl;
              quiet = quiet;
              told = gets (o.gave ++ u.given) (o.got ++ u.said) u.told;
            }
        by_spoiled false e =
            let u = w.under in
            let t = turns u.view u.went.stands e in
            let last : Option (Event B) = turn_event old.node.me old.node.members (packet_got t.got) in
            record {
              late = late_of o.actor.node.me held;
              last = last;
              fault = fault;
              before = t.mid;
              view = t.between;
              made = u.made;
              given = u.given;
              said = u.said;
              went = posts_on same steps content loaded holds finds failures o (late_of o.actor.node.me held) old now u.view u.made u.given u.said
                  (Err fault)
                  t u.went;
              why = why_late held u.made last w.back;
              ended = t.acts;
              fatal = fatal_by same steps content loaded holds finds failures fault last t.mid now t.between t.acts
                  (turn_rounds same old.node.members old.node.me (packet_got t.got) (seen t.between).node)
                  (turn_rooms same old.node.members old.node.me (packet_got t.got) (seen t.between).node);
              quiet = quiet;
              told = gets (o.gave ++ u.given) (o.got ++ u.said) u.told;
            }

  -- nothing has come yet
  pub sets_out : (feed : F) → StandsFor o.actor o.view → saw feed o.gave o.got → Waits same steps content loaded saw None o o.actor feed
  sets_out feed stands told =
      record {
        under = record {
          view = o.view;
          made = [];
          given = [];
          said = [];
          went = record {
            stands = stands;
            me = refl;
            members = refl;
            moved = refl;
            acts = refl;
            says = λ first under logs l takes. refl;
            follows = λ first under logs l takes. l;
          };
          told = subst (λ g. saw feed g (o.got ++ [])) (sym (append-nil o.gave)) (subst (saw feed o.gave) (sym (append-nil o.got)) told);
        };
        back = tt;
      }
