-- What becomes of events that are committed together, one after another.
use Rattle.std.proofs.Common.{◌≡◌, ℕ, false, Result, Ok, Err, List, [], ◌∷◌, ◌++◌, sym, ap, subst, ◌∙◌, refl}
use Rattle.std.specs.Prelude.{◌==◌}
use Rattle.std.specs.List.{flat_map}
use Rattle.std.proofs.lemmas.List.{append-nil, append_assoc}
use Rattle.std.proofs.lemmas.List.Elements.{filter-append}
use Rattle.circular_buffer.specs.Buffer.{keep_last}
use Rattle.actor_outboxes.proofs.Filing.{keep_last_again, waits_still}
use Rattle.actor_outboxes.specs.Outboxes.{HasLimits, IsPeer, Waiting, WaitBehind, most_waiting, to, waiting}
use Rattle.paxos_packets.specs.declared.entry.Entry.{Entry}
use Rattle.paxos_packets.specs.declared.packet.Packet.{Packet}
use Rattle.replica_machine.specs.Log.{IsLogOf, LogState, machine_from}
use Rattle.replica_machine.specs.Replay.{Machine, Steps}
use Rattle.actor_parts.specs.Handing.{handed_out}
use Rattle.actor_parts.specs.Parts.{IsPrefixOf, Parted}
use Rattle.actor_parts.specs.Steps.{Applied, IsAtEnd, OnlyLog, OnlyWaiting}
use Rattle.actor_parts.specs.Tried.{FollowsTried, StopsTried, TakesAll, entries_in, heard_of, packets_in}
use Rattle.actor_parts.specs.declared.tried.Tried.{Tried}

-- one event more

pub entries_more : {B : Type 0} (ts : List (Tried B)) (t : Tried B) → entries_in (ts ++ t ∷ []) ≡ entries_in ts ++ t.applied
entries_more [] t = append-nil t.applied
entries_more (s ∷ ss) t = ap (λ es. s.applied ++ es) (entries_more ss t) ∙ sym (append_assoc s.applied (entries_in ss) t.applied)

pub packets_more : {B : Type 0} (ts : List (Tried B)) (t : Tried B) → packets_in (ts ++ t ∷ []) ≡ packets_in ts ++ t.packets
packets_more [] t = append-nil t.packets
packets_more (s ∷ ss) t = ap (λ ps. s.packets ++ ps) (packets_more ss t) ∙ sym (append_assoc s.packets (packets_in ss) t.packets)

pub heard_more : {B S Y : Type 0} (m : Machine B S Y) (node boot : ℕ) (log : List (Entry B)) (ts : List (Tried B)) (t : Tried B)
    → heard_of m node boot log (ts ++ t ∷ []) ≡ heard_of m node boot log ts ++ handed_out m node boot (log ++ entries_in ts) t.applied
heard_more m node boot log [] t =
    append-nil (handed_out m node boot log t.applied) ∙ ap (λ es. handed_out m node boot es t.applied) (sym (append-nil log))
heard_more m node boot log (s ∷ ss) t =
    ap (λ ys. handed_out m node boot log s.applied ++ ys) (heard_more m node boot (log ++ s.applied) ss t)
    ∙ (sym (append_assoc (handed_out m node boot log s.applied) (heard_of m node boot (log ++ s.applied) ss)
    (handed_out m node boot ((log ++ s.applied) ++ entries_in ss) t.applied))
    ∙ ap (λ es. (handed_out m node boot log s.applied ++ heard_of m node boot (log ++ s.applied) ss) ++ handed_out m node boot es t.applied)
    (append_assoc log s.applied (entries_in ss)))

-- packets that are filed after others
pub files_more : {B : Type 0} (ps qs : List (Packet B)) (old mid new : Waiting B) → mid.me ≡ old.me → mid.members ≡ old.members
    → WaitBehind ps old mid → WaitBehind qs mid new → WaitBehind (ps ++ qs) old new
files_more ps qs old mid new me members first second k peer =
    let there : IsPeer mid.me mid.members k = subst (λ (z : ℕ × ℕ). IsPeer z.0 z.1 k) (λ i. (sym me i, sym members i)) peer in
    second k there
    ∙ (ap (λ l. keep_last most_waiting (l ++ to k qs)) (first k peer)
    ∙ (keep_last_again most_waiting (waiting k old ++ to k ps) (to k qs)
    ∙ ap (keep_last most_waiting) (append_assoc (waiting k old) (to k ps) (to k qs)
    ∙ ap (λ l. waiting k old ++ l) (sym (filter-append (λ p. p.addressee == k) ps qs)))))

module _ {B S Y M K : Type 0} (steps : Steps B S Y) (content : M → S) (boot : ℕ) (ts : List (Tried B)) (t : Tried B)
    (old mid new : Parted B M K) (me : mid.waiting.me ≡ old.waiting.me) (members : mid.waiting.members ≡ old.waiting.members)
    (waits : WaitBehind t.packets mid.waiting new.waiting) where
  waits_more : WaitBehind (packets_in ts) old.waiting mid.waiting → WaitBehind (packets_in (ts ++ t ∷ [])) old.waiting new.waiting
  waits_more h =
      subst (λ ps. WaitBehind ps old.waiting new.waiting) (sym (packets_more ts t))
      (files_more (packets_in ts) t.packets old.waiting mid.waiting new.waiting me members h waits)

  -- the machine follows what it applies
  pub follows_more : (said more : List Y) → FollowsTried steps content boot ts old mid said
      → Applied steps content mid.waiting.me boot t.applied mid.log new.log more → IsAtEnd new.log
      → FollowsTried steps content boot (ts ++ t ∷ []) old new (said ++ more)
  follows_more said more h a end =
      record {
        waits = waits_more h.waits;
        applied = a.applied ∙ (ap (λ es. es ++ t.applied) h.applied
            ∙ (append_assoc old.log.applied (entries_in ts) t.applied ∙ ap (λ es. old.log.applied ++ es) (sym (entries_more ts t))));
        floor = a.floor ∙ h.floor;
        alive = a.alive;
        end = end;
        says = λ first under l.
            let m : Machine B S Y = machine_from steps first in
            let log_is : under ++ mid.log.applied ≡ (under ++ old.log.applied) ++ entries_in ts =
            ap (λ es. under ++ es) h.applied ∙ sym (append_assoc under old.log.applied (entries_in ts)) in
            ap (λ ys. ys ++ more) (h.says first under l)
            ∙ (ap (λ ys. heard_of m old.waiting.me boot (under ++ old.log.applied) ts ++ ys)
            (a.says first under (h.follows first under l)
            ∙ (ap (λ k. handed_out m k boot (under ++ mid.log.applied) t.applied) me
            ∙ ap (λ es. handed_out m old.waiting.me boot es t.applied) log_is))
            ∙ sym (heard_more m old.waiting.me boot (under ++ old.log.applied) ts t));
        follows = λ first under l. a.follows first under (h.follows first under l);
      }

  prefix_more : {A : Type 0} (xs ys zs all : List A) → IsPrefixOf xs ys → all ≡ ys ++ zs → IsPrefixOf xs all
  prefix_more xs ys zs all p is =
      (p.0 ++ zs, sym (append_assoc xs p.0 zs) ∙ (ap (λ l. l ++ zs) p.1 ∙ sym is))

  entries_all : old.log.applied ++ entries_in (ts ++ t ∷ []) ≡ (old.log.applied ++ entries_in ts) ++ t.applied
  entries_all =
      ap (λ es. old.log.applied ++ es) (entries_more ts t) ∙ sym (append_assoc old.log.applied (entries_in ts) t.applied)

  -- memory ran out before it, and nothing more is followed or said
  pub stopped_more : (said : List Y) → StopsTried steps content boot ts old mid said → new.log ≡ mid.log
      → StopsTried steps content boot (ts ++ t ∷ []) old new said
  stopped_more said h still =
      record {
        waits = waits_more h.waits;
        front = subst (λ (l : LogState B M). IsPrefixOf l.applied (old.log.applied ++ entries_in (ts ++ t ∷ []))) (sym still)
            (prefix_more mid.log.applied (old.log.applied ++ entries_in ts) t.applied (old.log.applied ++ entries_in (ts ++ t ∷ [])) h.front
            entries_all);
        says = λ first under l.
            prefix_more said (heard_of (machine_from steps first) old.waiting.me boot (under ++ old.log.applied) ts)
            (handed_out (machine_from steps first) old.waiting.me boot ((under ++ old.log.applied) ++ entries_in ts) t.applied)
            (heard_of (machine_from steps first) old.waiting.me boot (under ++ old.log.applied) (ts ++ t ∷ [])) (h.says first under l)
            (heard_more (machine_from steps first) old.waiting.me boot (under ++ old.log.applied) ts t);
      }

  -- memory runs out for it: the machine followed some of it, or for what it said
  pub stops_more : (said : List Y) → FollowsTried steps content boot ts old mid said
      → IsPrefixOf new.log.applied (mid.log.applied ++ t.applied) → StopsTried steps content boot (ts ++ t ∷ []) old new said
  stops_more said h front =
      record {
        waits = waits_more h.waits;
        front = (
          front.0,
          front.1 ∙ (ap (λ es. es ++ t.applied) h.applied ∙ sym entries_all),
        );
        says = λ first under l. (
          handed_out (machine_from steps first) old.waiting.me boot ((under ++ old.log.applied) ++ entries_in ts) t.applied,
          ap (λ ys. ys ++ handed_out (machine_from steps first) old.waiting.me boot ((under ++ old.log.applied) ++ entries_in ts) t.applied)
              (h.says first under l)
              ∙ sym (heard_more (machine_from steps first) old.waiting.me boot (under ++ old.log.applied) ts t),
        );
      }

-- its packets are put first, and then the machine goes on
module _ {B S Y M K : Type 0} (steps : Steps B S Y) (content : M → S) (boot : ℕ) (ts : List (Tried B)) (t : Tried B)
    (old mid filed : Parted B M K) (me : mid.waiting.me ≡ old.waiting.me) (members : mid.waiting.members ≡ old.waiting.members)
    (waits : WaitBehind t.packets mid.waiting filed.waiting) (filing : OnlyWaiting mid filed) where
  -- memory ran out before it
  pub ended_before : {E : Type 0} (so_far : Result (Unit {0}) E) (fault : E) (was is now : List Y) → so_far ≡ Err fault
      → TakesAll steps content boot ts old mid was is so_far → now ≡ is
      → (said : List Y) × (now ≡ was ++ said) × StopsTried steps content boot (ts ++ t ∷ []) old filed said
  ended_before (Ok u) fault was is now e h says = cc
  ended_before (Err f) fault was is now e h says =
      (h.0, says ∙ h.1, stopped_more steps content boot ts t old mid filed me members waits h.0 h.2 filing.log)

  module _ (new : Parted B M K) (following : OnlyLog filed new) where
    waits_still_so : WaitBehind t.packets mid.waiting new.waiting
    waits_still_so = subst (λ (w : Waiting B). WaitBehind t.packets mid.waiting w) (sym following.waiting) waits

    pub goes_on : {E : Type 0} (so_far : Result (Unit {0}) E) (done : Unit {0}) (was is now more : List Y) → so_far ≡ Ok done
        → TakesAll steps content boot ts old mid was is so_far
        → Applied steps content filed.waiting.me boot t.applied filed.log new.log more → IsAtEnd new.log → now ≡ is ++ more
        → (said : List Y) × (now ≡ was ++ said) × FollowsTried steps content boot (ts ++ t ∷ []) old new said
    goes_on (Ok u) done was is now more e h a end says =
        let so : Applied steps content mid.waiting.me boot t.applied mid.log new.log more =
        subst (λ (w : ℕ × LogState B M). Applied steps content w.0 boot t.applied w.1 new.log more) (λ i. (filing.me i, filing.log i)) a in (
          h.0 ++ more,
          says ∙ (ap (λ ys. ys ++ more) h.1 ∙ append_assoc was h.0 more),
          follows_more steps content boot ts t old mid new me members waits_still_so h.0 more h.2 so end,
        )
    goes_on (Err f) done was is now more e h a end says = cc

    -- memory runs out for it
    pub ends_here : {E : Type 0} (so_far : Result (Unit {0}) E) (done : Unit {0}) (was is now : List Y) → so_far ≡ Ok done
        → TakesAll steps content boot ts old mid was is so_far → IsPrefixOf new.log.applied (filed.log.applied ++ t.applied) → now ≡ is
        → (said : List Y) × (now ≡ was ++ said) × StopsTried steps content boot (ts ++ t ∷ []) old new said
    ends_here (Ok u) done was is now e h front says =
        let so : IsPrefixOf new.log.applied (mid.log.applied ++ t.applied) =
        subst (λ (l : LogState B M). IsPrefixOf new.log.applied (l.applied ++ t.applied)) filing.log front in (
          h.0,
          says ∙ h.1,
          stops_more steps content boot ts t old mid new me members waits_still_so h.0 h.2 so,
        )
    ends_here (Err f) done was is now e h front says = cc

-- what is not taken over stays
pub record StaysElse {B M K : Type 0} (old new : Parted B M K) : Type 0 where
  pub node : new.node ≡ old.node
  pub keeper : new.keeper ≡ old.keeper
  pub failed : new.failed ≡ old.failed
  pub spoiled : new.spoiled ≡ old.spoiled
  pub me : new.waiting.me ≡ old.waiting.me
  pub members : new.waiting.members ≡ old.waiting.members

pub stays_else_on : {B M K : Type 0} (old mid new : Parted B M K) → StaysElse old mid → StaysElse mid new → StaysElse old new
stays_else_on old mid new a b =
    record {
      node = b.node ∙ a.node;
      keeper = b.keeper ∙ a.keeper;
      failed = b.failed ∙ a.failed;
      spoiled = b.spoiled ∙ a.spoiled;
      me = b.me ∙ a.me;
      members = b.members ∙ a.members;
    }

-- no event yet
pub none_taken : {B S Y M K : Type 0} (steps : Steps B S Y) (content : M → S) (boot : ℕ) (p : Parted B M K) → HasLimits p.waiting
    → p.log.failed ≡ false → IsAtEnd p.log → FollowsTried steps content boot [] p p []
none_taken steps content boot p limits alive end =
    record {
      waits = waits_still p.waiting limits;
      applied = sym (append-nil p.log.applied);
      floor = refl;
      alive = alive;
      end = end;
      says = λ first under l. refl;
      follows = λ first under l. l;
    }

-- all of them
pub all_taken : {B S Y M K E : Type 0} (steps : Steps B S Y) (content : M → S) (b boot : ℕ) (ts all : List (Tried B)) (old new : Parted B M K)
    (was now : List Y) (done : Result (Unit {0}) E) → b ≡ boot → ts ≡ all → TakesAll steps content b ts old new was now done
    → TakesAll steps content boot all old new was now done
all_taken {B} steps content b boot ts all old new was now done e is h =
    subst (λ (z : ℕ × List (Tried B)). TakesAll steps content z.0 z.1 old new was now done) (λ i. (e i, is i)) h
