-- The log from which a machine goes on stands where its node does.
use Rattle.std.proofs.Common.{◌≡◌, ◌<◌, ◌+◌, ◌^◌, ℕ, Bool, true, false, eqb, leb, refl, sym, ap, ◌∙◌, subst, arith, lit<, length}
use Rattle.std.proofs.Common.{List, [], ◌++◌, Option, Some, None, Ok, Err}
use Rattle.std.proofs.lemmas.Bool.{and_parts, and_from, cond-true, eqb-true, le-leb, lt-ltb}
use Rattle.std.specs.Int.{bytes_high_first}
use Rattle.std.specs.Option.{option_or}
use Rattle.std.specs.Prelude.{IsSomeAnd, drop, nat_lt, option_map}
use Rattle.command_codec.specs.Coder.{and_then}
use Rattle.command_codec.specs.Number.{Reading, number_octets, number_reading, is_within}
use Rattle.command_codec.proofs.Numbers.{number_again}
use Rattle.paxos_packets.specs.Snapshot.{Snapshot, floor_in, Begins}
use Rattle.paxos_packets.specs.declared.rows.Rows.{Rows}
use Rattle.paxos_planning.specs.Node.{NodeState, log_length}
use Rattle.paxos_node.specs.Adopting.{rested}
use Rattle.paxos_node.specs.Snapshots.{may_cut}
use Rattle.paxos_node.specs.declared.outcome.Outcome.{Outcome}
use Rattle.replica_machine.specs.declared.roll.Standing.{Standing}
use Rattle.replica_machine.specs.Log.{LogState, length_in, cut_log}
use Rattle.replica_machine.specs.Snapshot.{Kept, floor_form, seven_reading, head_reading, of_head, loaded_log, IsLoaded}
use Rattle.actor_parts.specs.Parts.{Parted, IsServing}
use Rattle.actor_parts.specs.Snapshots.{IsMadeOf, base_log, IsBase}

-- a log that is made of octets which begin with a floor has that floor

number_here : (n : ℕ) (rest : List ℕ) → is_within floor_form n ≡ true → number_reading floor_form (bytes_high_first 8 n ++ rest) ≡ Ok (n, rest)
unfolding number_octets
number_here n rest h = number_again floor_form n rest (lit< tt) h

then_ok : {A C : Type 0} (r : Reading A) (x : A) (rest : List ℕ) (f : A → List ℕ → Reading C) → r ≡ Ok (x, rest) → and_then r f ≡ f x rest
then_ok r x rest f e = ap (λ r. and_then r f) e

module _ {B M S : Type 0} (content : M → S) (loaded : List ℕ → Option S) (floor : ℕ) (log : LogState B M) where
  by_content : (standings : List Standing) (made : Option S)
      → IsSomeAnd (option_map (λ c. record { floor = floor; standings = standings; content = c }) made) (λ kept. IsLoaded content kept log)
      → log.floor ≡ floor
  by_content standings None h = absurd h
  by_content standings (Some c) h = h.floor

  by_seven : (r : Reading (List Standing))
      → IsSomeAnd (of_head loaded (and_then r (λ standings rest. Ok (record { floor = floor; standings = standings }, rest))))
      (λ kept. IsLoaded content kept log)
      → log.floor ≡ floor
  by_seven (Ok read) h = by_content read.0 (loaded read.1) h
  by_seven (Err fault) h = absurd h

  pub made_floor : (octets : List ℕ) → Begins floor octets → floor < 2 ^ 40
      → IsSomeAnd (loaded_log loaded octets) (λ kept. IsLoaded content kept log) → log.floor ≡ floor
  made_floor octets begins within h =
      by_seven (seven_reading (drop 8 octets)) (subst (λ r. IsSomeAnd (of_head loaded r) (λ kept. IsLoaded content kept log)) reads h)
    where
      reads : head_reading octets
          ≡ and_then (seven_reading (drop 8 octets)) (λ standings rest. Ok (record { floor = floor; standings = standings }, rest))
      reads =
          ap head_reading begins
          ∙ then_ok (number_reading floor_form (bytes_high_first 8 floor ++ drop 8 octets)) floor (drop 8 octets) _
          (number_here floor (drop 8 octets)
          (and_from (leb 0 floor) (leb floor 1099511627775) (le-leb 0 floor (omega arith)) (le-leb floor 1099511627775 (omega (arith, within)))))

-- a node that rests on a snapshot has applied nothing above it
rests_on_none : {B : Type 0} (over : Bool) (s : Snapshot) (x : NodeState B) → (rested over (Some s) x).applied ≡ []
rests_on_none true s x = refl
rests_on_none false s x = refl

module _ {B M : Type 0} where
  pub cut_short : (log : LogState B M) → length_in log < 2 ^ 40 → cut_log log ≡ record log { floor = length_in log; applied = [] }
  cut_short log within = cond-true (nat_lt (length_in log) (2 ^ 40)) _ log (lt-ltb (length_in log) (2 ^ 40) within)

-- the log of an actor that goes on is as long as its node's
pub log_is_long : {B M K : Type 0} (holds : K → Rows B → Type 0) (is_failed : K → Bool) (a : Parted B M K) → IsServing holds is_failed a
    → length_in a.log ≡ log_length a.node.state
log_is_long holds is_failed a serving = λ i. serving.floor i + length (serving.followed i)

module _ {B M S K : Type 0} (content : M → S) (loaded : List ℕ → Option S) (holds : K → Rows B → Type 0) (is_failed : K → Bool)
    (a : Parted B M K) (o : Outcome B) (serving : IsServing holds is_failed a) where
  -- it stays, if no snapshot is committed
  base_still : o.change.snapshot ≡ None → IsBase o a.node.state (base_log None o.change.snapshot a.log)
  base_still e =
      record {
        applied = ap (λ c. (base_log None c a.log).applied) e
            ∙ (serving.followed ∙ ap (λ c. (rested o.moves.over c a.node.state).applied) (sym e));
        floor = ap (λ c. (base_log None c a.log).floor) e
            ∙ (serving.floor ∙ ap (λ c. floor_in (option_or c a.node.state.rows.snapshot)) (sym e));
        alive = ap (λ c. (base_log None c a.log).failed) e ∙ serving.alive;
        ahead = ap (λ c. (base_log None c a.log).ahead) e ∙ serving.ahead;
      }

  loaded_parts : (made : LogState B M) (s : Snapshot)
      → IsSomeAnd (loaded_log loaded s.octets) (λ kept. IsLoaded content kept made)
      → (made.applied ≡ []) × (made.failed ≡ false) × (made.ahead ≡ [])
  loaded_parts made s h = by (loaded_log loaded s.octets) h
    where
      by : (r : Option (Kept S)) → IsSomeAnd r (λ kept. IsLoaded content kept made)
          → (made.applied ≡ []) × (made.failed ≡ false) × (made.ahead ≡ [])
      by None h = absurd h
      by (Some kept) h = (h.applied, h.alive, h.ahead)

  -- it is made of the snapshot that is committed
  base_taken : (made : LogState B M) (s : Snapshot) → o.change.snapshot ≡ Some s → IsMadeOf content loaded (Some s) (Some made)
      → IsBase o a.node.state made
  base_taken made s e h =
      let p = loaded_parts made s h.0 in
      record {
        applied = p.0 ∙ (sym (rests_on_none o.moves.over s a.node.state)
            ∙ ap (λ c. (rested o.moves.over c a.node.state).applied) (sym e));
        floor = h.1 ∙ ap (λ c. floor_in (option_or c a.node.state.rows.snapshot)) (sym e);
        alive = p.1;
        ahead = p.2;
      }

  pub base_made : (made : Option (LogState B M)) → IsMadeOf content loaded o.change.snapshot made
      → IsBase o a.node.state (base_log made o.change.snapshot a.log)
  base_made made h = by o.change.snapshot refl made h
    where
      by : (c : Option Snapshot) → o.change.snapshot ≡ c → (made : Option (LogState B M)) → IsMadeOf content loaded c made
          → IsBase o a.node.state (base_log made o.change.snapshot a.log)
      by None e None h = base_still e
      by None e (Some log) h = absurd h
      by (Some s) e None h = absurd h
      by (Some s) e (Some log) h = base_taken log s e h

  -- it is cut, if the node rests on a snapshot of its own log
  pub base_cut : (s : Snapshot) → o.change.snapshot ≡ Some s → may_cut (Some s) a.node.state ≡ true → log_length a.node.state < 2 ^ 40
      → IsBase o a.node.state (base_log None o.change.snapshot a.log)
  base_cut s e may within =
      let p = and_parts (nat_lt 0 (length a.node.state.applied)) _ may in
      let floor : s.floor ≡ log_length a.node.state =
      eqb-true s.floor (log_length a.node.state) (and_parts (eqb s.floor (log_length a.node.state)) _ p.1).0 in
      let short : cut_log a.log ≡ record a.log { floor = length_in a.log; applied = [] } =
      cut_short a.log (subst (λ n. n < 2 ^ 40) (sym (log_is_long holds is_failed a serving)) within) in
      record {
        applied = ap (λ c. (base_log None c a.log).applied) e
            ∙ (ap (λ l. l.applied) short
            ∙ (sym (rests_on_none o.moves.over s a.node.state) ∙ ap (λ c. (rested o.moves.over c a.node.state).applied) (sym e)));
        floor = ap (λ c. (base_log None c a.log).floor) e
            ∙ (ap (λ l. l.floor) short
            ∙ (log_is_long holds is_failed a serving ∙ (sym floor ∙ ap (λ c. floor_in (option_or c a.node.state.rows.snapshot)) (sym e))));
        alive = ap (λ c. (base_log None c a.log).failed) e ∙ (ap (λ l. l.failed) short ∙ serving.alive);
        ahead = ap (λ c. (base_log None c a.log).ahead) e ∙ (ap (λ l. l.ahead) short ∙ serving.ahead);
      }
