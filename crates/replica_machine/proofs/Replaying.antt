-- A machine that has followed a log follows a longer one from there.
use Rattle.std.proofs.Common.{◌≡◌, refl, sym, ap, ◌∙◌, cond, List, [], ◌∷◌, ◌++◌}
use Rattle.std.specs.List.{filter_map, fold}
use Rattle.std.proofs.lemmas.List.{append_assoc, append-nil}
use Rattle.std.proofs.lemmas.List.Elements.{filter_map-append}
use Rattle.std.proofs.lemmas.List.Sums.{fold-append}
use Rattle.paxos_packets.specs.declared.entry.Entry.{Entry}
use Rattle.replica_machine.specs.declared.input.Input.{Input}
use Rattle.replica_machine.specs.Effects.{effective}
use Rattle.replica_machine.specs.Roll.{takes_effect, effective_behind}
use Rattle.replica_machine.specs.Replay.{Machine, input_of, inputs, inputs_behind, sayings_from, sayings_behind, state}
use Rattle.replica_machine.specs.Laws.{StateGoesOn, SayingsGoOn, SayingsGoBySlot}
use Rattle.replica_machine.proofs.Places.{effective_append}

pub inputs_append : {B : Type 0} (log es : List (Entry B)) → inputs (log ++ es) ≡ inputs log ++ inputs_behind log es
inputs_append log es =
    ap (λ l. filter_map input_of l) (effective_append log es) ∙ filter_map-append input_of (effective log) (effective_behind log es)

pub sayings_from_append : {B S Y : Type 0} (m : Machine B S Y) (s : S) (is js : List (Input B))
    → sayings_from m s (is ++ js) ≡ sayings_from m s is ++ sayings_from m (fold m.next s is) js
sayings_from_append m s [] js = refl
sayings_from_append m s (i ∷ is) js =
    ap (λ l. m.says s i ++ l) (sayings_from_append m (m.next s i) is js)
    ∙ sym (append_assoc (m.says s i) (sayings_from m (m.next s i) is) (sayings_from m (fold m.next (m.next s i) is) js))

pub state_append : {B S Y : Type 0} → StateGoesOn B S Y
state_append m log es =
    ap (λ l. fold m.next m.first l) (inputs_append log es) ∙ fold-append m.next m.first (inputs log) (inputs_behind log es)

pub sayings_append : {B S Y : Type 0} → SayingsGoOn B S Y
sayings_append m log es =
    ap (λ l. sayings_from m m.first l) (inputs_append log es) ∙ sayings_from_append m m.first (inputs log) (inputs_behind log es)

inputs_first : {B : Type 0} (log : List (Entry B)) (e : Entry B) (es : List (Entry B))
    → inputs_behind log (e ∷ es) ≡ inputs_behind log (e ∷ []) ++ inputs_behind (log ++ e ∷ []) es
inputs_first log e es =
    let first = cond (takes_effect log e) (e ∷ []) [] in
    filter_map-append input_of first (effective_behind (log ++ e ∷ []) es)
    ∙ ap (λ l. filter_map input_of l ++ inputs_behind (log ++ e ∷ []) es) (sym (append-nil first))

sayings_first : {B S Y : Type 0} (m : Machine B S Y) (log : List (Entry B)) (e : Entry B) (es : List (Entry B))
    → sayings_behind m log (e ∷ es) ≡ sayings_behind m log (e ∷ []) ++ sayings_behind m (log ++ e ∷ []) es
sayings_first m log e es =
    ap (λ is. sayings_from m (state m log) is) (inputs_first log e es)
    ∙ sayings_from_append m (state m log) (inputs_behind log (e ∷ [])) (inputs_behind (log ++ e ∷ []) es)
    ∙ ap (λ s. sayings_behind m log (e ∷ []) ++ sayings_from m s (inputs_behind (log ++ e ∷ []) es)) (sym (state_append m log (e ∷ [])))

pub sayings_by_slots : {B S Y : Type 0} → SayingsGoBySlot B S Y
sayings_by_slots m log [] = refl
sayings_by_slots m log (e ∷ es) =
    ap (λ l. sayings_behind m log (e ∷ []) ++ l) (sayings_by_slots m (log ++ e ∷ []) es) ∙ sym (sayings_first m log e es)
