-- What a machine says at entries, slot after slot.
use Rattle.std.proofs.Common.{◌≡◌, ℕ, Bool, List, ◌∷◌, ◌++◌, map, sym, ap, ◌∙◌}
use Rattle.std.specs.Prelude.{filter}
use Rattle.std.specs.List.{flat_map}
use Rattle.std.specs.declared.vec.Vec.{Vec}
use Rattle.std.specs.declared.alloc.Global.{Global}
use Rattle.std.proofs.lemmas.List.{append_assoc}
use Rattle.std.proofs.lemmas.List.Elements.{filter-append}
use Rattle.paxos_packets.specs.declared.entry.Entry.{Entry}
use Rattle.paxos_packets.specs.declared.transport.Transport.{Transport}
use Rattle.replica_machine.specs.Replay.{Machine, sayings_by_slot}
use Rattle.replica_machine.proofs.Replaying.{sayings_by_slots}
use Rattle.actor_parts.specs.Handing.{is_of, handed_out}

module _ {Y : Type 0} (to : Y → Transport) (node boot : ℕ) where
  -- those of what is said in these slots that are for the transports of the node in this boot
  abbrev pub own_in : List (Vec Y Global) → List Y
  own_in said = filter (λ y. is_of node boot (to y)) (flat_map (λ ys. ys) (map (λ more. more.items) said))

  -- the sayings of one slot more are kept
  pub own_more : (kept told : List Y) (rest more : List (Vec Y Global)) (v : Vec Y Global) (all : List Y)
      → told ≡ kept ++ filter (λ y. is_of node boot (to y)) v.items → rest ≡ v ∷ more → kept ++ own_in rest ≡ all → told ++ own_in more ≡ all
  own_more kept told rest more v all told_is first h =
      let own : Y → Bool = λ y. is_of node boot (to y) in
      ap (λ l. l ++ own_in more) told_is
      ∙ append_assoc kept (filter own v.items) (own_in more)
      ∙ ap (λ l. kept ++ l) (sym (filter-append own v.items (flat_map (λ ys. ys) (map (λ w. w.items) more))))
      ∙ ap (λ l. kept ++ own_in l) (sym first)
      ∙ h

-- what is kept of all sayings is what is handed out
pub own_is : {B S Y : Type 0} (m : Machine B S Y) (node boot : ℕ) (log entries : List (Entry B)) (said : List (List Y)) (says : List Y)
    → says ≡ filter (λ y. is_of node boot (m.to y)) (flat_map (λ ys. ys) said) → said ≡ sayings_by_slot m log entries
    → says ≡ handed_out m node boot log entries
own_is {Y = Y} m node boot log entries said says kept by_slot =
    let own : Y → Bool = λ y. is_of node boot (m.to y) in
    kept ∙ ap (λ l. filter own (flat_map (λ ys. ys) l)) by_slot ∙ ap (filter own) (sayings_by_slots m log entries)
