use Rattle.std.proofs.Common.{◌≡◌, ◌≢◌, ◌∙◌, ℕ, List, [], ◌∷◌, Option, None, Some, Err, sym, ap, subst}
use Rattle.std.specs.Prelude.{IfErr, option_and_then}
use Rattle.std.proofs.lemmas.List.{nil_from_length}
use Rattle.std.proofs.lemmas.Result.{err_from_is_err_and}
use Rattle.std.specs.Vec.Iter.{into_iter_items}
use Rattle.sqlite_value.specs.Order.{Row}
use Rattle.paxos_packets.specs.declared.ballot.Ballot.{Ballot}
use Rattle.paxos_packets.specs.declared.vote.Vote.{Vote}
use Rattle.command_codec.specs.Number.{Reading}
use Rattle.store_keeper.specs.declared.fault.KeeperFault.{KeeperFault}
use Rattle.store_keeper.specs.declared.fault.KeeperFault.TheVariants.{Damaged, Memory}
use Rattle.store_rows.specs.Rows.{vote_of, with_row, votes_after}
use Rattle.store_rows.proofs.rows.votes_in.Goals as goal

module _ {B : Type 0} (reading : List ℕ → Reading B) (promised : Option Ballot) (floor : ℕ) (votes : List (Vote B)) (left : List Row) (row : Row) (rows items : List Row)
    (split : left ≡ row ∷ rows) (was : votes_after reading promised floor votes left ≡ votes_after reading promised floor [] items) where
  -- a row that is put, and those after it
  behind : (more : List (Vote B)) → option_and_then (with_row promised floor votes) (vote_of reading row) ≡ Some more
      → votes_after reading promised floor more rows ≡ votes_after reading promised floor [] items
  behind more put =
      ap (option_and_then (λ vs. votes_after reading promised floor vs rows)) (sym put) ∙ ap (votes_after reading promised floor votes) (sym split) ∙ was

  -- a row that is refused
  refused : (fault : KeeperFault)
      → (fault ≢ Memory → (fault ≡ Damaged) × (option_and_then (with_row promised floor votes) (vote_of reading row) ≡ None))
      → fault ≢ Memory → (fault ≡ Damaged) × (votes_after reading promised floor [] items ≡ None)
  refused fault told other =
      let it = told other in
      (it.0, sym was ∙ ap (votes_after reading promised floor votes) split ∙ ap (option_and_then (λ vs. votes_after reading promised floor vs rows)) it.1)

pub loop-row-preserved : goal.loop-row-preserved
loop-row-preserved g c =
    behind g.C.Coder.reading c.args.promised.now c.args.floor c.loop-row.votes (into_iter_items c.loop-row.row-iterator) c.in-Some.row (into_iter_items c.next.new.self)
    c.args.rows.items c.in-Some.ensures.steps.0 c.loop-row.invariant c.put_row.new.votes c.in_ok-put_row.ensures.put

pub returns-in_err-put_row-clause-fault : goal.returns-in_err-put_row-clause-fault
returns-in_err-put_row-clause-fault g c =
    let told = err_from_is_err_and c.from_residual.result c.from_residual.ensures.1 in
    let given : c.from_residual.result ≡ Err c.in_err-put_row.field-0.0 = told.1 ∙ ap Err told.2 in
    subst (λ r. IfErr r (λ fault. fault ≢ Memory → (fault ≡ Damaged) × (votes_after g.C.Coder.reading c.args.promised.now c.args.floor [] c.args.rows.items ≡ None))) (sym given)
    (refused g.C.Coder.reading c.args.promised.now c.args.floor c.loop-row.votes (into_iter_items c.loop-row.row-iterator) c.in-Some.row (into_iter_items c.next.new.self)
    c.args.rows.items c.in-Some.ensures.steps.0 c.loop-row.invariant c.in_err-put_row.field-0.0 c.in_err-put_row.ensures.fault)

pub returns-clause-votes : goal.returns-clause-votes
returns-clause-votes g c =
    let none : into_iter_items c.loop-row.row-iterator ≡ [] =
    nil_from_length (into_iter_items c.loop-row.row-iterator) (sym c.loop-row.row-iterator.rest.ok.0 ∙ c.in-None.ensures.steps.0) in
    sym c.loop-row.invariant ∙ ap (votes_after g.C.Coder.reading c.args.promised.now c.args.floor c.loop-row.votes) none
