-- Which rows a load gives, and which fault it reports.
use Rattle.std.proofs.Common.{◌≡◌, ◌≢◌, ◌⊎◌, inl, inr, ⊎_elim, ℕ, Bool, true, false, cond, List, [], map, Option, Some, None, Result, Ok, Err, refl, ap, sym, subst, ◌∙◌}
use Rattle.std.specs.Prelude.{IsPermutation, IfErr, option_map, option_and_then}
use Rattle.std.proofs.lemmas.List.Sorted.{IsPermutation-refl}
use Rattle.sqlite_value.specs.Order.{Row}
use Rattle.sqlite_trees.specs.Tree.{Trees}
use Rattle.sqlite.specs.Effect.{Database}
use Rattle.paxos_packets.specs.Snapshot.{floor_in}
use Rattle.paxos_packets.specs.declared.ballot.Ballot.{Ballot}
use Rattle.paxos_packets.specs.declared.vote.Vote.{Vote}
use Rattle.paxos_packets.specs.declared.rows.Rows.{Rows}
use Rattle.command_codec.specs.Number.{Reading}
use Rattle.store_keeper.specs.declared.fault.KeeperFault.{KeeperFault}
use Rattle.store_keeper.specs.declared.fault.KeeperFault.TheVariants.{Store, Damaged, Version, Memory, Failed, Boots}
use Rattle.acceptor_store.specs.Tables.{store_schema, meta_columns, vote_columns, snapshot_columns}
use Rattle.store_rows.specs.Rows.{votes_after, is_other_version, numbers_in, snapshot_in, TableRows, rows_of, rows_with, numbers_with, or_damaged}
use Rattle.store_rows.specs.Faults.{LiesBelow}
use Rattle.acceptor_store.specs.Statements.{shown_in, AreShown}
use Rattle.acceptor_store.specs.Once.{votes_once}
use Rattle.acceptor_store.specs.Answers.{stored_in, HasOtherVersion, Tells}
use Rattle.acceptor_store.proofs.Meaning.{one_same, votes_found, votes_loaded}
use Rattle.acceptor_store.proofs.Refusing.{same_fault}

-- rows are read alike in any order

numbers_same : (version floor : ℕ) (tree rows : List Row) → IsPermutation (map meta_columns tree) rows
    → numbers_in version floor rows ≡ numbers_in version floor (map meta_columns tree)
numbers_same version floor = one_same (numbers_in version floor) None refl (λ _ _ _. refl) meta_columns

pub versions_same : (tree rows : List Row) → IsPermutation (map meta_columns tree) rows → is_other_version rows ≡ is_other_version (map meta_columns tree)
versions_same = one_same is_other_version false refl (λ _ _ _. refl) meta_columns

snapshots_same : (tree rows : List Row) → IsPermutation (map snapshot_columns tree) rows → snapshot_in rows ≡ snapshot_in (map snapshot_columns tree)
snapshots_same = one_same snapshot_in None refl (λ _ _ _. refl) snapshot_columns

-- another version before any damage
judged : {A : Type 0} (b : Bool) (o : Option A) (e : KeeperFault) → cond b (Err Version) (or_damaged o) ≡ Err e
    → ((b ≡ true) × (e ≡ Version)) ⊎ ((b ≡ false) × (e ≡ Damaged))
judged true o e h = inl (refl, sym (same_fault h))
judged false None e h = inr (refl, sym (same_fault h))
judged false (Some x) e h = absurd cc

module _ {B : Type 0} (reading : List ℕ → Reading B) where
  votes_same : (promised : Option Ballot) (floor : ℕ) (tree rows : List Row) → IsPermutation (map vote_columns tree) rows
      → votes_after reading promised floor [] rows ≡ votes_after reading promised floor [] (map vote_columns tree)
  votes_same promised floor tree rows same = go (votes_after reading promised floor [] rows) (votes_after reading promised floor [] (map vote_columns tree)) refl refl
    where
      self : IsPermutation (map vote_columns tree) (map vote_columns tree)
      self = IsPermutation-refl (map vote_columns tree)

      go : (a b : Option (List (Vote B))) → votes_after reading promised floor [] rows ≡ a → votes_after reading promised floor [] (map vote_columns tree) ≡ b → a ≡ b
      go None None p q = refl
      go (Some x) (Some y) p q =
          ap Some (votes_once reading promised promised floor floor tree y x (votes_found reading promised floor tree (map vote_columns tree) y self q)
          (votes_found reading promised floor tree rows x same p))
      go (Some x) None p q =
          let k = votes_loaded reading promised floor tree (map vote_columns tree) x self (votes_found reading promised floor tree rows x same p) in absurd cc
      go None (Some y) p q =
          let k = votes_loaded reading promised floor tree rows y same (votes_found reading promised floor tree (map vote_columns tree) y self q) in absurd cc

  pub read_same : (trees : Trees) (shown : TableRows) → AreShown trees shown → rows_of reading shown ≡ stored_in reading trees
  read_same trees shown are =
      λ i. cond (versions_same (trees 0) shown.metas are.metas i) (Err Version)
      (or_damaged (option_and_then (beside i) (snapshots_same (trees 2) shown.snapshots are.snapshots i)))
    where
      beside : numbers_with reading shown ≡ numbers_with reading (shown_in trees)
      beside = λ i snapshot. option_and_then (λ numbers. option_map (rows_with numbers snapshot)
          (votes_same numbers.promised numbers.floor (trees 1) shown.votes are.votes i)) (numbers_same 2 (floor_in snapshot) (trees 0) shown.metas are.metas i)

  -- the connection
  pub tells_conn : (db : Database) (e : KeeperFault) → (e ≡ Memory) ⊎ (e ≡ Store) → Tells reading db e
  tells_conn db e (inl m) = subst (Tells reading db) (sym m) tt
  tells_conn db e (inr s) = subst (Tells reading db) (sym s) tt

  -- what is read of the tables of this version
  damage_is : (db : Database) (e : KeeperFault) → db.schema ≡ store_schema → stored_in reading db.trees ≡ Err e → Tells reading db e
  damage_is db e is h =
      ⊎_elim
      (λ v. subst (Tells reading db) (sym v.1) (inl is, v.0))
      (λ d. subst (Tells reading db) (sym d.1) (λ other. absurd (let clash : true ≡ false = sym other.1 ∙ d.0 in cc), λ _. h ∙ ap Err d.1))
      (judged (is_other_version (map meta_columns (db.trees 0))) _ e h)

  tells_fault : (db : Database) (e : KeeperFault) → db.schema ≡ store_schema → (e ≢ Memory → stored_in reading db.trees ≡ Err e) → LiesBelow e → Tells reading db e
  tells_fault db Version is h below = damage_is db Version is (h (λ m. absurd cc))
  tells_fault db Damaged is h below = damage_is db Damaged is (h (λ m. absurd cc))
  tells_fault db Boots is h below = absurd (below.1 refl)
  tells_fault db Store is h below = tt
  tells_fault db Memory is h below = tt
  tells_fault db Failed is h below = tt

  -- the rows
  pub tells_rows : (db : Database) (shown : TableRows) (r : Result (Rows B) KeeperFault) → db.schema ≡ store_schema → AreShown db.trees shown
      → IfErr r (λ e. e ≢ Memory → rows_of reading shown ≡ Err e) → IfErr r LiesBelow → IfErr r (Tells reading db)
  tells_rows db shown (Ok rows) is are h below = tt
  tells_rows db shown (Err e) is are h below = tells_fault db e is (λ other. sym (read_same db.trees shown are) ∙ h other) below

  -- tables that are not those of this version
  pub tells_other : (db : Database) (e : KeeperFault) → (db.schema ≡ store_schema → ⊥) → (e ≡ Version → HasOtherVersion db) → (e ≡ Damaged → ¬ HasOtherVersion db) → LiesBelow e
      → Tells reading db e
  tells_other db Version differs other none below = other refl
  tells_other db Damaged differs other none below = (none refl, λ is. absurd (differs is))
  tells_other db Boots differs other none below = absurd (below.1 refl)
  tells_other db Store differs other none below = tt
  tells_other db Memory differs other none below = tt
  tells_other db Failed differs other none below = tt

  -- a refusal that is counted
  pub tells_told : (db : Database) (fault e : KeeperFault) → Tells reading db fault → (e ≡ fault) ⊎ (e ≡ Failed) → Tells reading db e
  tells_told db fault e t (inl same) = subst (Tells reading db) (sym same) t
  tells_told db fault e t (inr failed) = subst (Tells reading db) (sym failed) tt
