-- Which changes a commit refuses.
use Rattle.std.proofs.Common.{◌≡◌, ◌⊎◌, inl, inr, ℕ, List, ◌∷◌, true, false, Option, Some, None, Result, Ok, Err, refl, ap, sym, subst, ◌∙◌}
use Rattle.std.specs.Prelude.{IfErr, OnOk, is_some}
use Rattle.std.proofs.lemmas.List.Sorted.{IsPermutation-refl}
use Rattle.sqlite.specs.Effect.{Database}
use Rattle.paxos_packets.specs.declared.vote.Vote.{Vote}
use Rattle.paxos_packets.specs.declared.rows.Change.{Change}
use Rattle.paxos_packets.specs.declared.rows.Rows.{Rows}
use Rattle.command_codec.specs.Coder.{Puts}
use Rattle.command_codec.specs.Entry.{entry_spelling}
use Rattle.command_codec.specs.Number.{Reading}
use Rattle.store_keeper.specs.declared.fault.KeeperFault.{KeeperFault}
use Rattle.store_keeper.specs.declared.fault.KeeperFault.TheVariants.{Store, Damaged, Version, Memory, Failed, Boots}
use Rattle.store_rows.specs.declared.rows.Numbers.{Numbers}
use Rattle.acceptor_store.specs.Statements.{shown_in}
use Rattle.acceptor_store.specs.Store.{Reads}
use Rattle.store_rows.specs.Changes.{numbers_after}
use Rattle.store_rows.specs.Faults.{LiesBelow}
use Rattle.acceptor_store.specs.Answers.{stored_in, Tells, Refuses, IsUnfit, are_spelled, has_place}
use Rattle.acceptor_store.proofs.Meaning.{loads}

pub refuses_for : {P Q : Type 0} (e : KeeperFault) → (P → Q) → Refuses P e → Refuses Q e
refuses_for Damaged f h = f h
refuses_for Version f h = h
refuses_for Boots f h = h
refuses_for Store f h = tt
refuses_for Memory f h = tt
refuses_for Failed f h = tt

pub refuses_conn : (P : Type 0) (e : KeeperFault) → (e ≡ Memory) ⊎ (e ≡ Store) → Refuses P e
refuses_conn P e (inl m) = subst (Refuses P) (sym m) tt
refuses_conn P e (inr s) = subst (Refuses P) (sym s) tt

pub refuses_conn_err : {A : Type 0} (P : Type 0) (r : Result A KeeperFault) → IfErr r (λ e. (e ≡ Memory) ⊎ (e ≡ Store)) → IfErr r (Refuses P)
refuses_conn_err P (Ok x) h = tt
refuses_conn_err P (Err e) h = refuses_conn P e h

pub refuses_unspelled : {A : Type 0} (o : Option A) (e : KeeperFault) → (e ≡ Memory) ⊎ ((e ≡ Damaged) × (o ≡ None)) → Refuses (is_some o ≡ false) e
refuses_unspelled o e (inl m) = subst (Refuses (is_some o ≡ false)) (sym m) tt
refuses_unspelled o e (inr d) = subst (Refuses (is_some o ≡ false)) (sym d.0) (ap is_some d.1)

-- a refusal that is counted
pub refuses_told : (P : Type 0) (fault e : KeeperFault) → Refuses P fault → (e ≡ fault) ⊎ (e ≡ Failed) → Refuses P e
refuses_told P fault e h (inl same) = subst (Refuses P) (sym same) h
refuses_told P fault e h (inr failed) = subst (Refuses P) (sym failed) tt

pub same_fault : {A : Type 0} {e f : KeeperFault} → ◌≡◌ {A = Result A KeeperFault} (Err e) (Err f) → e ≡ f
same_fault h = cc

-- a fault that is counted is the same, or no fault of what is stored
pub told_unfit : {A : Type 0} (fault e : KeeperFault) → (e ≡ fault) ⊎ (e ≡ Failed) → IsUnfit {A = A} (Err e) → IsUnfit {A = A} (Err fault)
told_unfit {A} fault e (inl same) h = subst (λ f. IsUnfit {A = A} (Err f)) same h
told_unfit {A} fault e (inr failed) (inl h) = let both : Failed ≡ Damaged = sym failed ∙ same_fault h in absurd cc
told_unfit {A} fault e (inr failed) (inr h) = let both : Failed ≡ Version = sym failed ∙ same_fault h in absurd cc

pub told_damaged : {A : Type 0} (fault e : KeeperFault) → (e ≡ fault) ⊎ (e ≡ Failed) → ◌≡◌ {A = Result A KeeperFault} (Err e) (Err Damaged) → fault ≡ Damaged
told_damaged fault e (inl same) h = sym same ∙ same_fault h
told_damaged fault e (inr failed) h = let both : Failed ≡ Damaged = sym failed ∙ same_fault h in absurd cc

-- what is refused for no fault of what is stored
pub refused_fit : {A P : Type 0} (e : KeeperFault) → Refuses ⊥ e → IsUnfit {A = A} (Err e) → P
refused_fit e h (inl d) = absurd (subst (Refuses ⊥) (same_fault d) h)
refused_fit e h (inr v) = absurd (subst (Refuses ⊥) (same_fault v) h)

-- a refusal of the connection is no damage
pub conn_whole : {A P : Type 0} (e : KeeperFault) → (e ≡ Memory) ⊎ (e ≡ Store) → IsUnfit {A = A} (Err e) → P
conn_whole e h unfit = refused_fit e (refuses_conn ⊥ e h) unfit

pub conn_whole_err : {A P : Type 0} (r : Result A KeeperFault) → IfErr r (λ e. (e ≡ Memory) ⊎ (e ≡ Store)) → r ≡ Err Damaged → P
conn_whole_err (Ok x) h damaged = absurd cc
conn_whole_err (Err e) h damaged = conn_whole e h (inl damaged)

pub below_conn : (e : KeeperFault) → (e ≡ Memory) ⊎ (e ≡ Store) → LiesBelow e
below_conn e (inl m) = (λ is. let both : Memory ≡ Failed = sym m ∙ is in absurd cc, λ is. let both : Memory ≡ Boots = sym m ∙ is in absurd cc)
below_conn e (inr s) = (λ is. let both : Store ≡ Failed = sym s ∙ is in absurd cc, λ is. let both : Store ≡ Boots = sym s ∙ is in absurd cc)

pub below_unspelled : {P : Type 0} (e : KeeperFault) → (e ≡ Memory) ⊎ ((e ≡ Damaged) × P) → LiesBelow e
below_unspelled e (inl m) = below_conn e (inl m)
below_unspelled e (inr d) =
    (λ is. let both : Damaged ≡ Failed = sym d.0 ∙ is in absurd cc, λ is. let both : Damaged ≡ Boots = sym d.0 ∙ is in absurd cc)

pub below_damage : (e : KeeperFault) → (e ≡ Damaged) ⊎ ((e ≡ Memory) ⊎ (e ≡ Store)) → LiesBelow e
below_damage e (inl d) = below_unspelled {P = Unit {0}} e (inr (d, tt))
below_damage e (inr conn) = below_conn e conn

pub below_judged : (e : KeeperFault) → (e ≡ Version) ⊎ (e ≡ Damaged) → LiesBelow e
below_judged e (inl v) =
    (λ is. let both : Version ≡ Failed = sym v ∙ is in absurd cc, λ is. let both : Version ≡ Boots = sym v ∙ is in absurd cc)
below_judged e (inr d) = below_unspelled {P = Unit {0}} e (inr (d, tt))

-- a refusal of the connection is no judgement
pub conn_is_none : {P : Type 0} (e : KeeperFault) → (e ≡ Memory) ⊎ (e ≡ Store) → (e ≡ Damaged) ⊎ (e ≡ Version) → P
conn_is_none e (inl m) (inl d) = let both : Memory ≡ Damaged = sym m ∙ d in absurd cc
conn_is_none e (inl m) (inr v) = let both : Memory ≡ Version = sym m ∙ v in absurd cc
conn_is_none e (inr s) (inl d) = let both : Store ≡ Damaged = sym s ∙ d in absurd cc
conn_is_none e (inr s) (inr v) = let both : Store ≡ Version = sym s ∙ v in absurd cc

-- damage is of this version
pub damage_is_old : {P : Type 0} (e : KeeperFault) → (e ≡ Damaged) ⊎ ((e ≡ Memory) ⊎ (e ≡ Store)) → e ≡ Version → P
damage_is_old e (inl d) h = let both : Damaged ≡ Version = sym d ∙ h in absurd cc
damage_is_old e (inr (inl m)) h = let both : Memory ≡ Version = sym m ∙ h in absurd cc
damage_is_old e (inr (inr s)) h = let both : Store ≡ Version = sym s ∙ h in absurd cc

pub below_conn_err : {A : Type 0} (r : Result A KeeperFault) → IfErr r (λ e. (e ≡ Memory) ⊎ (e ≡ Store)) → IfErr r LiesBelow
below_conn_err (Ok x) h = tt
below_conn_err (Err e) h = below_conn e h

pub where_ok : {A E P : Type 0} (r : Result A E) → P → OnOk r P
where_ok (Ok x) p = p
where_ok (Err e) p = tt

pub puts_some : (o : Option (List ℕ)) (old new : List ℕ) → Puts (Ok tt) o old new → is_some o ≡ true
puts_some None old new h = absurd h
puts_some (Some octets) old new h = refl

-- the first vote, and those after it

pub first_spelled : {B : Type 0} (spelling : B → Option (List ℕ)) (v : Vote B) (vs : List (Vote B)) → is_some (entry_spelling spelling v.entry) ≡ true
    → are_spelled spelling (v ∷ vs) ≡ are_spelled spelling vs
first_spelled spelling v vs h = rw h refl

pub first_unspelled : {B : Type 0} (spelling : B → Option (List ℕ)) (v : Vote B) (vs : List (Vote B)) → is_some (entry_spelling spelling v.entry) ≡ false
    → are_spelled spelling (v ∷ vs) ≡ false
first_unspelled spelling v vs h = rw h refl

module _ {B : Type 0} (reading : List ℕ → Reading B) where
  -- rows that a database has are read
  pub held_stored : (db : Database) (rows : Rows B) → Reads reading db rows → stored_in reading db.trees ≡ Ok rows
  held_stored db rows has =
      let shown = shown_in db.trees in
      loads reading db.trees shown (record {
        metas = IsPermutation-refl shown.metas;
        votes = IsPermutation-refl shown.votes;
        snapshots = IsPermutation-refl shown.snapshots;
      }) rows has.1.has

  pub held_told : (db : Database) (rows : Rows B) (e : KeeperFault) → Reads reading db rows → Tells reading db e → Refuses ⊥ e
  held_told db rows Damaged has t = let a = held_stored db rows has in let b = t.1 has.0 in absurd cc
  held_told db rows Version has t = let a = held_stored db rows has in absurd (let b = rw t.1 at a in cc)
  held_told db rows Boots has t = t
  held_told db rows Store has t = tt
  held_told db rows Memory has t = tt
  held_told db rows Failed has t = tt

  pub held_fit : {A : Type 0} (db : Database) (rows : Rows B) (e : KeeperFault) → Reads reading db rows → Tells reading db e → IsUnfit {A = A} (Err e) → ⊥
  held_fit db rows e has t unfit = refused_fit e (held_told db rows e has t) unfit

module _ {B : Type 0} (spelling : B → Option (List ℕ)) (before : Numbers) (change : Change B) where
  pub placed : (next : Numbers) → numbers_after before change ≡ Some next → are_spelled spelling change.votes ≡ true → has_place spelling before change ≡ true
  placed next e h = rw (e, h) refl

  pub unplaced : numbers_after before change ≡ None → has_place spelling before change ≡ false
  unplaced e = rw e refl

  pub unspelled : (next : Numbers) → numbers_after before change ≡ Some next → are_spelled spelling change.votes ≡ false → has_place spelling before change ≡ false
  unspelled next e h = rw (e, h) refl
