-- What is left when one of many entries is applied.
use Rattle.std.proofs.Common.{◌≡◌, ◌≢◌, Bool, true, false, Ok, Err, sym, ap, ◌∙◌, subst, List, [], ◌∷◌, ◌++◌}
use Rattle.std.specs.Prelude.{Result, OnOk, IsErrOf}
use Rattle.std.specs.Result.{is_err}
use Rattle.std.proofs.lemmas.Bool.{false≢true}
use Rattle.std.proofs.lemmas.List.{append-nil, append_assoc}
use Rattle.paxos_packets.specs.declared.entry.Entry.{Entry}
use Rattle.replica_machine.specs.declared.log.LearnFault.{LearnFault}
use Rattle.replica_machine.specs.declared.log.LearnFault.TheVariants.{Disagree, Memory, Failed}
use Rattle.replica_machine.specs.Log.{LogState, Begins, IsAt, IsLogOf}
use Rattle.replica_machine.specs.Replay.{Machine, sayings_behind, sayings_by_slot, Steps}
use Rattle.replica_machine.specs.Roll.{IsRollOf}

pub rest_applied : {A : Type 0} (old new rest more all : List A) (e : A) → new ≡ old ++ e ∷ [] → rest ≡ e ∷ more → old ++ rest ≡ all
    → new ++ more ≡ all
rest_applied old new rest more all e longer first h =
    ap (λ l. l ++ more) longer ∙ append_assoc old (e ∷ []) more ∙ ap (λ l. old ++ l) (sym first) ∙ h

pub begins_on : {B : Type 0} (log old new : List (Entry B)) (e : Entry B) → new ≡ old ++ e ∷ [] → Begins log old → Begins log new
begins_on log old new e longer begins =
    (begins.0 ++ e ∷ [], sym (append_assoc log begins.0 (e ∷ [])) ∙ ap (λ l. l ++ e ∷ []) begins.1 ∙ sym longer)

-- what is said at the entries after a log, with the first of them applied
pub said_on : {B S Y : Type 0} (m : Machine B S Y) (under old new rest more : List (Entry B)) (e : Entry B) (says : List Y)
    (said told all : List (List Y)) → new ≡ old ++ e ∷ [] → rest ≡ e ∷ more → says ≡ sayings_behind m (under ++ old) (e ∷ [])
    → told ≡ said ++ says ∷ [] → said ++ sayings_by_slot m (under ++ old) rest ≡ all → told ++ sayings_by_slot m (under ++ new) more ≡ all
said_on m under old new rest more e says said told all longer first says_is told_is h =
    ap (λ l. l ++ sayings_by_slot m (under ++ new) more) told_is
    ∙ append_assoc said (says ∷ []) (sayings_by_slot m (under ++ new) more)
    ∙ ap (λ x. said ++ x ∷ sayings_by_slot m (under ++ new) more) says_is
    ∙ ap (λ l. said ++ sayings_behind m (under ++ old) (e ∷ []) ∷ sayings_by_slot m l more)
    (ap (λ l. under ++ l) longer ∙ sym (append_assoc under old (e ∷ [])))
    ∙ ap (λ l. said ++ sayings_by_slot m (under ++ old) l) (sym first)
    ∙ h

-- what holds of a success holds if there was no error
pub if_not_err : {T E P : Type 0} (r : Result T E) → is_err r ≡ false → OnOk r P → P
if_not_err (Ok _) _ p = p
if_not_err (Err _) h p = absurd (false≢true (sym h))

-- the faults differ
pub memory_failed : Memory ≢ Failed
memory_failed e = cc

pub memory_disagree : Memory ≢ Disagree
memory_disagree e = cc

pub failed_disagree : Failed ≢ Disagree
failed_disagree e = cc

pub other_fault : {T : Type 0} (a b : LearnFault) → a ≢ b → IsErrOf {T = T} (Err a) b → ⊥
other_fault a b differ e = differ (cc)

pub no_fault : {T : Type 0} (x : T) (a : LearnFault) → IsErrOf (Ok x) a → ⊥
no_fault x a e = cc

-- what stays of a log whose parts are seen as `inside`, if its entries are kept elsewhere
module _ {B M : Type 0} (now inside : LogState B M) (same : inside ≡ now) where
  pub log_stays : (applied : List (Entry B)) → applied ≡ inside.applied → record inside { applied = applied } ≡ now
  log_stays applied h = ap (λ l. record inside { applied = l }) h ∙ same

  pub stays_empty : now.ahead ≡ [] → inside.ahead ≡ []
  stays_empty empty = ap (λ (v : LogState B M). v.ahead) same ∙ empty

  pub not_failed : inside.failed ≡ false → now.failed ≡ true → ⊥
  not_failed alive failed = false≢true (sym alive ∙ ap (λ (v : LogState B M). v.failed) same ∙ failed)

  pub applied_is : (applied : List (Entry B)) → applied ≡ inside.applied → applied ≡ now.applied
  applied_is applied h = h ∙ ap (λ (v : LogState B M). v.applied) same

  pub begins_with : (applied longer : List (Entry B)) → applied ≡ inside.applied → Begins applied longer → Begins now.applied longer
  begins_with applied longer h = subst (λ l. Begins l longer) (applied_is applied h)

  pub begins_same : (applied : List (Entry B)) → applied ≡ inside.applied → Begins now.applied applied
  begins_same applied h = begins_with applied applied h ([], append-nil applied)

  pub begins_to : (applied front more : List (Entry B)) → applied ≡ inside.applied → Begins front (applied ++ more)
      → Begins front (now.applied ++ more)
  begins_to applied front more h = subst (λ l. Begins front (l ++ more)) (applied_is applied h)

  pub floor_is : inside.floor ≡ now.floor
  floor_is = ap (λ (v : LogState B M). v.floor) same

  pub alive_inside : (has_failed : M → Bool) → has_failed now.machine ≡ false → has_failed inside.machine ≡ false
  alive_inside has_failed h = ap (λ (v : LogState B M). has_failed v.machine) same ∙ h

  pub rolled_inside : (under applied : List (Entry B)) → applied ≡ inside.applied → IsRollOf (under ++ now.applied) now.roll
      → IsRollOf (under ++ applied) inside.roll
  rolled_inside under applied h rolled =
      subst (λ l. IsRollOf (under ++ l) inside.roll) (sym h)
      (subst (λ (v : LogState B M). IsRollOf (under ++ v.applied) v.roll) (sym same) rolled)

  pub stands_inside : {S Y : Type 0} (steps : Steps B S Y) (content : M → S) (first : S) (under applied : List (Entry B))
      → applied ≡ inside.applied → IsLogOf steps content first under now
      → IsAt steps content first (under ++ applied) inside.roll inside.machine
  stands_inside steps content first under applied h stands =
      subst (λ l. IsAt steps content first (under ++ l) inside.roll inside.machine) (sym h)
      (subst (λ (v : LogState B M). IsAt steps content first (under ++ v.applied) v.roll v.machine) (sym same) stands.stands)

  -- the log goes on with these, and its floor stays
  pub log_on : {S Y : Type 0} (steps : Steps B S Y) (content : M → S) (first : S) (under : List (Entry B)) (new : LogState B M)
      → new.floor ≡ inside.floor → IsLogOf steps content first under now
      → IsAt steps content first (under ++ new.applied) new.roll new.machine → IsLogOf steps content first under new
  log_on steps content first under new floor was stands = record { below = was.below ∙ sym (floor ∙ floor_is); stands = stands }
