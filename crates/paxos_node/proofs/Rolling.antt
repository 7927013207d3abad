-- Where each node stands after a log that grows, and what is pending then; a roll goes on.
use Rattle.std.proofs.Common.{◌≡◌, ℕ, zero, suc, ◌+◌, ◌<◌, ◌≤◌, List, [], ◌∷◌, ◌++◌, length, drop, get_or, ap, ◌∙◌, sym, refl, subst, arith, add-one, drop-cons}
use Rattle.std.specs.Prelude.{filter}
use Rattle.paxos_packets.specs.declared.entry.Entry.{Entry}
use Rattle.replica_machine.specs.declared.roll.Standing.{Standing}
use Rattle.replica_machine.specs.Roll.{standing_after, standing_from, standings_after, standings_from, standing_in}
use Rattle.replica_machine.specs.Roll.{HasStandings, is_wanted_by}
use Rattle.paxos_node.specs.Adopting.{pending_behind}

pub from_last : {B : Type 0} (n : ℕ) (s : Standing) (log : List (Entry B)) (e : Entry B)
    → standing_from n s (log ++ e ∷ []) ≡ standing_after n (standing_from n s log) e
from_last n s [] e = refl
from_last n s (d ∷ ds) e = from_last n (standing_after n s d) ds e

from_both : {B : Type 0} (n : ℕ) (s : Standing) (log es : List (Entry B)) → standing_from n s (log ++ es) ≡ standing_from n (standing_from n s log) es
from_both n s [] es = refl
from_both n s (d ∷ ds) es = from_both n (standing_after n s d) ds es

-- where the nodes stand after a log that goes on

pub one_longer : {B : Type 0} (stands : ℕ → Standing) (log : List (Entry B)) (e : Entry B)
    → standings_after (standings_from stands log) e ≡ standings_from stands (log ++ e ∷ [])
one_longer stands log e = λ i. λ n. sym (from_last n (stands n) log e) i

pub some_longer : {B : Type 0} (stands : ℕ → Standing) (log es : List (Entry B))
    → standings_from (standings_from stands log) es ≡ standings_from stands (log ++ es)
some_longer stands log es = λ i. λ n. sym (from_both n (stands n) log es) i

-- what is pending after some more entries, by the log

pub one_behind : {B : Type 0} (stands : ℕ → Standing) (log : List (Entry B)) (e : Entry B) (es pending : List (Entry B))
    → pending_behind (standings_from stands log) (e ∷ es) pending
    ≡ pending_behind (standings_from stands (log ++ e ∷ [])) es (filter (is_wanted_by (standings_from stands (log ++ e ∷ []))) pending)
one_behind stands log e es pending =
    λ i. pending_behind (one_longer stands log e i) es (filter (is_wanted_by (one_longer stands log e i)) pending)

-- a roll goes on

pub rolls_on : {B : Type 0} (stands : ℕ → Standing) (e : Entry B) (old new : List Standing) → HasStandings stands old
    → ((n : ℕ) → n < 256 → standing_in new n ≡ standing_after n (standing_in old n) e) → HasStandings (standings_after stands e) new
rolls_on stands e old new is step n l = step n l ∙ ap (λ (s : Standing). standing_after n s e) (is n l)

pub roll_of : {B : Type 0} (stands : ℕ → Standing) (log es : List (Entry B)) (roll : List Standing)
    → HasStandings (standings_from (standings_from stands log) es) roll → HasStandings (standings_from stands (log ++ es)) roll
roll_of stands log es roll is n l = is n l ∙ sym (from_both n (stands n) log es)

-- the rest of a list

pub rest_is : {X : Type 0} (xs : List X) (i : ℕ) (x : X) → i < length xs → x ≡ get_or xs i x → drop i xs ≡ x ∷ drop (i + 1) xs
rest_is xs i x l e = rw (add-one, drop-cons xs i x) (ap (λ y. y ∷ drop (suc i) xs) (sym e))

pub rest_none : {X : Type 0} (xs : List X) (i : ℕ) → length xs ≤ i → drop i xs ≡ []
rest_none [] zero l = refl
rest_none [] (suc i) l = refl
rest_none (x ∷ xs) zero l = absurd (omega arith)
rest_none (x ∷ xs) (suc i) l = rest_none xs i (omega arith)

-- with no rest, where the nodes stand now is where they stand after the whole

pub roll_ends : {B : Type 0} (now whole : ℕ → Standing) (rest : List (Entry B)) (roll : List Standing) → HasStandings now roll
    → standings_from now rest ≡ whole → rest ≡ [] → HasStandings whole roll
roll_ends {B} now whole rest roll is e n =
    subst (λ (s : ℕ → Standing). HasStandings s roll) (ap (λ (l : List (Entry B)). standings_from now l) (sym n) ∙ e) is

pub pending_ends : {B : Type 0} (now : ℕ → Standing) (rest pending wanted : List (Entry B)) → pending_behind now rest pending ≡ wanted
    → rest ≡ [] → pending ≡ wanted
pending_ends {B} now rest pending wanted e n = ap (λ (l : List (Entry B)). pending_behind now l pending) (sym n) ∙ e
