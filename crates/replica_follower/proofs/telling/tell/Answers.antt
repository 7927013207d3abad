-- What is told of is what the log goes on with.
use Rattle.std.proofs.Common.{rules, ◌≡◌, inl, inr, sym, ap, ◌∙◌, subst, ◌+◌, ◌<◌, ◌++◌, arith, List, length, Err}
use Rattle.std.specs.Prelude.{IsErrOf}
use Rattle.std.proofs.lemmas.List.{length-append}
use Rattle.replica_machine.specs.Log.{machine_from}
use Rattle.replica_follower.specs.declared.telling.Untold.TheVariants.{Unheard, Heard}
use Rattle.replica_follower.specs.Handed.{said_in}
use Rattle.replica_follower.proofs.Sayings.{handed_is}
use Rattle.replica_follower.proofs.telling.tell.Goals as goal

goes_on : {A : Type 0} (old es new : List A) → new ≡ old ++ es → 0 < length es → length old < length new
goes_on old es new is some = let all : length new ≡ length old + length es = ap (λ xs. length xs) is ∙ length-append old es in omega arith

not_unheard : {T P : Type 0} → IsErrOf {T = T} (Err Heard) Unheard → P
not_unheard e = absurd cc

pub returns-in-Err-Memory-clause-begins : goal.returns-in-Err-Memory-clause-begins
returns-in-Err-Memory-clause-begins g c = c.in-Err-Memory.ensures.err

pub returns-in-Err-Memory-clause-unheard : goal.returns-in-Err-Memory-clause-unheard
returns-in-Err-Memory-clause-unheard g c = λ unheard. c.in-Err-Memory.ensures.memory (search rules)

pub returns-in-Err-Failed-clause-begins : goal.returns-in-Err-Failed-clause-begins
returns-in-Err-Failed-clause-begins g c = c.in-Err-Failed.ensures.err

pub returns-in-Err-Failed-clause-unheard : goal.returns-in-Err-Failed-clause-unheard
returns-in-Err-Failed-clause-unheard g c = λ unheard. not_unheard unheard

pub returns-in-Err-Failed-clause-heard : goal.returns-in-Err-Failed-clause-heard
returns-in-Err-Failed-clause-heard g c = λ _ some. inl (c.in-Err-Failed.ensures.refused (search rules))

pub returns-in_default-clause-begins : goal.returns-in_default-clause-begins
returns-in_default-clause-begins g c = (c.args.entries.items, sym c.in-Ok.ensures.applied)

pub returns-in_default-clause-unheard : goal.returns-in_default-clause-unheard
returns-in_default-clause-unheard g c = λ unheard. not_unheard unheard

pub returns-in_default-clause-heard : goal.returns-in_default-clause-heard
returns-in_default-clause-heard g c = λ _ some.
    inr (goes_on c.args.applied.now.applied c.args.entries.items c.append.new.self.applied c.in-Ok.ensures.applied
    (subst (λ n. 0 < n) c.args.entries.ok.0 some))

pub returns-clause-goes_on : goal.returns-clause-goes_on
returns-clause-goes_on g c = λ first under is. c.in-Ok.ensures.goes_on first under is

pub returns-clause-told : goal.returns-clause-told
returns-clause-told g c = λ first under is t.
    let m = machine_from g.M.Machine.steps first in
    c.in-Ok-hand_out_all.ensures.ok t
    ∙ ap (λ l. said_in t c.args.handed.now ++ l)
    (handed_is m (λ says. says.items) c.in-Ok.said.items t c.args.node c.args.boot (under ++ c.args.applied.now.applied) c.args.entries.items
    (c.in-Ok.ensures.told first under is))
