use Rattle.std.proofs.Common.{◌+◌, sym, subst}
use Rattle.realm_acts.specs.Act.{same_act}
use Rattle.cluster_world.specs.Scripts.{deliver_no}
use Rattle.script_program.specs.Player.{IsAt}
use Rattle.script_program.proofs.Turns.{none_due, one_due}
use Rattle.script_program.proofs.player.Player.deliver_first.Goals as goal

pub returns-in_default : goal.returns-in_default
returns-in_default c = λ config members s at. (
  none_due config members c.args.among c.args.self.now s at (sym c.in_default.ensures.value),
  subst (λ w. IsAt config members (record { alloc = c.args.self.now.alloc; world = c.args.self.now.world; waiting = w }) s)
      (sym c.first_due.ensures.same) at,
)

pub returns : goal.returns
returns c = λ config members s at.
    let one = one_due config members c.args.among c.args.self.now s c.in-Some.place at (sym c.in-Some.ensures.value) in
    let still = subst (λ w. IsAt config members (record { alloc = c.args.self.now.alloc; world = c.args.self.now.world; waiting = w }) s)
    (sym c.first_due.ensures.same) at in (
      (c.in-Some.place + 1, one.0),
      one.1,
      subst (λ o. IsAt config members c.deliver_at.new.self (deliver_no same_act members (c.in-Some.place + 1) o s)) one.2
          (c.in_ok-deliver_at.ensures config members s still),
    )
