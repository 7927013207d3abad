use Rattle.std.proofs.Common.{ℕ, List, ap, ◌∙◌, arith, rules}
use Rattle.realm_machine.specs.Config.{Config}
use Rattle.script_program.proofs.Turns.{put_realm}
use Rattle.script_program.proofs.player.realms.put_realms.Goals as goal

pub loop-member-preserved : goal.loop-member-preserved
loop-member-preserved c =
    let config : Config = record { name = c.args.name.now; limits = c.args.limits } in
    let named : List ℕ → Config = λ name. record { name = name; limits = c.args.limits } in (
      omega (arith, c.push_reserved.ensures.len, c.loop-member.invariant.0),
      search rules,
      put_realm config c.loop-member.realms.items c.push_reserved.new.self.items c.new.result _ c.push_reserved.ensures.items
          (ap (λ r. r.config) c.new.ensures ∙ c.new-realm.ensures.config) (ap named c.in_ok-name.ensures.ok)
          (ap (λ r. r.content) c.new.ensures ∙ c.new-realm.ensures.content) c.loop-member.invariant.2,
    )
