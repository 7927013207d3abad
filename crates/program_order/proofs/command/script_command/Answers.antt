use Rattle.std.proofs.Common.{ap, ap₂, refl, ◌≡◌, ◌∙◌, codes}
use Rattle.std.proofs.lemmas.Result.{IfOk-weaker}
use Rattle.clap.specs.Words.{App, app_of, new_app, with_rule, with_subcommand}
use Rattle.program_order.proofs.command.script_command.Goals as goal

pub returns : goal.returns
returns c =
    let new_is : app_of c.about.result ≡ new_app (codes "script") = rw c.about.ensures c.new.ensures.app in
    let nodes_is = c.in_ok-arg.ensures.shape c.nodes_arg.ensures.local ∙ ap₂ with_rule new_is c.nodes_arg.ensures.rule in
    IfOk-weaker c.arg-2.result _ _
    (λ r h. λ old new added. added.shape (rw (
      h.globals,
      c.realm_arg.ensures.local,
      c.in_ok-arg.ensures.globals,
      c.nodes_arg.ensures.local,
      c.about.ensures,
      c.new.ensures.local,
    ) refl)
    ∙ ap (λ (a : App). with_subcommand (app_of old) a.top) (h.shape c.realm_arg.ensures.local ∙ ap₂ with_rule nodes_is c.realm_arg.ensures.rule))
    c.arg-2.ensures
