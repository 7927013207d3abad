use Rattle.std.proofs.Common.{ap, ap₂, refl, ◌≡◌, ◌∙◌, codes}
use Rattle.std.proofs.lemmas.Result.{IfOk-weaker}
use Rattle.clap.specs.Words.{App, app_of, new_app, with_rule, with_subcommand}
use Rattle.program_order.proofs.command.serve_command.Goals as goal

pub returns : goal.returns
returns c =
    let about_is : app_of c.about.result ≡ new_app (codes "serve") = rw c.about.ensures c.new.ensures.app in
    let new_is : app_of c.after_help.result ≡ app_of c.about.result = rw c.after_help.ensures refl in
    let nodes_is = c.in_ok-arg.ensures.shape c.nodes_arg.ensures.local ∙ ap₂ with_rule (new_is ∙ about_is) c.nodes_arg.ensures.rule in
    let port_is = c.in_ok-arg-2.ensures.shape c.port_arg.ensures.local ∙ ap₂ with_rule nodes_is c.port_arg.ensures.rule in
    let key_is = c.in_ok-arg-3.ensures.shape c.key_arg.ensures.local ∙ ap₂ with_rule port_is c.key_arg.ensures.rule in
    let dir_is = c.in_ok-arg-4.ensures.shape c.dir_arg.ensures.local ∙ ap₂ with_rule key_is c.dir_arg.ensures.rule in
    IfOk-weaker c.arg-5.result _ _
    (λ r h. λ old new added. added.shape (rw (
      h.globals,
      c.realm_arg.ensures.local,
      c.in_ok-arg-4.ensures.globals,
      c.dir_arg.ensures.local,
      c.in_ok-arg-3.ensures.globals,
      c.key_arg.ensures.local,
      c.in_ok-arg-2.ensures.globals,
      c.port_arg.ensures.local,
      c.in_ok-arg.ensures.globals,
      c.nodes_arg.ensures.local,
      c.after_help.ensures,
      c.about.ensures,
      c.new.ensures.local,
    ) refl)
    ∙ ap (λ (a : App). with_subcommand (app_of old) a.top) (h.shape c.realm_arg.ensures.local ∙ ap₂ with_rule dir_is c.realm_arg.ensures.rule))
    c.arg-5.ensures
