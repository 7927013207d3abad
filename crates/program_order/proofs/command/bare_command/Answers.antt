use Rattle.std.proofs.Common.{ap, refl, ◌≡◌, ◌∙◌, true}
use Rattle.clap.specs.Words.{App, Shape, app_of}
use Rattle.program_order.proofs.command.bare_command.Goals as goal

abbrev on_top : (Shape → Shape) → App → App
on_top f a = record a { top = f a.top }

pub returns : goal.returns
returns c =
    let about : app_of c.about.result ≡ app_of c.new.result = rw c.about.ensures refl in
    let version : app_of c.version.result ≡ on_top (λ s. record s { has_version = true }) (app_of c.about.result) = rw c.version.ensures refl in
    let help : app_of c.after_help.result ≡ app_of c.version.result = rw c.after_help.ensures refl in
    let binary : app_of c.no_binary_name.result ≡ on_top (λ s. record s { no_binary_name = true }) (app_of c.after_help.result) =
    rw c.no_binary_name.ensures refl in
    let named : app_of c.in_ok-named.named ≡ app_of c.no_binary_name.result = rw c.in_ok-named.ensures.0 refl in
    let helpless : app_of c.disable_help_subcommand.result ≡ on_top (λ s. record s { disable_help_subcommand = true })
    (app_of c.in_ok-named.named)
    = rw c.disable_help_subcommand.ensures refl in
    let required : app_of c.subcommand_required.result ≡ on_top (λ s. record s { subcommand_required = true })
    (app_of c.disable_help_subcommand.result)
    = rw c.subcommand_required.ensures refl in
    let versioned = version ∙ ap (on_top (λ s. record s { has_version = true })) (about ∙ c.new.ensures.app) in
    let unnamed = named ∙ binary ∙ ap (on_top (λ s. record s { no_binary_name = true })) (help ∙ versioned) in
    required ∙ ap (on_top (λ s. record s { subcommand_required = true }))
    (helpless ∙ ap (on_top (λ s. record s { disable_help_subcommand = true })) unnamed)
