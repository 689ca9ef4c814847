use Rattle.zl_command.proofs.Common.{IfOk-weaker, ap, app_of, app_of_fields, ap₂, assembling, checking, exploring, on_top, program, replaying, running}
use Rattle.zl_command.proofs.Common.{stepping, true, with_subcommand, ◌∙◌, ◌≡◌}
use Rattle.clap.proofs.SimpleLemmas.{plain_fields}
use Rattle.zl_command.proofs.command.command.Goals as goal

pub returns : goal.returns
returns c =
    let assembling_is : app_of c.in_ok-assembling.field-0 ≡ assembling = c.in_ok-assembling.ensures in
    let unnamed : app_of c.no_binary_name.result ≡ on_top (λ s. record s { no_binary_name = true }) (app_of c.new.result)
    = ap app_of_fields c.no_binary_name.ensures in
    let called : app_of c.in_ok-bin_name.field-0 ≡ app_of c.no_binary_name.result = ap app_of_fields c.in_ok-bin_name.ensures.0 in
    let versioned : app_of c.version.result ≡ on_top (λ s. record s { has_version = true }) (app_of c.in_ok-bin_name.field-0)
    = ap app_of_fields c.version.ensures in
    let told : app_of c.after_help.result ≡ app_of c.version.result = ap app_of_fields c.after_help.ensures ∙ ap app_of_fields c.about.ensures in
    let program_is : app_of c.after_help.result ≡ program
    = told ∙ (versioned ∙ ap (on_top (λ s. record s { has_version = true }))
    (called ∙ (unnamed ∙ ap (on_top (λ s. record s { no_binary_name = true })) c.new.ensures.app))) in
    let local = (plain_fields c.in_ok-assembling.field-0 (ap (λ a. a.top.is_plain) assembling_is)).globals in
    let first : app_of c.in_ok-subcommand.field-0 ≡ with_subcommand program assembling.top
    = c.in_ok-subcommand.ensures.shape local ∙ ap₂ with_subcommand program_is (ap (λ a. a.top) assembling_is) in
    let checking_is : app_of c.in_ok-checking.field-0 ≡ checking = c.in_ok-checking.ensures in
    let local_too = (plain_fields c.in_ok-checking.field-0 (ap (λ a. a.top.is_plain) checking_is)).globals in
    let second = c.in_ok-subcommand-2.ensures.shape local_too ∙ ap₂ with_subcommand first (ap (λ a. a.top) checking_is) in
    let stepping_is : app_of c.in_ok-stepping.field-0 ≡ stepping = c.in_ok-stepping.ensures in
    let local_third = (plain_fields c.in_ok-stepping.field-0 (ap (λ a. a.top.is_plain) stepping_is)).globals in
    let third = c.in_ok-subcommand-3.ensures.shape local_third ∙ ap₂ with_subcommand second (ap (λ a. a.top) stepping_is) in
    let replaying_is : app_of c.in_ok-replaying.field-0 ≡ replaying = c.in_ok-replaying.ensures in
    let local_fourth = (plain_fields c.in_ok-replaying.field-0 (ap (λ a. a.top.is_plain) replaying_is)).globals in
    let fourth = c.in_ok-subcommand-4.ensures.shape local_fourth ∙ ap₂ with_subcommand third (ap (λ a. a.top) replaying_is) in
    let running_is : app_of c.in_ok-running.field-0 ≡ running = c.in_ok-running.ensures in
    let local_fifth = (plain_fields c.in_ok-running.field-0 (ap (λ a. a.top.is_plain) running_is)).globals in
    let fifth = c.in_ok-subcommand-5.ensures.shape local_fifth ∙ ap₂ with_subcommand fourth (ap (λ a. a.top) running_is) in
    let exploring_is : app_of c.in_ok-exploring.field-0 ≡ exploring = c.in_ok-exploring.ensures in
    let local_last = (plain_fields c.in_ok-exploring.field-0 (ap (λ a. a.top.is_plain) exploring_is)).globals in
    IfOk-weaker c.subcommand-6.result _ _ (λ made added. added.shape local_last ∙ ap₂ with_subcommand fifth (ap (λ a. a.top) exploring_is))
    c.subcommand-6.ensures
