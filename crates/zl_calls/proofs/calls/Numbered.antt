-- What a call sets, by the numbers of its mode, its condition and its action.
use Rattle.zl_calls.proofs.Common.{Condition, IfNone, IfSome, None, Option, Setting, Some, action_number, condition_number, mode_number, refl, sym, ℕ, ◌≡◌, ◌≢◌}
use Rattle.std.proofs.Common.{ne_eqb}
use Rattle.zl_rights.specs.declared.policy.Action.{Action}
use Rattle.zl_rights.specs.declared.policy.Action.TheVariants as action
use Rattle.zl_rights.specs.declared.policy.Condition.TheVariants as condition
use Rattle.zl_rights.specs.declared.policy.Mode.{Mode}
use Rattle.zl_rights.specs.declared.policy.Mode.TheVariants as mode
use Rattle.zl_rights.specs.Policies.{action_numbered, condition_numbered, mode_numbered, setting_if, setting_of}

mode_again : (m : Mode) → Some m ≡ mode_numbered (mode_number m)
mode_again mode.Relative = refl
mode_again mode.Absolute = refl

pub mode_found : (n : ℕ) (o : Option Mode) → IfSome o (λ m. mode_number m ≡ n) → IfNone o ((m : Mode) → mode_number m ≢ n) → o ≡ mode_numbered n
mode_found n (Some m) found missing = rw (sym found) (mode_again m)
mode_found n None found missing = rw (ne_eqb 0 n (missing mode.Relative), ne_eqb 1 n (missing mode.Absolute)) refl

condition_again : (c : Condition) → Some c ≡ condition_numbered (condition_number c)
condition_again condition.BadHandle = refl
condition_again _ = refl

pub condition_found : (n : ℕ) (o : Option Condition) → IfSome o (λ c. condition_number c ≡ n) → IfNone o ((c : Condition) → condition_number c ≢ n)
    → o ≡ condition_numbered n
condition_found n (Some c) found missing = rw (sym found) (condition_again c)
condition_found n None found missing =
    rw (
      ne_eqb 0 n (missing condition.BadHandle),
      ne_eqb 1 n (missing condition.WrongObject),
      ne_eqb 2 n (missing condition.NewAny),
      ne_eqb 3 n (missing condition.NewChannel),
      ne_eqb 4 n (missing condition.NewEvent),
      ne_eqb 5 n (missing condition.NewEventpair),
      ne_eqb 6 n (missing condition.NewPort),
      ne_eqb 7 n (missing condition.NewProcess),
    ) refl

action_again : (a : Action) → Some a ≡ action_numbered (action_number a)
action_again action.Allow = refl
action_again _ = refl

pub action_found : (n : ℕ) (o : Option Action) → IfSome o (λ a. action_number a ≡ n) → IfNone o ((a : Action) → action_number a ≢ n) → o ≡ action_numbered n
action_found n (Some a) found missing = rw (sym found) (action_again a)
action_found n None found missing = rw (ne_eqb 0 n (missing action.Allow), ne_eqb 1 n (missing action.Deny), ne_eqb 2 n (missing action.Kill)) refl

-- ---- what is set

module _ (m c a : ℕ) where
  pub no_mode : ((x : Mode) → mode_number x ≢ m) → None ≡ setting_of m c a
  unfolding setting_of
  no_mode missing = λ i. setting_if (mode_found m None tt missing i) (condition_numbered c) (action_numbered a)

  module _ (m0 : Mode) (is_mode : mode_number m0 ≡ m) where
    pub no_condition : ((x : Condition) → condition_number x ≢ c) → None ≡ setting_of m c a
    unfolding setting_of
    no_condition missing = λ i. setting_if (mode_found m (Some m0) is_mode tt i) (condition_found c None tt missing i) (action_numbered a)

    module _ (c0 : Condition) (is_condition : condition_number c0 ≡ c) where
      pub no_action : ((x : Action) → action_number x ≢ a) → None ≡ setting_of m c a
      unfolding setting_of
      no_action missing =
          λ i. setting_if (mode_found m (Some m0) is_mode tt i) (condition_found c (Some c0) is_condition tt i) (action_found a None tt missing i)

      pub all_known : (a0 : Action) → action_number a0 ≡ a
          → ◌≡◌ {A = Option Setting} (Some (record { mode = m0; condition = c0; action = a0 })) (setting_of m c a)
      unfolding setting_of
      all_known a0 is_action =
          λ i. setting_if (mode_found m (Some m0) is_mode tt i) (condition_found c (Some c0) is_condition tt i) (action_found a (Some a0) is_action tt i)
