-- What registering gives, by the registration of the pattern that is there.
use Rattle.std.proofs.Common.{◌≡◌, ℕ, true, false, not, cond, Ok, Option, None, Some, ap, ◌∙◌}
use Rattle.std.proofs.lemmas.Bool.{cond-true, cond-false}
use Rattle.wamp_ids.specs.declared.policy.Invoke.{Invoke}
use Rattle.wamp_ids.specs.Uri.{is_reserved}
use Rattle.wamp_ids.specs.Pattern.{PatternValue}
use Rattle.realm_sessions.specs.declared.fault.RealmFault.TheVariants.{InvalidUri, Limit, AlreadyExists}
use Rattle.realm_registrations.specs.declared.registration.Registration.{Registration}
use Rattle.realm_registrations.specs.Registration.{may_join}
use Rattle.realm_registrations.specs.Registrations.{Registrations, Registered, registration_at, is_full, refused, with_callee_at, register_at, register}

module _ (registrations : Registrations) (session : ℕ) (pattern : PatternValue) (invoke : Invoke) where
  registers : (found : Option Registration) → is_reserved pattern.text ≡ false → registration_at registrations pattern ≡ found
      → register registrations session pattern invoke ≡ register_at registrations session pattern invoke found
  registers found free is =
      cond-false (is_reserved pattern.text) (refused registrations InvalidUri)
      (register_at registrations session pattern invoke (registration_at registrations pattern)) free
      ∙ ap (λ (o : Option Registration). register_at registrations session pattern invoke o) is

  pub none_there : is_reserved pattern.text ≡ false → registration_at registrations pattern ≡ None
      → register registrations session pattern invoke ≡ register_at registrations session pattern invoke None
  none_there free is = registers None free is

  abbrev joined_there : Registration → Registered
  joined_there found = record { registrations = with_callee_at registrations session pattern; answer = Ok found.id }

  joins : (found : Registration) → is_reserved pattern.text ≡ false → registration_at registrations pattern ≡ Some found
      → may_join session invoke found ≡ true
      → register registrations session pattern invoke ≡ cond (is_full registrations session) (refused registrations Limit) (joined_there found)
  joins found free is may =
      registers (Some found) free is
      ∙ cond-false (not (may_join session invoke found)) (refused registrations AlreadyExists)
      (cond (is_full registrations session) (refused registrations Limit) (joined_there found)) (ap not may)

  pub one_full : (found : Registration) → is_reserved pattern.text ≡ false → registration_at registrations pattern ≡ Some found
      → may_join session invoke found ≡ true → is_full registrations session ≡ true
      → register registrations session pattern invoke ≡ refused registrations Limit
  one_full found free is may full =
      joins found free is may ∙ cond-true (is_full registrations session) (refused registrations Limit) (joined_there found) full

  pub one_joined : (found : Registration) → is_reserved pattern.text ≡ false → registration_at registrations pattern ≡ Some found
      → may_join session invoke found ≡ true → is_full registrations session ≡ false
      → register registrations session pattern invoke ≡ joined_there found
  one_joined found free is may left =
      joins found free is may ∙ cond-false (is_full registrations session) (refused registrations Limit) (joined_there found) left
