-- The faults of a realm's parts, and their URIs (WAMP specification, "Predefined URIs"; the limit's is this profile's).
use Rattle.std.specs.Prelude.{◌≡◌, ℕ, List, Option, None, Some, Result, Err, codes}
use Rattle.std.specs.Result.{IsOk}
use Rattle.realm_sessions.specs.declared.fault.RealmFault.{RealmFault}
use Rattle.realm_sessions.specs.declared.fault.RealmFault.TheVariants.{InvalidUri, InvalidArgument, Limit, AlreadyExists}
use Rattle.realm_sessions.specs.declared.fault.RealmFault.TheVariants.{NoSuchRegistration, NoSuchSubscription, NoSuchProcedure}
use Rattle.realm_sessions.specs.declared.fault.RealmFault.TheVariants.{NotOpen, Memory}

abbrev pub number_of : RealmFault → ℕ
number_of InvalidUri = 101
number_of InvalidArgument = 102
number_of Limit = 103
number_of AlreadyExists = 104
number_of NoSuchRegistration = 105
number_of NoSuchSubscription = 106
number_of NoSuchProcedure = 107
number_of NotOpen = 108
number_of Memory = 109

-- the URIs of errors

abbrev pub invalid_uri : List ℕ
invalid_uri = codes "wamp.error.invalid_uri"

abbrev pub invalid_argument : List ℕ
invalid_argument = codes "wamp.error.invalid_argument"

abbrev pub limit : List ℕ
limit = codes "cluster.error.limit"

abbrev pub already_exists : List ℕ
already_exists = codes "wamp.error.procedure_already_exists"

abbrev pub no_such_registration : List ℕ
no_such_registration = codes "wamp.error.no_such_registration"

abbrev pub no_such_subscription : List ℕ
no_such_subscription = codes "wamp.error.no_such_subscription"

abbrev pub no_such_procedure : List ℕ
no_such_procedure = codes "wamp.error.no_such_procedure"

-- the URI of a fault, if an ERROR tells it

abbrev pub uri_of : RealmFault → Option (List ℕ)
uri_of InvalidUri = Some invalid_uri
uri_of InvalidArgument = Some invalid_argument
uri_of Limit = Some limit
uri_of AlreadyExists = Some already_exists
uri_of NoSuchRegistration = Some no_such_registration
uri_of NoSuchSubscription = Some no_such_subscription
uri_of NoSuchProcedure = Some no_such_procedure
uri_of NotOpen = None
uri_of Memory = None

-- what is answered is what is wanted; if memory runs out, no refusal was wanted
abbrev pub Answers : {A : Type 0} → Result A RealmFault → Result A RealmFault → Type 0
Answers (Err Memory) wanted = IsOk wanted
Answers given wanted = given ≡ wanted
