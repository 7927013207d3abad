use Rattle.std.proofs.Common.{refl}
use Rattle.std.specs.Str.{is_utf8, chars}
use lib.Utf8.{encode}
use Rattle.command_codec.specs.Number.{number_reading}
use Rattle.realm_snapshot.specs.Writing.{two_octets, four_octets, eight_octets}
use Rattle.realm_snapshot.proofs.laws.examples.Goals as goal

pub returns-clause-saved : goal.returns-clause-saved
unfolding two_octets four_octets eight_octets
returns-clause-saved c = refl

pub returns-clause-loaded : goal.returns-clause-loaded
unfolding number_reading is_utf8 chars encode
returns-clause-loaded c = refl

pub returns-clause-rest : goal.returns-clause-rest
unfolding number_reading is_utf8 chars encode
returns-clause-rest c = refl

pub returns-clause-link : goal.returns-clause-link
unfolding number_reading
returns-clause-link c = refl

pub returns-clause-call : goal.returns-clause-call
unfolding number_reading
returns-clause-call c = refl

pub returns-clause-request : goal.returns-clause-request
unfolding number_reading
returns-clause-request c = refl

pub returns-clause-short : goal.returns-clause-short
unfolding number_reading
returns-clause-short c = refl

pub returns-clause-none : goal.returns-clause-none
unfolding number_reading
returns-clause-none c = refl

pub returns-clause-other : goal.returns-clause-other
unfolding two_octets four_octets eight_octets number_reading is_utf8 chars encode
returns-clause-other c = refl
