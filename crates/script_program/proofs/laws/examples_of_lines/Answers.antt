use Rattle.std.proofs.Common.{refl}
use Rattle.std.specs.Str.{is_utf8, chars}
use lib.Utf8.{encode}
use Rattle.script_program.specs.Line.{line_of}
use Rattle.script_program.proofs.laws.examples_of_lines.Goals as goal

pub returns-clause-no_events : goal.returns-clause-no_events
unfolding line_of is_utf8 chars encode
returns-clause-no_events c = refl

pub returns-clause-connect : goal.returns-clause-connect
unfolding line_of is_utf8 chars encode
returns-clause-connect c = refl

pub returns-clause-says_nothing : goal.returns-clause-says_nothing
unfolding line_of is_utf8 chars encode
returns-clause-says_nothing c = refl

pub returns-clause-says : goal.returns-clause-says
unfolding line_of is_utf8 chars encode
returns-clause-says c = refl

pub returns-clause-suspects_itself : goal.returns-clause-suspects_itself
unfolding line_of is_utf8 chars encode
returns-clause-suspects_itself c = refl

pub returns-clause-cuts : goal.returns-clause-cuts
unfolding line_of is_utf8 chars encode
returns-clause-cuts c = refl

pub returns-clause-listed_twice : goal.returns-clause-listed_twice
unfolding line_of is_utf8 chars encode
returns-clause-listed_twice c = refl

pub returns-clause-all : goal.returns-clause-all
unfolding line_of is_utf8 chars encode
returns-clause-all c = refl

pub returns-clause-last_packet : goal.returns-clause-last_packet
unfolding line_of is_utf8 chars encode
returns-clause-last_packet c = refl
