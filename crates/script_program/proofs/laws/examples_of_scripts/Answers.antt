use Rattle.std.proofs.Common.{refl}
use Rattle.std.specs.Str.{is_utf8, chars}
use lib.Utf8.{encode}
use Rattle.script_program.specs.Line.{line_of}
use Rattle.script_program.proofs.laws.examples_of_scripts.Goals as goal

pub returns-clause-empty : goal.returns-clause-empty
returns-clause-empty c = refl

pub returns-clause-first_bad : goal.returns-clause-first_bad
unfolding line_of is_utf8 chars encode
returns-clause-first_bad c = refl

pub returns-clause-third_bad : goal.returns-clause-third_bad
unfolding line_of is_utf8 chars encode
returns-clause-third_bad c = refl

pub returns-clause-one : goal.returns-clause-one
unfolding line_of is_utf8 chars encode
returns-clause-one c = refl

pub returns-clause-draws : goal.returns-clause-draws
unfolding line_of is_utf8 chars encode
returns-clause-draws c = refl
