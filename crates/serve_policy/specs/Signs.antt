-- What a turn shows of the cluster's work (docs/THREADS.md). Nothing that is claimed of a cluster rests on it.
use Rattle.std.specs.Prelude.{Bool, true, false}
use Rattle.serve_policy.specs.declared.turn.Sign.{Sign}
use Rattle.serve_policy.specs.declared.turn.Sign.TheVariants.{Nothing, Prepared, AtWork, Refused, Told}

-- whether a ballot is at work
abbrev pub is_at_work : Sign → Bool
is_at_work Nothing = false
is_at_work (Prepared owner slots) = true
is_at_work (AtWork owner) = true
is_at_work (Refused owner) = false
is_at_work Told = false

-- whether an entry was reported
abbrev pub is_told : Sign → Bool
is_told Nothing = false
is_told (Prepared owner slots) = false
is_told (AtWork owner) = false
is_told (Refused owner) = false
is_told Told = true
