-- The parser's command line.
use Rattle.std.proofs.Common.{◌≡◌, true, refl, Result, Ok, Err, IfOk, MatchResult}
use Rattle.std.specs.Prelude.{IfErr}
use Rattle.clap.specs.Words.{is_simple}
use Rattle.program_order.specs.Program.{program}

pub program_is_simple : is_simple program ≡ true
unfolding program
program_is_simple = refl

pub by_result : {T E : Type 0} (r : Result T E) (P P' : T → Type 0) (Q Q' : E → Type 0) → ((x : T) → P x → P' x) → ((e : E) → Q e → Q' e)
    → IfOk r P → IfErr r Q → MatchResult r P' Q'
by_result (Ok x) P P' Q Q' f g p q = f x p
by_result (Err e) P P' Q Q' f g p q = g e q
