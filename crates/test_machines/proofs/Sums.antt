-- A sum that is kept as octets is read again.
use Rattle.std.proofs.Common.{◌≡◌, ℕ, ◌<◌, leb, sym, ap, ◌∙◌, arith, lit<, [], Some}
use Rattle.std.specs.Int.{bytes_high_first}
use Rattle.std.proofs.lemmas.Bool.{and_from, le-leb}
use Rattle.std.proofs.lemmas.List.{append-nil}
use Rattle.command_codec.specs.Entry.{whole}
use Rattle.command_codec.specs.Number.{number_octets, number_reading}
use Rattle.command_codec.proofs.Numbers.{number_again}
use Rattle.test_machines.specs.Sum.{sum_form, saved_sum, of_whole, loaded_sum}

pub sum_again : (sum : ℕ) → sum < 18446744073709551616 → loaded_sum (saved_sum sum) ≡ Some sum
unfolding number_octets
sum_again sum within =
    ap (λ r. of_whole (whole r)) (ap (λ octets. number_reading sum_form octets) (sym (append-nil (bytes_high_first 8 sum)))
    ∙ number_again sum_form sum [] (lit< tt)
    (and_from (leb 0 sum) (leb sum 18446744073709551615) (le-leb 0 sum (omega arith)) (le-leb sum 18446744073709551615 (omega arith))))
