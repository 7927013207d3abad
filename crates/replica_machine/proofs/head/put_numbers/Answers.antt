use Rattle.std.proofs.Common.{◌≡◌, ◌<◌, ◌%◌, ℕ, [], ◌∷◌, ◌++◌, ap, ◌∙◌, arith}
use Rattle.std.specs.Int.{bytes_high_first}
use Rattle.replica_machine.proofs.Lists.{three_put}
use Rattle.replica_machine.proofs.head.put_numbers.Goals as goal

octet_is : (n : ℕ) → n < 256 → n ∷ [] ≡ bytes_high_first 1 n
octet_is n small = ap (λ m. m ∷ []) (let z : n ≡ n % 256 = omega arith in z)

pub returns-clause-ok : goal.returns-clause-ok
returns-clause-ok c =
    let old = c.args.out.now.items in
    let mid = c.extend_from_slice.new.self.items in
    let late = c.extend_from_slice-2.new.self.items in
    three_put (bytes_high_first 8 c.args.boot) (bytes_high_first 1 c.args.live) (bytes_high_first 8 c.args.taken) old mid late
    c.extend_from_slice-3.new.self.items
    (c.in_ok-extend_from_slice.ensures.items ∙ ap (λ l. old ++ l) c.to_be_bytes.ensures)
    (c.in_ok-extend_from_slice-2.ensures.items ∙ ap (λ l. mid ++ l) (c.to_be_bytes-2.ensures ∙ octet_is c.args.live c.ranges.live.fits))
    (c.in_ok-extend_from_slice-3.ensures.items ∙ ap (λ l. late ++ l) c.to_be_bytes-3.ensures)
