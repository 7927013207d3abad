use Rattle.std.proofs.Common.{◌≡◌, ◌≤◌, ◌+◌, ℕ, false, true, Some, length, subst, cond, arith}
use Rattle.std.specs.Map.{lookup}
use Rattle.indexmap.specs.IndexMap.{spare}
use Rattle.world_packets.specs.declared.numbers.Key.{Key}
use Rattle.world_packets.specs.Numbers.{same_key}
use Rattle.world_packets.proofs.Putting.{again, kept_new}
use Rattle.world_packets.proofs.sent.list.Goals as goal

pub returns-in_default-clause-index : goal.returns-in_default-clause-index
returns-in_default-clause-index g c =
    again c.args.packets.now c.args.places.now.entries c.requires.index c.args.packet.now g.B.Body.same (record { reflexive = g.met.B.Body.reflexive; sound = g.met.B.Body.sound }) c.in_default.ensures

pub returns-clause-index : goal.returns-clause-index
returns-clause-index g c =
    let s = c.in-Some.ensures in
    kept_new c.args.packets.now c.args.places.now.entries c.requires.index c.args.packet.now c.in-Some.ordinal s.1 s.2 s.3 c.insert.new.self.entries
    (subst (λ n. (q : Key) → lookup (same_key q) c.insert.new.self.entries
    ≡ cond (same_key (record { numbers = n; ordinal = c.in-Some.ordinal }) q) (Some (length c.args.packets.now)) (lookup (same_key q) c.args.places.now.entries))
    c.of-numbers.ensures c.in-Ok.ensures.updates.0)
    (subst (λ n. lookup (same_key (record { numbers = n; ordinal = c.in-Some.ordinal })) c.insert.new.self.entries ≡ Some (length c.args.packets.now))
    c.of-numbers.ensures c.in-Ok.ensures.updates.1)

off : false ≡ true → ⊥
off e = cc

fewer : (n : ℕ) → n ≤ n + 1
fewer n = omega arith

pub unreachable-requires : goal.unreachable-requires
unreachable-requires g c = off (c.in_default-insert.ensures.succeeds c.requires.spare)

pub returns-in_default-clause-spare : goal.returns-in_default-clause-spare
returns-in_default-clause-spare g c = fewer (spare c.args.places.now)

pub returns-clause-spare : goal.returns-clause-spare
returns-clause-spare g c = c.insert.ensures.spare
