-- The member at the place.
use Rattle.std.proofs.Common.{◌≡◌, ◌≤◌, ◌<◌, ◌-◌, suc, Some, None, refl, sym, ◌∙◌, subst, arith, List, length}
use Rattle.std.specs.Prelude.{slice_index_or}
use Rattle.std.proofs.lemmas.Option.{slice_get_read}
use Rattle.cluster_world.specs.Members.{MemberState, held_of}
use Rattle.cluster_world.specs.StandsAt.{Held, machine_at}
use Rattle.cluster_world.specs.World.{node_at, absent, played}
use Rattle.cluster_world.proofs.Reading.{node_there, machine_there, node_past, machine_past, has_log_at, none_down}
use Rattle.cluster_world.proofs.world.World.member.Goals as goal

pub returns-in-Some-clause-node : goal.returns-in-Some-clause-node
returns-in-Some-clause-node g c =
    let number : c.args.node ≡ suc (c.args.node - 1) = omega (arith, c.if-node-eq0.false) in
    subst (λ (w : Held _ _ _). node_at w.nodes c.args.node ≡ c.in-Some.member.now.node) c.self.view_is
    (node_there c.self.inside.list.items c.args.node (c.args.node - 1) c.in-Some.member.now number
    (slice_get_read c.self.inside.list.items (length c.self.inside.list.items) (c.args.node - 1) c.in-Some.member.now refl
    (subst (λ (l : List (MemberState _ _ _)). (c.args.node - 1) < length l) c.deref.ensures.value c.in-Some.ensures.lookup.3.0)
    (subst (λ (l : List (MemberState _ _ _)). c.in-Some.member.now ≡ slice_index_or l (c.args.node - 1) c.in-Some.member.now) c.deref.ensures.value
    c.in-Some.ensures.lookup.1)))

pub returns-in-Some-clause-machine : goal.returns-in-Some-clause-machine
returns-in-Some-clause-machine g c =
    let number : c.args.node ≡ suc (c.args.node - 1) = omega (arith, c.if-node-eq0.false) in
    subst (λ (w : Held _ _ _). machine_at w.machines c.args.node ≡ Some c.in-Some.member.now.machine) c.self.view_is
    (machine_there c.self.inside.list.items c.args.node (c.args.node - 1) c.in-Some.member.now number
    (slice_get_read c.self.inside.list.items (length c.self.inside.list.items) (c.args.node - 1) c.in-Some.member.now refl
    (subst (λ (l : List (MemberState _ _ _)). (c.args.node - 1) < length l) c.deref.ensures.value c.in-Some.ensures.lookup.3.0)
    (subst (λ (l : List (MemberState _ _ _)). c.in-Some.member.now ≡ slice_index_or l (c.args.node - 1) c.in-Some.member.now) c.deref.ensures.value
    c.in-Some.ensures.lookup.1)))

pub returns-in-Some-clause-log : goal.returns-in-Some-clause-log
returns-in-Some-clause-log g c =
    let number : c.args.node ≡ suc (c.args.node - 1) = omega (arith, c.if-node-eq0.false) in
    let at = slice_get_read c.self.inside.list.items (length c.self.inside.list.items) (c.args.node - 1) c.in-Some.member.now refl
    (subst (λ (l : List (MemberState _ _ _)). (c.args.node - 1) < length l) c.deref.ensures.value c.in-Some.ensures.lookup.3.0)
    (subst (λ (l : List (MemberState _ _ _)). c.in-Some.member.now ≡ slice_index_or l (c.args.node - 1) c.in-Some.member.now) c.deref.ensures.value
    c.in-Some.ensures.lookup.1) in
    let w = held_of c.self.inside.members c.self.inside.list.items c.self.inside.sent.packets c.self.inside.made.items c.self.inside.first.items in
    let i = c.self.invariant.1 in
    has_log_at w (played g.M.Body.Body.same c.self.inside.members i.0) i.1 c.args.node c.in-Some.member.now.node c.in-Some.member.now.machine
    (node_there c.self.inside.list.items c.args.node (c.args.node - 1) c.in-Some.member.now number at)
    (machine_there c.self.inside.list.items c.args.node (c.args.node - 1) c.in-Some.member.now number at)

pub returns-in-Some-clause-down : goal.returns-in-Some-clause-down
returns-in-Some-clause-down g c =
    let number : c.args.node ≡ suc (c.args.node - 1) = omega (arith, c.if-node-eq0.false) in
    let at = slice_get_read c.self.inside.list.items (length c.self.inside.list.items) (c.args.node - 1) c.in-Some.member.now refl
    (subst (λ (l : List (MemberState _ _ _)). (c.args.node - 1) < length l) c.deref.ensures.value c.in-Some.ensures.lookup.3.0)
    (subst (λ (l : List (MemberState _ _ _)). c.in-Some.member.now ≡ slice_index_or l (c.args.node - 1) c.in-Some.member.now) c.deref.ensures.value
    c.in-Some.ensures.lookup.1) in
    let w = held_of c.self.inside.members c.self.inside.list.items c.self.inside.sent.packets c.self.inside.made.items c.self.inside.first.items in
    let i = c.self.invariant.1 in
    none_down g.M.Body.Body.same w i.0 i.1 c.args.node c.in-Some.member.now.node
    (node_there c.self.inside.list.items c.args.node (c.args.node - 1) c.in-Some.member.now number at)

pub returns-in-None-clause-node : goal.returns-in-None-clause-node
returns-in-None-clause-node g c =
    let number : c.args.node ≡ suc (c.args.node - 1) = omega (arith, c.if-node-eq0.false) in
    subst (λ (w : Held _ _ _). node_at w.nodes c.args.node ≡ absent) c.self.view_is
    (node_past c.self.inside.list.items c.args.node (c.args.node - 1) number
    (subst (λ (l : List (MemberState _ _ _)). length l ≤ (c.args.node - 1)) c.deref.ensures.value (omega (arith, c.in-None.ensures.lookup.3))))

pub returns-in-None-clause-machine : goal.returns-in-None-clause-machine
returns-in-None-clause-machine g c =
    let number : c.args.node ≡ suc (c.args.node - 1) = omega (arith, c.if-node-eq0.false) in
    subst (λ (w : Held _ _ _). machine_at w.machines c.args.node ≡ None) c.self.view_is
    (machine_past c.self.inside.list.items c.args.node (c.args.node - 1) number
    (subst (λ (l : List (MemberState _ _ _)). length l ≤ (c.args.node - 1)) c.deref.ensures.value (omega (arith, c.in-None.ensures.lookup.3))))

pub returns-in-Some-clause-me : goal.returns-in-Some-clause-me
returns-in-Some-clause-me g c =
    let number : c.args.node ≡ suc (c.args.node - 1) = omega (arith, c.if-node-eq0.false) in
    let each = c.self.invariant.0.each (c.args.node - 1) c.in-Some.member.now
    (slice_get_read c.self.inside.list.items (length c.self.inside.list.items) (c.args.node - 1) c.in-Some.member.now refl
    (subst (λ (l : List (MemberState _ _ _)). (c.args.node - 1) < length l) c.deref.ensures.value c.in-Some.ensures.lookup.3.0)
    (subst (λ (l : List (MemberState _ _ _)). c.in-Some.member.now ≡ slice_index_or l (c.args.node - 1) c.in-Some.member.now) c.deref.ensures.value
    c.in-Some.ensures.lookup.1)) in
    each.0 ∙ sym number
