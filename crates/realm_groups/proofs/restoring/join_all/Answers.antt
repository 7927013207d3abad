use Rattle.std.proofs.Common.{◌≡◌, ◌+◌, ◌∷◌, drop, ap, sym, ◌∙◌}
use Rattle.std.proofs.lemmas.List.{drop_more}
use Rattle.realm_groups.proofs.PutGroups.{joined_more}
use Rattle.realm_groups.proofs.restoring.join_all.Goals as goal

pub loop-session-preserved : goal.loop-session-preserved
loop-session-preserved g c =
    let sessions = c.args.sessions.now in
    let i = c.loop-session.session-index in
    let session = c.session-item.result in
    let split : drop i sessions ≡ session ∷ drop (i + 1) sessions =
    drop_more sessions i session c.loop-session-test.true ∙ ap (λ s. s ∷ drop (i + 1) sessions) (sym c.session-item.is) in
    joined_more g.G.Group.id_of g.G.Group.sessions_of g.G.Group.with c.loop-session.groups c.join_at.new.self c.args.id session
    (drop (i + 1) sessions) (drop i sessions) split c.if-has.ensures.found c.in_ok-join_at.ensures.ok
    ∙ c.loop-session.invariant
