use Rattle.std.proofs.Common.{◌∙◌, inl, [], ap, subst, arith}
use Rattle.std.specs.Prelude.{IsPermutation}
use Rattle.sqlite.specs.Effect.{Database}
use Rattle.sqlite.specs.Held.{state}
use Rattle.sqlite.specs.State.{HasCleanDisk}
use Rattle.sqlite.proofs.Callers.{never_commits, unchanged_then}
use Rattle.sqlite.proofs.StateLemmas.{survives_then}
use Rattle.acceptor_store.specs.Tables.{read_meta_text, read_votes_text, read_snapshot_text}
use Rattle.acceptor_store.specs.Statements.{shown_in}
use Rattle.acceptor_store.proofs.Reading.{meta_plain, votes_plain, snapshot_plain, shows_no_commit}
use Rattle.acceptor_store.proofs.statements.read_tables.Goals as goal

pub returns-in_err-metas-clause-survives : goal.returns-in_err-metas-clause-survives
returns-in_err-metas-clause-survives g c =
    shows_no_commit read_meta_text [] (state g.S.Store c.args.conn.now) (state g.S.Store c.read_meta.new.conn) (λ clean. meta_plain _ (inl c.requires)) c.read_meta.ensures.survives

pub returns-in_err-votes-clause-survives : goal.returns-in_err-votes-clause-survives
returns-in_err-votes-clause-survives g c =
    let old = state g.S.Store c.args.conn.now in
    let one = state g.S.Store c.read_meta.new.conn in
    let two = state g.S.Store c.read_votes.new.conn in
    let same = λ (clean : HasCleanDisk two). c.in_ok-metas.ensures.same (omega (arith, c.read_votes.ensures.survives.clean)) (inl c.requires) in
    survives_then old one two _ _ (λ _. ⊥) (λ clean db may. absurd (never_commits read_meta_text [] old db (meta_plain _ (inl c.requires)) may))
    (λ clean db may. absurd (never_commits read_votes_text [] one db (votes_plain _ (ap (λ (d : Database). d.schema) (same clean).0.now_is ∙ c.requires)) may))
    c.read_meta.ensures.survives c.read_votes.ensures.survives

pub returns-in_err-snapshots-clause-survives : goal.returns-in_err-snapshots-clause-survives
returns-in_err-snapshots-clause-survives g c =
    let old = state g.S.Store c.args.conn.now in
    let one = state g.S.Store c.read_meta.new.conn in
    let two = state g.S.Store c.read_votes.new.conn in
    let new = state g.S.Store c.read_snapshot.new.conn in
    let first = λ (clean : HasCleanDisk two). c.in_ok-metas.ensures.same (omega (arith, c.read_votes.ensures.survives.clean)) (inl c.requires) in
    let schema = λ (clean : HasCleanDisk two). ap (λ (d : Database). d.schema) (first clean).0.now_is ∙ c.requires in
    let second = λ (clean : HasCleanDisk new). c.in_ok-votes.ensures.same (omega (arith, c.read_snapshot.ensures.survives.clean))
    (schema (omega (arith, c.read_snapshot.ensures.survives.clean))) in
    survives_then old two new (λ _. ⊥) _ (λ _. ⊥) (λ clean db none. none)
    (λ clean db may. absurd (never_commits read_snapshot_text [] two db
    (snapshot_plain _ (ap (λ (d : Database). d.schema) (second clean).0.now_is ∙ schema (omega (arith, c.read_snapshot.ensures.survives.clean)))) may))
    (survives_then old one two _ _ (λ _. ⊥) (λ clean db may. absurd (never_commits read_meta_text [] old db (meta_plain _ (inl c.requires)) may))
    (λ clean db may. absurd (never_commits read_votes_text [] one db (votes_plain _ (schema clean)) may)) c.read_meta.ensures.survives c.read_votes.ensures.survives)
    c.read_snapshot.ensures.survives

pub returns-clause-shown : goal.returns-clause-shown
returns-clause-shown g c clean =
    let late : HasCleanDisk (state g.S.Store c.read_votes.new.conn) = omega (arith, c.read_snapshot.ensures.survives.clean) in
    let early : HasCleanDisk (state g.S.Store c.read_meta.new.conn) = omega (arith, c.read_votes.ensures.survives.clean, late) in
    let first = c.in_ok-metas.ensures.same early (inl c.requires) in
    let one = ap (λ (d : Database). d.schema) first.0.now_is ∙ c.requires in
    let second = c.in_ok-votes.ensures.same late one in
    let two = ap (λ (d : Database). d.schema) second.0.now_is ∙ one in
    record {
      metas = c.in_ok-metas.ensures.shown early (inl c.requires);
      votes = subst (λ (d : Database). IsPermutation (shown_in d.trees).votes c.in_ok-votes.votes.items) first.0.now_is (c.in_ok-votes.ensures.shown late one);
      snapshots = subst (λ (d : Database). IsPermutation (shown_in d.trees).snapshots c.in_ok-snapshots.snapshots.items) (second.0.now_is ∙ first.0.now_is)
          (c.in_ok-snapshots.ensures.shown clean two);
    }

pub returns-clause-same : goal.returns-clause-same
returns-clause-same g c clean =
    let late : HasCleanDisk (state g.S.Store c.read_votes.new.conn) = omega (arith, c.read_snapshot.ensures.survives.clean) in
    let early : HasCleanDisk (state g.S.Store c.read_meta.new.conn) = omega (arith, c.read_votes.ensures.survives.clean, late) in
    let first = c.in_ok-metas.ensures.same early (inl c.requires) in
    let one = ap (λ (d : Database). d.schema) first.0.now_is ∙ c.requires in
    let second = c.in_ok-votes.ensures.same late one in
    let two = ap (λ (d : Database). d.schema) second.0.now_is ∙ one in
    unchanged_then (state g.S.Store c.args.conn.now) (state g.S.Store c.read_votes.new.conn) (state g.S.Store c.read_snapshot.new.conn)
    (unchanged_then (state g.S.Store c.args.conn.now) (state g.S.Store c.read_meta.new.conn) (state g.S.Store c.read_votes.new.conn) first second)
    (c.in_ok-snapshots.ensures.same clean two)

pub returns-clause-survives : goal.returns-clause-survives
returns-clause-survives g c =
    let old = state g.S.Store c.args.conn.now in
    let one = state g.S.Store c.read_meta.new.conn in
    let two = state g.S.Store c.read_votes.new.conn in
    let new = state g.S.Store c.read_snapshot.new.conn in
    let first = λ (clean : HasCleanDisk two). c.in_ok-metas.ensures.same (omega (arith, c.read_votes.ensures.survives.clean)) (inl c.requires) in
    let schema = λ (clean : HasCleanDisk two). ap (λ (d : Database). d.schema) (first clean).0.now_is ∙ c.requires in
    let second = λ (clean : HasCleanDisk new). c.in_ok-votes.ensures.same (omega (arith, c.read_snapshot.ensures.survives.clean))
    (schema (omega (arith, c.read_snapshot.ensures.survives.clean))) in
    survives_then old two new (λ _. ⊥) _ (λ _. ⊥) (λ clean db none. none)
    (λ clean db may. absurd (never_commits read_snapshot_text [] two db
    (snapshot_plain _ (ap (λ (d : Database). d.schema) (second clean).0.now_is ∙ schema (omega (arith, c.read_snapshot.ensures.survives.clean)))) may))
    (survives_then old one two _ _ (λ _. ⊥) (λ clean db may. absurd (never_commits read_meta_text [] old db (meta_plain _ (inl c.requires)) may))
    (λ clean db may. absurd (never_commits read_votes_text [] one db (votes_plain _ (schema clean)) may)) c.read_meta.ensures.survives c.read_votes.ensures.survives)
    c.read_snapshot.ensures.survives
