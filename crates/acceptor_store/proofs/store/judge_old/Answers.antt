use Rattle.std.proofs.Common.{◌≡◌, ◌∙◌, [], inl, inr, sym, ap}
use Rattle.sqlite.specs.Held.{state}
use Rattle.store_rows.specs.Rows.{is_other_version}
use Rattle.store_keeper.specs.declared.fault.KeeperFault.TheVariants.{Damaged, Version}
use Rattle.acceptor_store.specs.Tables.{read_meta_text}
use Rattle.acceptor_store.proofs.Reading.{meta_plain, shows_no_commit}
use Rattle.acceptor_store.proofs.Telling.{versions_same}
use Rattle.acceptor_store.proofs.Refusing.{below_conn, below_judged, conn_is_none}
use Rattle.acceptor_store.proofs.store.judge_old.Goals as goal

pub returns-in-Ok-clause-open : goal.returns-in-Ok-clause-open
returns-in-Ok-clause-open g c clean unfit = (c.in-Ok.ensures.same clean (inr c.requires)).0.was_open

pub returns-in-Ok-clause-version : goal.returns-in-Ok-clause-version
returns-in-Ok-clause-version g c clean version =
    let shown = versions_same ((state g.S.Store c.args.conn.now).now.trees 0) c.in-Ok.metas.items (c.in-Ok.ensures.shown clean (inr c.requires)) in
    (inr c.requires, sym shown ∙ ap is_other_version (sym c.as_slice.ensures.value) ∙ c.version_or_damage.ensures.version.0 version)

pub returns-in-Ok-clause-damaged : goal.returns-in-Ok-clause-damaged
returns-in-Ok-clause-damaged g c clean damaged other =
    let shown = versions_same ((state g.S.Store c.args.conn.now).now.trees 0) c.in-Ok.metas.items (c.in-Ok.ensures.shown clean (inr c.requires)) in
    let version = c.version_or_damage.ensures.version.1 (ap is_other_version c.as_slice.ensures.value ∙ shown ∙ other.1) in
    let both : Damaged ≡ Version = sym damaged ∙ version in
    absurd cc

pub returns-in-Ok-clause-survives : goal.returns-in-Ok-clause-survives
returns-in-Ok-clause-survives g c =
    shows_no_commit read_meta_text [] (state g.S.Store c.args.conn.now) (state g.S.Store c.read_meta.new.conn) (λ clean. meta_plain _ (inr c.requires)) c.read_meta.ensures.survives

pub returns-in-Ok-clause-below : goal.returns-in-Ok-clause-below
returns-in-Ok-clause-below g c = below_judged c.version_or_damage.result c.version_or_damage.ensures.fault

pub returns-in-Err-clause-open : goal.returns-in-Err-clause-open
returns-in-Err-clause-open g c clean unfit = conn_is_none c.in-Err.fault c.in-Err.ensures.fault unfit

pub returns-in-Err-clause-version : goal.returns-in-Err-clause-version
returns-in-Err-clause-version g c clean version = conn_is_none c.in-Err.fault c.in-Err.ensures.fault (inr version)

pub returns-in-Err-clause-damaged : goal.returns-in-Err-clause-damaged
returns-in-Err-clause-damaged g c clean damaged = conn_is_none c.in-Err.fault c.in-Err.ensures.fault (inl damaged)

pub returns-in-Err-clause-survives : goal.returns-in-Err-clause-survives
returns-in-Err-clause-survives g c =
    shows_no_commit read_meta_text [] (state g.S.Store c.args.conn.now) (state g.S.Store c.read_meta.new.conn) (λ clean. meta_plain _ (inr c.requires)) c.read_meta.ensures.survives

pub returns-in-Err-clause-below : goal.returns-in-Err-clause-below
returns-in-Err-clause-below g c = below_conn c.in-Err.fault c.in-Err.ensures.fault
