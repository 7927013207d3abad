use Rattle.std.proofs.Common.{◌∙◌, sym}
use Rattle.store_rows.proofs.Within.{version_below, damaged_below, damaged_below_err}
use Rattle.store_rows.proofs.Showing.{reads_version, reads_whole, reads_damaged, reads_no_snapshot}
use Rattle.store_rows.proofs.rows.read_rows.Goals as goal

pub returns-then-is_other_version-clause-fault : goal.returns-then-is_other_version-clause-fault
returns-then-is_other_version-clause-fault g c = λ _.
    reads_version g.C.Coder.reading c.args.metas.now c.args.votes.items c.args.snapshots.now (sym c.is_other_version.ensures ∙ c.if-is_other_version.true)

pub returns-then-is_other_version-clause-below : goal.returns-then-is_other_version-clause-below
returns-then-is_other_version-clause-below g c = version_below

pub returns-in-Ok-clause-rows : goal.returns-in-Ok-clause-rows
returns-in-Ok-clause-rows g c =
    reads_whole g.C.Coder.reading c.args.metas.now c.args.votes.items c.args.snapshots.now (sym c.is_other_version.ensures ∙ c.if-is_other_version.false)
    c.in-Ok.snapshot c.read_beside.result c.in-Ok.ensures.snapshot c.read_beside.ensures.rows

pub returns-in-Ok-clause-fault : goal.returns-in-Ok-clause-fault
returns-in-Ok-clause-fault g c =
    reads_damaged g.C.Coder.reading c.args.metas.now c.args.votes.items c.args.snapshots.now (sym c.is_other_version.ensures ∙ c.if-is_other_version.false)
    c.in-Ok.snapshot c.read_beside.result c.in-Ok.ensures.snapshot c.read_beside.ensures.fault

pub returns-in-Ok-clause-below : goal.returns-in-Ok-clause-below
returns-in-Ok-clause-below g c = damaged_below_err _ c.read_beside.result c.read_beside.ensures.fault

pub returns-in-Err-clause-fault : goal.returns-in-Err-clause-fault
returns-in-Err-clause-fault g c =
    reads_no_snapshot g.C.Coder.reading c.args.metas.now c.args.votes.items c.args.snapshots.now (sym c.is_other_version.ensures ∙ c.if-is_other_version.false)
    c.in-Err.fault c.in-Err.ensures.fault

pub returns-in-Err-clause-below : goal.returns-in-Err-clause-below
returns-in-Err-clause-below g c = damaged_below c.in-Err.fault _ c.in-Err.ensures.fault
