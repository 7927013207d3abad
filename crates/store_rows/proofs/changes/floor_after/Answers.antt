use Rattle.std.proofs.Common.{◌∙◌}
use Rattle.store_rows.proofs.Floors.{raised}
use Rattle.store_rows.proofs.changes.floor_after.Goals as goal

pub returns : goal.returns
returns c =
    raised c.args.floor c.get-2.result c.get.result c.at.result c.in-Some.snapshot c.args.snapshot.now c.in-Some.is (c.get.ensures.value ∙ c.floor.ensures)
    c.get-2.ensures.value c.get.ensures.least c.get.ensures.most c.if-get.false c.octets-octets.ensures.begins (c.at.ensures ∙ c.floor-2.ensures)
