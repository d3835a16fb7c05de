-- `panel_rows::put_behind` meets its contract: the line that ends a list, or the rows with the tally of the drawing.
use Rattle.sheet.proofs.Owned.{owned}
use Rattle.joints.proofs.Lawful.{lawful_counted}
use Rattle.panel_rows.proofs.Behind.{list_behind, rows_behind}
use Rattle.panel_rows.proofs.rows.put_behind.Goals as goal

pub returns-then-list : goal.returns-then-list
returns-then-list c = list_behind _ c.if-list.true c.put_byte-p.ensures c.put_byte.ensures

pub tally-t-requires : goal.tally-t-requires
tally-t-requires c = lawful_counted c.requires.lawful (owned c.args.d _ c.well_formed.1.1.1.0.1.1)

pub returns : goal.returns
returns c = rows_behind _ c.if-list.false c.tally-t.ensures c.put_rows.ensures
