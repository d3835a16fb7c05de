-- The five edits as a caller meets them: "9: the lent drawing isn't lawful", and then as `redraw` has them.
-- "Order: 10, 9, 4, 1, 2, 3, 5, 6, 7, 8; the first that applies.", with 11 "straight after 7" (document 02, P4).
use Rattle.sheet.specs.declared.Drawing.{Drawing}
use Rattle.sheet.specs.declared.Tally.{Tally}
use Rattle.rules.specs.Check.{lawful}
use Rattle.redraw.specs.declared.Edited.{Edited}
use Rattle.redraw.specs.Calls.{refused_unless}

-- the answer e, if the drawing is lawful
unfoldable pub checked : Drawing → Tally → Edited → Edited
checked d t e = refused_unless (lawful d) 9 d t e
