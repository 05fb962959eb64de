-- Either walk is its rule.
use Rattle.patterns.specs.Standing.{pattern_in}
use Rattle.engine.proofs.WalkLaws.{created_walks, matched_walks}
use Rattle.engine.proofs.walking.walk_row.Goals as goal

pub returns-then-create : goal.returns-then-create
returns-then-create c =
    created_walks c.args.ground.now.kinds.now (pattern_in c.args.ground.now.rows.now c.args.row) c.args.start c.if-create.true c.create_row.ensures

pub returns-else-create : goal.returns-else-create
returns-else-create c =
    matched_walks c.args.ground.now.kinds.now (pattern_in c.args.ground.now.rows.now c.args.row) c.args.start c.if-create.false c.match_row.ensures
