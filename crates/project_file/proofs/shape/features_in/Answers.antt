use Rattle.std.proofs.Common.{arith}
use Rattle.toml.specs.View.{table_view}
use Rattle.project_file.proofs.ShapeLemmas.{too_many, are_features}
use Rattle.project_file.proofs.shape.features_in.Goals as goal

pub returns-then-len-gt-MOST_FEATURES : goal.returns-then-len-gt-MOST_FEATURES
returns-then-len-gt-MOST_FEATURES c =
    let are = rw c.in-Some.is at c.in_ok-features.ensures in
    too_many (table_view c.args.table.now) c.in-Some.features.items are (omega (arith, c.in-Some.features.ok.0))

pub returns : goal.returns
returns c =
    let are = rw c.in-Some.is at c.in_ok-features.ensures in
    are_features (table_view c.args.table.now) c.in-Some.features.items are (omega (arith, c.in-Some.features.ok.0))
