use Rattle.std.proofs.Common.{◌≡◌, ◌||◌, List, Bool, map, drop}
use Rattle.std.specs.String.{string_bytes}
use Rattle.cond_formula.specs.Features.{has}
use Rattle.cond_formula.specs.Conditions.{condition_of, value}
use Rattle.macro_table.specs.Features.{is_feature_on, is_on_feature}
use Rattle.macro_table.proofs.macros.Macros.when_feature.Given as goal

abbrev pub invariant-loop-number : goal.invariant-loop-number
invariant-loop-number l = (c : List Bool) →
    (value (has c) (condition_of l.on) || is_feature_on (has c) l.number (map string_bytes (drop l.number l.self.features.now)) l.name)
    ≡ is_on_feature (has c) l.self l.name
