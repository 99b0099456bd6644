use Rattle.std.proofs.Common.{◌≡◌, List, Bool, map, drop}
use Rattle.c_text.specs.Token.{plain_token}
use Rattle.cond_formula.specs.Features.{has}
use Rattle.cond_formula.specs.Conditions.{condition_of, value}
use Rattle.conditional.specs.Entries.{entries_of, seen}
use Rattle.macro_table.specs.PlainDefinitions.{plain_definition}
use Rattle.macro_table.specs.MacroTables.{meaning_among}
use Rattle.macro_table.specs.Features.{is_on_feature, macros_at}
use Rattle.cond_bodies.specs.CondMeanings.{plain_function}
use Rattle.cond_bodies.proofs.MeaningLemmas.{FoundSoFar}
use Rattle.cond_bodies.proofs.lookups.meanings_of.Given as goal

abbrev pub invariant-loop-definition : goal.invariant-loop-definition
invariant-loop-definition l = record {
  feature : (c : List Bool) → value (has c) (condition_of l.all.feature) ≡ is_on_feature (has c) l.macros l.name;
  found : (c : List Bool) → FoundSoFar (value (has c) (condition_of l.left)) (macros_at (has c) l.macros l.name) (meaning_among (has c) (entries_of plain_definition (drop l.definition-index l.definition-items)))
      (seen (has c) (entries_of (λ b. map plain_token b.now) l.all.objects.items)) (seen (has c) (entries_of plain_function l.all.functions.items));
}
