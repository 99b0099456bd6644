use Rattle.std.proofs.Common.{◌≡◌, ℕ, Bool, ◌||◌, drop}
use Rattle.std.specs.List.{list_any}
use Rattle.cond_formula.specs.Conditions.{condition_of, value}
use Rattle.conditional.specs.Entries.{seen}
use Rattle.choice_expansions.specs.Expansions.{expanded}
use Rattle.type_tables.specs.Seen.{seen_tables}
use Rattle.cond_types.specs.Sizes.{is_big_declarator}
use Rattle.cond_types.proofs.sizes.where_some_expansion.Given as goal

abbrev pub invariant-loop-expansion : goal.invariant-loop-expansion
invariant-loop-expansion l = record {
  so_far : (on : ℕ → Bool) → (value on (condition_of l.so_far) || list_any (is_big_declarator (seen_tables on l.tables)) (seen on (expanded (drop l.expansion-index l.all))))
      ≡ list_any (is_big_declarator (seen_tables on l.tables)) (seen on (expanded l.all));
}
