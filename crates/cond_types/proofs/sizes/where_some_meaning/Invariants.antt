use Rattle.std.proofs.Common.{◌≡◌, ℕ, Bool, ◌||◌, drop}
use Rattle.cond_formula.specs.Conditions.{condition_of, value}
use Rattle.conditional.specs.Entries.{entries_of}
use Rattle.type_tables.specs.Forms.{file_name_form}
use Rattle.type_tables.specs.Seen.{seen_tables}
use Rattle.link_faults.specs.Measures.{some_so}
use Rattle.cond_types.specs.Sizes.{is_big_name}
use Rattle.cond_types.proofs.sizes.where_some_meaning.Given as goal

abbrev pub invariant-loop-meaning : goal.invariant-loop-meaning
invariant-loop-meaning l = record {
  so_far : (on : ℕ → Bool) → (value on (condition_of l.so_far) || some_so (is_big_name (seen_tables on l.tables)) on (entries_of file_name_form (drop l.meaning-index l.meanings)))
      ≡ some_so (is_big_name (seen_tables on l.tables)) on (entries_of file_name_form l.meanings);
}
