use Rattle.std.proofs.Common.{◌≡◌, ℕ, Bool, ◌&&◌, ◌||◌, drop}
use Rattle.std.specs.List.{list_any}
use Rattle.cond_formula.specs.Conditions.{condition_of, value}
use Rattle.conditional.specs.declared.entries.Guarded.{Guarded}
use Rattle.core_meaning.specs.Entities.{Sort}
use Rattle.type_tables.specs.declared.entries.FileName.{FileName}
use Rattle.type_tables.specs.declared.tables.Tables.{Tables}
use Rattle.link_faults.specs.Gathered.{meaning_so, some_declared}
use Rattle.link_faults.proofs.gathered.with_meanings.Given as goal

abbrev pub invariant-loop-entry : goal.invariant-loop-entry
invariant-loop-entry l = (on : ℕ → Bool) (tables : Tables) (test : Sort → Bool) →
    let here = λ (e : Guarded FileName). value on (condition_of l.present) && meaning_so on tables test e in
    (some_declared on tables test l.all.items || list_any here (drop l.entry-index l.meanings))
    ≡ (some_declared on tables test l.fn.so_far.items || list_any here l.meanings)
