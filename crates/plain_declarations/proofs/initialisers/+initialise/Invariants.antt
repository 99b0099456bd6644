use Rattle.std.proofs.Common.{◌≡◌, ◌/◌, ◌%◌, ◌+◌, ◌++◌, map, length}
use Rattle.c_text.specs.Token.{plain_token}
use Rattle.c_types.specs.Types.{plain_type}
use Rattle.c_tree.specs.Trees.{plain_trees}
use Rattle.core_meaning.specs.Plain.{path_from}
use Rattle.core_meaning.specs.Constancy.{initial_entries}
use Rattle.plain_scope.specs.PlainScope.{plain_scope, uses_of}
use Rattle.plain_declarations.specs.PlainDeclared.{plain_initial}
use Rattle.plain_declarations.specs.Entries.{globals_if, entries_from}
use Rattle.plain_declarators.specs.Progress.{Continues}
use Rattle.plain_declarations.proofs.initialisers.+initialise.Given as goal

abbrev pub invariant-entries-loop-number : goal.invariant-entries-loop-number
invariant-entries-loop-number l = record {
  all : l.number-end ≡ length l.list / 2 + length l.list % 2;
  so_far : Continues
      (initial_entries (plain_scope l.scope) (globals_if l.constant) (plain_type l.ty) (path_from l.path) 0 (plain_trees l.list) (plain_token l.behind))
      (entries_from (plain_scope l.scope) (globals_if l.constant) (plain_type l.ty) (path_from l.path) l.number l.list (plain_token l.behind))
      (λ others. map plain_initial l.found.items ++ others)
      (uses_of l.initial.used)
      (uses_of l.used);
}
