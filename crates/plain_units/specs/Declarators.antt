-- The first steps in judging the declarators of a declaration at file scope.
use Rattle.std.proofs.Common.{ℕ}
use Rattle.std.specs.Prelude.{Option, Some, None, if◌then◌else◌}
use Rattle.c_text.specs.Token.{PlainToken}
use Rattle.c_types.specs.Types.{PlainType}
use Rattle.c_tree.specs.declared.kinds.Kind.{Kind}
use Rattle.c_tree.specs.declared.kinds.Kind.TheVariants as k
use Rattle.c_tree.specs.declared.terminals.Terminal.TheVariants as t
use Rattle.c_tree.specs.Trees.{PlainTree, PlainTrees, none, more}
use Rattle.core_meaning.specs.Checking.{Checked, broken}
use Rattle.core_meaning.specs.UnitNames.{UnitState, Storage, declared_function, declared_object, declared_one}
use Rattle.plain_scope.specs.Parts.{is_word}
use Rattle.plain_declarations.specs.Locals.{initialiser_by}

-- a function or an object, by the kind of its declarator
abbrev pub declared_by_kind : ℕ → UnitState → Storage → PlainType → Kind → PlainTrees → PlainToken → Option PlainTree → PlainTrees → Checked UnitState
declared_by_kind globals unit storage ty k.FunctionDeclarator parts name initialiser rest = declared_function unit storage ty parts name initialiser
declared_by_kind globals unit storage ty kind parts name initialiser rest = declared_object globals unit storage ty kind parts name initialiser rest

-- the first declarator of a list, with what initialises it
abbrev pub declared_first : ℕ → UnitState → Storage → PlainType → PlainTrees → PlainTrees → Checked UnitState
declared_first globals unit storage ty none rest = broken
declared_first globals unit storage ty (more tree none) rest = declared_one globals unit storage ty tree None rest
declared_first globals unit storage ty (more tree (more sign none)) rest = broken
declared_first globals unit storage ty (more tree (more sign (more next others))) rest = declared_one globals unit storage ty tree (initialiser_by sign next) rest

-- the first declarator of a list, what initialises it, and how many trees of the list both are
pub record First : Type 0 where
  pub tree : PlainTree
  pub initialiser : Option PlainTree
  pub size : ℕ

abbrev pub first_as : PlainTree → Option PlainTree → ℕ → First
first_as tree initialiser size = record { tree = tree; initialiser = initialiser; size = size }

abbrev pub first_declarator : PlainTrees → Option First
first_declarator none = None
first_declarator (more tree none) = Some (first_as tree None 1)
first_declarator (more tree (more sign none)) = None
first_declarator (more tree (more sign (more next others))) = Some (first_as tree (initialiser_by sign next) (if is_word t.Assign sign then 3 else 1))
