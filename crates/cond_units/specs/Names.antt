-- What comes of the declarators of a declaration at file scope, as a configuration sees it (ISO/IEC 9899:2011, 6.7).
use Rattle.std.specs.Prelude.{ℕ, Bool, true, false, List, map}
use Rattle.cond_formula.specs.Conditions.{condition_of}
use Rattle.conditional.specs.Entries.{Entry}
use Rattle.c_tree.specs.declared.kinds.Kind.{Kind}
use Rattle.c_tree.specs.declared.kinds.Kind.TheVariants as k
use Rattle.c_tree.specs.Trees.{PlainTree, PlainTrees, leaf, node}
use Rattle.c_tree.specs.Grammar.{Role, declarator}
use Rattle.tree_derivations.specs.Derivations.{Derivation}
use Rattle.declarator_lists.specs.Lists.{Declared}
use Rattle.core_meaning.specs.UnitNames.{Storage, by_none, storage_of, declared_one, declared_from}
use Rattle.plain_objects.specs.PlainStates.{plain_storage}
use Rattle.cond_units.specs.Declaring.{IsInitialiser, Judged}
use Rattle.cond_units.specs.declared.storages.SaidStorage.{SaidStorage}

-- ---- functions

abbrev pub is_function_kind : Kind → Bool
is_function_kind k.FunctionDeclarator = true
is_function_kind kind = false

-- a declarator of a function
abbrev pub is_function : PlainTree → Bool
is_function (leaf token) = false
is_function (node kind parts) = is_function_kind kind

-- ---- all declarators

-- the name of one declarator, before the rest of a unit
abbrev pub one_name : ℕ → Storage → PlainTrees → Declared → Judged
one_name globals storage rest d unit ty = declared_one globals unit storage ty d.declarator d.initialiser rest

-- the names of a list of declarators
abbrev pub all_names : ℕ → Storage → PlainTrees → PlainTrees → Judged
all_names globals storage rest list unit ty = declared_from globals unit storage ty list rest

-- a declarator and its initialiser are derived from the grammar
pub record IsReady (role : Role) (d : Declared) : Type 0 where
  pub declares : Derivation (declarator role) d.declarator
  pub initialised : IsInitialiser d.initialiser

-- ---- storage

-- the storage that words say
abbrev pub storage_in : PlainTree → Storage
storage_in (leaf token) = by_none
storage_in (node kind words) = storage_of words

abbrev pub said_at : SaidStorage → Entry Storage
said_at said = record { when = condition_of said.when; what = plain_storage said.storage }

-- each storage, under its condition
abbrev pub said : List SaidStorage → List (Entry Storage)
said all = map said_at all
