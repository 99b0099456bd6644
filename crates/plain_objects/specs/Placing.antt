-- Steps in declaring objects of file scope.
use Rattle.std.proofs.Common.{◌≡◌, ℕ, Bool, List}
use Rattle.std.specs.Prelude.{Option, is_some}
use Rattle.c_text.specs.Token.{PlainToken}
use Rattle.c_types.specs.Types.{PlainType}
use Rattle.c_tree.specs.declared.kinds.Kind.{Kind}
use Rattle.c_tree.specs.Trees.{PlainTree, PlainTrees}
use Rattle.core_meaning.specs.Checking.{file_entity, Checked, ◌>>=◌, give}
use Rattle.core_meaning.specs.Entities.{Scope, variable}
use Rattle.core_meaning.specs.Declarations.{object_type}
use Rattle.core_meaning.specs.UnitNames.{UnitState, Storage, with_scope, with_name, judged_global, defined_object, declared_object}
use Rattle.plain_scope.specs.Judgements.{Gives, RefusedAs}
use Rattle.plain_scope.specs.JudgementLaws.{gives_then, refused_first}
use Rattle.plain_scope.specs.declared.errors.ElabError.{ElabError}
use Rattle.plain_declarators.specs.Sequences.{gives_next, refused_next, refused_behind}
use Rattle.plain_structs.specs.Members.{member_bound, member_refused}

abbrev pub placed_object : ℕ → UnitState → Storage → PlainType → PlainToken → Option PlainTree → PlainTrees → Checked UnitState
placed_object globals unit storage whole name initialiser rest = do
  scope ← with_name unit.scope name (variable whole) storage
  judged ← judged_global storage (is_some initialiser) scope whole name rest
  defined_object globals (with_scope unit scope) storage whole name initialiser

abbrev pub typed_object : ℕ → UnitState → Storage → PlainType → Kind → PlainTrees → PlainToken → Option PlainTree → PlainTrees → Checked UnitState
typed_object globals unit storage ty kind parts name initialiser rest = do
  whole ← object_type unit.scope ty kind parts name initialiser
  placed_object globals unit storage whole name initialiser rest

pub placed_gives : (globals : ℕ) (unit : UnitState) (storage : Storage) (whole : PlainType) (name : PlainToken) (initialiser : Option PlainTree) (rest : PlainTrees) (scope : Scope) (x : UnitState) (before after : List ℕ → Bool) → with_name unit.scope name (variable whole) storage ≡ give scope → judged_global storage (is_some initialiser) scope whole name rest ≡ give tt → Gives (defined_object globals (with_scope unit scope) storage whole name initialiser) x before after → Gives (placed_object globals unit storage whole name initialiser rest) x before after
placed_gives globals unit storage whole name initialiser rest scope x before after named judged gives =
    gives_next (with_name unit.scope name (variable whole) storage) (λ s. judged_global storage (is_some initialiser) s whole name rest >>= (λ u. defined_object globals (with_scope unit s) storage whole name initialiser)) scope x before after named
    (gives_next (judged_global storage (is_some initialiser) scope whole name rest) (λ u. defined_object globals (with_scope unit scope) storage whole name initialiser) tt x before after judged gives)

pub name_refused : (globals : ℕ) (unit : UnitState) (storage : Storage) (whole : PlainType) (name : PlainToken) (initialiser : Option PlainTree) (rest : PlainTrees) (error : ElabError) → RefusedAs (with_name unit.scope name (variable whole) storage) error → RefusedAs (placed_object globals unit storage whole name initialiser rest) error
name_refused globals unit storage whole name initialiser rest error r =
    refused_first (with_name unit.scope name (variable whole) storage) (λ s. judged_global storage (is_some initialiser) s whole name rest >>= (λ u. defined_object globals (with_scope unit s) storage whole name initialiser)) error r

pub judged_refused : (globals : ℕ) (unit : UnitState) (storage : Storage) (whole : PlainType) (name : PlainToken) (initialiser : Option PlainTree) (rest : PlainTrees) (scope : Scope) (error : ElabError) → with_name unit.scope name (variable whole) storage ≡ give scope → RefusedAs (judged_global storage (is_some initialiser) scope whole name rest) error → RefusedAs (placed_object globals unit storage whole name initialiser rest) error
judged_refused globals unit storage whole name initialiser rest scope error named r =
    refused_next (with_name unit.scope name (variable whole) storage) (λ s. judged_global storage (is_some initialiser) s whole name rest >>= (λ u. defined_object globals (with_scope unit s) storage whole name initialiser)) scope error named
    (refused_first (judged_global storage (is_some initialiser) scope whole name rest) (λ u. defined_object globals (with_scope unit scope) storage whole name initialiser) error r)

pub definition_refused : (globals : ℕ) (unit : UnitState) (storage : Storage) (whole : PlainType) (name : PlainToken) (initialiser : Option PlainTree) (rest : PlainTrees) (scope : Scope) (error : ElabError) → with_name unit.scope name (variable whole) storage ≡ give scope → judged_global storage (is_some initialiser) scope whole name rest ≡ give tt → RefusedAs (defined_object globals (with_scope unit scope) storage whole name initialiser) error → RefusedAs (placed_object globals unit storage whole name initialiser rest) error
definition_refused globals unit storage whole name initialiser rest scope error named judged r =
    refused_next (with_name unit.scope name (variable whole) storage) (λ s. judged_global storage (is_some initialiser) s whole name rest >>= (λ u. defined_object globals (with_scope unit s) storage whole name initialiser)) scope error named
    (refused_next (judged_global storage (is_some initialiser) scope whole name rest) (λ u. defined_object globals (with_scope unit scope) storage whole name initialiser) tt error judged r)

-- an object by its type, behind the binding of its name
pub object_declared : (globals : ℕ) (unit : UnitState) (storage : Storage) (ty : PlainType) (kind : Kind) (parts : PlainTrees) (name : PlainToken) (initialiser : Option PlainTree) (rest : PlainTrees) (whole : PlainType) (x : UnitState) (before between after : List ℕ → Bool) → Gives (object_type unit.scope ty kind parts name initialiser) whole before between → Gives (placed_object globals unit storage whole name initialiser rest) x between after → Gives (declared_object globals unit storage ty kind parts name initialiser rest) x before after
object_declared globals unit storage ty kind parts name initialiser rest whole x before between after typed placed =
    member_bound (file_entity name.text) (λ u. typed_object globals unit storage ty kind parts name initialiser rest) x before after
    (gives_then (object_type unit.scope ty kind parts name initialiser) (λ w. placed_object globals unit storage w name initialiser rest) whole x before between after typed placed)

pub type_refused : (globals : ℕ) (unit : UnitState) (storage : Storage) (ty : PlainType) (kind : Kind) (parts : PlainTrees) (name : PlainToken) (initialiser : Option PlainTree) (rest : PlainTrees) (error : ElabError) → RefusedAs (object_type unit.scope ty kind parts name initialiser) error → RefusedAs (declared_object globals unit storage ty kind parts name initialiser rest) error
type_refused globals unit storage ty kind parts name initialiser rest error r =
    member_refused (file_entity name.text) (λ u. typed_object globals unit storage ty kind parts name initialiser rest) error
    (refused_first (object_type unit.scope ty kind parts name initialiser) (λ w. placed_object globals unit storage w name initialiser rest) error r)

pub placing_refused : (globals : ℕ) (unit : UnitState) (storage : Storage) (ty : PlainType) (kind : Kind) (parts : PlainTrees) (name : PlainToken) (initialiser : Option PlainTree) (rest : PlainTrees) (whole : PlainType) (before between : List ℕ → Bool) (error : ElabError) → Gives (object_type unit.scope ty kind parts name initialiser) whole before between → RefusedAs (placed_object globals unit storage whole name initialiser rest) error → RefusedAs (declared_object globals unit storage ty kind parts name initialiser rest) error
placing_refused globals unit storage ty kind parts name initialiser rest whole before between error typed r =
    member_refused (file_entity name.text) (λ u. typed_object globals unit storage ty kind parts name initialiser rest) error
    (refused_behind (object_type unit.scope ty kind parts name initialiser) (λ w. placed_object globals unit storage w name initialiser rest) whole before between error typed r)
