-- The types of parameters, where structs have the numbers of the tables.
use Rattle.std.proofs.Common.{◌≡◌, ℕ, Bool, true, false, not, ◌&&◌, ◌||◌, List, refl, sym, ap, ap₂, ◌∙◌, if◌then◌else◌}
use Rattle.std.specs.Prelude.{Option, Result, Ok, Err, is_ok}
use Rattle.c_text.specs.Token.{PlainToken}
use Rattle.c_types.specs.Types.{PlainType, void, char, unsigned_char, int, unsigned_int, long, unsigned_long, pointer_to, array_of, structure}
use Rattle.c_tree.specs.declared.kinds.Kind.{Kind}
use Rattle.c_tree.specs.declared.kinds.Kind.TheVariants as k
use Rattle.c_tree.specs.declared.terminals.Terminal.TheVariants as t
use Rattle.c_tree.specs.Trees.{PlainTree, PlainTrees}
use Rattle.cond_declarators.proofs.DeclaratorTypes.{starred_renumbered, starred_there, complete_followed}
use Rattle.cond_declarators.proofs.There.{Whole}
use Rattle.cond_sizes.specs.declared.elements.Count.{Count}
use Rattle.cond_sizes.specs.Sizes.{plain_count}
use Rattle.conditional.specs.Judgements.{fine, refused, checked}
use Rattle.core_meaning.specs.declared.refusals.TypeKind.TheVariants.{Incomplete}
use Rattle.core_meaning.specs.Checking as judging
use Rattle.core_meaning.specs.Checking.{◌>>=◌, give, unless_so}
use Rattle.core_meaning.specs.Declarations.{starred, behind_word, count_of_size, is_left_out, size_of_parameter, parameter_type, may_be_parameter}
use Rattle.core_meaning.specs.Entities.{Struct, Scope}
use Rattle.core_meaning.specs.Expressions.{is_void}
use Rattle.core_meaning.specs.Typing.{is_complete}
use Rattle.operand_rules.specs.declared.operands.Refused.{Refused}
use Rattle.operand_rules.specs.PlainOperandTypes.{reason}
use Rattle.operand_types.specs.OperandTypes.{outcome_as, renumbered}
use Rattle.type_tables.specs.Tables.{Tables, is_complete_type}
use Rattle.type_tables.specs.Follows.{IsThere, Follows}
use Rattle.cond_parameters.specs.Types.{is_fine}

-- ---- sizes

pub constant_size : (r : Result Count Refused) (m : judging.Checked ℕ) → checked plain_count reason r ≡ outcome_as (λ (n : ℕ). n) m → is_ok r ≡ is_fine m
constant_size (Ok n) (judging.fine m bindings) h = refl
constant_size (Ok n) (judging.refused kind token) h = absurd cc
constant_size (Ok n) judging.broken h = absurd cc
constant_size (Err e) (judging.fine m bindings) h = absurd cc
constant_size (Err e) (judging.refused kind token) h = refl
constant_size (Err e) judging.broken h = refl

pub size_given : (scope : Scope) (name : PlainToken) (size : Option PlainTree) → is_left_out size ≡ false → is_fine (count_of_size scope name size) ≡ is_fine (size_of_parameter scope name size)
size_given scope name size is = sym (ap (λ b. is_fine (if b then give 0 else count_of_size scope name size)) is)

-- ---- types by declarators

arrays : (by : ℕ → ℕ) (element : PlainType) (name : PlainToken) (complete : Bool) (count : judging.Checked ℕ)
    → (if is_fine count && complete then fine (pointer_to (renumbered by element)) else refused tt)
    ≡ outcome_as (renumbered by) (unless_so complete Incomplete name >>= (λ u. count >>= (λ n. give (pointer_to element))))
arrays by element name true (judging.fine n bindings) = refl
arrays by element name true (judging.refused kind token) = refl
arrays by element name true judging.broken = refl
arrays by element name false (judging.fine n bindings) = refl
arrays by element name false (judging.refused kind token) = refl
arrays by element name false judging.broken = refl

pub array_judged :
    (tables : Tables) (scope : Scope) (f : Follows tables scope) (ty : PlainType) (parts : PlainTrees) (name : PlainToken) → IsThere scope.structs ty
    → (element : PlainType) → element ≡ starred parts (renumbered f.by ty) → (constant complete : Bool) → constant ≡ is_fine (size_of_parameter scope name (behind_word t.OpenBracket parts))
    → complete ≡ is_complete_type tables element
    → (if constant && complete then fine (pointer_to element) else refused tt) ≡ outcome_as (renumbered f.by) (parameter_type scope ty k.ArrayDeclarator parts name)
array_judged tables scope f ty parts name there element is constant complete sized completes =
    let same : element ≡ renumbered f.by (starred parts ty) = is ∙ sym (starred_renumbered f.by parts ty) in
    ap₂ (λ a b. if a && b then fine (pointer_to element) else refused tt) sized
    (completes ∙ ap (is_complete_type tables) same ∙ complete_followed tables scope f (starred parts ty) (starred_there scope.structs parts ty there))
    ∙ ap (λ e. if is_fine (size_of_parameter scope name (behind_word t.OpenBracket parts)) && is_complete scope.structs (starred parts ty) then fine (pointer_to e) else refused tt) same
    ∙ arrays f.by (starred parts ty) name (is_complete scope.structs (starred parts ty)) (size_of_parameter scope name (behind_word t.OpenBracket parts))

arrays_there : (structs : List Struct) (complete : Bool) (name : PlainToken) (element : PlainType) (count : judging.Checked ℕ) → IsThere structs element
    → Whole (IsThere structs) (unless_so complete Incomplete name >>= (λ u. count >>= (λ n. give (pointer_to element))))
arrays_there structs true name element (judging.fine n bindings) there = there
arrays_there structs true name element (judging.refused kind token) there = tt
arrays_there structs true name element judging.broken there = tt
arrays_there structs false name element count there = tt

-- the struct that the type is made of is there
pub types_there : (scope : Scope) (ty : PlainType) → IsThere scope.structs ty → (kind : Kind) (parts : PlainTrees) (name : PlainToken) → Whole (IsThere scope.structs) (parameter_type scope ty kind parts name)
types_there scope ty there k.ArrayDeclarator parts name =
    arrays_there scope.structs (is_complete scope.structs (starred parts ty)) name (starred parts ty) (size_of_parameter scope name (behind_word t.OpenBracket parts)) (starred_there scope.structs parts ty there)
types_there scope ty there k.Declarator parts name = starred_there scope.structs parts ty there
types_there scope ty there kind parts name = tt

-- ---- which types a parameter may be of

pub void_renumbered : (by : ℕ → ℕ) (ty : PlainType) → is_void (renumbered by ty) ≡ is_void ty
void_renumbered by void = refl
void_renumbered by char = refl
void_renumbered by unsigned_char = refl
void_renumbered by int = refl
void_renumbered by unsigned_int = refl
void_renumbered by long = refl
void_renumbered by unsigned_long = refl
void_renumbered by (pointer_to ty) = refl
void_renumbered by (array_of ty count) = refl
void_renumbered by (structure n) = refl

pub void_may_not : (defining : Bool) (scope : Scope) (by : ℕ → ℕ) (ty whole : PlainType) → ty ≡ renumbered by whole → is_void ty ≡ true → false ≡ may_be_parameter defining scope whole
void_may_not defining scope by ty whole same is =
    sym (ap (λ b. not b && (not defining || is_complete scope.structs whole)) (sym (void_renumbered by whole) ∙ ap is_void (sym same) ∙ is))

pub others_may : (tables : Tables) (defining : Bool) (scope : Scope) (f : Follows tables scope) (ty whole : PlainType) → IsThere scope.structs whole → ty ≡ renumbered f.by whole → is_void ty ≡ false
    → (not defining || is_complete_type tables ty) ≡ may_be_parameter defining scope whole
others_may tables defining scope f ty whole there same is =
    ap (λ b. not defining || b) (ap (is_complete_type tables) same ∙ complete_followed tables scope f whole there)
    ∙ sym (ap (λ b. not b && (not defining || is_complete scope.structs whole)) (sym (void_renumbered f.by whole) ∙ ap is_void (sym same) ∙ is))
