-- The types of declarators, where structs have the numbers of the tables.
use Rattle.std.proofs.Common.{◌≡◌, ℕ, zero, suc, Bool, true, false, List, refl, sym, ap, ◌∙◌}
use Rattle.std.specs.Prelude.{Option, if◌then◌else◌}
use Rattle.c_text.specs.Token.{PlainToken}
use Rattle.c_types.specs.Types.{PlainType, void, char, unsigned_char, int, unsigned_int, long, unsigned_long, pointer_to, array_of, structure}
use Rattle.c_tree.specs.declared.kinds.Kind.TheVariants as k
use Rattle.c_tree.specs.declared.terminals.Terminal.TheVariants as t
use Rattle.c_tree.specs.Heights.{count_stars}
use Rattle.c_tree.specs.Trees.{PlainTree, PlainTrees}
use Rattle.conditional.specs.Judgements.{bind, refused}
use Rattle.core_meaning.specs.declared.refusals.TypeKind.TheVariants.{Incomplete}
use Rattle.core_meaning.specs.Checking as judging
use Rattle.core_meaning.specs.Checking.{◌>>=◌, give, unless_so}
use Rattle.core_meaning.specs.Constancy.{is_character_type}
use Rattle.core_meaning.specs.Entities.{Struct, Scope}
use Rattle.core_meaning.specs.Typing.{is_complete, is_complete_struct}
use Rattle.core_meaning.specs.Declarations.{pointers, starred, behind_word, element_count, object_type}
use Rattle.operand_types.specs.OperandTypes.{outcome_as, renumbered}
use Rattle.type_tables.specs.Tables.{Tables, is_complete_type}
use Rattle.type_tables.specs.Follows.{IsThere, Follows}
use Rattle.cond_declarators.specs.Elements.{array_type}

pub pointers_renumbered : (by : ℕ → ℕ) (n : ℕ) (ty : PlainType) → renumbered by (pointers n ty) ≡ pointers n (renumbered by ty)
pointers_renumbered by zero ty = refl
pointers_renumbered by (suc n) ty = ap pointer_to (pointers_renumbered by n ty)

pub starred_renumbered : (by : ℕ → ℕ) (parts : PlainTrees) (ty : PlainType) → renumbered by (starred parts ty) ≡ starred parts (renumbered by ty)
starred_renumbered by parts ty = pointers_renumbered by (count_stars parts) ty

pub characters_renumbered : (by : ℕ → ℕ) (ty : PlainType) → is_character_type (renumbered by ty) ≡ is_character_type ty
characters_renumbered by void = refl
characters_renumbered by char = refl
characters_renumbered by unsigned_char = refl
characters_renumbered by int = refl
characters_renumbered by unsigned_int = refl
characters_renumbered by long = refl
characters_renumbered by unsigned_long = refl
characters_renumbered by (pointer_to ty) = refl
characters_renumbered by (array_of ty count) = refl
characters_renumbered by (structure n) = refl

pub pointers_there : (structs : List Struct) (n : ℕ) (ty : PlainType) → IsThere structs ty → IsThere structs (pointers n ty)
pointers_there structs zero ty there = there
pointers_there structs (suc n) ty there = pointers_there structs n ty there

pub starred_there : (structs : List Struct) (parts : PlainTrees) (ty : PlainType) → IsThere structs ty → IsThere structs (starred parts ty)
starred_there structs parts ty there = pointers_there structs (count_stars parts) ty there

-- what is complete in the scope is complete in tables that follow it
pub complete_followed : (tables : Tables) (scope : Scope) (f : Follows tables scope) (ty : PlainType) → IsThere scope.structs ty → is_complete_type tables (renumbered f.by ty) ≡ is_complete scope.structs ty
complete_followed tables scope f void there = refl
complete_followed tables scope f char there = refl
complete_followed tables scope f unsigned_char there = refl
complete_followed tables scope f int there = refl
complete_followed tables scope f unsigned_int there = refl
complete_followed tables scope f long there = refl
complete_followed tables scope f unsigned_long there = refl
complete_followed tables scope f (pointer_to ty) there = refl
complete_followed tables scope f (array_of ty count) there = refl
complete_followed tables scope f (structure n) there =
    let found = there n refl in (f.structs n found.0 found.1).complete ∙ sym (ap is_complete_struct found.1)

arrays : (by : ℕ → ℕ) (element : PlainType) (name : PlainToken) (complete : Bool) (count : judging.Checked ℕ)
    → (if complete then bind (outcome_as (λ (n : ℕ). n) count) (array_type (renumbered by element)) else refused tt)
    ≡ outcome_as (renumbered by) (unless_so complete Incomplete name >>= (λ u. count >>= (λ n. give (array_of element n))))
arrays by element name true (judging.fine n bindings) = refl
arrays by element name true (judging.refused kind token) = refl
arrays by element name true judging.broken = refl
arrays by element name false count = refl

-- an array of as many elements as are counted, where these are complete
pub array_judged : (tables : Tables) (scope : Scope) (f : Follows tables scope) (ty : PlainType) (parts : PlainTrees) (name : PlainToken) (initialiser : Option PlainTree) → IsThere scope.structs ty
    → (element : PlainType) → element ≡ starred parts (renumbered f.by ty)
    → (if is_complete_type tables element then bind (outcome_as (λ (n : ℕ). n) (element_count scope (starred parts ty) name (behind_word t.OpenBracket parts) initialiser)) (array_type element) else refused tt)
    ≡ outcome_as (renumbered f.by) (object_type scope ty k.ArrayDeclarator parts name initialiser)
array_judged tables scope f ty parts name initialiser there element is =
    ap (λ e. if is_complete_type tables e then bind (outcome_as (λ (n : ℕ). n) (element_count scope (starred parts ty) name (behind_word t.OpenBracket parts) initialiser)) (array_type e) else refused tt)
    (is ∙ sym (starred_renumbered f.by parts ty))
    ∙ (ap (λ b. if b then bind (outcome_as (λ (n : ℕ). n) (element_count scope (starred parts ty) name (behind_word t.OpenBracket parts) initialiser)) (array_type (renumbered f.by (starred parts ty))) else refused tt)
    (complete_followed tables scope f (starred parts ty) (starred_there scope.structs parts ty there))
    ∙ arrays f.by (starred parts ty) name (is_complete scope.structs (starred parts ty)) (element_count scope (starred parts ty) name (behind_word t.OpenBracket parts) initialiser))
