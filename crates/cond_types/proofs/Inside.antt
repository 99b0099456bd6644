-- The block of a function: what is visible in it, and behind it.
use Rattle.std.proofs.Common.{◌≡◌, ℕ, ◌+◌, Bool, true, false, List, [], ◌∷◌, refl, sym, ap, ap₂, ◌∙◌, subst}
use Rattle.std.specs.Prelude.{◌&&◌, Option, Some, None, is_some}
use Rattle.c_text.specs.Token.{PlainToken}
use Rattle.c_types.specs.Types.{PlainType}
use Rattle.core_meaning.specs.declared.refusals.TypeKind.TheVariants.{Redeclared}
use Rattle.core_meaning.specs.Checking.{Checked, fine, refused, broken, ◌>>=◌, give, unless_so}
use Rattle.core_meaning.specs.Entities.{Table, no_entry, Struct, Local, Scope, Sort, FileName, local_in}
use Rattle.core_meaning.specs.Declarations.{innermost, with_local_in, with_block, Parameter, with_parameter}
use Rattle.core_meaning.specs.UnitNames.{Storage, with_parameters, with_name, declared_as, linkage, is_function, same_sort, same_bool}
use Rattle.type_tables.specs.Tables as plain
use Rattle.type_tables.specs.Tables.{local_named, is_in_block}
use Rattle.type_tables.specs.Follows.{IsThere, LocalFollows, StructFollows}
use Rattle.type_tables.specs.Numbers.{FollowsBy, FollowsInBlockBy}
use Rattle.cond_units.proofs.Judging.{Keeps}
use Rattle.cond_types.specs.Definitions.{inside}

-- ---- parameters change blocks alone

abbrev pub block_with : List (Table Local) → ℕ → Option PlainToken → PlainType → List (Table Local)
block_with blocks slot None ty = blocks
block_with blocks slot (Some name) ty = with_local_in blocks name.text (record { slot = slot; ty = ty })

abbrev pub blocks_with : List (Table Local) → ℕ → List Parameter → List (Table Local)
blocks_with blocks slot [] = blocks
blocks_with blocks slot (p ∷ ps) = blocks_with (block_with blocks slot p.name p.ty) (slot + 1) ps

-- the scope of a function's block, with nothing else changed
abbrev pub opened : Scope → List Parameter → Scope
opened scope ps = record scope { blocks = blocks_with (no_entry ∷ scope.blocks) 0 ps }

one_more : (scope : Scope) (slot : ℕ) (name : Option PlainToken) (ty : PlainType) (ps : List Parameter)
    → record (with_parameter scope slot name ty) { blocks = blocks_with (with_parameter scope slot name ty).blocks (slot + 1) ps } ≡ record scope { blocks = blocks_with (block_with scope.blocks slot name ty) (slot + 1) ps }
one_more scope slot None ty ps = refl
one_more scope slot (Some name) ty ps = refl

blocks_alone : (scope : Scope) (slot : ℕ) (ps : List Parameter) → with_parameters scope slot ps ≡ record scope { blocks = blocks_with scope.blocks slot ps }
blocks_alone scope slot [] = refl
blocks_alone scope slot (p ∷ ps) = blocks_alone (with_parameter scope slot p.name p.ty) (slot + 1) ps ∙ one_more scope slot p.name p.ty ps

pub inside_is : (scope : Scope) (ps : List Parameter) → inside scope ps ≡ opened scope ps
inside_is scope ps = blocks_alone (with_block scope) 0 ps

-- ---- a name of file scope is declared in the block as it is outside

abbrev pub under_block : List Parameter → Checked Scope → Checked Scope
under_block ps (fine scope bindings) = fine (opened scope ps) bindings
under_block ps (refused kind token) = refused kind token
under_block ps broken = broken

pub named_inside : (scope : Scope) (ps : List Parameter) (name : PlainToken) (sort : Sort) (storage : Storage) → with_name (opened scope ps) name sort storage ≡ under_block ps (with_name scope name sort storage)
named_inside scope ps name sort storage = by (scope.file_names name.text)
  where
    again : (b : Bool) → (unless_so b Redeclared name >>= (λ u. give (opened scope ps))) ≡ under_block ps (unless_so b Redeclared name >>= (λ u. give scope))
    again true = refl
    again false = refl

    by : (n : Option FileName) → declared_as (opened scope ps) name sort (linkage storage (is_function sort) n) n ≡ under_block ps (declared_as scope name sort (linkage storage (is_function sort) n) n)
    by None = refl
    by (Some n) = again (same_sort n.sort sort && same_bool n.internal (linkage storage (is_function sort) (Some n)))

-- ---- the tables

-- nothing of the block is visible
abbrev pub closed : plain.Tables → plain.Tables → plain.Tables
closed inner outer = record inner { locals = outer.locals; depth = outer.depth }

structs_closed : (by : ℕ → ℕ) (inner outer : plain.Tables) (structs : List Struct) (n : ℕ) (s : Struct) → StructFollows by inner structs n s → StructFollows by (closed inner outer) structs n s
structs_closed by inner outer structs n s is = record { declared = is.declared; complete = is.complete; members = is.members; numbers = is.numbers; there = is.there; scalars = is.scalars; none_before = is.none_before; named = is.named }

-- behind the block what is visible is what was before it, and the names that are declared since
pub left_by : (by : ℕ → ℕ) (outer inner : plain.Tables) (scope after : Scope) (ps : List Parameter) → FollowsBy by outer scope → FollowsBy by inner (opened after ps) → Keeps scope after → FollowsBy by (closed inner outer) after
left_by by outer inner scope after ps f g keeps = record {
  follows = record {
    by = g.follows.by;
    apart = g.follows.apart;
    structs = λ n s e. structs_closed g.follows.by inner outer after.structs n s (g.follows.structs n s e);
    tags = g.follows.tags;
    tagged = g.follows.tagged;
    names = g.follows.names;
    names_there = g.follows.names_there;
    names_numbered = g.follows.names_numbered;
    locals = λ name.
        subst (λ (b : ℕ → ℕ). LocalFollows b (local_in after.blocks name) (local_named outer.locals name)) (f.numbers ∙ sym g.numbers)
        (subst (λ (blocks : List (Table Local)). LocalFollows f.follows.by (local_in blocks name) (local_named outer.locals name)) (sym keeps.blocks) (f.follows.locals name));
    locals_there = λ name l e.
        subst (λ (structs : List Struct). IsThere structs l.ty) (sym keeps.structs)
        (f.follows.locals_there name l (ap (λ (blocks : List (Table Local)). local_in blocks name) (sym keeps.blocks) ∙ e));
    within = f.follows.within;
    completes = g.follows.completes;
    uncounted = g.follows.uncounted;
  };
  numbers = g.numbers;
}

-- a name of file scope changes nothing of what the block declares
pub in_block : (by : ℕ → ℕ) (before now : plain.Tables) (scope after : Scope) (ps : List Parameter) → FollowsInBlockBy by before (opened scope ps) → FollowsBy by now (opened after ps) → Keeps scope after
    → now.locals ≡ before.locals → now.depth ≡ before.depth → FollowsInBlockBy by now (opened after ps)
in_block by before now scope after ps f g keeps locals depth = record {
  follows = record {
    follows = g.follows;
    innermost = λ name.
        ap (λ (blocks : List (Table Local)). is_some (innermost (blocks_with (no_entry ∷ blocks) 0 ps) name)) keeps.blocks
        ∙ (f.follows.innermost name ∙ sym (ap₂ (λ (d : ℕ) (ls : List plain.Local). is_in_block d (local_named ls name)) depth locals));
  };
  numbers = g.numbers;
}
