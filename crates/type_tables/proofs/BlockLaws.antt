-- Tables go on to follow a scope where blocks are entered and locals are declared.
use Rattle.std.proofs.Common.{arith, ◌≡◌, ℕ, suc, Bool, true, false, List, [], ◌∷◌, refl, sym, ap, subst, ◌∙◌}
use Rattle.std.specs.Prelude.{◌≤◌, Option, Some, None, is_some, if◌then◌else◌}
use Rattle.std.proofs.lemmas.Bool.{eq-eqb, ne_eqb}
use Rattle.std.specs.Str.{bytes_eq}
use Rattle.c_types.specs.Types.{PlainType}
use Rattle.core_meaning.specs.Entities.{Table, or_else, Struct, Scope, local_in}
use Rattle.core_meaning.specs.Entities as scopes
use Rattle.core_meaning.specs.Declarations.{innermost, with_local_in, with_local, with_block}
use Rattle.operand_types.specs.OperandTypes.{renumbered}
use Rattle.type_tables.specs.Tables.{Tables, Local, local_named, is_in_block}
use Rattle.type_tables.specs.Steps as step
use Rattle.type_tables.specs.Steps.{entered}
use Rattle.type_tables.specs.Follows.{IsThere, AreWithin, LocalFollows, StructFollows, Follows, FollowsInBlock}
use Rattle.type_tables.proofs.Options.{some_same}

-- ---- depths

deeper : (depth : ℕ) (ls : List Local) → AreWithin depth ls → AreWithin (suc depth) ls
deeper depth [] h = tt
deeper depth (l ∷ ls) h = (omega (arith, h.0), deeper depth ls h.1)

not_there : (depth : ℕ) (o : Option Local) → ((l : Local) → o ≡ Some l → l.depth ≤ depth) → false ≡ is_in_block (suc depth) o
not_there depth None h = refl
not_there depth (Some l) h = sym (ne_eqb l.depth (suc depth) (λ e. let same_ : l.depth ≡ suc depth = e in omega (arith, h l refl, same_)))

first_within : (b : Bool) (depth : ℕ) (x : Local) (rest : Option Local) (l : Local) → x.depth ≤ depth → (rest ≡ Some l → l.depth ≤ depth) → (if b then Some x else rest) ≡ Some l → l.depth ≤ depth
first_within true depth x rest l h later e = subst (λ (y : Local). y.depth ≤ depth) (some_same x l e) h
first_within false depth x rest l h later e = later e

named_within : (depth : ℕ) (ls : List Local) (name : List ℕ) → AreWithin depth ls → (l : Local) → local_named ls name ≡ Some l → l.depth ≤ depth
named_within depth [] name h l e = absurd cc
named_within depth (x ∷ ls) name h l e = first_within (bytes_eq name x.name) depth x (local_named ls name) l h.0 (named_within depth ls name h.1 l) e

-- ---- blocks

structs_entered : (by : ℕ → ℕ) (t : Tables) (structs : List Struct) (n : ℕ) (s : Struct) → StructFollows by t structs n s → StructFollows by (entered t) structs n s
structs_entered by t structs n s is = record { declared = is.declared; complete = is.complete; members = is.members; numbers = is.numbers; there = is.there; scalars = is.scalars; none_before = is.none_before; named = is.named }

pub block_entered : (t : Tables) (scope : Scope) → Follows t scope → FollowsInBlock (entered t) (with_block scope)
block_entered t scope f = record {
  follows = record {
    by = f.by;
    apart = f.apart;
    structs = λ n s e. structs_entered f.by t scope.structs n s (f.structs n s e);
    tags = f.tags;
    tagged = f.tagged;
    names = f.names;
    names_there = f.names_there;
    names_numbered = f.names_numbered;
    locals = f.locals;
    locals_there = f.locals_there;
    within = deeper t.depth t.locals f.within;
    completes = f.completes;
    uncounted = f.uncounted;
  };
  innermost = λ name. not_there t.depth (local_named t.locals name) (named_within t.depth t.locals name f.within);
}

-- structs keep their numbers
pub entered_by : (t : Tables) (scope : Scope) (f : Follows t scope) → (block_entered t scope f).follows.by ≡ f.by
unfolding block_entered
entered_by t scope f = refl

-- ---- locals

local_found : (blocks : List (Table scopes.Local)) (name other : List ℕ) (l : scopes.Local) → local_in (with_local_in blocks name l) other ≡ (if bytes_eq other name then Some l else local_in blocks other)
local_found [] name other l = by (bytes_eq other name)
  where
    by : (b : Bool) → or_else (if b then Some l else None) None ≡ (if b then Some l else None)
    by true = refl
    by false = refl
local_found (block ∷ others) name other l = by (bytes_eq other name)
  where
    by : (b : Bool) → or_else (if b then Some l else block other) (local_in others other) ≡ (if b then Some l else or_else (block other) (local_in others other))
    by true = refl
    by false = refl

innermost_found : (blocks : List (Table scopes.Local)) (name other : List ℕ) (l : scopes.Local) → innermost (with_local_in blocks name l) other ≡ (if bytes_eq other name then Some l else innermost blocks other)
innermost_found [] name other l = refl
innermost_found (block ∷ others) name other l = refl

either_follows : (by : ℕ → ℕ) (b : Bool) (l : scopes.Local) (o : Local) (before : Option scopes.Local) (outer : Option Local) → o.ty ≡ renumbered by l.ty → LocalFollows by before outer
    → LocalFollows by (if b then Some l else before) (if b then Some o else outer)
either_follows by true l o before outer h i = h
either_follows by false l o before outer h i = i

either_there : (structs : List Struct) (b : Bool) (l : scopes.Local) (before : Option scopes.Local) → IsThere structs l.ty → ((x : scopes.Local) → before ≡ Some x → IsThere structs x.ty)
    → (x : scopes.Local) → (if b then Some l else before) ≡ Some x → IsThere structs x.ty
either_there structs true l before h i x e = subst (λ (y : scopes.Local). IsThere structs y.ty) (some_same l x e) h
either_there structs false l before h i x e = i x e

either_innermost : (b : Bool) (l : scopes.Local) (o : Local) (depth : ℕ) (before : Option scopes.Local) (outer : Option Local) → o.depth ≡ depth → is_some before ≡ is_in_block depth outer
    → is_some (if b then Some l else before) ≡ is_in_block depth (if b then Some o else outer)
either_innermost true l o depth before outer h i = sym (eq-eqb o.depth depth h)
either_innermost false l o depth before outer h i = i

structs_with_local : (by : ℕ → ℕ) (t : Tables) (name : List ℕ) (ty : PlainType) (structs : List Struct) (n : ℕ) (s : Struct) → StructFollows by t structs n s → StructFollows by (step.with_local name ty t) structs n s
structs_with_local by t name ty structs n s is = record { declared = is.declared; complete = is.complete; members = is.members; numbers = is.numbers; there = is.there; scalars = is.scalars; none_before = is.none_before; named = is.named }

pub local_declared : (t : Tables) (scope : Scope) (f : FollowsInBlock t scope) (name : List ℕ) (slot : ℕ) (ty : PlainType) → IsThere scope.structs ty
    → FollowsInBlock (step.with_local name (renumbered f.follows.by ty) t) (with_local scope name slot ty)
local_declared t scope f name slot ty there = record {
  follows = record {
    by = f.follows.by;
    apart = f.follows.apart;
    structs = λ n s e. structs_with_local f.follows.by t name (renumbered f.follows.by ty) scope.structs n s (f.follows.structs n s e);
    tags = f.follows.tags;
    tagged = f.follows.tagged;
    names = f.follows.names;
    names_there = f.follows.names_there;
    names_numbered = f.follows.names_numbered;
    locals = λ other. subst (λ o. LocalFollows f.follows.by o (local_named (step.with_local name (renumbered f.follows.by ty) t).locals other)) (sym (local_found scope.blocks name other (record { slot = slot; ty = ty })))
        (either_follows f.follows.by (bytes_eq other name) (record { slot = slot; ty = ty }) (record { name = name; ty = renumbered f.follows.by ty; depth = t.depth }) (local_in scope.blocks other) (local_named t.locals other) refl (f.follows.locals other));
    locals_there = λ other l e.
        either_there scope.structs (bytes_eq other name) (record { slot = slot; ty = ty }) (local_in scope.blocks other) there (f.follows.locals_there other) l
        (sym (local_found scope.blocks name other (record { slot = slot; ty = ty })) ∙ e);
    within = (omega (arith), f.follows.within);
    completes = f.follows.completes;
    uncounted = f.follows.uncounted;
  };
  innermost = λ other.
      ap is_some (innermost_found scope.blocks name other (record { slot = slot; ty = ty }))
      ∙ either_innermost (bytes_eq other name) (record { slot = slot; ty = ty }) (record { name = name; ty = renumbered f.follows.by ty; depth = t.depth }) t.depth (innermost scope.blocks other) (local_named t.locals other) refl (f.innermost other);
}

pub local_by : (t : Tables) (scope : Scope) (f : FollowsInBlock t scope) (name : List ℕ) (slot : ℕ) (ty : PlainType) (there : IsThere scope.structs ty)
    → (local_declared t scope f name slot ty there).follows.by ≡ f.follows.by
unfolding local_declared
local_by t scope f name slot ty there = refl
