-- Declarations conflict as those of the scope that the tables follow do, and go on to be followed.
use Rattle.std.proofs.Common.{◌≡◌, ℕ, Bool, true, false, not, List, [], ◌∷◌, refl, sym, ap, ap₂, subst, ◌∙◌}
use Rattle.std.specs.Prelude.{◌&&◌, Option, Some, None, map, if◌then◌else◌}
use Rattle.std.proofs.Math.Path.{fun_ext}
use Rattle.std.specs.Str.{bytes_eq}
use Rattle.std.specs.Cmp.Lexicographic.{bytes_decides}
use Rattle.c_text.specs.Token.{PlainToken}
use Rattle.c_types.specs.Types.{PlainType}
use Rattle.conditional.specs.Entries.{or_later}
use Rattle.core_meaning.specs.declared.refusals.TypeKind.TheVariants.{Redeclared}
use Rattle.core_meaning.specs.Checking.{◌>>=◌, give, unless_so}
use Rattle.core_meaning.specs.Entities as scopes
use Rattle.core_meaning.specs.Entities.{Signature, Scope}
use Rattle.core_meaning.specs.Typing.{same_type}
use Rattle.core_meaning.specs.UnitNames as spec
use Rattle.core_meaning.specs.UnitNames.{Storage, by_static, by_extern, by_none, same_sort, same_types, same_bool, linkage}
use Rattle.operand_types.specs.OperandTypes.{renumbered}
use Rattle.operand_types.specs.Laws.{KeepsApart}
use Rattle.operand_types.proofs.Renumbered.{same_by}
use Rattle.type_tables.specs.Tables.{Tables, Sort, object, declared_function, FileName}
use Rattle.type_tables.specs.Steps.{with_name, where_true}
use Rattle.type_tables.specs.Follows.{IsNumbered, SortFollows, NameFollows, SortIsThere, Follows, renumbered_signature}
use Rattle.type_tables.specs.Numbers.{FollowsBy}
use Rattle.type_tables.proofs.NameLaws.{name_declared, name_by}
use Rattle.name_declarations.specs.Conflicts.{is_same_sort, is_function, keeps_linkage, returns_so, differs, is_no_such_function, conflicting}
use Rattle.name_declarations.specs.Names.{Named}

-- ---- linkage

pub keeps_static : (internal : Bool) → internal ≡ keeps_linkage by_static true internal
keeps_static true = refl
keeps_static false = refl

same_self : (b : Bool) → same_bool b b ≡ true
same_self true = refl
same_self false = refl

-- the linkage that a name of a scope keeps
same_linkage : (storage : Storage) (of_function : Bool) (visible : scopes.FileName) → keeps_linkage storage of_function visible.internal ≡ same_bool visible.internal (linkage storage of_function (Some visible))
same_linkage by_static of_function visible = refl
same_linkage by_extern of_function visible = refl
same_linkage by_none true visible = refl
same_linkage by_none false visible = refl

-- ---- sorts

module _ (by : ℕ → ℕ) (apart : KeepsApart by) where
  types_alike : (as_ bs : List PlainType) → same_types (map (renumbered by) as_) (map (renumbered by) bs) ≡ same_types as_ bs
  types_alike [] [] = refl
  types_alike [] (b ∷ bs) = refl
  types_alike (a ∷ as_) [] = refl
  types_alike (a ∷ as_) (b ∷ bs) = ap (λ t. t && same_types (map (renumbered by) as_) (map (renumbered by) bs)) (same_by by apart a b) ∙ ap (λ t. same_type a b && t) (types_alike as_ bs)

  sorts_alike : (signatures : ℕ → Signature) (a b : scopes.Sort) (x y : Sort) → SortFollows by signatures a x → SortFollows by signatures b y → is_same_sort signatures x y ≡ same_sort a b
  sorts_alike signatures (scopes.variable a) (scopes.variable b) (object x) (object y) h i = ap (λ t. same_type t y) h ∙ ap (same_type (renumbered by a)) i ∙ same_by by apart a b
  sorts_alike signatures (scopes.variable a) (scopes.variable b) (object x) (declared_function n) h i = absurd i
  sorts_alike signatures (scopes.variable a) (scopes.variable b) (declared_function m) y h i = absurd h
  sorts_alike signatures (scopes.variable a) (scopes.function g) (object x) (declared_function n) h i = refl
  sorts_alike signatures (scopes.variable a) (scopes.function g) (object x) (object y) h i = absurd i
  sorts_alike signatures (scopes.variable a) (scopes.function g) (declared_function m) y h i = absurd h
  sorts_alike signatures (scopes.function f) (scopes.variable b) (declared_function m) (object y) h i = refl
  sorts_alike signatures (scopes.function f) (scopes.variable b) (declared_function m) (declared_function n) h i = absurd i
  sorts_alike signatures (scopes.function f) (scopes.variable b) (object x) y h i = absurd h
  sorts_alike signatures (scopes.function f) (scopes.function g) (declared_function m) (declared_function n) h i =
      ap (λ s. same_sort (scopes.function s) (scopes.function (signatures n))) h ∙ ap (λ s. same_sort (scopes.function (renumbered_signature by f)) (scopes.function s)) i
      ∙ ap (λ t. t && same_types (map (renumbered by) f.parameters) (map (renumbered by) g.parameters)) (same_by by apart f.result g.result)
      ∙ ap (λ t. same_type f.result g.result && t) (types_alike f.parameters g.parameters)
  sorts_alike signatures (scopes.function f) (scopes.function g) (declared_function m) (object y) h i = absurd i
  sorts_alike signatures (scopes.function f) (scopes.function g) (object x) y h i = absurd h

  functions_alike : (signatures : ℕ → Signature) (s : scopes.Sort) (x : Sort) → SortFollows by signatures s x → is_function x ≡ spec.is_function s
  functions_alike signatures (scopes.variable ty) (object x) h = refl
  functions_alike signatures (scopes.variable ty) (declared_function n) h = absurd h
  functions_alike signatures (scopes.function f) (object x) h = absurd h
  functions_alike signatures (scopes.function f) (declared_function n) h = refl

  linkages_alike : (storage : Storage) (of_function : Bool) (visible : scopes.FileName) (internal : Bool) → internal ≡ visible.internal
      → keeps_linkage storage of_function internal ≡ same_bool visible.internal (linkage storage of_function (Some visible))
  linkages_alike storage of_function visible internal h = ap (keeps_linkage storage of_function) h ∙ same_linkage storage of_function visible

  differ_alike : (signatures : ℕ → Signature) (storage : Storage) (s : scopes.Sort) (x : Sort) (n : scopes.FileName) (m : FileName) → SortFollows by signatures s x → NameFollows by signatures (Some n) (Some m)
      → differs signatures storage x m ≡ not (same_sort n.sort s && same_bool n.internal (linkage storage (spec.is_function s) (Some n)))
  differ_alike signatures storage s x n m h i =
      ap (λ b. not (b && keeps_linkage storage (is_function x) m.internal)) (sorts_alike signatures n.sort s m.sort x i.0 h)
      ∙ ap (λ b. not (same_sort n.sort s && keeps_linkage storage b m.internal)) (functions_alike signatures s x h)
      ∙ ap (λ b. not (same_sort n.sort s && b)) (linkages_alike storage (spec.is_function s) n m.internal i.1)

  results_alike : (signatures : ℕ → Signature) (ty : PlainType) (s : scopes.Sort) (x : Sort) → SortFollows by signatures s x → returns_so signatures (renumbered by ty) x ≡ spec.gives_result ty s
  results_alike signatures ty (scopes.variable other) (object x) h = refl
  results_alike signatures ty (scopes.variable other) (declared_function n) h = absurd h
  results_alike signatures ty (scopes.function f) (object x) h = absurd h
  results_alike signatures ty (scopes.function f) (declared_function n) h = ap (λ (s : Signature). same_type s.result (renumbered by ty)) h ∙ same_by by apart f.result ty

-- ---- what the tables say

module _ (t : Tables) (scope : Scope) (f : Follows t scope) where
  pub no_such_alike : (storage : Storage) (name : List ℕ) (ty returns : PlainType) → returns ≡ renumbered f.by ty
      → conflicting (is_no_such_function t.signatures storage returns) (t.names name) ≡ not (spec.may_be_function storage ty (scope.file_names name))
  no_such_alike storage name ty returns is = ap (λ r. conflicting (is_no_such_function t.signatures storage r) (t.names name)) is ∙ by (scope.file_names name) (t.names name) (f.names name)
    where
      by : (n : Option scopes.FileName) (m : Option FileName) → NameFollows f.by t.signatures n m
          → conflicting (is_no_such_function t.signatures storage (renumbered f.by ty)) m ≡ not (spec.may_be_function storage ty n)
      by None None h = refl
      by None (Some m) h = absurd h
      by (Some n) None h = absurd h
      by (Some n) (Some m) h =
          ap (λ b. not (b && keeps_linkage storage true m.internal)) (results_alike f.by f.apart t.signatures ty n.sort m.sort h.0)
          ∙ ap (λ b. not (spec.gives_result ty n.sort && b)) (linkages_alike f.by f.apart storage true n m.internal h.1)

  module _ (token : PlainToken) (s : scopes.Sort) (x : Sort) (storage : Storage) (follows : SortFollows f.by t.signatures s x) (there : SortIsThere scope.structs s) (is_numbered : IsNumbered t.functions x) where
    abbrev what : FileName
    what = record { sort = x; internal = spec.is_static storage }

    new_linkage : (storage : Storage) (of_function : Bool) → spec.is_static storage ≡ linkage storage of_function None
    new_linkage by_static of_function = refl
    new_linkage by_extern of_function = refl
    new_linkage by_none true = refl
    new_linkage by_none false = refl

    name_kept : (m : FileName) → t.names token.text ≡ Some m → t ≡ with_name token.text what t
    name_kept m e = ap (λ n. record t { names = n }) (fun_ext (λ other. at other (bytes_eq other token.text) refl))
      where
        at : (other : List ℕ) (b : Bool) → bytes_eq other token.text ≡ b → t.names other ≡ (if b then or_later (t.names other) (Some what) else t.names other)
        at other true h =
            let same : t.names other ≡ Some m = ap t.names ((bytes_decides other token.text).0 h) ∙ e in
            same ∙ sym (ap (λ n. or_later n (Some what)) same)
        at other false h = refl

    again : (b : Bool) (m : FileName) → t.names token.text ≡ Some m → Named f.by (unless_so b Redeclared token >>= (λ u. give scope)) (not b) (with_name token.text what t)
    again true m e = (refl, subst (λ t. FollowsBy f.by t scope) (name_kept m e) (record { follows = f; numbers = refl }))
    again false m e = refl

    abbrev new : scopes.FileName
    new = record { sort = s; internal = linkage storage (spec.is_function s) None }

    first : t.names token.text ≡ None → FollowsBy f.by (with_name token.text what t) (spec.with_file_name scope token.text new)
    first e = record {
      follows = name_declared t scope f token.text new what (follows, new_linkage storage (spec.is_function s)) there is_numbered (λ other h. ap t.names ((bytes_decides other token.text).0 h) ∙ e);
      numbers = name_by t scope f token.text new what (follows, new_linkage storage (spec.is_function s)) there is_numbered (λ other h. ap t.names ((bytes_decides other token.text).0 h) ∙ e);
    }

    pub named : Named f.by (spec.with_name scope token s storage) (conflicting (differs t.signatures storage x) (t.names token.text)) (with_name token.text what t)
    named = by (scope.file_names token.text) (t.names token.text) refl (f.names token.text)
      where
        by : (n : Option scopes.FileName) (m : Option FileName) → t.names token.text ≡ m → NameFollows f.by t.signatures n m
            → Named f.by (spec.declared_as scope token s (linkage storage (spec.is_function s) n) n) (conflicting (differs t.signatures storage x) m) (with_name token.text what t)
        by None None e h = (refl, first e)
        by None (Some m) e h = absurd h
        by (Some n) None e h = absurd h
        by (Some n) (Some m) e h =
            subst (λ b. Named f.by (unless_so (same_sort n.sort s && same_bool n.internal (linkage storage (spec.is_function s) (Some n))) Redeclared token >>= (λ u. give scope)) b (with_name token.text what t))
            (sym (differ_alike f.by f.apart t.signatures storage s x n m follows h)) (again (same_sort n.sort s && same_bool n.internal (linkage storage (spec.is_function s) (Some n))) m e)

    -- as the code declares it
    pub names_declared : (name : List ℕ) (internal here refused : Bool) (new : Tables) → token.text ≡ name → internal ≡ spec.is_static storage → here ≡ true
        → refused ≡ (here && conflicting (differs t.signatures storage x) (t.names name)) → (declared : Bool) → new ≡ where_true declared (with_name name (record { sort = x; internal = internal })) t → declared ≡ here
        → Named f.by (spec.with_name scope token s storage) refused new
    names_declared name internal here refused now text is h r declared e d =
        subst (λ b. Named f.by (spec.with_name scope token s storage) b now) (sym (r ∙ ap (λ b. b && conflicting (differs t.signatures storage x) (t.names name)) h ∙ ap (λ n. conflicting (differs t.signatures storage x) (t.names n)) (sym text)))
        (subst (Named f.by (spec.with_name scope token s storage) (conflicting (differs t.signatures storage x) (t.names token.text)))
        (sym (e ∙ ap (λ b. where_true b (with_name name (record { sort = x; internal = internal })) t) (d ∙ h) ∙ ap₂ (λ n i. with_name n (record { sort = x; internal = i }) t) (sym text) is)) named)

-- no more blocks are open behind a name
pub depth_kept : (here : Bool) (name : List ℕ) (what : FileName) (t : Tables) → (where_true here (with_name name what) t).depth ≡ t.depth
depth_kept true name what t = refl
depth_kept false name what t = refl
