-- Items of units, and units, whose tokens stand elsewhere are judged alike.
use Rattle.std.proofs.Common.{◌≡◌, ℕ, Bool, true, false, List, [], refl, sym, ap, subst, ◌∙◌}
use Rattle.std.specs.Prelude.{Option, Some, None, option_map, not, if◌then◌else◌}
use Rattle.c_text.specs.Token.{PlainToken}
use Rattle.c_tree.specs.declared.kinds.Kind.TheVariants as k
use Rattle.c_tree.specs.Trees.{PlainTree, PlainTrees, leaf, node, none, more}
use Rattle.core_meaning.specs.declared.refusals.TypeKind.{TypeKind}
use Rattle.core_meaning.specs.declared.refusals.TypeKind.TheVariants.{Redeclared, BadConstant}
use Rattle.core_meaning.specs.Checking.{◌>>=◌, unless_so, or_broken, in_function}
use Rattle.core_meaning.specs.Entities.{no_entry, Struct, Numbers, Scope, or_else}
use Rattle.core_meaning.specs.Declarations.{name_in, based}
use Rattle.core_meaning.specs.UnitNames.{UnitState, with_scope, Members, AllMembers, members_from, all_members, with_members_at, is_defined_tag, number_of_struct, defined_struct, storage_of, declared_from, count_functions, defined_function, judged_item, judged_file_items, unit_start, is_too_big, name_if_too_big, too_big_declarator, too_big_among, too_big_declared, too_big_in_item, too_big_in, unless_too_big, judged_unit}
use Rattle.moved_programs.specs.Trees.{moved_tree, moved_trees}
use Rattle.moved_programs.proofs.Moves.{elsewhere, Moves, stays, same_then, token_then, give_moves, given, refused_moves, broken_moves, unless_moves}
use Rattle.moved_programs.proofs.Follows.{Follows, as_they_are, moves_of, kept, same_follows, token_follows, given_follows, broken_follows, function_follows}
use Rattle.moved_programs.proofs.Words.{name_moves}
use Rattle.moved_programs.proofs.Constants.{KeepsPlaces, KeepsKinds, kinds_by_places}
use Rattle.moved_programs.proofs.Declarators.{based_moves}
use Rattle.moved_programs.proofs.Units.{same_storage, members_move, declarators_follow, function_follows_to}

module _ (h : PlainToken → PlainToken) where
  -- ---- structs

  member_then :
      (s : Scope) (number : ℕ) (known : Members) (words declarators rest : PlainTrees)
      → ((s : Scope) (known : Members) → Moves h stays (all_members s number known rest) (all_members s number known (moved_trees (elsewhere h) rest)))
      → Moves h stays (based true s words >>= (λ base. members_from base.scope number known base.ty declarators >>= (λ first. all_members base.scope number first rest)))
      (based true s (moved_trees (elsewhere h) words) >>= (λ base. members_from base.scope number known base.ty (moved_trees (elsewhere h) declarators) >>= (λ first. all_members base.scope number first (moved_trees (elsewhere h) rest))))
  member_then s number known words declarators rest i =
      same_then h stays (based true s words) (based true s (moved_trees (elsewhere h) words)) _ _ (based_moves h true s words)
      (λ base. same_then h stays (members_from base.scope number known base.ty declarators) (members_from base.scope number known base.ty (moved_trees (elsewhere h) declarators)) _ _
      (members_move h declarators base.scope number known base.ty) (λ first. i base.scope first))

  all_move : (number : ℕ) (parts : PlainTrees) (s : Scope) (known : Members) → Moves h stays (all_members s number known parts) (all_members s number known (moved_trees (elsewhere h) parts))
  all_move number none s known = given h stays (let all : AllMembers = record { scope = s; known = known } in all)
  all_move number (more (node kind (more (node words_kind words) (more (node list_kind declarators) (more end_ none)))) rest) s known =
      member_then s number known words declarators rest (λ scope others. all_move number rest scope others)
  all_move number (more _ rest) s known = broken_moves h stays

  struct_moves : (unit : UnitState) (words members : PlainTrees) → Moves h stays (defined_struct unit words members) (defined_struct unit (moved_trees (elsewhere h) words) (moved_trees (elsewhere h) members))
  struct_moves unit words members =
      let start : Members = record { members = []; numbers = no_entry; scalars = 0 } in
      token_then h stays (name_in words) (name_in (moved_trees (elsewhere h) words)) _ _ (name_moves h words)
      (λ tag. same_then h stays (unless_so (not (is_defined_tag unit.scope (unit.scope.tags tag.text))) Redeclared tag) (unless_so (not (is_defined_tag unit.scope (unit.scope.tags tag.text))) Redeclared (elsewhere h tag)) _ _
      (unless_moves h (not (is_defined_tag unit.scope (unit.scope.tags tag.text))) Redeclared tag (elsewhere h tag) refl)
      (λ new. same_then h stays (based true unit.scope words) (based true unit.scope (moved_trees (elsewhere h) words)) _ _ (based_moves h true unit.scope words)
      (λ base. same_then h stays (all_members base.scope (number_of_struct base.ty) start members) (all_members base.scope (number_of_struct base.ty) start (moved_trees (elsewhere h) members)) _ _
      (all_move (number_of_struct base.ty) members base.scope start)
      (λ all. given h stays (with_scope unit (record all.scope { structs = with_members_at (number_of_struct base.ty) all.known all.scope.structs }))))))

  -- ---- the end of a unit

  name_if : (b : Bool) (name : PlainToken) → (if b then Some (elsewhere h name) else None) ≡ option_map (elsewhere h) (if b then Some name else None)
  name_if true name = refl
  name_if false name = refl

  big_name : (s : Scope) (name : Option PlainToken) → name_if_too_big s (option_map (elsewhere h) name) ≡ option_map (elsewhere h) (name_if_too_big s name)
  big_name s None = refl
  big_name s (Some name) = name_if (is_too_big s (s.file_names name.text)) name

  either_moves : (a b : Option PlainToken) → or_else (option_map (elsewhere h) a) (option_map (elsewhere h) b) ≡ option_map (elsewhere h) (or_else a b)
  either_moves (Some a) b = refl
  either_moves None b = refl

  big_declarator : (s : Scope) (tree : PlainTree) → too_big_declarator s (moved_tree (elsewhere h) tree) ≡ option_map (elsewhere h) (too_big_declarator s tree)
  big_declarator s (node k.Declarator parts) = ap (name_if_too_big s) (name_moves h parts) ∙ big_name s (name_in parts)
  big_declarator s (leaf token) = refl
  big_declarator s (node _ _) = refl

  big_among : (s : Scope) (parts : PlainTrees) → too_big_among s (moved_trees (elsewhere h) parts) ≡ option_map (elsewhere h) (too_big_among s parts)
  big_among s none = refl
  big_among s (more tree rest) =
      ap (λ x. or_else x (too_big_among s (moved_trees (elsewhere h) rest))) (big_declarator s tree)
      ∙ ap (or_else (option_map (elsewhere h) (too_big_declarator s tree))) (big_among s rest)
      ∙ either_moves (too_big_declarator s tree) (too_big_among s rest)

  big_declared : (s : Scope) (parts : PlainTrees) → too_big_declared s (moved_trees (elsewhere h) parts) ≡ option_map (elsewhere h) (too_big_declared s parts)
  big_declared s (more words (more (node kind declarators) end_)) = big_among s declarators
  big_declared s _ = refl

  big_item : (s : Scope) (tree : PlainTree) → too_big_in_item s (moved_tree (elsewhere h) tree) ≡ option_map (elsewhere h) (too_big_in_item s tree)
  big_item s (node k.Declaration parts) = big_declared s parts
  big_item s (leaf token) = refl
  big_item s (node _ _) = refl

  big_in : (s : Scope) (parts : PlainTrees) → too_big_in s (moved_trees (elsewhere h) parts) ≡ option_map (elsewhere h) (too_big_in s parts)
  big_in s none = refl
  big_in s (more tree rest) =
      ap (λ x. or_else x (too_big_in s (moved_trees (elsewhere h) rest))) (big_item s tree)
      ∙ ap (or_else (option_map (elsewhere h) (too_big_in_item s tree))) (big_in s rest)
      ∙ either_moves (too_big_in_item s tree) (too_big_in s rest)

  unless_moves_to : (name : Option PlainToken) → Moves h stays (unless_too_big name) (unless_too_big (option_map (elsewhere h) name))
  unless_moves_to None = give_moves h stays _ _ refl
  unless_moves_to (Some name) = refused_moves h stays BadConstant name (elsewhere h name) refl

  end_moves : (s : Scope) (parts : PlainTrees) → Moves h stays (unless_too_big (too_big_in s parts)) (unless_too_big (too_big_in s (moved_trees (elsewhere h) parts)))
  end_moves s parts = subst (λ name. Moves h stays (unless_too_big (too_big_in s parts)) (unless_too_big name)) (sym (big_in s parts)) (unless_moves_to (too_big_in s parts))

module _ (told : TypeKind → TypeKind) (h : PlainToken → PlainToken) (alike : KeepsKinds told h) where
  -- ---- items

  declaration_follows :
      (globals : ℕ) (unit : UnitState) (words declarators behind : PlainTrees)
      → Follows told h stays (based true unit.scope words >>= (λ base. declared_from globals (with_scope unit base.scope) (storage_of words) base.ty declarators behind))
      (based true unit.scope (moved_trees (elsewhere h) words) >>= (λ base. declared_from globals (with_scope unit base.scope) (storage_of (moved_trees (elsewhere h) words)) base.ty (moved_trees (elsewhere h) declarators) (moved_trees (elsewhere h) behind)))
  declaration_follows globals unit words declarators behind =
      same_follows told h stays (based true unit.scope words) (based true unit.scope (moved_trees (elsewhere h) words)) _ _ (kept told h (based_moves h true unit.scope words))
      (λ base. subst (λ storage. Follows told h stays (declared_from globals (with_scope unit base.scope) (storage_of words) base.ty declarators behind) (declared_from globals (with_scope unit base.scope) storage base.ty (moved_trees (elsewhere h) declarators) (moved_trees (elsewhere h) behind)))
      (sym (same_storage h words)) (declarators_follow told h alike declarators globals (with_scope unit base.scope) (storage_of words) base.ty behind))

  definition_follows :
      (unit : UnitState) (words parts : PlainTrees) (body : PlainTree)
      → Follows told h stays (based false unit.scope words >>= (λ base. or_broken (name_in parts) >>= (λ name. in_function (count_functions unit.defined) (defined_function unit (storage_of words) base.ty parts name body))))
      (based false unit.scope (moved_trees (elsewhere h) words) >>= (λ base. or_broken (name_in (moved_trees (elsewhere h) parts)) >>= (λ name. in_function (count_functions unit.defined) (defined_function unit (storage_of (moved_trees (elsewhere h) words)) base.ty (moved_trees (elsewhere h) parts) name (moved_tree (elsewhere h) body)))))
  definition_follows unit words parts body =
      same_follows told h stays (based false unit.scope words) (based false unit.scope (moved_trees (elsewhere h) words)) _ _ (kept told h (based_moves h false unit.scope words))
      (λ base. token_follows told h stays (name_in parts) (name_in (moved_trees (elsewhere h) parts)) _ _ (name_moves h parts)
      (λ name. function_follows told h stays (count_functions unit.defined) (defined_function unit (storage_of words) base.ty parts name body) (defined_function unit (storage_of (moved_trees (elsewhere h) words)) base.ty (moved_trees (elsewhere h) parts) (elsewhere h name) (moved_tree (elsewhere h) body))
      (subst (λ storage. Follows told h stays (defined_function unit (storage_of words) base.ty parts name body) (defined_function unit storage base.ty (moved_trees (elsewhere h) parts) (elsewhere h name) (moved_tree (elsewhere h) body))) (sym (same_storage h words))
      (function_follows_to told h alike unit (storage_of words) base.ty parts name body))))

  item_follows : (globals : ℕ) (unit : UnitState) (tree : PlainTree) (behind : PlainTrees) → Follows told h stays (judged_item globals unit tree behind) (judged_item globals unit (moved_tree (elsewhere h) tree) (moved_trees (elsewhere h) behind))
  item_follows globals unit (node k.StructDefinition (more (node tag_kind words) (more brace (more (node list_kind members) rest)))) behind = kept told h (struct_moves h unit words members)
  item_follows globals unit (node k.StructDeclaration (more (node tag_kind words) (more end_ none))) behind =
      same_follows told h stays (based true unit.scope words) (based true unit.scope (moved_trees (elsewhere h) words)) _ _ (kept told h (based_moves h true unit.scope words)) (λ base. given_follows told h stays (with_scope unit base.scope))
  item_follows globals unit (node k.Declaration (more (node words_kind words) (more (node list_kind declarators) (more end_ none)))) behind = declaration_follows globals unit words declarators behind
  item_follows globals unit (node k.Function (more (node words_kind words) (more (node list_kind (more (node kind parts) none)) (more body none)))) behind = definition_follows unit words parts body
  item_follows globals unit (leaf _) behind = broken_follows told h stays
  item_follows globals unit (node _ _) behind = broken_follows told h stays

  file_follows : (globals : ℕ) (parts : PlainTrees) (unit : UnitState) → Follows told h stays (judged_file_items globals unit parts) (judged_file_items globals unit (moved_trees (elsewhere h) parts))
  file_follows globals none unit = given_follows told h stays unit
  file_follows globals (more tree rest) unit =
      same_follows told h stays (judged_item globals unit tree rest) (judged_item globals unit (moved_tree (elsewhere h) tree) (moved_trees (elsewhere h) rest)) _ _ (item_follows globals unit tree rest) (λ first. file_follows globals rest first)

  pub unit_follows : (globals : ℕ) (structs : List Struct) (numbers : Numbers) (tree : PlainTree) → Follows told h stays (judged_unit globals structs numbers tree) (judged_unit globals structs numbers (moved_tree (elsewhere h) tree))
  unit_follows globals structs numbers (node kind parts) =
      same_follows told h stays (judged_file_items globals (unit_start structs numbers) parts) (judged_file_items globals (unit_start structs numbers) (moved_trees (elsewhere h) parts)) _ _ (file_follows globals parts (unit_start structs numbers))
      (λ unit. same_follows told h stays (unless_too_big (too_big_in unit.scope parts)) (unless_too_big (too_big_in unit.scope (moved_trees (elsewhere h) parts))) _ _ (kept told h (end_moves h unit.scope parts)) (λ small. given_follows told h stays unit))
  unit_follows globals structs numbers (leaf token) = broken_follows told h stays

-- where places that were apart are apart, refusals are of the same kinds too
pub unit_moves :
    (h : PlainToken → PlainToken) → KeepsPlaces h → (globals : ℕ) (structs : List Struct) (numbers : Numbers) (tree : PlainTree)
    → Moves h stays (judged_unit globals structs numbers tree) (judged_unit globals structs numbers (moved_tree (elsewhere h) tree))
unit_moves h apart globals structs numbers tree =
    moves_of h stays (judged_unit globals structs numbers tree) (judged_unit globals structs numbers (moved_tree (elsewhere h) tree))
    (unit_follows as_they_are h (kinds_by_places h apart) globals structs numbers tree)
