-- Objects, functions and structs of file scope whose tokens stand elsewhere are judged alike.
use Rattle.std.proofs.Common.{◌≡◌, ℕ, ◌+◌, Bool, true, false, List, [], ◌∷◌, refl, sym, ap, subst, ◌∙◌, length}
use Rattle.std.specs.Prelude.{Option, Some, None, option_map, is_some, not, ◌&&◌, ◌||◌, slice_get, if◌then◌else◌}
use Rattle.std.specs.Str.{bytes_eq}
use Rattle.c_text.specs.Token.{PlainToken}
use Rattle.c_types.specs.Types.{PlainType, structure}
use Rattle.c_tree.specs.declared.kinds.Kind.{Kind}
use Rattle.c_tree.specs.declared.kinds.Kind.TheVariants as k
use Rattle.c_tree.specs.declared.terminals.Terminal.TheVariants as t
use Rattle.c_tree.specs.Trees.{PlainTree, PlainTrees, leaf, node, none, more}
use Rattle.c_tree.specs.Grammar.{is_word}
use Rattle.core_meaning.specs.declared.refusals.TypeKind.{TypeKind}
use Rattle.core_meaning.specs.declared.refusals.TypeKind.TheVariants.{Redeclared, BadOperand, Incomplete}
use Rattle.core_meaning.specs.Program.{PlainConstantPart, no_item}
use Rattle.core_meaning.specs.Checking.{file_entity, member_entity, Checked, fine, refused, broken, ◌>>=◌, give, unless_so, declares, or_broken}
use Rattle.core_meaning.specs.Entities.{Struct, Sort, variable, function, FileName, Scope}
use Rattle.core_meaning.specs.Typing.{is_complete}
use Rattle.core_meaning.specs.Expressions.{first_token, has_terminal}
use Rattle.core_meaning.specs.Constancy.{Initial, initial, first_scalar}
use Rattle.core_meaning.specs.Declarations.{name_in, behind_word, starred, object_type, Parameter, parameters_of, with_block, with_parameter}
use Rattle.core_meaning.specs.Statements.{items_as}
use Rattle.core_meaning.specs.UnitNames.{object_body, tentative_body, function_body, UnitState, completes, is_completed_in, struct_is_completed, is_completed_later, Storage, by_static, by_extern, by_none, storage_of, declared_again, declared_as, with_name, linkage, is_function, may_be_incomplete, judged_global, constant_parts, with_defined, with_scope, defined_object, declared_object, parameter_types, signature_of, refused_initialiser, may_be_function, new_function, declared_function, declared_one, declared_from, with_parameters, is_result, kind_or_incomplete, kind_by_parameters, result_kind, judged_body, defined_function, Members, with_member, declared_member, one_member, members_from}
use Rattle.moved_programs.specs.Trees.{moved_tree, moved_trees}
use Rattle.moved_programs.proofs.Moves.{elsewhere, moved_checked, Moves, stays, move_rules, then_moves, same_then, token_then, give_moves, given, refused_moves, broken_moves, unless_moves, somes_move, tested_moves, declares_moves}
use Rattle.moved_programs.proofs.Follows.{Follows, kept, then_follows, same_follows, token_follows, given_follows, broken_follows, tested_follows}
use Rattle.moved_programs.proofs.Words.{first_moves, same_terminals, name_moves, behind_moves, same_word}
use Rattle.moved_programs.proofs.Constants.{KeepsKinds, moved_initials, initial_follows}
use Rattle.moved_programs.proofs.Declarators.{moved_parameters, same_starred, object_moves, judged_object_moves, parameters_move, same_with}
use Rattle.moved_programs.proofs.Statements.{items_follow}

module _ (h : PlainToken → PlainToken) where
  -- ---- what is completed later

  abbrev names_tag : List ℕ → Option PlainToken → Bool
  names_tag tag found = elim found as (λ x. Bool) [ None ↦ false | Some name ↦ bytes_eq name.text tag ]

  same_tag : (tag : List ℕ) (found : Option PlainToken) → names_tag tag (option_map (elsewhere h) found) ≡ names_tag tag found
  same_tag tag None = refl
  same_tag tag (Some name) = refl

  same_completes : (tag : List ℕ) (tree : PlainTree) → completes tag (moved_tree (elsewhere h) tree) ≡ completes tag tree
  same_completes tag (node k.StructDefinition (more (node kind words) rest)) = ap (names_tag tag) (name_moves h words) ∙ same_tag tag (name_in words)
  same_completes tag (leaf token) = refl
  same_completes tag (node _ _) = refl

  same_completed_in : (tag : List ℕ) (rest : PlainTrees) → is_completed_in tag (moved_trees (elsewhere h) rest) ≡ is_completed_in tag rest
  same_completed_in tag none = refl
  same_completed_in tag (more tree rest) =
      ap (λ b. b || is_completed_in tag (moved_trees (elsewhere h) rest)) (same_completes tag tree) ∙ ap (λ b. completes tag tree || b) (same_completed_in tag rest)

  same_struct : (found : Option Struct) (rest : PlainTrees) → struct_is_completed found (moved_trees (elsewhere h) rest) ≡ struct_is_completed found rest
  same_struct (Some s) rest = same_completed_in s.name rest
  same_struct None rest = refl

  same_later : (structs : List Struct) (ty : PlainType) (rest : PlainTrees) → is_completed_later structs ty (moved_trees (elsewhere h) rest) ≡ is_completed_later structs ty rest
  same_later structs (structure number) rest = same_struct (slice_get structs number) rest
  same_later structs _ rest = refl

  same_may : (storage : Storage) (initialised : Bool) (structs : List Struct) (ty : PlainType) (rest : PlainTrees) → may_be_incomplete storage initialised structs ty (moved_trees (elsewhere h) rest) ≡ may_be_incomplete storage initialised structs ty rest
  same_may by_extern false structs ty rest = refl
  same_may by_none false structs ty rest = same_later structs ty rest
  same_may _ _ structs ty rest = refl

  pub same_storage : (words : PlainTrees) → storage_of (moved_trees (elsewhere h) words) ≡ storage_of words
  same_storage words =
      ap (λ b. if b then by_static else if has_terminal t.Extern (moved_trees (elsewhere h) words) then by_extern else by_none) (same_terminals h t.Static words)
      ∙ ap (λ b. if has_terminal t.Static words then by_static else if b then by_extern else by_none) (same_terminals h t.Extern words)

  -- ---- names of file scope

  again_moves : (s : Scope) (name : PlainToken) (sort : Sort) (internal : Bool) (visible : FileName) → Moves h stays (declared_again s name sort internal visible) (declared_again s (elsewhere h name) sort internal visible)
  again_moves s name sort internal visible = search move_rules

  declared_as_moves : (s : Scope) (name : PlainToken) (sort : Sort) (internal : Bool) (visible : Option FileName) → Moves h stays (declared_as s name sort internal visible) (declared_as s (elsewhere h name) sort internal visible)
  declared_as_moves s name sort internal (Some visible) = again_moves s name sort internal visible
  declared_as_moves s name sort internal None = search move_rules

  pub with_name_moves : (s : Scope) (name : PlainToken) (sort : Sort) (storage : Storage) → Moves h stays (with_name s name sort storage) (with_name s (elsewhere h name) sort storage)
  with_name_moves s name sort storage = declared_as_moves s name sort (linkage storage (is_function sort) (s.file_names name.text)) (s.file_names name.text)

  -- ---- objects

  global_moves :
      (storage : Storage) (initialised : Bool) (s : Scope) (ty : PlainType) (name : PlainToken) (rest : PlainTrees)
      → Moves h stays (judged_global storage initialised s ty name rest) (judged_global storage initialised s ty (elsewhere h name) (moved_trees (elsewhere h) rest))
  global_moves storage initialised s ty name rest =
      tested_moves h stays (may_be_incomplete storage initialised s.structs ty rest && not (is_complete s.structs ty)) (may_be_incomplete storage initialised s.structs ty (moved_trees (elsewhere h) rest) && not (is_complete s.structs ty)) _ _ _ _
      (ap (λ b. b && not (is_complete s.structs ty)) (same_may storage initialised s.structs ty rest)) (give_moves h stays _ _ refl) (judged_object_moves h s ty name)

  abbrev with_part : Initial → Option (List PlainConstantPart) → ℕ → Option (List PlainConstantPart)
  with_part i rest globals =
      elim (first_scalar globals i.value) as (λ x. Option (List PlainConstantPart)) [
        | None ↦ None
        | Some v ↦ option_map (λ others. (let p : PlainConstantPart = record { path = i.path; value = v } in p) ∷ others) rest
      ]

  same_constants : (globals : ℕ) (given_ : List Initial) → constant_parts globals (moved_initials h given_) ≡ constant_parts globals given_
  same_constants globals [] = refl
  same_constants globals (i ∷ rest) = ap (λ x. with_part i x globals) (same_constants globals rest)

  same_some : (initialiser : Option PlainTree) → is_some (option_map (moved_tree (elsewhere h)) initialiser) ≡ is_some initialiser
  same_some None = refl
  same_some (Some initialiser) = refl

  -- ---- functions

  same_types : (parameters : List Parameter) → parameter_types (moved_parameters h parameters) ≡ parameter_types parameters
  same_types [] = refl
  same_types (p ∷ rest) = ap (λ l. p.ty ∷ l) (same_types rest)

  initialiser_moves : (initialiser : Option PlainTree) (name : PlainToken) → Moves h stays (refused_initialiser initialiser name) (refused_initialiser (option_map (moved_tree (elsewhere h)) initialiser) (elsewhere h name))
  initialiser_moves None name = give_moves h stays _ _ refl
  initialiser_moves (Some initialiser) name = refused_moves h stays BadOperand (first_token initialiser name) (first_token (moved_tree (elsewhere h) initialiser) (elsewhere h name)) (first_moves h initialiser name)

  list_moves :
      (defining : Bool) (s : Scope) (parts : PlainTrees) (name : PlainToken)
      → Moves h (moved_parameters h) (parameters_of defining s (behind_word t.OpenParenthesis parts) name) (parameters_of defining s (behind_word t.OpenParenthesis (moved_trees (elsewhere h) parts)) (elsewhere h name))
  list_moves defining s parts name =
      subst (λ list. Moves h (moved_parameters h) (parameters_of defining s (behind_word t.OpenParenthesis parts) name) (parameters_of defining s list (elsewhere h name))) (sym (behind_moves h t.OpenParenthesis parts))
      (parameters_move h defining s (behind_word t.OpenParenthesis parts) name)

  new_moves :
      (defining : Bool) (s : Scope) (storage : Storage) (result : PlainType) (parts : PlainTrees) (name : PlainToken)
      → Moves h (moved_parameters h) (new_function defining s storage result parts name) (new_function defining s storage result (moved_trees (elsewhere h) parts) (elsewhere h name))
  new_moves defining s storage result parts name =
      same_then h (moved_parameters h) (unless_so (may_be_function storage result (s.file_names name.text)) Redeclared name) (unless_so (may_be_function storage result (s.file_names name.text)) Redeclared (elsewhere h name)) _ _
      (unless_moves h (may_be_function storage result (s.file_names name.text)) Redeclared name (elsewhere h name) refl) (λ new. list_moves defining s parts name)

  named_function_moves :
      (s : Scope) (name : PlainToken) (result : PlainType) (parameters : List Parameter) (storage : Storage)
      → Moves h stays (with_name s name (function (signature_of result parameters)) storage) (with_name s (elsewhere h name) (function (signature_of result (moved_parameters h parameters))) storage)
  named_function_moves s name result parameters storage =
      subst (λ types. Moves h stays (with_name s name (function (signature_of result parameters)) storage) (with_name s (elsewhere h name) (function (record { result = result; parameters = types })) storage)) (sym (same_types parameters))
      (with_name_moves s name (function (signature_of result parameters)) storage)

  abbrev function_declared : UnitState → Storage → PlainType → PlainTrees → PlainToken → Option PlainTree → Checked UnitState
  function_declared unit storage result parts name initialiser = do
    bound ← declares (file_entity name.text)
    parameters ← new_function false unit.scope storage result parts name
    scope ← with_name unit.scope name (function (signature_of result parameters)) storage
    none_given ← refused_initialiser initialiser name
    give (with_scope unit scope)

  function_declared_moves :
      (unit : UnitState) (storage : Storage) (result : PlainType) (parts : PlainTrees) (name : PlainToken) (initialiser : Option PlainTree)
      → Moves h stays (function_declared unit storage result parts name initialiser) (function_declared unit storage result (moved_trees (elsewhere h) parts) (elsewhere h name) (option_map (moved_tree (elsewhere h)) initialiser))
  function_declared_moves unit storage result parts name initialiser =
      same_then h stays (declares (file_entity name.text)) (declares (file_entity name.text)) _ _ (declares_moves h (file_entity name.text))
      (λ bound. then_moves h (moved_parameters h) stays (new_function false unit.scope storage result parts name) (new_function false unit.scope storage result (moved_trees (elsewhere h) parts) (elsewhere h name))
      (λ parameters. with_name unit.scope name (function (signature_of result parameters)) storage >>= (λ scope. refused_initialiser initialiser name >>= (λ none_given. give (with_scope unit scope))))
      (λ parameters. with_name unit.scope (elsewhere h name) (function (signature_of result parameters)) storage >>= (λ scope. refused_initialiser (option_map (moved_tree (elsewhere h)) initialiser) (elsewhere h name) >>= (λ none_given. give (with_scope unit scope))))
      (new_moves false unit.scope storage result parts name)
      (λ parameters. same_then h stays (with_name unit.scope name (function (signature_of result parameters)) storage) (with_name unit.scope (elsewhere h name) (function (signature_of result (moved_parameters h parameters))) storage) _ _
      (named_function_moves unit.scope name result parameters storage)
      (λ scope. same_then h stays (refused_initialiser initialiser name) (refused_initialiser (option_map (moved_tree (elsewhere h)) initialiser) (elsewhere h name)) _ _ (initialiser_moves initialiser name)
      (λ none_given. given h stays (with_scope unit scope)))))

  declared_function_moves :
      (unit : UnitState) (storage : Storage) (ty : PlainType) (parts : PlainTrees) (name : PlainToken) (initialiser : Option PlainTree)
      → Moves h stays (declared_function unit storage ty parts name initialiser) (declared_function unit storage ty (moved_trees (elsewhere h) parts) (elsewhere h name) (option_map (moved_tree (elsewhere h)) initialiser))
  declared_function_moves unit storage ty parts name initialiser =
      subst (λ result. Moves h stays (declared_function unit storage ty parts name initialiser) (function_declared unit storage result (moved_trees (elsewhere h) parts) (elsewhere h name) (option_map (moved_tree (elsewhere h)) initialiser))) (sym (same_starred h parts ty))
      (function_declared_moves unit storage (starred parts ty) parts name initialiser)

  same_with_all : (s : Scope) (slot : ℕ) (parameters : List Parameter) → with_parameters s slot (moved_parameters h parameters) ≡ with_parameters s slot parameters
  same_with_all s slot [] = refl
  same_with_all s slot (p ∷ rest) = ap (λ scope. with_parameters scope (slot + 1) (moved_parameters h rest)) (same_with h s slot p.name p.ty) ∙ same_with_all (with_parameter s slot p.name p.ty) (slot + 1) rest

  kind_of_moved : (c : Checked Scope) → kind_or_incomplete (moved_checked h stays c) ≡ kind_or_incomplete c
  kind_of_moved (fine scope bindings) = refl
  kind_of_moved (refused kind token) = refl
  kind_of_moved broken = refl

  kind_by_moved :
      (s : Scope) (storage : Storage) (result : PlainType) (name : PlainToken) (c : Checked (List Parameter))
      → kind_by_parameters s storage result (elsewhere h name) (moved_checked h (moved_parameters h) c) ≡ kind_by_parameters s storage result name c
  kind_by_moved s storage result name (fine parameters bindings) =
      ap kind_or_incomplete (named_function_moves s name result parameters storage).holds ∙ kind_of_moved (with_name s name (function (signature_of result parameters)) storage)
  kind_by_moved s storage result name (refused kind token) = refl
  kind_by_moved s storage result name broken = refl

  same_result_kind :
      (s : Scope) (storage : Storage) (result : PlainType) (parts : PlainTrees) (name : PlainToken)
      → result_kind s storage result (elsewhere h name) (parameters_of true s (behind_word t.OpenParenthesis (moved_trees (elsewhere h) parts)) (elsewhere h name))
      ≡ result_kind s storage result name (parameters_of true s (behind_word t.OpenParenthesis parts) name)
  same_result_kind s storage result parts name =
      ap (λ kind. if may_be_function storage result (s.file_names name.text) then kind else Redeclared)
      (ap (kind_by_parameters s storage result (elsewhere h name)) (list_moves true s parts name).holds ∙ kind_by_moved s storage result name (parameters_of true s (behind_word t.OpenParenthesis parts) name))

  -- ---- members

  declared_member_moves :
      (s : Scope) (number : ℕ) (known : Members) (ty : PlainType) (kind : Kind) (parts : PlainTrees) (name : PlainToken)
      → Moves h stays (declared_member s number known ty kind parts name) (declared_member s number known ty kind (moved_trees (elsewhere h) parts) (elsewhere h name))
  declared_member_moves s number known ty kind parts name =
      let new = not (is_some (known.numbers name.text)) in
      same_then h stays (unless_so new Redeclared name) (unless_so new Redeclared (elsewhere h name)) _ _ (unless_moves h new Redeclared name (elsewhere h name) refl)
      (λ fresh. same_then h stays (declares (member_entity number (length known.members))) (declares (member_entity number (length known.members))) _ _ (declares_moves h (member_entity number (length known.members)))
      (λ bound. same_then h stays (object_type s ty kind parts name None) (object_type s ty kind (moved_trees (elsewhere h) parts) (elsewhere h name) None) _ _ (object_moves h s ty kind parts name None)
      (λ whole. same_then h stays (unless_so (is_complete s.structs whole) Incomplete name) (unless_so (is_complete s.structs whole) Incomplete (elsewhere h name)) _ _ (unless_moves h (is_complete s.structs whole) Incomplete name (elsewhere h name) refl)
      (λ complete. given h stays (with_member s.structs known name.text whole)))))

  one_member_moves : (s : Scope) (number : ℕ) (known : Members) (ty : PlainType) (tree : PlainTree) → Moves h stays (one_member s number known ty tree) (one_member s number known ty (moved_tree (elsewhere h) tree))
  one_member_moves s number known ty (node kind parts) =
      token_then h stays (name_in parts) (name_in (moved_trees (elsewhere h) parts)) _ _ (name_moves h parts) (λ name. declared_member_moves s number known ty kind parts name)
  one_member_moves s number known ty (leaf token) = broken_moves h stays

  pub members_move : (parts : PlainTrees) (s : Scope) (number : ℕ) (known : Members) (ty : PlainType) → Moves h stays (members_from s number known ty parts) (members_from s number known ty (moved_trees (elsewhere h) parts))
  members_move none s number known ty = broken_moves h stays
  members_move (more tree none) s number known ty = one_member_moves s number known ty tree
  members_move (more tree (more comma rest)) s number known ty =
      same_then h stays (one_member s number known ty tree) (one_member s number known ty (moved_tree (elsewhere h) tree)) _ _ (one_member_moves s number known ty tree) (λ first. members_move rest s number first ty)

module _ (told : TypeKind → TypeKind) (h : PlainToken → PlainToken) (alike : KeepsKinds told h) where
  -- ---- definitions of objects

  initialised_follows :
      (globals : ℕ) (unit : UnitState) (ty : PlainType) (name : PlainToken) (initialiser : PlainTree)
      → Follows told h stays (initial unit.scope (Some globals) ty [] initialiser name >>= (λ parts. or_broken (constant_parts globals parts) >>= (λ values. give (with_defined unit name.text (object_body values)))))
      (initial unit.scope (Some globals) ty [] (moved_tree (elsewhere h) initialiser) (elsewhere h name) >>= (λ parts. or_broken (constant_parts globals parts) >>= (λ values. give (with_defined unit name.text (object_body values)))))
  initialised_follows globals unit ty name initialiser =
      then_follows told h (moved_initials h) stays (initial unit.scope (Some globals) ty [] initialiser name) (initial unit.scope (Some globals) ty [] (moved_tree (elsewhere h) initialiser) (elsewhere h name))
      (λ parts. or_broken (constant_parts globals parts) >>= (λ values. give (with_defined unit name.text (object_body values)))) (λ parts. or_broken (constant_parts globals parts) >>= (λ values. give (with_defined unit name.text (object_body values))))
      (initial_follows told h alike unit.scope (Some globals) initialiser ty [] name)
      (λ parts. same_follows told h stays (or_broken (constant_parts globals parts)) (or_broken (constant_parts globals (moved_initials h parts))) _ _ (kept told h (somes_move h (constant_parts globals parts) (constant_parts globals (moved_initials h parts)) (same_constants h globals parts)))
      (λ values. given_follows told h stays (with_defined unit name.text (object_body values))))

  defined_follows :
      (globals : ℕ) (unit : UnitState) (storage : Storage) (ty : PlainType) (name : PlainToken) (initialiser : Option PlainTree)
      → Follows told h stays (defined_object globals unit storage ty name initialiser) (defined_object globals unit storage ty (elsewhere h name) (option_map (moved_tree (elsewhere h)) initialiser))
  defined_follows globals unit by_extern ty name None = given_follows told h stays unit
  defined_follows globals unit _ ty name None = given_follows told h stays (with_defined unit name.text tentative_body)
  defined_follows globals unit _ ty name (Some initialiser) = initialised_follows globals unit ty name initialiser

  global_is :
      (storage : Storage) (initialiser : Option PlainTree) (s : Scope) (ty : PlainType) (name : PlainToken) (rest : PlainTrees)
      → Follows told h stays (judged_global storage (is_some initialiser) s ty name rest) (judged_global storage (is_some (option_map (moved_tree (elsewhere h)) initialiser)) s ty (elsewhere h name) (moved_trees (elsewhere h) rest))
  global_is storage initialiser s ty name rest =
      subst (λ b. Follows told h stays (judged_global storage (is_some initialiser) s ty name rest) (judged_global storage b s ty (elsewhere h name) (moved_trees (elsewhere h) rest))) (sym (same_some h initialiser))
      (kept told h (global_moves h storage (is_some initialiser) s ty name rest))

  declared_object_follows :
      (globals : ℕ) (unit : UnitState) (storage : Storage) (ty : PlainType) (kind : Kind) (parts : PlainTrees) (name : PlainToken) (initialiser : Option PlainTree) (rest : PlainTrees)
      → Follows told h stays (declared_object globals unit storage ty kind parts name initialiser rest)
      (declared_object globals unit storage ty kind (moved_trees (elsewhere h) parts) (elsewhere h name) (option_map (moved_tree (elsewhere h)) initialiser) (moved_trees (elsewhere h) rest))
  declared_object_follows globals unit storage ty kind parts name initialiser rest =
      let moved = option_map (moved_tree (elsewhere h)) initialiser in
      same_follows told h stays (declares (file_entity name.text)) (declares (file_entity name.text)) _ _ (kept told h (declares_moves h (file_entity name.text)))
      (λ bound. same_follows told h stays (object_type unit.scope ty kind parts name initialiser) (object_type unit.scope ty kind (moved_trees (elsewhere h) parts) (elsewhere h name) moved) _ _ (kept told h (object_moves h unit.scope ty kind parts name initialiser))
      (λ whole. same_follows told h stays (with_name unit.scope name (variable whole) storage) (with_name unit.scope (elsewhere h name) (variable whole) storage) _ _ (kept told h (with_name_moves h unit.scope name (variable whole) storage))
      (λ scope. same_follows told h stays (judged_global storage (is_some initialiser) scope whole name rest) (judged_global storage (is_some moved) scope whole (elsewhere h name) (moved_trees (elsewhere h) rest)) _ _ (global_is storage initialiser scope whole name rest)
      (λ judged. defined_follows globals (with_scope unit scope) storage whole name initialiser))))

  declared_one_follows :
      (globals : ℕ) (unit : UnitState) (storage : Storage) (ty : PlainType) (tree : PlainTree) (initialiser : Option PlainTree) (rest : PlainTrees)
      → Follows told h stays (declared_one globals unit storage ty tree initialiser rest) (declared_one globals unit storage ty (moved_tree (elsewhere h) tree) (option_map (moved_tree (elsewhere h)) initialiser) (moved_trees (elsewhere h) rest))
  declared_one_follows globals unit storage ty (node k.FunctionDeclarator parts) initialiser rest =
      token_follows told h stays (name_in parts) (name_in (moved_trees (elsewhere h) parts)) _ _ (name_moves h parts) (λ name. kept told h (declared_function_moves h unit storage ty parts name initialiser))
  declared_one_follows globals unit storage ty (node kind parts) initialiser rest =
      token_follows told h stays (name_in parts) (name_in (moved_trees (elsewhere h) parts)) _ _ (name_moves h parts) (λ name. declared_object_follows globals unit storage ty kind parts name initialiser rest)
  declared_one_follows globals unit storage ty (leaf token) initialiser rest = broken_follows told h stays

  abbrev DeclaratorsFollow : PlainTrees → Type 0
  DeclaratorsFollow parts =
      (globals : ℕ) (unit : UnitState) (storage : Storage) (ty : PlainType) (rest : PlainTrees)
      → Follows told h stays (declared_from globals unit storage ty parts rest) (declared_from globals unit storage ty (moved_trees (elsewhere h) parts) (moved_trees (elsewhere h) rest))

  one_then :
      (globals : ℕ) (unit : UnitState) (storage : Storage) (ty : PlainType) (tree : PlainTree) (initialiser : Option PlainTree) (others rest : PlainTrees) → DeclaratorsFollow others
      → Follows told h stays (declared_one globals unit storage ty tree initialiser rest >>= (λ first. declared_from globals first storage ty others rest))
      (declared_one globals unit storage ty (moved_tree (elsewhere h) tree) (option_map (moved_tree (elsewhere h)) initialiser) (moved_trees (elsewhere h) rest)
      >>= (λ first. declared_from globals first storage ty (moved_trees (elsewhere h) others) (moved_trees (elsewhere h) rest)))
  one_then globals unit storage ty tree initialiser others rest i =
      same_follows told h stays (declared_one globals unit storage ty tree initialiser rest) (declared_one globals unit storage ty (moved_tree (elsewhere h) tree) (option_map (moved_tree (elsewhere h)) initialiser) (moved_trees (elsewhere h) rest)) _ _
      (declared_one_follows globals unit storage ty tree initialiser rest) (λ first. i globals first storage ty rest)

  pub declarators_follow : (parts : PlainTrees) → DeclaratorsFollow parts
  declarators_follow none globals unit storage ty rest = broken_follows told h stays
  declarators_follow (more tree none) globals unit storage ty rest = declared_one_follows globals unit storage ty tree None rest
  declarators_follow (more tree (more sign none)) globals unit storage ty rest = broken_follows told h stays
  declarators_follow (more tree (more sign (more next none))) globals unit storage ty rest =
      tested_follows told h stays (is_word (t.Assign ∷ []) sign) (is_word (t.Assign ∷ []) (moved_tree (elsewhere h) sign)) _ _ _ _ (same_word h (t.Assign ∷ []) sign) (declared_one_follows globals unit storage ty tree (Some next) rest)
      (one_then globals unit storage ty tree None (more next none) rest (declarators_follow (more next none)))
  declarators_follow (more tree (more sign (more next (more comma others)))) globals unit storage ty rest =
      tested_follows told h stays (is_word (t.Assign ∷ []) sign) (is_word (t.Assign ∷ []) (moved_tree (elsewhere h) sign)) _ _ _ _ (same_word h (t.Assign ∷ []) sign)
      (one_then globals unit storage ty tree (Some next) others rest (declarators_follow others))
      (one_then globals unit storage ty tree None (more next (more comma others)) rest (declarators_follow (more next (more comma others))))

  -- ---- definitions of functions

  body_follows : (s : Scope) (result : PlainType) (slots : List PlainType) (tree : PlainTree) → Follows told h stays (judged_body s result slots tree) (judged_body s result slots (moved_tree (elsewhere h) tree))
  body_follows s result slots (node kind (more brace (more (node k.Items items) (more last none)))) = items_follow told h alike items (record { scope = s; result = result; in_loop = false }) slots
  body_follows s result slots (node kind (more brace (more (node k.Absent items) (more last none)))) = given_follows told h stays (items_as slots no_item)
  body_follows s result slots _ = broken_follows told h stays

  body_of :
      (s : Scope) (result : PlainType) (parameters : List Parameter) (body : PlainTree)
      → Follows told h stays (judged_body (with_parameters (with_block s) 0 parameters) result (parameter_types parameters) body)
      (judged_body (with_parameters (with_block s) 0 (moved_parameters h parameters)) result (parameter_types (moved_parameters h parameters)) (moved_tree (elsewhere h) body))
  body_of s result parameters body =
      let original = judged_body (with_parameters (with_block s) 0 parameters) result (parameter_types parameters) body in
      subst (λ scope. Follows told h stays original (judged_body scope result (parameter_types (moved_parameters h parameters)) (moved_tree (elsewhere h) body))) (sym (same_with_all h (with_block s) 0 parameters))
      (subst (λ types. Follows told h stays original (judged_body (with_parameters (with_block s) 0 parameters) result types (moved_tree (elsewhere h) body))) (sym (same_types h parameters))
      (body_follows (with_parameters (with_block s) 0 parameters) result (parameter_types parameters) body))

  abbrev function_defined : UnitState → Storage → PlainType → TypeKind → PlainTrees → PlainToken → PlainTree → Checked UnitState
  function_defined unit storage result kind parts name body = do
    bound ← declares (file_entity name.text)
    fits ← unless_so (is_result unit.scope result) kind name
    parameters ← new_function true unit.scope storage result parts name
    scope ← with_name unit.scope name (function (signature_of result parameters)) storage
    items ← judged_body (with_parameters (with_block scope) 0 parameters) result (parameter_types parameters) body
    give (with_defined (with_scope unit scope) name.text (function_body items.slots items.core))

  -- what stands behind a function's parameters
  abbrev rest_of : UnitState → Storage → PlainType → PlainToken → PlainTree → List Parameter → Checked UnitState
  rest_of unit storage result name body parameters = do
    scope ← with_name unit.scope name (function (signature_of result parameters)) storage
    items ← judged_body (with_parameters (with_block scope) 0 parameters) result (parameter_types parameters) body
    give (with_defined (with_scope unit scope) name.text (function_body items.slots items.core))

  function_defined_follows :
      (unit : UnitState) (storage : Storage) (result : PlainType) (kind : TypeKind) (parts : PlainTrees) (name : PlainToken) (body : PlainTree)
      → Follows told h stays (function_defined unit storage result kind parts name body) (function_defined unit storage result kind (moved_trees (elsewhere h) parts) (elsewhere h name) (moved_tree (elsewhere h) body))
  function_defined_follows unit storage result kind parts name body =
      same_follows told h stays (declares (file_entity name.text)) (declares (file_entity name.text)) _ _ (kept told h (declares_moves h (file_entity name.text)))
      (λ bound. same_follows told h stays (unless_so (is_result unit.scope result) kind name) (unless_so (is_result unit.scope result) kind (elsewhere h name)) _ _ (kept told h (unless_moves h (is_result unit.scope result) kind name (elsewhere h name) refl))
      (λ fits. then_follows told h (moved_parameters h) stays (new_function true unit.scope storage result parts name) (new_function true unit.scope storage result (moved_trees (elsewhere h) parts) (elsewhere h name)) (rest_of unit storage result name body) (rest_of unit storage result (elsewhere h name) (moved_tree (elsewhere h) body))
      (kept told h (new_moves h true unit.scope storage result parts name))
      (λ parameters. same_follows told h stays (with_name unit.scope name (function (signature_of result parameters)) storage) (with_name unit.scope (elsewhere h name) (function (signature_of result (moved_parameters h parameters))) storage) _ _
      (kept told h (named_function_moves h unit.scope name result parameters storage))
      (λ scope. same_follows told h stays (judged_body (with_parameters (with_block scope) 0 parameters) result (parameter_types parameters) body)
      (judged_body (with_parameters (with_block scope) 0 (moved_parameters h parameters)) result (parameter_types (moved_parameters h parameters)) (moved_tree (elsewhere h) body)) _ _
      (body_of scope result parameters body) (λ items. given_follows told h stays (with_defined (with_scope unit scope) name.text (function_body items.slots items.core)))))))

  pub function_follows_to :
      (unit : UnitState) (storage : Storage) (ty : PlainType) (parts : PlainTrees) (name : PlainToken) (body : PlainTree)
      → Follows told h stays (defined_function unit storage ty parts name body) (defined_function unit storage ty (moved_trees (elsewhere h) parts) (elsewhere h name) (moved_tree (elsewhere h) body))
  function_follows_to unit storage ty parts name body =
      let original = defined_function unit storage ty parts name body in
      let moved = moved_trees (elsewhere h) parts in
      let kind_for : PlainType → TypeKind = λ result. result_kind unit.scope storage result (elsewhere h name) (parameters_of true unit.scope (behind_word t.OpenParenthesis moved) (elsewhere h name)) in
      subst (λ result. Follows told h stays original (function_defined unit storage result (kind_for result) moved (elsewhere h name) (moved_tree (elsewhere h) body))) (sym (same_starred h parts ty))
      (subst (λ kind. Follows told h stays original (function_defined unit storage (starred parts ty) kind moved (elsewhere h name) (moved_tree (elsewhere h) body))) (sym (same_result_kind h unit.scope storage (starred parts ty) parts name))
      (function_defined_follows unit storage (starred parts ty) (result_kind unit.scope storage (starred parts ty) name (parameters_of true unit.scope (behind_word t.OpenParenthesis parts) name)) parts name body))
