-- Types by words, declarators and parameters whose tokens stand elsewhere are judged alike.
use Rattle.std.proofs.Common.{◌≡◌, ℕ, Bool, true, false, List, [], ◌∷◌, ◌++◌, map, refl, sym, ap, subst, ◌∙◌, length}
use Rattle.std.specs.Prelude.{Option, Some, None, option_map, nat_le, not, ◌&&◌, ◌||◌}
use Rattle.std.specs.List.{list_any}
use Rattle.std.proofs.lemmas.List.{map-append, length-map}
use Rattle.c_text.specs.Token.{PlainToken}
use Rattle.c_types.specs.Types.{PlainType, pointer_to, array_of}
use Rattle.c_tree.specs.declared.kinds.Kind.{Kind}
use Rattle.c_tree.specs.declared.kinds.Kind.TheVariants as k
use Rattle.c_tree.specs.declared.terminals.Terminal.{Terminal}
use Rattle.c_tree.specs.declared.terminals.Terminal.TheVariants as t
use Rattle.c_tree.specs.Terminals.{terminal, same}
use Rattle.c_tree.specs.Trees.{PlainTree, PlainTrees, leaf, node, none, more}
use Rattle.c_tree.specs.Grammar.{is_absent, is_lone_void, are_words}
use Rattle.core_meaning.specs.declared.refusals.TypeKind.TheVariants.{Incomplete, Redeclared, BadConstant}
use Rattle.core_meaning.specs.Checking.{Entity, Checked, ◌>>=◌, give, unless_so}
use Rattle.core_meaning.specs.Entities.{Scope}
use Rattle.core_meaning.specs.Typing.{is_complete}
use Rattle.core_meaning.specs.Expressions.{first_token_in, has_terminal}
use Rattle.core_meaning.specs.Constancy.{count_by_initialiser, most_elements}
use Rattle.core_meaning.specs.Declarations.{name_in, behind_word, Based, based, based_on_tag, pointers, starred, count_of_size, is_left_out, count_or_one, count_without_size, element_count, object_type, with_block, Parameter, size_of_parameter, parameter_type, token_of, is_name_of, is_new_parameter, parameter_entity, declares_name, judged_parameter, declared_parameter, one_parameter, with_parameter, parameters_from, parameters_in, parameters_of, judged_object}
use Rattle.moved_programs.specs.Trees.{moved_tree, moved_trees}
use Rattle.moved_programs.proofs.Moves.{elsewhere, Moves, stays, move_rules, then_moves, same_then, token_then, give_moves, given, refused_moves, broken_moves, unless_moves, tested_moves, declares_moves}
use Rattle.moved_programs.proofs.Words.{first_in_moves, same_terminals, same_words, same_stars, name_moves, behind_moves}
use Rattle.moved_programs.proofs.Constants.{count_moves, same_count}

abbrev pub moved_parameter : (PlainToken → PlainToken) → Parameter → Parameter
moved_parameter h p = record { name = option_map (elsewhere h) p.name; ty = p.ty }

abbrev pub moved_parameters : (PlainToken → PlainToken) → List Parameter → List Parameter
moved_parameters h parameters = map (moved_parameter h) parameters

module _ (h : PlainToken → PlainToken) where
  -- ---- types by words

  tag_moves : (declaring : Bool) (s : Scope) (tag : PlainToken) (n : Option ℕ) → Moves h stays (based_on_tag declaring s tag n) (based_on_tag declaring s (elsewhere h tag) n)
  tag_moves declaring s tag (Some n) = search move_rules
  tag_moves false s tag None = search move_rules
  tag_moves true s tag None = search move_rules

  pub based_moves : (declaring : Bool) (s : Scope) (words : PlainTrees) → Moves h stays (based declaring s words) (based declaring s (moved_trees (elsewhere h) words))
  based_moves declaring s words =
      tested_moves h stays (has_terminal t.Struct words) (has_terminal t.Struct (moved_trees (elsewhere h) words)) _ _ _ _ (same_terminals h t.Struct words)
      (token_then h stays (name_in words) (name_in (moved_trees (elsewhere h) words)) _ _ (name_moves h words) (λ tag. tag_moves declaring s tag (s.tags tag.text)))
      (give_moves h stays _ _ (ap (λ ty. let base : Based = record { ty = ty; scope = s } in base) (same_words h words)))

  -- ---- sizes

  size_moves : (s : Scope) (name : PlainToken) (size : Option PlainTree) → Moves h stays (count_of_size s name size) (count_of_size s (elsewhere h name) (option_map (moved_tree (elsewhere h)) size))
  size_moves s name None = broken_moves h stays
  size_moves s name (Some size) = count_moves h s size name

  pub same_absence : (tree : PlainTree) → is_absent (moved_tree (elsewhere h) tree) ≡ is_absent tree
  same_absence (leaf token) = refl
  same_absence (node k.Absent none) = refl
  same_absence (node _ _) = refl

  same_left_out : (size : Option PlainTree) → is_left_out (option_map (moved_tree (elsewhere h)) size) ≡ is_left_out size
  same_left_out (Some size) = same_absence size
  same_left_out None = refl

  abbrev counted : Option ℕ → PlainToken → Checked ℕ
  counted count name = do
    few ← unless_so (nat_le (count_or_one count) most_elements) BadConstant name
    give (count_or_one count)

  counted_moves : (count : Option ℕ) (name : PlainToken) → Moves h stays (counted count name) (counted count (elsewhere h name))
  counted_moves count name =
      same_then h stays (unless_so (nat_le (count_or_one count) most_elements) BadConstant name) (unless_so (nat_le (count_or_one count) most_elements) BadConstant (elsewhere h name)) _ _
      (unless_moves h (nat_le (count_or_one count) most_elements) BadConstant name (elsewhere h name) refl) (λ few. give_moves h stays _ _ refl)

  without_size_moves :
      (element : PlainType) (name : PlainToken) (initialiser : Option PlainTree)
      → Moves h stays (count_without_size element name initialiser) (count_without_size element (elsewhere h name) (option_map (moved_tree (elsewhere h)) initialiser))
  without_size_moves element name None = refused_moves h stays Incomplete name (elsewhere h name) refl
  without_size_moves element name (Some initialiser) =
      subst (λ count. Moves h stays (counted (count_by_initialiser element initialiser) name) (counted count (elsewhere h name))) (sym (same_count h element initialiser)) (counted_moves (count_by_initialiser element initialiser) name)

  elements_move :
      (s : Scope) (element : PlainType) (name : PlainToken) (size initialiser : Option PlainTree)
      → Moves h stays (element_count s element name size initialiser) (element_count s element (elsewhere h name) (option_map (moved_tree (elsewhere h)) size) (option_map (moved_tree (elsewhere h)) initialiser))
  elements_move s element name size initialiser =
      tested_moves h stays (is_left_out size) (is_left_out (option_map (moved_tree (elsewhere h)) size)) _ _ _ _ (same_left_out size) (without_size_moves element name initialiser) (size_moves s name size)

  -- ---- declarators of objects

  pub same_starred : (parts : PlainTrees) (ty : PlainType) → starred (moved_trees (elsewhere h) parts) ty ≡ starred parts ty
  same_starred parts ty = ap (λ n. pointers n ty) (same_stars h parts)

  abbrev array_type : Scope → PlainType → Option PlainTree → PlainToken → Option PlainTree → Checked PlainType
  array_type s element size name initialiser = do
    complete ← unless_so (is_complete s.structs element) Incomplete name
    count ← element_count s element name size initialiser
    give (array_of element count)

  array_moves :
      (s : Scope) (element : PlainType) (size : Option PlainTree) (name : PlainToken) (initialiser : Option PlainTree)
      → Moves h stays (array_type s element size name initialiser) (array_type s element (option_map (moved_tree (elsewhere h)) size) (elsewhere h name) (option_map (moved_tree (elsewhere h)) initialiser))
  array_moves s element size name initialiser =
      same_then h stays (unless_so (is_complete s.structs element) Incomplete name) (unless_so (is_complete s.structs element) Incomplete (elsewhere h name)) _ _ (unless_moves h (is_complete s.structs element) Incomplete name (elsewhere h name) refl)
      (λ complete. same_then h stays (element_count s element name size initialiser) (element_count s element (elsewhere h name) (option_map (moved_tree (elsewhere h)) size) (option_map (moved_tree (elsewhere h)) initialiser)) _ _
      (elements_move s element name size initialiser) (λ count. give_moves h stays _ _ refl))

  pub object_moves :
      (s : Scope) (ty : PlainType) (kind : Kind) (parts : PlainTrees) (name : PlainToken) (initialiser : Option PlainTree)
      → Moves h stays (object_type s ty kind parts name initialiser) (object_type s ty kind (moved_trees (elsewhere h) parts) (elsewhere h name) (option_map (moved_tree (elsewhere h)) initialiser))
  object_moves s ty k.ArrayDeclarator parts name initialiser =
      let original = array_type s (starred parts ty) (behind_word t.OpenBracket parts) name initialiser in
      let moved = option_map (moved_tree (elsewhere h)) initialiser in
      subst (λ element. Moves h stays original (array_type s element (behind_word t.OpenBracket (moved_trees (elsewhere h) parts)) (elsewhere h name) moved)) (sym (same_starred parts ty))
      (subst (λ size. Moves h stays original (array_type s (starred parts ty) size (elsewhere h name) moved)) (sym (behind_moves h t.OpenBracket parts))
      (array_moves s (starred parts ty) (behind_word t.OpenBracket parts) name initialiser))
  object_moves s ty k.Declarator parts name initialiser = give_moves h stays _ _ (same_starred parts ty)
  object_moves s ty _ parts name initialiser = broken_moves h stays

  pub judged_object_moves : (s : Scope) (ty : PlainType) (name : PlainToken) → Moves h stays (judged_object s ty name) (judged_object s ty (elsewhere h name))
  judged_object_moves s ty name = search move_rules

  -- ---- parameters

  parameter_size_moves :
      (s : Scope) (name : PlainToken) (size : Option PlainTree) → Moves h stays (size_of_parameter s name size) (size_of_parameter s (elsewhere h name) (option_map (moved_tree (elsewhere h)) size))
  parameter_size_moves s name size =
      tested_moves h stays (is_left_out size) (is_left_out (option_map (moved_tree (elsewhere h)) size)) _ _ _ _ (same_left_out size) (give_moves h stays _ _ refl) (size_moves s name size)

  abbrev array_parameter : Scope → PlainType → Option PlainTree → PlainToken → Checked PlainType
  array_parameter s element size name = do
    complete ← unless_so (is_complete s.structs element) Incomplete name
    count ← size_of_parameter s name size
    give (pointer_to element)

  array_parameter_moves :
      (s : Scope) (element : PlainType) (size : Option PlainTree) (name : PlainToken)
      → Moves h stays (array_parameter s element size name) (array_parameter s element (option_map (moved_tree (elsewhere h)) size) (elsewhere h name))
  array_parameter_moves s element size name =
      same_then h stays (unless_so (is_complete s.structs element) Incomplete name) (unless_so (is_complete s.structs element) Incomplete (elsewhere h name)) _ _ (unless_moves h (is_complete s.structs element) Incomplete name (elsewhere h name) refl)
      (λ complete. same_then h stays (size_of_parameter s name size) (size_of_parameter s (elsewhere h name) (option_map (moved_tree (elsewhere h)) size)) _ _ (parameter_size_moves s name size) (λ count. give_moves h stays _ _ refl))

  parameter_type_moves :
      (s : Scope) (ty : PlainType) (kind : Kind) (parts : PlainTrees) (name : PlainToken)
      → Moves h stays (parameter_type s ty kind parts name) (parameter_type s ty kind (moved_trees (elsewhere h) parts) (elsewhere h name))
  parameter_type_moves s ty k.ArrayDeclarator parts name =
      let original = array_parameter s (starred parts ty) (behind_word t.OpenBracket parts) name in
      subst (λ element. Moves h stays original (array_parameter s element (behind_word t.OpenBracket (moved_trees (elsewhere h) parts)) (elsewhere h name))) (sym (same_starred parts ty))
      (subst (λ size. Moves h stays original (array_parameter s (starred parts ty) size (elsewhere h name))) (sym (behind_moves h t.OpenBracket parts))
      (array_parameter_moves s (starred parts ty) (behind_word t.OpenBracket parts) name))
  parameter_type_moves s ty k.Declarator parts name = give_moves h stays _ _ (same_starred parts ty)
  parameter_type_moves s ty _ parts name = broken_moves h stays

  same_token_of : (name : Option PlainToken) (first : PlainToken) → token_of (option_map (elsewhere h) name) (elsewhere h first) ≡ elsewhere h (token_of name first)
  same_token_of (Some name) first = refl
  same_token_of None first = refl

  same_name_of : (text : List ℕ) (name : Option PlainToken) → is_name_of text (option_map (elsewhere h) name) ≡ is_name_of text name
  same_name_of text (Some name) = refl
  same_name_of text None = refl

  same_names : (text : List ℕ) (before : List Parameter) → list_any (λ p. is_name_of text p.name) (moved_parameters h before) ≡ list_any (λ p. is_name_of text p.name) before
  same_names text [] = refl
  same_names text (p ∷ rest) =
      ap (λ b. b || list_any (λ p. is_name_of text p.name) (moved_parameters h rest)) (same_name_of text p.name)
      ∙ ap (λ b. is_name_of text p.name || b) (same_names text rest)

  same_new : (before : List Parameter) (name : Option PlainToken) → is_new_parameter (moved_parameters h before) (option_map (elsewhere h) name) ≡ is_new_parameter before name
  same_new before None = refl
  same_new before (Some name) = ap not (same_names name.text before)

  declares_name_moves : (name : Option PlainToken) (entity : Entity) → Moves h stays (declares_name name entity) (declares_name (option_map (elsewhere h) name) entity)
  declares_name_moves None entity = give_moves h stays _ _ refl
  declares_name_moves (Some name) entity = declares_moves h entity

  parameter_moves : (defining : Bool) (s : Scope) (ty : PlainType) (at : PlainToken) → Moves h stays (judged_parameter defining s ty at) (judged_parameter defining s ty (elsewhere h at))
  parameter_moves defining s ty at = search move_rules

  -- a parameter with a declarator, by the name that it may have
  abbrev named_parameter : Bool → Scope → Bool → ℕ → PlainType → PlainToken → Kind → PlainTrees → Option PlainToken → Checked Parameter
  named_parameter defining s new slot ty at kind parts name = do
    fresh ← unless_so new Redeclared at
    bound ← declares_name name (parameter_entity defining slot)
    whole ← parameter_type s ty kind parts at
    judged ← judged_parameter defining s whole at
    give (record { name = name; ty = whole })

  named_moves :
      (defining : Bool) (s : Scope) (new : Bool) (slot : ℕ) (ty : PlainType) (at : PlainToken) (kind : Kind) (parts : PlainTrees) (name : Option PlainToken)
      → Moves h (moved_parameter h) (named_parameter defining s new slot ty at kind parts name) (named_parameter defining s new slot ty (elsewhere h at) kind (moved_trees (elsewhere h) parts) (option_map (elsewhere h) name))
  named_moves defining s new slot ty at kind parts name =
      same_then h (moved_parameter h) (unless_so new Redeclared at) (unless_so new Redeclared (elsewhere h at)) _ _ (unless_moves h new Redeclared at (elsewhere h at) refl)
      (λ fresh. same_then h (moved_parameter h) (declares_name name (parameter_entity defining slot)) (declares_name (option_map (elsewhere h) name) (parameter_entity defining slot)) _ _ (declares_name_moves name (parameter_entity defining slot))
      (λ bound. same_then h (moved_parameter h) (parameter_type s ty kind parts at) (parameter_type s ty kind (moved_trees (elsewhere h) parts) (elsewhere h at)) _ _ (parameter_type_moves s ty kind parts at)
      (λ whole. same_then h (moved_parameter h) (judged_parameter defining s whole at) (judged_parameter defining s whole (elsewhere h at)) _ _ (parameter_moves defining s whole at)
      (λ judged. given h (moved_parameter h) (let p : Parameter = record { name = name; ty = whole } in p)))))

  abbrev named_here : Bool → Scope → List Parameter → PlainType → PlainToken → Kind → PlainTrees → Checked Parameter
  named_here defining s before ty first kind parts =
      named_parameter defining s (is_new_parameter before (name_in parts)) (length before) ty (token_of (name_in parts) first) kind parts (name_in parts)

  named_here_moves :
      (defining : Bool) (s : Scope) (before : List Parameter) (ty : PlainType) (first : PlainToken) (kind : Kind) (parts : PlainTrees)
      → Moves h (moved_parameter h) (named_here defining s before ty first kind parts) (named_here defining s (moved_parameters h before) ty (elsewhere h first) kind (moved_trees (elsewhere h) parts))
  named_here_moves defining s before ty first kind parts =
      let original = named_here defining s before ty first kind parts in
      let moved = moved_trees (elsewhere h) parts in
      subst (λ name. Moves h (moved_parameter h) original (named_parameter defining s (is_new_parameter (moved_parameters h before) name) (length (moved_parameters h before)) ty (token_of name (elsewhere h first)) kind moved name)) (sym (name_moves h parts))
      (subst (λ new. Moves h (moved_parameter h) original (named_parameter defining s new (length (moved_parameters h before)) ty (token_of (option_map (elsewhere h) (name_in parts)) (elsewhere h first)) kind moved (option_map (elsewhere h) (name_in parts)))) (sym (same_new before (name_in parts)))
      (subst (λ slot. Moves h (moved_parameter h) original (named_parameter defining s (is_new_parameter before (name_in parts)) slot ty (token_of (option_map (elsewhere h) (name_in parts)) (elsewhere h first)) kind moved (option_map (elsewhere h) (name_in parts)))) (sym (length-map before (moved_parameter h)))
      (subst (λ at. Moves h (moved_parameter h) original (named_parameter defining s (is_new_parameter before (name_in parts)) (length before) ty at kind moved (option_map (elsewhere h) (name_in parts)))) (sym (same_token_of (name_in parts) first))
      (named_moves defining s (is_new_parameter before (name_in parts)) (length before) ty (token_of (name_in parts) first) kind parts (name_in parts)))))

  declared_parameter_moves :
      (defining : Bool) (s : Scope) (before : List Parameter) (ty : PlainType) (first : PlainToken) (tree : PlainTree)
      → Moves h (moved_parameter h) (declared_parameter defining s before ty first tree) (declared_parameter defining s (moved_parameters h before) ty (elsewhere h first) (moved_tree (elsewhere h) tree))
  declared_parameter_moves defining s before ty first (node k.Absent parts) =
      same_then h (moved_parameter h) (judged_parameter defining s ty first) (judged_parameter defining s ty (elsewhere h first)) _ _ (parameter_moves defining s ty first) (λ judged. given h (moved_parameter h) (let p : Parameter = record { name = None; ty = ty } in p))
  declared_parameter_moves defining s before ty first (node kind parts) = named_here_moves defining s before ty first kind parts
  declared_parameter_moves defining s before ty first (leaf token) = broken_moves h (moved_parameter h)

  one_parameter_of :
      (defining : Bool) (s : Scope) (before : List Parameter) (words : PlainTrees) (declarator : PlainTree) (behind : PlainToken)
      → Moves h (moved_parameter h) (based false s words >>= (λ base. declared_parameter defining s before base.ty (first_token_in words behind) declarator))
      (based false s (moved_trees (elsewhere h) words) >>= (λ base. declared_parameter defining s (moved_parameters h before) base.ty (first_token_in (moved_trees (elsewhere h) words) (elsewhere h behind)) (moved_tree (elsewhere h) declarator)))
  one_parameter_of defining s before words declarator behind =
      same_then h (moved_parameter h) (based false s words) (based false s (moved_trees (elsewhere h) words)) _ _ (based_moves false s words)
      (λ base. subst (λ first. Moves h (moved_parameter h) (declared_parameter defining s before base.ty (first_token_in words behind) declarator) (declared_parameter defining s (moved_parameters h before) base.ty first (moved_tree (elsewhere h) declarator))) (sym (first_in_moves h words behind))
      (declared_parameter_moves defining s before base.ty (first_token_in words behind) declarator))

  one_moves :
      (defining : Bool) (s : Scope) (before : List Parameter) (tree : PlainTree) (behind : PlainToken)
      → Moves h (moved_parameter h) (one_parameter defining s before tree behind) (one_parameter defining s (moved_parameters h before) (moved_tree (elsewhere h) tree) (elsewhere h behind))
  one_moves defining s before (node kind (more (node words_kind words) (more declarator none))) behind = one_parameter_of defining s before words declarator behind
  one_moves defining s before _ behind = broken_moves h (moved_parameter h)

  pub same_with : (s : Scope) (slot : ℕ) (name : Option PlainToken) (ty : PlainType) → with_parameter s slot (option_map (elsewhere h) name) ty ≡ with_parameter s slot name ty
  same_with s slot None ty = refl
  same_with s slot (Some name) ty = refl

  more_parameters :
      (defining : Bool) (s : Scope) (before : List Parameter) (p : Parameter) (rest : PlainTrees) (behind : PlainToken)
      → ((s : Scope) (before : List Parameter) → Moves h (moved_parameters h) (parameters_from defining s before rest behind) (parameters_from defining s (moved_parameters h before) (moved_trees (elsewhere h) rest) (elsewhere h behind)))
      → Moves h (moved_parameters h) (parameters_from defining (with_parameter s (length before) p.name p.ty) (before ++ p ∷ []) rest behind)
      (parameters_from defining (with_parameter s (length (moved_parameters h before)) (option_map (elsewhere h) p.name) p.ty) (moved_parameters h before ++ moved_parameter h p ∷ []) (moved_trees (elsewhere h) rest) (elsewhere h behind))
  more_parameters defining s before p rest behind i =
      let original = parameters_from defining (with_parameter s (length before) p.name p.ty) (before ++ p ∷ []) rest behind in
      let after = moved_parameters h before ++ moved_parameter h p ∷ [] in
      subst (λ slot. Moves h (moved_parameters h) original (parameters_from defining (with_parameter s slot (option_map (elsewhere h) p.name) p.ty) after (moved_trees (elsewhere h) rest) (elsewhere h behind))) (sym (length-map before (moved_parameter h)))
      (subst (λ scope. Moves h (moved_parameters h) original (parameters_from defining scope after (moved_trees (elsewhere h) rest) (elsewhere h behind))) (sym (same_with s (length before) p.name p.ty))
      (subst (λ all. Moves h (moved_parameters h) original (parameters_from defining (with_parameter s (length before) p.name p.ty) all (moved_trees (elsewhere h) rest) (elsewhere h behind))) (map-append (moved_parameter h) before (p ∷ []))
      (i (with_parameter s (length before) p.name p.ty) (before ++ p ∷ []))))

  from_moves :
      (defining : Bool) (parts : PlainTrees) (behind : PlainToken) (s : Scope) (before : List Parameter)
      → Moves h (moved_parameters h) (parameters_from defining s before parts behind) (parameters_from defining s (moved_parameters h before) (moved_trees (elsewhere h) parts) (elsewhere h behind))
  from_moves defining none behind s before = give_moves h (moved_parameters h) _ _ refl
  from_moves defining (more tree none) behind s before =
      then_moves h (moved_parameter h) (moved_parameters h) (one_parameter defining s before tree behind) (one_parameter defining s (moved_parameters h before) (moved_tree (elsewhere h) tree) (elsewhere h behind)) _ _ (one_moves defining s before tree behind)
      (λ p. give_moves h (moved_parameters h) (before ++ p ∷ []) _ (sym (map-append (moved_parameter h) before (p ∷ []))))
  from_moves defining (more tree (more comma rest)) behind s before =
      then_moves h (moved_parameter h) (moved_parameters h) (one_parameter defining s before tree behind) (one_parameter defining s (moved_parameters h before) (moved_tree (elsewhere h) tree) (elsewhere h behind)) _ _ (one_moves defining s before tree behind)
      (λ p. more_parameters defining s before p rest behind (λ scope all. from_moves defining rest behind scope all))

  same_words_are : (terminals : List Terminal) (words : PlainTrees) → are_words terminals (moved_trees (elsewhere h) words) ≡ are_words terminals words
  same_words_are [] none = refl
  same_words_are [] (more tree rest) = refl
  same_words_are (first ∷ others) none = refl
  same_words_are (first ∷ others) (more (leaf token) rest) = ap (λ b. same first (terminal token) && b) (same_words_are others rest)
  same_words_are (first ∷ others) (more (node kind parts) rest) = refl

  same_lone : (parts : PlainTrees) → is_lone_void (moved_trees (elsewhere h) parts) ≡ is_lone_void parts
  same_lone (more (node kind (more (node specifying words) (more second none))) none) =
      ap (λ b. b && is_absent (moved_tree (elsewhere h) second)) (same_words_are (t.Void ∷ []) words)
      ∙ ap (λ b. are_words (t.Void ∷ []) words && b) (same_absence second)
  same_lone _ = refl

  in_moves :
      (defining : Bool) (s : Scope) (tree : PlainTree) (behind : PlainToken)
      → Moves h (moved_parameters h) (parameters_in defining s tree behind) (parameters_in defining s (moved_tree (elsewhere h) tree) (elsewhere h behind))
  in_moves defining s (node k.Parameters parts) behind =
      tested_moves h (moved_parameters h) (is_lone_void parts) (is_lone_void (moved_trees (elsewhere h) parts)) _ _ _ _ (same_lone parts) (give_moves h (moved_parameters h) _ _ refl) (from_moves defining parts behind (with_block s) [])
  in_moves defining s (leaf token) behind = give_moves h (moved_parameters h) _ _ refl
  in_moves defining s (node _ _) behind = give_moves h (moved_parameters h) _ _ refl

  pub parameters_move :
      (defining : Bool) (s : Scope) (list : Option PlainTree) (behind : PlainToken)
      → Moves h (moved_parameters h) (parameters_of defining s list behind) (parameters_of defining s (option_map (moved_tree (elsewhere h)) list) (elsewhere h behind))
  parameters_move defining s None behind = broken_moves h (moved_parameters h)
  parameters_move defining s (Some list) behind = in_moves defining s list behind
