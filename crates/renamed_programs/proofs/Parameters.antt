-- Parameters of units that are alike have the same types. In their list the types of slots are those of the parameters before.
use Rattle.std.proofs.Common.{◌≡◌, ℕ, ◌+◌, suc, Bool, true, false, List, [], ◌∷◌, ◌++◌, refl, sym, ap, subst, ◌∙◌, length, arith}
use Rattle.std.specs.Prelude.{Option, Some, None, ◌&&◌}
use Rattle.std.proofs.lemmas.List.{append-nil, map-append, append_assoc}
use Rattle.c_text.specs.Token.{PlainToken}
use Rattle.c_types.specs.Types.{PlainType}
use Rattle.c_tree.specs.declared.kinds.Kind.{Kind}
use Rattle.c_tree.specs.declared.kinds.Kind.TheVariants as k
use Rattle.c_tree.specs.declared.terminals.Terminal.{Terminal}
use Rattle.c_tree.specs.declared.terminals.Terminal.TheVariants as t
use Rattle.c_tree.specs.Terminals.{terminal, same}
use Rattle.c_tree.specs.Trees.{PlainTree, PlainTrees, absent}
use Rattle.c_tree.specs.Grammar.{abstract_declarator, parameter, parameters, is_lone_void, are_words}
use Rattle.core_meaning.specs.declared.refusals.TypeKind.TheVariants.{Redeclared, Incomplete, BadConstant}
use Rattle.core_meaning.specs.Checking.{Entity, Checked, ◌>>=◌, give, unless_so}
use Rattle.core_meaning.specs.Entities.{Scope}
use Rattle.core_meaning.specs.Expressions.{first_token_in}
use Rattle.core_meaning.specs.Constancy.{is_small}
use Rattle.core_meaning.specs.Declarations.{name_in, based, with_block, Parameter, parameter_type, token_of, is_new_parameter, parameter_entity, declares_name, may_be_parameter, judged_parameter, declared_parameter, one_parameter, with_parameter, parameters_from, parameters_in, parameters_of}
use Rattle.core_meaning.specs.UnitNames.{parameter_types, with_parameters}
use Rattle.tree_derivations.specs.Derivations.{Derivation, single, made_of, a_row, at_end, a_part, left_out, given, with_commas, Separated, last_one, next_one}
use Rattle.renamed_programs.specs.Trees.{SameButName, SameButNames, AllSameButNames, same_leaf, same_node, same_end, same_more}
use Rattle.renamed_programs.proofs.Alike.{Naming, Alike, Anything, Quiet, alike_equal, alike_tests, alike_if, alike_give, alike_broken, alike_then, alike_any, alike_quiet, quiet_then, quiet_unless}
use Rattle.renamed_programs.proofs.Tokens.{same_terminal}
use Rattle.renamed_programs.proofs.Scopes.{AlikeScopes, BothOr}
use Rattle.renamed_programs.proofs.Declarators.{same_names, Behind, none_behind, left_out_behind, some_behind, Sizes, abstract_sizes, parameter_alike, SameBase, based_alike}
use Rattle.renamed_programs.proofs.Locals.{grown_by, last_type, types_with, in_blocks, scopes_grown, local_alike, block_alike}

abbrev pub SameTypes : List Parameter → List Parameter → Type 0
SameTypes x y = parameter_types x ≡ parameter_types y

types_length : (ps : List Parameter) → length (parameter_types ps) ≡ length ps
types_length [] = refl
types_length (p ∷ rest) = ap suc (types_length rest)

one_longer : (slots : List PlainType) (ty : PlainType) → length (slots ++ ty ∷ []) ≡ length slots + 1
one_longer [] ty = omega arith
one_longer (x ∷ slots) ty = let e : length (slots ++ ty ∷ []) ≡ length slots + 1 = one_longer slots ty in omega (arith, e)

types_with_one : (before others : List Parameter) (p q : Parameter) → SameTypes before others → p.ty ≡ q.ty → SameTypes (before ++ p ∷ []) (others ++ q ∷ [])
types_with_one before others p q e f =
    map-append (λ (x : Parameter). x.ty) before (p ∷ []) ∙ ap (λ l. l ++ p.ty ∷ []) e ∙ ap (λ ty. parameter_types others ++ ty ∷ []) f ∙ sym (map-append (λ (x : Parameter). x.ty) others (q ∷ []))

words_are_same : (terminals : List Terminal) (parts others : PlainTrees) → AllSameButNames parts others → are_words terminals parts ≡ are_words terminals others
words_are_same [] _ _ same_end = refl
words_are_same [] _ _ (same_more e r) = refl
words_are_same (first ∷ words) _ _ same_end = refl
words_are_same (first ∷ words) _ _ (same_more {rest = rest} {others = others} (same_leaf {a = a} {b = b} e) r) =
    ap (λ x. same first x && are_words words rest) (same_terminal a b e) ∙ ap (λ x. same first (terminal b) && x) (words_are_same words rest others r)
words_are_same (first ∷ words) _ _ (same_more (same_node e) r) = refl

abbrev lone : Bool → PlainTrees → Bool
lone absent_ words = are_words (t.Void ∷ []) words && absent_

lone_same : {parts others : PlainTrees} → Separated parameter parts → AllSameButNames parts others → is_lone_void parts ≡ is_lone_void others
lone_same (last_one (made_of k.Parameter b a (a_row (a_part (made_of k.Specifiers {parts = ws} c d f) (left_out at_end))))) (same_more (same_node (same_more (same_node {others = others} e) (same_more (same_node same_end) same_end))) same_end) =
    ap (λ x. x && true) (words_are_same (t.Void ∷ []) ws others e)
lone_same (last_one (made_of k.Parameter b a (a_row (a_part (made_of k.Specifiers {parts = ws} c d f) (given (made_of k.Declarator i j l) at_end))))) (same_more (same_node (same_more (same_node {others = others} e) (same_more (same_node g) same_end))) same_end) =
    ap (λ x. x && false) (words_are_same (t.Void ∷ []) ws others e)
lone_same (last_one (made_of k.Parameter b a (a_row (a_part (made_of k.Specifiers {parts = ws} c d f) (given (made_of k.ArrayDeclarator i j l) at_end))))) (same_more (same_node (same_more (same_node {others = others} e) (same_more (same_node g) same_end))) same_end) =
    ap (λ x. x && false) (words_are_same (t.Void ∷ []) ws others e)
lone_same (last_one (made_of k.Parameter b a (a_row (a_part (made_of k.Specifiers c d f) (given (made_of _ i j l) at_end))))) e = absurd cc
lone_same (last_one (made_of k.Parameter b a (a_row (a_part (made_of k.Specifiers c d f) (given (single is) at_end))))) e = absurd cc
lone_same (last_one (made_of k.Parameter b a (a_row (a_part (single is) r)))) e = absurd cc
lone_same (last_one (made_of k.Parameter b a (a_row (a_part (made_of _ c d f) r)))) e = absurd cc
lone_same (last_one (single is)) e = absurd cc
lone_same (last_one (made_of _ b a f)) e = absurd cc
lone_same (next_one (made_of k.Parameter b a (a_row (a_part (made_of k.Specifiers c d f) (left_out at_end)))) w l) (same_more (same_node (same_more (same_node e) (same_more g same_end))) (same_more x y)) = refl
lone_same (next_one (made_of k.Parameter b a (a_row (a_part (made_of k.Specifiers c d f) (given i at_end)))) w l) (same_more (same_node (same_more (same_node e) (same_more g same_end))) (same_more x y)) = refl
lone_same (next_one (made_of k.Parameter b a (a_row (a_part (single is) r))) w l) e = absurd cc
lone_same (next_one (made_of k.Parameter b a (a_row (a_part (made_of _ c d f) r))) w l) e = absurd cc
lone_same (next_one (single is) w l) e = absurd cc
lone_same (next_one (made_of _ b a f) w l) e = absurd cc

module _ (named : Naming) where
  -- ---- what is visible behind parameters

  pub visible_alike :
      (slots : List PlainType) (s u : Scope) (x y : Option PlainToken) (ty : PlainType) → AlikeScopes named slots s u
      → AlikeScopes named (slots ++ ty ∷ []) (with_parameter s (length slots) x ty) (with_parameter u (length slots) y ty)
  visible_alike slots s u (Some a) (Some b) ty h = local_alike named slots s u a.text b.text ty h
  visible_alike slots s u None None ty h = scopes_grown named slots (slots ++ ty ∷ []) s u (grown_by slots (ty ∷ [])) h
  visible_alike slots s u (Some a) None ty h =
      let g = scopes_grown named slots (slots ++ ty ∷ []) s u (grown_by slots (ty ∷ [])) h in
      in_blocks named (slots ++ ty ∷ []) (slots ++ ty ∷ []) s u _ u.blocks g (types_with (slots ++ ty ∷ []) s.blocks a.text (length slots) ty (last_type slots ty) g.locals) g.other_locals
  visible_alike slots s u None (Some b) ty h =
      let g = scopes_grown named slots (slots ++ ty ∷ []) s u (grown_by slots (ty ∷ [])) h in
      in_blocks named (slots ++ ty ∷ []) (slots ++ ty ∷ []) s u s.blocks _ g g.locals (types_with (slots ++ ty ∷ []) u.blocks b.text (length slots) ty (last_type slots ty) g.other_locals)

  all_visible :
      (ps qs : List Parameter) → SameTypes ps qs → (slots : List PlainType) (n : ℕ) (s u : Scope) → length slots ≡ n → AlikeScopes named slots s u
      → AlikeScopes named (slots ++ parameter_types ps) (with_parameters s n ps) (with_parameters u n qs)
  all_visible [] [] e slots n s u at h = subst (λ l. AlikeScopes named l s u) (sym (append-nil slots)) h
  all_visible [] (q ∷ qs) e slots n s u at h = absurd cc
  all_visible (p ∷ ps) [] e slots n s u at h = absurd cc
  all_visible (p ∷ ps) (q ∷ qs) e slots n s u at h =
      let first : p.ty ≡ q.ty = cc in
      let rest : parameter_types ps ≡ parameter_types qs = cc in
      let one : AlikeScopes named (slots ++ p.ty ∷ []) (with_parameter s (length slots) p.name p.ty) (with_parameter u (length slots) q.name p.ty) = visible_alike slots s u p.name q.name p.ty h in
      let two : AlikeScopes named (slots ++ p.ty ∷ []) (with_parameter s n p.name p.ty) (with_parameter u n q.name q.ty) =
      subst (λ ty. AlikeScopes named (slots ++ p.ty ∷ []) (with_parameter s n p.name p.ty) (with_parameter u n q.name ty)) first
      (subst (λ m. AlikeScopes named (slots ++ p.ty ∷ []) (with_parameter s m p.name p.ty) (with_parameter u m q.name p.ty)) at one) in
      subst (λ l. AlikeScopes named l (with_parameters (with_parameter s n p.name p.ty) (n + 1) ps) (with_parameters (with_parameter u n q.name q.ty) (n + 1) qs)) (append_assoc slots (p.ty ∷ []) (parameter_types ps))
      (all_visible ps qs rest (slots ++ p.ty ∷ []) (n + 1) (with_parameter s n p.name p.ty) (with_parameter u n q.name q.ty) (one_longer slots p.ty ∙ ap (λ m. m + 1) at) two)

  -- the block of a function's definition
  pub parameters_visible :
      (ps qs : List Parameter) (s u : Scope) → SameTypes ps qs → AlikeScopes named [] s u → AlikeScopes named (parameter_types ps) (with_parameters (with_block s) 0 ps) (with_parameters (with_block u) 0 qs)
  parameters_visible ps qs s u e h = all_visible ps qs e [] 0 (with_block s) (with_block u) refl (block_alike named [] s u h)

  -- ---- one parameter

  abbrev pub SameParameter : Parameter → Parameter → Type 0
  SameParameter p q = p.ty ≡ q.ty

  declares_alike : (x y : Option PlainToken) (e o : Entity) → BothOr SameButName x y → Alike named Anything (declares_name x e) (declares_name y o)
  declares_alike (Some a) (Some b) e o h = record { holds = λ ts us all. (tt, all.1) }
  declares_alike (Some a) None e o h = absurd h
  declares_alike None (Some b) e o h = absurd h
  declares_alike None None e o h = alike_give named Anything tt tt tt

  parameter_quiet : (defining : Bool) (scope : Scope) (ty : PlainType) (at : PlainToken) → Quiet named (judged_parameter defining scope ty at)
  parameter_quiet defining scope ty at =
      quiet_then named (unless_so (may_be_parameter defining scope ty) Incomplete at) (λ fits. unless_so (is_small scope.structs ty) BadConstant at) (quiet_unless named (may_be_parameter defining scope ty) Incomplete at)
      (λ x. quiet_unless named (is_small scope.structs ty) BadConstant at)

  judged_alike : (defining : Bool) (s u : Scope) (ty : PlainType) (a b : PlainToken) → Alike named Anything (judged_parameter defining s ty a) (judged_parameter defining u ty b)
  judged_alike defining s u ty a b = alike_quiet named (judged_parameter defining s ty a) (judged_parameter defining u ty b) (parameter_quiet defining s ty a) (parameter_quiet defining u ty b)

  module _ (defining : Bool) (slots : List PlainType) (s u : Scope) (h : AlikeScopes named slots s u) where
    -- a declarator that isn't left out
    abbrev declared_as : Scope → List Parameter → PlainType → PlainToken → Kind → PlainTrees → Checked Parameter
    declared_as scope before ty first kind parts =
        unless_so (is_new_parameter before (name_in parts)) Redeclared (token_of (name_in parts) first)
        >>= (λ new. declares_name (name_in parts) (parameter_entity defining (length before))
        >>= (λ bound. parameter_type scope ty kind parts (token_of (name_in parts) first)
        >>= (λ whole. judged_parameter defining scope whole (token_of (name_in parts) first) >>= (λ judged. give (record { name = name_in parts; ty = whole })))))

    declared_alike :
        (before others_before : List Parameter) (ty : PlainType) (first second : PlainToken) (kind : Kind) (parts others : PlainTrees) → AllSameButNames parts others → (kind ≡ k.ArrayDeclarator → Sizes parts others)
        → Alike named SameParameter (declared_as s before ty first kind parts) (declared_as u others_before ty second kind others)
    declared_alike before others_before ty first second kind parts others e sizes =
        alike_tests named SameParameter (is_new_parameter before (name_in parts)) (is_new_parameter others_before (name_in others)) Redeclared Redeclared (token_of (name_in parts) first) (token_of (name_in others) second) _ _
        (λ x1 y1. alike_any named SameParameter (declares_name (name_in parts) (parameter_entity defining (length before))) (declares_name (name_in others) (parameter_entity defining (length others_before))) _ _
        (declares_alike (name_in parts) (name_in others) (parameter_entity defining (length before)) (parameter_entity defining (length others_before)) (same_names parts others e))
        (λ x2 y2. alike_equal named SameParameter (parameter_type s ty kind parts (token_of (name_in parts) first)) (parameter_type u ty kind others (token_of (name_in others) second)) _ _
        (parameter_alike named slots s u h ty kind parts others e sizes (token_of (name_in parts) first) (token_of (name_in others) second))
        (λ whole. alike_any named SameParameter (judged_parameter defining s whole (token_of (name_in parts) first)) (judged_parameter defining u whole (token_of (name_in others) second)) _ _
        (judged_alike defining s u whole (token_of (name_in parts) first) (token_of (name_in others) second))
        (λ x3 y3. alike_give named SameParameter (record { name = name_in parts; ty = whole }) (record { name = name_in others; ty = whole }) refl))))

    absent_alike :
        (before others_before : List Parameter) (ty : PlainType) (first second : PlainToken)
        → Alike named SameParameter (declared_parameter defining s before ty first absent) (declared_parameter defining u others_before ty second absent)
    absent_alike before others_before ty first second =
        alike_any named SameParameter (judged_parameter defining s ty first) (judged_parameter defining u ty second) _ _ (judged_alike defining s u ty first second)
        (λ x y. alike_give named SameParameter (record { name = None; ty = ty }) (record { name = None; ty = ty }) refl)

    declarator_alike :
        {tree other : PlainTree} → Derivation abstract_declarator tree → SameButNames tree other → (before others_before : List Parameter) (ty : PlainType) (first second : PlainToken)
        → Alike named SameParameter (declared_parameter defining s before ty first tree) (declared_parameter defining u others_before ty second other)
    declarator_alike (single is) e before others_before ty first second = absurd cc
    declarator_alike (made_of k.Declarator {parts = parts} b a row) (same_node {others = others} e) before others_before ty first second = declared_alike before others_before ty first second k.Declarator parts others e (λ i. absurd cc)
    declarator_alike (made_of k.ArrayDeclarator {parts = parts} b a (a_row row)) (same_node {others = others} e) before others_before ty first second =
        declared_alike before others_before ty first second k.ArrayDeclarator parts others e (λ i. abstract_sizes row e)
    declarator_alike (made_of _ b a row) e before others_before ty first second = absurd cc

    with_words :
        (words others : PlainTrees) (tree second : PlainTree) (before others_before : List Parameter) (behind other : PlainToken) → AllSameButNames words others
        → ((ty : PlainType) (a b : PlainToken) → Alike named SameParameter (declared_parameter defining s before ty a tree) (declared_parameter defining u others_before ty b second))
        → Alike named SameParameter (based false s words >>= (λ base. declared_parameter defining s before base.ty (first_token_in words behind) tree))
        (based false u others >>= (λ base. declared_parameter defining u others_before base.ty (first_token_in others other) second))
    with_words words others tree second before others_before behind other e next =
        alike_then named (SameBase named slots s u h) SameParameter (based false s words) (based false u others) _ _ (based_alike named slots s u h false words others e)
        (λ x y i. subst (λ ty. Alike named SameParameter (declared_parameter defining s before x.ty (first_token_in words behind) tree) (declared_parameter defining u others_before ty (first_token_in others other) second)) i.ty
        (next x.ty (first_token_in words behind) (first_token_in others other)))

    one_alike :
        {tree other : PlainTree} → Derivation parameter tree → SameButNames tree other → (before others_before : List Parameter) (behind at : PlainToken)
        → Alike named SameParameter (one_parameter defining s before tree behind) (one_parameter defining u others_before other at)
    one_alike (made_of k.Parameter b a (a_row (a_part (made_of k.Specifiers {parts = words} c d f) (left_out at_end)))) (same_node (same_more (same_node {others = others} e) (same_more (same_node same_end) same_end))) before others_before behind at =
        with_words words others absent absent before others_before behind at e (λ ty x y. absent_alike before others_before ty x y)
    one_alike (made_of k.Parameter b a (a_row (a_part (made_of k.Specifiers {parts = words} c d f) (given {tree = tree} i at_end)))) (same_node (same_more (same_node {others = others} e) (same_more {other = second} g same_end))) before others_before behind at =
        with_words words others tree second before others_before behind at e (λ ty x y. declarator_alike i g before others_before ty x y)
    one_alike (made_of k.Parameter b a (a_row (a_part (single is) r))) e before others_before behind at = absurd cc
    one_alike (made_of k.Parameter b a (a_row (a_part (made_of _ c d f) r))) e before others_before behind at = absurd cc
    one_alike (single is) e before others_before behind at = absurd cc
    one_alike (made_of _ b a f) e before others_before behind at = absurd cc

  -- ---- lists of parameters

  abbrev ParametersAlike : Bool → PlainTrees → PlainTrees → Type 0
  ParametersAlike defining parts others =
      (s u : Scope) (before others_before : List Parameter) (behind at : PlainToken) → SameTypes before others_before → AlikeScopes named (parameter_types before) s u
      → Alike named SameTypes (parameters_from defining s before parts behind) (parameters_from defining u others_before others at)

  next_visible :
      (s u : Scope) (before others_before : List Parameter) (p q : Parameter) → SameTypes before others_before → p.ty ≡ q.ty → AlikeScopes named (parameter_types before) s u
      → AlikeScopes named (parameter_types (before ++ p ∷ [])) (with_parameter s (length before) p.name p.ty) (with_parameter u (length others_before) q.name q.ty)
  next_visible s u before others_before p q e f h =
      subst (λ l. AlikeScopes named l (with_parameter s (length before) p.name p.ty) (with_parameter u (length others_before) q.name q.ty)) (sym (map-append (λ (x : Parameter). x.ty) before (p ∷ [])))
      (subst (λ ty. AlikeScopes named (parameter_types before ++ p.ty ∷ []) (with_parameter s (length before) p.name p.ty) (with_parameter u (length others_before) q.name ty)) f
      (subst (λ n. AlikeScopes named (parameter_types before ++ p.ty ∷ []) (with_parameter s (length before) p.name p.ty) (with_parameter u n q.name p.ty)) (sym (types_length before) ∙ ap length e ∙ types_length others_before)
      (subst (λ n. AlikeScopes named (parameter_types before ++ p.ty ∷ []) (with_parameter s n p.name p.ty) (with_parameter u n q.name p.ty)) (types_length before)
      (visible_alike (parameter_types before) s u p.name q.name p.ty h))))

  from_alike : (defining : Bool) {parts others : PlainTrees} → Separated parameter parts → AllSameButNames parts others → ParametersAlike defining parts others
  from_alike defining (last_one {tree = tree} d) (same_more {other = second} e same_end) = λ s u before others_before behind at same_ h.
      alike_then named SameParameter SameTypes (one_parameter defining s before tree behind) (one_parameter defining u others_before second at) _ _ (one_alike defining (parameter_types before) s u h d e before others_before behind at)
      (λ p q f. alike_give named SameTypes (before ++ p ∷ []) (others_before ++ q ∷ []) (types_with_one before others_before p q same_ f))
  from_alike defining (next_one {tree = tree} {comma = comma} {rest = rest} d w l) (same_more {other = second} e (same_more {others = others} x r)) = λ s u before others_before behind at same_ h.
      alike_then named SameParameter SameTypes (one_parameter defining s before tree behind) (one_parameter defining u others_before second at) _ _ (one_alike defining (parameter_types before) s u h d e before others_before behind at)
      (λ p q f. from_alike defining l r (with_parameter s (length before) p.name p.ty) (with_parameter u (length others_before) q.name q.ty) (before ++ p ∷ []) (others_before ++ q ∷ []) behind at (types_with_one before others_before p q same_ f)
      (next_visible s u before others_before p q same_ f h))

  in_alike :
      (defining : Bool) {tree other : PlainTree} → Derivation parameters tree → SameButNames tree other → (s u : Scope) (behind at : PlainToken) → AlikeScopes named [] s u
      → Alike named SameTypes (parameters_in defining s tree behind) (parameters_in defining u other at)
  in_alike defining (single is) e s u behind at h = absurd cc
  in_alike defining (made_of k.Parameters {parts = parts} b a (with_commas d)) (same_node {others = others} e) s u behind at h =
      alike_if named SameTypes (is_lone_void parts) (is_lone_void others) _ _ _ _ (lone_same d e) (alike_give named SameTypes [] [] refl)
      (from_alike defining d e (with_block s) (with_block u) [] [] behind at refl (block_alike named [] s u h))
  in_alike defining (made_of _ b a d) e s u behind at h = absurd cc

  pub parameters_alike :
      (defining : Bool) {list other : Option PlainTree} → Behind parameters list other → (s u : Scope) (behind at : PlainToken) → AlikeScopes named [] s u
      → Alike named SameTypes (parameters_of defining s list behind) (parameters_of defining u other at)
  parameters_alike defining none_behind s u behind at h = alike_broken named SameTypes _
  parameters_alike defining left_out_behind s u behind at h = alike_give named SameTypes [] [] refl
  parameters_alike defining (some_behind d e) s u behind at h = in_alike defining d e s u behind at h
