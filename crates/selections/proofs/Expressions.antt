-- Expressions of the grammar select as they are judged.
use Rattle.std.proofs.Common.{◌≡◌, ℕ, Bool, true, false, List, [], ◌∷◌, refl, sym, ap, subst, ◌∙◌, IsTrue}
use Rattle.std.specs.Prelude.{not, ◌||◌, codes, Option, Some, None, slice_get, if◌then◌else◌}
use Rattle.std.specs.List.{list_all}
use Rattle.std.specs.Str.{bytes_eq}
use Rattle.std.proofs.lemmas.Bool.{and_parts, false≢true}
use Rattle.std.proofs.lemmas.Option.{none-some}
use Rattle.c_names.specs.Names.{is_identifier}
use Rattle.c_text.specs.Constants.{quoted_values}
use Rattle.c_text.specs.Token.{PlainToken}
use Rattle.c_types.specs.Types.{PlainType, pointer_to, structure}
use Rattle.c_types.specs.Tags.{PlainMember}
use Rattle.c_tree.specs.declared.kinds.Kind.{Kind}
use Rattle.c_tree.specs.declared.kinds.Kind.TheVariants as k
use Rattle.c_tree.specs.declared.terminals.Terminal.{Terminal}
use Rattle.c_tree.specs.declared.terminals.Terminal.TheVariants as t
use Rattle.c_tree.specs.Terminals.{terminal, same, is_one_of}
use Rattle.c_tree.specs.Trees.{PlainTree, PlainTrees, leaf, node, none, more}
use Rattle.c_tree.specs.Grammar.{expression, arguments, cast_type, cast_types, are_texts, are_words, are_words_of, is_word}
use Rattle.c_tree.proofs.TerminalCases.{one_of, same-true}
use Rattle.core_meaning.specs.declared.refusals.TypeKind.TheVariants.{BadOperand, Incomplete, NoMember}
use Rattle.core_meaning.specs.Program.{PlainPlace, PlainArguments, argument, no_argument, update, update_after, target}
use Rattle.core_meaning.specs.Checking.{Entity, file_entity, Checked, refused, ◌>>=◌, give, unless_so, found_or, or_broken, uses}
use Rattle.core_meaning.specs.Entities.{Struct, Local, Sort, variable, function, FileName, Scope, local_in}
use Rattle.core_meaning.specs.Typing.{Operand, Typed, loaded}
use Rattle.core_meaning.specs.Expressions as spec
use Rattle.core_meaning.specs.Expressions.{Callee, judged, judged_arguments, callee, count_entries, first_token}
use Rattle.tree_derivations.specs.Derivations.{Derivation, single, made_of, a_row, some_texts, some_words, with_commas, at_end, a_word, a_part, left_out, given, Separated, last_one, next_one, IsWord}
use Rattle.conditional.specs.Judgements as seen
use Rattle.conditional.specs.Judgements.{bind}
use Rattle.choice_trees.specs.ChoiceTrees.{semicolon}
use Rattle.bindings.specs.Bindings.{is_name}
use Rattle.bindings.proofs.Spellings.{Told, Holds, AllHold, no_name, steps, assignments}
use Rattle.bindings.proofs.Expressions.{nameless, turned as other_word}
use Rattle.entity_numbers.proofs.Uses as bound
use Rattle.entity_numbers.proofs.Operators as operators
use Rattle.operand_types.specs.OperandTypes.{OperandType, renumbered, type_of_operand, type_of_value, outcome_as}
use Rattle.operand_types.specs.Operators.{loaded_type}
use Rattle.operand_types.specs.Laws.{OperatorsKeepTypes}
use Rattle.expression_types.specs.Known.{Known}
use Rattle.expression_types.specs.Reading.{read_expression}
use Rattle.expression_types.proofs.Sees.{comes_then}
use Rattle.selections.specs.Selections.{structure_of_type, structure_pointed_at, structure_by, structure_behind, structure_named, with_identifier, turns, selected_in, selected_in_parts}
use Rattle.selections.specs.Laws.{HasNames}
use Rattle.selections.proofs.Judgings.{Writing, IsQuiet, Selects, selects_same, known_then, selects_then, quiet, then_quiet, quiet_then, never}

-- ---- tokens

-- a token that is no identifier
pub unnamed : (token : PlainToken) (o : Option ℕ) → is_name token ≡ false → (behind : List (Option ℕ)) → with_identifier token o behind ≡ behind
unnamed token o h behind = ap (λ b. if b then o ∷ behind else behind) h

named : (token : PlainToken) (o : Option ℕ) → is_name token ≡ true → (behind : List (Option ℕ)) → with_identifier token o behind ≡ o ∷ behind
named token o h behind = ap (λ b. if b then o ∷ behind else behind) h

-- what stands behind no sign selects nothing
no_turn : (o : Option ℕ) → structure_named o false ≡ None
no_turn None = refl
no_turn (Some n) = refl

turned : (o : Option ℕ) → structure_named o true ≡ o
turned None = refl
turned (Some n) = refl

abbrev pub Nothing : Entity → Type 0
Nothing e = ⊥

module _ (by : ℕ → ℕ) (scope : Scope) (known : Known) where
  abbrev S : {A : Type 0} → Writing → Checked A → Type 0
  S f m = Selects by f m

  -- a part of a node that selects nothing itself
  abbrev pub Those : PlainTree → Writing
  Those tree behind = selected_in known None false tree behind

  unturned : (o : Option ℕ) (tree : PlainTree) (behind : List (Option ℕ)) → selected_in known o false tree behind ≡ Those tree behind
  unturned o (leaf token) behind = ap (λ x. with_identifier token x behind) (no_turn o)
  unturned o (node kind parts) behind = refl

  anyhow : (turned : Bool) (tree : PlainTree) (behind : List (Option ℕ)) → selected_in known None turned tree behind ≡ Those tree behind
  anyhow turned (leaf token) behind = refl
  anyhow turned (node kind parts) behind = refl

  abbrev pub IsSelecting : PlainTree → Type 0
  IsSelecting tree = S (Those tree) (judged scope tree)

  -- ---- parts of nodes that select nothing themselves

  abbrev pub All : PlainTrees → Writing
  All parts behind = selected_in_parts known None false parts behind

  any_turned : (turned : Bool) (parts : PlainTrees) (behind : List (Option ℕ)) → selected_in_parts known None turned parts behind ≡ All parts behind
  any_turned turned none behind = refl
  any_turned turned (more tree rest) behind =
      anyhow turned tree (selected_in_parts known None (turned || turns tree) rest behind)
      ∙ ap (Those tree) (any_turned (turned || turns tree) rest behind ∙ sym (any_turned (turns tree) rest behind))

  pub part : (tree : PlainTree) (rest : PlainTrees) (behind : List (Option ℕ)) → All (more tree rest) behind ≡ Those tree (All rest behind)
  part tree rest behind = ap (Those tree) (any_turned (turns tree) rest behind)

  pub skipped : (token : PlainToken) (rest : PlainTrees) → is_name token ≡ false → (behind : List (Option ℕ)) → All (more (leaf token) rest) behind ≡ All rest behind
  skipped token rest h behind = part (leaf token) rest behind ∙ unnamed token None h (All rest behind)

  between : (ts : List Terminal) (first second : PlainTree) (sign : PlainToken) → is_one_of ts t.Name ≡ false → IsWord ts sign → (behind : List (Option ℕ))
      → All (more first (more (leaf sign) (more second none))) behind ≡ Those first (Those second behind)
  between ts first second sign never_ w behind =
      part first (more (leaf sign) (more second none)) behind
      ∙ ap (Those first) (skipped sign (more second none) (no_name ts sign never_ w) behind ∙ part second none behind)

  -- tokens of which none is an identifier
  abbrev pub Nameless : PlainTrees → Type 0
  Nameless none = Unit {0}
  Nameless (more (leaf token) rest) = (is_name token ≡ false) × Nameless rest
  Nameless (more (node kind parts) rest) = ⊥

  pub none_named : (parts : PlainTrees) → Nameless parts → (behind : List (Option ℕ)) → All parts behind ≡ behind
  none_named none h behind = refl
  none_named (more (leaf token) rest) h behind = skipped token rest h.0 behind ∙ none_named rest h.1 behind
  none_named (more (node kind parts) rest) h behind = absurd h

  pub texts_named : (parts : PlainTrees) → IsTrue (are_texts parts) → Nameless parts
  texts_named none h = tt
  texts_named (more (leaf token) rest) h =
      let both = and_parts (is_word (t.Text ∷ []) (leaf token)) (are_texts rest) h in (no_name (t.Text ∷ []) token refl both.0, texts_named rest both.1)
  texts_named (more (node kind parts) rest) h = absurd cc

  words_named : (ws : List Terminal) (parts : PlainTrees) → IsTrue (are_words ws parts) → nameless ws ≡ true → Nameless parts
  words_named [] none h free = tt
  words_named [] (more first rest) h free = absurd cc
  words_named (w ∷ ws) none h free = absurd cc
  words_named (w ∷ ws) (more (leaf token) rest) h free =
      let both = and_parts (same w (terminal token)) (are_words ws rest) h in
      let frees = and_parts (not (same w t.Name)) (nameless ws) free in
      (subst (λ kind. same t.Name kind ≡ false) (same-true w (terminal token) both.0) (other_word w frees.0), words_named ws rest both.1 frees.1)
  words_named (w ∷ ws) (more (node kind parts) rest) h free = absurd cc

  words_of_named : (lists : List (List Terminal)) (parts : PlainTrees) → IsTrue (are_words_of lists parts) → list_all nameless lists ≡ true → Nameless parts
  words_of_named [] parts h free = absurd cc
  words_of_named (ws ∷ lists) parts h free =
      let both = and_parts (nameless ws) (list_all nameless lists) free in
      by_words (are_words ws parts) refl both.0 (λ others. words_of_named lists parts others both.1) h
    where
      by_words : (b : Bool) → are_words ws parts ≡ b → nameless ws ≡ true → (IsTrue (are_words_of lists parts) → Nameless parts) → IsTrue (b || are_words_of lists parts) → Nameless parts
      by_words true e free others h = words_named ws parts e free
      by_words false e free others h = others h

  -- ---- names and constants

  file_selects : (token : PlainToken) (n : Option FileName) → S (λ behind. None ∷ behind) (spec.file_name_operand scope token n)
  file_selects token None = tt
  file_selects token (Some n) = of_sort n.sort
    where
      of_sort : (sort : Sort) → S (λ behind. None ∷ behind) (spec.file_operand scope token sort)
      of_sort (variable ty) = λ behind. refl
      of_sort (function signature) = tt

  name_selects : (token : PlainToken) (l : Option Local) → S (λ behind. None ∷ behind) (spec.name_operand scope token l)
  name_selects token (Some l) = λ behind. refl
  name_selects token None = file_selects token (scope.file_names token.text)

  character_selects : (token : PlainToken) (z : Option Rattle.std.specs.Prelude.ℤ)
      → S (λ behind. behind) (or_broken z >>= (λ z. give (Rattle.core_meaning.specs.Typing.of_value token Rattle.c_types.specs.Types.int (Rattle.core_meaning.specs.Program.constant z))))
  character_selects token (Some z) = λ behind. refl
  character_selects token None = tt

  leaf_selects : (token : PlainToken) → IsTrue (is_one_of (t.Name ∷ t.Number ∷ t.Character ∷ []) (terminal token)) → IsSelecting (leaf token)
  leaf_selects token is =
      one_of (λ kind. S (λ behind. if same t.Name kind then None ∷ behind else behind) (spec.single_operand scope token kind)) (t.Name ∷ t.Number ∷ t.Character ∷ []) (terminal token) is (
        name_selects token (local_in scope.blocks token.text),
        (
          (λ behind. refl),
          (
            character_selects token (spec.character_value (quoted_values token.text)),
            tt,
          ),
        ),
      )

  -- ---- selections

  module _ (sign name : PlainToken) where
    operand_selects : (place : PlainPlace) (free : Bool) (number : ℕ) (n : ℕ) (m : Option PlainMember) → S (λ behind. Some (by number) ∷ behind) (spec.member_operand name place free number m n)
    operand_selects place free number n None = tt
    operand_selects place free number n (Some m) = λ behind. refl

    found_selects : (place : PlainPlace) (free : Bool) (number : ℕ) (s : Struct) (n : Option ℕ)
        → S (λ behind. Some (by number) ∷ behind) (found_or n NoMember name >>= (λ n. spec.member_operand name place free number (slice_get s.members n) n))
    found_selects place free number s None = tt
    found_selects place free number s (Some n) =
        quiet_then by (λ behind. Some (by number) ∷ behind) (give n) (λ n. spec.member_operand name place free number (slice_get s.members n) n) (bound.gives Nothing n)
        (λ n. operand_selects place free number n (slice_get s.members n))

    struct_selects : (place : PlainPlace) (free : Bool) (number : ℕ) (s : Option Struct) → S (λ behind. Some (by number) ∷ behind) (spec.member_in sign name place free number s)
    struct_selects place free number None = tt
    struct_selects place free number (Some s) =
        quiet_then by (λ behind. Some (by number) ∷ behind) (unless_so s.complete Incomplete sign) (λ complete. found_or (s.numbers name.text) NoMember name >>= (λ n. spec.member_operand name place free number (slice_get s.members n) n))
        (bound.unless_binds Nothing s.complete Incomplete sign) (λ complete. found_selects place free number s (s.numbers name.text))

    member_selects : (ty : PlainType) (place : PlainPlace) (free : Bool) → S (λ behind. structure_of_type (renumbered by ty) ∷ behind) (spec.member_of scope sign name ty place free)
    member_selects (structure n) place free = struct_selects place free n (slice_get scope.structs n)
    member_selects _ place free = tt

    target_selects : (x : Typed) (ty : PlainType) → S (λ behind. structure_pointed_at (renumbered by ty) ∷ behind) (spec.member_of_target scope sign name x ty)
    target_selects x (pointer_to ty) = member_selects ty (target x.core) true
    target_selects x _ = tt

    abbrev form : Operand → OperandType
    form x = type_of_operand by scope.structs x

    abbrev value_form : Typed → OperandType
    value_form x = type_of_value by scope.structs x

    loaded_selects : OperatorsKeepTypes by scope → (x : Operand)
        → S (λ behind. structure_by structure_pointed_at (loaded_type semicolon (form x)) ∷ behind) (loaded scope x >>= (λ v. spec.member_of_target scope sign name v v.ty))
    loaded_selects laws x =
        subst (λ o. S (λ behind. structure_by structure_pointed_at o ∷ behind) (loaded scope x >>= (λ v. spec.member_of_target scope sign name v v.ty))) (laws.loads semicolon x)
        (known_then by (λ behind. behind) (λ behind. structure_by structure_pointed_at (outcome_as value_form (loaded scope x)) ∷ behind) (loaded scope x) (λ v. spec.member_of_target scope sign name v v.ty)
        (quiet by (loaded scope x) (operators.loads Nothing scope x))
        (λ v bindings e. subst (λ m. S (λ behind. structure_by structure_pointed_at (outcome_as value_form m) ∷ behind) (spec.member_of_target scope sign name v v.ty)) (sym e) (target_selects v v.ty)))

    selected_selects : OperatorsKeepTypes by scope → (x : Operand) → S (λ behind. structure_behind sign (seen.fine (form x)) ∷ behind) (spec.selected scope sign name x)
    selected_selects laws x = elim (bytes_eq sign.text (codes ".")) as (λ b.
        S (λ behind. (if b then structure_by structure_of_type (seen.fine (form x)) else structure_by structure_pointed_at (bind (seen.fine (form x)) (loaded_type semicolon))) ∷ behind)
        (if b then spec.member_of scope sign name x.ty (spec.struct_place x.ty x.designates) (spec.is_free x.designates) else loaded scope x >>= (λ v. spec.member_of_target scope sign name v v.ty))) [
          | true ↦ member_selects x.ty (spec.struct_place x.ty x.designates) (spec.is_free x.designates)
          | false ↦ loaded_selects laws x
        ]

    selection_written : (whole : PlainTree) → is_name sign ≡ false → same t.Select (terminal sign) ≡ true → is_name name ≡ true → (behind : List (Option ℕ))
        → Those (node k.Selection (more whole (more (leaf sign) (more (leaf name) none)))) behind
        ≡ Those whole (structure_behind sign (read_expression known whole).outcome ∷ behind)
    selection_written whole no_name_ turns_ name_ behind =
        let o = structure_behind sign (read_expression known whole).outcome in
        unturned o whole (with_identifier sign (structure_named o (false || turns whole)) (with_identifier name (structure_named o ((false || turns whole) || same t.Select (terminal sign))) behind))
        ∙ (ap (Those whole) (unnamed sign (structure_named o (false || turns whole)) no_name_ (with_identifier name (structure_named o ((false || turns whole) || same t.Select (terminal sign))) behind))
        ∙ (ap (λ b. Those whole (with_identifier name (structure_named o ((false || turns whole) || b)) behind)) turns_
        ∙ (ap (λ b. Those whole (with_identifier name (structure_named o b) behind)) (or_true (false || turns whole))
        ∙ (ap (λ x. Those whole (with_identifier name x behind)) (turned o)
        ∙ ap (Those whole) (named name o name_ behind)))))
      where
        or_true : (b : Bool) → (b || true) ≡ true
        or_true true = refl
        or_true false = refl

    selection_selects : OperatorsKeepTypes by scope → (whole : PlainTree) → (read_expression known whole).outcome ≡ outcome_as form (judged scope whole) → IsSelecting whole
        → S (λ behind. Those whole (structure_behind sign (read_expression known whole).outcome ∷ behind)) (judged scope whole >>= spec.selected scope sign name)
    selection_selects laws whole typed selecting =
        known_then by (Those whole) (λ behind. structure_behind sign (read_expression known whole).outcome ∷ behind) (judged scope whole) (spec.selected scope sign name) selecting
        (λ x bindings e. subst (λ o. S (λ behind. structure_behind sign o ∷ behind) (spec.selected scope sign name x)) (sym (typed ∙ ap (outcome_as form) e)) (selected_selects laws x))

  -- ---- operators

  -- one operand, and signs behind it
  one_operand : {B : Type 0} (inner : PlainTree) (f : Writing) (next : Operand → Checked B) → ((behind : List (Option ℕ)) → f behind ≡ Those inner behind) → IsSelecting inner
      → ((x : Operand) → IsQuiet (next x)) → S f (judged scope inner >>= next)
  one_operand inner f next same selecting n =
      selects_same by f (Those inner) (judged scope inner >>= next) same (then_quiet by (Those inner) (judged scope inner) next selecting n)

  pub value_of : (inner : PlainTree) → IsSelecting inner → S (Those inner) (judged scope inner >>= loaded scope)
  value_of inner selecting = then_quiet by (Those inner) (judged scope inner) (loaded scope) selecting (operators.loads Nothing scope)

  -- two operands, of which both have values
  two_values : {B : Type 0} (first second : PlainTree) (f : Writing) (next : Typed → Typed → Checked B) → ((behind : List (Option ℕ)) → f behind ≡ Those first (Those second behind))
      → IsSelecting first → IsSelecting second → ((a b : Typed) → IsQuiet (next a b))
      → S f (judged scope first >>= (λ left. loaded scope left >>= (λ a. judged scope second >>= (λ right. loaded scope right >>= (λ b. next a b)))))
  two_values first second f next same one two n =
      selects_same by f (λ behind. Those first (Those second behind)) (judged scope first >>= (λ left. loaded scope left >>= (λ a. judged scope second >>= (λ right. loaded scope right >>= (λ b. next a b))))) same
      (selects_then by (Those first) (Those second) (judged scope first) (λ left. loaded scope left >>= (λ a. judged scope second >>= (λ right. loaded scope right >>= (λ b. next a b)))) one
      (λ left. quiet_then by (Those second) (loaded scope left) (λ a. judged scope second >>= (λ right. loaded scope right >>= (λ b. next a b))) (operators.loads Nothing scope left)
      (λ a. then_quiet by (Those second) (judged scope second) (λ right. loaded scope right >>= (λ b. next a b)) two
      (λ right. operators.load_then Nothing scope right (λ b. next a b) (λ b. n a b)))))

  texts_select : (parts : PlainTrees) → IsTrue (are_texts parts) → IsSelecting (node k.Texts parts)
  texts_select parts texts =
      selects_same by (All parts) (λ behind. behind) (judged scope (node k.Texts parts)) (none_named parts (texts_named parts texts))
      (quiet by (judged scope (node k.Texts parts)) (bound.some_then Nothing (spec.text_bytes parts) _ (λ bytes. bound.some_then Nothing (spec.first_text parts) _ (λ first. record { all = tt }))))

  -- ---- called names

  abbrev SelectsNothing : PlainTree → Type 0
  SelectsNothing first = (f : Callee) → callee scope first ≡ Some f → (behind : List (Option ℕ)) → Those first behind ≡ None ∷ behind

  -- what is spelt like no name isn't called
  uncalled : HasNames scope → (token : PlainToken) (f : Callee) → is_identifier token.text ≡ false → (l : Option Local) → (n : Option FileName) → scope.file_names token.text ≡ n
      → (elim l as (λ x. Option Callee) [ Some found ↦ None | None ↦ spec.callee_of_name token n ]) ≡ Some f → ⊥
  uncalled names token f spelt (Some l) n e is = none-some f is
  uncalled names token f spelt None None e is = none-some f is
  uncalled names token f spelt None (Some n) e is = false≢true (sym spelt ∙ names token.text n e)

  callee_leaf : HasNames scope → (token : PlainToken) → Told token → IsTrue (is_one_of (t.Name ∷ t.Number ∷ t.Character ∷ []) (terminal token)) → SelectsNothing (leaf token)
  callee_leaf names token told is f e behind =
      one_of (λ kind. terminal token ≡ kind → (if same t.Name kind then None ∷ behind else behind) ≡ None ∷ behind) (t.Name ∷ t.Number ∷ t.Character ∷ []) (terminal token) is (
        (λ h. refl),
        (
          (λ h. absurd (uncalled names token f (told.no_identifier (subst (λ x. is_one_of (t.Number ∷ t.Character ∷ []) x ≡ true) (sym h) refl)) (local_in scope.blocks token.text) (scope.file_names token.text) refl e)),
          (
            (λ h. absurd (uncalled names token f (told.no_identifier (subst (λ x. is_one_of (t.Number ∷ t.Character ∷ []) x ≡ true) (sym h) refl)) (local_in scope.blocks token.text) (scope.file_names token.text) refl e)),
            tt,
          ),
        ),
      )
      refl

  parenthesized : (open_ close : PlainToken) (inner : PlainTree) → is_name open_ ≡ false → is_name close ≡ false → (behind : List (Option ℕ))
      → Those (node k.Parenthesized (more (leaf open_) (more inner (more (leaf close) none)))) behind ≡ Those inner behind
  parenthesized open_ close inner o c behind =
      skipped open_ (more inner (more (leaf close) none)) o behind
      ∙ (part inner (more (leaf close) none) behind
      ∙ ap (Those inner) (skipped close none c behind))

  callee_selects : HasNames scope → {n : ℕ} {tree : PlainTree} → Derivation (expression n) tree → Holds tree → SelectsNothing tree
  callee_selects names (single {token = token} is) holds = callee_leaf names token holds is
  callee_selects names (made_of k.Parenthesized b a (a_row (a_word {token = open_} w (a_part {tree = inner} d (a_word {token = close} v at_end))))) holds = λ f e behind.
      parenthesized open_ close inner (no_name (t.OpenParenthesis ∷ []) open_ refl w) (no_name (t.CloseParenthesis ∷ []) close refl v) behind ∙ callee_selects names d holds.1.0 f e behind
  callee_selects names (made_of _ b a s) holds = λ f e. absurd (none-some f e)

  -- ---- calls

  abbrev ArgumentsSelect : PlainTrees → Type 0
  ArgumentsSelect parts = (types : List PlainType) (bracket : PlainToken) → S (All parts) (judged_arguments scope types parts bracket)

  last_argument : (tree : PlainTree) → IsSelecting tree → ArgumentsSelect (more tree none)
  last_argument tree selecting [] bracket = tt
  last_argument tree selecting (ty ∷ types) bracket =
      one_operand tree (All (more tree none)) (λ operand. spec.passed scope ty operand (first_token tree bracket) >>= (λ core. give (argument core no_argument))) (part tree none) selecting
      (λ x. bound.then_binds Nothing (spec.passed scope ty x (first_token tree bracket)) (λ core. give (argument core no_argument)) (operators.passed_binds Nothing scope ty x (first_token tree bracket)) (λ core. record { all = tt }))

  next_argument : (tree : PlainTree) (comma : PlainToken) (rest : PlainTrees) → is_name comma ≡ false → IsSelecting tree → ArgumentsSelect rest → ArgumentsSelect (more tree (more (leaf comma) rest))
  next_argument tree comma rest free selecting others [] bracket = tt
  next_argument tree comma rest free selecting others (ty ∷ types) bracket =
      selects_same by (All (more tree (more (leaf comma) rest))) (λ behind. Those tree (All rest behind))
      (judged scope tree >>= (λ operand. spec.passed scope ty operand (first_token tree bracket) >>= (λ core. judged_arguments scope types rest bracket >>= (λ others. give (argument core others)))))
      (λ behind. part tree (more (leaf comma) rest) behind ∙ ap (Those tree) (skipped comma rest free behind))
      (selects_then by (Those tree) (All rest) (judged scope tree) (λ operand. spec.passed scope ty operand (first_token tree bracket) >>= (λ core. judged_arguments scope types rest bracket >>= (λ others. give (argument core others)))) selecting
      (λ x. quiet_then by (All rest) (spec.passed scope ty x (first_token tree bracket)) (λ core. judged_arguments scope types rest bracket >>= (λ others. give (argument core others))) (operators.passed_binds Nothing scope ty x (first_token tree bracket))
      (λ core. then_quiet by (All rest) (judged_arguments scope types rest bracket) (λ others. give (argument core others)) (others types bracket) (λ given_. record { all = tt }))))

  -- what is called, if it is a function
  abbrev call_of : Option Callee → PlainTree → PlainToken → (Callee → Checked Operand) → Checked Operand
  call_of c first bracket so_called = elim c as (λ x. Checked Operand) [
    | Some f ↦ so_called f
    | None ↦ judged scope first >>= (λ operand. loaded scope operand >>= (λ x. refused BadOperand bracket))
  ]

  call_selects : (first : PlainTree) (bracket : PlainToken) (so_called : Callee → Checked Operand) (f : Writing) → ((g : Callee) → callee scope first ≡ Some g → S f (so_called g)) → (c : Option Callee) → callee scope first ≡ c
      → S f (call_of c first bracket so_called)
  call_selects first bracket so_called f selecting (Some g) e = selecting g e
  call_selects first bracket so_called f selecting None e =
      never by f (judged scope first >>= (λ operand. loaded scope operand >>= (λ x. refused BadOperand bracket)))
      (comes_then (λ x. ⊥) (judged scope first) (λ operand. loaded scope operand >>= (λ x. refused BadOperand bracket)) (λ operand. comes_then (λ x. ⊥) (loaded scope operand) (λ x. refused BadOperand bracket) (λ x. tt)))

  function_selects : (f : Callee) (bracket : PlainToken) (count : ℕ) (given_ : Checked PlainArguments) (g : Writing) → S g given_
      → S (λ behind. None ∷ g behind) (uses (file_entity f.name.text) >>= (λ bound. spec.may_be_called scope f.signature count bracket >>= (λ callable. given_ >>= (λ arguments. give (spec.result_of_call scope f bracket arguments)))))
  function_selects f bracket count given_ g selecting =
      selects_then by (λ behind. None ∷ behind) g (uses (file_entity f.name.text)) (λ bound. spec.may_be_called scope f.signature count bracket >>= (λ callable. given_ >>= (λ arguments. give (spec.result_of_call scope f bracket arguments))))
      (λ behind. refl)
      (λ x. quiet_then by g (spec.may_be_called scope f.signature count bracket) (λ callable. given_ >>= (λ arguments. give (spec.result_of_call scope f bracket arguments))) (operators.callable_binds Nothing scope f.signature count bracket)
      (λ y. then_quiet by g given_ (λ arguments. give (spec.result_of_call scope f bracket arguments)) selecting (λ z. record { all = tt })))

  call_with : (first : PlainTree) (bracket close : PlainToken) (parts : PlainTrees) → is_name bracket ≡ false → is_name close ≡ false → SelectsNothing first → ArgumentsSelect parts
      → IsSelecting (node k.Call (more first (more (leaf bracket) (more (node k.Arguments parts) (more (leaf close) none)))))
  call_with first bracket close parts b c called selecting =
      call_selects first bracket
      (λ f. uses (file_entity f.name.text) >>= (λ bound. spec.may_be_called scope f.signature (count_entries parts) bracket >>= (λ callable. judged_arguments scope f.signature.parameters parts bracket >>= (λ arguments. give (spec.result_of_call scope f bracket arguments)))))
      (Those (node k.Call (more first (more (leaf bracket) (more (node k.Arguments parts) (more (leaf close) none))))))
      (λ f e. selects_same by (Those (node k.Call (more first (more (leaf bracket) (more (node k.Arguments parts) (more (leaf close) none)))))) (λ behind. None ∷ All parts behind)
      (uses (file_entity f.name.text) >>= (λ bound. spec.may_be_called scope f.signature (count_entries parts) bracket >>= (λ callable. judged_arguments scope f.signature.parameters parts bracket >>= (λ arguments. give (spec.result_of_call scope f bracket arguments)))))
      (λ behind. part first (more (leaf bracket) (more (node k.Arguments parts) (more (leaf close) none))) behind
      ∙ (called f e (All (more (leaf bracket) (more (node k.Arguments parts) (more (leaf close) none))) behind)
      ∙ ap (λ l. None ∷ l) (skipped bracket (more (node k.Arguments parts) (more (leaf close) none)) b behind
      ∙ (part (node k.Arguments parts) (more (leaf close) none) behind
      ∙ ap (All parts) (skipped close none c behind)))))
      (function_selects f bracket (count_entries parts) (judged_arguments scope f.signature.parameters parts bracket) (All parts) (selecting f.signature.parameters bracket)))
      (callee scope first) refl

  call_without : (first : PlainTree) (bracket close : PlainToken) → is_name bracket ≡ false → is_name close ≡ false → SelectsNothing first
      → IsSelecting (node k.Call (more first (more (leaf bracket) (more (node k.Absent none) (more (leaf close) none)))))
  call_without first bracket close b c called =
      call_selects first bracket
      (λ f. uses (file_entity f.name.text) >>= (λ bound. spec.may_be_called scope f.signature 0 bracket >>= (λ callable. give (spec.result_of_call scope f bracket no_argument))))
      (Those (node k.Call (more first (more (leaf bracket) (more (node k.Absent none) (more (leaf close) none))))))
      (λ f e. selects_same by (Those (node k.Call (more first (more (leaf bracket) (more (node k.Absent none) (more (leaf close) none)))))) (λ behind. None ∷ behind)
      (uses (file_entity f.name.text) >>= (λ bound. spec.may_be_called scope f.signature 0 bracket >>= (λ callable. give (spec.result_of_call scope f bracket no_argument))))
      (λ behind. part first (more (leaf bracket) (more (node k.Absent none) (more (leaf close) none))) behind
      ∙ (called f e (All (more (leaf bracket) (more (node k.Absent none) (more (leaf close) none))) behind)
      ∙ ap (λ l. None ∷ l) (skipped bracket (more (node k.Absent none) (more (leaf close) none)) b behind
      ∙ skipped close none c behind)))
      (then_quiet by (λ behind. None ∷ behind) (uses (file_entity f.name.text)) (λ bound. spec.may_be_called scope f.signature 0 bracket >>= (λ callable. give (spec.result_of_call scope f bracket no_argument))) (λ behind. refl)
      (λ x. bound.then_binds Nothing (spec.may_be_called scope f.signature 0 bracket) (λ callable. give (spec.result_of_call scope f bracket no_argument)) (operators.callable_binds Nothing scope f.signature 0 bracket) (λ y. record { all = tt }))))
      (callee scope first) refl

  -- ---- assignments and conditions

  assigned : (first second : PlainTree) (sign : PlainToken) → IsWord assignments sign → IsSelecting first → IsSelecting second → IsSelecting (node k.Assignment (more first (more (leaf sign) (more second none))))
  assigned first second sign w one two =
      selects_same by (Those (node k.Assignment (more first (more (leaf sign) (more second none))))) (λ behind. Those first (Those second behind)) (judged scope (node k.Assignment (more first (more (leaf sign) (more second none)))))
      (between assignments first second sign refl w)
      (selects_then by (Those first) (Those second) (judged scope first)
      (λ left. spec.written_place scope sign left >>= (λ place. judged scope second >>= (λ operand. loaded scope operand >>= (λ right. spec.assignment scope sign left place right)))) one
      (λ left. quiet_then by (Those second) (spec.written_place scope sign left) (λ place. judged scope second >>= (λ operand. loaded scope operand >>= (λ right. spec.assignment scope sign left place right))) (operators.written_binds Nothing scope sign left)
      (λ place. then_quiet by (Those second) (judged scope second) (λ operand. loaded scope operand >>= (λ right. spec.assignment scope sign left place right)) two
      (λ x. operators.load_then Nothing scope x (λ right. spec.assignment scope sign left place right) (λ right. operators.assignment_binds Nothing scope sign left place right)))))

  conditional : (first second third : PlainTree) (question colon : PlainToken) → is_name question ≡ false → is_name colon ≡ false → IsSelecting first → IsSelecting second → IsSelecting third
      → IsSelecting (node k.Conditional (more first (more (leaf question) (more second (more (leaf colon) (more third none))))))
  conditional first second third question colon q c one two three =
      selects_same by (Those (node k.Conditional (more first (more (leaf question) (more second (more (leaf colon) (more third none))))))) (λ behind. Those first (Those second (Those third behind)))
      (judged scope (node k.Conditional (more first (more (leaf question) (more second (more (leaf colon) (more third none)))))))
      (λ behind. part first (more (leaf question) (more second (more (leaf colon) (more third none)))) behind
      ∙ ap (Those first) (skipped question (more second (more (leaf colon) (more third none))) q behind
      ∙ (part second (more (leaf colon) (more third none)) behind
      ∙ ap (Those second) (skipped colon (more third none) c behind ∙ part third none behind))))
      (selects_then by (Those first) (λ behind. Those second (Those third behind)) (judged scope first >>= spec.condition_value scope (first_token first question))
      (λ condition. judged scope second >>= (λ left. loaded scope left >>= (λ a. judged scope third >>= (λ right. loaded scope right >>= (λ b. spec.chosen question condition a b)))))
      (then_quiet by (Those first) (judged scope first) (spec.condition_value scope (first_token first question)) one (λ x. operators.condition_binds Nothing scope (first_token first question) x))
      (λ condition. two_values second third (λ behind. Those second (Those third behind)) (λ a b. spec.chosen question condition a b) (λ behind. refl) two three (λ a b. operators.chosen_binds Nothing question condition a b)))

  combined : (kind : Kind) (ts : List Terminal) (first second : PlainTree) (sign : PlainToken) → is_one_of ts t.Name ≡ false → IsWord ts sign → IsSelecting first → IsSelecting second
      → S (All (more first (more (leaf sign) (more second none))))
      (judged scope first >>= (λ left. loaded scope left >>= (λ a. judged scope second >>= (λ right. loaded scope right >>= (λ b. spec.combined_by scope kind sign a b)))))
  combined kind ts first second sign free w one two =
      two_values first second (All (more first (more (leaf sign) (more second none)))) (λ a b. spec.combined_by scope kind sign a b) (between ts first second sign free w) one two (λ a b. operators.combined_binds Nothing scope kind sign a b)

  -- ---- all expressions

  module _ (names : HasNames scope) (laws : OperatorsKeepTypes by scope)
      (typed : (level : ℕ) (tree : PlainTree) → Derivation (expression level) tree → (read_expression known tree).outcome ≡ outcome_as (type_of_operand by scope.structs) (judged scope tree)) where
    mutual
      pub expression_selects : {n : ℕ} {tree : PlainTree} → Derivation (expression n) tree → Holds tree → IsSelecting tree
      expression_selects (single {token = token} is) holds = leaf_selects token is
      expression_selects (made_of k.Texts {parts = parts} b a (some_texts texts some)) holds = texts_select parts texts
      expression_selects (made_of k.Parenthesized b a (a_row (a_word {token = open_} w (a_part {tree = inner} d (a_word {token = close} v at_end))))) holds =
          selects_same by (Those (node k.Parenthesized (more (leaf open_) (more inner (more (leaf close) none))))) (Those inner) (judged scope inner)
          (parenthesized open_ close inner (no_name (t.OpenParenthesis ∷ []) open_ refl w) (no_name (t.CloseParenthesis ∷ []) close refl v)) (expression_selects d holds.1.0)
      expression_selects (made_of k.PostfixStep b a (a_row (a_part {tree = inner} d (a_word {token = sign} w at_end)))) holds =
          one_operand inner (All (more inner (more (leaf sign) none))) (spec.stepped scope update_after sign)
          (λ behind. part inner (more (leaf sign) none) behind ∙ ap (Those inner) (skipped sign none (no_name steps sign refl w) behind)) (expression_selects d holds.0)
          (λ x. operators.stepped_binds Nothing scope update_after sign x)
      expression_selects (made_of k.PrefixStep b a (a_row (a_word {token = sign} w (a_part {tree = inner} d at_end)))) holds =
          one_operand inner (All (more (leaf sign) (more inner none))) (spec.stepped scope update sign)
          (λ behind. skipped sign (more inner none) (no_name steps sign refl w) behind ∙ part inner none behind) (expression_selects d holds.1.0)
          (λ x. operators.stepped_binds Nothing scope update sign x)
      expression_selects (made_of k.Prefix b a (a_row (a_word {token = sign} w (a_part {tree = inner} d at_end)))) holds =
          one_operand inner (All (more (leaf sign) (more inner none))) (spec.prefixed scope sign)
          (λ behind. skipped sign (more inner none) (no_name (t.Ampersand ∷ t.Star ∷ t.Sign ∷ t.Negation ∷ []) sign refl w) behind ∙ part inner none behind) (expression_selects d holds.1.0)
          (λ x. operators.prefixed_binds Nothing scope sign x)
      expression_selects (made_of k.Cast b a (a_row (a_word {token = open_} w (a_part {tree = tree} e (a_word {token = close} v (a_part {tree = inner} d at_end)))))) holds =
          cast_selects e open_ close inner w v (expression_selects d holds.1.1.1.0)
      expression_selects (made_of k.Selection b a (a_row (a_part {tree = whole} d (a_word {token = sign} w (a_word {token = name} v at_end))))) holds =
          selects_same by (Those (node k.Selection (more whole (more (leaf sign) (more (leaf name) none))))) (λ behind. Those whole (structure_behind sign (read_expression known whole).outcome ∷ behind))
          (judged scope whole >>= spec.selected scope sign name)
          (selection_written sign name whole (no_name (t.Select ∷ []) sign refl w) (one_of (λ kind. same t.Select kind ≡ true) (t.Select ∷ []) (terminal sign) w (refl, tt)) (one_of (λ kind. same t.Name kind ≡ true) (t.Name ∷ []) (terminal name) v (refl, tt)))
          (selection_selects sign name laws whole (typed _ whole d) (expression_selects d holds.0))
      expression_selects (made_of k.Index b a (a_row (a_part {tree = first} d (a_word {token = bracket} w (a_part {tree = second} e (a_word {token = close} v at_end)))))) holds =
          two_values first second (All (more first (more (leaf bracket) (more second (more (leaf close) none))))) (λ x y. spec.indexed scope bracket x y)
          (λ behind. part first (more (leaf bracket) (more second (more (leaf close) none))) behind
          ∙ ap (Those first) (skipped bracket (more second (more (leaf close) none)) (no_name (t.OpenBracket ∷ []) bracket refl w) behind
          ∙ (part second (more (leaf close) none) behind ∙ ap (Those second) (skipped close none (no_name (t.CloseBracket ∷ []) close refl v) behind))))
          (expression_selects d holds.0) (expression_selects e holds.1.1.0) (λ x y. operators.indexed_binds Nothing scope bracket x y)
      expression_selects (made_of k.Call b a (a_row (a_part {tree = first} d (a_word {token = bracket} w (given {tree = list} e (a_word {token = close} v at_end)))))) holds =
          list_selects e first bracket close holds.1.1.0 (no_name (t.OpenParenthesis ∷ []) bracket refl w) (no_name (t.CloseParenthesis ∷ []) close refl v) (callee_selects names d holds.0)
      expression_selects (made_of k.Call b a (a_row (a_part {tree = first} d (a_word {token = bracket} w (left_out (a_word {token = close} v at_end)))))) holds =
          call_without first bracket close (no_name (t.OpenParenthesis ∷ []) bracket refl w) (no_name (t.CloseParenthesis ∷ []) close refl v) (callee_selects names d holds.0)
      expression_selects (made_of k.Assignment b a (a_row (a_part {tree = first} d (a_word {token = sign} w (a_part {tree = second} e at_end))))) holds =
          assigned first second sign w (expression_selects d holds.0) (expression_selects e holds.1.1.0)
      expression_selects (made_of k.Conditional b a (a_row (a_part {tree = first} d (a_word {token = question} w (a_part {tree = second} e (a_word {token = colon} v (a_part {tree = third} f at_end))))))) holds =
          conditional first second third question colon (no_name (t.Question ∷ []) question refl w) (no_name (t.Colon ∷ []) colon refl v) (expression_selects d holds.0) (expression_selects e holds.1.1.0) (expression_selects f holds.1.1.1.1.0)
      expression_selects (made_of k.LogicalOr b a (a_row (a_part {tree = first} d (a_word {token = sign} w (a_part {tree = second} e at_end))))) holds =
          combined k.LogicalOr (t.OrOr ∷ []) first second sign refl w (expression_selects d holds.0) (expression_selects e holds.1.1.0)
      expression_selects (made_of k.LogicalAnd b a (a_row (a_part {tree = first} d (a_word {token = sign} w (a_part {tree = second} e at_end))))) holds =
          combined k.LogicalAnd (t.AndAnd ∷ []) first second sign refl w (expression_selects d holds.0) (expression_selects e holds.1.1.0)
      expression_selects (made_of k.Or b a (a_row (a_part {tree = first} d (a_word {token = sign} w (a_part {tree = second} e at_end))))) holds =
          combined k.Or (t.Bar ∷ []) first second sign refl w (expression_selects d holds.0) (expression_selects e holds.1.1.0)
      expression_selects (made_of k.Xor b a (a_row (a_part {tree = first} d (a_word {token = sign} w (a_part {tree = second} e at_end))))) holds =
          combined k.Xor (t.Caret ∷ []) first second sign refl w (expression_selects d holds.0) (expression_selects e holds.1.1.0)
      expression_selects (made_of k.And b a (a_row (a_part {tree = first} d (a_word {token = sign} w (a_part {tree = second} e at_end))))) holds =
          combined k.And (t.Ampersand ∷ []) first second sign refl w (expression_selects d holds.0) (expression_selects e holds.1.1.0)
      expression_selects (made_of k.Equality b a (a_row (a_part {tree = first} d (a_word {token = sign} w (a_part {tree = second} e at_end))))) holds =
          combined k.Equality (t.Equality ∷ []) first second sign refl w (expression_selects d holds.0) (expression_selects e holds.1.1.0)
      expression_selects (made_of k.Relation b a (a_row (a_part {tree = first} d (a_word {token = sign} w (a_part {tree = second} e at_end))))) holds =
          combined k.Relation (t.Relation ∷ []) first second sign refl w (expression_selects d holds.0) (expression_selects e holds.1.1.0)
      expression_selects (made_of k.Shift b a (a_row (a_part {tree = first} d (a_word {token = sign} w (a_part {tree = second} e at_end))))) holds =
          combined k.Shift (t.Shift ∷ []) first second sign refl w (expression_selects d holds.0) (expression_selects e holds.1.1.0)
      expression_selects (made_of k.Sum b a (a_row (a_part {tree = first} d (a_word {token = sign} w (a_part {tree = second} e at_end))))) holds =
          combined k.Sum (t.Sign ∷ []) first second sign refl w (expression_selects d holds.0) (expression_selects e holds.1.1.0)
      expression_selects (made_of k.Product b a (a_row (a_part {tree = first} d (a_word {token = sign} w (a_part {tree = second} e at_end))))) holds =
          combined k.Product (t.Star ∷ t.Divide ∷ []) first second sign refl w (expression_selects d holds.0) (expression_selects e holds.1.1.0)
      expression_selects (made_of _ b a s) holds = absurd cc

      cast_selects : {tree : PlainTree} → Derivation cast_type tree → (open_ close : PlainToken) (inner : PlainTree) → IsWord (t.OpenParenthesis ∷ []) open_ → IsWord (t.CloseParenthesis ∷ []) close → IsSelecting inner
          → IsSelecting (node k.Cast (more (leaf open_) (more tree (more (leaf close) (more inner none)))))
      cast_selects (single s) open_ close inner w v one = absurd cc
      cast_selects (made_of k.Specifiers {parts = words} b a (some_words are)) open_ close inner w v one =
          one_operand inner (All (more (leaf open_) (more (node k.Specifiers words) (more (leaf close) (more inner none))))) (λ operand. loaded scope operand >>= (λ x. spec.cast_to open_ x (spec.arithmetic_words words)))
          (λ behind. skipped open_ (more (node k.Specifiers words) (more (leaf close) (more inner none))) (no_name (t.OpenParenthesis ∷ []) open_ refl w) behind
          ∙ (part (node k.Specifiers words) (more (leaf close) (more inner none)) behind
          ∙ (none_named words (words_of_named cast_types words are refl) (All (more (leaf close) (more inner none)) behind)
          ∙ (skipped close (more inner none) (no_name (t.CloseParenthesis ∷ []) close refl v) behind ∙ part inner none behind))))
          one (λ x. operators.load_then Nothing scope x (λ y. spec.cast_to open_ y (spec.arithmetic_words words)) (λ y. operators.cast_binds Nothing open_ y (spec.arithmetic_words words)))
      cast_selects (made_of _ b a s) open_ close inner w v one = absurd cc

      list_selects : {tree : PlainTree} → Derivation arguments tree → (first : PlainTree) (bracket close : PlainToken) → Holds tree → is_name bracket ≡ false → is_name close ≡ false → SelectsNothing first
          → IsSelecting (node k.Call (more first (more (leaf bracket) (more tree (more (leaf close) none)))))
      list_selects (single s) first bracket close holds b c called = absurd cc
      list_selects (made_of k.Arguments {parts = parts} b a (with_commas s)) first bracket close holds o c called = call_with first bracket close parts o c called (arguments_select s holds)
      list_selects (made_of _ b a s) first bracket close holds o c called = absurd cc

      arguments_select : {parts : PlainTrees} → Separated (expression 1) parts → AllHold parts → ArgumentsSelect parts
      arguments_select (last_one {tree = tree} d) holds = last_argument tree (expression_selects d holds.0)
      arguments_select (next_one {tree = tree} {comma = comma} {rest = rest} d w s) holds =
          next_argument tree comma rest (no_name (t.Comma ∷ []) comma refl w) (expression_selects d holds.0) (arguments_select s holds.1.1)
