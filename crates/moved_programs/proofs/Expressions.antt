-- Expressions whose tokens stand elsewhere are judged alike.
use Rattle.std.proofs.Common.{◌≡◌, ◌+◌, true, List, [], ◌∷◌, refl, sym, subst, length}
use Rattle.std.specs.Prelude.{Option, Some, None, option_map}
use Rattle.c_text.specs.Token.{PlainToken}
use Rattle.c_types.specs.Types.{PlainType, char, array_of}
use Rattle.c_tree.specs.declared.kinds.Kind.TheVariants as k
use Rattle.c_tree.specs.Terminals.{terminal}
use Rattle.c_tree.specs.Trees.{PlainTree, PlainTrees, leaf, node, none, more}
use Rattle.core_meaning.specs.declared.refusals.TypeKind.TheVariants.{BadOperand}
use Rattle.core_meaning.specs.Program.{update, update_after, literal, no_argument}
use Rattle.core_meaning.specs.Checking.{file_entity, Checked, refused, ◌>>=◌, give, or_broken, uses}
use Rattle.core_meaning.specs.Entities.{Local, Sort, variable, function, FileName, Scope, local_in, entity_number}
use Rattle.core_meaning.specs.Typing.{Operand, Typed, of_object, loaded}
use Rattle.core_meaning.specs.Expressions.{judged, judged_arguments, text_bytes, first_text, first_token, cast_to, arithmetic_words, indexed, Callee, callee, callee_unless_local, callee_of_name, callee_of_sort, count_entries, may_be_called, result_of_call, passed, condition_value, chosen, combined_by, written_place, assignment, valued, judged_condition}
use Rattle.moved_programs.specs.Trees.{moved_tree, moved_trees}
use Rattle.moved_programs.proofs.Moves.{elsewhere, Moves, stays, moved_operand, same_then, operand_then, token_then, give_moves, given, refused_moves, broken_moves, somes_move, uses_moves}
use Rattle.moved_programs.proofs.Words.{first_moves, same_words, same_bytes, text_moves, same_entries}
use Rattle.moved_programs.proofs.Operators.{loads, written_moves, stepped_moves, assignment_moves, prefixed_moves, cast_moves, indexed_moves, selected_moves, combined_by_moves, chosen_moves, callable_moves, passed_moves, condition_moves, single_moves}

module _ (h : PlainToken → PlainToken) (s : Scope) where
  abbrev pub TreeMoves : PlainTree → Type 0
  TreeMoves tree = Moves h (moved_operand h) (judged s tree) (judged s (moved_tree (elsewhere h) tree))

  abbrev ArgumentsMove : PlainTrees → Type 0
  ArgumentsMove parts =
      (types : List PlainType) (bracket : PlainToken) → Moves h stays (judged_arguments s types parts bracket) (judged_arguments s types (moved_trees (elsewhere h) parts) (elsewhere h bracket))

  -- ---- what operands lead to

  value_then :
      {B : Type 0} (w : B → B) (tree : PlainTree) (m n : Typed → Checked B) → TreeMoves tree → ((x : Typed) → Moves h w (m x) (n x))
      → Moves h w (judged s tree >>= (λ o. loaded s o >>= m)) (judged s (moved_tree (elsewhere h) tree) >>= (λ o. loaded s o >>= n))
  value_then w tree m n i next =
      operand_then h w (judged s tree) (judged s (moved_tree (elsewhere h) tree)) _ _ i (λ o. same_then h w (loaded s o) (loaded s (moved_operand h o)) m n (loads h s o) next)

  two_move :
      (first second : PlainTree) (m n : Typed → Typed → Checked Operand) → TreeMoves first → TreeMoves second → ((a b : Typed) → Moves h (moved_operand h) (m a b) (n a b))
      → Moves h (moved_operand h)
      (judged s first >>= (λ left. loaded s left >>= (λ a. judged s second >>= (λ right. loaded s right >>= (λ b. m a b)))))
      (judged s (moved_tree (elsewhere h) first) >>= (λ left. loaded s left >>= (λ a. judged s (moved_tree (elsewhere h) second) >>= (λ right. loaded s right >>= (λ b. n a b)))))
  two_move first second m n i j next = value_then (moved_operand h) first _ _ i (λ a. value_then (moved_operand h) second (m a) (n a) j (next a))

  pub condition_of : (tree : PlainTree) (behind : PlainToken) → TreeMoves tree → Moves h stays (judged_condition s tree behind) (judged_condition s (moved_tree (elsewhere h) tree) (elsewhere h behind))
  condition_of tree behind i =
      subst (λ token. Moves h stays (judged_condition s tree behind) (judged s (moved_tree (elsewhere h) tree) >>= condition_value s token)) (sym (first_moves h tree behind))
      (operand_then h stays (judged s tree) (judged s (moved_tree (elsewhere h) tree)) _ _ i (condition_moves h s (first_token tree behind)))

  -- ---- calls

  abbrev moved_callee : Callee → Callee
  moved_callee f = record f { name = elsewhere h f.name }

  sort_moves : (token : PlainToken) (sort : Sort) → callee_of_sort (elsewhere h token) sort ≡ option_map moved_callee (callee_of_sort token sort)
  sort_moves token (variable ty) = refl
  sort_moves token (function signature) = refl

  callee_name_moves : (token : PlainToken) (found : Option FileName) → callee_of_name (elsewhere h token) found ≡ option_map moved_callee (callee_of_name token found)
  callee_name_moves token None = refl
  callee_name_moves token (Some found) = sort_moves token found.sort

  local_moves : (token : PlainToken) (found : Option Local) → callee_unless_local s (elsewhere h token) found ≡ option_map moved_callee (callee_unless_local s token found)
  local_moves token (Some found) = refl
  local_moves token None = callee_name_moves token (s.file_names token.text)

  callee_moves : (tree : PlainTree) → callee s (moved_tree (elsewhere h) tree) ≡ option_map moved_callee (callee s tree)
  callee_moves (leaf token) = local_moves token (local_in s.blocks token.text)
  callee_moves (node k.Parenthesized (more bracket (more inner (more close none)))) = callee_moves inner
  callee_moves (node _ _) = refl

  abbrev call_of : PlainTree → PlainToken → PlainTrees → Option Callee → Checked Operand
  call_of first bracket parts found = elim found as (λ x. Checked Operand) [
    | Some f ↦ (do
      bound ← uses (file_entity f.name.text)
      callable ← may_be_called s f.signature (count_entries parts) bracket
      arguments ← judged_arguments s f.signature.parameters parts bracket
      give (result_of_call s f bracket arguments))
    | None ↦ (do
      operand ← judged s first
      x ← loaded s operand
      refused BadOperand bracket)
  ]

  called_moves :
      (first : PlainTree) (bracket : PlainToken) (parts : PlainTrees) (found : Option Callee) → TreeMoves first → ArgumentsMove parts
      → Moves h (moved_operand h) (call_of first bracket parts found) (call_of (moved_tree (elsewhere h) first) (elsewhere h bracket) (moved_trees (elsewhere h) parts) (option_map moved_callee found))
  called_moves first bracket parts (Some f) i j =
      same_then h (moved_operand h) (uses (file_entity f.name.text)) (uses (file_entity f.name.text)) _ _ (uses_moves h (file_entity f.name.text))
      (λ bound. same_then h (moved_operand h) (may_be_called s f.signature (count_entries parts) bracket) (may_be_called s f.signature (count_entries (moved_trees (elsewhere h) parts)) (elsewhere h bracket)) _ _
      (subst (λ n. Moves h stays (may_be_called s f.signature (count_entries parts) bracket) (may_be_called s f.signature n (elsewhere h bracket))) (sym (same_entries h parts)) (callable_moves h s f.signature (count_entries parts) bracket))
      (λ callable. same_then h (moved_operand h) (judged_arguments s f.signature.parameters parts bracket) (judged_arguments s f.signature.parameters (moved_trees (elsewhere h) parts) (elsewhere h bracket)) _ _ (j f.signature.parameters bracket)
      (λ arguments. given h (moved_operand h) (result_of_call s f bracket arguments))))
  called_moves first bracket parts None i j = value_then (moved_operand h) first _ _ i (λ x. refused_moves h (moved_operand h) BadOperand bracket _ refl)

  call_moves :
      (first : PlainTree) (bracket : PlainToken) (parts : PlainTrees) → TreeMoves first → ArgumentsMove parts
      → Moves h (moved_operand h) (call_of first bracket parts (callee s first)) (call_of (moved_tree (elsewhere h) first) (elsewhere h bracket) (moved_trees (elsewhere h) parts) (callee s (moved_tree (elsewhere h) first)))
  call_moves first bracket parts i j =
      subst (λ found. Moves h (moved_operand h) (call_of first bracket parts (callee s first)) (call_of (moved_tree (elsewhere h) first) (elsewhere h bracket) (moved_trees (elsewhere h) parts) found)) (sym (callee_moves first))
      (called_moves first bracket parts (callee s first) i j)

  abbrev call_without : PlainTree → PlainToken → Option Callee → Checked Operand
  call_without first bracket found = elim found as (λ x. Checked Operand) [
    | Some f ↦ (do
      bound ← uses (file_entity f.name.text)
      callable ← may_be_called s f.signature 0 bracket
      give (result_of_call s f bracket no_argument))
    | None ↦ (do
      operand ← judged s first
      x ← loaded s operand
      refused BadOperand bracket)
  ]

  without_moves :
      (first : PlainTree) (bracket : PlainToken) (found : Option Callee) → TreeMoves first
      → Moves h (moved_operand h) (call_without first bracket found) (call_without (moved_tree (elsewhere h) first) (elsewhere h bracket) (option_map moved_callee found))
  without_moves first bracket (Some f) i =
      same_then h (moved_operand h) (uses (file_entity f.name.text)) (uses (file_entity f.name.text)) _ _ (uses_moves h (file_entity f.name.text))
      (λ bound. same_then h (moved_operand h) (may_be_called s f.signature 0 bracket) (may_be_called s f.signature 0 (elsewhere h bracket)) _ _ (callable_moves h s f.signature 0 bracket)
      (λ callable. given h (moved_operand h) (result_of_call s f bracket no_argument)))
  without_moves first bracket None i = value_then (moved_operand h) first _ _ i (λ x. refused_moves h (moved_operand h) BadOperand bracket _ refl)

  call_without_moves :
      (first : PlainTree) (bracket : PlainToken) → TreeMoves first
      → Moves h (moved_operand h) (call_without first bracket (callee s first)) (call_without (moved_tree (elsewhere h) first) (elsewhere h bracket) (callee s (moved_tree (elsewhere h) first)))
  call_without_moves first bracket i =
      subst (λ found. Moves h (moved_operand h) (call_without first bracket (callee s first)) (call_without (moved_tree (elsewhere h) first) (elsewhere h bracket) found)) (sym (callee_moves first))
      (without_moves first bracket (callee s first) i)

  -- ---- expressions by their kinds

  texts_move : (parts : PlainTrees) → TreeMoves (node k.Texts parts)
  texts_move parts =
      same_then h (moved_operand h) (or_broken (text_bytes parts)) (or_broken (text_bytes (moved_trees (elsewhere h) parts))) _ _ (somes_move h (text_bytes parts) (text_bytes (moved_trees (elsewhere h) parts)) (same_bytes h parts))
      (λ bytes. token_then h (moved_operand h) (first_text parts) (first_text (moved_trees (elsewhere h) parts)) _ _ (text_moves h parts) (λ first. given h (moved_operand h) (of_object first (array_of char (length bytes + 1)) (literal (entity_number s.numbers.literals bytes)) true)))

  cast_of :
      (bracket : PlainToken) (words : PlainTrees) (inner : PlainTree) → TreeMoves inner
      → Moves h (moved_operand h) (judged s inner >>= (λ operand. loaded s operand >>= (λ x. cast_to bracket x (arithmetic_words words))))
      (judged s (moved_tree (elsewhere h) inner) >>= (λ operand. loaded s operand >>= (λ x. cast_to (elsewhere h bracket) x (arithmetic_words (moved_trees (elsewhere h) words)))))
  cast_of bracket words inner i =
      value_then (moved_operand h) inner _ _ i
      (λ x. subst (λ ty. Moves h (moved_operand h) (cast_to bracket x (arithmetic_words words)) (cast_to (elsewhere h bracket) x ty)) (sym (same_words h words)) (cast_moves h s bracket x (arithmetic_words words)))

  assigned_of :
      (first second : PlainTree) (sign : PlainToken) → TreeMoves first → TreeMoves second
      → Moves h (moved_operand h)
      (judged s first >>= (λ left. written_place s sign left >>= (λ place. judged s second >>= (λ operand. loaded s operand >>= (λ right. assignment s sign left place right)))))
      (judged s (moved_tree (elsewhere h) first) >>= (λ left. written_place s (elsewhere h sign) left >>= (λ place. judged s (moved_tree (elsewhere h) second) >>= (λ operand. loaded s operand >>= (λ right. assignment s (elsewhere h sign) left place right)))))
  assigned_of first second sign i j =
      operand_then h (moved_operand h) (judged s first) (judged s (moved_tree (elsewhere h) first)) _ _ i
      (λ left. same_then h (moved_operand h) (written_place s sign left) (written_place s (elsewhere h sign) (moved_operand h left)) _ _ (written_moves h s sign left)
      (λ place. value_then (moved_operand h) second _ _ j (λ right. assignment_moves h s sign left place right)))

  conditional_of :
      (first second third : PlainTree) (question : PlainToken) (colon : PlainTree) → TreeMoves first → TreeMoves second → TreeMoves third
      → TreeMoves (node k.Conditional (more first (more (leaf question) (more second (more colon (more third none))))))
  conditional_of first second third question colon i j l =
      same_then h (moved_operand h) (judged_condition s first question) (judged_condition s (moved_tree (elsewhere h) first) (elsewhere h question)) _ _ (condition_of first question i)
      (λ c. two_move second third (chosen question c) (chosen (elsewhere h question) c) j l (λ a b. chosen_moves h s question c a b))

  pub one_argument : (tree : PlainTree) → TreeMoves tree → ArgumentsMove (more tree none)
  one_argument tree i [] bracket = broken_moves h stays
  one_argument tree i (ty ∷ types) bracket =
      operand_then h stays (judged s tree) (judged s (moved_tree (elsewhere h) tree)) _ _ i
      (λ o. same_then h stays (passed s ty o (first_token tree bracket)) (passed s ty (moved_operand h o) (first_token (moved_tree (elsewhere h) tree) (elsewhere h bracket))) _ _
      (subst (λ token. Moves h stays (passed s ty o (first_token tree bracket)) (passed s ty (moved_operand h o) token)) (sym (first_moves h tree bracket)) (passed_moves h s ty o (first_token tree bracket)))
      (λ core. give_moves h stays _ _ refl))

  pub more_arguments : (tree comma : PlainTree) (rest : PlainTrees) → TreeMoves tree → ArgumentsMove rest → ArgumentsMove (more tree (more comma rest))
  more_arguments tree comma rest i j [] bracket = broken_moves h stays
  more_arguments tree comma rest i j (ty ∷ types) bracket =
      operand_then h stays (judged s tree) (judged s (moved_tree (elsewhere h) tree)) _ _ i
      (λ o. same_then h stays (passed s ty o (first_token tree bracket)) (passed s ty (moved_operand h o) (first_token (moved_tree (elsewhere h) tree) (elsewhere h bracket))) _ _
      (subst (λ token. Moves h stays (passed s ty o (first_token tree bracket)) (passed s ty (moved_operand h o) token)) (sym (first_moves h tree bracket)) (passed_moves h s ty o (first_token tree bracket)))
      (λ core. same_then h stays (judged_arguments s types rest bracket) (judged_arguments s types (moved_trees (elsewhere h) rest) (elsewhere h bracket)) _ _ (j types bracket) (λ others. give_moves h stays _ _ refl)))

  no_arguments : ArgumentsMove none
  no_arguments [] bracket = give_moves h stays _ _ refl
  no_arguments (ty ∷ types) bracket = give_moves h stays _ _ refl

  mutual
    pub expression_moves : (tree : PlainTree) → TreeMoves tree
    expression_moves (leaf token) = single_moves h s token (terminal token)
    expression_moves (node k.Texts parts) = texts_move parts
    expression_moves (node k.Parenthesized (more bracket (more inner (more close none)))) = expression_moves inner
    expression_moves (node k.PostfixStep (more inner (more (leaf sign) none))) =
        operand_then h (moved_operand h) (judged s inner) (judged s (moved_tree (elsewhere h) inner)) _ _ (expression_moves inner) (stepped_moves h s update_after sign)
    expression_moves (node k.PrefixStep (more (leaf sign) (more inner none))) =
        operand_then h (moved_operand h) (judged s inner) (judged s (moved_tree (elsewhere h) inner)) _ _ (expression_moves inner) (stepped_moves h s update sign)
    expression_moves (node k.Prefix (more (leaf sign) (more inner none))) =
        operand_then h (moved_operand h) (judged s inner) (judged s (moved_tree (elsewhere h) inner)) _ _ (expression_moves inner) (prefixed_moves h s sign)
    expression_moves (node k.Cast (more (leaf bracket) (more (node words_kind words) (more close (more inner none))))) = cast_of bracket words inner (expression_moves inner)
    expression_moves (node k.Selection (more first (more (leaf sign) (more (leaf name) none)))) =
        operand_then h (moved_operand h) (judged s first) (judged s (moved_tree (elsewhere h) first)) _ _ (expression_moves first) (selected_moves h s sign name)
    expression_moves (node k.Index (more first (more (leaf bracket) (more second (more close none))))) =
        two_move first second (indexed s bracket) (indexed s (elsewhere h bracket)) (expression_moves first) (expression_moves second) (λ a b. indexed_moves h s bracket a b)
    expression_moves (node k.Call (more first (more (leaf bracket) (more (node k.Arguments parts) (more close none))))) = call_moves first bracket parts (expression_moves first) (arguments_move parts)
    expression_moves (node k.Call (more first (more (leaf bracket) (more (node k.Absent none) (more close none))))) = call_without_moves first bracket (expression_moves first)
    expression_moves (node k.Assignment (more first (more (leaf sign) (more second none)))) = assigned_of first second sign (expression_moves first) (expression_moves second)
    expression_moves (node k.Conditional (more first (more (leaf question) (more second (more colon (more third none)))))) =
        conditional_of first second third question colon (expression_moves first) (expression_moves second) (expression_moves third)
    expression_moves (node kind (more first (more (leaf sign) (more second none)))) =
        two_move first second (combined_by s kind sign) (combined_by s kind (elsewhere h sign)) (expression_moves first) (expression_moves second) (λ a b. combined_by_moves h s kind sign a b)
    expression_moves (node _ _) = broken_moves h (moved_operand h)

    arguments_move : (parts : PlainTrees) → ArgumentsMove parts
    arguments_move none = no_arguments
    arguments_move (more tree none) = one_argument tree (expression_moves tree)
    arguments_move (more tree (more comma rest)) = more_arguments tree comma rest (expression_moves tree) (arguments_move rest)

  pub value_moves : (tree : PlainTree) → Moves h stays (valued s tree) (valued s (moved_tree (elsewhere h) tree))
  value_moves tree = operand_then h stays (judged s tree) (judged s (moved_tree (elsewhere h) tree)) _ _ (expression_moves tree) (loads h s)

  pub condition_is : (tree : PlainTree) (behind : PlainToken) → Moves h stays (judged_condition s tree behind) (judged_condition s (moved_tree (elsewhere h) tree) (elsewhere h behind))
  condition_is tree behind = condition_of tree behind (expression_moves tree)
