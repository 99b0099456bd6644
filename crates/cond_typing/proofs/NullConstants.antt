-- What is the null constant among expressions is a number.
use Rattle.std.proofs.Common.{◌≡◌, ℕ, Bool, true, false, List, [], ◌∷◌, ◌++◌, Option, Some, None, get_or, refl, sym, subst}
use Rattle.std.specs.Prelude.{IsTrue, not, ◌&&◌, codes, if◌then◌else◌, ⊤}
use Rattle.std.specs.Str.{bytes_eq}
use Rattle.c_text.specs.Token.{PlainToken}
use Rattle.c_text.specs.Constants.{quoted_values}
use Rattle.c_types.specs.Types.{PlainType, int, pointer_to, structure}
use Rattle.c_types.specs.Integers.{is_integer}
use Rattle.c_tree.specs.declared.kinds.Kind.{Kind}
use Rattle.c_tree.specs.declared.kinds.Kind.TheVariants as k
use Rattle.c_tree.specs.declared.terminals.Terminal.{Terminal}
use Rattle.c_tree.specs.declared.terminals.Terminal.TheVariants as t
use Rattle.c_tree.specs.Terminals.{terminal}
use Rattle.c_tree.specs.Trees.{PlainTree, PlainTrees, leaf, node, none, more}
use Rattle.core_meaning.specs.Program.{constant, update}
use Rattle.core_meaning.specs.Checking as judged
use Rattle.core_meaning.specs.Checking.{give, or_broken, ◌>>=◌}
use Rattle.core_meaning.specs.Entities.{Struct}
use Rattle.core_meaning.specs.Typing.{Operand, of_value}
use Rattle.core_meaning.specs.Expressions.{number_operand, character_value, character_operand, text_bytes, first_text}
use Rattle.conditional.specs.Judgements.{fine, refused, bind}
use Rattle.choice_trees.specs.ChoiceTrees.{semicolon}
use Rattle.operand_types.specs.OperandTypes.{OperandType, Category, lvalue, type_of_operand, outcome_as, scope_for, asked_of, any_core, an_operand, a_value}
use Rattle.operand_types.specs.Operators.{same_number, loaded_type, prefixed_type, stepped_type, cast_type, combined_type, indexed_type, assigned_type, chosen_type, tested_type}
use Rattle.operand_types.proofs.Renumbered.{renumbered_same}
use Rattle.operand_rules.specs.Rules.{IsNumberIfNull}
use Rattle.cond_operands.specs.Operands.{Judged, HasNumberIfNull}
use Rattle.expression_types.specs.Known.{Callable, Known}
use Rattle.expression_types.specs.Reading.{Read, Parts, no_outcome, no_expression, nothing_read, operand, value, sign, typed, single_outcome, single, text_outcome, member_of_category, member_in, category_of_members, member_of_target, selected, all_fit, is_result, called, node_read, expression_of, is_operand, is_selected, with_operand, with_sign, with_leaf, with_node, read_parts, read_expression}
use Rattle.expression_types.proofs.Sees.{Comes}
use Rattle.expression_types.proofs.Numbers.{NullIsNumber, number_is, stepped_number, prefixed_number, cast_number, combined_number, indexed_number, assigned_number, chosen_number}
use Rattle.cond_nodes.specs.Reads.{HasNumbers, EachNumber}
use Rattle.cond_typing.specs.Readings.{IsNumberRead}

-- ---- judgements

of_operand : (structs : List Struct) (x : Operand) → NullIsNumber x → IsNumberIfNull (type_of_operand same_number structs x)
of_operand structs x number = λ null. subst (λ t. IsTrue (is_integer t)) (sym (renumbered_same x.ty)) (number null)

of_judged : (structs : List Struct) (m : judged.Checked Operand) → Comes NullIsNumber m → HasNumberIfNull (outcome_as (type_of_operand same_number structs) m)
of_judged structs (judged.fine x bindings) number = of_operand structs x number
of_judged structs (judged.refused kind token) number = tt
of_judged structs judged.broken number = tt

of_bound : {A : Type 0} (x : Rattle.conditional.specs.Judgements.Checked A (Unit {0})) (f : A → Judged) → ((a : A) → HasNumberIfNull (f a)) → HasNumberIfNull (bind x f)
of_bound (fine a) f each = each a
of_bound (refused why) f each = tt

of_test : (b : Bool) (x y : Judged) → HasNumberIfNull x → HasNumberIfNull y → HasNumberIfNull (if b then x else y)
of_test true x y first second = first
of_test false x y first second = second

of_typed : (x : Judged) → HasNumberIfNull x → IsNumberRead (typed x)
of_typed x number = record { outcome = number; result = λ f is. cc }

no_number : IsNumberRead no_expression
no_number = record { outcome = tt; result = λ f is. cc }

-- ---- operands of a node

abbrev pub EachIsNumber : List Read → Type 0
EachIsNumber [] = ⊤
EachIsNumber (r ∷ rs) = IsNumberRead r × EachIsNumber rs

first_number : (reads : List Read) → EachIsNumber reads → IsNumberRead (get_or reads 0 no_expression)
first_number [] each = no_number
first_number (r ∷ rs) each = each.0

one_more : (reads : List Read) (r : Read) → EachIsNumber reads → IsNumberRead r → EachIsNumber (reads ++ r ∷ [])
one_more [] r each also = (also, tt)
one_more (x ∷ xs) r each also = (each.0, one_more xs r each.1 also)

pub each_outcome : (reads : List Read) → EachIsNumber reads → EachNumber reads
each_outcome [] each = tt
each_outcome (r ∷ rs) each = (each.0.outcome, each_outcome rs each.1)

module _ (known : Known) (numbers : HasNumbers known) where
  -- ---- tokens

  byte_number : (token : PlainToken) (values : Option (List ℕ)) → Comes NullIsNumber (or_broken (character_value values) >>= (λ z. give (of_value token int (constant z))))
  byte_number token None = tt
  byte_number token (Some []) = tt
  byte_number token (Some (byte ∷ [])) = λ null. cc
  byte_number token (Some (byte ∷ next ∷ others)) = tt

  single_number : (token : PlainToken) (x : Terminal) → HasNumberIfNull (single_outcome known token x)
  single_number token t.Name = numbers.objects token.text
  single_number token t.Number = of_operand [] (number_operand token) (λ null. number_is token.text)
  single_number token t.Character = of_judged [] (character_operand token) (byte_number token (quoted_values token.text))
  single_number token _ = tt

  of_single : (token : PlainToken) → IsNumberRead (single known token)
  of_single token = record { outcome = single_number token (terminal token); result = numbers.results token.text }

  -- ---- members and functions

  of_category : (category : Category) (m : Option OperandType) → ((x : OperandType) → m ≡ Some x → IsNumberIfNull x) → HasNumberIfNull (member_of_category category m)
  of_category category None number = tt
  of_category category (Some m) number = number m refl

  of_member : (o : OperandType) (category : Category) (ty : PlainType) (name : List ℕ) → HasNumberIfNull (member_in known o category ty name)
  of_member o category (structure n) name =
      of_test o.has_complete_struct (member_of_category category (known.members n name)) no_outcome (of_category category (known.members n name) (numbers.members n name)) tt
  of_member o category other name = tt

  of_target : (o : OperandType) (ty : PlainType) (name : List ℕ) → HasNumberIfNull (member_of_target known o ty name)
  of_target o (pointer_to ty) name = of_member o (lvalue true) ty name
  of_target o other name = tt

  of_selected : (select : PlainToken) (name : List ℕ) (o : OperandType) → HasNumberIfNull (selected known select name o)
  of_selected select name o =
      of_test (bytes_eq select.text (codes ".")) (member_in known o (category_of_members o.category) o.ty name) (bind (loaded_type semicolon o) (λ v. member_of_target known v v.ty name))
      (of_member o (category_of_members o.category) o.ty name)
      (of_bound (loaded_type semicolon o) (λ v. member_of_target known v v.ty name) (λ v. of_target v v.ty name))

  of_called : (f : Option Callable) (arguments : List Read) → ((g : Callable) → f ≡ Some g → IsNumberIfNull g.result) → HasNumberIfNull (called f arguments)
  of_called None arguments number = tt
  of_called (Some f) arguments number =
      of_test (is_result f.result) (bind (all_fit f.parameters arguments) (λ fit. fine f.result)) no_outcome
      (of_bound (all_fit f.parameters arguments) (λ fit. fine f.result) (λ fit. number f refl)) tt

  -- ---- nodes

  of_prefixed : (s : PlainToken) (o : OperandType) → HasNumberIfNull (prefixed_type s o)
  of_prefixed s o = of_judged _ _ (prefixed_number (scope_for o) s (an_operand s o))

  of_stepped : (s : PlainToken) (o : OperandType) → HasNumberIfNull (stepped_type s o)
  of_stepped s o = of_judged _ _ (stepped_number (scope_for o) update s (an_operand s o))

  of_cast : (s : PlainToken) (ty : PlainType) (o : OperandType) → HasNumberIfNull (cast_type s ty o)
  of_cast s ty o = of_judged _ _ (cast_number s (a_value o) ty)

  of_combined : (kind : Kind) (s : PlainToken) (a b : OperandType) → HasNumberIfNull (combined_type kind s a b)
  of_combined kind s a b = of_judged _ _ (combined_number (scope_for (asked_of a b)) kind s (a_value a) (a_value b))

  of_indexed : (s : PlainToken) (a b : OperandType) → HasNumberIfNull (indexed_type s a b)
  of_indexed s a b = of_judged _ _ (indexed_number (scope_for (asked_of a b)) s (a_value a) (a_value b))

  of_assigned : (s : PlainToken) (a b : OperandType) → HasNumberIfNull (assigned_type s a b)
  of_assigned s a b = of_judged _ _ (assigned_number (scope_for a) s (an_operand s a) (a_value b))

  of_chosen : (s : PlainToken) (a b : OperandType) → HasNumberIfNull (chosen_type s a b)
  of_chosen s a b = of_judged _ _ (chosen_number s any_core (a_value a) (a_value b))

  of_two : (p : Parts) (f : OperandType → OperandType → Judged) → ((a b : OperandType) → HasNumberIfNull (f a b)) → HasNumberIfNull (bind (value 0 p) (λ a. bind (value 1 p) (f a)))
  of_two p f each = of_bound (value 0 p) (λ a. bind (value 1 p) (f a)) (λ a. of_bound (value 1 p) (f a) (each a))

  of_node : (kind : Kind) (p : Parts) → EachIsNumber p.operands → IsNumberRead (node_read known kind p)
  of_node k.Parenthesized p each = first_number p.operands each
  of_node k.PostfixStep p each = of_typed (bind (operand 0 p) (stepped_type (sign 0 p))) (of_bound (operand 0 p) (stepped_type (sign 0 p)) (of_stepped (sign 0 p)))
  of_node k.PrefixStep p each = of_typed (bind (operand 0 p) (stepped_type (sign 0 p))) (of_bound (operand 0 p) (stepped_type (sign 0 p)) (of_stepped (sign 0 p)))
  of_node k.Prefix p each = of_typed (bind (operand 0 p) (prefixed_type (sign 0 p))) (of_bound (operand 0 p) (prefixed_type (sign 0 p)) (of_prefixed (sign 0 p)))
  of_node k.Cast p each = of_typed (bind (value 0 p) (cast_type (sign 0 p) p.words)) (of_bound (value 0 p) (cast_type (sign 0 p) p.words) (of_cast (sign 0 p) p.words))
  of_node k.Selection p each =
      of_typed (bind (operand 0 p) (selected known (sign 0 p) (sign 1 p).text))
      (of_bound (operand 0 p) (selected known (sign 0 p) (sign 1 p).text) (of_selected (sign 0 p) (sign 1 p).text))
  of_node k.Index p each = of_typed (bind (value 0 p) (λ a. bind (value 1 p) (indexed_type (sign 0 p) a))) (of_two p (indexed_type (sign 0 p)) (of_indexed (sign 0 p)))
  of_node k.Call p each =
      of_typed (called (get_or p.operands 0 no_expression).callee p.arguments)
      (of_called (get_or p.operands 0 no_expression).callee p.arguments (first_number p.operands each).result)
  of_node k.Assignment p each =
      of_typed (bind (operand 0 p) (λ left. bind (value 1 p) (assigned_type (sign 0 p) left)))
      (of_bound (operand 0 p) (λ left. bind (value 1 p) (assigned_type (sign 0 p) left))
      (λ left. of_bound (value 1 p) (assigned_type (sign 0 p) left) (of_assigned (sign 0 p) left)))
  of_node k.Conditional p each =
      of_typed (bind (bind (operand 0 p) (tested_type semicolon)) (λ test. bind (value 1 p) (λ a. bind (value 2 p) (chosen_type (sign 0 p) a))))
      (of_bound (bind (operand 0 p) (tested_type semicolon)) (λ test. bind (value 1 p) (λ a. bind (value 2 p) (chosen_type (sign 0 p) a)))
      (λ test. of_bound (value 1 p) (λ a. bind (value 2 p) (chosen_type (sign 0 p) a))
      (λ a. of_bound (value 2 p) (chosen_type (sign 0 p) a) (of_chosen (sign 0 p) a))))
  of_node kind p each =
      of_typed (bind (value 0 p) (λ a. bind (value 1 p) (combined_type kind (sign 0 p) a))) (of_two p (combined_type kind (sign 0 p)) (of_combined kind (sign 0 p)))

  of_texts : (bytes : Option (List ℕ)) (first : Option PlainToken) → HasNumberIfNull (text_outcome bytes first)
  of_texts None first = tt
  of_texts (Some bytes) None = tt
  of_texts (Some bytes) (Some first) = λ null. cc

  of_expression : (kind : Kind) (parts : PlainTrees) (p : Parts) → EachIsNumber p.operands → IsNumberRead (expression_of known kind parts p)
  of_expression k.Texts parts p each = of_typed (text_outcome (text_bytes parts) (first_text parts)) (of_texts (text_bytes parts) (first_text parts))
  of_expression kind parts p each = of_node kind p each

  -- ---- parts

  with_leaf_number : (kind : Kind) (token : PlainToken) (p : Parts) → EachIsNumber p.operands → EachIsNumber (with_leaf known kind token p).operands
  with_leaf_number kind token p each =
      elim (is_operand token && not (is_selected kind p.signs)) as (λ b. EachIsNumber (if b then with_operand (single known token) p else with_sign token p).operands) [
        | true ↦ one_more p.operands (single known token) each (of_single token)
        | false ↦ each
      ]

  with_node_number : (kind : Kind) (parts : PlainTrees) (inner p : Parts) → EachIsNumber inner.operands → EachIsNumber p.operands → EachIsNumber (with_node known kind parts inner p).operands
  with_node_number k.Arguments parts inner p own each = each
  with_node_number k.Specifiers parts inner p own each = each
  with_node_number k.Absent parts inner p own each = each
  with_node_number kind parts inner p own each = one_more p.operands (expression_of known kind parts inner) each (of_expression kind parts inner own)

  pub of_parts : (kind : Kind) (parts : PlainTrees) (p : Parts) → EachIsNumber p.operands → EachIsNumber (read_parts known kind parts p).operands
  of_parts kind none p each = each
  of_parts kind (more (leaf token) rest) p each = of_parts kind rest (with_leaf known kind token p) (with_leaf_number kind token p each)
  of_parts kind (more (node inner parts) rest) p each =
      of_parts kind rest (with_node known inner parts (read_parts known inner parts nothing_read) p)
      (with_node_number inner parts (read_parts known inner parts nothing_read) p (of_parts inner parts nothing_read tt) each)

  pub of_tree : (tree : PlainTree) → IsNumberRead (read_expression known tree)
  of_tree (leaf token) = of_single token
  of_tree (node kind parts) = of_expression kind parts (read_parts known kind parts nothing_read) (of_parts kind parts nothing_read tt)
