-- All expressions of the grammar have the types that are read.
use Rattle.std.proofs.Common.{◌≡◌, ℕ, Bool, true, false, List, [], ◌∷◌, ◌++◌, refl, sym, ap, subst, ◌∙◌, length, arith}
use Rattle.std.specs.Prelude.{map, None, option_map}
use Rattle.std.proofs.lemmas.List.{append_assoc}
use Rattle.c_text.specs.Token.{PlainToken}
use Rattle.c_types.specs.Types.{PlainType, void}
use Rattle.c_tree.specs.declared.kinds.Kind.{Kind}
use Rattle.c_tree.specs.declared.kinds.Kind.TheVariants as k
use Rattle.c_tree.specs.declared.terminals.Terminal.{Terminal}
use Rattle.c_tree.specs.declared.terminals.Terminal.TheVariants as t
use Rattle.c_tree.specs.Terminals.{is_one_of}
use Rattle.c_tree.specs.Trees.{PlainTree, PlainTrees, leaf, node, none, more}
use Rattle.c_tree.specs.Grammar.{expression, arguments, cast_type}
use Rattle.c_tree.proofs.TerminalCases.{EachOf}
use Rattle.core_meaning.specs.Program.{PlainExpression, PlainArguments, no_argument, update, update_after}
use Rattle.core_meaning.specs.Checking.{Checked, fine, refused, broken, ◌>>=◌, give, uses, file_entity}
use Rattle.core_meaning.specs.Entities.{Scope}
use Rattle.core_meaning.specs.Typing.{Operand, Typed, loaded}
use Rattle.core_meaning.specs.Expressions as spec
use Rattle.core_meaning.specs.Expressions.{judged, judged_arguments, callee, count_entries, first_token}
use Rattle.tree_derivations.specs.Derivations.{Derivation, single, made_of, a_row, some_texts, with_commas, at_end, a_word, a_part, left_out, given, Separated, last_one, next_one, IsWord}
use Rattle.conditional.specs.Judgements as seen
use Rattle.conditional.specs.Judgements.{bind}
use Rattle.choice_trees.specs.ChoiceTrees.{semicolon}
use Rattle.operand_types.specs.OperandTypes.{outcome_as, OperandType, struct_in, renumbered}
use Rattle.operand_types.specs.Operators as types
use Rattle.operand_types.specs.Operators.{loaded_type}
use Rattle.operand_types.specs.Laws.{OperatorsKeepTypes}
use Rattle.expression_types.specs.Known.{Known, IsKnown}
use Rattle.expression_types.specs.Reading as reading
use Rattle.expression_types.specs.Reading.{Read, Parts, is_selected, with_operand, with_sign, nothing_read, read_parts, read_expression}
use Rattle.expression_types.proofs.Sees.{SeesAs, sees_then, sees_from, bind_assoc, sees_with, sees_without, never_fine, Comes, comes_then}
use Rattle.expression_types.proofs.Numbers as number
use Rattle.expression_types.proofs.Numbers.{NullIsNumber, NullValueIsNumber, loads_number}
use Rattle.expression_types.proofs.PartsRead.{no_operand, sign_read, member_read, operand_read}
use Rattle.expression_types.proofs.Expressions.{Anything, nothing, form, value_form, Sees, SeesValue, called_as, IsTyped, leaf_typed, texts_seen, selected_seen}
use Rattle.expression_types.proofs.Calls.{any_comes, entries, ArgumentsTyped, more_seen, last_seen, function_seen, call_seen}

abbrev NoOperands : List Terminal → Type 0
NoOperands ts = EachOf (λ x. is_one_of (t.Name ∷ t.Number ∷ t.Character ∷ []) x ≡ false) ts

-- the parts of a node with these operands and other tokens
abbrev parts_of : List Read → List PlainToken → Parts
parts_of operands signs = record { operands = operands; signs = signs; words = void; arguments = [] }

module _ (by : ℕ → ℕ) (scope : Scope) (known : Known) (is : IsKnown by scope known) (laws : OperatorsKeepTypes by scope) where
  abbrev E : PlainTree → Read
  E tree = read_expression known tree

  abbrev Is : PlainTree → Type 0
  Is tree = IsTyped by scope known tree

  loaded_seen : (x : Operand) → NullIsNumber x → SeesValue by scope (loaded scope x) (loaded_type semicolon (form by scope x))
  loaded_seen x null = sees_from (value_form by scope) NullValueIsNumber (loaded scope x) (loaded_type semicolon (form by scope x)) (laws.loads semicolon x) (loads_number scope x null)

  -- the value of an expression, and what it leads to
  value_then : {B S : Type 0} (other : B → S) (R : B → Type 0) (tree : PlainTree) (f : Typed → Checked B) (g : OperandType → seen.Checked S (Unit {0})) → Is tree
      → ((a : Typed) → NullValueIsNumber a → SeesAs other R (f a) (g (value_form by scope a)))
      → SeesAs other R (judged scope tree >>= (λ left. loaded scope left >>= f)) (bind (bind (E tree).outcome (loaded_type semicolon)) g)
  value_then other R tree f g typed next =
      subst (SeesAs other R (judged scope tree >>= (λ left. loaded scope left >>= f))) (bind_assoc (E tree).outcome (loaded_type semicolon) g)
      (sees_then (form by scope) NullIsNumber other R (judged scope tree) (E tree).outcome (λ left. loaded scope left >>= f) (λ o. bind (loaded_type semicolon o) g) typed.outcome
      (λ x null. sees_then (value_form by scope) NullValueIsNumber other R (loaded scope x) (loaded_type semicolon (form by scope x)) f g (loaded_seen x null) next))

  two_values : (first second : PlainTree) (f : Typed → Typed → Checked Operand) (g : OperandType → OperandType → reading.Outcome) → Is first → Is second
      → ((a b : Typed) → NullValueIsNumber a → NullValueIsNumber b → Sees by scope (f a b) (g (value_form by scope a) (value_form by scope b)))
      → Sees by scope (judged scope first >>= (λ left. loaded scope left >>= (λ a. judged scope second >>= (λ right. loaded scope right >>= (λ b. f a b)))))
      (bind (bind (E first).outcome (loaded_type semicolon)) (λ a. bind (bind (E second).outcome (loaded_type semicolon)) (g a)))
  two_values first second f g one two next =
      value_then (form by scope) NullIsNumber first (λ a. judged scope second >>= (λ right. loaded scope right >>= (λ b. f a b))) (λ a. bind (bind (E second).outcome (loaded_type semicolon)) (g a)) one
      (λ a null. value_then (form by scope) NullIsNumber second (f a) (g (value_form by scope a)) two (λ b other. next a b null other))

  operand_then : (tree : PlainTree) (f : Operand → Checked Operand) (g : OperandType → reading.Outcome) → Is tree
      → ((x : Operand) → NullIsNumber x → Sees by scope (f x) (g (form by scope x))) → Sees by scope (judged scope tree >>= f) (bind (E tree).outcome g)
  operand_then tree f g typed next = sees_then (form by scope) NullIsNumber (form by scope) NullIsNumber (judged scope tree) (E tree).outcome f g typed.outcome next

  operator_seen : (m : Checked Operand) (c : reading.Outcome) → outcome_as (form by scope) m ≡ c → Comes NullIsNumber m → Sees by scope m c
  operator_seen m c h q = sees_from (form by scope) NullIsNumber m c h q

  -- ---- how parts follow one another

  part_read : {level : ℕ} {tree : PlainTree} → Derivation (expression level) tree → (kind : Kind) (rest : PlainTrees) (p : Parts) → is_selected kind p.signs ≡ false
      → read_parts known kind (more tree rest) p ≡ read_parts known kind rest (with_operand (E tree) p)
  part_read d kind rest p free = operand_read known d kind rest p free

  token_read : (ts : List Terminal) (kind : Kind) (token : PlainToken) (rest : PlainTrees) (p : Parts) → NoOperands ts → IsWord ts token
      → read_parts known kind (more (leaf token) rest) p ≡ read_parts known kind rest (with_sign token p)
  token_read ts kind token rest p never w = sign_read known kind token rest p (no_operand ts token never w)

  typed_by : (kind : Kind) (parts : PlainTrees) (p : Parts) → read_parts known kind parts nothing_read ≡ p
      → Sees by scope (judged scope (node kind parts)) (reading.expression_of known kind parts p).outcome
      → (reading.expression_of known kind parts p).callee ≡ option_map (called_as by scope) (callee scope (node kind parts)) → Is (node kind parts)
  typed_by kind parts p h outcome callee_is = record {
    outcome = subst (λ q. Sees by scope (judged scope (node kind parts)) (reading.expression_of known kind parts q).outcome) (sym h) outcome;
    callee = ap (λ q. (reading.expression_of known kind parts q).callee) h ∙ callee_is;
  }

  -- ---- operators

  abbrev Unselecting : Kind → Type 0
  Unselecting kind = (signs : List PlainToken) → is_selected kind signs ≡ false

  between_read : {m n : ℕ} {first second : PlainTree} (ts : List Terminal) (kind : Kind) (token : PlainToken) → Unselecting kind → NoOperands ts → IsWord ts token
      → Derivation (expression m) first → Derivation (expression n) second
      → read_parts known kind (more first (more (leaf token) (more second none))) nothing_read ≡ parts_of (E first ∷ E second ∷ []) (token ∷ [])
  between_read {first = first} {second = second} ts kind token free never w d e =
      part_read d kind (more (leaf token) (more second none)) nothing_read (free [])
      ∙ token_read ts kind token (more second none) (with_operand (E first) nothing_read) never w
      ∙ part_read e kind none (with_sign token (with_operand (E first) nothing_read)) (free (token ∷ []))

  before_read : {n : ℕ} {inner : PlainTree} (ts : List Terminal) (kind : Kind) (token : PlainToken) → Unselecting kind → NoOperands ts → IsWord ts token → Derivation (expression n) inner
      → read_parts known kind (more (leaf token) (more inner none)) nothing_read ≡ parts_of (E inner ∷ []) (token ∷ [])
  before_read {inner = inner} ts kind token free never w d =
      token_read ts kind token (more inner none) nothing_read never w ∙ part_read d kind none (with_sign token nothing_read) (free (token ∷ []))

  combined_seen : (kind : Kind) (first second : PlainTree) (sign : PlainToken) → Is first → Is second
      → Sees by scope (judged scope first >>= (λ left. loaded scope left >>= (λ a. judged scope second >>= (λ right. loaded scope right >>= (λ b. spec.combined_by scope kind sign a b)))))
      (bind (bind (E first).outcome (loaded_type semicolon)) (λ a. bind (bind (E second).outcome (loaded_type semicolon)) (types.combined_type kind sign a)))
  combined_seen kind first second sign one two =
      two_values first second (λ a b. spec.combined_by scope kind sign a b) (types.combined_type kind sign) one two
      (λ a b null other. operator_seen (spec.combined_by scope kind sign a b) (types.combined_type kind sign (value_form by scope a) (value_form by scope b))
      (laws.combines kind sign a b) (number.combined_number scope kind sign a b))

  -- a judgement that stands before the value of an expression, as if it stood behind
  place_first : {A : Type 0} (w : Checked A) (tree : PlainTree) (K : A → Typed → Checked Operand) (g : OperandType → reading.Outcome) → Is tree
      → ((y : Typed) → NullValueIsNumber y → Sees by scope (w >>= (λ place. K place y)) (g (value_form by scope y)))
      → Sees by scope (w >>= (λ place. judged scope tree >>= (λ operand. loaded scope operand >>= (λ right. K place right)))) (bind (bind (E tree).outcome (loaded_type semicolon)) g)
  place_first (fine place b) tree K g typed next =
      sees_with (form by scope) NullIsNumber b (judged scope tree >>= (λ operand. loaded scope operand >>= (λ right. K place right))) (bind (bind (E tree).outcome (loaded_type semicolon)) g)
      (value_then (form by scope) NullIsNumber tree (K place) g typed
      (λ y null. sees_without (form by scope) NullIsNumber b (K place y) (g (value_form by scope y)) (next y null)))
  place_first (refused kind token) tree K g typed next =
      never_fine (form by scope) NullIsNumber (judged scope tree >>= (λ operand. loaded scope operand >>= (λ right. refused kind token)))
      (refused kind token) (bind (bind (E tree).outcome (loaded_type semicolon)) g)
      (comes_then (λ x. ⊥) (judged scope tree) (λ operand. loaded scope operand >>= (λ right. refused kind token))
      (λ operand. comes_then (λ x. ⊥) (loaded scope operand) (λ right. refused kind token) (λ right. tt))) tt
      (value_then (form by scope) NullIsNumber tree (λ right. refused kind token) g typed next)
  place_first broken tree K g typed next =
      never_fine (form by scope) NullIsNumber (judged scope tree >>= (λ operand. loaded scope operand >>= (λ right. broken)))
      broken (bind (bind (E tree).outcome (loaded_type semicolon)) g)
      (comes_then (λ x. ⊥) (judged scope tree) (λ operand. loaded scope operand >>= (λ right. broken))
      (λ operand. comes_then (λ x. ⊥) (loaded scope operand) (λ right. broken) (λ right. tt))) tt
      (value_then (form by scope) NullIsNumber tree (λ right. broken) g typed next)

  assigned_seen : (first second : PlainTree) (sign : PlainToken) → Is first → Is second
      → Sees by scope (judged scope (node k.Assignment (more first (more (leaf sign) (more second none)))))
      (bind (E first).outcome (λ left. bind (bind (E second).outcome (loaded_type semicolon)) (types.assigned_type sign left)))
  assigned_seen first second sign one two =
      operand_then first (λ left. spec.written_place scope sign left >>= (λ place. judged scope second >>= (λ operand. loaded scope operand >>= (λ right. spec.assignment scope sign left place right))))
      (λ left. bind (bind (E second).outcome (loaded_type semicolon)) (types.assigned_type sign left)) one
      (λ x null. place_first (spec.written_place scope sign x) second (λ place right. spec.assignment scope sign x place right) (types.assigned_type sign (form by scope x)) two
      (λ y other. operator_seen (spec.written_place scope sign x >>= (λ place. spec.assignment scope sign x place y)) (types.assigned_type sign (form by scope x) (value_form by scope y))
      (laws.assigns sign x y) (number.assigned_number scope sign x y)))

  tested_seen : (tree : PlainTree) (at : PlainToken) → Is tree
      → SeesAs (nothing {A = PlainExpression}) (Anything {A = PlainExpression}) (judged scope tree >>= spec.condition_value scope at)
      (bind (E tree).outcome (types.tested_type semicolon))
  tested_seen tree at typed =
      sees_then (form by scope) NullIsNumber (nothing {A = PlainExpression}) (Anything {A = PlainExpression}) (judged scope tree) (E tree).outcome
      (spec.condition_value scope at) (types.tested_type semicolon) typed.outcome
      (λ x null. sees_from (nothing {A = PlainExpression}) (Anything {A = PlainExpression}) (spec.condition_value scope at x)
      (types.tested_type semicolon (form by scope x)) (laws.tests at semicolon x) (any_comes (spec.condition_value scope at x)))

  conditional_seen : (first second third : PlainTree) (question colon : PlainToken) → Is first → Is second → Is third
      → Sees by scope (judged scope (node k.Conditional (more first (more (leaf question) (more second (more (leaf colon) (more third none)))))))
      (bind (bind (E first).outcome (types.tested_type semicolon)) (λ test. bind (bind (E second).outcome (loaded_type semicolon)) (λ a.
      bind (bind (E third).outcome (loaded_type semicolon)) (types.chosen_type question a))))
  conditional_seen first second third question colon one two three =
      sees_then (nothing {A = PlainExpression}) (Anything {A = PlainExpression}) (form by scope) NullIsNumber
      (judged scope first >>= spec.condition_value scope (first_token first question)) (bind (E first).outcome (types.tested_type semicolon))
      (λ condition. judged scope second >>= (λ left. loaded scope left >>= (λ a. judged scope third >>= (λ right. loaded scope right >>= (λ b. spec.chosen question condition a b)))))
      (λ test. bind (bind (E second).outcome (loaded_type semicolon)) (λ a. bind (bind (E third).outcome (loaded_type semicolon)) (types.chosen_type question a)))
      (tested_seen first (first_token first question) one)
      (λ condition h. two_values second third (spec.chosen question condition) (types.chosen_type question) two three
      (λ a b null other. operator_seen (spec.chosen question condition a b) (types.chosen_type question (value_form by scope a) (value_form by scope b))
      (laws.chooses question condition a b null) (number.chosen_number question condition a b)))

  -- ---- calls

  entries_read : {parts : PlainTrees} → Separated (expression 1) parts → (p : Parts) → (read_parts known k.Arguments parts p).operands ≡ p.operands ++ entries by scope known laws parts
  entries_read (last_one {tree = tree} d) p = ap (λ (q : Parts). q.operands) (part_read d k.Arguments none p refl)
  entries_read (next_one {tree = tree} {comma = comma} {rest = rest} d w s) p =
      ap (λ (q : Parts). q.operands) (part_read d k.Arguments (more (leaf comma) rest) p refl ∙ token_read (t.Comma ∷ []) k.Arguments comma rest (with_operand (E tree) p) (refl, tt) w)
      ∙ entries_read s (with_sign comma (with_operand (E tree) p))
      ∙ append_assoc p.operands (E tree ∷ []) (entries by scope known laws rest)

  entries_counted : {parts : PlainTrees} → Separated (expression 1) parts → length (entries by scope known laws parts) ≡ count_entries parts
  entries_counted (last_one {tree = tree} d) = refl
  entries_counted (next_one {tree = tree} {comma = comma} {rest = rest} d w s) = omega (arith, entries_counted s)

  call_with : (first : PlainTree) (bracket close : PlainToken) (parts : PlainTrees) → Is first → Separated (expression 1) parts → ArgumentsTyped by scope known laws parts
      → Sees by scope (judged scope (node k.Call (more first (more (leaf bracket) (more (node k.Arguments parts) (more (leaf close) none))))))
      (reading.called (E first).callee (entries by scope known laws parts))
  call_with first bracket close parts one s typed =
      subst (λ c. Sees by scope (judged scope (node k.Call (more first (more (leaf bracket) (more (node k.Arguments parts) (more (leaf close) none)))))) (reading.called c (entries by scope known laws parts))) (sym one.callee)
      (call_seen by scope known laws first bracket
      (λ f. uses (file_entity f.name.text) >>= (λ bound. spec.may_be_called scope f.signature (count_entries parts) bracket >>= (λ callable. judged_arguments scope f.signature.parameters parts bracket >>= (λ arguments. give (spec.result_of_call scope f bracket arguments)))))
      (entries by scope known laws parts)
      (λ f. function_seen by scope known laws f bracket (count_entries parts) (judged_arguments scope f.signature.parameters parts bracket) (entries by scope known laws parts) (entries_counted s)
      (λ e. typed f.signature.parameters bracket (entries_counted s ∙ e)))
      (callee scope first))

  call_without : (first : PlainTree) (bracket close : PlainToken) → Is first
      → Sees by scope (judged scope (node k.Call (more first (more (leaf bracket) (more (node k.Absent none) (more (leaf close) none)))))) (reading.called (E first).callee [])
  call_without first bracket close one =
      subst (λ c. Sees by scope (judged scope (node k.Call (more first (more (leaf bracket) (more (node k.Absent none) (more (leaf close) none)))))) (reading.called c [])) (sym one.callee)
      (call_seen by scope known laws first bracket
      (λ f. uses (file_entity f.name.text) >>= (λ bound. spec.may_be_called scope f.signature 0 bracket >>= (λ callable. give (spec.result_of_call scope f bracket no_argument)))) []
      (λ f. function_seen by scope known laws f bracket 0 (give no_argument) [] refl (λ e. none_passed f.signature.parameters e))
      (callee scope first))
    where
      none_passed : (types : List PlainType) → 0 ≡ length types → SeesAs (nothing {A = PlainArguments}) (Anything {A = PlainArguments}) (give no_argument) (reading.all_fit (map (renumbered by) types) [])
      none_passed [] e = (refl, tt)
      none_passed (ty ∷ types) e = absurd (omega (arith, e))

  -- ---- casts

  words_none : (a b c d : Bool) → struct_in (spec.words_type a b c d) ≡ None
  words_none true b c d = refl
  words_none false true true d = refl
  words_none false false true d = refl
  words_none false true false true = refl
  words_none false false false true = refl
  words_none false true false false = refl
  words_none false false false false = refl

  cast_seen : (open_ close : PlainToken) (words : PlainTrees) (inner : PlainTree) → Is inner
      → Sees by scope (judged scope (node k.Cast (more (leaf open_) (more (node k.Specifiers words) (more (leaf close) (more inner none))))))
      (bind (bind (E inner).outcome (loaded_type semicolon)) (types.cast_type open_ (spec.arithmetic_words words)))
  cast_seen open_ close words inner one =
      value_then (form by scope) NullIsNumber inner (λ x. spec.cast_to open_ x (spec.arithmetic_words words)) (types.cast_type open_ (spec.arithmetic_words words)) one
      (λ x null. operator_seen (spec.cast_to open_ x (spec.arithmetic_words words)) (types.cast_type open_ (spec.arithmetic_words words) (value_form by scope x))
      (laws.casts open_ (spec.arithmetic_words words) x (words_none (spec.has_terminal t.Void words) (spec.has_terminal t.Unsigned words) (spec.has_terminal t.Char words) (spec.has_terminal t.Long words)))
      (number.cast_number open_ x (spec.arithmetic_words words)))

  -- ---- all expressions

  mutual
    pub expression_typed : {n : ℕ} {tree : PlainTree} → Derivation (expression n) tree → Is tree
    expression_typed (single {token = token} s) = leaf_typed by scope known is token
    expression_typed (made_of k.Texts {parts = parts} b a (some_texts texts some)) = record { outcome = texts_seen by scope known (spec.text_bytes parts) (spec.first_text parts); callee = refl }
    expression_typed (made_of k.Parenthesized b a (a_row (a_word {token = open_} w (a_part {tree = inner} d (a_word {token = close} v at_end))))) =
        typed_by k.Parenthesized (more (leaf open_) (more inner (more (leaf close) none))) (parts_of (E inner ∷ []) (open_ ∷ close ∷ []))
        (token_read (t.OpenParenthesis ∷ []) k.Parenthesized open_ (more inner (more (leaf close) none)) nothing_read (refl, tt) w
        ∙ part_read d k.Parenthesized (more (leaf close) none) (with_sign open_ nothing_read) refl
        ∙ token_read (t.CloseParenthesis ∷ []) k.Parenthesized close none (with_operand (E inner) (with_sign open_ nothing_read)) (refl, tt) v)
        (expression_typed d).outcome (expression_typed d).callee
    expression_typed (made_of k.PostfixStep b a (a_row (a_part {tree = inner} d (a_word {token = sign} w at_end)))) =
        typed_by k.PostfixStep (more inner (more (leaf sign) none)) (parts_of (E inner ∷ []) (sign ∷ []))
        (part_read d k.PostfixStep (more (leaf sign) none) nothing_read refl ∙ token_read (t.Step ∷ []) k.PostfixStep sign none (with_operand (E inner) nothing_read) (refl, tt) w)
        (operand_then inner (spec.stepped scope update_after sign) (types.stepped_type sign) (expression_typed d)
        (λ x null. operator_seen (spec.stepped scope update_after sign x) (types.stepped_type sign (form by scope x)) (laws.steps sign update_after x) (number.stepped_number scope update_after sign x)))
        refl
    expression_typed (made_of k.PrefixStep b a (a_row (a_word {token = sign} w (a_part {tree = inner} d at_end)))) =
        typed_by k.PrefixStep (more (leaf sign) (more inner none)) (parts_of (E inner ∷ []) (sign ∷ [])) (before_read (t.Step ∷ []) k.PrefixStep sign (λ signs. refl) (refl, tt) w d)
        (operand_then inner (spec.stepped scope update sign) (types.stepped_type sign) (expression_typed d)
        (λ x null. operator_seen (spec.stepped scope update sign x) (types.stepped_type sign (form by scope x)) (laws.steps sign update x) (number.stepped_number scope update sign x)))
        refl
    expression_typed (made_of k.Prefix b a (a_row (a_word {token = sign} w (a_part {tree = inner} d at_end)))) =
        typed_by k.Prefix (more (leaf sign) (more inner none)) (parts_of (E inner ∷ []) (sign ∷ []))
        (before_read (t.Ampersand ∷ t.Star ∷ t.Sign ∷ t.Negation ∷ []) k.Prefix sign (λ signs. refl) (refl, (refl, (refl, (refl, tt)))) w d)
        (operand_then inner (spec.prefixed scope sign) (types.prefixed_type sign) (expression_typed d)
        (λ x null. operator_seen (spec.prefixed scope sign x) (types.prefixed_type sign (form by scope x)) (laws.prefixes sign x) (number.prefixed_number scope sign x)))
        refl
    expression_typed (made_of k.Cast b a (a_row (a_word {token = open_} w (a_part {tree = tree} e (a_word {token = close} v (a_part {tree = inner} d at_end)))))) =
        cast_typed e open_ close inner w v d (expression_typed d)
    expression_typed (made_of k.Selection b a (a_row (a_part {tree = whole} d (a_word {token = sign} w (a_word {token = name} v at_end))))) =
        typed_by k.Selection (more whole (more (leaf sign) (more (leaf name) none))) (parts_of (E whole ∷ []) (sign ∷ name ∷ []))
        (part_read d k.Selection (more (leaf sign) (more (leaf name) none)) nothing_read refl
        ∙ token_read (t.Select ∷ []) k.Selection sign (more (leaf name) none) (with_operand (E whole) nothing_read) (refl, tt) w
        ∙ member_read known name none (with_sign sign (with_operand (E whole) nothing_read)) refl)
        (operand_then whole (spec.selected scope sign name) (reading.selected known sign name.text) (expression_typed d) (selected_seen by scope known is sign name laws))
        refl
    expression_typed (made_of k.Index b a (a_row (a_part {tree = first} d (a_word {token = bracket} w (a_part {tree = second} e (a_word {token = close} v at_end)))))) =
        typed_by k.Index (more first (more (leaf bracket) (more second (more (leaf close) none)))) (parts_of (E first ∷ E second ∷ []) (bracket ∷ close ∷ []))
        (part_read d k.Index (more (leaf bracket) (more second (more (leaf close) none))) nothing_read refl
        ∙ token_read (t.OpenBracket ∷ []) k.Index bracket (more second (more (leaf close) none)) (with_operand (E first) nothing_read) (refl, tt) w
        ∙ part_read e k.Index (more (leaf close) none) (with_sign bracket (with_operand (E first) nothing_read)) refl
        ∙ token_read (t.CloseBracket ∷ []) k.Index close none (with_operand (E second) (with_sign bracket (with_operand (E first) nothing_read))) (refl, tt) v)
        (two_values first second (spec.indexed scope bracket) (types.indexed_type bracket) (expression_typed d) (expression_typed e)
        (λ x y null other. operator_seen (spec.indexed scope bracket x y) (types.indexed_type bracket (value_form by scope x) (value_form by scope y)) (laws.indexes bracket x y) (number.indexed_number scope bracket x y)))
        refl
    expression_typed (made_of k.Call b a (a_row (a_part {tree = first} d (a_word {token = bracket} w (given {tree = list} e (a_word {token = close} v at_end)))))) =
        list_typed e first bracket close d w v (expression_typed d)
    expression_typed (made_of k.Call b a (a_row (a_part {tree = first} d (a_word {token = bracket} w (left_out (a_word {token = close} v at_end)))))) =
        typed_by k.Call (more first (more (leaf bracket) (more (node k.Absent none) (more (leaf close) none)))) (parts_of (E first ∷ []) (bracket ∷ close ∷ []))
        (part_read d k.Call (more (leaf bracket) (more (node k.Absent none) (more (leaf close) none))) nothing_read refl
        ∙ token_read (t.OpenParenthesis ∷ []) k.Call bracket (more (node k.Absent none) (more (leaf close) none)) (with_operand (E first) nothing_read) (refl, tt) w
        ∙ token_read (t.CloseParenthesis ∷ []) k.Call close none (with_sign bracket (with_operand (E first) nothing_read)) (refl, tt) v)
        (call_without first bracket close (expression_typed d)) refl
    expression_typed (made_of k.Assignment b a (a_row (a_part {tree = first} d (a_word {token = sign} w (a_part {tree = second} e at_end))))) =
        typed_by k.Assignment (more first (more (leaf sign) (more second none))) (parts_of (E first ∷ E second ∷ []) (sign ∷ []))
        (between_read (t.Assign ∷ t.CompoundAssign ∷ []) k.Assignment sign (λ signs. refl) (refl, (refl, tt)) w d e) (assigned_seen first second sign (expression_typed d) (expression_typed e)) refl
    expression_typed (made_of k.Conditional b a (a_row (a_part {tree = first} d (a_word {token = question} w (a_part {tree = second} e (a_word {token = colon} v (a_part {tree = third} f at_end))))))) =
        typed_by k.Conditional (more first (more (leaf question) (more second (more (leaf colon) (more third none))))) (parts_of (E first ∷ E second ∷ E third ∷ []) (question ∷ colon ∷ []))
        (part_read d k.Conditional (more (leaf question) (more second (more (leaf colon) (more third none)))) nothing_read refl
        ∙ token_read (t.Question ∷ []) k.Conditional question (more second (more (leaf colon) (more third none))) (with_operand (E first) nothing_read) (refl, tt) w
        ∙ part_read e k.Conditional (more (leaf colon) (more third none)) (with_sign question (with_operand (E first) nothing_read)) refl
        ∙ token_read (t.Colon ∷ []) k.Conditional colon (more third none) (with_operand (E second) (with_sign question (with_operand (E first) nothing_read))) (refl, tt) v
        ∙ part_read f k.Conditional none (with_sign colon (with_operand (E second) (with_sign question (with_operand (E first) nothing_read)))) refl)
        (conditional_seen first second third question colon (expression_typed d) (expression_typed e) (expression_typed f)) refl
    expression_typed (made_of k.LogicalOr b a (a_row (a_part {tree = first} d (a_word {token = sign} w (a_part {tree = second} e at_end))))) =
        typed_by k.LogicalOr (more first (more (leaf sign) (more second none))) (parts_of (E first ∷ E second ∷ []) (sign ∷ []))
        (between_read (t.OrOr ∷ []) k.LogicalOr sign (λ signs. refl) (refl, tt) w d e) (combined_seen k.LogicalOr first second sign (expression_typed d) (expression_typed e)) refl
    expression_typed (made_of k.LogicalAnd b a (a_row (a_part {tree = first} d (a_word {token = sign} w (a_part {tree = second} e at_end))))) =
        typed_by k.LogicalAnd (more first (more (leaf sign) (more second none))) (parts_of (E first ∷ E second ∷ []) (sign ∷ []))
        (between_read (t.AndAnd ∷ []) k.LogicalAnd sign (λ signs. refl) (refl, tt) w d e) (combined_seen k.LogicalAnd first second sign (expression_typed d) (expression_typed e)) refl
    expression_typed (made_of k.Or b a (a_row (a_part {tree = first} d (a_word {token = sign} w (a_part {tree = second} e at_end))))) =
        typed_by k.Or (more first (more (leaf sign) (more second none))) (parts_of (E first ∷ E second ∷ []) (sign ∷ []))
        (between_read (t.Bar ∷ []) k.Or sign (λ signs. refl) (refl, tt) w d e) (combined_seen k.Or first second sign (expression_typed d) (expression_typed e)) refl
    expression_typed (made_of k.Xor b a (a_row (a_part {tree = first} d (a_word {token = sign} w (a_part {tree = second} e at_end))))) =
        typed_by k.Xor (more first (more (leaf sign) (more second none))) (parts_of (E first ∷ E second ∷ []) (sign ∷ []))
        (between_read (t.Caret ∷ []) k.Xor sign (λ signs. refl) (refl, tt) w d e) (combined_seen k.Xor first second sign (expression_typed d) (expression_typed e)) refl
    expression_typed (made_of k.And b a (a_row (a_part {tree = first} d (a_word {token = sign} w (a_part {tree = second} e at_end))))) =
        typed_by k.And (more first (more (leaf sign) (more second none))) (parts_of (E first ∷ E second ∷ []) (sign ∷ []))
        (between_read (t.Ampersand ∷ []) k.And sign (λ signs. refl) (refl, tt) w d e) (combined_seen k.And first second sign (expression_typed d) (expression_typed e)) refl
    expression_typed (made_of k.Equality b a (a_row (a_part {tree = first} d (a_word {token = sign} w (a_part {tree = second} e at_end))))) =
        typed_by k.Equality (more first (more (leaf sign) (more second none))) (parts_of (E first ∷ E second ∷ []) (sign ∷ []))
        (between_read (t.Equality ∷ []) k.Equality sign (λ signs. refl) (refl, tt) w d e) (combined_seen k.Equality first second sign (expression_typed d) (expression_typed e)) refl
    expression_typed (made_of k.Relation b a (a_row (a_part {tree = first} d (a_word {token = sign} w (a_part {tree = second} e at_end))))) =
        typed_by k.Relation (more first (more (leaf sign) (more second none))) (parts_of (E first ∷ E second ∷ []) (sign ∷ []))
        (between_read (t.Relation ∷ []) k.Relation sign (λ signs. refl) (refl, tt) w d e) (combined_seen k.Relation first second sign (expression_typed d) (expression_typed e)) refl
    expression_typed (made_of k.Shift b a (a_row (a_part {tree = first} d (a_word {token = sign} w (a_part {tree = second} e at_end))))) =
        typed_by k.Shift (more first (more (leaf sign) (more second none))) (parts_of (E first ∷ E second ∷ []) (sign ∷ []))
        (between_read (t.Shift ∷ []) k.Shift sign (λ signs. refl) (refl, tt) w d e) (combined_seen k.Shift first second sign (expression_typed d) (expression_typed e)) refl
    expression_typed (made_of k.Sum b a (a_row (a_part {tree = first} d (a_word {token = sign} w (a_part {tree = second} e at_end))))) =
        typed_by k.Sum (more first (more (leaf sign) (more second none))) (parts_of (E first ∷ E second ∷ []) (sign ∷ []))
        (between_read (t.Sign ∷ []) k.Sum sign (λ signs. refl) (refl, tt) w d e) (combined_seen k.Sum first second sign (expression_typed d) (expression_typed e)) refl
    expression_typed (made_of k.Product b a (a_row (a_part {tree = first} d (a_word {token = sign} w (a_part {tree = second} e at_end))))) =
        typed_by k.Product (more first (more (leaf sign) (more second none))) (parts_of (E first ∷ E second ∷ []) (sign ∷ []))
        (between_read (t.Star ∷ t.Divide ∷ []) k.Product sign (λ signs. refl) (refl, (refl, tt)) w d e) (combined_seen k.Product first second sign (expression_typed d) (expression_typed e)) refl
    expression_typed (made_of _ b a s) = absurd cc

    cast_typed : {tree : PlainTree} {n : ℕ} → Derivation cast_type tree → (open_ close : PlainToken) (inner : PlainTree) → IsWord (t.OpenParenthesis ∷ []) open_ → IsWord (t.CloseParenthesis ∷ []) close
        → Derivation (expression n) inner → Is inner → Is (node k.Cast (more (leaf open_) (more tree (more (leaf close) (more inner none)))))
    cast_typed (single s) open_ close inner w v d one = absurd cc
    cast_typed (made_of k.Specifiers {parts = words} b a s) open_ close inner w v d one =
        typed_by k.Cast (more (leaf open_) (more (node k.Specifiers words) (more (leaf close) (more inner none))))
        (record { operands = E inner ∷ []; signs = open_ ∷ close ∷ []; words = spec.arithmetic_words words; arguments = [] })
        (token_read (t.OpenParenthesis ∷ []) k.Cast open_ (more (node k.Specifiers words) (more (leaf close) (more inner none))) nothing_read (refl, tt) w
        ∙ token_read (t.CloseParenthesis ∷ []) k.Cast close (more inner none) (record { operands = []; signs = open_ ∷ []; words = spec.arithmetic_words words; arguments = [] }) (refl, tt) v
        ∙ part_read d k.Cast none (record { operands = []; signs = open_ ∷ close ∷ []; words = spec.arithmetic_words words; arguments = [] }) refl)
        (cast_seen open_ close words inner one) refl
    cast_typed (made_of _ b a s) open_ close inner w v d one = absurd cc

    list_typed : {tree : PlainTree} {n : ℕ} → Derivation arguments tree → (first : PlainTree) (bracket close : PlainToken) → Derivation (expression n) first → IsWord (t.OpenParenthesis ∷ []) bracket
        → IsWord (t.CloseParenthesis ∷ []) close → Is first → Is (node k.Call (more first (more (leaf bracket) (more tree (more (leaf close) none)))))
    list_typed (single s) first bracket close d w v one = absurd cc
    list_typed (made_of k.Arguments {parts = parts} b a (with_commas s)) first bracket close d w v one =
        typed_by k.Call (more first (more (leaf bracket) (more (node k.Arguments parts) (more (leaf close) none))))
        (record { operands = E first ∷ []; signs = bracket ∷ close ∷ []; words = void; arguments = entries by scope known laws parts })
        (part_read d k.Call (more (leaf bracket) (more (node k.Arguments parts) (more (leaf close) none))) nothing_read refl
        ∙ token_read (t.OpenParenthesis ∷ []) k.Call bracket (more (node k.Arguments parts) (more (leaf close) none)) (with_operand (E first) nothing_read) (refl, tt) w
        ∙ ap (λ l. read_parts known k.Call (more (leaf close) none) (record { operands = E first ∷ []; signs = bracket ∷ []; words = void; arguments = l })) (entries_read s nothing_read)
        ∙ token_read (t.CloseParenthesis ∷ []) k.Call close none (record { operands = E first ∷ []; signs = bracket ∷ []; words = void; arguments = entries by scope known laws parts }) (refl, tt) v)
        (call_with first bracket close parts one s (arguments_typed s)) refl
    list_typed (made_of _ b a s) first bracket close d w v one = absurd cc

    arguments_typed : {parts : PlainTrees} → Separated (expression 1) parts → ArgumentsTyped by scope known laws parts
    arguments_typed (last_one {tree = tree} d) [] bracket count = absurd (omega (arith, count))
    arguments_typed (last_one {tree = tree} d) (ty ∷ []) bracket count = last_seen by scope known laws tree ty (first_token tree bracket) (expression_typed d)
    arguments_typed (last_one {tree = tree} d) (ty ∷ other ∷ types) bracket count = absurd (omega (arith, count))
    arguments_typed (next_one {tree = tree} {comma = comma} {rest = rest} d w s) [] bracket count = absurd (omega (arith, count))
    arguments_typed (next_one {tree = tree} {comma = comma} {rest = rest} d w s) (ty ∷ types) bracket count =
        more_seen by scope known laws tree ty (first_token tree bracket) (judged_arguments scope types rest bracket) (reading.all_fit (map (renumbered by) types) (entries by scope known laws rest)) (expression_typed d)
        (arguments_typed s types bracket (omega (arith, count)))
