-- Each expression of the grammar is read as it is judged.
use Rattle.std.proofs.Common.{◌≡◌, ℕ, ◌+◌, true, false, List, [], ◌∷◌, refl, sym, subst, ◌∙◌, length, IsTrue, arith}
use Rattle.std.specs.Prelude.{Option, Some, None, is_some, if◌then◌else◌, ◌==◌}
use Rattle.std.proofs.lemmas.Bool.{false≢true, eqb-true}
use Rattle.std.proofs.lemmas.Option.{same_Some, none-some}
use Rattle.c_text.specs.Token.{PlainToken}
use Rattle.c_names.specs.Names.{is_identifier}
use Rattle.c_types.specs.Types.{PlainType, char, array_of}
use Rattle.c_tree.specs.declared.kinds.Kind.TheVariants as k
use Rattle.c_tree.specs.declared.terminals.Terminal.{Terminal}
use Rattle.c_tree.specs.declared.terminals.Terminal.TheVariants as t
use Rattle.c_tree.specs.Terminals.{terminal, same, is_one_of}
use Rattle.c_tree.specs.Trees.{PlainTree, PlainTrees, leaf, node, none, more}
use Rattle.c_tree.specs.Grammar.{expression, arguments, cast_type, cast_types, are_texts, any_part, are_words_of}
use Rattle.c_tree.proofs.TerminalCases.{one_of}
use Rattle.core_meaning.specs.Program.{PlainArguments, no_argument, argument, literal, update, update_after}
use Rattle.core_meaning.specs.Checking.{Entity, file_entity, Checked, refused, ◌>>=◌, give, or_broken, uses}
use Rattle.core_meaning.specs.Entities.{Local, Signature, Sort, variable, function, FileName, Scope, local_in, entity_number}
use Rattle.core_meaning.specs.Typing.{Operand, Typed, of_object, loaded}
use Rattle.core_meaning.specs.Expressions.{judged, judged_arguments, text_bytes, first_text, first_token, stepped, prefixed, cast_to, arithmetic_words, selected, indexed, Callee, callee, callee_of_name, callee_of_sort, count_entries, may_be_called, result_of_call, passed as passed_argument, condition_value, chosen, combined_by, combined, operator_named, written_place, assignment}
use Rattle.core_meaning.specs.declared.refusals.TypeKind.TheVariants.{BadOperand}
use Rattle.tree_derivations.specs.Derivations.{Derivation, single, made_of, a_row, some_words, some_texts, with_commas, at_end, a_word, a_part, left_out, given, Separated, last_one, next_one, IsWord}
use Rattle.bindings.specs.Visible.{ordinary, look_up, Reading, passed, used, member_used}
use Rattle.bindings.specs.Bindings.{is_name, read_expression, read_expressions}
use Rattle.bindings.specs.Judged.{Identified}
use Rattle.bindings.proofs.Follows.{Adds, adds_none, adds_both, quietly_before, Yields, yields, yields_both}
use Rattle.bindings.proofs.Types.{MadeSort, made_words}
use Rattle.bindings.proofs.Spellings.{Told, Holds, AllHold, no_name, steps, assignments, operators, step_named, assignment_named, operator_found}
use Rattle.bindings.proofs.Operators.{Anything, loads, yields_some, written_yields, stepped_yields, assignment_yields, prefixed_yields, cast_yields, indexed_yields, combined_yields, logical_and_yields, logical_or_yields, chosen_yields, called_yields, passed_yields, condition_yields}
use Rattle.bindings.proofs.Related.{Room, numbering, or_else_none}
use Rattle.bindings.proofs.Expressions.{expression_adds, expressions_add, read_leaf, skip, skip_texts, skip_words_of, member_used_adds, bytes_known, first_known, Rel, After, Goal, Operands, Values, then_quietly, then_on, quietly, file_used, use_of, single_read, selected_read, two}

pub leaf_only_adds : (token : PlainToken) (r : Reading) → Adds r.found (read_leaf token r).found
leaf_only_adds token r = expression_adds (leaf token) r

abbrev EachIn : List Terminal → Type 0
EachIn ts = Rattle.c_tree.proofs.TerminalCases.EachOf (λ x. is_one_of operators x ≡ true) ts

record WordsOf (lists : List (List Terminal)) (tree : PlainTree) : Type 0 where
  parts : PlainTrees
  is : tree ≡ node k.Specifiers parts
  are : IsTrue (are_words_of lists parts)

cast_words : {tree : PlainTree} → Derivation cast_type tree → WordsOf cast_types tree
cast_words (single is) = absurd cc
cast_words (made_of k.Specifiers {parts = parts} b a (some_words are)) = record { parts = parts; is = refl; are = are }
cast_words (made_of _ b a s) = absurd cc

module _ (at : ℕ → Entity) (taken : Room) (scope : Scope) where
  abbrev pub IsRead : PlainTree → Type 0
  IsRead tree = (r : Reading) (h : List Identified) → Rel at taken scope r h → Goal at taken scope (Operands at taken scope) h r.found (read_expression tree r) (judged scope tree)

  -- ---- called names

  abbrev CalleeRead : PlainTree → Type 0
  CalleeRead first =
      (f : Callee) → callee scope first ≡ Some f → (r : Reading) (h : List Identified) → Rel at taken scope r h
      → Goal at taken scope (λ x. MadeSort scope.tags (function f.signature)) h r.found (read_expression first r) (uses (file_entity f.name.text))

  called_by_name :
      (token : PlainToken) (signature : Signature) (r : Reading) (h : List Identified) → Rel at taken scope r h → local_in scope.blocks token.text ≡ None
      → (n : FileName) → scope.file_names token.text ≡ Some n → MadeSort scope.tags (function signature)
      → Goal at taken scope (λ x. MadeSort scope.tags (function signature)) h r.found (used token r) (uses (file_entity token.text))
  called_by_name token signature r h rel hidden n e made =
      let found = (rel.names token.text n e).found in
      let f = use_of at taken scope r h token (file_entity token.text) found.by refl (file_used token r found.by.number (rel.no_local token.text hidden) found.entry) (or_else_none (look_up ordinary token.text r.blocks) (look_up ordinary token.text r.file) (rel.no_local token.text hidden) ∙ found.entry) found.first rel in
      record { os = f.os; is = f.is; alike = f.alike; plain = f.plain; used = f.used; after = (made, f.after.1) }

  called_name :
      (token : PlainToken) (f : Callee) (r : Reading) (h : List Identified) → Rel at taken scope r h → (l : Option Local) → local_in scope.blocks token.text ≡ l
      → (n : Option FileName) → scope.file_names token.text ≡ n
      → (elim l as (λ x. Option Callee) [ Some found ↦ None | None ↦ callee_of_name token n ]) ≡ Some f
      → Goal at taken scope (λ x. MadeSort scope.tags (function f.signature)) h r.found (used token r) (uses (file_entity f.name.text))
  called_name token f r h rel (Some l) hidden n e is = absurd (none-some f is)
  called_name token f r h rel None hidden None e is = absurd (none-some f is)
  called_name token f r h rel None hidden (Some n) e is = by n.sort (rel.names token.text n e).made is
    where
      by :
          (sort : Sort) → MadeSort scope.tags sort → callee_of_sort token sort ≡ Some f
          → Goal at taken scope (λ x. MadeSort scope.tags (function f.signature)) h r.found (used token r) (uses (file_entity f.name.text))
      by (variable ty) made is = absurd (none-some f is)
      by (function signature) made is =
          subst (λ (g : Callee). Goal at taken scope (λ x. MadeSort scope.tags (function g.signature)) h r.found (used token r) (uses (file_entity g.name.text)))
          (same_Some (record { name = token; signature = signature }) f is) (called_by_name token signature r h rel hidden n e made)

  -- what is spelt like no name isn't called
  uncalled :
      (token : PlainToken) (f : Callee) (r : Reading) (h : List Identified) → Rel at taken scope r h → is_identifier token.text ≡ false → (l : Option Local)
      → (n : Option FileName) → scope.file_names token.text ≡ n
      → (elim l as (λ x. Option Callee) [ Some found ↦ None | None ↦ callee_of_name token n ]) ≡ Some f → ⊥
  uncalled token f r h rel spelt (Some l) n e is = none-some f is
  uncalled token f r h rel spelt None None e is = none-some f is
  uncalled token f r h rel spelt None (Some n) e is = false≢true (sym spelt ∙ (rel.names token.text n e).word)

  callee_leaf : (token : PlainToken) → Told token → IsTrue (is_one_of (t.Name ∷ t.Number ∷ t.Character ∷ []) (terminal token)) → CalleeRead (leaf token)
  callee_leaf token told is f e r h rel =
      one_of (λ k. terminal token ≡ k → Goal at taken scope (λ x. MadeSort scope.tags (function f.signature)) h r.found (if same t.Name k then used token r else passed r) (uses (file_entity f.name.text)))
      (t.Name ∷ t.Number ∷ t.Character ∷ []) (terminal token) is (
        (λ k. called_name token f r h rel (local_in scope.blocks token.text) refl (scope.file_names token.text) refl e),
        (
          (λ k. absurd (uncalled token f r h rel (told.no_identifier (subst (λ x. is_one_of (t.Number ∷ t.Character ∷ []) x ≡ true) (sym k) refl)) (local_in scope.blocks token.text) (scope.file_names token.text) refl e)),
          (
            (λ k. absurd (uncalled token f r h rel (told.no_identifier (subst (λ x. is_one_of (t.Number ∷ t.Character ∷ []) x ≡ true) (sym k) refl)) (local_in scope.blocks token.text) (scope.file_names token.text) refl e)),
            tt,
          ),
        ),
      )
      refl

  callee_read : {n : ℕ} {tree : PlainTree} → Derivation (expression n) tree → Holds tree → CalleeRead tree
  callee_read (single {token = token} is) holds = callee_leaf token holds is
  callee_read (made_of k.Parenthesized b a (a_row (a_word {token = open_} w (a_part {tree = inner} d (a_word {token = close} v at_end))))) holds = λ f e r h rel.
      skip open_ r (no_name (t.OpenParenthesis ∷ []) open_ refl w)
      (λ s. Goal at taken scope (λ x. MadeSort scope.tags (function f.signature)) h r.found (read_leaf close (read_expression inner s)) (uses (file_entity f.name.text)))
      (skip close (read_expression inner (passed r)) (no_name (t.CloseParenthesis ∷ []) close refl v)
      (λ s. Goal at taken scope (λ x. MadeSort scope.tags (function f.signature)) h r.found s (uses (file_entity f.name.text)))
      (callee_read d holds.1.0 f e (passed r) h rel))
  callee_read (made_of _ b a s) holds = λ f e. absurd (none-some f e)

  -- ---- operators

  unary :
      (sign : PlainToken) (inner : PlainTree) (next : Operand → Checked Operand) → is_name sign ≡ false → IsRead inner
      → ((x : Operand) → Operands at taken scope x → Yields (Operands at taken scope) (next x)) → (r : Reading) (h : List Identified) → Rel at taken scope r h
      → Goal at taken scope (Operands at taken scope) h r.found (read_expression inner (read_leaf sign r)) (judged scope inner >>= next)
  unary sign inner next e read q r h rel =
      skip sign r e (λ s. Goal at taken scope (Operands at taken scope) h r.found (read_expression inner s) (judged scope inner >>= next))
      (then_quietly at taken scope (Operands at taken scope) (Operands at taken scope) h r.found (read_expression inner (passed r)) (judged scope inner) next (read (passed r) h rel) q)

  postfix :
      (sign : PlainToken) (inner : PlainTree) (next : Operand → Checked Operand) → is_name sign ≡ false → IsRead inner
      → ((x : Operand) → Operands at taken scope x → Yields (Operands at taken scope) (next x)) → (r : Reading) (h : List Identified) → Rel at taken scope r h
      → Goal at taken scope (Operands at taken scope) h r.found (read_leaf sign (read_expression inner r)) (judged scope inner >>= next)
  postfix sign inner next e read q r h rel =
      skip sign (read_expression inner r) e (λ s. Goal at taken scope (Operands at taken scope) h r.found s (judged scope inner >>= next))
      (then_quietly at taken scope (Operands at taken scope) (Operands at taken scope) h r.found (read_expression inner r) (judged scope inner) next (read r h rel) q)

  binary :
      (first second : PlainTree) (sign : PlainToken) (next : Typed → Typed → Checked Operand) → is_name sign ≡ false → IsRead first → IsRead second
      → ((a b : Typed) → Values at taken scope a → Values at taken scope b → Yields (Operands at taken scope) (next a b)) → (r : Reading) (h : List Identified) → Rel at taken scope r h
      → Goal at taken scope (Operands at taken scope) h r.found (read_expression second (read_leaf sign (read_expression first r)))
      (judged scope first >>= (λ left. loaded scope left >>= (λ x. judged scope second >>= (λ right. loaded scope right >>= (λ y. next x y)))))
  binary first second sign next e f g q r h rel =
      let all : Checked Operand = judged scope first >>= (λ left. loaded scope left >>= (λ x. judged scope second >>= (λ right. loaded scope right >>= (λ y. next x y)))) in
      skip sign (read_expression first r) e (λ s. Goal at taken scope (Operands at taken scope) h r.found (read_expression second s) all)
      (two at taken scope (Operands at taken scope) h r.found (read_expression first r) (read_expression second (passed (read_expression first r))) (judged scope first) (judged scope second) next
      (f r h rel) (λ after rel2. g (passed (read_expression first r)) after rel2) (expression_adds second (passed (read_expression first r))) q)

  operator_words : (ts : List Terminal) (sign : PlainToken) → IsWord ts sign → EachIn ts → is_some (operator_named sign.text) ≡ true
  operator_words ts sign w each = operator_found sign (one_of (λ x. is_one_of operators x ≡ true) ts (terminal sign) w each)

  combines : (ts : List Terminal) (first second : PlainTree) (sign : PlainToken) → is_one_of ts t.Name ≡ false → EachIn ts → IsWord ts sign → IsRead first → IsRead second
      → (r : Reading) (h : List Identified) → Rel at taken scope r h
      → Goal at taken scope (Operands at taken scope) h r.found (read_expression second (read_leaf sign (read_expression first r)))
      (judged scope first >>= (λ left. loaded scope left >>= (λ x. judged scope second >>= (λ right. loaded scope right >>= (λ y. or_broken (operator_named sign.text) >>= combined scope sign x y)))))
  combines ts first second sign never each w f g =
      binary first second sign (λ x y. or_broken (operator_named sign.text) >>= combined scope sign x y) (no_name ts sign never w) f g
      (λ x y u v. combined_yields scope.tags scope sign x y (operator_words ts sign w each) u v)

  -- ---- calls

  abbrev called_so : PlainToken → Callee → Checked PlainArguments → ℕ → Checked Operand
  called_so bracket f given_arguments count =
      uses (file_entity f.name.text)
      >>= (λ bound. may_be_called scope f.signature count bracket >>= (λ callable. given_arguments >>= (λ arguments. give (result_of_call scope f bracket arguments))))

  -- with what is left to judge where a function is called, and where none is
  abbrev call_of : Option Callee → PlainTree → PlainToken → (Callee → Checked Operand) → Checked Operand
  call_of c first bracket called = elim c as (λ x. Checked Operand) [
    | Some f ↦ called f
    | None ↦ judged scope first >>= (λ operand. loaded scope operand >>= (λ x. refused BadOperand bracket))
  ]

  call_read :
      (first : PlainTree) (bracket : PlainToken) (r s : Reading) (h : List Identified) (called : Callee → Checked Operand) → Rel at taken scope r h → IsRead first
      → Adds (read_expression first r).found s.found
      → ((f : Callee) → callee scope first ≡ Some f → Goal at taken scope (Operands at taken scope) h r.found s (called f))
      → (c : Option Callee) → callee scope first ≡ c → Goal at taken scope (Operands at taken scope) h r.found s (call_of c first bracket called)
  call_read first bracket r s h called rel read adds g (Some f) e = g f e
  call_read first bracket r s h called rel read adds g None e =
      then_on at taken scope (Operands at taken scope) (Operands at taken scope) h r.found (read_expression first r) s (judged scope first) (λ operand. loaded scope operand >>= (λ x. refused BadOperand bracket))
      (read r h rel)
      (λ x after m rel2. quietly_before (numbering at) after (read_expression first r).found s.found (Values at taken scope) (After at taken scope (Operands at taken scope) s)
      (loaded scope x) (λ y. refused BadOperand bracket) (loads scope.tags scope x m) (λ y v. tt))
      adds

  -- a function is called with these arguments
  function_read :
      (first : PlainTree) (bracket : PlainToken) (r s u : Reading) (h : List Identified) (f : Callee) (count : ℕ) (passed_ones : Checked PlainArguments) → Rel at taken scope r h
      → CalleeRead first → callee scope first ≡ Some f → Adds (read_expression first r).found s.found
      → ((after : List Identified) → (count == length f.signature.parameters) ≡ true → Rel at taken scope (read_expression first r) after → Goal at taken scope Anything after (read_expression first r).found s passed_ones)
      → Goal at taken scope (Operands at taken scope) h r.found s (called_so bracket f passed_ones count)
  function_read first bracket r s u h f count passed_ones rel read e adds g =
      then_on at taken scope (λ x. MadeSort scope.tags (function f.signature)) (Operands at taken scope) h r.found (read_expression first r) s (uses (file_entity f.name.text))
      (λ bound. may_be_called scope f.signature count bracket >>= (λ callable. passed_ones >>= (λ given_. give (result_of_call scope f bracket given_))))
      (read f e r h rel)
      (λ x after made rel2. quietly_before (numbering at) after (read_expression first r).found s.found (λ y. (count == length f.signature.parameters) ≡ true) (After at taken scope (Operands at taken scope) s)
      (may_be_called scope f.signature count bracket) (λ callable. passed_ones >>= (λ given_. give (result_of_call scope f bracket given_)))
      (called_yields scope.tags scope f.signature count bracket)
      (λ y as_many. then_quietly at taken scope Anything (Operands at taken scope) after (read_expression first r).found s passed_ones (λ given_. give (result_of_call scope f bracket given_))
      (g after as_many rel2) (λ given_ any. yields (Operands at taken scope) (result_of_call scope f bracket given_) made.0)))
      adds

  abbrev ArgumentsRead : PlainTrees → Type 0
  ArgumentsRead parts =
      (types : List PlainType) (bracket : PlainToken) → count_entries parts ≡ length types → (r : Reading) (h : List Identified) → Rel at taken scope r h
      → Goal at taken scope Anything h r.found (read_expressions parts r) (judged_arguments scope types parts bracket)

  one_argument :
      (tree : PlainTree) (ty : PlainType) (bracket : PlainToken) → IsRead tree → (r : Reading) (h : List Identified) → Rel at taken scope r h
      → Goal at taken scope Anything h r.found (read_expression tree r)
      (judged scope tree >>= (λ operand. passed_argument scope ty operand (first_token tree bracket) >>= (λ core. give (argument core no_argument))))
  one_argument tree ty bracket read r h rel =
      then_quietly at taken scope (Operands at taken scope) Anything h r.found (read_expression tree r) (judged scope tree)
      (λ operand. passed_argument scope ty operand (first_token tree bracket) >>= (λ core. give (argument core no_argument)))
      (read r h rel)
      (λ operand m. yields_both Anything Anything (passed_argument scope ty operand (first_token tree bracket)) (λ core. give (argument core no_argument))
      (passed_yields scope.tags scope ty operand (first_token tree bracket) m) (λ core n. yields Anything (argument core no_argument) tt))

  more_arguments :
      (tree : PlainTree) (comma : PlainToken) (rest : PlainTrees) (ty : PlainType) (types : List PlainType) (bracket : PlainToken) → is_name comma ≡ false → IsRead tree
      → ArgumentsRead rest → count_entries rest ≡ length types → (r : Reading) (h : List Identified) → Rel at taken scope r h
      → Goal at taken scope Anything h r.found (read_expressions rest (read_leaf comma (read_expression tree r)))
      (judged scope tree >>= (λ operand. passed_argument scope ty operand (first_token tree bracket) >>= (λ core. judged_arguments scope types rest bracket >>= (λ others. give (argument core others)))))
  more_arguments tree comma rest ty types bracket e read others count r h rel =
      let all : Checked PlainArguments = judged scope tree >>= (λ operand. passed_argument scope ty operand (first_token tree bracket) >>= (λ core. judged_arguments scope types rest bracket >>= (λ others. give (argument core others)))) in
      skip comma (read_expression tree r) e (λ s. Goal at taken scope Anything h r.found (read_expressions rest s) all)
      (then_on at taken scope (Operands at taken scope) Anything h r.found (read_expression tree r) (read_expressions rest (passed (read_expression tree r))) (judged scope tree)
      (λ operand. passed_argument scope ty operand (first_token tree bracket) >>= (λ core. judged_arguments scope types rest bracket >>= (λ others. give (argument core others))))
      (read r h rel)
      (λ operand after m rel2. quietly_before (numbering at) after (read_expression tree r).found (read_expressions rest (passed (read_expression tree r))).found Anything
      (After at taken scope Anything (read_expressions rest (passed (read_expression tree r))))
      (passed_argument scope ty operand (first_token tree bracket)) (λ core. judged_arguments scope types rest bracket >>= (λ others. give (argument core others)))
      (passed_yields scope.tags scope ty operand (first_token tree bracket) m)
      (λ core n. then_quietly at taken scope Anything Anything after (read_expression tree r).found (read_expressions rest (passed (read_expression tree r))) (judged_arguments scope types rest bracket) (λ others. give (argument core others))
      (others types bracket count (passed (read_expression tree r)) after rel2) (λ given_ any. yields Anything (argument core given_) tt)))
      (expressions_add rest (passed (read_expression tree r))))

  abbrev IsCallRead : PlainTree → PlainToken → PlainTree → PlainToken → Type 0
  IsCallRead first bracket list close =
      (r : Reading) (h : List Identified) → Rel at taken scope r h
      → Goal at taken scope (Operands at taken scope) h r.found (read_leaf close (read_expression list (read_leaf bracket (read_expression first r))))
      (judged scope (node k.Call (more first (more (leaf bracket) (more list (more (leaf close) none))))))

  call_with :
      (first : PlainTree) (bracket close : PlainToken) (parts : PlainTrees) → is_name bracket ≡ false → is_name close ≡ false → IsRead first → CalleeRead first
      → ArgumentsRead parts → IsCallRead first bracket (node k.Arguments parts) close
  call_with first bracket close parts e c read called arguments_ r h rel =
      let all : Checked Operand = judged scope (node k.Call (more first (more (leaf bracket) (more (node k.Arguments parts) (more (leaf close) none))))) in
      let behind : Reading = passed (read_expression first r) in
      skip bracket (read_expression first r) e (λ s. Goal at taken scope (Operands at taken scope) h r.found (read_leaf close (read_expressions parts s)) all)
      (skip close (read_expressions parts behind) c (λ s. Goal at taken scope (Operands at taken scope) h r.found s all)
      (call_read first bracket r (read_expressions parts behind) h (λ f. called_so bracket f (judged_arguments scope f.signature.parameters parts bracket) (count_entries parts)) rel read
      (expressions_add parts behind)
      (λ f is. function_read first bracket r (read_expressions parts behind) r h f (count_entries parts) (judged_arguments scope f.signature.parameters parts bracket) rel called is
      (expressions_add parts behind)
      (λ after as_many rel2. arguments_ f.signature.parameters bracket (eqb-true (count_entries parts) (length f.signature.parameters) as_many) behind after rel2))
      (callee scope first) refl))

  call_without :
      (first : PlainTree) (bracket close : PlainToken) → is_name bracket ≡ false → is_name close ≡ false → IsRead first → CalleeRead first
      → IsCallRead first bracket (node k.Absent none) close
  call_without first bracket close e c read called r h rel =
      let all : Checked Operand = judged scope (node k.Call (more first (more (leaf bracket) (more (node k.Absent none) (more (leaf close) none))))) in
      let behind : Reading = passed (read_expression first r) in
      skip bracket (read_expression first r) e (λ s. Goal at taken scope (Operands at taken scope) h r.found (read_leaf close s) all)
      (skip close behind c (λ s. Goal at taken scope (Operands at taken scope) h r.found s all)
      (call_read first bracket r behind h
      (λ f. uses (file_entity f.name.text) >>= (λ bound. may_be_called scope f.signature 0 bracket >>= (λ callable. give (result_of_call scope f bracket no_argument)))) rel read
      (adds_none behind.found)
      (λ f is. then_quietly at taken scope (λ x. MadeSort scope.tags (function f.signature)) (Operands at taken scope) h r.found (read_expression first r) (uses (file_entity f.name.text))
      (λ bound. may_be_called scope f.signature 0 bracket >>= (λ callable. give (result_of_call scope f bracket no_argument)))
      (called f is r h rel)
      (λ x made. yields_both (λ y. (0 == length f.signature.parameters) ≡ true) (Operands at taken scope) (may_be_called scope f.signature 0 bracket) (λ callable. give (result_of_call scope f bracket no_argument))
      (called_yields scope.tags scope f.signature 0 bracket) (λ y m. yields (Operands at taken scope) (result_of_call scope f bracket no_argument) made.0)))
      (callee scope first) refl))

  -- ---- the other kinds

  assigned :
      (first second : PlainTree) (sign : PlainToken) → IsWord assignments sign → IsRead first → IsRead second → (r : Reading) (h : List Identified) → Rel at taken scope r h
      → Goal at taken scope (Operands at taken scope) h r.found (read_expression second (read_leaf sign (read_expression first r)))
      (judged scope first >>= (λ left. written_place scope sign left >>= (λ place. judged scope second >>= (λ operand. loaded scope operand >>= (λ right. assignment scope sign left place right)))))
  assigned first second sign w f g r h rel =
      let all : Checked Operand = judged scope first >>= (λ left. written_place scope sign left >>= (λ place. judged scope second >>= (λ operand. loaded scope operand >>= (λ right. assignment scope sign left place right)))) in
      let last : Reading = read_expression second (passed (read_expression first r)) in
      skip sign (read_expression first r) (no_name assignments sign refl w) (λ s. Goal at taken scope (Operands at taken scope) h r.found (read_expression second s) all)
      (then_on at taken scope (Operands at taken scope) (Operands at taken scope) h r.found (read_expression first r) last (judged scope first)
      (λ left. written_place scope sign left >>= (λ place. judged scope second >>= (λ operand. loaded scope operand >>= (λ right. assignment scope sign left place right))))
      (f r h rel)
      (λ left after m rel2. quietly_before (numbering at) after (read_expression first r).found last.found Anything (After at taken scope (Operands at taken scope) last)
      (written_place scope sign left) (λ place. judged scope second >>= (λ operand. loaded scope operand >>= (λ right. assignment scope sign left place right)))
      (written_yields scope.tags scope sign left)
      (λ place any. then_quietly at taken scope (Operands at taken scope) (Operands at taken scope) after (read_expression first r).found last (judged scope second) (λ operand. loaded scope operand >>= (λ right. assignment scope sign left place right))
      (g (passed (read_expression first r)) after rel2)
      (λ operand n. yields_both (Values at taken scope) (Operands at taken scope) (loaded scope operand) (λ right. assignment scope sign left place right) (loads scope.tags scope operand n)
      (λ right v. assignment_yields scope.tags scope sign left place right (assignment_named sign w) m))))
      (expression_adds second (passed (read_expression first r))))

  conditional :
      (first second third : PlainTree) (question colon : PlainToken) → is_name question ≡ false → is_name colon ≡ false → IsRead first → IsRead second → IsRead third
      → (r : Reading) (h : List Identified) → Rel at taken scope r h
      → Goal at taken scope (Operands at taken scope) h r.found (read_expression third (read_leaf colon (read_expression second (read_leaf question (read_expression first r)))))
      (judged scope first >>= condition_value scope (first_token first question) >>= (λ condition. judged scope second >>= (λ left. loaded scope left >>= (λ x. judged scope third >>= (λ right. loaded scope right >>= (λ y. chosen question condition x y))))))
  conditional first second third question colon q c f g i r h rel =
      let all : Checked Operand = judged scope first >>= condition_value scope (first_token first question) >>= (λ condition. judged scope second >>= (λ left. loaded scope left >>= (λ x. judged scope third >>= (λ right. loaded scope right >>= (λ y. chosen question condition x y))))) in
      let one_ : Reading = passed (read_expression first r) in
      let two_ : Reading = passed (read_expression second one_) in
      let three_ : Reading = read_expression third two_ in
      skip question (read_expression first r) q (λ s. Goal at taken scope (Operands at taken scope) h r.found (read_expression third (read_leaf colon (read_expression second s))) all)
      (skip colon (read_expression second one_) c (λ s. Goal at taken scope (Operands at taken scope) h r.found (read_expression third s) all)
      (then_on at taken scope Anything (Operands at taken scope) h r.found one_ three_ (judged scope first >>= condition_value scope (first_token first question))
      (λ condition. judged scope second >>= (λ left. loaded scope left >>= (λ x. judged scope third >>= (λ right. loaded scope right >>= (λ y. chosen question condition x y)))))
      (then_quietly at taken scope (Operands at taken scope) Anything h r.found one_ (judged scope first) (condition_value scope (first_token first question)) (f r h rel)
      (λ x m. condition_yields scope.tags scope (first_token first question) x m))
      (λ condition after any rel2. two at taken scope (Operands at taken scope) after one_.found two_ three_ (judged scope second) (judged scope third) (λ x y. chosen question condition x y)
      (g one_ after rel2) (λ later rel3. i two_ later rel3) (expression_adds third two_) (λ x y u v. chosen_yields scope.tags question condition x y u v))
      (adds_both (expression_adds second one_) (expression_adds third two_))))

  texts_read : (parts : PlainTrees) → IsTrue (are_texts parts) → IsTrue (any_part parts) → AllHold parts → IsRead (node k.Texts parts)
  texts_read parts texts some holds r h rel =
      skip_texts parts texts r (λ s. Goal at taken scope (Operands at taken scope) h r.found s (judged scope (node k.Texts parts))) (λ s g. g)
      (quietly at taken scope (Operands at taken scope) h r (judged scope (node k.Texts parts)) rel
      (yields_both (λ bytes. text_bytes parts ≡ Some bytes) (Operands at taken scope) (or_broken (text_bytes parts))
      (λ bytes. or_broken (first_text parts) >>= (λ first. give (of_object first (array_of char (length bytes + 1)) (literal (entity_number scope.numbers.literals bytes)) true)))
      (yields_some (text_bytes parts) (bytes_known parts texts holds))
      (λ bytes e. yields_both (λ first. first_text parts ≡ Some first) (Operands at taken scope) (or_broken (first_text parts))
      (λ first. give (of_object first (array_of char (length bytes + 1)) (literal (entity_number scope.numbers.literals bytes)) true))
      (yields_some (first_text parts) (first_known parts texts some))
      (λ first f. yields (Operands at taken scope) (of_object first (array_of char (length bytes + 1)) (literal (entity_number scope.numbers.literals bytes)) true) tt))))

  cast_read :
      (open_ close : PlainToken) (words : PlainTrees) (inner : PlainTree) → is_name open_ ≡ false → is_name close ≡ false
      → IsTrue (are_words_of cast_types words) → IsRead inner → (r : Reading) (h : List Identified) → Rel at taken scope r h
      → Goal at taken scope (Operands at taken scope) h r.found (read_expression inner (read_leaf close (read_expressions words (read_leaf open_ r))))
      (judged scope inner >>= (λ operand. loaded scope operand >>= (λ x. cast_to open_ x (arithmetic_words words))))
  cast_read open_ close words inner o c are read r h rel =
      let all : Checked Operand = judged scope inner >>= (λ operand. loaded scope operand >>= (λ x. cast_to open_ x (arithmetic_words words))) in
      let s : Reading = read_expressions words (passed r) in
      let same_ : Rel at taken scope s h × (s.found ≡ r.found) = skip_words_of cast_types words are refl (passed r) (λ u. Rel at taken scope u h × (u.found ≡ r.found)) (λ u g. g) (rel, refl) in
      skip open_ r o (λ u. Goal at taken scope (Operands at taken scope) h r.found (read_expression inner (read_leaf close (read_expressions words u))) all)
      (skip close s c (λ u. Goal at taken scope (Operands at taken scope) h r.found (read_expression inner u) all)
      (subst (λ f. Goal at taken scope (Operands at taken scope) h f (read_expression inner (passed s)) all) same_.1
      (then_quietly at taken scope (Operands at taken scope) (Operands at taken scope) h s.found (read_expression inner (passed s)) (judged scope inner) (λ operand. loaded scope operand >>= (λ x. cast_to open_ x (arithmetic_words words)))
      (read (passed s) h same_.0)
      (λ operand m. yields_both (Values at taken scope) (Operands at taken scope) (loaded scope operand) (λ x. cast_to open_ x (arithmetic_words words)) (loads scope.tags scope operand m)
      (λ x v. cast_yields scope.tags open_ x (arithmetic_words words) (made_words scope.tags words))))))

  selection_read :
      (whole : PlainTree) (sign name : PlainToken) → IsRead whole → (r : Reading) (h : List Identified) → Rel at taken scope r h
      → Goal at taken scope (Operands at taken scope) h r.found (member_used name (passed (read_expression whole r))) (judged scope whole >>= selected scope sign name)
  selection_read whole sign name read r h rel =
      then_on at taken scope (Operands at taken scope) (Operands at taken scope) h r.found (read_expression whole r) (member_used name (passed (read_expression whole r))) (judged scope whole) (selected scope sign name)
      (read r h rel)
      (λ operand after m rel2. selected_read at taken scope (passed (read_expression whole r)) after sign name operand m rel2)
      (member_used_adds at taken scope name (passed (read_expression whole r)))

  parenthesized_read :
      (open_ close : PlainToken) (inner : PlainTree) → is_name open_ ≡ false → is_name close ≡ false → IsRead inner → (r : Reading) (h : List Identified) → Rel at taken scope r h
      → Goal at taken scope (Operands at taken scope) h r.found (read_leaf close (read_expression inner (read_leaf open_ r))) (judged scope inner)
  parenthesized_read open_ close inner o c read r h rel =
      skip open_ r o (λ s. Goal at taken scope (Operands at taken scope) h r.found (read_leaf close (read_expression inner s)) (judged scope inner))
      (skip close (read_expression inner (passed r)) c (λ s. Goal at taken scope (Operands at taken scope) h r.found s (judged scope inner)) (read (passed r) h rel))

  index_read :
      (first second : PlainTree) (bracket close : PlainToken) → is_name bracket ≡ false → is_name close ≡ false → IsRead first → IsRead second → (r : Reading) (h : List Identified) → Rel at taken scope r h
      → Goal at taken scope (Operands at taken scope) h r.found (read_leaf close (read_expression second (read_leaf bracket (read_expression first r))))
      (judged scope first >>= (λ left. loaded scope left >>= (λ x. judged scope second >>= (λ right. loaded scope right >>= (λ y. indexed scope bracket x y)))))
  index_read first second bracket close e c f g r h rel =
      let all : Checked Operand = judged scope first >>= (λ left. loaded scope left >>= (λ x. judged scope second >>= (λ right. loaded scope right >>= (λ y. indexed scope bracket x y)))) in
      skip close (read_expression second (read_leaf bracket (read_expression first r))) c (λ s. Goal at taken scope (Operands at taken scope) h r.found s all)
      (binary first second bracket (λ x y. indexed scope bracket x y) e f g (λ x y u v. indexed_yields scope.tags scope bracket x y u v) r h rel)

  -- ---- all expressions

  mutual
    pub expression_read : {n : ℕ} {tree : PlainTree} → Derivation (expression n) tree → Holds tree → IsRead tree
    expression_read (single {token = token} is) holds = λ r h rel. single_read at taken scope r h token rel holds is
    expression_read (made_of k.Texts {parts = parts} b a (some_texts texts some)) holds = texts_read parts texts some holds
    expression_read (made_of k.Parenthesized b a (a_row (a_word {token = open_} w (a_part {tree = inner} d (a_word {token = close} v at_end))))) holds =
        parenthesized_read open_ close inner (no_name (t.OpenParenthesis ∷ []) open_ refl w) (no_name (t.CloseParenthesis ∷ []) close refl v) (expression_read d holds.1.0)
    expression_read (made_of k.PostfixStep b a (a_row (a_part {tree = inner} d (a_word {token = sign} w at_end)))) holds =
        postfix sign inner (stepped scope update_after sign) (no_name steps sign refl w) (expression_read d holds.0) (λ x m. stepped_yields scope.tags scope update_after sign x (step_named sign w) m)
    expression_read (made_of k.PrefixStep b a (a_row (a_word {token = sign} w (a_part {tree = inner} d at_end)))) holds =
        unary sign inner (stepped scope update sign) (no_name steps sign refl w) (expression_read d holds.1.0) (λ x m. stepped_yields scope.tags scope update sign x (step_named sign w) m)
    expression_read (made_of k.Prefix b a (a_row (a_word {token = sign} w (a_part {tree = inner} d at_end)))) holds =
        unary sign inner (prefixed scope sign) (no_name (t.Ampersand ∷ t.Star ∷ t.Sign ∷ t.Negation ∷ []) sign refl w) (expression_read d holds.1.0) (λ x m. prefixed_yields scope.tags scope sign x m)
    expression_read (made_of k.Cast b a (a_row (a_word {token = open_} w (a_part {tree = tree} e (a_word {token = close} v (a_part {tree = inner} d at_end)))))) holds =
        let words = cast_words e in
        subst (λ x. IsRead (node k.Cast (more (leaf open_) (more x (more (leaf close) (more inner none)))))) (sym words.is)
        (cast_read open_ close words.parts inner (no_name (t.OpenParenthesis ∷ []) open_ refl w) (no_name (t.CloseParenthesis ∷ []) close refl v) words.are (expression_read d holds.1.1.1.0))
    expression_read (made_of k.Selection b a (a_row (a_part {tree = whole} d (a_word {token = sign} w (a_word {token = name} v at_end))))) holds =
        selection_read whole sign name (expression_read d holds.0)
    expression_read (made_of k.Index b a (a_row (a_part {tree = first} d (a_word {token = bracket} w (a_part {tree = second} e (a_word {token = close} v at_end)))))) holds =
        index_read first second bracket close (no_name (t.OpenBracket ∷ []) bracket refl w) (no_name (t.CloseBracket ∷ []) close refl v) (expression_read d holds.0) (expression_read e holds.1.1.0)
    expression_read (made_of k.Call b a (a_row (a_part {tree = first} d (a_word {token = bracket} w (given {tree = list} e (a_word {token = close} v at_end)))))) holds =
        list_read e first bracket close holds.1.1.0 (no_name (t.OpenParenthesis ∷ []) bracket refl w) (no_name (t.CloseParenthesis ∷ []) close refl v) (expression_read d holds.0) (callee_read d holds.0)
    expression_read (made_of k.Call b a (a_row (a_part {tree = first} d (a_word {token = bracket} w (left_out (a_word {token = close} v at_end)))))) holds =
        call_without first bracket close (no_name (t.OpenParenthesis ∷ []) bracket refl w) (no_name (t.CloseParenthesis ∷ []) close refl v) (expression_read d holds.0) (callee_read d holds.0)
    expression_read (made_of k.Assignment b a (a_row (a_part {tree = first} d (a_word {token = sign} w (a_part {tree = second} e at_end))))) holds =
        assigned first second sign w (expression_read d holds.0) (expression_read e holds.1.1.0)
    expression_read (made_of k.Conditional b a (a_row (a_part {tree = first} d (a_word {token = question} w (a_part {tree = second} e (a_word {token = colon} v (a_part {tree = third} f at_end))))))) holds =
        conditional first second third question colon (no_name (t.Question ∷ []) question refl w) (no_name (t.Colon ∷ []) colon refl v) (expression_read d holds.0) (expression_read e holds.1.1.0) (expression_read f holds.1.1.1.1.0)
    expression_read (made_of k.LogicalOr b a (a_row (a_part {tree = first} d (a_word {token = sign} w (a_part {tree = second} e at_end))))) holds =
        binary first second sign (λ x y. combined_by scope k.LogicalOr sign x y) (no_name (t.OrOr ∷ []) sign refl w) (expression_read d holds.0) (expression_read e holds.1.1.0) (λ x y u v. logical_or_yields scope.tags scope sign x y)
    expression_read (made_of k.LogicalAnd b a (a_row (a_part {tree = first} d (a_word {token = sign} w (a_part {tree = second} e at_end))))) holds =
        binary first second sign (λ x y. combined_by scope k.LogicalAnd sign x y) (no_name (t.AndAnd ∷ []) sign refl w) (expression_read d holds.0) (expression_read e holds.1.1.0) (λ x y u v. logical_and_yields scope.tags scope sign x y)
    expression_read (made_of k.Or b a (a_row (a_part {tree = first} d (a_word {token = sign} w (a_part {tree = second} e at_end))))) holds =
        combines (t.Bar ∷ []) first second sign refl (refl, tt) w (expression_read d holds.0) (expression_read e holds.1.1.0)
    expression_read (made_of k.Xor b a (a_row (a_part {tree = first} d (a_word {token = sign} w (a_part {tree = second} e at_end))))) holds =
        combines (t.Caret ∷ []) first second sign refl (refl, tt) w (expression_read d holds.0) (expression_read e holds.1.1.0)
    expression_read (made_of k.And b a (a_row (a_part {tree = first} d (a_word {token = sign} w (a_part {tree = second} e at_end))))) holds =
        combines (t.Ampersand ∷ []) first second sign refl (refl, tt) w (expression_read d holds.0) (expression_read e holds.1.1.0)
    expression_read (made_of k.Equality b a (a_row (a_part {tree = first} d (a_word {token = sign} w (a_part {tree = second} e at_end))))) holds =
        combines (t.Equality ∷ []) first second sign refl (refl, tt) w (expression_read d holds.0) (expression_read e holds.1.1.0)
    expression_read (made_of k.Relation b a (a_row (a_part {tree = first} d (a_word {token = sign} w (a_part {tree = second} e at_end))))) holds =
        combines (t.Relation ∷ []) first second sign refl (refl, tt) w (expression_read d holds.0) (expression_read e holds.1.1.0)
    expression_read (made_of k.Shift b a (a_row (a_part {tree = first} d (a_word {token = sign} w (a_part {tree = second} e at_end))))) holds =
        combines (t.Shift ∷ []) first second sign refl (refl, tt) w (expression_read d holds.0) (expression_read e holds.1.1.0)
    expression_read (made_of k.Sum b a (a_row (a_part {tree = first} d (a_word {token = sign} w (a_part {tree = second} e at_end))))) holds =
        combines (t.Sign ∷ []) first second sign refl (refl, tt) w (expression_read d holds.0) (expression_read e holds.1.1.0)
    expression_read (made_of k.Product b a (a_row (a_part {tree = first} d (a_word {token = sign} w (a_part {tree = second} e at_end))))) holds =
        combines (t.Star ∷ t.Divide ∷ []) first second sign refl (refl, (refl, tt)) w (expression_read d holds.0) (expression_read e holds.1.1.0)
    expression_read (made_of _ b a s) holds = absurd cc

    list_read :
        {tree : PlainTree} → Derivation arguments tree → (first : PlainTree) (bracket close : PlainToken) → Holds tree → is_name bracket ≡ false → is_name close ≡ false → IsRead first
        → CalleeRead first → IsCallRead first bracket tree close
    list_read (single is) first bracket close holds e c read called = absurd cc
    list_read (made_of k.Arguments {parts = parts} b a (with_commas s)) first bracket close holds e c read called =
        call_with first bracket close parts e c read called (arguments_read s holds)
    list_read (made_of _ b a s) first bracket close holds e c read called = absurd cc

    arguments_read : {parts : PlainTrees} → Separated (expression 1) parts → AllHold parts → ArgumentsRead parts
    arguments_read (last_one {tree = tree} d) holds [] bracket count = absurd (omega (arith, count))
    arguments_read (last_one {tree = tree} d) holds (ty ∷ types) bracket count = one_argument tree ty bracket (expression_read d holds.0)
    arguments_read (next_one {tree = tree} {comma = comma} {rest = rest} d w s) holds [] bracket count = absurd (omega (arith, count))
    arguments_read (next_one {tree = tree} {comma = comma} {rest = rest} d w s) holds (ty ∷ types) bracket count =
        more_arguments tree comma rest ty types bracket (no_name (t.Comma ∷ []) comma refl w) (expression_read d holds.0) (arguments_read s holds.1.1) (omega (arith, count))
