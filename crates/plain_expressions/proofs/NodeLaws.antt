-- What the nodes of expressions are judged as.
use Rattle.std.proofs.Common.{◌≡◌, ◌≢◌, ℕ, ◌<◌, ◌==◌, Bool, true, false, List, [], ◌∷◌, length, get_or, refl, sym, ap, ◌∙◌, arith}
use Rattle.std.proofs.lemmas.Bool.Decides.{nat_tests}
use Rattle.std.specs.Prelude.{Option, Some, None}
use Rattle.c_text.specs.Token.{PlainToken}
use Rattle.c_types.specs.Types.{PlainType}
use Rattle.c_tree.specs.declared.kinds.Kind.{Kind}
use Rattle.c_tree.specs.declared.kinds.Kind.TheVariants as k
use Rattle.c_tree.specs.declared.trees.Tree.{Tree}
use Rattle.c_tree.specs.Trees.{PlainTree, PlainTrees, leaf, node, none, more, plain_tree, plain_trees}
use Rattle.core_meaning.specs.declared.refusals.TypeKind.TheVariants.{BadOperand}
use Rattle.core_meaning.specs.Program.{PlainArguments, no_argument}
use Rattle.core_meaning.specs.Checking.{Checked, file_entity, refused, ◌>>=◌, give, or_broken, uses}
use Rattle.core_meaning.specs.Entities.{Scope}
use Rattle.core_meaning.specs.Typing.{Operand, Typed, loaded}
use Rattle.core_meaning.specs.Expressions.{Callee, callee, judged, valued, judged_condition, judged_arguments, cast_to, chosen, arithmetic_words, written_place, assignment, may_be_called, result_of_call, count_entries}
use Rattle.plain_expressions.specs.Steps.{on_operand, cast_value, TwoValues, both, joined_values, on_two, is_between, Written, written_object, assigned_to, assigned_in, called_with, called_by, not_called, call_of, is_list}
use Rattle.plain_scope.specs.Parts.{parts_in}
use Rattle.plain_scope.specs.Judgements.{Gives}
use Rattle.plain_scope.specs.JudgementLaws.{gives_then}
use Rattle.plain_expressions.proofs.Answering.{gives_as, gives_last}
use Rattle.plain_scope.specs.Bindings.{give_then, then_then, then_same}

-- a kind that isn't meant; `cc` in each arm would look through all of its goal
none_such : {A : Type 0} → false ≡ true → A
none_such h = cc

-- ---- two values

pair_law : {A B C : Type 0} (c : Checked A) (f : A → Checked Typed) (d : Checked B) (g : B → Checked Typed) (next : Typed → Typed → Checked C) → (c >>= (λ l. f l >>= (λ a. d >>= (λ r. g r >>= (λ b. next a b))))) ≡ (((c >>= f) >>= (λ a. (d >>= g) >>= (λ b. give (both a b)))) >>= (λ two. next two.a two.b))
pair_law c f d g next =
    let behind : TwoValues → Checked _ = λ two. next two.a two.b in
    sym (then_then (c >>= f) (λ a. (d >>= g) >>= (λ b. give (both a b))) behind
    ∙ then_same (c >>= f) (λ a. ((d >>= g) >>= (λ b. give (both a b))) >>= behind) (λ a. d >>= (λ r. g r >>= (λ b. next a b)))
    (λ a. then_then (d >>= g) (λ b. give (both a b)) behind
    ∙ then_same (d >>= g) (λ b. give (both a b) >>= behind) (λ b. next a b) (λ b. give_then (both a b) behind)
    ∙ then_then d g (λ b. next a b))
    ∙ then_then c f (λ a. d >>= (λ r. g r >>= (λ b. next a b))))

joined_law : (scope : Scope) (kind : Kind) (sign : PlainToken) (first middle second : PlainTree) (rest : PlainTrees) → (judged scope first >>= (λ l. loaded scope l >>= (λ a. judged scope second >>= (λ r. loaded scope r >>= (λ b. joined_values scope kind sign a b))))) ≡ on_two scope kind sign (more first (more middle (more second rest)))
joined_law scope kind sign first middle second rest = pair_law (judged scope first) (loaded scope) (judged scope second) (loaded scope) (joined_values scope kind sign)

between_two : (scope : Scope) (kind : Kind) (sign : PlainToken) (first second : PlainTree) → is_between kind ≡ true → judged scope (node kind (more first (more (leaf sign) (more second none)))) ≡ on_two scope kind sign (more first (more (leaf sign) (more second none)))
between_two scope k.Absent sign first second h = none_such h
between_two scope k.Unit sign first second h = none_such h
between_two scope k.Function sign first second h = none_such h
between_two scope k.Declaration sign first second h = none_such h
between_two scope k.StructDefinition sign first second h = none_such h
between_two scope k.StructDeclaration sign first second h = none_such h
between_two scope k.Members sign first second h = none_such h
between_two scope k.Member sign first second h = none_such h
between_two scope k.LocalDeclaration sign first second h = none_such h
between_two scope k.Specifiers sign first second h = none_such h
between_two scope k.Declarators sign first second h = none_such h
between_two scope k.Declarator sign first second h = none_such h
between_two scope k.ArrayDeclarator sign first second h = none_such h
between_two scope k.FunctionDeclarator sign first second h = none_such h
between_two scope k.Parameters sign first second h = none_such h
between_two scope k.Parameter sign first second h = none_such h
between_two scope k.Braces sign first second h = none_such h
between_two scope k.Initialisers sign first second h = none_such h
between_two scope k.Block sign first second h = none_such h
between_two scope k.Items sign first second h = none_such h
between_two scope k.ExpressionStatement sign first second h = none_such h
between_two scope k.If sign first second h = none_such h
between_two scope k.Else sign first second h = none_such h
between_two scope k.While sign first second h = none_such h
between_two scope k.Do sign first second h = none_such h
between_two scope k.For sign first second h = none_such h
between_two scope k.ForStart sign first second h = none_such h
between_two scope k.Jump sign first second h = none_such h
between_two scope k.Return sign first second h = none_such h
between_two scope k.Assignment sign first second h = none_such h
between_two scope k.Conditional sign first second h = none_such h
between_two scope k.LogicalOr sign first second h = joined_law scope k.LogicalOr sign first (leaf sign) second none
between_two scope k.LogicalAnd sign first second h = joined_law scope k.LogicalAnd sign first (leaf sign) second none
between_two scope k.Or sign first second h = joined_law scope k.Or sign first (leaf sign) second none
between_two scope k.Xor sign first second h = joined_law scope k.Xor sign first (leaf sign) second none
between_two scope k.And sign first second h = joined_law scope k.And sign first (leaf sign) second none
between_two scope k.Equality sign first second h = joined_law scope k.Equality sign first (leaf sign) second none
between_two scope k.Relation sign first second h = joined_law scope k.Relation sign first (leaf sign) second none
between_two scope k.Shift sign first second h = joined_law scope k.Shift sign first (leaf sign) second none
between_two scope k.Sum sign first second h = joined_law scope k.Sum sign first (leaf sign) second none
between_two scope k.Product sign first second h = joined_law scope k.Product sign first (leaf sign) second none
between_two scope k.Cast sign first second h = none_such h
between_two scope k.Prefix sign first second h = none_such h
between_two scope k.PrefixStep sign first second h = none_such h
between_two scope k.PostfixStep sign first second h = none_such h
between_two scope k.Index sign first second h = none_such h
between_two scope k.Call sign first second h = none_such h
between_two scope k.Arguments sign first second h = none_such h
between_two scope k.Selection sign first second h = none_such h
between_two scope k.Parenthesized sign first second h = none_such h
between_two scope k.Texts sign first second h = none_such h

pub between_law : (scope : Scope) (kind : Kind) (sign : PlainToken) (parts : PlainTrees) (first middle second : PlainTree) → is_between kind ≡ true → parts ≡ more first (more middle (more second none)) → middle ≡ leaf sign → judged scope (node kind parts) ≡ on_two scope kind sign parts
between_law scope kind sign parts first middle second h p q =
    let shape = p ∙ ap (λ (m : PlainTree). more first (more m (more second none))) q in
    ap (λ (ps : PlainTrees). judged scope (node kind ps)) shape ∙ between_two scope kind sign first second h ∙ sym (ap (on_two scope kind sign) shape)

pub index_law : (scope : Scope) (sign : PlainToken) (parts : PlainTrees) (first middle second close : PlainTree) → parts ≡ more first (more middle (more second (more close none))) → middle ≡ leaf sign → judged scope (node k.Index parts) ≡ on_two scope k.Index sign parts
index_law scope sign parts first middle second close p q =
    let shape = p ∙ ap (λ (m : PlainTree). more first (more m (more second (more close none)))) q in
    ap (λ (ps : PlainTrees). judged scope (node k.Index ps)) shape ∙ joined_law scope k.Index sign first (leaf sign) second (more close none) ∙ sym (ap (on_two scope k.Index sign) shape)

-- ---- other operators

pub behind_law : (scope : Scope) (sign : PlainToken) (parts : PlainTrees) (first second : PlainTree) → parts ≡ more first (more second none) → second ≡ leaf sign → judged scope (node k.PostfixStep parts) ≡ on_operand scope k.PostfixStep sign first
behind_law scope sign parts first second p q = ap (λ (ps : PlainTrees). judged scope (node k.PostfixStep ps)) (p ∙ ap (λ (s : PlainTree). more first (more s none)) q)

pub before_law : (scope : Scope) (sign : PlainToken) (parts : PlainTrees) (first second : PlainTree) → parts ≡ more first (more second none) → first ≡ leaf sign → judged scope (node k.PrefixStep parts) ≡ on_operand scope k.PrefixStep sign second
before_law scope sign parts first second p q = ap (λ (ps : PlainTrees). judged scope (node k.PrefixStep ps)) (p ∙ ap (λ (s : PlainTree). more s (more second none)) q)

pub prefix_law : (scope : Scope) (sign : PlainToken) (parts : PlainTrees) (first second : PlainTree) → parts ≡ more first (more second none) → first ≡ leaf sign → judged scope (node k.Prefix parts) ≡ on_operand scope k.Prefix sign second
prefix_law scope sign parts first second p q = ap (λ (ps : PlainTrees). judged scope (node k.Prefix ps)) (p ∙ ap (λ (s : PlainTree). more s (more second none)) q)

pub inner_law : (scope : Scope) (parts : PlainTrees) (first second third : PlainTree) → parts ≡ more first (more second (more third none)) → judged scope (node k.Parenthesized parts) ≡ judged scope second
inner_law scope parts first second third p = ap (λ (ps : PlainTrees). judged scope (node k.Parenthesized ps)) p

pub selection_law : (scope : Scope) (sign name : PlainToken) (parts : PlainTrees) (first second third : PlainTree) → parts ≡ more first (more second (more third none)) → second ≡ leaf sign → third ≡ leaf name → judged scope (node k.Selection parts) ≡ judged scope (node k.Selection (more first (more (leaf sign) (more (leaf name) none))))
selection_law scope sign name parts first second third p q r = ap (λ (ps : PlainTrees). judged scope (node k.Selection ps)) (p ∙ ap (λ (s : PlainTree). more first (more s (more third none))) q ∙ ap (λ (s : PlainTree). more first (more (leaf sign) (more s none))) r)

cast_words : (scope : Scope) (bracket : PlainToken) (words close inner : PlainTree) → judged scope (node k.Cast (more (leaf bracket) (more words (more close (more inner none))))) ≡ cast_value scope bracket words inner
cast_words scope bracket (leaf token) close inner = refl
cast_words scope bracket (node kind words) close inner =
    sym (give_then words (λ parts. valued scope inner >>= (λ x. cast_to bracket x (arithmetic_words parts)))
    ∙ then_then (judged scope inner) (loaded scope) (λ x. cast_to bracket x (arithmetic_words words)))

pub cast_law : (scope : Scope) (bracket : PlainToken) (parts : PlainTrees) (first words close inner : PlainTree) → parts ≡ more first (more words (more close (more inner none))) → first ≡ leaf bracket → judged scope (node k.Cast parts) ≡ cast_value scope bracket words inner
cast_law scope bracket parts first words close inner p q = ap (λ (ps : PlainTrees). judged scope (node k.Cast ps)) (p ∙ ap (λ (s : PlainTree). more s (more words (more close (more inner none)))) q) ∙ cast_words scope bracket words close inner

written_law : {B : Type 0} (scope : Scope) (sign : PlainToken) (first : PlainTree) (d : Checked B) (g : B → Checked Typed) → (judged scope first >>= (λ left. written_place scope sign left >>= (λ place. d >>= (λ o. g o >>= (λ right. assignment scope sign left place right))))) ≡ (written_object scope first sign >>= (λ left. (d >>= g) >>= assigned_to scope sign left))
written_law scope sign first d g =
    let object : Operand → _ → Written = λ left place. record { ty = left.ty; place = place } in
    let behind : Written → Checked Operand = λ left. (d >>= g) >>= assigned_to scope sign left in
    sym (then_then (judged scope first) (λ left. written_place scope sign left >>= (λ place. give (object left place))) behind
    ∙ then_same (judged scope first) (λ left. (written_place scope sign left >>= (λ place. give (object left place))) >>= behind) (λ left. written_place scope sign left >>= (λ place. d >>= (λ o. g o >>= (λ right. assignment scope sign left place right))))
    (λ left. then_then (written_place scope sign left) (λ place. give (object left place)) behind
    ∙ then_same (written_place scope sign left) (λ place. give (object left place) >>= behind) (λ place. d >>= (λ o. g o >>= (λ right. assignment scope sign left place right)))
    (λ place. give_then (object left place) behind ∙ then_then d g (assigned_to scope sign (object left place)))))

pub assigned_law : (scope : Scope) (sign : PlainToken) (parts : PlainTrees) (first middle second : PlainTree) → parts ≡ more first (more middle (more second none)) → middle ≡ leaf sign → judged scope (node k.Assignment parts) ≡ assigned_in scope sign parts
assigned_law scope sign parts first middle second p q =
    let shape = p ∙ ap (λ (m : PlainTree). more first (more m (more second none))) q in
    ap (λ (ps : PlainTrees). judged scope (node k.Assignment ps)) shape ∙ written_law scope sign first (judged scope second) (loaded scope) ∙ sym (ap (assigned_in scope sign) shape)

pub conditional_law : (scope : Scope) (question : PlainToken) (parts : PlainTrees) (first middle second colon third : PlainTree) → parts ≡ more first (more middle (more second (more colon (more third none)))) → middle ≡ leaf question → judged scope (node k.Conditional parts) ≡ (judged_condition scope first question >>= (λ tested. valued scope second >>= (λ a. valued scope third >>= (λ b. chosen question tested a b))))
conditional_law scope question parts first middle second colon third p q =
    ap (λ (ps : PlainTrees). judged scope (node k.Conditional ps)) (p ∙ ap (λ (m : PlainTree). more first (more m (more second (more colon (more third none))))) q)
    ∙ (then_same (judged_condition scope first question) (λ tested. judged scope second >>= (λ l. loaded scope l >>= (λ a. judged scope third >>= (λ r. loaded scope r >>= (λ b. chosen question tested a b))))) (λ tested. valued scope second >>= (λ a. valued scope third >>= (λ b. chosen question tested a b)))
    (λ tested. sym (then_then (judged scope second) (loaded scope) (λ a. valued scope third >>= (λ b. chosen question tested a b))
    ∙ then_same (judged scope second) (λ l. loaded scope l >>= (λ a. valued scope third >>= (λ b. chosen question tested a b))) (λ l. loaded scope l >>= (λ a. judged scope third >>= (λ r. loaded scope r >>= (λ b. chosen question tested a b))))
    (λ l. then_same (loaded scope l) (λ a. valued scope third >>= (λ b. chosen question tested a b)) (λ a. judged scope third >>= (λ r. loaded scope r >>= (λ b. chosen question tested a b)))
    (λ a. then_then (judged scope third) (loaded scope) (λ b. chosen question tested a b))))))

-- ---- calls

pub no_arguments : (scope : Scope) (types : List PlainType) (bracket : PlainToken) → judged_arguments scope types none bracket ≡ give no_argument
no_arguments scope [] bracket = refl
no_arguments scope (ty ∷ types) bracket = refl

above_zero : (n : ℕ) → 0 < n → (n == 0) ≡ false
above_zero n h = grind (arith, nat_tests)

none_law : (scope : Scope) (f : Callee) (bracket : PlainToken) → (uses (file_entity f.name.text) >>= (λ bound. may_be_called scope f.signature 0 bracket >>= (λ callable. give (result_of_call scope f bracket no_argument)))) ≡ called_with scope f none bracket
none_law scope f bracket =
    let finish : PlainArguments → Checked Operand = λ arguments. give (result_of_call scope f bracket arguments) in
    let callable : Checked (Unit {0}) = may_be_called scope f.signature 0 bracket in
    let behind : Checked Operand = judged_arguments scope f.signature.parameters none bracket >>= finish in
    let given : behind ≡ finish no_argument = ap (λ (c : Checked PlainArguments). c >>= finish) (no_arguments scope f.signature.parameters bracket) ∙ give_then no_argument finish in
    then_same (uses (file_entity f.name.text)) (λ bound. callable >>= (λ c. finish no_argument)) (λ bound. callable >>= (λ c. behind))
    (λ bound. then_same callable (λ c. finish no_argument) (λ c. behind) (λ c. sym given))

abbrev refused_operand : PlainToken → Checked Operand
refused_operand bracket = refused BadOperand bracket

refused_call : (scope : Scope) (bracket : PlainToken) (first : PlainTree) → (judged scope first >>= (λ operand. loaded scope operand >>= (λ x. refused_operand bracket))) ≡ not_called scope bracket first
refused_call scope bracket first = sym (then_then (judged scope first) (loaded scope) (λ x. refused_operand bracket))

call_arguments : (scope : Scope) (bracket : PlainToken) (first : PlainTree) (parts : PlainTrees) (found : Option Callee) → (elim found as (λ x. Checked Operand) [
  | Some f ↦ (uses (file_entity f.name.text) >>= (λ bound. may_be_called scope f.signature (count_entries parts) bracket >>= (λ callable. judged_arguments scope f.signature.parameters parts bracket >>= (λ arguments. give (result_of_call scope f bracket arguments)))))
  | None ↦ (judged scope first >>= (λ operand. loaded scope operand >>= (λ x. refused BadOperand bracket)))
]) ≡ call_of scope bracket first (node k.Arguments parts) found
call_arguments scope bracket first parts (Some f) = refl
call_arguments scope bracket first parts None = refused_call scope bracket first

call_none : (scope : Scope) (bracket : PlainToken) (first : PlainTree) (found : Option Callee) → (elim found as (λ x. Checked Operand) [
  | Some f ↦ (uses (file_entity f.name.text) >>= (λ bound. may_be_called scope f.signature 0 bracket >>= (λ callable. give (result_of_call scope f bracket no_argument))))
  | None ↦ (judged scope first >>= (λ operand. loaded scope operand >>= (λ x. refused BadOperand bracket)))
]) ≡ call_of scope bracket first (node k.Absent none) found
call_none scope bracket first (Some f) = none_law scope f bracket
call_none scope bracket first None = refused_call scope bracket first

call_list : (scope : Scope) (bracket : PlainToken) (first list close : PlainTree) → is_list list ≡ true → judged scope (node k.Call (more first (more (leaf bracket) (more list (more close none))))) ≡ call_of scope bracket first list (callee scope first)
call_list scope bracket first (leaf token) close h = none_such h
call_list scope bracket first (node k.Absent none) close h = call_none scope bracket first (callee scope first)
call_list scope bracket first (node k.Absent (more part rest)) close h = none_such h
call_list scope bracket first (node k.Unit parts) close h = none_such h
call_list scope bracket first (node k.Function parts) close h = none_such h
call_list scope bracket first (node k.Declaration parts) close h = none_such h
call_list scope bracket first (node k.StructDefinition parts) close h = none_such h
call_list scope bracket first (node k.StructDeclaration parts) close h = none_such h
call_list scope bracket first (node k.Members parts) close h = none_such h
call_list scope bracket first (node k.Member parts) close h = none_such h
call_list scope bracket first (node k.LocalDeclaration parts) close h = none_such h
call_list scope bracket first (node k.Specifiers parts) close h = none_such h
call_list scope bracket first (node k.Declarators parts) close h = none_such h
call_list scope bracket first (node k.Declarator parts) close h = none_such h
call_list scope bracket first (node k.ArrayDeclarator parts) close h = none_such h
call_list scope bracket first (node k.FunctionDeclarator parts) close h = none_such h
call_list scope bracket first (node k.Parameters parts) close h = none_such h
call_list scope bracket first (node k.Parameter parts) close h = none_such h
call_list scope bracket first (node k.Braces parts) close h = none_such h
call_list scope bracket first (node k.Initialisers parts) close h = none_such h
call_list scope bracket first (node k.Block parts) close h = none_such h
call_list scope bracket first (node k.Items parts) close h = none_such h
call_list scope bracket first (node k.ExpressionStatement parts) close h = none_such h
call_list scope bracket first (node k.If parts) close h = none_such h
call_list scope bracket first (node k.Else parts) close h = none_such h
call_list scope bracket first (node k.While parts) close h = none_such h
call_list scope bracket first (node k.Do parts) close h = none_such h
call_list scope bracket first (node k.For parts) close h = none_such h
call_list scope bracket first (node k.ForStart parts) close h = none_such h
call_list scope bracket first (node k.Jump parts) close h = none_such h
call_list scope bracket first (node k.Return parts) close h = none_such h
call_list scope bracket first (node k.Assignment parts) close h = none_such h
call_list scope bracket first (node k.Conditional parts) close h = none_such h
call_list scope bracket first (node k.LogicalOr parts) close h = none_such h
call_list scope bracket first (node k.LogicalAnd parts) close h = none_such h
call_list scope bracket first (node k.Or parts) close h = none_such h
call_list scope bracket first (node k.Xor parts) close h = none_such h
call_list scope bracket first (node k.And parts) close h = none_such h
call_list scope bracket first (node k.Equality parts) close h = none_such h
call_list scope bracket first (node k.Relation parts) close h = none_such h
call_list scope bracket first (node k.Shift parts) close h = none_such h
call_list scope bracket first (node k.Sum parts) close h = none_such h
call_list scope bracket first (node k.Product parts) close h = none_such h
call_list scope bracket first (node k.Cast parts) close h = none_such h
call_list scope bracket first (node k.Prefix parts) close h = none_such h
call_list scope bracket first (node k.PrefixStep parts) close h = none_such h
call_list scope bracket first (node k.PostfixStep parts) close h = none_such h
call_list scope bracket first (node k.Index parts) close h = none_such h
call_list scope bracket first (node k.Call parts) close h = none_such h
call_list scope bracket first (node k.Arguments parts) close h = call_arguments scope bracket first parts (callee scope first)
call_list scope bracket first (node k.Selection parts) close h = none_such h
call_list scope bracket first (node k.Parenthesized parts) close h = none_such h
call_list scope bracket first (node k.Texts parts) close h = none_such h

pub call_law : (scope : Scope) (bracket : PlainToken) (parts : PlainTrees) (first middle list close : PlainTree) → parts ≡ more first (more middle (more list (more close none))) → middle ≡ leaf bracket → is_list list ≡ true → judged scope (node k.Call parts) ≡ call_of scope bracket first list (callee scope first)
call_law scope bracket parts first middle list close p q h = ap (λ (ps : PlainTrees). judged scope (node k.Call ps)) (p ∙ ap (λ (m : PlainTree). more first (more m (more list (more close none)))) q) ∙ call_list scope bracket first list close h

pub list_law : (scope : Scope) (f : Callee) (bracket : PlainToken) (kind : Kind) (parts : PlainTrees) → is_list (node kind parts) ≡ true → called_by scope f bracket (node kind parts) ≡ called_with scope f parts bracket
list_law scope f bracket k.Absent none h = refl
list_law scope f bracket k.Absent (more part rest) h = none_such h
list_law scope f bracket k.Unit parts h = none_such h
list_law scope f bracket k.Function parts h = none_such h
list_law scope f bracket k.Declaration parts h = none_such h
list_law scope f bracket k.StructDefinition parts h = none_such h
list_law scope f bracket k.StructDeclaration parts h = none_such h
list_law scope f bracket k.Members parts h = none_such h
list_law scope f bracket k.Member parts h = none_such h
list_law scope f bracket k.LocalDeclaration parts h = none_such h
list_law scope f bracket k.Specifiers parts h = none_such h
list_law scope f bracket k.Declarators parts h = none_such h
list_law scope f bracket k.Declarator parts h = none_such h
list_law scope f bracket k.ArrayDeclarator parts h = none_such h
list_law scope f bracket k.FunctionDeclarator parts h = none_such h
list_law scope f bracket k.Parameters parts h = none_such h
list_law scope f bracket k.Parameter parts h = none_such h
list_law scope f bracket k.Braces parts h = none_such h
list_law scope f bracket k.Initialisers parts h = none_such h
list_law scope f bracket k.Block parts h = none_such h
list_law scope f bracket k.Items parts h = none_such h
list_law scope f bracket k.ExpressionStatement parts h = none_such h
list_law scope f bracket k.If parts h = none_such h
list_law scope f bracket k.Else parts h = none_such h
list_law scope f bracket k.While parts h = none_such h
list_law scope f bracket k.Do parts h = none_such h
list_law scope f bracket k.For parts h = none_such h
list_law scope f bracket k.ForStart parts h = none_such h
list_law scope f bracket k.Jump parts h = none_such h
list_law scope f bracket k.Return parts h = none_such h
list_law scope f bracket k.Assignment parts h = none_such h
list_law scope f bracket k.Conditional parts h = none_such h
list_law scope f bracket k.LogicalOr parts h = none_such h
list_law scope f bracket k.LogicalAnd parts h = none_such h
list_law scope f bracket k.Or parts h = none_such h
list_law scope f bracket k.Xor parts h = none_such h
list_law scope f bracket k.And parts h = none_such h
list_law scope f bracket k.Equality parts h = none_such h
list_law scope f bracket k.Relation parts h = none_such h
list_law scope f bracket k.Shift parts h = none_such h
list_law scope f bracket k.Sum parts h = none_such h
list_law scope f bracket k.Product parts h = none_such h
list_law scope f bracket k.Cast parts h = none_such h
list_law scope f bracket k.Prefix parts h = none_such h
list_law scope f bracket k.PrefixStep parts h = none_such h
list_law scope f bracket k.PostfixStep parts h = none_such h
list_law scope f bracket k.Index parts h = none_such h
list_law scope f bracket k.Call parts h = none_such h
list_law scope f bracket k.Arguments parts h = refl
list_law scope f bracket k.Selection parts h = none_such h
list_law scope f bracket k.Parenthesized parts h = none_such h
list_law scope f bracket k.Texts parts h = none_such h

pub absent_list : (parts : List Tree) → is_list (node k.Absent (plain_trees parts)) ≡ (length parts == 0)
absent_list [] = refl
absent_list (x ∷ rest) = sym (above_zero (length (x ∷ rest)) (omega arith))

pub called_gives : (scope : Scope) (f : Callee) (parts : PlainTrees) (bracket : PlainToken) (given : PlainArguments) (y : Operand) (before between after : List ℕ → Bool) → Gives (uses (file_entity f.name.text)) (tt {0}) before between → may_be_called scope f.signature (count_entries parts) bracket ≡ give (tt {0}) → Gives (judged_arguments scope f.signature.parameters parts bracket) given between after → y ≡ result_of_call scope f bracket given → Gives (called_with scope f parts bracket) y before after
called_gives scope f parts bracket given y before between after noted may judged result =
    let finish : PlainArguments → Checked Operand = λ arguments. give (result_of_call scope f bracket arguments) in
    let callable : Checked (Unit {0}) = may_be_called scope f.signature (count_entries parts) bracket in
    let behind : Checked Operand = judged_arguments scope f.signature.parameters parts bracket >>= finish in
    let last = gives_last (judged_arguments scope f.signature.parameters parts bracket) finish given y between after judged (ap (λ (x : Operand). give x) (sym result)) in
    let counted = gives_as (callable >>= (λ c. behind)) behind y between after
    (ap (λ (d : Checked (Unit {0})). d >>= (λ c. behind)) may ∙ give_then (tt {0}) (λ c. behind)) last in
    gives_then (uses (file_entity f.name.text)) (λ bound. callable >>= (λ c. behind)) (tt {0}) y before between after noted counted

pub cast_shape : (scope : Scope) (bracket : PlainToken) (words inner : PlainTree) (parts : PlainTrees) → parts_in words ≡ Some parts → cast_value scope bracket words inner ≡ (valued scope inner >>= (λ x. cast_to bracket x (arithmetic_words parts)))
cast_shape scope bracket words inner parts h =
    ap (λ (o : Option PlainTrees). or_broken o >>= (λ ps. valued scope inner >>= (λ x. cast_to bracket x (arithmetic_words ps)))) h
    ∙ give_then parts (λ ps. valued scope inner >>= (λ x. cast_to bracket x (arithmetic_words ps)))

pub callee_in_middle : (scope : Scope) (parts : List Tree) (inner : Tree) → length parts ≡ 3 → inner ≡ get_or parts 1 inner → callee scope (node k.Parenthesized (plain_trees parts)) ≡ callee scope (plain_tree inner)
callee_in_middle scope [] inner h e = absurd (omega arith)
callee_in_middle scope (a ∷ []) inner h e = absurd (omega arith)
callee_in_middle scope (a ∷ b ∷ []) inner h e = absurd (omega arith)
callee_in_middle scope (a ∷ b ∷ c ∷ []) inner h e = ap (λ t. callee scope (plain_tree t)) (sym e)
callee_in_middle scope (a ∷ b ∷ c ∷ d ∷ rest) inner h e = absurd (omega arith)

pub callee_of_parts : (scope : Scope) (parts : List Tree) → length parts ≢ 3 → callee scope (node k.Parenthesized (plain_trees parts)) ≡ None
callee_of_parts scope [] h = refl
callee_of_parts scope (a ∷ []) h = refl
callee_of_parts scope (a ∷ b ∷ []) h = refl
callee_of_parts scope (a ∷ b ∷ c ∷ []) h = absurd (h refl)
callee_of_parts scope (a ∷ b ∷ c ∷ d ∷ rest) h = refl

pub no_callee : (scope : Scope) (kind : Kind) (parts : PlainTrees) → kind ≢ k.Parenthesized → callee scope (node kind parts) ≡ None
no_callee scope k.Absent parts h = refl
no_callee scope k.Unit parts h = refl
no_callee scope k.Function parts h = refl
no_callee scope k.Declaration parts h = refl
no_callee scope k.StructDefinition parts h = refl
no_callee scope k.StructDeclaration parts h = refl
no_callee scope k.Members parts h = refl
no_callee scope k.Member parts h = refl
no_callee scope k.LocalDeclaration parts h = refl
no_callee scope k.Specifiers parts h = refl
no_callee scope k.Declarators parts h = refl
no_callee scope k.Declarator parts h = refl
no_callee scope k.ArrayDeclarator parts h = refl
no_callee scope k.FunctionDeclarator parts h = refl
no_callee scope k.Parameters parts h = refl
no_callee scope k.Parameter parts h = refl
no_callee scope k.Braces parts h = refl
no_callee scope k.Initialisers parts h = refl
no_callee scope k.Block parts h = refl
no_callee scope k.Items parts h = refl
no_callee scope k.ExpressionStatement parts h = refl
no_callee scope k.If parts h = refl
no_callee scope k.Else parts h = refl
no_callee scope k.While parts h = refl
no_callee scope k.Do parts h = refl
no_callee scope k.For parts h = refl
no_callee scope k.ForStart parts h = refl
no_callee scope k.Jump parts h = refl
no_callee scope k.Return parts h = refl
no_callee scope k.Assignment parts h = refl
no_callee scope k.Conditional parts h = refl
no_callee scope k.LogicalOr parts h = refl
no_callee scope k.LogicalAnd parts h = refl
no_callee scope k.Or parts h = refl
no_callee scope k.Xor parts h = refl
no_callee scope k.And parts h = refl
no_callee scope k.Equality parts h = refl
no_callee scope k.Relation parts h = refl
no_callee scope k.Shift parts h = refl
no_callee scope k.Sum parts h = refl
no_callee scope k.Product parts h = refl
no_callee scope k.Cast parts h = refl
no_callee scope k.Prefix parts h = refl
no_callee scope k.PrefixStep parts h = refl
no_callee scope k.PostfixStep parts h = refl
no_callee scope k.Index parts h = refl
no_callee scope k.Call parts h = refl
no_callee scope k.Arguments parts h = refl
no_callee scope k.Selection parts h = refl
no_callee scope k.Parenthesized parts h = absurd (h refl)
no_callee scope k.Texts parts h = refl
