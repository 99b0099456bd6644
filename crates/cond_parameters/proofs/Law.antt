-- Lists of parameters that are read parameter by parameter come to what is judged of them.
use Rattle.std.proofs.Common.{arith, ◌≡◌, ℕ, suc, ◌+◌, Bool, true, false, ◌&&◌, ◌||◌, List, [], ◌∷◌, ◌++◌, length, refl, sym, ap, ap₂, ◌∙◌, subst, if◌then◌else◌}
use Rattle.std.proofs.lemmas.Bool.{false≢true}
use Rattle.c_text.specs.Token.{PlainToken}
use Rattle.c_types.specs.Types.{void}
use Rattle.c_tree.proofs.TerminalCases.{same-true}
use Rattle.c_tree.specs.declared.kinds.Kind.{Kind}
use Rattle.c_tree.specs.declared.kinds.Kind.TheVariants as k
use Rattle.c_tree.specs.declared.terminals.Terminal.TheVariants as t
use Rattle.c_tree.specs.Grammar.{parameter, belongs, is_absent}
use Rattle.c_tree.specs.Terminals.{terminal, same}
use Rattle.c_tree.specs.Trees.{PlainTree, PlainTrees, leaf, node, none, more, absent}
use Rattle.choice_expansions.specs.Steps.{after_each}
use Rattle.conditional.specs.Judgements.{Checked, fine, refused, bind}
use Rattle.core_meaning.specs.Checking as judging
use Rattle.core_meaning.specs.Checking.{◌>>=◌, give, or_broken}
use Rattle.core_meaning.specs.Entities.{Scope}
use Rattle.core_meaning.specs.Expressions.{words_type, first_token_in}
use Rattle.core_meaning.specs.Declarations.{Based, Parameter, based, based_on_tag, name_in, declared_parameter, one_parameter, with_block, with_parameter, parameters_from, parameters_in}
use Rattle.core_meaning.specs.UnitNames.{with_parameters}
use Rattle.declarator_lists.specs.Lists.{trees_of}
use Rattle.operand_rules.proofs.Loads.{outcome_with, outcome_if}
use Rattle.operand_types.specs.OperandTypes.{outcome_as}
use Rattle.plain_declarators.specs.Words.{is_nothing}
use Rattle.plain_parameters.specs.Parameters.{are_void, is_void_node, lone_void}
use Rattle.tree_derivations.specs.Derivations.{Derivation, single, made_of, Separated, last_one, next_one, with_commas}
use Rattle.cond_parameters.specs.Parameters.{IsList, a_list}
use Rattle.cond_parameters.specs.Readings.{is_parameter_kind, is_parameter, parameters_among, Reading, nothing_read, with_next, goes_on, read_all}

abbrev Read : Type 0
Read = Checked (List Parameter) (Unit {0})

-- ---- which parts are parameters

parameter_kind : (kind : Kind) → belongs parameter kind ≡ true → is_parameter_kind kind ≡ true
parameter_kind k.Parameter h = refl
parameter_kind _ h = absurd (false≢true h)

parameter_is : {tree : PlainTree} → Derivation parameter tree → is_parameter tree ≡ true
parameter_is (single is) = absurd (false≢true is)
parameter_is (made_of kind b a s) = parameter_kind kind b

among : (tree : PlainTree) (rest : List PlainTree) → is_parameter tree ≡ true → parameters_among (tree ∷ rest) ≡ tree ∷ parameters_among rest
among tree rest is = ap (λ b. if b then tree ∷ parameters_among rest else parameters_among rest) is

-- ---- what is visible behind parameters and one more

pub one_behind : (scope : Scope) (slot : ℕ) (ps : List Parameter) (p : Parameter) → with_parameters scope slot (ps ++ p ∷ []) ≡ with_parameter (with_parameters scope slot ps) (slot + length ps) p.name p.ty
one_behind scope slot [] p = let e : slot ≡ slot + 0 = omega arith in ap (λ n. with_parameter scope n p.name p.ty) e
one_behind scope slot (q ∷ ps) p =
    let e : (slot + 1) + length ps ≡ slot + suc (length ps) = omega arith in
    one_behind (with_parameter scope slot q.name q.ty) (slot + 1) ps p
    ∙ ap (λ n. with_parameter (with_parameters (with_parameter scope slot q.name q.ty) (slot + 1) ps) n p.name p.ty) e

-- ---- the lone `void` is refused beside others

both_true : (a b : Bool) → (a && b) ≡ true → (a ≡ true) × (b ≡ true)
both_true true b h = (refl, h)
both_true false b h = absurd (false≢true h)

nothing_is : (others : PlainTrees) → is_nothing others ≡ true → others ≡ none
nothing_is none h = refl
nothing_is (more tree rest) h = absurd (false≢true h)

absent_is : (tree : PlainTree) → is_absent tree ≡ true → tree ≡ absent
absent_is (leaf token) h = absurd (false≢true h)
absent_is (node k.Absent none) h = refl
absent_is (node k.Absent (more tree rest)) h = absurd (false≢true h)
absent_is (node kind parts) h = absurd (false≢true h)

abbrev VoidIs : PlainTree → Type 0
VoidIs tree = (kind : Kind) × (token : PlainToken) × (tree ≡ node kind (more (leaf token) none)) × (same t.Void (terminal token) ≡ true)

void_is : (words : PlainTree) → are_void words ≡ true → VoidIs words
void_is (leaf token) h = absurd (false≢true h)
void_is (node kind none) h = absurd (false≢true h)
void_is (node kind (more (node inner parts) rest)) h = absurd (false≢true h)
void_is (node kind (more (leaf token) none)) h = (kind, token, refl, (both_true (same t.Void (terminal token)) true h).0)
void_is (node kind (more (leaf token) (more tree rest))) h = absurd (false≢true (both_true (same t.Void (terminal token)) false h).1)

void_words : (scope : Scope) (token : PlainToken) → same t.Void (terminal token) ≡ true → based false scope (more (leaf token) none) ≡ give (record { ty = void; scope = scope })
void_words scope token is =
    subst
    (λ x. (if same t.Struct x || false then or_broken (name_in (more (leaf token) none)) >>= (λ tag. based_on_tag false scope tag (scope.tags tag.text))
    else give (record { ty = words_type (same t.Void x || false) (same t.Unsigned x || false) (same t.Char x || false) (same t.Long x || false); scope = scope }))
    ≡ give (record { ty = void; scope = scope }))
    (same-true t.Void (terminal token) is) refl

module _ (defining : Bool) (scope : Scope) (behind : PlainToken) where
  abbrev pub next : Read → PlainTree → Read
  next c tree = bind c (with_next defining scope behind tree)

  refused_next : (trees : List PlainTree) → after_each next (refused tt) trees ≡ refused tt
  refused_next [] = refl
  refused_next (tree ∷ rest) = refused_next rest

  abbrev at : List Parameter → Scope
  at before = with_parameters (with_block scope) 0 before

  void_here : (kind inner : Kind) (token : PlainToken) (before : List Parameter) → same t.Void (terminal token) ≡ true
      → with_next defining scope behind (node kind (more (node inner (more (leaf token) none)) (more absent none))) before ≡ refused tt
  void_here kind inner token before is =
      ap
      (λ (c : judging.Checked Based). outcome_as (λ p. before ++ p ∷ []) (c >>= (λ base. declared_parameter defining (at before) before base.ty (first_token_in (more (leaf token) none) behind) absent)))
      (void_words (at before) token is)

  void_refused : (tree : PlainTree) (before : List Parameter) → is_void_node tree ≡ true → with_next defining scope behind tree before ≡ refused tt
  void_refused (leaf token) before is = absurd (false≢true is)
  void_refused (node kind none) before is = absurd (false≢true is)
  void_refused (node kind (more words none)) before is = absurd (false≢true is)
  void_refused (node kind (more words (more declarator others))) before is =
      let first = both_true (is_nothing others && are_void words) (is_absent declarator) is in
      let second = both_true (is_nothing others) (are_void words) first.0 in
      let found = void_is words second.1 in
      ap (λ l. with_next defining scope behind (node kind (more words (more declarator l))) before) (nothing_is others second.0)
      ∙ ap (λ d. with_next defining scope behind (node kind (more words (more d none))) before) (absent_is declarator first.1)
      ∙ ap (λ w. with_next defining scope behind (node kind (more w (more absent none))) before) found.2
      ∙ void_here kind found.0 found.1 before found.3

  bind_void : (tree : PlainTree) (c : Read) → is_void_node tree ≡ true → next c tree ≡ refused tt
  bind_void tree (fine before) is = void_refused tree before is
  bind_void tree (refused why) is = refl

  -- ---- what comes of flags

  abbrev by_flags : Bool → Bool → Bool → Read → PlainTree → Read
  by_flags beside is_void some c tree = if beside || (is_void && some) then refused tt else if is_void then c else next c tree

  stays : (b v : Bool) (tree : PlainTree) (c : Read) → c ≡ refused tt → (if b then refused tt else if v then c else next c tree) ≡ refused tt
  stays true v tree c is = refl
  stays false true tree c is = is
  stays false false tree c is = ap (λ (x : Read). next x tree) is

  refused_stays : (trees : List PlainTree) (r : Reading) → r.parameters ≡ refused tt → (read_all defining scope behind r trees).parameters ≡ refused tt
  refused_stays [] r is = is
  refused_stays (tree ∷ rest) r is =
      refused_stays rest (goes_on defining scope behind r tree) (stays (r.void || (is_void_node tree && r.some)) (is_void_node tree) tree r.parameters is)

  abbrev Steady : List PlainTree → Type 0
  Steady trees = (r : Reading) → r.some ≡ true → r.void ≡ false → (read_all defining scope behind r trees).parameters ≡ after_each next r.parameters trees

  steady_next : (tree : PlainTree) (rest : List PlainTree) → Steady rest → (r : Reading) → r.some ≡ true → r.void ≡ false → (v : Bool) → is_void_node tree ≡ v
      → (read_all defining scope behind (goes_on defining scope behind r tree) rest).parameters ≡ after_each next (next r.parameters tree) rest
  steady_next tree rest later r some alone true e =
      refused_stays rest (goes_on defining scope behind r tree)
      (ap (λ b. by_flags b (is_void_node tree) r.some r.parameters tree) alone
      ∙ ap (λ b. by_flags false b r.some r.parameters tree) e
      ∙ ap (λ b. by_flags false true b r.parameters tree) some)
      ∙ sym (ap (λ c. after_each next c rest) (bind_void tree r.parameters e) ∙ refused_next rest)
  steady_next tree rest later r some alone false e =
      later (goes_on defining scope behind r tree) refl (ap₂ (λ (a b : Bool). a || b) alone e)
      ∙ ap (λ c. after_each next c rest)
      (ap (λ b. by_flags b (is_void_node tree) r.some r.parameters tree) alone ∙ ap (λ b. by_flags false b r.some r.parameters tree) e)

  -- behind a parameter the lone `void` is refused as any is
  steady : (trees : List PlainTree) → Steady trees
  steady [] r some alone = refl
  steady (tree ∷ rest) r some alone = steady_next tree rest (steady rest) r some alone (is_void_node tree) refl

  abbrev is_nil : List PlainTree → Bool
  is_nil [] = true
  is_nil (tree ∷ rest) = false

  begun : (tree : PlainTree) (rest : List PlainTree) (v : Bool) → is_void_node tree ≡ v
      → (read_all defining scope behind nothing_read (tree ∷ rest)).parameters ≡ (if is_nil rest && v then fine [] else after_each next (with_next defining scope behind tree []) rest)
  begun tree [] true e = ap (λ b. by_flags false b false (fine []) tree) e
  begun tree (x ∷ xs) true e =
      refused_stays xs (goes_on defining scope behind (goes_on defining scope behind nothing_read tree) x)
      (ap (λ b. by_flags b (is_void_node x) true (goes_on defining scope behind nothing_read tree).parameters x) e)
      ∙ sym (ap (λ c. after_each next c (x ∷ xs)) (void_refused tree [] e) ∙ refused_next (x ∷ xs))
  begun tree rest false e =
      steady rest (goes_on defining scope behind nothing_read tree) refl e
      ∙ ap (λ c. after_each next c rest) (ap (λ b. by_flags false b false (fine []) tree) e)
      ∙ sym (if_not (is_nil rest) (after_each next (with_next defining scope behind tree []) rest))
    where
      if_not : (b : Bool) (c : Read) → (if b && false then fine [] else c) ≡ c
      if_not true c = refl
      if_not false c = refl

  -- ---- lists

  last_given : (before : List Parameter) (c : judging.Checked Parameter)
      → outcome_as (λ (ps : List Parameter). ps) (c >>= (λ p. give (before ++ p ∷ []))) ≡ outcome_as (λ p. before ++ p ∷ []) c
  last_given before (judging.fine p bindings) = refl
  last_given before (judging.refused kind token) = refl
  last_given before judging.broken = refl

  abbrev From : PlainTrees → List PlainTree → Type 0
  From parts list = (before : List Parameter) → outcome_as (λ ps. ps) (parameters_from defining (at before) before parts behind) ≡ after_each next (fine before) list

  then_rest : (rest : PlainTrees) (list : List PlainTree) → From rest list → (before : List Parameter) (c : judging.Checked Parameter)
      → outcome_as (λ ps. ps) (c >>= (λ p. parameters_from defining (with_parameter (at before) (length before) p.name p.ty) (before ++ p ∷ []) rest behind))
      ≡ after_each next (outcome_as (λ p. before ++ p ∷ []) c) list
  then_rest rest list later before (judging.fine p bindings) =
      let e : 0 + length before ≡ length before = omega arith in
      outcome_with (λ ps. ps) bindings (parameters_from defining (with_parameter (at before) (length before) p.name p.ty) (before ++ p ∷ []) rest behind)
      ∙ ap (λ s. outcome_as (λ ps. ps) (parameters_from defining s (before ++ p ∷ []) rest behind))
      (sym (one_behind (with_block scope) 0 before p ∙ ap (λ n. with_parameter (at before) n p.name p.ty) e))
      ∙ later (before ++ p ∷ [])
  then_rest rest list later before (judging.refused kind token) = sym (refused_next list)
  then_rest rest list later before judging.broken = sym (refused_next list)

  from : {parts : PlainTrees} → Separated parameter parts → From parts (parameters_among (trees_of parts))
  from (last_one {tree = tree} d) before =
      last_given before (one_parameter defining (at before) before tree behind) ∙ sym (ap (after_each next (fine before)) (among tree [] (parameter_is d)))
  from (next_one {tree = tree} {comma = comma} {rest = rest} d w s) before =
      then_rest rest (parameters_among (trees_of rest)) (from s) before (one_parameter defining (at before) before tree behind)
      ∙ sym (ap (after_each next (fine before)) (among tree (leaf comma ∷ trees_of rest) (parameter_is d)))

  some_among : {parts : PlainTrees} → Separated parameter parts → is_nil (parameters_among (trees_of parts)) ≡ false
  some_among (last_one {tree = tree} d) = ap is_nil (among tree [] (parameter_is d))
  some_among (next_one {tree = tree} {comma = comma} {rest = rest} d w s) = ap is_nil (among tree (leaf comma ∷ trees_of rest) (parameter_is d))

  begins : (tree : PlainTree) (rest : PlainTrees) (others : List PlainTree) → parameters_among (trees_of (more tree rest)) ≡ tree ∷ others → is_nothing rest ≡ is_nil others
      → From (more tree rest) (parameters_among (trees_of (more tree rest)))
      → outcome_as (λ ps. ps) (parameters_in defining scope (node k.Parameters (more tree rest)) behind)
      ≡ (read_all defining scope behind nothing_read (parameters_among (trees_of (more tree rest)))).parameters
  begins tree rest others is alone all =
      ap (λ b. outcome_as (λ ps. ps) (if b then give [] else parameters_from defining (with_block scope) [] (more tree rest) behind)) (lone_void tree rest)
      ∙ outcome_if (λ ps. ps) (is_nothing rest && is_void_node tree) [] (parameters_from defining (with_block scope) [] (more tree rest) behind)
      ∙ ap (λ c. if is_nothing rest && is_void_node tree then fine [] else c) (all [] ∙ ap (after_each next (fine [])) is)
      ∙ ap (λ b. if b && is_void_node tree then fine [] else after_each next (with_next defining scope behind tree []) others) alone
      ∙ sym (ap (λ l. (read_all defining scope behind nothing_read l).parameters) is ∙ begun tree others (is_void_node tree) refl)

  separated_read : {parts : PlainTrees} → Separated parameter parts
      → outcome_as (λ ps. ps) (parameters_in defining scope (node k.Parameters parts) behind) ≡ (read_all defining scope behind nothing_read (parameters_among (trees_of parts))).parameters
  separated_read (last_one {tree = tree} d) = begins tree none [] (among tree [] (parameter_is d)) refl (from (last_one d))
  separated_read (next_one {tree = tree} {comma = comma} {rest = rest} d w s) =
      begins tree (more (leaf comma) rest) (parameters_among (trees_of rest)) (among tree (leaf comma ∷ trees_of rest) (parameter_is d)) (sym (some_among s)) (from (next_one {comma = comma} d w s))

  -- what a list declares is what is read of it
  pub list_read : (parts : PlainTrees) → IsList (node k.Parameters parts)
      → outcome_as (λ ps. ps) (parameters_in defining scope (node k.Parameters parts) behind) ≡ (read_all defining scope behind nothing_read (parameters_among (trees_of parts))).parameters
  list_read parts (a_list (made_of kind b a (with_commas s))) = separated_read s
