-- Initialisers of the grammar select as they are judged.
use Rattle.std.proofs.Common.{◌≡◌, ℕ, ◌+◌, Bool, true, false, [], ◌∷◌, ◌++◌, refl, sym, ap, subst, ◌∙◌, IsTrue, length}
use Rattle.std.specs.Prelude.{Option, Some, None, nat_le}
use Rattle.std.proofs.lemmas.Bool.{false≢true}
use Rattle.c_text.specs.Token.{PlainToken}
use Rattle.c_types.specs.Types.{PlainType, array_of}
use Rattle.c_tree.specs.declared.kinds.Kind.{Kind}
use Rattle.c_tree.specs.declared.kinds.Kind.TheVariants as k
use Rattle.c_tree.specs.declared.terminals.Terminal.TheVariants as t
use Rattle.c_tree.specs.Trees.{PlainTree, PlainTrees, leaf, node, none, more}
use Rattle.c_tree.specs.Grammar.{expression, initialiser, initialisers, shape, belongs, agree, are_texts}
use Rattle.core_meaning.specs.declared.refusals.TypeKind.TheVariants.{BadOperand, BadConstant}
use Rattle.core_meaning.specs.Values.{Path}
use Rattle.core_meaning.specs.Checking.{Checked, refused, ◌>>=◌, give, unless_so, found_or, or_broken}
use Rattle.core_meaning.specs.Entities.{Scope}
use Rattle.core_meaning.specs.Typing.{fits_into}
use Rattle.core_meaning.specs.Expressions.{judged, valued, first_token, text_bytes}
use Rattle.core_meaning.specs.Constancy.{part_for, path_for, is_character_type, text_initial, part_or_excess, is_allowed, value_initial, whole_initial, text_or_whole, initial, initial_entries}
use Rattle.tree_derivations.specs.Derivations.{Derivation, single, made_of, Shaped, a_row, some_texts, with_last_comma, at_end, a_word, a_part, Ended, ends, ends_in_comma, goes_on}
use Rattle.bindings.specs.Bindings.{is_name}
use Rattle.bindings.proofs.Spellings.{Holds, AllHold, no_name}
use Rattle.entity_numbers.proofs.Uses as bound
use Rattle.operand_types.specs.OperandTypes.{type_of_operand, outcome_as}
use Rattle.operand_types.specs.Laws.{OperatorsKeepTypes}
use Rattle.expression_types.specs.Known.{Known}
use Rattle.expression_types.specs.Reading.{read_expression}
use Rattle.expression_types.proofs.Sees.{comes_then}
use Rattle.selections.specs.Laws.{HasNames}
use Rattle.selections.proofs.Judgings.{Writing, Selects, selects_same, selects_then, quiet, then_quiet, quiet_then, never}
use Rattle.selections.proofs.Expressions.{Those, All, IsSelecting, Nothing, part, skipped, none_named, texts_named, value_of, expression_selects}

-- ---- an expression that initialises

abbrev is_braces : Kind → Bool
is_braces k.Braces = true
is_braces other = false

same_shape : (kind : Kind) → shape initialiser kind ≡ shape (expression 1) kind
same_shape k.Unit = refl
same_shape kind = refl

same_kinds : (kind : Kind) → is_braces kind ≡ false → belongs initialiser kind ≡ belongs (expression 1) kind
same_kinds k.Braces h = absurd (false≢true (sym h))
same_kinds kind h = refl

as_expression : (kind : Kind) {parts : PlainTrees} → IsTrue (belongs initialiser kind) → IsTrue (agree kind parts) → Shaped (shape initialiser kind) parts → is_braces kind ≡ false
    → Derivation (expression 1) (node kind parts)
as_expression kind {parts} b a s e = made_of kind (subst IsTrue (same_kinds kind e) b) a (subst (λ sh. Shaped sh parts) (same_shape kind) s)

module _ (by : ℕ → ℕ) (scope : Scope) (known : Known) (globals : Option ℕ) where
  abbrev S : {A : Type 0} → Writing → Checked A → Type 0
  S f m = Selects by f m

  abbrev W : PlainTree → Writing
  W tree = Those by scope known tree

  abbrev Ws : PlainTrees → Writing
  Ws parts = All by scope known parts

  value_selects : (ty : PlainType) (path : Path) (tree : PlainTree) (first : PlainToken) → IsSelecting by scope known tree → S (W tree) (value_initial scope globals ty path tree first)
  value_selects ty path tree first selecting =
      then_quiet by (W tree) (valued scope tree)
      (λ x. found_or (fits_into ty x) BadOperand first >>= (λ core. unless_so (is_allowed scope globals core) BadConstant first >>= (λ allowed. give (record { path = path; value = core; first = first } ∷ []))))
      (value_of by scope known tree selecting)
      (λ x. bound.found_then Nothing (fits_into ty x) BadOperand first _ (λ core. bound.unless_then Nothing (is_allowed scope globals core) BadConstant first _ (λ y. record { all = tt })))

  whole_selects : (ty : PlainType) (path : Path) (tree : PlainTree) (first : PlainToken) → IsSelecting by scope known tree → S (W tree) (whole_initial scope globals ty path tree first)
  whole_selects (array_of element count) path tree first selecting =
      never by (W tree) (valued scope tree >>= (λ x. refused BadOperand first)) (comes_then (λ x. ⊥) (valued scope tree) (λ x. refused BadOperand first) (λ x. tt))
  whole_selects ty path tree first selecting = value_selects ty path tree first selecting

  texts_select : (ty : PlainType) (path : Path) (parts : PlainTrees) (first : PlainToken) → IsTrue (are_texts parts) → IsSelecting by scope known (node k.Texts parts)
      → S (W (node k.Texts parts)) (text_or_whole scope globals ty path parts first)
  texts_select (array_of element count) path parts first texts selecting =
      selects_same by (Ws parts) (λ behind. behind) (text_or_whole scope globals (array_of element count) path parts first) (none_named by scope known parts (texts_named by scope known parts texts))
      (quiet by (text_or_whole scope globals (array_of element count) path parts first)
      (bound.if_binds Nothing (is_character_type element) (or_broken (text_bytes parts) >>= (λ bytes. text_initial element count path bytes first)) (refused BadOperand first)
      (bound.some_then Nothing (text_bytes parts) _ (λ bytes. bound.unless_then Nothing (nat_le (length bytes) count) BadConstant first _ (λ x. record { all = tt }))) (record { all = tt })))
  texts_select ty path parts first texts selecting = value_selects ty path (node k.Texts parts) first selecting

  abbrev pub IsInitial : PlainTree → Type 0
  IsInitial tree = (ty : PlainType) (path : Path) (behind : PlainToken) → S (W tree) (initial scope globals ty path tree behind)

  abbrev AreInitial : PlainTrees → Type 0
  AreInitial entries = (ty : PlainType) (path : Path) (n : ℕ) (behind : PlainToken) → S (Ws entries) (initial_entries scope globals ty path n entries behind)

  excess_quiet : (o : Option PlainType) (tree : PlainTree) (first : PlainToken) → bound.Binds Nothing (part_or_excess scope globals o tree first)
  excess_quiet (Some element) tree first = record { all = tt }
  excess_quiet None tree first = record { all = tt }

  last_entry : (tree : PlainTree) → IsInitial tree → AreInitial (more tree none)
  last_entry tree selecting ty path n behind =
      selects_same by (Ws (more tree none)) (W tree) (initial_entries scope globals ty path n (more tree none) behind) (part by scope known tree none)
      (quiet_then by (W tree) (part_or_excess scope globals (part_for scope.structs ty n) tree (first_token tree behind)) (λ element. initial scope globals element (path_for ty path n) tree behind)
      (excess_quiet (part_for scope.structs ty n) tree (first_token tree behind)) (λ element. selecting element (path_for ty path n) behind))

  next_entry : (tree : PlainTree) (comma : PlainToken) (rest : PlainTrees) → is_name comma ≡ false → IsInitial tree → AreInitial rest → AreInitial (more tree (more (leaf comma) rest))
  next_entry tree comma rest free selecting others ty path n behind =
      selects_same by (Ws (more tree (more (leaf comma) rest))) (λ b. W tree (Ws rest b)) (initial_entries scope globals ty path n (more tree (more (leaf comma) rest)) behind)
      (λ b. part by scope known tree (more (leaf comma) rest) b ∙ ap (W tree) (skipped by scope known comma rest free b))
      (quiet_then by (λ b. W tree (Ws rest b)) (part_or_excess scope globals (part_for scope.structs ty n) tree (first_token tree behind))
      (λ element. initial scope globals element (path_for ty path n) tree behind >>= (λ first. initial_entries scope globals ty path (n + 1) rest behind >>= (λ others. give (first ++ others))))
      (excess_quiet (part_for scope.structs ty n) tree (first_token tree behind))
      (λ element. selects_then by (W tree) (Ws rest) (initial scope globals element (path_for ty path n) tree behind)
      (λ first. initial_entries scope globals ty path (n + 1) rest behind >>= (λ others. give (first ++ others))) (selecting element (path_for ty path n) behind)
      (λ first. then_quiet by (Ws rest) (initial_entries scope globals ty path (n + 1) rest behind) (λ others. give (first ++ others)) (others ty path (n + 1) behind) (λ others. record { all = tt }))))

  no_entry : AreInitial none
  no_entry ty path n behind = λ b. refl

  in_braces : (open_ close : PlainToken) (entries : PlainTrees) → is_name open_ ≡ false → is_name close ≡ false → AreInitial entries
      → IsInitial (node k.Braces (more (leaf open_) (more (node k.Initialisers entries) (more (leaf close) none))))
  in_braces open_ close entries o c selecting ty path behind =
      selects_same by (Ws (more (leaf open_) (more (node k.Initialisers entries) (more (leaf close) none)))) (Ws entries) (initial_entries scope globals ty path 0 entries behind)
      (λ b. skipped by scope known open_ (more (node k.Initialisers entries) (more (leaf close) none)) o b
      ∙ (part by scope known (node k.Initialisers entries) (more (leaf close) none) b ∙ ap (Ws entries) (skipped by scope known close none c b)))
      (selecting ty path 0 behind)

  module _ (names : HasNames scope) (laws : OperatorsKeepTypes by scope)
      (typed : (level : ℕ) (tree : PlainTree) → Derivation (expression level) tree → (read_expression known tree).outcome ≡ outcome_as (type_of_operand by scope.structs) (judged scope tree)) where
    alone : {n : ℕ} {tree : PlainTree} → Derivation (expression n) tree → Holds tree → IsSelecting by scope known tree
    alone d holds = expression_selects by scope known names laws typed d holds

    mutual
      pub initial_selects : {tree : PlainTree} → Derivation initialiser tree → Holds tree → IsInitial tree
      initial_selects (single {token = token} is) holds = λ ty path behind. whole_selects ty path (leaf token) token (alone {n = 1} (single is) holds)
      initial_selects (made_of k.Braces b a (a_row (a_word {token = open_} w (a_part d (a_word {token = close} v at_end))))) holds =
          list_selects d open_ close holds.1.0 (no_name (t.OpenBrace ∷ []) open_ refl w) (no_name (t.CloseBrace ∷ []) close refl v)
      initial_selects (made_of k.Texts {parts = parts} b a (some_texts texts some)) holds = λ ty path behind.
          texts_select ty path parts (first_token (node k.Texts parts) behind) texts (alone {n = 1} (made_of k.Texts refl a (some_texts texts some)) holds)
      initial_selects (made_of k.Initialisers b a s) holds = absurd cc
      initial_selects (made_of kind {parts = parts} b a s) holds = λ ty path behind.
          whole_selects ty path (node kind parts) (first_token (node kind parts) behind) (alone (as_expression kind b a s refl) holds)

      list_selects : {tree : PlainTree} → Derivation initialisers tree → (open_ close : PlainToken) → Holds tree → is_name open_ ≡ false → is_name close ≡ false
          → IsInitial (node k.Braces (more (leaf open_) (more tree (more (leaf close) none))))
      list_selects (single is) open_ close holds o c = absurd cc
      list_selects (made_of k.Initialisers {parts = parts} b a (with_last_comma s)) open_ close holds o c = in_braces open_ close parts o c (entries_select s holds)
      list_selects (made_of _ b a s) open_ close holds o c = absurd cc

      entries_select : {entries : PlainTrees} → Ended initialiser entries → AllHold entries → AreInitial entries
      entries_select (ends {tree = tree} d) holds = last_entry tree (initial_selects d holds.0)
      entries_select (ends_in_comma {tree = tree} {comma = comma} d w) holds = next_entry tree comma none (no_name (t.Comma ∷ []) comma refl w) (initial_selects d holds.0) no_entry
      entries_select (goes_on {tree = tree} {comma = comma} {rest = rest} d w s) holds =
          next_entry tree comma rest (no_name (t.Comma ∷ []) comma refl w) (initial_selects d holds.0) (entries_select s holds.1.1)
