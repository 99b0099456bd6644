-- Lists of parameters: where they stand in a declarator, and what comes of them.
use Rattle.std.proofs.Common.{◌≡◌, ℕ, suc, Bool, true, false, List, [], ◌∷◌, refl, sym, ap, ◌∙◌}
use Rattle.std.specs.Prelude.{◌==◌, ◌||◌, Some, if◌then◌else◌}
use Rattle.std.proofs.lemmas.Bool.{eqb-true, eqb-false, eq-eqb, ne_eqb}
use Rattle.c_text.specs.Token.{PlainToken}
use Rattle.c_types.specs.Types.{PlainType}
use Rattle.c_tree.specs.declared.kinds.Kind.{Kind}
use Rattle.c_tree.specs.declared.kinds.Kind.TheVariants as k
use Rattle.c_tree.specs.declared.terminals.Terminal.{Terminal}
use Rattle.c_tree.specs.declared.terminals.Terminal.TheVariants as t
use Rattle.c_tree.specs.Terminals.{number, terminal, same}
use Rattle.c_tree.specs.Trees.{PlainTree, PlainTrees, leaf, node, none, more, absent}
use Rattle.c_tree.specs.Grammar.{is_word, word, optional, parameters}
use Rattle.tree_derivations.specs.Derivations.{made_of, a_row, Row, a_word, left_out, given, IsWord}
use Rattle.c_tree.proofs.TerminalCases.{one_of}
use Rattle.bindings.proofs.Declarators.{named_form}
use Rattle.core_meaning.specs.Checking.{Checked, fine, refused, broken}
use Rattle.core_meaning.specs.Declarations.{behind_word, Parameter}
use Rattle.core_meaning.specs.Entities.{Scope}
use Rattle.operand_types.specs.OperandTypes.{outcome_as}
use Rattle.type_tables.specs.Tables.{Tables}
use Rattle.type_tables.specs.declared.tables.Tables as declared
use Rattle.type_tables.specs.Seen.{seen_tables}
use Rattle.type_tables.specs.Blocks.{OnlyLocals}
use Rattle.type_tables.proofs.LocalsAlone.{seen_same}
use Rattle.cond_parameters.specs.Parameters.{no_list, a_list, Declares}
use Rattle.cond_units.specs.Functions.{IsFunctionDeclarator, of_function, HasList, GivesTypes}

only : (b : Bool) → b ≡ (b || false)
only true = refl
only false = refl

flipped : (m n : ℕ) (b : Bool) → (m == n) ≡ b → (m == n) ≡ (n == m)
flipped m n true e = e ∙ sym (eq-eqb n m (sym (eqb-true m n e)))
flipped m n false e = e ∙ sym (ne_eqb n m (λ h. eqb-false m n e (sym h)))

-- a star is a word
pub star_word : (token : PlainToken) (x : Terminal) (b : Bool) → b ≡ same t.Star x → x ≡ terminal token → b ≡ is_word (t.Star ∷ []) (leaf token)
star_word token x b e h =
    e ∙ ap (same t.Star) h ∙ flipped (number t.Star) (number (terminal token)) (same t.Star (terminal token)) refl
    ∙ only (same (terminal token) t.Star)

is_parenthesis : (token : PlainToken) → IsWord (t.OpenParenthesis ∷ []) token → same t.OpenParenthesis (terminal token) ≡ true
is_parenthesis token w = ap (same t.OpenParenthesis) (one_of (λ x. x ≡ t.OpenParenthesis) (t.OpenParenthesis ∷ []) (terminal token) w (refl, tt))

behind_parenthesis : (token : PlainToken) (list : PlainTree) (rest : PlainTrees) → IsWord (t.OpenParenthesis ∷ []) token → behind_word t.OpenParenthesis (more (leaf token) (more list rest)) ≡ Some list
behind_parenthesis token list rest w = ap (λ b. if b then Some list else behind_word t.OpenParenthesis (more list rest)) (is_parenthesis token w)

in_row : {parts : PlainTrees} → Row (word (t.OpenParenthesis ∷ []) ∷ optional parameters ∷ word (t.CloseParenthesis ∷ []) ∷ []) parts → HasList parts
in_row (a_word {token = token} {rest = more tree rest} w (left_out row)) = record { list = absent; behind = behind_parenthesis token absent rest w; is_list = no_list }
in_row (a_word {token = token} {rest = more tree rest} w (given d row)) = record { list = tree; behind = behind_parenthesis token tree rest w; is_list = a_list d }
in_row (a_word {token = token} {rest = none} w row) = elim row [ ]

pub declarator_has_list : {kind : Kind} {parts : PlainTrees} → IsFunctionDeclarator (node kind parts) → HasList parts
declarator_has_list (of_function (made_of k.FunctionDeclarator b a (a_row row))) =
    let n = named_form row in
    let found = in_row n.row in
    record { list = found.list; behind = n.behind t.OpenParenthesis refl refl ∙ found.behind; is_list = found.is_list }

-- what comes of a list, whatever is visible behind it
pub gives_types : (by : ℕ → ℕ) (scope : Scope) (o : Checked (List Parameter)) (types : List PlainType) (declined : Bool) (inner : Tables) → Declares by scope (outcome_as (λ ps. ps) o) types declined inner → GivesTypes by scope o types declined
gives_types by scope (fine ps bindings) types declined inner h = (h.fits, h.types_are, h.there)
gives_types by scope (refused kind token) types declined inner h = h
gives_types by scope broken types declined inner h = h

-- nothing of a block is visible behind it
pub left_as_before :
    (on : ℕ → Bool) (old open_ inner new : declared.Tables) → open_ ≡ record old { depth = suc old.depth } → OnlyLocals open_ inner → new ≡ record inner { locals = new.locals; depth = old.depth } → new.locals.items ≡ old.locals.items
    → seen_tables on new ≡ seen_tables on old
left_as_before on old open_ inner new opened only closed same =
    seen_same on old new
    (closed ∙ ap (λ (t : declared.Tables). record t { locals = new.locals; depth = old.depth }) only.same
    ∙ ap (λ (t : declared.Tables). record t { locals = new.locals; depth = old.depth }) opened) same
