-- The functions that a unit of the grammar defines name their parameters.
use Rattle.std.proofs.Common.{◌≡◌, Bool, true, false, [], ◌∷◌, refl, sym, subst, IsTrue}
use Rattle.std.specs.Prelude.{Some, None, is_some, if◌then◌else◌, ◌&&◌, ◌||◌}
use Rattle.std.proofs.lemmas.Bool.{and_parts, false≢true}
use Rattle.c_tree.specs.declared.kinds.Kind.{Kind}
use Rattle.c_tree.specs.declared.kinds.Kind.TheVariants as k
use Rattle.c_tree.specs.declared.terminals.Terminal.{Terminal}
use Rattle.c_tree.specs.declared.terminals.Terminal.TheVariants as t
use Rattle.c_tree.specs.Terminals.{terminal, same}
use Rattle.c_tree.specs.Trees.{PlainTree, PlainTrees, leaf, node, none, more}
use Rattle.c_tree.specs.Grammar.{file_item, parameter, parameters, declarator, file_first, word, stars, optional, has_name, is_named, all_named, is_lone_void, may_be_defined, is_kind}
use Rattle.c_tree.proofs.TerminalCases.{one_of, same-true}
use Rattle.core_meaning.specs.Declarations.{name_in, behind_word}
use Rattle.tree_derivations.specs.Derivations.{Derivation, single, made_of, a_row, at_end, a_word, a_part, a_star, no_star, left_out, given, with_commas, declarators_of, Row, Each, no_more, one_more, Separated, last_one, next_one, last_plain, last_initialised, next_plain, next_initialised, UnitsAreDerived}
use Rattle.bindings.proofs.Declarators.{step_behind}
use Rattle.entity_numbers.specs.Slots.{IsNamed, AreNamed, HasNamedParameters, IsNamedFunction, AreNamedFunctions}
use Rattle.entity_numbers.specs.Laws.{UnitsNameParameters}

-- ---- names of parameters

star_no_bracket : (x : Terminal) → same t.Star x ≡ true → same t.OpenBracket x ≡ false
star_no_bracket x e = subst (λ y. same t.OpenBracket y ≡ false) (same-true t.Star x e) refl

name_there : (parts : PlainTrees) → has_name parts ≡ true → IsTrue (is_some (name_in parts))
name_there none h = absurd (false≢true h)
name_there (more (node kind parts) rest) h = absurd (false≢true h)
name_there (more (leaf token) rest) h = by (same t.Name (terminal token)) (same t.Star (terminal token)) (star_no_bracket (terminal token)) (name_there rest) h
  where
    by :
        (x y : Bool) → (y ≡ true → same t.OpenBracket (terminal token) ≡ false) → (has_name rest ≡ true → IsTrue (is_some (name_in rest))) → (x || (y && has_name rest)) ≡ true
        → IsTrue (is_some (if x then Some token else if same t.OpenBracket (terminal token) then None else name_in rest))
    by true y f g e = refl
    by false true f g e = subst (λ (b : Bool). IsTrue (is_some (if b then None else name_in rest))) (sym (f refl)) (g e)
    by false false f g e = absurd (false≢true e)

named_one : {tree : PlainTree} → Derivation parameter tree → is_named tree ≡ true → IsNamed tree
named_one (single is) h = absurd cc
named_one (made_of k.Parameter b a (a_row (a_part w (left_out at_end)))) h = absurd cc
named_one (made_of k.Parameter b a (a_row (a_part w (given (single is) at_end)))) h = absurd cc
named_one (made_of k.Parameter b a (a_row (a_part w (given (made_of k.Declarator {parts = parts} c d e) at_end)))) h = name_there parts h
named_one (made_of k.Parameter b a (a_row (a_part w (given (made_of k.ArrayDeclarator {parts = parts} c d e) at_end)))) h = name_there parts h
named_one (made_of k.Parameter b a (a_row (a_part w (given (made_of _ c d e) at_end)))) h = absurd cc
named_one (made_of _ b a s) h = absurd cc

named_all : {parts : PlainTrees} → Separated parameter parts → all_named parts ≡ true → AreNamed parts
named_all (last_one {tree = tree} d) h = (named_one d (and_parts (is_named tree) true h).0, tt)
named_all (next_one {tree = tree} {rest = rest} d w s) h =
    let both = and_parts (is_named tree) (all_named rest) h in
    (named_one d both.0, (tt, named_all s both.1))

-- ---- a function's declarator

or_second : (x y : Bool) → (x || y) ≡ true → x ≡ false → y ≡ true
or_second true y h e = absurd (false≢true (sym e))
or_second false y h e = h

list_named : {tree : PlainTree} → Derivation parameters tree → (rest : PlainTrees) → may_be_defined (more tree rest) ≡ true → HasNamedParameters (Some tree)
list_named (single is) rest h = absurd cc
list_named (made_of k.Parameters {parts = parts} b a (with_commas s)) rest h =
    λ lone. named_all s (or_second (is_lone_void parts) (all_named parts) (and_parts (is_lone_void parts || all_named parts) (may_be_defined rest) h).0 lone)
list_named (made_of _ b a s) rest h = absurd cc

row_named :
    {parts : PlainTrees} → Row (stars ∷ word (t.Name ∷ []) ∷ word (t.OpenParenthesis ∷ []) ∷ optional parameters ∷ word (t.CloseParenthesis ∷ []) ∷ []) parts → may_be_defined parts ≡ true
    → HasNamedParameters (behind_word t.OpenParenthesis parts)
row_named (a_star {token = token} {rest = rest} w row) h =
    subst HasNamedParameters (sym (step_behind t.OpenParenthesis token rest (one_of (λ x. same t.OpenParenthesis x ≡ false) (t.Star ∷ []) (terminal token) w (refl, tt)))) (row_named row h)
row_named (no_star (a_word {token = name} w (a_word {token = open_} v (left_out {rest = rest} row)))) h =
    subst HasNamedParameters (sym (step_behind t.OpenParenthesis name (more (leaf open_) (more Rattle.c_tree.specs.Trees.absent rest)) (one_of (λ x. same t.OpenParenthesis x ≡ false) (t.Name ∷ []) (terminal name) w (refl, tt))))
    (subst (λ b. HasNamedParameters (if b then Some Rattle.c_tree.specs.Trees.absent else behind_word t.OpenParenthesis (more Rattle.c_tree.specs.Trees.absent rest)))
    (sym (one_of (λ x. same t.OpenParenthesis x ≡ true) (t.OpenParenthesis ∷ []) (terminal open_) v (refl, tt))) tt)
row_named (no_star (a_word {token = name} w (a_word {token = open_} v (given {tree = tree} {rest = rest} d row)))) h =
    subst HasNamedParameters (sym (step_behind t.OpenParenthesis name (more (leaf open_) (more tree rest)) (one_of (λ x. same t.OpenParenthesis x ≡ false) (t.Name ∷ []) (terminal name) w (refl, tt))))
    (subst (λ b. HasNamedParameters (if b then Some tree else behind_word t.OpenParenthesis (more tree rest)))
    (sym (one_of (λ x. same t.OpenParenthesis x ≡ true) (t.OpenParenthesis ∷ []) (terminal open_) v (refl, tt))) (list_named d rest h))

declarator_named :
    (kind : Kind) {parts : PlainTrees} → Derivation (declarator file_first) (node kind parts) → (is_kind k.FunctionDeclarator kind && may_be_defined parts) ≡ true
    → HasNamedParameters (behind_word t.OpenParenthesis parts)
declarator_named _ (made_of k.FunctionDeclarator b a (a_row row)) h = row_named row h
declarator_named _ (made_of _ b a s) h = absurd cc

-- ---- units

-- no function has more declarators than one
more_named : (words tree second : PlainTree) (rest behind : PlainTrees) → IsNamedFunction (node k.Function (more words (more (node k.Declarators (more tree (more second rest))) behind)))
more_named words (leaf token) second rest behind = tt
more_named words (node kind parts) second rest behind = tt

item_named : {tree : PlainTree} → Derivation file_item tree → IsNamedFunction tree
item_named (single is) = absurd cc
item_named (made_of k.Function b a (a_row (a_part w (a_part (made_of k.Declarators c e (declarators_of (last_plain (made_of kind {parts = parts} f g s)))) (a_part d at_end))))) = declarator_named kind (made_of kind f g s) a
item_named (made_of k.Function b a (a_row (a_part w (a_part (made_of k.Declarators c e (declarators_of (last_plain (single is)))) (a_part d at_end))))) = absurd cc
item_named (made_of k.Function b a (a_row (a_part {tree = words} w (a_part (made_of k.Declarators c e (declarators_of (last_initialised {tree = tree} {value = value} {sign = sign} m x y z))) (a_part {tree = body} d at_end))))) = more_named words tree (leaf sign) (more value none) (more body none)
item_named (made_of k.Function b a (a_row (a_part {tree = words} w (a_part (made_of k.Declarators c e (declarators_of (next_plain {tree = tree} {comma = comma} {rest = rest} x y z))) (a_part {tree = body} d at_end))))) = more_named words tree (leaf comma) rest (more body none)
item_named (made_of k.Function b a (a_row (a_part {tree = words} w (a_part (made_of k.Declarators c e (declarators_of (next_initialised {tree = tree} {value = value} {sign = sign} {comma = comma} {rest = rest} m x y z u v))) (a_part {tree = body} d at_end))))) = more_named words tree (leaf sign) (more value (more (leaf comma) rest)) (more body none)
item_named (made_of k.Function b a (a_row (a_part w (a_part (single is) r)))) = absurd cc
item_named (made_of k.Function b a (a_row (a_part w (a_part (made_of _ c e s) r)))) = absurd cc
item_named (made_of _ b a s) = tt

items_named : {parts : PlainTrees} → Each file_item parts → AreNamedFunctions parts
items_named no_more = tt
items_named (one_more d each) = (item_named d, items_named each)

pub units_name_parameters : UnitsAreDerived → UnitsNameParameters
units_name_parameters derived (leaf token) is = tt
units_name_parameters derived (node k.Unit parts) is = items_named (derived (node k.Unit parts) is)
units_name_parameters derived (node _ parts) is = tt
