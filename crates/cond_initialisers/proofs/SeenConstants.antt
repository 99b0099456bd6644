-- Which of the trees that are seen are constant.
use Rattle.std.proofs.Common.{◌≡◌, ℕ, ◌+◌, ◌<◌, ◌≤◌, Bool, true, false, ◌&&◌, ◌||◌, List, [], ◌∷◌, length, get_or, drop, refl, sym, ap, ◌∙◌}
use Rattle.std.specs.Prelude.{if◌then◌else◌}
use Rattle.std.proofs.lemmas.List.{drop_all}
use Rattle.cond_formula.specs.Conditions.{condition_of, value}
use Rattle.conditional.specs.Entries.{seen}
use Rattle.conditional.proofs.ListLaws.{item_of}
use Rattle.c_tree.specs.Trees.{PlainTree, plain_tree}
use Rattle.choice_expansions.specs.declared.rows.Expansion.{Expansion}
use Rattle.choice_expansions.specs.Expansions.{expanded}
use Rattle.cond_initialisers.specs.declared.forms.Form.TheVariants.{Address}
use Rattle.cond_initialisers.specs.Forms.{form_of}
use Rattle.cond_initialisers.specs.Constants.{has_number, gives_address, is_constant_if, some_constant}

or_false : (b : Bool) → (b || false) ≡ b
or_false true = refl
or_false false = refl

pub only_constant : (names_array : Bool) (tree : PlainTree) → some_constant names_array (tree ∷ []) ≡ is_constant_if names_array tree
only_constant names_array tree = or_false (is_constant_if names_array tree)

or_true : (b : Bool) → (b || true) ≡ true
or_true true = refl
or_true false = refl

-- texts and addresses of names are constant, whatever else is known
pub constant_address : (names_array : Bool) (tree : PlainTree) → form_of tree ≡ Address → is_constant_if names_array tree ≡ true
constant_address names_array tree is = ap (λ f. has_number tree || gives_address names_array f) is ∙ or_true (has_number tree)

next_seen : (names_array s w r : Bool) (tree : PlainTree) (rest : List PlainTree) → r ≡ is_constant_if names_array tree
    → ((s || (w && r)) || some_constant names_array rest) ≡ (s || some_constant names_array (if w then tree ∷ rest else rest))
next_seen names_array true w r tree rest e = refl
next_seen names_array false true r tree rest e = ap (λ b. b || some_constant names_array rest) e
next_seen names_array false false r tree rest e = refl

pub next_constant : (names_array : Bool) (on : ℕ → Bool) (list : List Expansion) (x : Expansion) (i : ℕ) (s r new : Bool) → i < length list → x ≡ get_or list i x
    → r ≡ is_constant_if names_array (plain_tree x.tree) → new ≡ (s || (value on (condition_of x.when) && r))
    → (s || some_constant names_array (seen on (expanded (drop i list)))) ≡ some_constant names_array (seen on (expanded list))
    → (new || some_constant names_array (seen on (expanded (drop (i + 1) list)))) ≡ some_constant names_array (seen on (expanded list))
next_constant names_array on list x i s r new within is at e before =
    ap (λ b. b || some_constant names_array (seen on (expanded (drop (i + 1) list)))) e
    ∙ (next_seen names_array s (value on (condition_of x.when)) r (plain_tree x.tree) (seen on (expanded (drop (i + 1) list))) at
    ∙ (ap (λ l. s || some_constant names_array (seen on (expanded l))) (sym (item_of list x i within is)) ∙ before))

pub all_constants : (names_array : Bool) (on : ℕ → Bool) (list : List Expansion) (i : ℕ) (s : Bool) → length list ≤ i
    → (s || some_constant names_array (seen on (expanded (drop i list)))) ≡ some_constant names_array (seen on (expanded list)) → s ≡ some_constant names_array (seen on (expanded list))
all_constants names_array on list i s past before = sym (or_false s) ∙ (ap (λ l. s || some_constant names_array (seen on (expanded l))) (sym (drop_all i list past)) ∙ before)
