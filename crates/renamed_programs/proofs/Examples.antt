-- The unit by hand in which an object is renamed is all that the laws ask.
use Rattle.std.proofs.Common.{◌≡◌, ℕ, true, List, [], refl, sym, ap, subst, ◌∙◌, IsTrue, inl, inr}
use Rattle.std.specs.Prelude.{codes, ◌&&◌, ◌||◌, ◌⊎◌}
use Rattle.std.specs.Str.{bytes_eq}
use Rattle.std.specs.Cmp.Lexicographic.{bytes_decides}
use Rattle.std.proofs.lemmas.Bool.{false≢true, and_parts, or_cases}
use Rattle.c_text.specs.Token.{PlainToken}
use Rattle.c_tree.specs.Trees.{PlainTree, PlainTrees, leaf, node, none, more}
use Rattle.core_meaning.specs.Checking.{Binding, Checked, fine}
use Rattle.core_meaning.specs.UnitNames.{UnitState, judged_unit}
use Rattle.core_meaning.specs.Linking.{Unit}
use Rattle.renamed_programs.specs.Trees.{SameButName, SameButNames, AllSameButNames, same_leaf, same_node, same_end, same_more}
use Rattle.renamed_programs.specs.Entities.{AreBoundAlike}
use Rattle.renamed_programs.specs.Laws.{BindAlike, IsOneToOne, is_fixed, AreLinkedAlike}
use Rattle.renamed_programs.specs.Rows.{unit_with, renamed, before, after, ObjectRenamed}

-- ---- trees

unchanged : (a : PlainToken) → SameButName a a
unchanged a = record { kind = refl; text = λ e. refl }

mutual
  same_tree : (tree : PlainTree) → SameButNames tree tree
  same_tree (leaf a) = same_leaf (unchanged a)
  same_tree (node kind parts) = same_node (same_trees parts)

  same_trees : (parts : PlainTrees) → AllSameButNames parts parts
  same_trees none = same_end
  same_trees (more tree rest) = same_more (same_tree tree) (same_trees rest)

renamed_leaf : (a b : PlainToken) → a.kind ≡ b.kind → (a.kind ≡ Rattle.c_text.specs.declared.token.TokenKind.TheVariants.Name) → SameButNames (leaf a) (leaf b)
renamed_leaf a b e is = same_leaf (record { kind = e; text = λ no_. absurd (no_ is) })

units_same : SameButNames (unit_with (codes "a")) (unit_with (codes "b"))
units_same =
    same_node (same_more
    (same_node (same_more (same_tree _) (same_more (same_node (same_more (same_node (same_more (renamed_leaf _ _ refl refl) same_end)) same_end)) (same_more (same_tree _) same_end))))
    (same_more (same_node (same_more (same_tree _) (same_more (same_tree _) (same_more
    (same_node (same_more (same_tree _) (same_more (same_node (same_more (same_node (same_more (same_tree _) (same_more (renamed_leaf _ _ refl refl) (same_more (same_tree _) same_end)))) same_end)) (same_more (same_tree _) same_end))))
    same_end)))) same_end))

-- ---- names

record IsPair (a b : List ℕ) (c d : List ℕ) : Type 0 where
  left : a ≡ c
  right : b ≡ d

pair_of : (a b c d : List ℕ) → (bytes_eq a c && bytes_eq b d) ≡ true → IsPair a b c d
pair_of a b c d h = let both = and_parts (bytes_eq a c) (bytes_eq b d) h in record { left = (bytes_decides a c).0 both.0; right = (bytes_decides b d).0 both.1 }

cases : (unit : ℕ) (a b : List ℕ) → IsTrue (renamed unit a b) → IsPair a b (codes "a") (codes "b") ⊎ IsPair a b (codes "main") (codes "main")
cases unit a b h = by (or_cases (bytes_eq a (codes "a") && bytes_eq b (codes "b")) (bytes_eq a (codes "main") && bytes_eq b (codes "main")) h)
  where
    by : ((bytes_eq a (codes "a") && bytes_eq b (codes "b")) ≡ true) ⊎ ((bytes_eq a (codes "main") && bytes_eq b (codes "main")) ≡ true) → IsPair a b (codes "a") (codes "b") ⊎ IsPair a b (codes "main") (codes "main")
    by (inl e) = inl (pair_of a b (codes "a") (codes "b") e)
    by (inr e) = inr (pair_of a b (codes "main") (codes "main") e)

apart : (a : List ℕ) → a ≡ codes "a" → a ≡ codes "main" → ⊥
apart a e f = false≢true (ap (λ x. bytes_eq x (codes "main")) (sym e) ∙ (bytes_decides a (codes "main")).1 f)

apart_too : (b : List ℕ) → b ≡ codes "b" → b ≡ codes "main" → ⊥
apart_too b e f = false≢true (ap (λ x. bytes_eq x (codes "main")) (sym e) ∙ (bytes_decides b (codes "main")).1 f)

forth_by : (a b c : List ℕ) → IsPair a b (codes "a") (codes "b") ⊎ IsPair a b (codes "main") (codes "main") → IsPair a c (codes "a") (codes "b") ⊎ IsPair a c (codes "main") (codes "main") → b ≡ c
forth_by a b c (inl x) (inl y) = x.right ∙ sym y.right
forth_by a b c (inl x) (inr y) = absurd (apart a x.left y.left)
forth_by a b c (inr x) (inl y) = absurd (apart a y.left x.left)
forth_by a b c (inr x) (inr y) = x.right ∙ sym y.right

back_by : (a b c : List ℕ) → IsPair a c (codes "a") (codes "b") ⊎ IsPair a c (codes "main") (codes "main") → IsPair b c (codes "a") (codes "b") ⊎ IsPair b c (codes "main") (codes "main") → a ≡ b
back_by a b c (inl x) (inl y) = x.left ∙ sym y.left
back_by a b c (inl x) (inr y) = absurd (apart_too c x.right y.right)
back_by a b c (inr x) (inl y) = absurd (apart_too c y.right x.right)
back_by a b c (inr x) (inr y) = x.left ∙ sym y.left

one_to_one : (i : ℕ) → IsOneToOne (renamed i)
one_to_one i = record { forth = λ a b c f g. forth_by a b c (cases i a b f) (cases i a c g); back = λ a b c f g. back_by a b c (cases i a c f) (cases i b c g) }

fixed_by : (a b : List ℕ) → IsPair a b (codes "a") (codes "b") ⊎ IsPair a b (codes "main") (codes "main") → IsTrue (is_fixed a || is_fixed b) → a ≡ b
fixed_by a b (inl x) h = absurd (false≢true (sym (ap (λ y. is_fixed y || is_fixed b) x.left ∙ ap (λ y. is_fixed (codes "a") || is_fixed y) x.right) ∙ h))
fixed_by a b (inr x) h = x.left ∙ sym x.right

linked_alike : (units : List Unit) → AreLinkedAlike renamed units
linked_alike units = record {
  across = λ i j u v a b c d at there e f names these. (
    (λ h. forth_by a b d (cases i a b names) (cases j a d (subst (λ x. IsTrue (renamed j x d)) (sym h) these))),
    (λ h. back_by a c b (cases i a b names) (cases j c b (subst (λ x. IsTrue (renamed j c x)) (sym h) these))),
  );
  fixed = λ i u a b at e names fixed_. fixed_by a b (cases i a b names) fixed_;
}

-- ---- bindings

abbrev bound_in : Checked UnitState → List Binding
bound_in (fine unit bindings) = bindings
bound_in other = []

binds : BindAlike renamed 0 [] [] before after
binds globals numbers further unit last js ks e f =
    (subst (λ l. AreBoundAlike (renamed 0) l ks) (ap bound_in e) (subst (λ l. AreBoundAlike (renamed 0) (bound_in (judged_unit globals [] numbers (unit_with (codes "a")))) l) (ap bound_in f) (refl, (refl, (refl, tt)))), tt)

pub object_renamed : ObjectRenamed
object_renamed = record {
  units = (refl, tt);
  same = (units_same, tt);
  judged = refl;
  judged_after = refl;
  binds = binds;
  names = record { each = one_to_one; linked = λ numbers globals units bindings e. linked_alike units.units };
}
