-- The forms of nodes.
use Rattle.std.proofs.Common.{◌≡◌, ◌≢◌, List, [], ◌∷◌, length, get_or, refl, sym, ap, ap₂, arith}
use Rattle.c_tree.specs.declared.kinds.Kind.{Kind}
use Rattle.c_tree.specs.declared.kinds.Kind.TheVariants as k
use Rattle.c_tree.specs.declared.trees.Tree.{Tree}
use Rattle.c_tree.specs.Trees.{PlainTrees, node, plain_tree, plain_trees}
use Rattle.cond_initialisers.specs.declared.forms.Form.TheVariants.{Other}
use Rattle.cond_initialisers.specs.Forms.{signed, form_of}

pub no_form : (kind : Kind) (parts : PlainTrees) → kind ≢ k.Texts → kind ≢ k.Parenthesized → kind ≢ k.Prefix → form_of (node kind parts) ≡ Other
no_form k.Texts parts texts parenthesized prefix = absurd (texts refl)
no_form k.Parenthesized parts texts parenthesized prefix = absurd (parenthesized refl)
no_form k.Prefix parts texts parenthesized prefix = absurd (prefix refl)
no_form kind parts texts parenthesized prefix = refl

pub form_in_middle : (parts : List Tree) (inner : Tree) → length parts ≡ 3 → inner ≡ get_or parts 1 inner → form_of (node k.Parenthesized (plain_trees parts)) ≡ form_of (plain_tree inner)
form_in_middle [] inner h e = absurd (omega arith)
form_in_middle (a ∷ []) inner h e = absurd (omega arith)
form_in_middle (a ∷ b ∷ []) inner h e = absurd (omega arith)
form_in_middle (a ∷ b ∷ c ∷ []) inner h e = ap (λ t. form_of (plain_tree t)) (sym e)
form_in_middle (a ∷ b ∷ c ∷ d ∷ rest) inner h e = absurd (omega arith)

pub no_form_inside : (parts : List Tree) → length parts ≢ 3 → form_of (node k.Parenthesized (plain_trees parts)) ≡ Other
no_form_inside [] h = refl
no_form_inside (a ∷ []) h = refl
no_form_inside (a ∷ b ∷ []) h = refl
no_form_inside (a ∷ b ∷ c ∷ []) h = absurd (h refl)
no_form_inside (a ∷ b ∷ c ∷ d ∷ rest) h = refl

pub form_at_end : (parts : List Tree) (sign inner : Tree) → length parts ≡ 2 → sign ≡ get_or parts 0 sign → inner ≡ get_or parts 1 inner
    → form_of (node k.Prefix (plain_trees parts)) ≡ signed (plain_tree sign) (form_of (plain_tree inner))
form_at_end [] sign inner h e f = absurd (omega arith)
form_at_end (a ∷ []) sign inner h e f = absurd (omega arith)
form_at_end (a ∷ b ∷ []) sign inner h e f = ap₂ (λ s t. signed (plain_tree s) (form_of (plain_tree t))) (sym e) (sym f)
form_at_end (a ∷ b ∷ c ∷ rest) sign inner h e f = absurd (omega arith)

pub no_form_behind : (parts : List Tree) → length parts ≢ 2 → form_of (node k.Prefix (plain_trees parts)) ≡ Other
no_form_behind [] h = refl
no_form_behind (a ∷ []) h = refl
no_form_behind (a ∷ b ∷ []) h = absurd (h refl)
no_form_behind (a ∷ b ∷ c ∷ rest) h = refl
