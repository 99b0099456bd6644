-- The worked pairs as C: trees of their texts, and that their core programs are those of the pairs.
use Rattle.std.specs.Prelude.{◌≡◌, ℕ, false, List, [], ◌∷◌, codes}
use Rattle.c_text.specs.declared.origin.Place.TheVariants as place
use Rattle.c_text.specs.declared.token.TokenKind.{TokenKind}
use Rattle.c_text.specs.declared.token.TokenKind.TheVariants.{Name, Keyword, Number, Punctuator}
use Rattle.c_tree.specs.declared.kinds.Kind.TheVariants.{Unit, Function, Declaration, LocalDeclaration, Specifiers, Declarators, Declarator, FunctionDeclarator, Parameters, Parameter, Block, Items, ExpressionStatement, Return, Assignment, Product, Prefix, Call, Arguments, Parenthesized}
use Rattle.c_tree.specs.Trees.{PlainTree, leaf, node, absent, trees}
use Rattle.core_meaning.specs.Program.{PlainProgram}
use Rattle.core_meaning.specs.Checking.{Binding, fine}
use Rattle.core_meaning.specs.Linking.{Units, judged_program, program_of}
use Rattle.run_pairs.specs.WorkedPairs.{before, program_behind, with_call, without_call}

-- ---- short forms

abbrev pub a_token : TokenKind → List ℕ → PlainTree
a_token kind text = leaf (record {
  kind = kind;
  text = text;
  joined = false;
  origin = record { file = 0; span = record { start = 0; end = 0 }; place = place.Text; site = record { start = 0; end = 0 }; site_file = 0 };
})

abbrev pub name : List ℕ → PlainTree
name text = a_token Name text

abbrev pub keyword : List ℕ → PlainTree
keyword text = a_token Keyword text

abbrev pub numeral : List ℕ → PlainTree
numeral text = a_token Number text

abbrev pub mark : List ℕ → PlainTree
mark text = a_token Punctuator text

abbrev pub of_words : List PlainTree → PlainTree
of_words words = node Specifiers (trees words)

abbrev pub of_int : PlainTree
of_int = of_words (keyword (codes "int") ∷ [])

abbrev pub ended : List PlainTree → List PlainTree
ended [] = mark (codes ";") ∷ []
ended (part ∷ parts) = part ∷ ended parts

abbrev pub in_braces : List PlainTree → PlainTree
in_braces items = node Block (trees (mark (codes "{") ∷ node Items (trees items) ∷ mark (codes "}") ∷ []))

abbrev pub one_parameter : PlainTree → PlainTree → PlainTree
one_parameter type declarator = node Parameters (trees (node Parameter (trees (type ∷ declarator ∷ [])) ∷ []))

abbrev pub function_of : List ℕ → PlainTree → PlainTree
function_of f parameters = node Declarators (trees (node FunctionDeclarator (trees (name f ∷ mark (codes "(") ∷ parameters ∷ mark (codes ")") ∷ [])) ∷ []))

abbrev pub no_parameters : PlainTree
no_parameters = one_parameter (of_words (keyword (codes "void") ∷ [])) absent

abbrev pub int_named : List ℕ → PlainTree
int_named x = one_parameter of_int (node Declarator (trees (name x ∷ [])))

abbrev pub declares : List ℕ → PlainTree
declares x = node LocalDeclaration (trees (ended (of_int ∷ node Declarators (trees (node Declarator (trees (name x ∷ [])) ∷ [])) ∷ [])))

abbrev pub declares_as : List ℕ → PlainTree → PlainTree
declares_as x e = node LocalDeclaration (trees (ended (of_int ∷ node Declarators (trees (node Declarator (trees (name x ∷ [])) ∷ mark (codes "=") ∷ e ∷ [])) ∷ [])))

abbrev pub statement : PlainTree → PlainTree
statement e = node ExpressionStatement (trees (ended (e ∷ [])))

abbrev pub sets : List ℕ → PlainTree → PlainTree
sets x e = statement (node Assignment (trees (name x ∷ mark (codes "=") ∷ e ∷ [])))

abbrev pub calls : List ℕ → PlainTree → PlainTree
calls f argument = node Call (trees (name f ∷ mark (codes "(") ∷ node Arguments (trees (argument ∷ [])) ∷ mark (codes ")") ∷ []))

abbrev pub returns : PlainTree → PlainTree
returns e = node Return (trees (ended (keyword (codes "return") ∷ e ∷ [])))

abbrev pub doubled : List ℕ → PlainTree
doubled x = node Product (trees (name x ∷ mark (codes "*") ∷ numeral (codes "2") ∷ []))

abbrev pub of_main : List PlainTree → PlainTree
of_main items = node Function (trees (of_int ∷ function_of (codes "main") no_parameters ∷ in_braces items ∷ []))

abbrev pub unit : List PlainTree → PlainTree
unit items = node Unit (trees items)

-- ---- the extraction

abbrev pub declares_putchar : PlainTree
declares_putchar = node Declaration (trees (ended (of_int ∷ function_of (codes "putchar") (one_parameter of_int absent) ∷ [])))

-- int putchar(int); int main(void) { int k = 66; putchar(65); putchar(k); return 0; }
abbrev pub before_tree : PlainTree
before_tree = unit (
    declares_putchar
    ∷ of_main (
    declares_as (codes "k") (numeral (codes "66")) ∷ statement (calls (codes "putchar") (numeral (codes "65")))
    ∷ statement (calls (codes "putchar") (name (codes "k"))) ∷ returns (numeral (codes "0")) ∷ []
    ) ∷ []
    )

-- int putchar(int); static void f(int *k) { putchar(65); putchar((*k)); } int main(void) { int k = 66; f(&k); return 0; }
abbrev pub behind_tree : PlainTree
behind_tree = unit (
    declares_putchar
    ∷ node Function (trees (
    of_words (keyword (codes "static") ∷ keyword (codes "void") ∷ [])
    ∷ function_of (codes "f") (one_parameter of_int (node Declarator (trees (mark (codes "*") ∷ name (codes "k") ∷ []))))
    ∷ in_braces (
    statement (calls (codes "putchar") (numeral (codes "65")))
    ∷ statement (calls (codes "putchar") (node Parenthesized (trees (mark (codes "(") ∷ node Prefix (trees (mark (codes "*") ∷ name (codes "k") ∷ [])) ∷ mark (codes ")") ∷ []))))
    ∷ []
    ) ∷ []
    ))
    ∷ of_main (
    declares_as (codes "k") (numeral (codes "66")) ∷ statement (calls (codes "f") (node Prefix (trees (mark (codes "&") ∷ name (codes "k") ∷ []))))
    ∷ returns (numeral (codes "0")) ∷ []
    ) ∷ []
    )

-- ---- the inlining

abbrev pub doubling_tree : PlainTree
doubling_tree = node Function (trees (of_int ∷ function_of (codes "f") (int_named (codes "n")) ∷ in_braces (returns (doubled (codes "n")) ∷ []) ∷ []))

-- int f(int n) { return n * 2; } int main(void) { int n = 21; n = f(n); return n; }
abbrev pub with_call_tree : PlainTree
with_call_tree = unit (
    doubling_tree
    ∷ of_main (
    declares_as (codes "n") (numeral (codes "21")) ∷ sets (codes "n") (calls (codes "f") (name (codes "n"))) ∷ returns (name (codes "n")) ∷ []
    ) ∷ []
    )

-- .. int main(void) { int n = 21; { int inl0_0; int inl0_1 = n; { inl0_0 = inl0_1 * 2; } n = inl0_0; } return n; }
abbrev pub without_call_tree : PlainTree
without_call_tree = unit (
    doubling_tree
    ∷ of_main (
    declares_as (codes "n") (numeral (codes "21"))
    ∷ in_braces (
    declares (codes "inl0_0") ∷ declares_as (codes "inl0_1") (name (codes "n")) ∷ in_braces (sets (codes "inl0_0") (doubled (codes "inl0_1")) ∷ [])
    ∷ sets (codes "n") (name (codes "inl0_0")) ∷ []
    )
    ∷ returns (name (codes "n")) ∷ []
    ) ∷ []
    )

-- The tree has no fault of types, and this is its core program. (That its names link isn't part of this.)
pub record IsGivenBy (tree : PlainTree) (p : PlainProgram) : Type 0 where
  pub linked : Units
  pub bindings : List Binding
  pub judged : judged_program (tree ∷ []) ≡ fine linked bindings
  pub program : p ≡ program_of (tree ∷ []) linked

pub record WorkedTrees : Type 0 where
  pub before_is : IsGivenBy before_tree before
  pub behind_is : IsGivenBy behind_tree program_behind
  pub with_call_is : IsGivenBy with_call_tree with_call
  pub without_call_is : IsGivenBy without_call_tree without_call
