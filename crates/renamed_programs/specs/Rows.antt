-- A worked example, no part of the definitions: a unit in which an object is renamed, `int a; int main(void) { return a; }`.
use Rattle.std.specs.Prelude.{ℕ, Bool, true, false, ◌&&◌, ◌||◌, List, [], ◌∷◌, codes, IsTrue}
use Rattle.std.specs.List.{AllZip}
use Rattle.std.specs.Str.{bytes_eq}
use Rattle.text_edits.specs.Span.{PlainSpan}
use Rattle.c_text.specs.declared.origin.Place.TheVariants.{Text}
use Rattle.c_text.specs.declared.token.TokenKind.{TokenKind}
use Rattle.c_text.specs.declared.token.TokenKind.TheVariants as kind
use Rattle.c_tree.specs.declared.kinds.Kind.TheVariants as k
use Rattle.c_tree.specs.Trees.{PlainTree, leaf, node, absent, trees}
use Rattle.core_meaning.specs.Checking.{Checked, fine}
use Rattle.core_meaning.specs.Linking.{Units, judged_program}
use Rattle.renamed_programs.specs.Trees.{SameButNames}
use Rattle.renamed_programs.specs.Entities.{Correspondence}
use Rattle.renamed_programs.specs.Laws.{AreUnits, BindAlike, AreNamedAlike}

abbrev pub nowhere : PlainSpan
nowhere = record { start = 0; «end» = 0 }

abbrev pub word : TokenKind → List ℕ → PlainTree
word kind text = leaf (record {
  kind = kind;
  text = text;
  joined = false;
  origin = record { file = 0; span = nowhere; place = Text; site = nowhere; site_file = 0 };
})

abbrev pub keyword : List ℕ → PlainTree
keyword text = word kind.Keyword text

abbrev pub sign : List ℕ → PlainTree
sign text = word kind.Punctuator text

abbrev pub name : List ℕ → PlainTree
name text = word kind.Name text

-- `int NAME;`
abbrev pub object : List ℕ → PlainTree
object text =
    node k.Declaration (trees (
    node k.Specifiers (trees (keyword (codes "int") ∷ []))
    ∷ node k.Declarators (trees (node k.Declarator (trees (name text ∷ [])) ∷ []))
    ∷ sign (codes ";") ∷ []))

-- `void` between parentheses
abbrev pub no_parameters : PlainTree
no_parameters = node k.Parameters (trees (node k.Parameter (trees (node k.Specifiers (trees (keyword (codes "void") ∷ [])) ∷ absent ∷ [])) ∷ []))

-- `int main(void) { return NAME; }`
abbrev pub main_function : List ℕ → PlainTree
main_function text =
    node k.Function (trees (
    node k.Specifiers (trees (keyword (codes "int") ∷ []))
    ∷ node k.Declarators (trees (node k.FunctionDeclarator (trees (name (codes "main") ∷ sign (codes "(") ∷ no_parameters ∷ sign (codes ")") ∷ [])) ∷ []))
    ∷ node k.Block (trees (
    sign (codes "{")
    ∷ node k.Items (trees (node k.Return (trees (keyword (codes "return") ∷ name text ∷ sign (codes ";") ∷ [])) ∷ []))
    ∷ sign (codes "}") ∷ []))
    ∷ []))

abbrev pub unit_with : List ℕ → PlainTree
unit_with text = node k.Unit (trees (object text ∷ main_function text ∷ []))

-- the object's name `a` corresponds to `b`, and `main` to itself
abbrev pub renamed : ℕ → Correspondence
renamed unit a b = (bytes_eq a (codes "a") && bytes_eq b (codes "b")) || (bytes_eq a (codes "main") && bytes_eq b (codes "main"))

abbrev pub before : List PlainTree
before = unit_with (codes "a") ∷ []

abbrev pub after : List PlainTree
after = unit_with (codes "b") ∷ []

abbrev pub is_fine : Checked Units → Bool
is_fine (fine units bindings) = true
is_fine other = false

-- Both are judged well, and all that the laws ask holds.
pub record ObjectRenamed : Type 0 where
  pub units : AreUnits before
  pub same : AllZip SameButNames before after
  pub judged : IsTrue (is_fine (judged_program before))
  pub judged_after : IsTrue (is_fine (judged_program after))
  pub binds : BindAlike renamed 0 [] [] before after
  pub names : AreNamedAlike renamed before
