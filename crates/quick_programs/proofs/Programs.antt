-- The program of a quick file's project.
use Rattle.std.proofs.Common.{◌≡◌, ℕ, zero, suc, ◌+◌, Bool, true, false, cond, not, List, [], ◌∷◌, length, refl, sym, ap, subst, ◌∙◌, codes, arith}
use Rattle.std.specs.List.{list_any, All, Contains, AllZip}
use Rattle.std.proofs.lemmas.Bool.{or_parts, or_from}
use Rattle.std.proofs.lemmas.List.Elements.{All-head, All-tail}
use Rattle.text_edits.specs.Files.{PlainFile}
use Rattle.cond_formula.specs.Conditions.{value}
use Rattle.c_text.specs.Token.{PlainToken}
use Rattle.c_text.specs.Preprocessing.{gives, IsPreprocessed}
use Rattle.c_tree.specs.Trees.{PlainTree}
use Rattle.c_tree.specs.Units.{IsTreeOf}
use Rattle.core_meaning.specs.declared.refusals.LinkKind.TheVariants.{NoMain}
use Rattle.core_meaning.specs.Program.{PlainProgram}
use Rattle.core_meaning.specs.Checking.{Binding, fine}
use Rattle.core_meaning.specs.Linking.{Units, defines_main, judged_program, IsElaborated}
use Rattle.project_file.specs.Projects.{PlainProject, names_on}
use Rattle.plain_pp.specs.Units.{sources_of}
use Rattle.project_program.specs.Programs.{present_from, UnitGives, IsProgram}
use Rattle.quick_form.specs.Program.{Declaration, object, function, IsAccepted, used_names, object_names, visible_names, bodies}
use Rattle.quick_core.specs.Present.{Item, present_items, declarations}
use Rattle.quick_core.specs.Laws.{ProgramIsOfItems}
use Rattle.quick_trees.specs.Tokens.{tokens_of, write_unit}
use Rattle.quick_trees.specs.Laws.{TokensRunAlike}
use Rattle.quick_lines.specs.Spellings.{spellings_of}
use Rattle.quick_units.specs.Units.{unit_text, is_on, unit_spellings, IsAlone, UnitsGiveWhatIsPresent}
use Rattle.tree_pairs.specs.Pairs.{declare_number, UnitsDeclareNoNumber}
use Rattle.quick_programs.specs.Laws.{IsQuickProject, QuickRunsAsC}
use Rattle.quick_programs.proofs.SameTokens.{seats_of, BodiesAreOff, tokens-same}
use Rattle.quick_programs.proofs.Declared.{putchar-declares, main-declares, objects-declare}

-- ---- names that are off

module _ (test : List ℕ → Bool) where
  element-off : (xs : List (List ℕ)) (x : List ℕ) → list_any test xs ≡ false → Contains xs x → test x ≡ false
  element-off [] x e (k, inside, same) = absurd (omega (arith, inside))
  element-off (y ∷ ys) x e (zero, inside, same) = ap test (sym same) ∙ (or_parts (test y) (list_any test ys) e).0
  element-off (y ∷ ys) x e (suc k, inside, same) =
      element-off ys x (or_parts (test y) (list_any test ys) e).1 (k, omega (arith, inside), same)

  elements-off : (xs ys : List (List ℕ)) → list_any test xs ≡ false → All (Contains xs) ys → list_any test ys ≡ false
  elements-off xs [] e h = refl
  elements-off xs (y ∷ ys) e h =
      or_from (test y) (list_any test ys) (element-off xs y e (All-head (Contains xs) y ys h)) (elements-off xs ys e (All-tail (Contains xs) y ys h))

  -- what is visible in `main` is declared
  visible-off : (p : List Declaration) → list_any test (object_names p) ≡ false → list_any test (visible_names p) ≡ false
  visible-off [] e = refl
  visible-off (object x v ∷ p) e =
      let both = or_parts (test x) (list_any test (object_names p)) e in
      or_from (test x) (list_any test (visible_names p)) both.0 (visible-off p both.1)
  visible-off (function c ∷ p) e = refl

used-off : (names : List (List ℕ)) (p : List Declaration) → IsAccepted p → list_any (is_on names) (object_names p) ≡ false → BodiesAreOff names (bodies p)
used-off names p a e =
    let used = elements-off (is_on names) (visible_names p) (used_names a.body) (visible-off (is_on names) p e) a.known in
    subst (λ codes. BodiesAreOff names codes) (sym a.once) (used, tt)

-- ---- the one unit

fine-injective : (a b : Units) (c d : List Binding) → fine a c ≡ fine b d → a ≡ b
fine-injective a b c d e = cc

-- no unit at all doesn't link
no-units : (linked : Units) (bindings : List Binding) → judged_program [] ≡ fine linked bindings → linked.units ≡ []
no-units linked bindings e = ap (λ (u : Units). u.units) (sym (fine-injective (record { units = []; structs = [] }) linked [] bindings e))

nothing-links : (p : PlainProgram) → IsElaborated [] p → ⊥
nothing-links p h =
    h.links.no_fault NoMain (codes "main") (refl, ap (λ units. not (list_any defines_main units)) (no-units h.linked h.bindings h.judged))

record OneUnit (Gives : List PlainToken → Type 0) (p : PlainProgram) : Type 0 where
  tokens : List PlainToken
  tree : PlainTree
  given : Gives tokens
  is_tree : IsTreeOf tokens tree
  elaborated : IsElaborated (tree ∷ []) p

one-unit : (Gives : ℕ → List PlainToken → Type 0) (b : Bool) (units : List (List PlainToken)) (trees : List PlainTree) (p : PlainProgram) → AllZip Gives (cond b (0 ∷ []) []) units → AllZip IsTreeOf units trees → IsElaborated trees p → OneUnit (Gives 0) p
one-unit Gives false [] [] p g t e = absurd (nothing-links p e)
one-unit Gives false [] (tree ∷ trees) p g t e = absurd t
one-unit Gives false (unit ∷ units) trees p g t e = absurd g
one-unit Gives true [] trees p g t e = absurd g
one-unit Gives true (unit ∷ []) [] p g t e = absurd t
one-unit Gives true (unit ∷ []) (tree ∷ []) p g t e = record { tokens = unit; tree = tree; given = g.0; is_tree = t.0; elaborated = e }
one-unit Gives true (unit ∷ []) (tree ∷ other ∷ trees) p g t e = absurd t.1
one-unit Gives true (unit ∷ other ∷ units) trees p g t e = absurd g.1

unit-of : (project : PlainProject) (files : List PlainFile) (bytes : List ℕ) (on : ℕ → Bool) (p : PlainProgram) → IsQuickProject project files bytes → IsProgram project files on p → OneUnit (UnitGives project files on 0) p
unit-of project files bytes on p q h =
    let given = subst (λ units. AllZip (UnitGives project files on) (present_from on 0 units) h.are_trees.tokens) q.units h.are_trees.preprocessed in
    one-unit (UnitGives project files on) (value on q.unit.when) h.are_trees.tokens h.trees p given h.are_trees.parsed h.elaborated

-- ---- its tokens

-- Tokens with a tree declare no number, so no name that is declared is on, nor `putchar`, nor `main`.
module _ (names : List (List ℕ)) (items : List Item) (tokens : List PlainToken) (same : spellings_of tokens ≡ unit_spellings names items) (numberless : declare_number tokens ≡ false) where
  off : (b : Bool) → (b ≡ true → declare_number tokens ≡ true) → b ≡ false
  off false h = refl
  off true h = let declared = h refl in cc

  tokens-are : IsAccepted (declarations items) → tokens ≡ tokens_of (write_unit items) (seats_of tokens)
  tokens-are a =
      let putchar = off (is_on names (codes "putchar")) (putchar-declares names items tokens same) in
      let main = off (is_on names (codes "main")) (main-declares names items tokens same a.body a.once) in
      let objects = off (list_any (is_on names) (object_names (declarations items))) (objects-declare names items tokens same) in
      tokens-same names putchar main items tokens objects (used-off names (declarations items) a objects) same

pub quick_runs_as_c_lem : UnitsGiveWhatIsPresent → UnitsDeclareNoNumber → ProgramIsOfItems → TokensRunAlike → QuickRunsAsC
quick_runs_as_c_lem units numberless of_items alike project files bytes items q reads on p a h input bound =
    let names = names_on on project.features in
    let present = present_items (is_on names) items in
    let unit = unit-of project files bytes on p q h in
    let sources = sources_of project files on in
    let alone : IsAlone sources (unit_text bytes) = record { name = q.name; files = q.files_are } in
    let given = subst (λ headers. IsPreprocessed sources (length headers + 0) (gives unit.tokens)) q.headers unit.given in
    let same = units sources bytes items alone reads unit.tokens given in
    let accepted = subst IsAccepted (of_items (is_on names) items) a in
    let none = ap declare_number (sym unit.is_tree.spells.text) ∙ numberless unit.tree unit.is_tree.spells.unit in
    let are = tokens-are names present unit.tokens same none accepted in
    alike (is_on names) bytes items reads a (seats_of unit.tokens) unit.tree p (subst (λ t. IsTreeOf t unit.tree) are unit.is_tree) unit.elaborated input bound
