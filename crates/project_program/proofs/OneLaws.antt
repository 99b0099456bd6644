-- A configuration has one program at most, or is refused at one stage.
use Rattle.std.proofs.Common.{◌≡◌, ℕ, zero, suc, ◌<◌, Bool, List, [], ◌∷◌, length, get_or, refl, sym, ap, subst, arith, ◌∙◌}
use Rattle.std.specs.List.{AllZip}
use Rattle.text_edits.specs.Files.{PlainFile}
use Rattle.c_text.specs.Token.{PlainToken}
use Rattle.c_text.specs.Preprocessing.{gives, is_refused}
use Rattle.c_tree.specs.Trees.{PlainTree}
use Rattle.c_tree.specs.Units.{IsTreeOf}
use Rattle.c_tree.specs.ReadingLaws.{TreesAreOne}
use Rattle.core_meaning.specs.Checking.{Binding, fine, refused}
use Rattle.core_meaning.specs.Program.{PlainProgram}
use Rattle.core_meaning.specs.Linking.{Units, judged_program, program_of, IsFault, IsElaborated}
use Rattle.project_file.specs.Projects.{PlainProject}
use Rattle.plain_pp.specs.Laws.{OutcomesAreOne}
use Rattle.plain_pp.specs.Units.{sources_of, file_of}
use Rattle.project_program.specs.declared.programs.Stage.{Stage}
use Rattle.project_program.specs.declared.programs.Stage.TheVariants.{Preprocess, Parse, Types, Link}
use Rattle.project_program.specs.Programs.{present_units, UnitGives, AreTokens, AreTrees, IsProgram, IsNotPreprocessed, IsNotParsed, IsNotTyped, IsNotLinked, IsRefusedAt}
use Rattle.project_program.specs.Laws.{ProgramsAreOne}

-- ---- tokens

same_tokens : OutcomesAreOne → (project : PlainProject) (files : List PlainFile) (on : ℕ → Bool) (places : List ℕ) (a b : List (List PlainToken)) → AllZip (UnitGives project files on) places a → AllZip (UnitGives project files on) places b → a ≡ b
same_tokens one project files on [] [] [] p q = refl
same_tokens one project files on [] (x ∷ a) b p q = absurd p
same_tokens one project files on [] [] (y ∷ b) p q = absurd q
same_tokens one project files on (place ∷ places) [] b p q = absurd p
same_tokens one project files on (place ∷ places) (x ∷ a) [] p q = absurd q
same_tokens one project files on (place ∷ places) (x ∷ a) (y ∷ b) p q =
    let first : gives x ≡ gives y = one (sources_of project files on) (file_of project place) (gives x) (gives y) p.0 q.0 in
    let same : x ≡ y = cc in
    let rest : a ≡ b = same_tokens one project files on places a b p.1 q.1 in
    ap (λ z. z ∷ a) same ∙ ap (λ l. y ∷ l) rest

-- ---- trees

same_trees : TreesAreOne → (tokens : List (List PlainToken)) (a b : List PlainTree) → AllZip IsTreeOf tokens a → AllZip IsTreeOf tokens b → a ≡ b
same_trees only [] [] [] p q = refl
same_trees only [] (x ∷ a) b p q = absurd p
same_trees only [] [] (y ∷ b) p q = absurd q
same_trees only (t ∷ tokens) [] b p q = absurd p
same_trees only (t ∷ tokens) (x ∷ a) [] p q = absurd q
same_trees only (t ∷ tokens) (x ∷ a) (y ∷ b) p q =
    let same : x ≡ y = only t x y p.0.spells q.0.spells in
    let rest : a ≡ b = same_trees only tokens a b p.1 q.1 in
    ap (λ z. z ∷ a) same ∙ ap (λ l. y ∷ l) rest

trees_are_one : OutcomesAreOne → TreesAreOne → (project : PlainProject) (files : List PlainFile) (on : ℕ → Bool) (a b : List PlainTree) → AreTrees project files on a → AreTrees project files on b → a ≡ b
trees_are_one one only project files on a b p q =
    let tokens : q.tokens ≡ p.tokens = same_tokens one project files on (present_units project on) q.tokens p.tokens q.preprocessed p.preprocessed in
    same_trees only p.tokens a b p.parsed (subst (λ (t : List (List PlainToken)). AllZip IsTreeOf t b) tokens q.parsed)

-- ---- programs

same_program : (trees : List PlainTree) (p q : PlainProgram) → IsElaborated trees p → IsElaborated trees q → p ≡ q
same_program trees p q x y =
    let both : fine x.linked x.bindings ≡ fine y.linked y.bindings = sym x.judged ∙ y.judged in
    let linked : x.linked ≡ y.linked = cc in
    x.program ∙ ap (program_of trees) linked ∙ sym y.program

one_program : OutcomesAreOne → TreesAreOne → (project : PlainProject) (files : List PlainFile) (on : ℕ → Bool) (p q : PlainProgram) → IsProgram project files on p → IsProgram project files on q → p ≡ q
one_program one only project files on p q x y =
    let trees : y.trees ≡ x.trees = trees_are_one one only project files on y.trees x.trees y.are_trees x.are_trees in
    same_program x.trees p q x.elaborated (subst (λ (t : List PlainTree). IsElaborated t q) trees y.elaborated)

-- ---- stages

zipped_at : {A B : Type 0} (R : A → B → Type 0) (xs : List A) (ys : List B) (k : ℕ) (x : A) → k < length xs → get_or xs k x ≡ x → AllZip R xs ys → (y : B) × R x y
zipped_at R [] ys k x inside is h = absurd (omega arith)
zipped_at R (a ∷ xs) [] k x inside is h = absurd h
zipped_at {A} R (a ∷ xs) (b ∷ ys) zero x inside is h = (b, subst (λ (z : A). R z b) is h.0)
zipped_at R (a ∷ xs) (b ∷ ys) (suc k) x inside is h = zipped_at R xs ys k x (omega arith) is h.1

-- a unit that is refused gives no tokens
given_tokens : OutcomesAreOne → (project : PlainProject) (files : List PlainFile) (on : ℕ → Bool) (tokens : List (List PlainToken)) → IsNotPreprocessed project files on → AreTokens project files on tokens → ⊥
given_tokens one project files on tokens x given =
    let at = zipped_at (UnitGives project files on) (present_units project on) tokens x.present.0 x.unit x.present.1 x.present.2 given in
    let both : is_refused x.why ≡ gives at.0 = one (sources_of project files on) (file_of project x.unit) (is_refused x.why) (gives at.0) x.refused at.1 in
    cc

-- tokens that have no tree have none
has_trees : OutcomesAreOne → (project : PlainProject) (files : List PlainFile) (on : ℕ → Bool) (trees : List PlainTree) → IsNotParsed project files on → AreTrees project files on trees → ⊥
has_trees one project files on trees x given =
    let tokens : given.tokens ≡ x.tokens = same_tokens one project files on (present_units project on) given.tokens x.tokens given.preprocessed x.preprocessed in
    let parsed : AllZip IsTreeOf x.tokens trees = subst (λ (t : List (List PlainToken)). AllZip IsTreeOf t trees) tokens given.parsed in
    let at = zipped_at IsTreeOf x.tokens trees x.one.0 x.of_unit x.one.1 x.one.2 parsed in
    x.treeless at.0 at.1

-- types that are refused give no units
judged_fine : OutcomesAreOne → TreesAreOne → (project : PlainProject) (files : List PlainFile) (on : ℕ → Bool) (trees : List PlainTree) (linked : Units) (bindings : List Binding) → IsNotTyped project files on → AreTrees project files on trees → judged_program trees ≡ fine linked bindings → ⊥
judged_fine one only project files on trees linked bindings x given is =
    let same : x.trees ≡ trees = trees_are_one one only project files on x.trees trees x.are_trees given in
    let both : refused x.kind x.token ≡ fine linked bindings = sym x.refused.judged ∙ ap judged_program same ∙ is in
    cc

linked_well : OutcomesAreOne → TreesAreOne → (project : PlainProject) (files : List PlainFile) (on : ℕ → Bool) (p : PlainProgram) → IsNotLinked project files on → IsProgram project files on p → ⊥
linked_well one only project files on p x y =
    let same : x.trees ≡ y.trees = trees_are_one one only project files on x.trees y.trees x.are_trees y.are_trees in
    let both : fine y.elaborated.linked y.elaborated.bindings ≡ fine x.refused.linked x.refused.bindings = sym y.elaborated.judged ∙ ap judged_program (sym same) ∙ x.refused.judged in
    let linked : y.elaborated.linked ≡ x.refused.linked = cc in
    let links = y.elaborated.links in
    links.no_fault x.kind x.name (subst (λ (l : Units). IsFault l x.kind x.name) (sym linked) x.refused.first.fault)

not_both : OutcomesAreOne → TreesAreOne → (project : PlainProject) (files : List PlainFile) (on : ℕ → Bool) (p : PlainProgram) (stage : Stage) → IsProgram project files on p → IsRefusedAt project files on stage → ⊥
not_both one only project files on p Preprocess y x = given_tokens one project files on y.are_trees.tokens x y.are_trees.preprocessed
not_both one only project files on p Parse y x = has_trees one project files on y.trees x y.are_trees
not_both one only project files on p Types y x = judged_fine one only project files on y.trees y.elaborated.linked y.elaborated.bindings x y.are_trees y.elaborated.judged
not_both one only project files on p Link y x = linked_well one only project files on p x y

one_stage : OutcomesAreOne → TreesAreOne → (project : PlainProject) (files : List PlainFile) (on : ℕ → Bool) (a b : Stage) → IsRefusedAt project files on a → IsRefusedAt project files on b → a ≡ b
one_stage one only project files on Preprocess Preprocess x y = refl
one_stage one only project files on Preprocess Parse x y = absurd (given_tokens one project files on y.tokens x y.preprocessed)
one_stage one only project files on Preprocess Types x y = absurd (given_tokens one project files on y.are_trees.tokens x y.are_trees.preprocessed)
one_stage one only project files on Preprocess Link x y = absurd (given_tokens one project files on y.are_trees.tokens x y.are_trees.preprocessed)
one_stage one only project files on Parse Preprocess x y = absurd (given_tokens one project files on x.tokens y x.preprocessed)
one_stage one only project files on Parse Parse x y = refl
one_stage one only project files on Parse Types x y = absurd (has_trees one project files on y.trees x y.are_trees)
one_stage one only project files on Parse Link x y = absurd (has_trees one project files on y.trees x y.are_trees)
one_stage one only project files on Types Preprocess x y = absurd (given_tokens one project files on x.are_trees.tokens y x.are_trees.preprocessed)
one_stage one only project files on Types Parse x y = absurd (has_trees one project files on x.trees y x.are_trees)
one_stage one only project files on Types Types x y = refl
one_stage one only project files on Types Link x y = absurd (judged_fine one only project files on y.trees y.refused.linked y.refused.bindings x y.are_trees y.refused.judged)
one_stage one only project files on Link Preprocess x y = absurd (given_tokens one project files on x.are_trees.tokens y x.are_trees.preprocessed)
one_stage one only project files on Link Parse x y = absurd (has_trees one project files on x.trees y x.are_trees)
one_stage one only project files on Link Types x y = absurd (judged_fine one only project files on x.trees x.refused.linked x.refused.bindings y x.are_trees x.refused.judged)
one_stage one only project files on Link Link x y = refl

pub programs_one : OutcomesAreOne → TreesAreOne → ProgramsAreOne
programs_one one only = record {
  one_program = one_program one only;
  one_stage = one_stage one only;
  not_both = not_both one only;
}
