-- Projects that are alike have the same programs.
use Rattle.std.proofs.Common.{◌≡◌, ℕ, ◌+◌, Bool, List, [], ◌∷◌, refl, ◌∙◌, ap, subst, if◌then◌else◌}
use Rattle.std.specs.List.{AllZip, Contains}
use Rattle.text_edits.specs.Files.{PlainFile}
use Rattle.cond_formula.specs.Conditions.{value}
use Rattle.c_text.specs.Token.{PlainToken}
use Rattle.c_text.specs.Preprocessing.{is_refused, IsPreprocessed}
use Rattle.c_tree.specs.Trees.{PlainTree}
use Rattle.core_meaning.specs.Program.{PlainProgram}
use Rattle.project_file.specs.Projects.{PlainUnit, PlainProject}
use Rattle.project_file.specs.Laws.{Alike, AreAlike}
use Rattle.plain_pp.specs.Units.{sources_of, file_of}
use Rattle.project_program.specs.declared.programs.Stage.{Stage}
use Rattle.project_program.specs.declared.programs.Stage.TheVariants.{Preprocess, Parse, Types, Link}
use Rattle.project_program.specs.Programs.{present_from, present_units, UnitGives, AreTokens, AreTrees, IsProgram, IsRefusedAt}

present_alike : (on : ℕ → Bool) (place : ℕ) (us vs : List PlainUnit) → AreAlike us vs → present_from on place us ≡ present_from on place vs
present_alike on place [] [] a = refl
present_alike on place [] (v ∷ vs) a = absurd a
present_alike on place (u ∷ us) [] a = absurd a
present_alike on place (u ∷ us) (v ∷ vs) a =
    let rest = present_alike on (place + 1) us vs a.2 in
    ap (λ b. if b then place ∷ present_from on (place + 1) us else present_from on (place + 1) us) (a.1 on)
    ∙ ap (λ ps. if value on v.when then place ∷ ps else ps) rest

module _ (a b : PlainProject) (files : List PlainFile) (on : ℕ → Bool) (like : Alike a b) where
  -- what a unit gives depends on no more of a project than its headers and features
  gives_alike : (unit : ℕ) (tokens : List PlainToken) → UnitGives a files on unit tokens → UnitGives b files on unit tokens
  gives_alike unit tokens h =
      let by : List (List ℕ) → List (List ℕ) → Type 0 = λ headers features. UnitGives (record a { headers = headers; features = features }) files on unit tokens in
      subst (λ hs. by hs b.features) like.headers (subst (λ fs. by a.headers fs) like.features h)

  zip_alike : (units : List ℕ) (tokens : List (List PlainToken)) → AllZip (UnitGives a files on) units tokens → AllZip (UnitGives b files on) units tokens
  zip_alike [] [] h = h
  zip_alike [] (t ∷ ts) h = absurd h
  zip_alike (u ∷ us) [] h = absurd h
  zip_alike (u ∷ us) (t ∷ ts) h = (gives_alike u t h.0, zip_alike us ts h.1)

  tokens_alike : (tokens : List (List PlainToken)) → AreTokens a files on tokens → AreTokens b files on tokens
  tokens_alike tokens h =
      zip_alike (present_units b on) tokens
      (subst (λ units. AllZip (UnitGives a files on) units tokens) (present_alike on 0 a.units b.units like.units) h)

  trees_alike : (trees : List PlainTree) → AreTrees a files on trees → AreTrees b files on trees
  trees_alike trees h = record { tokens = h.tokens; preprocessed = tokens_alike h.tokens h.preprocessed; parsed = h.parsed }

  pub program_alike : (p : PlainProgram) → IsProgram a files on p → IsProgram b files on p
  program_alike p h = record { trees = h.trees; are_trees = trees_alike h.trees h.are_trees; elaborated = h.elaborated }

  pub refused_alike : (stage : Stage) → IsRefusedAt a files on stage → IsRefusedAt b files on stage
  refused_alike Preprocess h =
      let present = subst (λ units. Contains units h.unit) (present_alike on 0 a.units b.units like.units) h.present in
      let by : List (List ℕ) → List (List ℕ) → Type 0 = λ headers features. let p = record a { headers = headers; features = features } in IsPreprocessed (sources_of p files on) (file_of p h.unit) (is_refused h.why) in
      let refused = subst (λ hs. by hs b.features) like.headers (subst (λ fs. by a.headers fs) like.features h.refused) in
      record { unit = h.unit; present = present; why = h.why; refused = refused }
  refused_alike Parse h =
      record { tokens = h.tokens; preprocessed = tokens_alike h.tokens h.preprocessed; of_unit = h.of_unit; one = h.one; treeless = h.treeless }
  refused_alike Types h =
      record { trees = h.trees; are_trees = trees_alike h.trees h.are_trees; kind = h.kind; token = h.token; refused = h.refused }
  refused_alike Link h =
      record { trees = h.trees; are_trees = trees_alike h.trees h.are_trees; kind = h.kind; name = h.name; refused = h.refused }
