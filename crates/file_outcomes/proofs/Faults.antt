-- A file that has no first fault says a project.
use Rattle.std.proofs.Common.{◌≡◌, ℕ, suc, ◌*◌, ◌<◌, ◌≤◌, length, arith, List, [], ◌∷◌, ◌++◌, Option, Some, None, codes, refl, sym, subst, ◌∙◌, inl, inr, append_assoc, append-nil, Global}
use Rattle.std.specs.Prelude.{◌^◌}
use Rattle.std.specs.List.{All}
use Rattle.std.proofs.lemmas.Bool.{cases_lt}
use Rattle.std.proofs.lemmas.List.Elements.{All-nil, All-push, All-weaker}
use Rattle.toml.specs.Data.{Members}
use Rattle.project_file.specs.Documents.{IsToml}
use Rattle.project_file.specs.Contents.{Contents, document_keys, longest_file, SaysContents, files_of, texts_of}
use Rattle.project_file.specs.Texts.{IsLawful}
use Rattle.project_file.specs.Projects.{PlainProject, AllDiffer, AreFeatureNames, NamesOnce, IsProject}
use Rattle.project_file.specs.Faults.{Fault, size, not_toml, shape, feature, duplicate, constraint, IsShapeFault, unlisted, bad_features, bad_constraints, bad_headers, bad_units, FirstFault}
use Rattle.file_outcomes.specs.Laws.{NoFileIsLeftOut}
use Rattle.file_outcomes.proofs.Firsts.{lawful-or-first, differ-or-first, listed-or-first}
use Rattle.file_outcomes.proofs.Texts.{project_for}
use Rattle.file_outcomes.proofs.TomlTexts.{key_fits}

module _ (alloc : Global) (name bytes : List ℕ) (none : (project : PlainProject) → IsProject name bytes project → ⊥) (sound : (fault : Fault) → FirstFault name bytes fault → ⊥) where
  -- ---- what it says

  module _ (contents : Contents) (says : SaysContents name bytes contents) where
    whole : AreFeatureNames contents.features → NamesOnce contents → All (IsLawful contents.features) (texts_of contents) → ⊥
    whole lawful once texts =
        let strings = key_fits longest_file bytes says.document (codes "features") contents.features says.short says.is_toml.parsed says.are_contents.features.are_strings in
        let short = All-weaker (λ (f : List ℕ). length f ≤ 4 * longest_file) (λ (f : List ℕ). length f < 2 ^ 63) (λ f h. omega (arith, h)) contents.features strings in
        let p = project_for alloc name contents lawful short texts in
        none p.project (record { contents = contents; says = says; lawful = lawful; once = once; project_is = p.is_project })

    shifted : (before : List (Option (List ℕ))) (x : Option (List ℕ)) (rest : List (Option (List ℕ))) → (before ++ x ∷ []) ++ rest ≡ before ++ x ∷ rest
    shifted before x rest = append_assoc before (x ∷ []) rest

    texts-from : AreFeatureNames contents.features → NamesOnce contents → (before rest : List (Option (List ℕ))) → texts_of contents ≡ before ++ rest → All (IsLawful contents.features) before → ⊥
    texts-from lawful once before [] e h = whole lawful once (subst (All (IsLawful contents.features)) (sym (e ∙ append-nil before)) h)
    texts-from lawful once before (None ∷ rest) e h =
        texts-from lawful once (before ++ None ∷ []) rest (e ∙ sym (shifted before None rest)) (All-push (IsLawful contents.features) before None h tt)
    texts-from lawful once before (Some text ∷ rest) e h =
        sound (constraint (suc (length before))) (
          contents,
          says,
          lawful,
          once,
          record {
            before = before;
            text = text;
            after = rest;
            split = e;
            place_is = refl;
            lawful = h;
            bad = λ is. texts-from lawful once (before ++ Some text ∷ []) rest (e ∙ sym (shifted before (Some text) rest)) (All-push (IsLawful contents.features) before (Some text) h is);
          },
        )

    files : AreFeatureNames contents.features → AllDiffer contents.features → ⊥
    files lawful differ =
        elim (differ-or-first (files_of contents)) [
          | inl once ↦ texts-from lawful (record { features = differ; files = once }) [] (texts_of contents) refl (All-nil (IsLawful contents.features))
          | inr first ↦ sound (duplicate first.name) (contents, says, lawful, inr (differ, first.first))
        ]

    features : AreFeatureNames contents.features → ⊥
    features lawful =
        elim (differ-or-first contents.features) [
          | inl differ ↦ files lawful differ
          | inr first ↦ sound (duplicate first.name) (contents, says, lawful, inl first.first)
        ]

    names : ⊥
    names =
        elim (lawful-or-first contents.features) [
          | inl lawful ↦ features lawful
          | inr first ↦ sound (feature first.name) (contents, says, first.first)
        ]

  -- ---- its shape

  module _ (short : length bytes ≤ longest_file) (document : Members) (is_toml : IsToml bytes document) where
    faulty : (key : List ℕ) → IsShapeFault name document key → ⊥
    faulty key fault = sound (shape key) (record { short = short; document = document; is_toml = is_toml; fault = fault })

    shaped : ⊥
    shaped =
        elim (listed-or-first document_keys document) [
          | inr first ↦ faulty first.key (unlisted first.first)
          | inl keys ↦
              faulty (codes "features") (bad_features refl keys (λ fs has_features.
              faulty (codes "constraints") (bad_constraints refl keys fs has_features (λ cs has_constraints.
              faulty (codes "headers") (bad_headers refl keys fs has_features cs has_constraints (λ hs has_headers.
              faulty (codes "unit") (bad_units refl keys fs has_features cs has_constraints hs has_headers (λ us has_units.
              let contents : Contents = record { features = fs; constraints = cs; headers = hs; units = us } in
              names contents (record {
                short = short;
                document = document;
                is_toml = is_toml;
                are_contents = record { keys = keys; features = has_features; constraints = has_constraints; headers = has_headers; units = has_units };
              })))))))))
        ]

  read : ⊥
  read =
      elim (cases_lt longest_file (length bytes)) [
        | inl long ↦ sound (size name) (refl, long)
        | inr short ↦ sound not_toml (short, λ document is_toml. shaped short document is_toml)
      ]

pub none_left_out : NoFileIsLeftOut
none_left_out alloc name bytes none sound = read alloc name bytes none sound
