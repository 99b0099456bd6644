use Rattle.std.proofs.Common.{◌≡◌, ◌∙◌, ap, sym, subst, map, string_bytes, true, false}
use Rattle.std.proofs.lemmas.List.{take_all}
use Rattle.c_names.specs.Names.{is_new_name}
use Rattle.project_file.specs.Projects.{AreFeatureNames}
use Rattle.project_file.proofs.NameLemmas.{first_unlawful, lawful_more}
use Rattle.project_file.proofs.names.first_unlawful.Goals as goal

pub returns-then-not-is_new_name : goal.returns-then-not-is_new_name
returns-then-not-is_new_name c =
    let name = c.feature-item.result in
    let bad : is_new_name (string_bytes name) ≡ false =
    ap is_new_name (sym c.as_bytes.ensures.value) ∙ sym c.is_new_name.ensures ∙ c.if-not-is_new_name.true
    in
    rw c.as_str.ensures.value
    (first_unlawful string_bytes c.args.features.now c.loop-feature.feature-index name c.loop-feature-test.true c.feature-item.is c.loop-feature.invariant bad)

pub loop-feature-preserved : goal.loop-feature-preserved
loop-feature-preserved c =
    let name = c.feature-item.result in
    let good : is_new_name (string_bytes name) ≡ true =
    ap is_new_name (sym c.as_bytes.ensures.value) ∙ sym c.is_new_name.ensures ∙ c.if-not-is_new_name.false
    in
    lawful_more string_bytes c.args.features.now c.loop-feature.feature-index name c.loop-feature-test.true c.feature-item.is c.loop-feature.invariant good

pub returns : goal.returns
returns c =
    subst (λ names. AreFeatureNames (map string_bytes names))
    (take_all c.loop-feature.feature-index c.args.features.now c.loop-feature-test.false) c.loop-feature.invariant
