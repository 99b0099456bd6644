-- A file says one project, but for how its conditions are written.
use Rattle.std.proofs.Common.{◌≡◌, ℕ, Bool, not, ◌&&◌, List, [], ◌∷◌, map, Option, Some, None, String, Global, string_bytes, refl, sym, ap, subst, ◌∙◌}
use Rattle.std.specs.List.{list_all}
use Rattle.cond_formula.specs.Conditions.{Condition, value}
use Rattle.feature_model.specs.Trees.{Tree, named, inverse, grouped, both, either, implies, equals, on_feature, holds}
use Rattle.feature_model.specs.Laws.{TreeIsOne}
use Rattle.feature_model.specs.Constraints.{IsConstraint, AreOver}
use Rattle.project_file.specs.Contents.{UnitText}
use Rattle.project_file.specs.Texts.{HasValueOf, HasPresence, IsModelOf}
use Rattle.project_file.specs.Projects.{PlainUnit, AreUnits, IsProjectOf}
use Rattle.project_file.specs.Laws.{AreAlike, ProjectsAreAlike}
use Rattle.project_file.proofs.TextLemmas.{number_spelled}
use Rattle.project_file.proofs.Exclusion.{says_one}

-- whether a tree is true depends on the spelling of the features alone
holds_spelled : (a b : List (String Global)) (on : ℕ → Bool) (tree : Tree) → map string_bytes a ≡ map string_bytes b → holds a on tree ≡ holds b on tree
holds_spelled a b on (named name) e = ap (on_feature on) (number_spelled a b name e)
holds_spelled a b on (inverse t) e = ap not (holds_spelled a b on t e)
holds_spelled a b on (grouped t) e = holds_spelled a b on t e
holds_spelled a b on (both t u) e = rw (holds_spelled a b on t e, holds_spelled a b on u e)
holds_spelled a b on (either t u) e = rw (holds_spelled a b on t e, holds_spelled a b on u e)
holds_spelled a b on (implies t u) e = rw (holds_spelled a b on t e, holds_spelled a b on u e)
holds_spelled a b on (equals t u) e = rw (holds_spelled a b on t e, holds_spelled a b on u e)

all_hold_spelled : (a b : List (String Global)) (on : ℕ → Bool) (trees : List Tree) → map string_bytes a ≡ map string_bytes b → list_all (holds a on) trees ≡ list_all (holds b on) trees
all_hold_spelled a b on [] e = refl
all_hold_spelled a b on (t ∷ trees) e =
    ap (λ h. h && list_all (holds a on) trees) (holds_spelled a b on t e)
    ∙ ap (λ h. holds b on t && h) (all_hold_spelled a b on trees e)

module _ (one : TreeIsOne) where
  -- texts that are spelled alike have the same trees
  trees_one : (a b texts others : List (String Global)) (ts us : List Tree) → map string_bytes texts ≡ map string_bytes others → AreOver a texts ts → AreOver b others us → ts ≡ us
  trees_one a b [] [] [] [] e h k = refl
  trees_one a b [] [] [] (u ∷ us) e h k = absurd k
  trees_one a b [] [] (t ∷ ts) us e h k = absurd h
  trees_one a b [] (y ∷ others) ts us e h k = cc
  trees_one a b (x ∷ texts) [] ts us e h k = cc
  trees_one a b (x ∷ texts) (y ∷ others) [] us e h k = absurd h
  trees_one a b (x ∷ texts) (y ∷ others) (t ∷ ts) [] e h k = absurd k
  trees_one a b (x ∷ texts) (y ∷ others) (t ∷ ts) (u ∷ us) e h k =
      let first : string_bytes x ≡ string_bytes y = cc in
      let rest : map string_bytes texts ≡ map string_bytes others = cc in
      ap (λ w. w ∷ ts) (one (string_bytes y) t u (subst (λ s. IsConstraint s t) first h.0.constraint) k.0.constraint)
      ∙ ap (λ ws. u ∷ ws) (trees_one a b texts others ts us rest h.1 k.1)

  text_alike : (names : List (List ℕ)) (text : List ℕ) (a b : Condition) → HasValueOf names text a → HasValueOf names text b → (on : ℕ → Bool) → value on a ≡ value on b
  text_alike names text a b h k on =
      h.says.holds on
      ∙ ap (holds h.features on) (one text h.says.tree k.says.tree h.says.over.constraint k.says.over.constraint)
      ∙ holds_spelled h.features k.features on k.says.tree (h.spelled ∙ sym k.spelled) ∙ sym (k.says.holds on)

  presence_alike : (names : List (List ℕ)) (when : Option (List ℕ)) (a b : Condition) → HasPresence names when a → HasPresence names when b → (on : ℕ → Bool) → value on a ≡ value on b
  presence_alike names None a b h k on = h on ∙ sym (k on)
  presence_alike names (Some text) a b h k on = text_alike names text a b h k on

  model_alike : (names constraints : List (List ℕ)) (a b : Condition) → IsModelOf names constraints a → IsModelOf names constraints b → (on : ℕ → Bool) → value on a ≡ value on b
  model_alike names constraints a b h k on =
      h.admits.holds on
      ∙ ap (list_all (holds h.features on))
      (trees_one h.features k.features h.texts k.texts h.admits.trees k.admits.trees (h.texts_spelled ∙ sym k.texts_spelled) h.admits.over k.admits.over)
      ∙ all_hold_spelled h.features k.features on k.admits.trees (h.spelled ∙ sym k.spelled) ∙ sym (k.admits.holds on)

  units_alike : (names : List (List ℕ)) (texts : List UnitText) (a b : List PlainUnit) → AreUnits names texts a → AreUnits names texts b → AreAlike a b
  units_alike names [] [] [] h k = tt
  units_alike names [] [] (v ∷ b) h k = absurd k
  units_alike names [] (u ∷ a) b h k = absurd h
  units_alike names (t ∷ texts) [] b h k = absurd h
  units_alike names (t ∷ texts) (u ∷ a) [] h k = absurd k
  units_alike names (t ∷ texts) (u ∷ a) (v ∷ b) h k = (
    h.0 ∙ sym k.0,
    presence_alike names t.when u.when v.when h.1.value_is k.1.value_is,
    units_alike names texts a b h.2 k.2,
  )

  pub projects_alike : ProjectsAreAlike
  projects_alike name bytes a b h k =
      let p : IsProjectOf name k.contents a = subst (λ c. IsProjectOf name c a) (says_one name bytes h.contents k.contents h.says k.says) h.project_is in
      let q = k.project_is in
      record {
        name = p.name_is ∙ sym q.name_is;
        features = p.features ∙ sym q.features;
        headers = p.headers ∙ sym q.headers;
        model = model_alike k.contents.features k.contents.constraints a.model b.model p.model q.model;
        units = units_alike k.contents.features k.contents.units a.units b.units p.units q.units;
      }
