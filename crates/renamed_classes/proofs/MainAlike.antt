-- A renaming leaves `main` where it is written, as long as no renamed identifier is `main`.
use Rattle.std.proofs.Common.{◌≡◌, ℕ, zero, suc, ◌+◌, Bool, true, false, List, [], ◌∷◌, length, map, Some, IsTrue, refl, ap, sym, ◌∙◌, subst, inl, inr}
use Rattle.std.specs.Prelude.{if◌then◌else◌, codes, slice_get}
use Rattle.std.specs.List.{AllZip}
use Rattle.std.specs.Str.{bytes_eq}
use Rattle.std.specs.Cmp.Lexicographic.{bytes_decides}
use Rattle.std.proofs.lemmas.Bool.{false≢true}
use Rattle.std.proofs.lemmas.List.{length-map}
use Rattle.c_names.specs.Names.{is_new_name}
use Rattle.c_text.specs.Token.{PlainToken}
use Rattle.c_tree.specs.declared.terminals.Terminal.TheVariants as t
use Rattle.c_tree.specs.Terminals.{same}
use Rattle.c_tree.specs.Trees.{PlainTree, PlainTrees, leaf, node, none, more, written, all_written, spelled}
use Rattle.core_meaning.specs.Checking.{Binding}
use Rattle.core_meaning.specs.Entities.{Struct}
use Rattle.bindings.specs.Bindings.{is_name}
use Rattle.bindings.specs.Judged.{Identified}
use Rattle.renamings.specs.Renamings.{Renaming, is_renamed, renamed_token}
use Rattle.renamed_trees.specs.RenamedTrees.{renamed_tree, renamed_trees}
use Rattle.renamed_units.proofs.Tokens.{In}
use Rattle.renamed_programs.specs.Trees.{SameButName, SameButNames, AllSameButNames, same_leaf, same_node, same_end, same_more}
use Rattle.renamed_programs.proofs.Tokens.{same_terminal}
use Rattle.renamed_products.specs.Products.{renamed_all}
use Rattle.program_occurrences.specs.Occurrences.{Identifier, identifiers_from, with_entities, UnitNames, names_of_unit, judged_bindings, structs_behind, judged_behind, names_behind, occurrence_among, occurrences_of}
use Rattle.program_occurrences.specs.Links.{BoundNumber, bound_numbers}
use Rattle.program_names.specs.Names.{is_main, HaveMainAlike}

-- trees that differ only in names are written with as many tokens, which differ only so
mutual
  tokens-alike : {tree other : PlainTree} → SameButNames tree other → (behind others : List PlainToken) → AllZip SameButName behind others → AllZip SameButName (written tree behind) (written other others)
  tokens-alike (same_leaf h) behind others alike = (h, alike)
  tokens-alike (same_node h) behind others alike = all-tokens-alike h behind others alike

  all-tokens-alike : {parts seconds : PlainTrees} → AllSameButNames parts seconds → (behind others : List PlainToken) → AllZip SameButName behind others → AllZip SameButName (all_written parts behind) (all_written seconds others)
  all-tokens-alike same_end behind others alike = alike
  all-tokens-alike (same_more {rest = rest} {others = seconds} h hs) behind others alike =
      tokens-alike h (all_written rest behind) (all_written seconds others) (all-tokens-alike hs behind others alike)

module _ (r : Renaming) where
  -- ---- tokens of a renamed tree

  mutual
    written-renamed : (tree : PlainTree) (behind : List PlainToken) → written (renamed_tree r tree) (map (renamed_token r) behind) ≡ map (renamed_token r) (written tree behind)
    written-renamed (leaf token) behind = refl
    written-renamed (node kind parts) behind = all-written-renamed parts behind

    all-written-renamed : (parts : PlainTrees) (behind : List PlainToken) → all_written (renamed_trees r parts) (map (renamed_token r) behind) ≡ map (renamed_token r) (all_written parts behind)
    all-written-renamed none behind = refl
    all-written-renamed (more tree rest) behind =
        ap (written (renamed_tree r tree)) (all-written-renamed rest behind) ∙ written-renamed tree (all_written rest behind)

  -- ---- their identifiers, one by one

  abbrev AreRenamedNames : List Identifier → List Identifier → Type 0
  AreRenamedNames identifiers others = AllZip (λ (i : Identifier) (j : Identifier). j.token ≡ renamed_token r i.token) identifiers others

  abbrev AreRenamed : List Identified → List Identified → Type 0
  AreRenamed identified others = AllZip (λ (i : Identified) (j : Identified). j.token ≡ renamed_token r i.token) identified others

  names-renamed : (number : ℕ) (tokens : List PlainToken) → AllZip SameButName tokens (map (renamed_token r) tokens) → AreRenamedNames (identifiers_from number tokens) (identifiers_from number (map (renamed_token r) tokens))
  names-renamed number [] alike = tt
  names-renamed number (token ∷ tokens) alike =
      by (is_name token) (is_name (renamed_token r token)) (ap (same t.Name) (same_terminal token (renamed_token r token) alike.0))
      (identifiers_from (number + 1) tokens) (identifiers_from (number + 1) (map (renamed_token r) tokens)) (names-renamed (number + 1) tokens alike.1)
    where
      by :
          (b c : Bool) → b ≡ c → (is was : List Identifier) → AreRenamedNames is was
          → AreRenamedNames (if b then record { number = number; token = token } ∷ is else is) (if c then record { number = number; token = renamed_token r token } ∷ was else was)
      by true true e is was rest = (refl, rest)
      by false false e is was rest = rest
      by true false e is was rest = absurd (false≢true (sym e))
      by false true e is was rest = absurd (false≢true e)

  entities-renamed :
      (is was : List Identifier) (bindings others : List Binding) → AreRenamedNames is was → length (with_entities is bindings) ≡ length (with_entities was others)
      → AreRenamed (with_entities is bindings) (with_entities was others)
  entities-renamed [] [] bindings others names many = tt
  entities-renamed [] (j ∷ was) bindings others names many = absurd names
  entities-renamed (i ∷ is) [] bindings others names many = absurd names
  entities-renamed (i ∷ is) (j ∷ was) [] [] names many = tt
  entities-renamed (i ∷ is) (j ∷ was) [] (c ∷ others) names many = absurd cc
  entities-renamed (i ∷ is) (j ∷ was) (b ∷ bindings) [] names many = absurd cc
  entities-renamed (i ∷ is) (j ∷ was) (b ∷ bindings) (c ∷ others) names many = (names.0, entities-renamed is was bindings others names.1 cc)

  -- ---- `main`

  -- the identifier isn't renamed, or isn't `main`
  abbrev pub IsNoRenamedMain : Identified → Type 0
  IsNoRenamedMain i = IsTrue (is_renamed r i.token.origin.file i.token.origin.span) → i.token.text ≡ codes "main" → ⊥

  new-no-main : (name : List ℕ) → IsTrue (is_new_name name) → bytes_eq name (codes "main") ≡ false
  new-no-main name good = by (bytes_eq name (codes "main")) refl
    where
      by : (b : Bool) → bytes_eq name (codes "main") ≡ b → bytes_eq name (codes "main") ≡ false
      by false e = e
      by true e = absurd (false≢true (subst (λ (n : List ℕ). IsTrue (is_new_name n)) ((bytes_decides name (codes "main")).0 e) good))

  main-kept : IsTrue (is_new_name r.new) → (i j : Identified) → j.token ≡ renamed_token r i.token → IsNoRenamedMain i → is_main i ≡ is_main j
  main-kept good i j e no_main =
      by (is_renamed r i.token.origin.file i.token.origin.span) no_main ∙ sym (ap (λ (token : PlainToken). bytes_eq token.text (codes "main")) e)
    where
      other-text : (b : Bool) → bytes_eq i.token.text (codes "main") ≡ b → (i.token.text ≡ codes "main" → ⊥) → bytes_eq i.token.text (codes "main") ≡ false
      other-text false is not_main = is
      other-text true is not_main = absurd (not_main ((bytes_decides i.token.text (codes "main")).0 is))

      by : (b : Bool) → (IsTrue b → i.token.text ≡ codes "main" → ⊥) → bytes_eq i.token.text (codes "main") ≡ bytes_eq (if b then r.new else i.token.text) (codes "main")
      by true not_main = other-text (bytes_eq i.token.text (codes "main")) refl (not_main refl) ∙ sym (new-no-main r.new good)
      by false not_main = refl

  all-main-kept :
      IsTrue (is_new_name r.new) → (is was : List Identified) → AreRenamed is was → ((i : Identified) → In i is → IsNoRenamedMain i)
      → AllZip (λ i j. is_main i ≡ is_main j) is was
  all-main-kept good [] [] renamed no_main = tt
  all-main-kept good [] (j ∷ was) renamed no_main = absurd renamed
  all-main-kept good (i ∷ is) [] renamed no_main = absurd renamed
  all-main-kept good (i ∷ is) (j ∷ was) renamed no_main =
      (main-kept good i j renamed.0 (no_main i (inl refl)), all-main-kept good is was renamed.1 (λ k among. no_main k (inr among)))

  -- ---- units

  numbers-in : (unit : UnitNames) → length (bound_numbers unit) ≡ length unit.identified
  numbers-in unit =
      length-map (occurrences_of unit) (λ o. record { identifier = o.identifier.number; declared_by = o.declared_by.number })
      ∙ length-map unit.identified (occurrence_among unit.identified)

  as-many : (unit other : UnitNames) → bound_numbers unit ≡ bound_numbers other → length unit.identified ≡ length other.identified
  as-many unit other e = sym (numbers-in unit) ∙ (ap (λ (l : List BoundNumber). length l) e ∙ numbers-in other)

  unit-main-kept :
      IsTrue (is_new_name r.new) → (tree : PlainTree) (structs others : List Struct) → SameButNames tree (renamed_tree r tree)
      → bound_numbers (names_of_unit tree (judged_behind structs tree)) ≡ bound_numbers (names_of_unit (renamed_tree r tree) (judged_behind others (renamed_tree r tree)))
      → ((i : Identified) → In i (names_of_unit tree (judged_behind structs tree)).identified → IsNoRenamedMain i)
      → AllZip (λ i j. is_main i ≡ is_main j) (names_of_unit tree (judged_behind structs tree)).identified (names_of_unit (renamed_tree r tree) (judged_behind others (renamed_tree r tree))).identified
  unit-main-kept good tree structs others but_names bound no_main =
      all-main-kept good (names_of_unit tree (judged_behind structs tree)).identified (names_of_unit (renamed_tree r tree) (judged_behind others (renamed_tree r tree))).identified
      (entities-renamed (identifiers_from 0 (spelled tree)) (identifiers_from 0 (spelled (renamed_tree r tree))) (judged_bindings (judged_behind structs tree)) (judged_bindings (judged_behind others (renamed_tree r tree)))
      (subst (λ (tokens : List PlainToken). AreRenamedNames (identifiers_from 0 (spelled tree)) (identifiers_from 0 tokens)) (sym (written-renamed tree []))
      (names-renamed 0 (spelled tree) (subst (λ (tokens : List PlainToken). AllZip SameButName (spelled tree) tokens) (written-renamed tree []) (tokens-alike but_names [] [] tt))))
      (as-many (names_of_unit tree (judged_behind structs tree)) (names_of_unit (renamed_tree r tree) (judged_behind others (renamed_tree r tree))) bound)) no_main

  pub units-main-kept :
      IsTrue (is_new_name r.new) → (trees : List PlainTree) (structs others : List Struct) → AllZip SameButNames trees (renamed_all r trees)
      → map bound_numbers (names_behind structs trees) ≡ map bound_numbers (names_behind others (renamed_all r trees))
      → ((place : ℕ) (unit : UnitNames) → slice_get (names_behind structs trees) place ≡ Some unit → (i : Identified) → In i unit.identified → IsNoRenamedMain i)
      → HaveMainAlike (names_behind structs trees) (names_behind others (renamed_all r trees))
  units-main-kept good [] structs others but_names bound no_main = tt
  units-main-kept good (tree ∷ trees) structs others but_names bound no_main =
      let first : bound_numbers (names_of_unit tree (judged_behind structs tree)) ≡ bound_numbers (names_of_unit (renamed_tree r tree) (judged_behind others (renamed_tree r tree))) = cc in
      let rest : map bound_numbers (names_behind (structs_behind structs (judged_behind structs tree)) trees) ≡ map bound_numbers (names_behind (structs_behind others (judged_behind others (renamed_tree r tree))) (renamed_all r trees)) = cc in (
        unit-main-kept good tree structs others but_names.0 first (no_main zero (names_of_unit tree (judged_behind structs tree)) refl),
        units-main-kept good trees (structs_behind structs (judged_behind structs tree)) (structs_behind others (judged_behind others (renamed_tree r tree))) but_names.1 rest
            (λ place. no_main (suc place)),
      )
