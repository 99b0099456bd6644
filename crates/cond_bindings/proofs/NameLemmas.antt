-- The names once there is one more declaration.
use Rattle.std.proofs.Common.{◌≡◌, ℕ, Bool, true, false, List, [], ◌∷◌, ◌++◌, length, map, refl, ap, ◌∙◌}
use Rattle.std.specs.Prelude.{Option, Some, if◌then◌else◌}
use Rattle.std.specs.List.{list_all}
use Rattle.std.specs.Str.{bytes_eq}
use Rattle.std.proofs.Math.Path.{fun_ext}
use Rattle.std.proofs.lemmas.Bool.{and_parts}
use Rattle.cond_formula.specs.Conditions.{Condition, condition_of}
use Rattle.core_meaning.specs.Entities.{with_entry}
use Rattle.cond_bindings.specs.declared.unit_bindings.Declaration.{Declaration}
use Rattle.cond_bindings.specs.declared.unit_bindings.FileUse.{FileUse}
use Rattle.cond_bindings.specs.declared.unit_bindings.Identifier.{Identifier}
use Rattle.cond_bindings.specs.declared.unit_bindings.Meaning.{Meaning}
use Rattle.cond_bindings.specs.declared.unit_bindings.Meaning.TheVariants.{Use, Declares}
use Rattle.cond_bindings.specs.Bindings.{Visible, visible, PlainMeaning, use_of, declares, PlainIdentifier, plain_meaning, plain_identifier, PlainUse, plain_use}
use Rattle.cond_bindings.specs.Names.{BlockName, PlainNames, visible_in}
use Rattle.cond_bindings.specs.NameSteps.{as_visible, with_visible, with_file, with_tag, with_local}
use Rattle.cond_bindings.specs.Places.{LocalPlace, innermost_in, is_below, meaning_below, identifier_below, local_below, TableBelow, IdentifiersBelow}
use Rattle.cond_bindings.specs.PlainNames.{block_name, names_of}
use Rattle.cond_bindings.proofs.BelowLemmas.{all_mapped}
use Rattle.cond_bindings.proofs.PlaceLemmas.{visible_none, visible_kept, visible_new}

-- all places are below the end of the list
pub record AreBelow (count : ℕ) (file tags : List ℕ → Option ℕ) (locals : List LocalPlace) (identifiers : List Identifier) : Type 0 where
  pub file_below : TableBelow count file
  pub tags_below : TableBelow count tags
  pub locals_below : list_all (local_below count) locals ≡ true
  pub identifiers_below : IdentifiersBelow count identifiers

-- the declarations that a use finds in open blocks
pub visible_innermost : (ds : List Declaration) (locals : List LocalPlace) (name : List ℕ) → visible ds (innermost_in locals name) ≡ visible_in (map (block_name ds) locals) name
visible_innermost ds [] name = visible_none ds
visible_innermost ds (l ∷ outer) name =
    picked (bytes_eq name l.name) (Some l.place) (innermost_in outer name) (visible_in (map (block_name ds) outer) name) (visible_innermost ds outer name)
  where
    picked : (b : Bool) (x y : Option ℕ) (vs : List Visible) → visible ds y ≡ vs → visible ds (if b then x else y) ≡ (if b then visible ds x else vs)
    picked true x y vs h = refl
    picked false x y vs h = h

module _ (ds : List Declaration) (d : Declaration) where
  meaning_kept : (meaning : Meaning) → meaning_below (length ds) meaning ≡ true → plain_meaning (ds ++ d ∷ []) meaning ≡ plain_meaning ds meaning
  meaning_kept (Use block file) below =
      let parts = and_parts (is_below (length ds) block) (is_below (length ds) file) below in
      ap (λ vs. use_of vs (visible (ds ++ d ∷ []) file)) (visible_kept ds d block parts.0) ∙ ap (use_of (visible ds block)) (visible_kept ds d file parts.1)
  meaning_kept (Declares earlier) below = ap declares (visible_kept ds d earlier below)

  identifier_kept : (i : Identifier) → identifier_below (length ds) i ≡ true → plain_identifier (ds ++ d ∷ []) i ≡ plain_identifier ds i
  identifier_kept i below =
      ap (λ (m : PlainMeaning). let x : PlainIdentifier = record { number = i.number; when = condition_of i.when; meaning = m } in x) (meaning_kept i.meaning below)

  block_kept : (l : LocalPlace) → local_below (length ds) l ≡ true → block_name (ds ++ d ∷ []) l ≡ block_name ds l
  block_kept l below = ap (λ (vs : List Visible). let b : BlockName = record { name = l.name; visible = vs } in b) (visible_kept ds d (Some l.place) below)

  identifiers_kept : (identifiers : List Identifier) → IdentifiersBelow (length ds) identifiers → map (plain_identifier (ds ++ d ∷ [])) identifiers ≡ map (plain_identifier ds) identifiers
  identifiers_kept = all_mapped (identifier_below (length ds)) (plain_identifier (ds ++ d ∷ [])) (plain_identifier ds) identifier_kept

  blocks_kept : (locals : List LocalPlace) → list_all (local_below (length ds)) locals ≡ true → map (block_name (ds ++ d ∷ [])) locals ≡ map (block_name ds) locals
  blocks_kept = all_mapped (local_below (length ds)) (block_name (ds ++ d ∷ [])) (block_name ds) block_kept

  table_kept : (table : List ℕ → Option ℕ) → TableBelow (length ds) table → ◌≡◌ {A = List ℕ → List Visible} (λ name. visible (ds ++ d ∷ []) (table name)) (λ name. visible ds (table name))
  table_kept table below = fun_ext (λ name. visible_kept ds d (table name) (below name))

  chosen : (b : Bool) (place : Option ℕ) → is_below (length ds) place ≡ true → visible (ds ++ d ∷ []) (if b then Some (length ds) else place) ≡ (if b then as_visible d ∷ visible ds d.hides else visible ds place)
  chosen true place below = visible_new ds d
  chosen false place below = visible_kept ds d place below

  table_shown : (table : List ℕ → Option ℕ) (name : List ℕ) → d.hides ≡ table name → TableBelow (length ds) table → (λ other. visible (ds ++ d ∷ []) (with_entry table name (length ds) other)) ≡ with_visible (λ n. visible ds (table n)) name (as_visible d)
  table_shown table name hides below =
      fun_ext (λ other. chosen (bytes_eq other name) (table other) (below other) ∙ ap (λ place. if bytes_eq other name then as_visible d ∷ visible ds place else visible ds (table other)) hides)

  blocks_shown : (locals : List LocalPlace) (name : List ℕ) → d.hides ≡ innermost_in locals name → list_all (local_below (length ds)) locals ≡ true → map (block_name (ds ++ d ∷ [])) (record { name = name; place = length ds } ∷ locals) ≡ record { name = name; visible = as_visible d ∷ visible_in (map (block_name ds) locals) name } ∷ map (block_name ds) locals
  blocks_shown locals name hides below =
      ap (λ (vs : List Visible). let b : BlockName = record { name = name; visible = vs } in b ∷ map (block_name (ds ++ d ∷ [])) locals)
      (visible_new ds d ∙ ap (λ place. as_visible d ∷ visible ds place) hides ∙ ap (λ vs. as_visible d ∷ vs) (visible_innermost ds locals name))
      ∙ ap (λ (bs : List BlockName). let b : BlockName = record { name = name; visible = as_visible d ∷ visible_in (map (block_name ds) locals) name } in b ∷ bs) (blocks_kept locals below)

same_names : (f g t u : List ℕ → List Visible) (bs cs : List BlockName) (is js : List PlainIdentifier) (uses : List PlainUse) (refused : Condition) → f ≡ g → t ≡ u → bs ≡ cs → is ≡ js → let named : (List ℕ → List Visible) → (List ℕ → List Visible) → List BlockName → List PlainIdentifier → PlainNames = λ file tags blocks identifiers. record { file = file; tags = tags; blocks = blocks; identifiers = identifiers; uses = uses; refused = refused } in named f t bs is ≡ named g u cs js
same_names f g t u bs cs is js uses refused ef et eb ei =
    let named : (List ℕ → List Visible) → (List ℕ → List Visible) → List BlockName → List PlainIdentifier → PlainNames = λ file tags blocks identifiers. record { file = file; tags = tags; blocks = blocks; identifiers = identifiers; uses = uses; refused = refused } in
    ap (λ x. named x t bs is) ef ∙ ap (λ x. named g x bs is) et ∙ ap (λ x. named g u x is) eb ∙ ap (λ x. named g u cs x) ei

module _ (ds longer : List Declaration) (d : Declaration) (file tags : List ℕ → Option ℕ) (locals : List LocalPlace) (identifiers : List Identifier) (uses : List FileUse) (refused : Condition) (name : List ℕ) (below : AreBelow (length ds) file tags locals identifiers) (one_more : longer ≡ ds ++ d ∷ []) where
  pub file_shown : (entered : List ℕ → Option ℕ) → d.hides ≡ file name → entered ≡ with_entry file name (length ds) → names_of longer entered tags locals identifiers uses refused ≡ with_file (names_of ds file tags locals identifiers uses refused) name (as_visible d)
  file_shown entered hides is =
      ap (λ (ls : List Declaration). names_of ls entered tags locals identifiers uses refused) one_more
      ∙ ap (λ (table : List ℕ → Option ℕ). names_of (ds ++ d ∷ []) table tags locals identifiers uses refused) is
      ∙ same_names _ _ _ _ _ _ _ _ (map plain_use uses) refused (table_shown ds d file name hides below.file_below) (table_kept ds d tags below.tags_below) (blocks_kept ds d locals below.locals_below) (identifiers_kept ds d identifiers below.identifiers_below)

  pub tag_shown : (entered : List ℕ → Option ℕ) → d.hides ≡ tags name → entered ≡ with_entry tags name (length ds) → names_of longer file entered locals identifiers uses refused ≡ with_tag (names_of ds file tags locals identifiers uses refused) name (as_visible d)
  tag_shown entered hides is =
      ap (λ (ls : List Declaration). names_of ls file entered locals identifiers uses refused) one_more
      ∙ ap (λ (table : List ℕ → Option ℕ). names_of (ds ++ d ∷ []) file table locals identifiers uses refused) is
      ∙ same_names _ _ _ _ _ _ _ _ (map plain_use uses) refused (table_kept ds d file below.file_below) (table_shown ds d tags name hides below.tags_below) (blocks_kept ds d locals below.locals_below) (identifiers_kept ds d identifiers below.identifiers_below)

  pub local_shown : (entered : List LocalPlace) → d.hides ≡ innermost_in locals name → entered ≡ record { name = name; place = length ds } ∷ locals → names_of longer file tags entered identifiers uses refused ≡ with_local (names_of ds file tags locals identifiers uses refused) name (as_visible d)
  local_shown entered hides is =
      ap (λ (ls : List Declaration). names_of ls file tags entered identifiers uses refused) one_more
      ∙ ap (λ (ls : List LocalPlace). names_of (ds ++ d ∷ []) file tags ls identifiers uses refused) is
      ∙ same_names _ _ _ _ _ _ _ _ (map plain_use uses) refused (table_kept ds d file below.file_below) (table_kept ds d tags below.tags_below) (blocks_shown ds d locals name hides below.locals_below) (identifiers_kept ds d identifiers below.identifiers_below)
