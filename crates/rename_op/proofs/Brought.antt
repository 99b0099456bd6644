-- What is brought along in units that are those of a product but for sites is of the class too.
use Rattle.std.proofs.Common.{◌≡◌, Bool, List, Some, refl, ap, subst}
use Rattle.std.specs.Prelude.{IsTrue}
use Rattle.text_edits.specs.Files.{PlainFile}
use Rattle.c_tree.specs.Trees.{PlainTree}
use Rattle.project_file.specs.Projects.{PlainProject}
use Rattle.program_occurrences.specs.Occurrences.{UnitNames, names_of_units, declares_itself, OccursIn, CommonName, common_name}
use Rattle.program_occurrences.specs.Classes.{PlainFileToken, copied_by, file_token, declaring_token, Brings, by_declaration, by_occurrence, by_name, brought}
use Rattle.program_occurrences.specs.Laws.{DeclarationsAreOccurrences, TokensBringBack}
use Rattle.reference_classes.specs.Products.{Product, names_in, InClass}
use Rattle.tied_classes.specs.Told.{DeclaresName}
use Rattle.tied_classes.proofs.Numbers.{declared_by_one}
use Rattle.sited_names.specs.Laws.{AreTiedAlike}

module _ (declared : DeclarationsAreOccurrences) (back : TokensBringBack) (project : PlainProject) (files : List PlainFile) (place : PlainFileToken) (c : List Bool)
    (product : Product project files c) (trees : List PlainTree) (alike : AreTiedAlike (names_in product) (names_of_units trees)) where
  abbrev units : List UnitNames
  units = names_of_units trees

  abbrev Member : PlainFileToken → Type 0
  Member token = InClass project files place token

  also : (a b : PlainFileToken) → Brings (names_in product) a b → Member a → Member b
  also a b brings inner = brought (names_in product) (record { configuration = c; product = product; same = refl }) inner brings

  -- an occurrence brings what declares it along in the product too
  declaration : (o : OccursIn units) → Brings (names_in product) (file_token o.occurrence) (declaring_token o.occurrence)
  declaration o =
      let d = (alike.declared (file_token o.occurrence) (declaring_token o.occurrence)).1 (record { found = o; identifier_is = refl; declared_by_is = refl }) in
      subst (λ (x : PlainFileToken). Brings (names_in product) x (declaring_token o.occurrence)) d.identifier_is
      (subst (λ (y : PlainFileToken). Brings (names_in product) (file_token d.found.occurrence) y) d.declared_by_is (by_declaration d.found))

  -- and declares its name in common there
  declares : (o : OccursIn units) (name : CommonName) → IsTrue (declares_itself o.occurrence) → common_name o.unit o.occurrence.identifier ≡ Some name
      → DeclaresName (names_in product) (file_token o.occurrence) name
  declares o name itself known = (alike.named (file_token o.occurrence) name).1 (record { found = o; itself = itself; token_is = refl; name_is = known })

  same_name : (a b : PlainFileToken) (name : CommonName) → DeclaresName (names_in product) a name → DeclaresName (names_in product) b name → Brings (names_in product) a b
  same_name a b name d e =
      subst (λ (x : PlainFileToken). Brings (names_in product) x b) d.token_is
      (subst (λ (y : PlainFileToken). Brings (names_in product) (file_token d.found.occurrence) y) e.token_is
      (by_name d.found e.found name d.itself e.itself d.name_is e.name_is))

  pub brought_along : {a b : PlainFileToken} → Brings units a b → Member a → Member b
  brought_along (by_declaration o) inner = also (file_token o.occurrence) (declaring_token o.occurrence) (declaration o) inner
  brought_along (by_occurrence o p at number) inner =
      let one : declaring_token o.occurrence ≡ declaring_token p.occurrence = ap copied_by (declared_by_one declared trees o p at number) in
      let first = also (file_token o.occurrence) (declaring_token o.occurrence) (declaration o) inner in
      also (declaring_token p.occurrence) (file_token p.occurrence) (back (names_in product) (file_token p.occurrence) (declaring_token p.occurrence) (declaration p))
      (subst Member one first)
  brought_along (by_name o p name first second known too) inner =
      also (file_token o.occurrence) (file_token p.occurrence)
      (same_name (file_token o.occurrence) (file_token p.occurrence) name (declares o name first known) (declares p name second too)) inner
