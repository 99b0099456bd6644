-- What ties between tokens of files tell of the products of a project.
use Rattle.std.specs.Prelude.{◌≡◌, ◌↔◌, Bool, List, length, Some, Contains, IsTrue}
use Rattle.text_edits.specs.Files.{PlainFile}
use Rattle.cond_formula.specs.Features.{has}
use Rattle.cond_formula.specs.Conditions.{value}
use Rattle.project_file.specs.Projects.{PlainProject}
use Rattle.command_projects.specs.Least.{IsAdmitted}
use Rattle.program_occurrences.specs.Occurrences.{UnitNames, declares_itself, OccursIn, CommonName, common_name}
use Rattle.program_occurrences.specs.Classes.{PlainFileToken, file_token, declaring_token}
use Rattle.reference_classes.specs.Products.{Product, names_in}
use Rattle.tied_tokens.specs.Ties.{PlainTie, PlainDeclaredName, PlainTiedTokens, NamesFeaturesBelow}

-- ---- what there is in the units of a product

-- an occurrence whose identifier, and what declares it, are copies of these tokens
pub record IsDeclaredBy (units : List UnitNames) (identifier declared_by : PlainFileToken) : Type 0 where
  pub found : OccursIn units
  pub identifier_is : file_token found.occurrence ≡ identifier
  pub declared_by_is : declaring_token found.occurrence ≡ declared_by

-- an identifier that declares itself, is a copy of this token, and is known in all units by this name
pub record DeclaresName (units : List UnitNames) (token : PlainFileToken) (name : CommonName) : Type 0 where
  pub found : OccursIn units
  pub itself : IsTrue (declares_itself found.occurrence)
  pub token_is : file_token found.occurrence ≡ token
  pub name_is : common_name found.unit found.occurrence.identifier ≡ Some name

-- ---- what ties and declared names say of a configuration

module _ (all : PlainTiedTokens) (c : List Bool) where
  -- a tie of these tokens is true in it
  pub record Ties (identifier declared_by : PlainFileToken) : Type 0 where
    pub tie : PlainTie
    pub among : Contains all.ties tie
    pub holds : IsTrue (value (has c) tie.when)
    pub identifier_is : tie.identifier ≡ identifier
    pub declared_by_is : tie.declared_by ≡ declared_by

  -- that this token declares this name is true in it
  pub record Names (token : PlainFileToken) (name : CommonName) : Type 0 where
    pub entry : PlainDeclaredName
    pub among : Contains all.names entry
    pub holds : IsTrue (value (has c) entry.when)
    pub token_is : entry.token ≡ token
    pub name_is : entry.name ≡ name

-- Ties and declared names tell what there is in the products of a project, in each configuration that it admits.
pub record TellsProducts (project : PlainProject) (files : List PlainFile) (all : PlainTiedTokens) : Type 0 where
  pub model : all.admitted ≡ project.model
  pub features : NamesFeaturesBelow (length project.features) all
  pub accepted : (c : List Bool) → IsAdmitted project c → IsTrue (value (has c) all.accepted) ↔ Product project files c
  pub ties :
      (c : List Bool) (product : Product project files c) (identifier declared_by : PlainFileToken)
      → Ties all c identifier declared_by ↔ IsDeclaredBy (names_in product) identifier declared_by
  pub names :
      (c : List Bool) (product : Product project files c) (token : PlainFileToken) (name : CommonName)
      → Names all c token name ↔ DeclaresName (names_in product) token name
