-- Which identifiers are copies of tokens of a listed class.
use Rattle.std.proofs.Common.{◌≡◌, ℕ, true, List, refl}
use Rattle.std.specs.Prelude.{◌↔◌, IsTrue, Contains}
use Rattle.std.specs.List.{list_any}
use Rattle.std.proofs.lemmas.Bool.{and_parts, and_from}
use Rattle.text_edits.specs.Files.{PlainFile}
use Rattle.c_text.specs.declared.origin.FileToken.{FileToken}
use Rattle.c_text.specs.declared.origin.Place.TheVariants.{MacroBody}
use Rattle.c_text.specs.Token.{PlainToken}
use Rattle.core_meaning.specs.Checking.{own_entity}
use Rattle.bindings.specs.Judged.{Identified}
use Rattle.project_file.specs.Projects.{PlainProject}
use Rattle.program_occurrences.specs.Occurrences.{Occurrence}
use Rattle.program_occurrences.specs.Classes.{PlainFileToken, copied_by}
use Rattle.reference_classes.specs.Products.{InClass}
use Rattle.tied_tokens.specs.Tokens.{plain_file_tokens}
use Rattle.changed_forests.specs.Renamed.{is_name, copies, is_of_class}
use Rattle.class_touches.specs.Laws.{IsListOf}
use Rattle.class_occurrences.specs.Laws.{TestsAreOfPreconditions}

module _ (tests : TestsAreOfPreconditions) (class : List FileToken) where
  -- The test of occurrences that come out of bodies of macros is of the class alone where one does: so it tells of any token whether it is a copy
  -- of one that is listed.
  abbrev out_of_body : PlainToken → Identified
  out_of_body t = record { number = 0; token = record t { origin = record t.origin { place = MacroBody } }; entity = own_entity }

  abbrev as_occurrence : PlainToken → Occurrence
  as_occurrence t = record { identifier = out_of_body t; declared_by = out_of_body t }

  listed : (t : PlainToken) → IsTrue (list_any (λ of. copies of t) class) ↔ Contains (plain_file_tokens class) (copied_by t)
  listed t = (
    λ h. ((tests.macro_bodies class (as_occurrence t)).0 h).member,
    λ m. (tests.macro_bodies class (as_occurrence t)).1 (record { member = m; holds = refl }),
  )

  module _ (new : List ℕ) (project : PlainProject) (files : List PlainFile) (place : PlainFileToken) (lists : IsListOf project files place (plain_file_tokens class)) where
    pub of_class_in : (t : PlainToken) → is_of_class class new t ≡ true → InClass project files place (copied_by t)
    of_class_in t h = (lists (copied_by t)).0 ((listed t).0 (and_parts (is_name t.kind) (list_any (λ of. copies of t) class) h).1)

    pub in_of_class : (t : PlainToken) → IsTrue (is_name t.kind) → InClass project files place (copied_by t) → is_of_class class new t ≡ true
    in_of_class t name member =
        and_from (is_name t.kind) (list_any (λ of. copies of t) class) name ((listed t).1 ((lists (copied_by t)).1 member))
