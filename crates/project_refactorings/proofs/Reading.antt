-- What is read of a project file whose text goes on too, and where the course comes to by that.
use Rattle.std.proofs.Common.{inl, inr, ℕ, List, [], ◌∷◌, Result, Ok, Err, refl}
use Rattle.std.proofs.lemmas.List.Elements.{All-nil, All-cons}
use Rattle.text_edits.specs.Files.{PlainFile}
use Rattle.project_file.specs.Projects.{PlainProject}
use Rattle.project_file.specs.Faults.{Fault}
use Rattle.project_store.specs.States.{StoreState, IsAbsent}
use Rattle.project_store.specs.Reads.{HasFault}
use Rattle.project_texts.specs.Texts.{IsProjectText}
use Rattle.command_promises.specs.declared.said.Said.{Said}
use Rattle.command_promises.specs.declared.said.Stop.{Stop}
use Rattle.command_promises.specs.declared.said.Stop.TheVariants.{ReadFault, WantOfMemory}
use Rattle.command_promises.specs.Courses.{Deed, reads, says, Course, IsThere, Comes}
use Rattle.command_promises.specs.Sayings.{saying, ComesToUnread, CameTo}
use Rattle.command_promises.proofs.Leading.{leads_by}
use Rattle.command_projects.specs.Faults.{bad_project}
use Rattle.command_outcomes.proofs.Courses.{file_with}
use Rattle.project_refactorings.specs.Refactorings.{WithProjectText}

module _ (store : StoreState) (name : List ℕ) (Then : PlainFile → PlainProject → Course) where
  pub comes_with_text : (bytes : List ℕ) (project : PlainProject) (deed : Deed) → IsProjectText store name bytes project → Comes (Then (file_with name bytes) project) store deed → Comes (WithProjectText name Then) store deed
  comes_with_text bytes project deed h c =
      let source = file_with name bytes in
      record {
        files = source ∷ c.files;
        are_there = All-cons (IsThere store) source c.files h.stands c.are_there;
        leads = (refl, leads_by (Then source project) (λ more. WithProjectText name Then (source ∷ more)) (λ files deed k. inr (project, h.is_project, k)) c.files deed c.leads);
      }

  -- what goes on with a project and its file goes on behind it
  pub came_with_text : (bytes : List ℕ) (project : PlainProject) (came : Result Said Stop) → IsProjectText store name bytes project → CameTo (Then (file_with name bytes) project) store came → CameTo (WithProjectText name Then) store came
  came_with_text bytes project (Ok said) is h = comes_with_text bytes project (says (saying said)) is h
  came_with_text bytes project (Err ReadFault) is h = record { name = h.name; comes = comes_with_text bytes project (reads h.name) is h.comes; absent = h.absent }
  came_with_text bytes project (Err WantOfMemory) is h = tt

  pub comes_to_text_fault : (fault : Fault) → HasFault store name fault → Comes (WithProjectText name Then) store (says (bad_project fault))
  comes_to_text_fault fault h =
      let source = file_with name h.bytes in
      record {
        files = source ∷ [];
        are_there = All-cons (IsThere store) source [] h.stands (All-nil (IsThere store));
        leads = (refl, inl (fault, h.first, refl));
      }

  pub unread_text : IsAbsent store name → ComesToUnread (WithProjectText name Then) store
  unread_text absent = record {
    name = name;
    comes = record { files = []; are_there = All-nil (IsThere store); leads = refl };
    absent = absent;
  }
