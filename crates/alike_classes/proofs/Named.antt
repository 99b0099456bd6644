-- A byte of the files leads to the same class in projects that are alike.
use Rattle.std.proofs.Common.{ℕ, Bool, List}
use Rattle.text_edits.specs.Files.{PlainFile}
use Rattle.project_file.specs.Projects.{PlainProject}
use Rattle.project_file.specs.Laws.{Alike}
use Rattle.command_projects.proofs.Decided.{alike_back}
use Rattle.reference_classes.specs.Preconditions.{IsFound}
use Rattle.named_classes.specs.Classes.{NamedClass, Finds, IsNamedClass}
use Rattle.alike_classes.specs.Laws.{NamedClassesAreAlike}
use Rattle.alike_classes.proofs.Projects.{somewhere-alike}
use Rattle.alike_classes.proofs.Classes.{list-there}
use Rattle.alike_classes.proofs.Preconditions.{found-there}

module _ (a b : PlainProject) (alike : Alike a b) (files : List PlainFile) (file offset : ℕ) where
  finds-there : (c : List Bool) → Finds a files file offset c → Finds b files file offset c
  finds-there c h = record { place = h.place; holds = h.holds; found = found-there a b alike files h.place c h.found }

  named-there : (class : NamedClass) → IsNamedClass a files file offset class → IsNamedClass b files file offset class
  named-there class h = record {
    holds = h.holds;
    written = h.written;
    found = somewhere-alike a b alike (IsFound a files class.place) (IsFound b files class.place) (found-there a b alike files class.place) h.found;
    members = list-there a b alike files class.place class.tokens h.members;
    in_order = h.in_order;
  }

pub named-alike : NamedClassesAreAlike
named-alike a b files alike =
    let back = alike_back a b alike in
    record {
      finds = λ file offset c. (finds-there a b alike files file offset c, finds-there b a back files file offset c);
      named = λ file offset class. (named-there a b alike files file offset class, named-there b a back files file offset class);
    }
