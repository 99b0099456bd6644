use Rattle.std.proofs.Common.{◌≡◌, take, map}
use Rattle.text_edits.specs.Files.{plain_file}
use Rattle.project_store.specs.States.{IsReadAlone}
use Rattle.project_store.specs.Reads.{AreFilesOf}
use Rattle.project_store.proofs.ReadLemmas.{text_of}
use Rattle.project_store.proofs.reads.read_all.Given as goal

abbrev pub invariant-loop-name : goal.invariant-loop-name
invariant-loop-name g l = record {
  read : AreFilesOf (g.S.Store.state l.fn.store) (map text_of (take l.name-index l.names)) (map plain_file l.list.items);
  alone : IsReadAlone (g.S.Store.state l.fn.store) (g.S.Store.state l.store);
  none : (g.S.Store.state l.fn.store).exact → (g.S.Store.state l.store).read_faults ≡ (g.S.Store.state l.fn.store).read_faults;
}
