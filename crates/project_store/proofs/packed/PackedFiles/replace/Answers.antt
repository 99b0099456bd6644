use Rattle.std.proofs.Common.{◌<◌, length, refl, arith}
use Rattle.std.proofs.lemmas.List.{length-map}
use Rattle.project_store.specs.declared.packed.Entry.{Entry}
use Rattle.project_store.specs.Packed.{file_at}
use Rattle.project_store.proofs.PackedLemmas.{files_at-replaced, All-within-more}
use Rattle.project_store.proofs.packed.PackedFiles.replace.Goals as goal

pub returns-clause-ok : goal.returns-clause-ok
returns-clause-ok c = λ d.
    let self = c.args.self.now in
    let entry : Entry = record { name = c.index_mut.result.now.name; content = c.in_ok-content.content } in
    let within = All-within-more _ (length self.buffer.items) self.entries.items (omega (arith, self.buffer.ok.0)) self.within in
    let fits : c.args.at < length self.entries.items = omega (arith, c.requires, length-map self.entries.items (file_at self.buffer.items)) in
    rw (c.in_ok-content.ensures.ok) (files_at-replaced self.buffer.items c.args.bytes.now self.entries.items c.args.at c.index_mut.result.now entry d within fits c.index_mut.ensures.value refl c.in_ok-content.ensures.start c.in_ok-content.ensures.end)
