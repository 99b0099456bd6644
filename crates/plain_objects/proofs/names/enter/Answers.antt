use Rattle.std.proofs.Common.{◌≡◌, sym, ap, ◌∙◌, rules}
use Rattle.std.specs.Prelude.{option_map}
use Rattle.core_meaning.specs.Entities as entities
use Rattle.core_meaning.specs.Entities.{Table}
use Rattle.plain_scope.specs.declared.entities.FileName.{FileName}
use Rattle.plain_scope.specs.PlainScope.{entry_of, plain_file_name}
use Rattle.plain_scope.proofs.NameLemmas.{entered, mapped_entry}
use Rattle.plain_objects.proofs.names.enter.Goals as goal

pub returns : goal.returns
returns c =
    let put = c.in_ok-insert.ensures.updates in
    let same : c.in_ok-from_slice.field-0.items ≡ c.args.name.now = search rules in
    let by_key = entered (λ k. k.items) c.in_ok-from_slice.field-0.items c.args.names.now.entries c.insert.new.self.entries c.args.entry put.1 put.3 in
    let plain : Table FileName → Table entities.FileName = λ table name. option_map plain_file_name (table name) in
    rw (sym same) (ap plain by_key ∙ mapped_entry plain_file_name (entry_of c.args.names.now) c.in_ok-from_slice.field-0.items c.args.entry)
