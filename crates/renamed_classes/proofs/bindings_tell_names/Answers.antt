use Rattle.renamed_classes.proofs.Told.{bindings-told}
use Rattle.renamed_classes.proofs.bindings_tell_names.Goals as goal

pub returns : goal.returns
returns c = bindings-told (record {
  sources = c.sources_are_renamed.ensures;
  may_be = c.classes_may_be_renamed.ensures;
  spelt = c.tokens_are_spelt.ensures;
  run_alike = c.touched_projects_run_alike.ensures;
  bind_alike = c.units_of_programs_bind_alike.ensures;
  one_to_one = c.names_are_one_to_one.ensures;
  linked_alike = c.names_are_linked_alike.ensures;
})
