use Rattle.renamed_classes.proofs.Touched.{touched-keep}
use Rattle.renamed_classes.proofs.touched_classes_keep_programs.Goals as goal

pub returns : goal.returns
returns c = touched-keep (record {
  sources = c.sources_are_renamed.ensures;
  may_be = c.classes_may_be_renamed.ensures;
  alike_or_not = c.bound_alike_or_not.ensures;
  tell = c.bindings_tell_names.ensures;
  found = c.programs_are_found.ensures;
  run_alike = c.touched_projects_run_alike.ensures;
})
