-- The ties of a project, without pointers and room.
use Rattle.std.specs.Prelude.{map}
use Rattle.cond_formula.specs.Conditions.{condition_of}
use Rattle.feature_model.specs.ModelView.{admitted}
use Rattle.project_file.specs.declared.projects.Project.{Project}
use Rattle.tied_tokens.specs.Ties.{PlainTiedTokens, plain_tie, plain_declared_name}
use Rattle.project_ties.specs.declared.projects.ProjectTies.{ProjectTies}

-- the ties and names of a project, in the configurations that it admits
abbrev pub tied_tokens_of : Project → ProjectTies → PlainTiedTokens
tied_tokens_of project t = record {
  admitted = admitted project.model;
  accepted = condition_of t.accepted;
  ties = map plain_tie t.ties.items;
  names = map plain_declared_name t.names.items;
}
