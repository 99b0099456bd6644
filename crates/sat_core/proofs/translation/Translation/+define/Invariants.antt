use Rattle.std.proofs.Common.{◌≡◌, ◌+◌, ◌<◌, ◌++◌, drop, All}
use Rattle.cond_formula.specs.Conditions.{conditions_of}
use Rattle.clause_search.specs.Answers.{literals_of}
use Rattle.sat_core.specs.Numbering.{node_count_of, parts_clauses, parts_variables}
use Rattle.sat_core.proofs.translation.Translation.+define.Given as goal

abbrev pub invariant-define_parts-loop-part : goal.invariant-define_parts-loop-part
invariant-define_parts-loop-part l = record {
  variables : l.variables.items ++ parts_variables l.self.vars (conditions_of (drop l.part-index l.parts)) ≡ parts_variables l.initial.self.vars (conditions_of l.parts);
  small : All (λ v. v < 2147483648) l.variables.items;
  added : literals_of l.self.clauses.items ++ parts_clauses l.self.vars (conditions_of (drop l.part-index l.parts)) ≡ literals_of l.initial.self.clauses.items ++ parts_clauses l.initial.self.vars (conditions_of l.parts);
  counted : l.self.vars + node_count_of (conditions_of (drop l.part-index l.parts)) ≡ l.initial.self.vars + node_count_of (conditions_of l.parts);
}
