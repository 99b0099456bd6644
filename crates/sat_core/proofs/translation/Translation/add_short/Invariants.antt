use Rattle.std.proofs.Common.{◌≡◌, ◌++◌, take}
use Rattle.clause_search.specs.Answers.{literals_of}
use Rattle.sat_core.specs.Numbering.{short_clauses}
use Rattle.sat_core.proofs.translation.Translation.add_short.Given as goal

abbrev pub invariant-loop-part : goal.invariant-loop-part
invariant-loop-part l = record {
  added : literals_of l.self.clauses.items ≡ literals_of l.initial.self.clauses.items ++ short_clauses l.positive l.variable (take l.part-index l.parts);
  counted : l.self.vars ≡ l.initial.self.vars;
}
