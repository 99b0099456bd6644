use Rattle.std.proofs.Common.{◌≡◌, ◌+◌, ◌≤◌, Bool, IsTrue, List, [], length}
use Rattle.cond_formula.specs.Features.{has}
use Rattle.cond_formula.specs.Conditions.{value}
use Rattle.conditional.specs.Entries.{listed, seen}
use Rattle.matched_lists.specs.Matched.{Rule, matched, AreThere, Follows}
use Rattle.matched_lists.specs.Rows.{after, places, left_at, Leads}
use Rattle.matched_lists.proofs.rows.match_lists.Given as goal

abbrev pub invariant-loop-x : goal.invariant-loop-x
invariant-loop-x g l = record {
  kept : g.O.Oracle.admits l.oracle ≡ g.O.Oracle.admits l.fn.oracle;
  long : length l.row.items ≤ length l.ys + 1;
  leads : (n : List Bool) (rule : Rule g.M.Matching.First g.M.Matching.Second g.R.Plain.Form) (ps : List g.M.Matching.First) (qs : List g.M.Matching.Second)
      → IsTrue (value (has n) (g.O.Oracle.admits l.fn.oracle)) → Follows g.R.Plain.form (has n) (g.M.Matching.answers l.matching n) l.longer rule
      → AreThere (has n) (g.M.Matching.first l.matching n) l.xs ps → AreThere (has n) (g.M.Matching.second l.matching n) l.ys qs
      → Leads (has n) (matched rule ps qs) (seen (has n) (listed g.R.Plain.form l.refusals)) (places (left_at (has n) rule (after (has n) l.xs ps l.x-index) l.ys qs) 0 l.row.items) [];
}
