use Rattle.std.proofs.Common.{◌≡◌, Bool, IsTrue, List, [], ◌∷◌, Option, drop, length}
use Rattle.cond_formula.specs.Features.{has}
use Rattle.cond_formula.specs.Conditions.{value}
use Rattle.conditional.specs.Entries.{listed, seen}
use Rattle.matched_lists.specs.Matched.{Rule, there, StartsWith, behind, AreThere, Follows}
use Rattle.matched_lists.specs.Rows.{leaving, places, left_at, Leads}
use Rattle.matched_lists.proofs.rows.next_row.Given as goal

abbrev pub invariant-loop-place : goal.invariant-loop-place
invariant-loop-place g l = record {
  kept : g.O.Oracle.admits l.oracle ≡ g.O.Oracle.admits l.fn.oracle;
  long : length l.below.items ≡ l.place;
  leads : (n : List Bool) (rule : Rule g.M.Matching.First g.M.Matching.Second g.R.Plain.Form) (ps : List g.M.Matching.First) (qs : List g.M.Matching.Second) (v : Option g.R.Plain.Form)
      → IsTrue (value (has n) (g.O.Oracle.admits l.fn.oracle)) → Follows g.R.Plain.form (has n) (g.M.Matching.answers l.matching n) l.longer rule
      → StartsWith (there (has n) l.x) (g.M.Matching.first l.matching n) l.x.what ps → AreThere (has n) (g.M.Matching.second l.matching n) l.ys qs
      → Leads (has n) v (seen (has n) (listed g.R.Plain.form l.fn.refusals)) (places (left_at (has n) rule ps l.ys qs) 0 l.row) []
      → Leads (has n) v (seen (has n) (listed g.R.Plain.form l.refusals))
      (leaving l.across (left_at (has n) rule ps l.ys qs l.place) ∷ leaving l.diagonal (left_at (has n) rule (behind (there (has n) l.x) ps) l.ys qs l.place)
      ∷ places (left_at (has n) rule ps l.ys qs) l.place (drop l.place l.row))
      (places (left_at (has n) rule (behind (there (has n) l.x) ps) l.ys qs) 0 l.below.items);
}
