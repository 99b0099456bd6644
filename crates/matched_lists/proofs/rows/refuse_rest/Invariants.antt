use Rattle.std.proofs.Common.{ℕ, Bool, [], ◌∷◌, Option, drop, option_map}
use Rattle.conditional.specs.Entries.{listed, seen}
use Rattle.matched_lists.specs.Rows.{leaving, places, LeftAlone, Leads}
use Rattle.matched_lists.proofs.rows.refuse_rest.Given as goal

abbrev pub invariant-loop-place : goal.invariant-loop-place
invariant-loop-place g l =
    (on : ℕ → Bool) (left : ℕ → Option g.R.Plain.Form) (v : Option g.R.Plain.Form) → LeftAlone on (option_map g.R.Plain.form l.why) left 0 l.ys
    → Leads on v (seen on (listed g.R.Plain.form l.fn.refusals)) (places left 0 l.row) []
    → record {
      alone : LeftAlone on (option_map g.R.Plain.form l.why) left l.place (drop l.place l.ys);
      leads : Leads on v (seen on (listed g.R.Plain.form l.refusals)) (leaving l.across (left l.place) ∷ places left l.place (drop l.place l.row)) [];
    }
