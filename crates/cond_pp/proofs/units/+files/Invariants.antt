use Rattle.std.proofs.Common.{◌≡◌, ℕ, Bool, ◌||◌, List, ◌+◌, ◌*◌, drop, map, IsTrue}
use Rattle.std.specs.String.{string_bytes}
use Rattle.cond_formula.specs.Features.{has}
use Rattle.cond_formula.specs.Conditions.{condition_of, value}
use Rattle.c_text.specs.Token.{PlainToken}
use Rattle.c_text.specs.Lines.{plain_line}
use Rattle.c_text.specs.Preprocessing as spec
use Rattle.active_tokens.specs.Active.{AreMisplaced, reads_of_source}
use Rattle.file_walks.specs.Walk.{walked}
use Rattle.unit_files.specs.Inclusions.{plain_source}
use Rattle.unit_files.specs.SourceFiles.{AreSources, deeper_of}
use Rattle.read_walks.specs.SourceReads.{following_in}
use Rattle.read_walks.specs.WalkReads.{reads_of_walk}
use Rattle.cond_readings.specs.Readings.{reading_at, taken}
use Rattle.cond_pp.specs.Walks.{IsFit, ahead, reads_ahead}
use Rattle.cond_pp.specs.Watches.{is_seen, read_where}
use Rattle.cond_pp.proofs.units.+files.Given as goal

abbrev pub decreases-enter : goal.decreases-enter
decreases-enter g l = 2 * l.more

abbrev pub decreases-read_source : goal.decreases-read_source
decreases-read_source g l = 2 * l.more + 1

abbrev pub invariant-read_source-loop-line : goal.invariant-read_source-loop-line
invariant-read_source-loop-line g l =
    (g.O.Oracle.admits l.oracle ≡ g.O.Oracle.admits l.fn.oracle)
    × ((on : ℕ → Bool) → IsFit on l.walker)
    × ((c : List Bool) (s : spec.Sources) (x : spec.Syntax) → IsTrue (value (has c) (g.O.Oracle.admits l.fn.oracle)) → AreSources l.sources s → spec.IsSyntaxOf s x
    → ahead (has c) l.walker (λ v. walked (spec.setting s x (plain_source l.fn.source) (deeper_of s x l.more)) v (map plain_line (drop l.line-index l.lines))) (reading_at (has c) (map string_bytes l.sources.features.now) l.reading)
    ≡ taken (value (has c) (condition_of l.fn.when)) (λ r. spec.read_source s x l.more (plain_source l.fn.source) r) (reading_at (has c) (map string_bytes l.sources.features.now) l.fn.reading))
    × (l.watch.sought ≡ l.fn.watch.sought)
    × ((c : List Bool) (s : spec.Sources) (x : spec.Syntax) (are : spec.IsSyntaxOf s x) (misplaced : spec.Source → List PlainToken) → IsTrue (value (has c) (g.O.Oracle.admits l.fn.oracle)) → AreSources l.sources s → AreMisplaced are misplaced
    → (value (has c) (condition_of l.watch.found) || is_seen l.fn.watch (reads_ahead (has c) l.walker (λ v. reads_of_walk (spec.setting s x (plain_source l.fn.source) (deeper_of s x l.more)) (following_in s x misplaced l.more (plain_source l.fn.source)) v (map plain_line (drop l.line-index l.lines))) (reading_at (has c) (map string_bytes l.sources.features.now) l.reading)))
    ≡ (value (has c) (condition_of l.fn.watch.found) || is_seen l.fn.watch (read_where (value (has c) (condition_of l.fn.when)) (λ r. reads_of_source s x misplaced l.more (plain_source l.fn.source) r) (reading_at (has c) (map string_bytes l.sources.features.now) l.fn.reading))))
