use Rattle.std.proofs.Common.{◌+◌, ◌*◌, drop, length, map}
use Rattle.c_text.specs.Lines.{plain_line}
use Rattle.c_text.specs.Preprocessing as spec
use Rattle.unit_files.specs.Inclusions.{plain_source}
use Rattle.plain_pp.specs.Readings.{plain_reading}
use Rattle.unit_files.specs.SourceFiles.{AreSources, deeper_of}
use Rattle.plain_pp.specs.Walking.{plain_walk}
use Rattle.plain_pp.proofs.FileLemmas.{Stands}
use Rattle.plain_pp.proofs.units.+files.Given as goal

abbrev pub decreases-enter : goal.decreases-enter
decreases-enter l = 2 * l.more

abbrev pub decreases-read_source : goal.decreases-read_source
decreases-read_source l = 2 * l.more + 1

abbrev pub invariant-read_source-loop-line : goal.invariant-read_source-loop-line
invariant-read_source-loop-line l =
    (s : spec.Sources) (x : spec.Syntax) → AreSources l.sources s → spec.IsSyntaxOf s x
    → Stands (spec.setting s x (plain_source l.fn.source) (deeper_of s x l.more)) l.file (length l.text) (plain_walk (plain_reading l.reading) l.walker) (map plain_line (drop l.line-index l.lines)) (spec.read_source s x l.more (plain_source l.fn.source) (plain_reading l.fn.reading))
