-- Where trees have no core program (ISO/IEC 9899:2011, 5.1.1.2).
use Rattle.std.specs.Prelude.{Bool, true, false, List}
use Rattle.c_tree.specs.Trees.{PlainTree}
use Rattle.core_meaning.specs.Program.{PlainProgram}
use Rattle.core_meaning.specs.Linking.{IsElaborated}

-- trees have no core program, or they have one
abbrev pub TellsElaborated : Bool → List PlainTree → Type 0
TellsElaborated true trees = (program : PlainProgram) → IsElaborated trees program → ⊥
TellsElaborated false trees = (program : PlainProgram) × IsElaborated trees program
