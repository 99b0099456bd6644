use Rattle.std.proofs.Common.{◌≡◌, map, drop}
use Rattle.c_text.specs.Preprocessing.{same_texts}
use Rattle.macro_table.proofs.meanings.same_names.Given as goal

abbrev pub invariant-loop-i : goal.invariant-loop-i
invariant-loop-i l =
    same_texts (map (λ n. n.items) (drop l.i l.names)) (map (λ n. n.items) (drop l.i l.others))
    ≡ same_texts (map (λ n. n.items) l.names) (map (λ n. n.items) l.others)
