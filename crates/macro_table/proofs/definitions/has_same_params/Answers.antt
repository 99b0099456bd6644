use Rattle.std.proofs.Common.{◌≡◌, ℕ, List, map, true, Some, ap}
use Rattle.c_text.specs.Preprocessing.{same_texts}
use Rattle.macro_table.proofs.MeaningLemmas.{same_texts_are}
use Rattle.macro_table.proofs.definitions.has_same_params.Goals as goal

pub returns-in-Some-Some : goal.returns-in-Some-Some
returns-in-Some-Some c = λ is.
    let names = map (λ n. n.items) c.in-Some-Some.names.items in
    let others = map (λ n. n.items) c.in-Some-Some.others.items in
    let same : same_texts names others ≡ true = cc (c.as_slice.ensures.value, c.as_slice-in-Some-Some.ensures.value, c.same_names.ensures, is) in
    rw (c.in-Some-Some.is-0, c.in-Some-Some.is-1) (ap (λ (l : List (List ℕ)). Some l) (same_texts_are names others same))
