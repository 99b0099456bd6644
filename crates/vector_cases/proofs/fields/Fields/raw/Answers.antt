use Rattle.std.proofs.Common.{arith}
use Rattle.std.proofs.lemmas.Str.Pattern.{split_parts}
use Rattle.vector_cases.proofs.FieldLemmas.{first_field, last_field}
use Rattle.vector_cases.proofs.fields.Fields.raw.Goals as goal

pub returns-in-Some-split_once : goal.returns-in-Some-split_once
returns-in-Some-split_once c =
    let cut = rw c.in-Some-split_once.is at (split_parts 9 c.in-Some.rest.now c.split_once.result c.split_once.ensures.cases (omega arith)) in
    rw c.in-Some.is (first_field c.in-Some.rest.now c.in-Some-split_once.field.now c.in-Some-split_once.rest.now cut.0 cut.1)

pub returns-in-None : goal.returns-in-None
returns-in-None c =
    rw c.in-Some.is (last_field c.in-Some.rest.now (rw c.in-None.is at (split_parts 9 c.in-Some.rest.now c.split_once.result c.split_once.ensures.cases (omega arith))))
