use Rattle.std.proofs.Common.{◌≡◌, ◌∙◌, ap, Some, string_bytes}
use Rattle.std.proofs.lemmas.List.{map-append}
use Rattle.toml.specs.Data.{as_str}
use Rattle.toml.specs.View.{view}
use Rattle.project_file.specs.View.{strings_view}
use Rattle.project_file.proofs.DocumentLemmas.{each_string, no_string, strings_more}
use Rattle.project_file.proofs.documents.strings_in.Goals as goal

pub returns-in-None : goal.returns-in-None
returns-in-None c = λ texts e.
    let v = c.value-item.result in
    let s = each_string c.args.values.now texts c.loop-value.value-index v e c.loop-value-test.true in
    no_string (view v) s.0 c.in-None.ensures (ap view c.value-item.is ∙ s.1)

pub loop-value-preserved : goal.loop-value-preserved
loop-value-preserved c =
    let v = c.value-item.result in
    let found : Some (string_bytes c.in_ok-from_str-in-Some.field-0) ≡ as_str (view v) =
    ap Some c.in_ok-from_str-in-Some.ensures.ok ∙ c.in-Some.ensures
    in
    rw (c.in_ok-push-in-Some.ensures.items, map-append)
    (strings_more c.args.values.now c.loop-value.value-index v (strings_view c.loop-value.texts) (string_bytes c.in_ok-from_str-in-Some.field-0) c.loop-value-test.true c.value-item.is c.loop-value.invariant found)
