use Rattle.std.proofs.Common.{◌≡◌, map, sym, subst, ap, ◌∙◌, arith}
use Rattle.std.specs.List.{flat_map}
use Rattle.std.proofs.lemmas.Grind.{common_steps}
use Rattle.std.proofs.lemmas.List.{length-map, map_push}
use Rattle.text_edits.specs.declared.files.SourceFile.{SourceFile}
use Rattle.text_edits.specs.Files.{plain_file}
use Rattle.vector_cases.specs.Fields.{Reads}
use Rattle.vector_cases.specs.Lines.{file_values}
use Rattle.vector_cases.proofs.LineLemmas.{one_file, all_files}
use Rattle.vector_cases.proofs.case.read_files.Goals as goal

pub loop-preserved : goal.loop-preserved
loop-preserved c =
    let pushed = c.in_ok-push.ensures.items in
    let file : SourceFile = record { name = c.in_ok-name.name; bytes = c.in_ok-bytes.bytes } in (
      grind (arith, common_steps),
      subst (λ all. Reads c.number.new.self c.bytes.new.self (flat_map file_values all)) (sym (ap (map plain_file) pushed ∙ map_push plain_file c.loop.list.items file))
          (one_file c.number.new.self c.loop.fields c.text.new.self c.bytes.new.self (map plain_file c.loop.list.items) (plain_file file) c.loop.invariant.1 c.in_ok-name.ensures c.in_ok-bytes.ensures),
    )

pub returns : goal.returns
returns c =
    let count : c.loop.counter ≡ c.in_ok-count.count = omega (arith, c.loop-test.false, c.loop.auto.counter-end) in
    all_files c.args.fields.now c.number.new.self c.loop.fields c.in_ok-count.count (map plain_file c.loop.list.items)
    (length-map c.loop.list.items plain_file ∙ (c.loop.invariant.0 ∙ count)) c.in_ok-count.ensures c.loop.invariant.1
