use Rattle.std.proofs.Common.{map, ap, ◌∙◌}
use Rattle.std.specs.String.{string_bytes}
use Rattle.text_edits.specs.Files.{plain_files}
use Rattle.vector_cases.specs.Lines.{files_values, words_values, target_of}
use Rattle.vector_cases.proofs.LineLemmas.{whole_line}
use Rattle.vector_cases.proofs.case.Case.read.Goals as goal

pub returns : goal.returns
returns c =
    let written = c.in_ok-written.ensures in record {
      target = c.in_ok-target.ensures ∙ ap (λ words. target_of c.args.output (map string_bytes words)) c.deref.ensures.value;
      values = written.0;
      written = written.2;
      spelled =
          whole_line c.args.line.now c.new-fields.result c.read_files.new.fields c.read_words.new.fields c.number.new.self c.bytes.new.self c.read_written.new.fields c.text.new.self
          (files_values (plain_files c.in_ok-files.files)) (words_values (map string_bytes c.in_ok-words.words.items)) written.0 c.in_ok-status.status c.in_ok-printed.printed.items
          (string_bytes c.in_ok-label.label) c.new-fields.ensures c.in_ok-end.ensures c.in_ok-files.ensures c.in_ok-words.ensures c.in_ok-status.ensures c.in_ok-printed.ensures written.1
          c.in_ok-label.ensures;
    }
