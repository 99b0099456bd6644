-- What the code has read in the definitions' terms.
use Rattle.std.specs.Prelude.{map}
use Rattle.c_text.specs.Token.{plain_token}
use Rattle.c_text.specs.Lines.{plain_line}
use Rattle.c_lexer.specs.declared.reader.LineReader.{LineReader}
use Rattle.c_lexer.specs.Reading.{Reading}

abbrev pub reading_of : LineReader → Reading
reading_of r = record {
  file = r.file;
  end = r.end;
  lines = map plain_line r.lines.items;
  start = r.start;
  tokens = map plain_token r.tokens.items;
  joined = r.joined;
  begun = r.begun;
}
