-- The unit of a quick file, read as the project's one file.
use Rattle.std.proofs.Common.{◌≡◌, ℕ, zero, suc, ◌<◌, true, false, List, [], ◌∷◌, ◌++◌, length, map, refl, sym, ap, subst, ◌∙◌, Option}
use Rattle.std.specs.List.{flat_map, list_any}
use Rattle.std.proofs.lemmas.Bool.{or_parts}
use Rattle.std.specs.Prelude.{slice_index_or}
use Rattle.text_edits.specs.Files.{PlainFile}
use Rattle.c_text.specs.Token.{PlainToken}
use Rattle.c_text.specs.Lines.{PlainLine, AreItsLines}
use Rattle.c_text.specs.Trees.{Part, IsRead, whole_file}
use Rattle.c_text.specs.Preprocessing.{Refusal, unbalanced, Source, project_file, stdio, stdlib, Sources, Syntax, IsSyntaxOf, IsFile, file_at, setting, read_source, Reading, Flow, on, refused, gives, outcome_of, preprocessed, IsPreprocessed}
use Rattle.quick_form.specs.Symbols.{Symbol, Int, Void, While, Return, Putchar, Main, Name, Number, Mark, Ifdef, Else, Endif, Malformed, symbols_of}
use Rattle.quick_form.specs.Form.{Items, Reads}
use Rattle.quick_core.specs.Present.{present_items}
use Rattle.quick_trees.specs.Tokens.{write_unit}
use Rattle.quick_lines.specs.Spellings.{spellings_of, spelled_symbol, is_directive, symbol_spelling}
use Rattle.quick_lines.specs.SpelledLines.{are_spaced, SpellLines}
use Rattle.quick_lines.specs.Laws.{TextsAreSpelled}
use Rattle.plain_pp.specs.Laws.{ProjectsHaveSyntax}
use Rattle.quick_units.specs.Units.{unit_text, IsAlone, is_on, replaced_spelling, UnitsGiveWhatIsPresent}
use Rattle.quick_units.proofs.Nests.{nest_unit, nest_items, write, items-written, items-plain, items-present, present-plain}
use Rattle.quick_units.proofs.Spaced.{spaced-items}
use Rattle.quick_units.proofs.Parts.{Gives, given}
use Rattle.quick_units.proofs.Groups.{whole-lines}

-- `int putchar(int);`
abbrev declared : List Symbol → List Symbol
declared ks = Int ∷ Putchar ∷ Mark 40 ∷ Int ∷ Mark 41 ∷ Mark 59 ∷ ks

text-symbols : (bytes : List ℕ) → symbols_of (unit_text bytes) ≡ declared (symbols_of bytes)
text-symbols bytes = refl

unit-symbols : (bytes : List ℕ) (items : Items) → Reads bytes items → symbols_of (unit_text bytes) ≡ write (nest_unit items) []
unit-symbols bytes items reads = ap declared (reads ∙ sym (items-written items []))

unit-spaced : (bytes : List ℕ) (items : Items) → Reads bytes items → are_spaced (symbols_of (unit_text bytes)) ≡ true
unit-spaced bytes items reads = ap (λ ks. are_spaced (declared ks)) reads ∙ spaced-items items []

unit-gives : (names : List (List ℕ)) (bytes : List ℕ) (items : Items) (lines : List PlainLine) → Reads bytes items → SpellLines lines (symbols_of (unit_text bytes)) → Gives names lines (write_unit (present_items (is_on names) items))
unit-gives names bytes items lines reads spelled =
    let spells = subst (λ ks. SpellLines lines ks) (unit-symbols bytes items reads) spelled in
    let whole = whole-lines names lines (nest_unit items) (refl, (refl, (refl, (refl, (refl, (refl, items-plain items)))))) spells in
    subst (λ out. Gives names lines out) (ap declared (items-present (is_on names) items)) whole

-- ---- symbols outside directive lines spell one token each

one-token : (k : Symbol) → is_directive k ≡ false → spelled_symbol k ≡ symbol_spelling k ∷ []
one-token (Ifdef n) e = cc
one-token Else e = cc
one-token Endif e = cc
one-token Int e = refl
one-token Void e = refl
one-token While e = refl
one-token Return e = refl
one-token Putchar e = refl
one-token Main e = refl
one-token (Name x) e = refl
one-token (Number d) e = refl
one-token (Mark b) e = refl
one-token Malformed e = refl

module _ (names : List (List ℕ)) where
  given-each : (ks : List Symbol) → list_any is_directive ks ≡ false → given names ks ≡ map (λ k. replaced_spelling names (symbol_spelling k)) ks
  given-each [] e = refl
  given-each (k ∷ ks) e =
      let both = or_parts (is_directive k) (list_any is_directive ks) e in
      ap (λ l. map (replaced_spelling names) (l ++ flat_map spelled_symbol ks)) (one-token k both.0)
      ∙ ap (λ l. replaced_spelling names (symbol_spelling k) ∷ l) (given-each ks both.1)

-- ---- the project's syntax, with these lines of its one file

module _ (s : Sources) (text : List ℕ) (alone : IsAlone s text) (x : Syntax) (is : IsSyntaxOf s x) (lines : List PlainLine) (are : AreItsLines 0 text lines) (part : Part) (reads : IsRead lines part) (broken : Refusal) where
  abbrev part_in : Source → Part
  part_in (project_file zero) = part
  part_in (project_file (suc n)) = x.part_of (project_file (suc n))
  part_in stdio = x.part_of stdio
  part_in stdlib = x.part_of stdlib

  abbrev broken_in : Source → Refusal
  broken_in (project_file zero) = broken
  broken_in (project_file (suc n)) = x.broken_in (project_file (suc n))
  broken_in stdio = x.broken_in stdio
  broken_in stdlib = x.broken_in stdlib

  abbrev lines_in : ℕ → List PlainLine
  lines_in zero = lines
  lines_in (suc n) = is.lines (suc n)

  file-is : file_at s 0 ≡ record { name = alone.name; bytes = text }
  file-is = ap (λ files. slice_index_or files 0 (record { name = []; bytes = [] })) alone.files

  abbrev syntax : Syntax
  syntax = record { value_of = x.value_of; part_of = part_in; broken_in = broken_in }

  are-lines : (number : ℕ) → number < length s.files → AreItsLines number (file_at s number).bytes (lines_in number)
  are-lines zero h = subst (λ (file : PlainFile). AreItsLines 0 file.bytes lines) (sym file-is) are
  are-lines (suc n) h = is.are_lines (suc n) h

  are-files : IsFile 0 (length text) lines part broken → (number : ℕ) → number < length s.files → IsFile number (length (file_at s number).bytes) (lines_in number) (part_in (project_file number)) (broken_in (project_file number))
  are-files first zero h = subst (λ (file : PlainFile). IsFile 0 (length file.bytes) lines part broken) (sym file-is) first
  are-files first (suc n) h = is.are_files (suc n) h

  is-syntax : IsFile 0 (length text) lines part broken → IsSyntaxOf s syntax
  is-syntax first = record {
    values = is.values;
    lines = lines_in;
    are_lines = are-lines;
    are_files = are-files first;
    built_in_lines = is.built_in_lines;
    are_built_in = is.are_built_in;
    stdio_is = is.stdio_is;
    stdlib_is = is.stdlib_is;
  }

-- ---- the law

record GivesAll (flow : Flow) (tokens : List PlainToken) : Type 0 where
  end : Reading
  goes : flow ≡ on end
  all : end.tokens ≡ tokens

gives-all : (flow : Flow) (tokens : List PlainToken) → outcome_of flow ≡ gives tokens → GivesAll flow tokens
gives-all (on r) tokens e = record { end = r; goes = refl; all = cc }
gives-all (refused why) tokens e = cc

read-unit : (s : Sources) (text : List ℕ) (alone : IsAlone s text) (x : Syntax) (is : IsSyntaxOf s x) (lines : List PlainLine) (are : AreItsLines 0 text lines) (ks : List Symbol) (g : Gives s.on_features lines ks) (tokens : List PlainToken) → IsPreprocessed s 0 (gives tokens) → spellings_of tokens ≡ given s.on_features ks
read-unit s text alone x is lines are ks g tokens preprocess =
    let reads : IsRead lines g.part = whole_file g.formed g.same in
    let broken : Refusal = record { kind = unbalanced; file = 0; span = record { start = length text; end = length text } } in
    let ours = syntax s text alone x is lines are g.part reads broken in
    let outcome = preprocess ours (is-syntax s text alone x is lines are g.part reads broken (record { is_read = reads; broken_is = refl })) in
    let whole = gives-all (preprocessed s ours 0) tokens outcome in
    let end = g.reads (setting s ours (project_file 0) (Option.Some (read_source s ours 15))) [] whole.end whole.goes in
    let same : end.new ≡ tokens = ap (λ (r : Reading). r.tokens) (sym end.is) ∙ whole.all in
    ap spellings_of (sym same) ∙ end.spelled

pub units_give_what_is_present_lem : TextsAreSpelled → ProjectsHaveSyntax → UnitsGiveWhatIsPresent
units_give_what_is_present_lem texts projects s bytes items alone reads tokens preprocess =
    let lines = texts 0 (unit_text bytes) (unit-spaced bytes items reads) in
    let syntax = projects s in
    let unit = write_unit (present_items (is_on s.on_features) items) in
    let unit-plain =
    ap (λ ks. list_any is_directive (declared ks)) (sym (items-present (is_on s.on_features) items))
    ∙ present-plain (is_on s.on_features) (nest_items items) (items-plain items) in
    let all = read-unit s (unit_text bytes) alone syntax.0 syntax.1 lines.0 lines.1 (write_unit (present_items (is_on s.on_features) items))
    (unit-gives s.on_features bytes items lines.0 reads lines.2) tokens preprocess in
    all ∙ given-each s.on_features unit unit-plain
