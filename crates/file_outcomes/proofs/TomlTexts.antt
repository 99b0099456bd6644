-- The strings of a TOML document are at most four times as long as its text.
use Rattle.std.proofs.Common.{◌≡◌, ℕ, zero, suc, ◌&&◌, ◌==◌, List, [], ◌∷◌, ◌++◌, length, take, drop, Option, Some, None, sym, subst}
use Rattle.std.specs.Prelude.{⊤, option_map, slice_index}
use Rattle.std.specs.List.{All}
use Rattle.std.proofs.lemmas.List.Elements.{All-nil, All-cons}
use Rattle.toml_parser.specs.Lexical.{Read, comma, equals, left_bracket, right_bracket, left_brace, right_brace, first, skip_ws, skip_blank}
use Rattle.toml_parser.specs.Strings.{Key, key, quoted, starts_string, recursion_limit}
use Rattle.toml_parser.specs.Numbers.{word_len, word_value, unquoted}
use Rattle.toml_parser.specs.declared.scalar.Scalar.{Scalar}
use Rattle.toml_parser.specs.declared.scalar.Scalar.TheVariants.{Boolean, Integer, Float, Datetime}
use Rattle.toml.specs.Data.{Data, string, array, table, Items, no_items, Members, get_member, push_item}
use Rattle.toml.specs.Tables.{Nodes, no_nodes, close, Expression, key_value, std_table, array_table, Document, put, at_key, along_header, define_as, define}
use Rattle.toml.specs.Parse.{read_map, after_byte, after_element, key_equals, keyval, items, members, scalar_data, atom, val, header_key, expression, ends_line, line, lines, skip_bom, parse_document}
use Rattle.project_file.specs.Documents.{strings, AreStrings}
use Rattle.file_outcomes.proofs.TomlStrings.{chosen, Holds, mapped, bound, Short, Reads, short_drop, short_ws, short_skip, quoted_reads, key_reads, IsString}
use Rattle.file_outcomes.proofs.TomlTables.{FitsData, FitsItems, FitsMembers, FitsNodes, FitsDefinition, pushed, closed, put_keeps, header_keeps, at_key_keeps, member_got}

module _ (limit : ℕ) where
  abbrev Any : {A : Type 0} → A → Type 0
  Any x = ⊤

  abbrev Texts : Option (List ℕ) → Type 0
  Texts o = Holds (Short limit) o

  pub blank_short : (text : List ℕ) → Short limit text → Short limit (skip_blank text)
  blank_short text h = short_skip limit Rattle.std.proofs.Common.true Rattle.std.proofs.Common.false text h

  after_byte_short : (byte : ℕ) (text : List ℕ) → Short limit text → Texts (after_byte byte text)
  after_byte_short byte text h = chosen Texts (first text == byte) (Some (drop 1 text)) None (short_drop limit 1 text h) tt

  after_element_short : (closing : ℕ) (text : List ℕ) → Short limit text → Texts (after_element closing text)
  unfolding after_element
  after_element_short closing text h =
      let rest = skip_blank text in
      let short = blank_short text h in
      chosen Texts (first rest == comma) (Some (drop 1 rest)) _ (short_drop limit 1 rest short) (chosen Texts (first rest == closing) (Some rest) None short tt)

  pub key_equals_reads : (text : List ℕ) → Short limit text → Reads limit Any (key_equals text)
  unfolding key_equals
  key_equals_reads text h =
      bound (λ (k : Key × List ℕ). ⊤ × Short limit k.1) (λ (p : Key × List ℕ). ⊤ × Short limit p.1) (λ k. option_map (λ rest. (k.0, skip_ws rest)) (after_byte equals k.1)) (key text) (key_reads limit text h)
      (λ k g. mapped (Short limit) (λ (p : Key × List ℕ). ⊤ × Short limit p.1) (λ rest. (k.0, skip_ws rest)) (after_byte equals k.1) (after_byte_short equals k.1 g.1) (λ rest s. (tt, short_ws limit rest s)))

  -- ---- values

  abbrev Values : (List ℕ → Read Data) → Type 0
  Values v = (text : List ℕ) → Short limit text → Reads limit (FitsData limit) (v text)

  module _ (v : List ℕ → Read Data) (values : Values v) where
    keyval_reads : (text : List ℕ) → Short limit text → Reads limit (λ (p : Key × Data). FitsData limit p.1) (keyval v text)
    keyval_reads text h =
        bound (λ (k : Key × List ℕ). ⊤ × Short limit k.1) (λ (p : (Key × Data) × List ℕ). FitsData limit p.0.1 × Short limit p.1) (λ k. read_map (λ d. (k.0, d)) (v k.1)) (key_equals text) (key_equals_reads text h)
        (λ k g. mapped (λ (p : Data × List ℕ). FitsData limit p.0 × Short limit p.1) (λ (p : (Key × Data) × List ℕ). FitsData limit p.0.1 × Short limit p.1) (λ p. ((k.0, p.0), p.1)) (v k.1) (values k.1 g.1) (λ p f. f))

    items_read : (n : ℕ) (found : Items) (text : List ℕ) → FitsItems limit found → Short limit text → Reads limit (FitsItems limit) (items v n found text)
    unfolding items
    items_read zero found text f h = tt
    items_read (suc n) found text f h =
        let start = skip_blank text in
        let short = blank_short text h in
        chosen (Reads limit (FitsItems limit)) (first start == right_bracket) (Some (found, drop 1 start)) _ (f, short_drop limit 1 start short)
        (bound (λ (p : Data × List ℕ). FitsData limit p.0 × Short limit p.1) (λ (p : Items × List ℕ). FitsItems limit p.0 × Short limit p.1) _ (v start) (values start short)
        (λ p g. bound (Short limit) (λ (p : Items × List ℕ). FitsItems limit p.0 × Short limit p.1) (items v n (push_item found p.0)) (after_element right_bracket p.1) (after_element_short right_bracket p.1 g.1)
        (λ rest s. items_read n (push_item found p.0) rest (pushed limit found p.0 f g.0) s)))

    members_read : (n : ℕ) (found : Nodes) (text : List ℕ) → FitsNodes limit found → Short limit text → Reads limit (FitsMembers limit) (members v n found text)
    unfolding members
    members_read zero found text f h = tt
    members_read (suc n) found text f h =
        let start = skip_blank text in
        let short = blank_short text h in
        chosen (Reads limit (FitsMembers limit)) (first start == right_brace) (Some (close found, drop 1 start)) _ (closed limit found f, short_drop limit 1 start short)
        (bound (λ (p : (Key × Data) × List ℕ). FitsData limit p.0.1 × Short limit p.1) (λ (p : Members × List ℕ). FitsMembers limit p.0 × Short limit p.1) _ (keyval v start) (keyval_reads start short)
        (λ e g. bound (FitsNodes limit) (λ (p : Members × List ℕ). FitsMembers limit p.0 × Short limit p.1) _ (put e.0.0 e.0.1 found) (put_keeps limit e.0.0 e.0.1 g.0 found f)
        (λ more k. bound (Short limit) (λ (p : Members × List ℕ). FitsMembers limit p.0 × Short limit p.1) (members v n more) (after_element right_brace e.1) (after_element_short right_brace e.1 g.1)
        (λ rest s. members_read n more rest k s))))

  scalar_fits : (x : Scalar) → FitsData limit (scalar_data x)
  scalar_fits (Boolean b) = tt
  scalar_fits (Integer z) = tt
  scalar_fits (Float x) = tt
  scalar_fits (Datetime d) = tt

  unquoted_reads : (text : List ℕ) → Short limit text → Reads limit Any (unquoted text)
  unfolding unquoted
  unquoted_reads text h =
      chosen (Reads limit Any) (word_len text == 0) None _ tt
      (mapped (λ (d : Scalar). ⊤) (λ (p : Scalar × List ℕ). ⊤ × Short limit p.1) (λ d. (d, drop (word_len text) text)) (word_value (take (word_len text) text)) (there (word_value (take (word_len text) text))) (λ d t. (tt, short_drop limit (word_len text) text h)))
    where
      there : (o : Option Scalar) → Holds (λ (d : Scalar). ⊤) o
      there None = tt
      there (Some d) = tt

  atom_reads : Values atom
  unfolding atom
  atom_reads text h =
      chosen (Reads limit (FitsData limit)) (starts_string text) (read_map string (quoted text)) (read_map scalar_data (unquoted text))
      (mapped (λ (p : List ℕ × List ℕ). IsString limit p.0 × Short limit p.1) (λ (p : Data × List ℕ). FitsData limit p.0 × Short limit p.1) (λ p. (string p.0, p.1)) (quoted text) (quoted_reads limit text h) (λ p f. f))
      (mapped (λ (p : Scalar × List ℕ). ⊤ × Short limit p.1) (λ (p : Data × List ℕ). FitsData limit p.0 × Short limit p.1) (λ p. (scalar_data p.0, p.1)) (unquoted text) (unquoted_reads text h) (λ p f. (scalar_fits p.0, f.1)))

  val_reads : (depth : ℕ) → Values (val depth)
  unfolding val
  val_reads zero text h = atom_reads text h
  val_reads (suc depth) text h =
      chosen (Reads limit (FitsData limit)) (first text == left_bracket) (read_map array (items (val depth) (length text) no_items (drop 1 text))) _
      (mapped (λ (p : Items × List ℕ). FitsItems limit p.0 × Short limit p.1) (λ (p : Data × List ℕ). FitsData limit p.0 × Short limit p.1) (λ p. (array p.0, p.1)) (items (val depth) (length text) no_items (drop 1 text))
      (items_read (val depth) (val_reads depth) (length text) no_items (drop 1 text) tt (short_drop limit 1 text h)) (λ p f. f))
      (chosen (Reads limit (FitsData limit)) (first text == left_brace) (read_map table (members (val depth) (length text) no_nodes (drop 1 text))) (atom text)
      (mapped (λ (p : Members × List ℕ). FitsMembers limit p.0 × Short limit p.1) (λ (p : Data × List ℕ). FitsData limit p.0 × Short limit p.1) (λ p. (table p.0, p.1)) (members (val depth) (length text) no_nodes (drop 1 text))
      (members_read (val depth) (val_reads depth) (length text) no_nodes (drop 1 text) tt (short_drop limit 1 text h)) (λ p f. f))
      (atom_reads text h))

  -- ---- documents

  header_key_reads : (text : List ℕ) → Short limit text → Reads limit Any (header_key text)
  unfolding header_key
  header_key_reads text h =
      bound (λ (k : Key × List ℕ). ⊤ × Short limit k.1) (λ (p : Key × List ℕ). ⊤ × Short limit p.1) (λ k. option_map (λ rest. (k.0, rest)) (after_byte right_bracket k.1)) (key (skip_ws text)) (key_reads limit (skip_ws text) (short_ws limit text h))
      (λ k g. mapped (Short limit) (λ (p : Key × List ℕ). ⊤ × Short limit p.1) (λ rest. (k.0, rest)) (after_byte right_bracket k.1) (after_byte_short right_bracket k.1 g.1) (λ rest s. (tt, s)))

  abbrev FitsExpression : Expression → Type 0
  FitsExpression e = FitsDefinition limit e.1

  expression_reads : (text : List ℕ) → Short limit text → Reads limit FitsExpression (expression text)
  unfolding expression
  expression_reads text h =
      chosen (Reads limit FitsExpression) (first text == left_bracket && slice_index text 1 == left_bracket) _ _
      (bound (λ (k : Key × List ℕ). ⊤ × Short limit k.1) (λ (p : Expression × List ℕ). FitsExpression p.0 × Short limit p.1) (λ k. option_map (λ rest. ((k.0, array_table), rest)) (after_byte right_bracket k.1)) (header_key (drop 2 text)) (header_key_reads (drop 2 text) (short_drop limit 2 text h))
      (λ k g. mapped (Short limit) (λ (p : Expression × List ℕ). FitsExpression p.0 × Short limit p.1) (λ rest. ((k.0, array_table), rest)) (after_byte right_bracket k.1) (after_byte_short right_bracket k.1 g.1) (λ rest s. (tt, s))))
      (chosen (Reads limit FitsExpression) (first text == left_bracket) (read_map (λ k. (k, std_table)) (header_key (drop 1 text))) (read_map (λ p. (p.0, key_value p.1)) (keyval (val recursion_limit) text))
      (mapped (λ (k : Key × List ℕ). ⊤ × Short limit k.1) (λ (p : Expression × List ℕ). FitsExpression p.0 × Short limit p.1) (λ k. ((k.0, std_table), k.1)) (header_key (drop 1 text)) (header_key_reads (drop 1 text) (short_drop limit 1 text h)) (λ k g. g))
      (mapped (λ (p : (Key × Data) × List ℕ). FitsData limit p.0.1 × Short limit p.1) (λ (p : Expression × List ℕ). FitsExpression p.0 × Short limit p.1) (λ p. ((p.0.0, key_value p.0.1), p.1)) (keyval (val recursion_limit) text)
      (keyval_reads (val recursion_limit) (val_reads recursion_limit) text h) (λ p g. g)))

  pub line_reads : (text : List ℕ) → Short limit text → Reads limit FitsExpression (line text)
  unfolding line
  line_reads text h =
      bound (λ (p : Expression × List ℕ). FitsExpression p.0 × Short limit p.1) (λ (p : Expression × List ℕ). FitsExpression p.0 × Short limit p.1) _ (expression text) (expression_reads text h)
      (λ e g. chosen (Reads limit FitsExpression) (ends_line (skip_ws e.1)) (Some e) None g tt)

  abbrev FitsDocument : Document → Type 0
  FitsDocument doc = FitsNodes limit doc.0

  defined : (doc : Document) (e : Expression) → FitsDocument doc → FitsExpression e → Holds FitsDocument (define doc e)
  unfolding define
  defined doc e h d = by e.0 e.1 d
    where
      by : (k : Key) (what : Rattle.toml.specs.Tables.Definition) → FitsDefinition limit what → Holds FitsDocument (define_as doc k what)
      by k (key_value datum) d = mapped (FitsNodes limit) FitsDocument (λ root. (root, doc.1)) (along_header doc.1 (put k datum) doc.0) (header_keeps limit doc.1 (put k datum) (put_keeps limit k datum d) doc.0 h) (λ root g. g)
      by k std_table d = mapped (FitsNodes limit) FitsDocument (λ root. (root, k.0 ++ k.1 ∷ [])) (along_header k.0 (at_key k.1 std_table) doc.0) (header_keeps limit k.0 (at_key k.1 std_table) (at_key_keeps limit k.1 std_table tt) doc.0 h) (λ root g. g)
      by k array_table d = mapped (FitsNodes limit) FitsDocument (λ root. (root, k.0 ++ k.1 ∷ [])) (along_header k.0 (at_key k.1 array_table) doc.0) (header_keeps limit k.0 (at_key k.1 array_table) (at_key_keeps limit k.1 array_table tt) doc.0 h) (λ root g. g)

  lines_read : (n : ℕ) (doc : Document) (text : List ℕ) → FitsDocument doc → Short limit text → Holds FitsDocument (lines n doc text)
  unfolding lines
  lines_read zero doc text f h = tt
  lines_read (suc n) doc text f h =
      let start = skip_blank text in
      let short = blank_short text h in
      chosen (Holds FitsDocument) (length start == 0) (Some doc) _ f
      (bound (λ (p : Expression × List ℕ). FitsExpression p.0 × Short limit p.1) FitsDocument _ (line start) (line_reads start short)
      (λ e g. bound FitsDocument FitsDocument (λ next. lines n next e.1) (define doc e.0) (defined doc e.0 f g.0) (λ next k. lines_read n next e.1 k g.1)))

  pub bom_short : (text : List ℕ) → Short limit text → Short limit (skip_bom text)
  unfolding skip_bom
  bom_short text h = chosen (Short limit) ((first text == 0xEF && slice_index text 1 == 0xBB) && slice_index text 2 == 0xBF) (drop 3 text) text (short_drop limit 3 text h) h

  document_fits : (text : List ℕ) → Short limit text → Holds (FitsMembers limit) (parse_document text)
  unfolding parse_document
  document_fits text h =
      mapped FitsDocument (FitsMembers limit) (λ doc. close doc.0) (lines (suc (length text)) (no_nodes, []) (skip_bom text)) (lines_read (suc (length text)) (no_nodes, []) (skip_bom text) tt (bom_short text h)) (λ doc f. closed limit doc.0 f)

  strings_fit : (texts : List (List ℕ)) → FitsItems limit (strings texts) → All (IsString limit) texts
  strings_fit [] h = All-nil (IsString limit)
  strings_fit (text ∷ texts) h = All-cons (IsString limit) text texts h.0 (strings_fit texts h.1)

  under_key : (o : Option Data) (texts : List (List ℕ)) → Holds (FitsData limit) o → AreStrings o texts → All (IsString limit) texts
  under_key None texts h are = subst (All (IsString limit)) (sym are) (All-nil (IsString limit))
  under_key (Some datum) texts h are = strings_fit texts (subst (FitsData limit) are h)

  -- the strings that a key of a document holds
  pub key_fits : (text : List ℕ) (document : Members) (key : List ℕ) (texts : List (List ℕ)) → Short limit text → parse_document text ≡ Some document → AreStrings (get_member key document) texts → All (IsString limit) texts
  key_fits text document key texts h e are =
      under_key (get_member key document) texts (member_got limit key document (subst (Holds (FitsMembers limit)) e (document_fits text h))) are
