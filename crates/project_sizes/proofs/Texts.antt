-- The arrays at the keys of a TOML document have at most as many items as its text has bytes and lines.
use Rattle.std.proofs.Common.{◌≡◌, ℕ, zero, suc, ◌+◌, ◌≤◌, ◌&&◌, ◌==◌, List, [], length, drop, Option, Some, None, subst, arith}
use Rattle.std.specs.Prelude.{⊤, option_map, slice_index}
use Rattle.toml_parser.specs.Lexical.{Read, left_bracket, right_bracket, left_brace, first, skip_ws, skip_blank}
use Rattle.toml_parser.specs.Strings.{Key, quoted, starts_string, recursion_limit}
use Rattle.toml_parser.specs.Numbers.{unquoted}
use Rattle.toml_parser.specs.declared.scalar.Scalar.{Scalar}
use Rattle.toml_parser.specs.declared.scalar.Scalar.TheVariants.{Boolean, Integer, Float, Datetime}
use Rattle.toml.specs.Data.{Data, string, array, table, Items, no_items, Members, get_member, push_item}
use Rattle.toml.specs.Tables.{no_nodes, close, Definition, Expression, key_value, std_table, array_table, Document, define}
use Rattle.toml.specs.Parse.{read_map, after_byte, after_element, key_equals, keyval, items, members, scalar_data, atom, val, header_key, expression, ends_line, line, lines, skip_bom, parse_document}
use Rattle.file_outcomes.proofs.TomlStrings.{chosen, Holds, mapped, bound, Short}
use Rattle.file_outcomes.proofs.TomlTables.{FitsDefinition}
use Rattle.file_outcomes.proofs.TomlTexts.{blank_short, key_equals_reads, line_reads, bom_short}
use Rattle.project_sizes.proofs.Tables.{number_of, number-push, IsSmall, SmallNodes, closed_get, SmallDefinition, defined, anything, larger}

module _ (limit : ℕ) where
  -- what was read is so
  abbrev Reads : {A : Type 0} → (A → Type 0) → Read A → Type 0
  Reads {A} Good r = Holds (λ (p : A × List ℕ). Good p.0) r

  abbrev Few : Items → Type 0
  Few found = number_of found ≤ limit

  items_few : (v : List ℕ → Read Data) (n : ℕ) (found : Items) (text : List ℕ) → number_of found + n ≤ limit → Reads Few (items v n found text)
  unfolding items
  items_few v zero found text e = tt
  items_few v (suc n) found text e =
      chosen (Reads Few) (first (skip_blank text) == right_bracket) (Some (found, drop 1 (skip_blank text))) _ (omega (arith, e))
      (bound (λ (p : Data × List ℕ). ⊤) (λ (p : Items × List ℕ). Few p.0) _ (v (skip_blank text)) (anything (v (skip_blank text)))
      (λ p t. bound (λ (rest : List ℕ). ⊤) (λ (q : Items × List ℕ). Few q.0) (items v n (push_item found p.0)) (after_element right_bracket p.1) (anything (after_element right_bracket p.1))
      (λ rest u. items_few v n (push_item found p.0) rest (let one = number-push found p.0 in omega (arith, e, one)))))

  scalar_small : (x : Scalar) → IsSmall limit (scalar_data x)
  scalar_small (Boolean b) = omega arith
  scalar_small (Integer z) = omega arith
  scalar_small (Float x) = omega arith
  scalar_small (Datetime d) = omega arith

  atom_small : (text : List ℕ) → Reads (IsSmall limit) (atom text)
  unfolding atom
  atom_small text =
      chosen (Reads (IsSmall limit)) (starts_string text) (read_map string (quoted text)) (read_map scalar_data (unquoted text))
      (mapped (λ (p : List ℕ × List ℕ). ⊤) (λ (p : Data × List ℕ). IsSmall limit p.0) (λ p. (string p.0, p.1)) (quoted text) (anything (quoted text)) (λ p t. omega arith))
      (mapped (λ (p : Scalar × List ℕ). ⊤) (λ (p : Data × List ℕ). IsSmall limit p.0) (λ p. (scalar_data p.0, p.1)) (unquoted text) (anything (unquoted text)) (λ p t. scalar_small p.0))

  val_small : (depth : ℕ) (text : List ℕ) → Short limit text → Reads (IsSmall limit) (val depth text)
  unfolding val
  val_small zero text h = atom_small text
  val_small (suc depth) text h =
      chosen (Reads (IsSmall limit)) (first text == left_bracket) (read_map array (items (val depth) (length text) no_items (drop 1 text))) _
      (mapped (λ (p : Items × List ℕ). Few p.0) (λ (p : Data × List ℕ). IsSmall limit p.0) (λ p. (array p.0, p.1)) (items (val depth) (length text) no_items (drop 1 text))
      (items_few (val depth) (length text) no_items (drop 1 text) (omega (arith, h))) (λ p f. f))
      (chosen (Reads (IsSmall limit)) (first text == left_brace) (read_map table (members (val depth) (length text) no_nodes (drop 1 text))) (atom text)
      (mapped (λ (p : Members × List ℕ). ⊤) (λ (p : Data × List ℕ). IsSmall limit p.0) (λ p. (table p.0, p.1)) (members (val depth) (length text) no_nodes (drop 1 text))
      (anything (members (val depth) (length text) no_nodes (drop 1 text))) (λ p t. omega arith))
      (atom_small text))

  keyval_small : (text : List ℕ) → Short limit text → Reads (λ (p : Key × Data). IsSmall limit p.1) (keyval (val recursion_limit) text)
  keyval_small text h =
      bound (λ (k : Key × List ℕ). ⊤ × Short limit k.1) (λ (p : (Key × Data) × List ℕ). IsSmall limit p.0.1) (λ k. read_map (λ d. (k.0, d)) (val recursion_limit k.1)) (key_equals text) (key_equals_reads limit text h)
      (λ k g. mapped (λ (p : Data × List ℕ). IsSmall limit p.0) (λ (p : (Key × Data) × List ℕ). IsSmall limit p.0.1) (λ p. ((k.0, p.0), p.1)) (val recursion_limit k.1) (val_small recursion_limit k.1 g.1) (λ p f. f))

  abbrev SmallExpression : Expression → Type 0
  SmallExpression x = SmallDefinition limit x.1

  expression_small : (text : List ℕ) → Short limit text → Reads SmallExpression (expression text)
  unfolding expression
  expression_small text h =
      chosen (Reads SmallExpression) (first text == left_bracket && slice_index text 1 == left_bracket) _ _
      (bound (λ (k : Key × List ℕ). ⊤) (λ (p : Expression × List ℕ). SmallExpression p.0) (λ k. option_map (λ rest. ((k.0, array_table), rest)) (after_byte right_bracket k.1)) (header_key (drop 2 text)) (anything (header_key (drop 2 text)))
      (λ k t. mapped (λ (rest : List ℕ). ⊤) (λ (p : Expression × List ℕ). SmallExpression p.0) (λ rest. ((k.0, array_table), rest)) (after_byte right_bracket k.1) (anything (after_byte right_bracket k.1)) (λ rest u. tt)))
      (chosen (Reads SmallExpression) (first text == left_bracket) (read_map (λ k. (k, std_table)) (header_key (drop 1 text))) (read_map (λ p. (p.0, key_value p.1)) (keyval (val recursion_limit) text))
      (mapped (λ (k : Key × List ℕ). ⊤) (λ (p : Expression × List ℕ). SmallExpression p.0) (λ k. ((k.0, std_table), k.1)) (header_key (drop 1 text)) (anything (header_key (drop 1 text))) (λ k t. tt))
      (mapped (λ (p : (Key × Data) × List ℕ). IsSmall limit p.0.1) (λ (p : Expression × List ℕ). SmallExpression p.0) (λ p. ((p.0.0, key_value p.0.1), p.1)) (keyval (val recursion_limit) text) (keyval_small text h) (λ p f. f)))

  line_small : (text : List ℕ) → Short limit text → Reads SmallExpression (line text)
  unfolding line
  line_small text h =
      bound (λ (p : Expression × List ℕ). SmallExpression p.0) (λ (p : Expression × List ℕ). SmallExpression p.0) _ (expression text) (expression_small text h)
      (λ x g. chosen (Reads SmallExpression) (ends_line (skip_ws x.1)) (Some x) None g tt)

  -- both hold of what is there
  both : {X : Type 0} (P Q : X → Type 0) (o : Option X) → Holds P o → Holds Q o → Holds (λ (x : X). P x × Q x) o
  both P Q None h k = tt
  both P Q (Some x) h k = (h, k)

  wider : (most : ℕ) (x : Definition) → limit ≤ most → SmallDefinition limit x → SmallDefinition most x
  wider most (key_value datum) e h = omega (arith, e, h)
  wider most std_table e h = tt
  wider most array_table e h = tt

  lines_small : (total : ℕ) (n : ℕ) (most : ℕ) (doc : Document) (text : List ℕ) → limit ≤ most → most + n ≤ total → SmallNodes most doc.0 → Short limit text → Holds (λ (next : Document). SmallNodes total next.0) (lines n doc text)
  unfolding lines
  lines_small total zero most doc text e below f h = tt
  lines_small total (suc n) most doc text e below f h =
      let start = skip_blank text in
      let short = blank_short limit text h in
      chosen (Holds (λ (next : Document). SmallNodes total next.0)) (length start == 0) (Some doc) _ (larger most total doc.0 (omega (arith, below)) f)
      (bound (λ (p : Expression × List ℕ). SmallExpression p.0 × (FitsDefinition limit p.0.1 × Short limit p.1)) (λ (next : Document). SmallNodes total next.0) _ (line start)
      (both (λ (p : Expression × List ℕ). SmallExpression p.0) (λ (p : Expression × List ℕ). FitsDefinition limit p.0.1 × Short limit p.1) (line start) (line_small start short) (line_reads limit start short))
      (λ x g. bound (λ (next : Document). SmallNodes (suc most) next.0) (λ (next : Document). SmallNodes total next.0) _ (define doc x.0) (defined most doc x.0 f (wider most x.0.1 e g.0))
      (λ next k. lines_small total n (suc most) next x.1 (omega (arith, e)) (omega (arith, below)) k g.1.1)))

  -- bytes and lines of a text that is no longer
  abbrev pub most_items : ℕ
  most_items = limit + suc limit

  -- what a key of a document holds
  pub key_small : (text : List ℕ) (document : Members) (key : List ℕ) → Short limit text → parse_document text ≡ Some document → Holds (IsSmall most_items) (get_member key document)
  unfolding parse_document
  key_small text document key h e =
      subst (Holds (λ (ms : Members). Holds (IsSmall most_items) (get_member key ms))) e
      (mapped (λ (doc : Document). SmallNodes most_items doc.0) (λ (ms : Members). Holds (IsSmall most_items) (get_member key ms)) (λ doc. close doc.0) (lines (suc (length text)) (no_nodes, []) (skip_bom text))
      (lines_small most_items (suc (length text)) limit (no_nodes, []) (skip_bom text) (omega arith) (omega (arith, h)) tt (bom_short limit text h)) (λ doc f. closed_get most_items key doc.0 f))
