-- What is read of a TOML text is no longer than it, and its strings are at most four times as long.
use Rattle.std.proofs.Common.{ℕ, zero, suc, ◌+◌, ◌*◌, ◌≤◌, Bool, true, false, cond, ◌&&◌, ◌==◌, nat_lt, nat_le, List, [], ◌∷◌, ◌++◌, length, take, drop, Option, Some, None, arith}
use Rattle.std.specs.Prelude.{⊤, option_map, option_and_then, is_some, unwrap_or, slice_index, encode_utf8}
use Rattle.std.specs.List.{prefix_len, list_all}
use Rattle.std.specs.Char.{is_digit}
use Rattle.std.specs.Str.Parse.{digits_value}
use Rattle.std.proofs.lemmas.List.{length-append}
use Rattle.std.proofs.lemmas.Str.{length-encode, len_utf8_bounds}
use Rattle.toml_parser.specs.Lexical.{Read, line_feed, backslash, dot, first, is_ws, starts_newline, split_while, skip_ws, skip_turn, skip_from, skip_lines, is_bare}
use Rattle.toml_parser.specs.Strings.{Key, simple_escape, hex_len, is_scalar, hex_escape, escape_char, escape, is_plain, at_delims, special, prepend, after_piece, body, trim_newline, one_line, quoted, starts_string, simple_key, key_after, key, recursion_limit}

-- what holds of both choices
pub chosen : {X : Type 0} (P : X → Type 0) (b : Bool) (x y : X) → P x → P y → P (cond b x y)
chosen P true x y a c = a
chosen P false x y a c = c

-- it holds of what is there
abbrev pub Holds : {X : Type 0} → (X → Type 0) → Option X → Type 0
Holds P None = ⊤
Holds P (Some x) = P x

pub mapped : {X Y : Type 0} (P : X → Type 0) (Q : Y → Type 0) (f : X → Y) (o : Option X) → Holds P o → ((x : X) → P x → Q (f x)) → Holds Q (option_map f o)
mapped P Q f None h k = tt
mapped P Q f (Some x) h k = k x h

pub bound : {X Y : Type 0} (P : X → Type 0) (Q : Y → Type 0) (f : X → Option Y) (o : Option X) → Holds P o → ((x : X) → P x → Holds Q (f x)) → Holds Q (option_and_then f o)
bound P Q f None h k = tt
bound P Q f (Some x) h k = k x h

drop_shorter : {X : Type 0} (n : ℕ) (xs : List X) → length (drop n xs) ≤ length xs
drop_shorter zero xs = omega arith
drop_shorter (suc n) [] = omega arith
drop_shorter (suc n) (x ∷ xs) = let h = drop_shorter n xs in omega (arith, h)

skip_shorter : (comments inside : Bool) (text : List ℕ) → length (skip_from comments inside text) ≤ length text
unfolding skip_from
skip_shorter comments inside [] = omega arith
skip_shorter comments inside (c ∷ cs) =
    chosen (λ rest. length rest ≤ length (c ∷ cs)) (is_some (skip_turn comments inside c (first cs))) (skip_from comments (unwrap_or (skip_turn comments inside c (first cs)) false) cs) (c ∷ cs)
    (let h = skip_shorter comments (unwrap_or (skip_turn comments inside c (first cs)) false) cs in omega (arith, h)) (omega arith)

module _ (limit : ℕ) where
  abbrev pub Short : List ℕ → Type 0
  Short text = length text ≤ limit

  -- what was read is so, and the rest is short
  abbrev pub Reads : {A : Type 0} → (A → Type 0) → Read A → Type 0
  Reads {A} Good r = Holds (λ (p : A × List ℕ). Good p.0 × Short p.1) r

  pub short_drop : (n : ℕ) (text : List ℕ) → Short text → Short (drop n text)
  short_drop n text h = let k = drop_shorter n text in omega (arith, h, k)

  pub short_ws : (text : List ℕ) → Short text → Short (skip_ws text)
  unfolding skip_ws
  short_ws text h = short_drop (prefix_len is_ws text) text h

  pub short_skip : (comments inside : Bool) (text : List ℕ) → Short text → Short (skip_from comments inside text)
  short_skip comments inside text h = let k = skip_shorter comments inside text in omega (arith, h, k)

  -- ---- strings

  abbrev AtMost : ℕ → List ℕ → Type 0
  AtMost n bytes = length bytes ≤ n

  abbrev Any : {A : Type 0} → A → Type 0
  Any x = ⊤

  hex_reads : (n : ℕ) (text : List ℕ) → Short text → Reads Any (hex_escape n text)
  unfolding hex_escape
  hex_reads n text h =
      chosen (Reads Any) ((nat_le n (length text) && list_all (λ c. is_digit c 16) (take n text)) && is_scalar (digits_value 16 (take n text)))
      (Some (digits_value 16 (take n text), drop n text)) None (tt, short_drop n text h) tt

  char_reads : (text : List ℕ) → Short text → Reads Any (escape_char text)
  unfolding escape_char
  char_reads text h =
      chosen (Reads Any) (nat_lt 0 (hex_len (first text))) (hex_escape (hex_len (first text)) (drop 1 text)) (option_map (λ c. (c, drop 1 text)) (simple_escape (first text)))
      (hex_reads (hex_len (first text)) (drop 1 text) (short_drop 1 text h))
      (mapped (λ (c : ℕ). ⊤) (λ (p : ℕ × List ℕ). ⊤ × Short p.1) (λ c. (c, drop 1 text)) (simple_escape (first text)) (there (simple_escape (first text))) (λ c t. (tt, short_drop 1 text h)))
    where
      there : (o : Option ℕ) → Holds (λ (c : ℕ). ⊤) o
      there None = tt
      there (Some c) = tt

  escape_reads : (multi : Bool) (text : List ℕ) → Short text → Reads (AtMost 4) (escape multi text)
  unfolding escape
  escape_reads multi text h =
      chosen (Reads (AtMost 4)) (multi && starts_newline (skip_ws text)) (Some ([], skip_lines text)) (option_map (λ p. (encode_utf8 p.0, p.1)) (escape_char text))
      (omega arith, short_skip false false text h)
      (mapped (λ (p : ℕ × List ℕ). ⊤ × Short p.1) (λ (p : List ℕ × List ℕ). AtMost 4 p.0 × Short p.1) (λ p. (encode_utf8 p.0, p.1)) (escape_char text) (char_reads text h)
      (λ p k. let e = length-encode p.0 in let b = (len_utf8_bounds p.0).1 in (omega (arith, e, b), k.1)))

  abbrev Piece : Option (List ℕ) → Type 0
  Piece o = Holds (AtMost 4) o

  delims_read : (delim : ℕ) (text : List ℕ) → Short text → Reads Piece (at_delims delim text)
  delims_read delim text h =
      chosen (Reads Piece) (prefix_len (λ c. c == delim) text == 3) (Some (None, drop 3 text)) _ (tt, short_drop 3 text h)
      (chosen (Reads Piece) (nat_lt (prefix_len (λ c. c == delim) text) 6) (Some (Some (delim ∷ []), drop 1 text)) None (omega arith, short_drop 1 text h) tt)

  special_reads : (delim : ℕ) (multi : Bool) (text : List ℕ) → Short text → Reads Piece (special delim multi text)
  unfolding special
  special_reads delim multi text h =
      chosen (Reads Piece) (first text == delim) (cond multi (at_delims delim text) (Some (None, drop 1 text))) _
      (chosen (Reads Piece) multi (at_delims delim text) (Some (None, drop 1 text)) (delims_read delim text h) (tt, short_drop 1 text h))
      (chosen (Reads Piece) (first text == backslash) (option_map (λ p. (Some p.0, p.1)) (escape multi (drop 1 text))) _
      (mapped (λ (p : List ℕ × List ℕ). AtMost 4 p.0 × Short p.1) (λ (p : Option (List ℕ) × List ℕ). Piece p.0 × Short p.1) (λ p. (Some p.0, p.1)) (escape multi (drop 1 text))
      (escape_reads multi (drop 1 text) (short_drop 1 text h)) (λ p k. k))
      (chosen (Reads Piece) (multi && starts_newline text) (Some (Some (first text ∷ []), drop 1 text)) None (omega arith, short_drop 1 text h) tt))

  prepended : (n m : ℕ) (front : List ℕ) (r : Read (List ℕ)) → length front ≤ 4 → n + 4 ≤ m → Reads (AtMost n) r → Reads (AtMost m) (prepend front r)
  prepended n m front r f e h =
      mapped (λ (p : List ℕ × List ℕ). AtMost n p.0 × Short p.1) (λ (p : List ℕ × List ℕ). AtMost m p.0 × Short p.1) (λ p. (front ++ p.0, p.1)) r h
      (λ p k. let joined = length-append front p.0 in let b = k.0 in (omega (arith, f, e, joined, b), k.1))

  body_reads : (delim : ℕ) (multi : Bool) (n : ℕ) (text : List ℕ) → Short text → Reads (AtMost (4 * n)) (body delim multi n text)
  unfolding body
  body_reads delim multi zero text h = tt
  body_reads delim multi (suc n) text h =
      chosen (Reads (AtMost (4 * suc n))) (is_plain delim multi (first text)) (prepend (first text ∷ []) (body delim multi n (drop 1 text))) _
      (prepended (4 * n) (4 * suc n) (first text ∷ []) (body delim multi n (drop 1 text)) (omega arith) (omega arith) (body_reads delim multi n (drop 1 text) (short_drop 1 text h)))
      (bound (λ (p : Option (List ℕ) × List ℕ). Piece p.0 × Short p.1) (λ (p : List ℕ × List ℕ). AtMost (4 * suc n) p.0 × Short p.1) (λ p. after_piece (body delim multi n) p.0 p.1) (special delim multi text)
      (special_reads delim multi text h) (λ p k. behind p.0 p.1 k.0 (body_reads delim multi n p.1 k.1) k.1))
    where
      behind : (piece : Option (List ℕ)) (rest : List ℕ) → Piece piece → Reads (AtMost (4 * n)) (body delim multi n rest) → Short rest → Reads (AtMost (4 * suc n)) (after_piece (body delim multi n) piece rest)
      behind None rest k b s = (omega arith, s)
      behind (Some bytes) rest k b s = prepended (4 * n) (4 * suc n) bytes (body delim multi n rest) k (omega arith) b

  -- no string is longer
  abbrev pub IsString : List ℕ → Type 0
  IsString bytes = length bytes ≤ 4 * limit

  strings : (n : ℕ) (r : Read (List ℕ)) → n ≤ limit → Reads (AtMost (4 * n)) r → Reads IsString r
  strings n None e h = tt
  strings n (Some p) e h = let b = h.0 in (omega (arith, e, b), h.1)

  one_line_reads : (text : List ℕ) → Short text → Reads IsString (one_line text)
  unfolding one_line
  one_line_reads text h = strings (length text) (body (first text) false (length text) (drop 1 text)) h (body_reads (first text) false (length text) (drop 1 text) (short_drop 1 text h))

  trimmed : (text : List ℕ) → Short text → Short (trim_newline text)
  trimmed text h =
      chosen Short (first text == line_feed) (drop 1 text) _ (short_drop 1 text h) (chosen Short (starts_newline text) (drop 2 text) text (short_drop 2 text h) h)

  pub quoted_reads : (text : List ℕ) → Short text → Reads IsString (quoted text)
  unfolding quoted
  quoted_reads text h =
      chosen (Reads IsString) (slice_index text 1 == first text && slice_index text 2 == first text) (body (first text) true (length text) (trim_newline (drop 3 text))) (one_line text)
      (strings (length text) (body (first text) true (length text) (trim_newline (drop 3 text))) h (body_reads (first text) true (length text) (trim_newline (drop 3 text)) (trimmed (drop 3 text) (short_drop 3 text h))))
      (one_line_reads text h)

  -- ---- keys

  any : (r : Read (List ℕ)) → Reads IsString r → Reads Any r
  any None h = tt
  any (Some p) h = (tt, h.1)

  simple_key_reads : (text : List ℕ) → Short text → Reads Any (simple_key text)
  unfolding simple_key
  simple_key_reads text h =
      chosen (Reads Any) (starts_string text) (one_line text) _ (any (one_line text) (one_line_reads text h))
      (chosen (Reads Any) (is_bare (first text)) (Some (split_while is_bare text)) None (tt, short_drop (prefix_len is_bare text) text h) tt)

  key_after_reads : (n : ℕ) (path : List (List ℕ)) (text : List ℕ) → Short text → Reads Any (key_after n path text)
  unfolding key_after
  key_after_reads zero path text h = tt
  key_after_reads (suc n) path text h =
      bound (λ (p : List ℕ × List ℕ). ⊤ × Short p.1) (λ (p : Key × List ℕ). ⊤ × Short p.1) _ (simple_key text) (simple_key_reads text h)
      (λ part k.
      let rest = skip_ws part.1 in
      let short = short_ws part.1 k.1 in
      chosen (Reads Any) (first rest == dot) (key_after n (path ++ part.0 ∷ []) (skip_ws (drop 1 rest))) (Some ((path, part.0), rest))
      (key_after_reads n (path ++ part.0 ∷ []) (skip_ws (drop 1 rest)) (short_ws (drop 1 rest) (short_drop 1 rest short))) (tt, short))

  pub key_reads : (text : List ℕ) → Short text → Reads Any (key text)
  key_reads text h = key_after_reads recursion_limit [] text h
