-- Lines whose symbols keep apart: their pieces keep apart too, and spell what the symbols do.
use Rattle.std.proofs.Common.{◌≡◌, ℕ, ◌==◌, Bool, true, false, not, ◌&&◌, cond, List, [], ◌∷◌, ◌++◌, codes, refl, sym, ap, subst, ◌∙◌, ⊎_elim}
use Rattle.std.specs.List.{flat_map, list_any, filter, AllByRecursion}
use Rattle.std.specs.Str.{bytes_eq}
use Rattle.std.proofs.lemmas.Bool.{both_ways, eqb-true, and_cases, and_from, and_parts, and_left, and_right, not-true, not_from_false, or_cases, or_from, or_left, or_right, cond_both}
use Rattle.std.proofs.lemmas.Slice.Eq.{bytes_eq-Decides}
use Rattle.c_names.specs.Names.{is_identifier, is_keyword}
use Rattle.c_text.specs.declared.token.TokenKind.TheVariants as kind
use Rattle.c_text.specs.Constants.{is_one_of}
use Rattle.quick_form.specs.Words.{is_blank, is_name, is_number}
use Rattle.quick_form.specs.Symbols.{Symbol, Int, Void, While, Return, Putchar, Main, Name, Number, Mark, Ifdef, Else, Endif, Malformed, Piece, Word, Other, pieces_of, word_symbol, piece_symbols, directive_symbol, is_blank_piece, solid_pieces, is_directive_line, after_first_piece, line_symbols}
use Rattle.quick_form.proofs.LexingPieces.{IsOneLine, IsWord, ArePieces, ArePieces-pieces_of}
use Rattle.quick_lines.specs.Spellings.{Spelling, spelling, hash, spelled_symbol, is_directive}
use Rattle.quick_lines.specs.SpelledLines.{AreOfLine, are_spaced, begin_with_mark, may_go_on}
use Rattle.quick_lines.proofs.Marks.{marks, may_begin, makes_longer, of_all}
use Rattle.quick_lines.proofs.Numbers.{number_is_no_name}
use Rattle.quick_lines.proofs.WordPieces.{other_text, is_fine, word_kind}
use Rattle.quick_lines.proofs.Spacing.{MayStand, AreSpaced, AreLines}

-- a byte as a token, unless it is blank
abbrev pub mark_spelling : Bool → ℕ → List Spelling
mark_spelling blank b = cond blank [] (spelling kind.Punctuator (b ∷ []) ∷ [])

-- what a piece spells as tokens of C
abbrev pub piece_spelling : Piece → List Spelling
piece_spelling (Word w) = spelling (word_kind w) w ∷ []
piece_spelling (Other b) = mark_spelling (is_blank b) b

abbrev pub begin_with_hash : List Spelling → Bool
begin_with_hash [] = false
begin_with_hash (s ∷ ss) = bytes_eq s.text (codes "#")

-- ---- words

record IsWordSymbol (w : List ℕ) (k : Symbol) (ks : List Symbol) : Type 0 where
  fine : is_fine w ≡ true
  spelled : spelled_symbol k ≡ spelling (word_kind w) w ∷ []
  plain : is_directive k ≡ false
  spaced : are_spaced ks ≡ true

fixed_word : (w word : List ℕ) (k : Symbol) (ks : List Symbol) → bytes_eq w word ≡ true
    → is_fine word ≡ true → spelled_symbol k ≡ spelling (word_kind word) word ∷ [] → is_directive k ≡ false → are_spaced ks ≡ true
    → IsWordSymbol w k ks
fixed_word w word k ks e fine spelled plain spaced =
    subst (λ v. IsWordSymbol v k ks) (sym ((bytes_eq-Decides w word).0 e))
    (record { fine = fine; spelled = spelled; plain = plain; spaced = spaced })

named : (w : List ℕ) (ks : List Symbol) → is_name w ≡ true → are_spaced ks ≡ true → IsWordSymbol w (Name w) ks
named w ks h spaced =
    let p = and_parts (is_identifier w && not (is_keyword w) && not (bytes_eq w (codes "putchar"))) (not (bytes_eq w (codes "main"))) h in
    let q = and_parts (is_identifier w && not (is_keyword w)) (not (bytes_eq w (codes "putchar"))) p.0 in
    let r = and_parts (is_identifier w) (not (is_keyword w)) q.0 in
    record { fine = or_left (is_identifier w) (is_number w) r.0; spelled = rw (r.0, not-true (is_keyword w) r.1) refl; plain = refl; spaced = spaced }

numbered : (w : List ℕ) (ks : List Symbol) → is_number w ≡ true → are_spaced ks ≡ true → IsWordSymbol w (Number w) ks
numbered w ks h spaced =
    record { fine = or_right (is_identifier w) (is_number w) h; spelled = rw (number_is_no_name w h) refl; plain = refl; spaced = spaced }

word_checked : (w : List ℕ) (ks : List Symbol) → are_spaced (word_symbol w ∷ ks) ≡ true → IsWordSymbol w (word_symbol w) ks
word_checked w ks =
    let Checked : Symbol → Type 0 = λ k. are_spaced (k ∷ ks) ≡ true → IsWordSymbol w k ks in
    cond_both (bytes_eq w (codes "int")) Int _ Checked (λ e h. fixed_word w (codes "int") Int ks e refl refl refl h) (λ _.
    cond_both (bytes_eq w (codes "void")) Void _ Checked (λ e h. fixed_word w (codes "void") Void ks e refl refl refl h) (λ _.
    cond_both (bytes_eq w (codes "while")) While _ Checked (λ e h. fixed_word w (codes "while") While ks e refl refl refl h) (λ _.
    cond_both (bytes_eq w (codes "return")) Return _ Checked (λ e h. fixed_word w (codes "return") Return ks e refl refl refl h) (λ _.
    cond_both (bytes_eq w (codes "putchar")) Putchar _ Checked (λ e h. fixed_word w (codes "putchar") Putchar ks e refl refl refl h) (λ _.
    cond_both (bytes_eq w (codes "main")) Main _ Checked (λ e h. fixed_word w (codes "main") Main ks e refl refl refl h) (λ _.
    cond_both (is_name w) (Name w) _ Checked (λ e h. named w ks e h) (λ _.
    cond_both (is_number w) (Number w) Malformed Checked (λ e h. numbered w ks e h) (λ _ h. absurd (both_ways false refl h)))))))))

-- ---- other pieces

-- what a mark of the quick form needs
record IsMarkSymbol (b : ℕ) (ks : List Symbol) : Type 0 where
  one : is_one_of (codes "(){};=+-") b ≡ true
  alone : (may_go_on b && begin_with_mark ks) ≡ false
  spaced : are_spaced ks ≡ true

mark_checked : (b : ℕ) (ks : List Symbol) → are_spaced (Mark b ∷ ks) ≡ true → IsMarkSymbol b ks
mark_checked b ks h =
    let p = and_parts (is_one_of (codes "(){};=+-") b && not (may_go_on b && begin_with_mark ks)) (are_spaced ks) h in
    let q = and_parts (is_one_of (codes "(){};=+-") b) (not (may_go_on b && begin_with_mark ks)) p.0 in
    record { one = q.0; alone = not-true (may_go_on b && begin_with_mark ks) q.1; spaced = p.1 }

of_blank : (test : ℕ → Bool) (b : ℕ) → test 32 ≡ true → test 9 ≡ true → is_blank b ≡ true → test b ≡ true
of_blank test b space tab h =
    ⊎_elim (λ e. subst (λ c. test c ≡ true) (sym (eqb-true b 32 e)) space) (λ e. subst (λ c. test c ≡ true) (sym (eqb-true b 9 e)) tab)
    (or_cases (b == 32) (b == 9) h)

is_kept_mark : (b : ℕ) → is_one_of (codes "(){};=+-") b ≡ true → is_one_of marks b ≡ true
is_kept_mark b h = of_all (is_one_of marks) (codes "(){};=+-") b refl h

stands_anywhere : (b : ℕ) (ps : List Piece) → may_begin b ≡ false → MayStand b ps
stands_anywhere b [] h = tt
stands_anywhere b (Word w ∷ ps) h = tt
stands_anywhere b (Other c ∷ ps) h = and_left (may_begin b) (makes_longer c) h

before_blank : (b c : ℕ) → is_blank c ≡ true → (may_begin b && makes_longer c) ≡ false
before_blank b c h = and_right (may_begin b) (makes_longer c) (not-true (makes_longer c) (of_blank (λ d. not (makes_longer d)) c refl refl h))

blank_is_spaced : (b : ℕ) (ps : List Piece) → is_blank b ≡ true → AreSpaced ps → AreSpaced (Other b ∷ ps)
blank_is_spaced b ps e h =
    (of_blank (is_one_of marks) b refl refl e, stands_anywhere b ps (not-true (may_begin b) (of_blank (λ d. not (may_begin d)) b refl refl e)), h)

-- ---- lines of tokens

-- the pieces keep apart, and spell what the symbols do
pub record AreChecked (ps : List Piece) (own : List Symbol) : Type 0 where
  pub spaced : AreSpaced ps
  pub spelled : flat_map piece_spelling ps ≡ flat_map spelled_symbol own
  pub form : AreOfLine (begin_with_hash (flat_map piece_spelling ps)) own

record IsTextLine (ps : List Piece) (own : List Symbol) : Type 0 where
  spaced : AreSpaced ps
  spelled : flat_map piece_spelling ps ≡ flat_map spelled_symbol own
  no_hash : begin_with_hash (flat_map piece_spelling ps) ≡ false
  plain : list_any is_directive own ≡ false

-- the mark of a byte, unless it is blank
abbrev mark_symbols : Bool → ℕ → List Symbol
mark_symbols blank b = cond blank [] (Mark b ∷ [])

mark_stands_at : (b c : ℕ) (ks : List Symbol) → (b == 35) ≡ false → (t : Bool) → is_blank c ≡ t
    → (may_go_on b && begin_with_mark (mark_symbols t c ++ ks)) ≡ false → (may_begin b && makes_longer c) ≡ false
mark_stands_at b c ks other true e h = before_blank b c e
mark_stands_at b c ks other false e h =
    let ends = ⊎_elim (λ f. f) (λ f. absurd (both_ways true f refl)) (and_cases (may_go_on b) true h) in
    and_left (may_begin b) (makes_longer c) (or_from (may_go_on b) (b == 35) ends other)

mark_stands : (b : ℕ) (ps : List Piece) → (b == 35) ≡ false → (may_go_on b && begin_with_mark (flat_map piece_symbols ps)) ≡ false → MayStand b ps
mark_stands b [] other h = tt
mark_stands b (Word w ∷ ps) other h = tt
mark_stands b (Other c ∷ ps) other h = mark_stands_at b c (flat_map piece_symbols ps) other (is_blank c) refl h

other_line : (b : ℕ) (ps : List Piece) (ks : List Symbol) (t : Bool) → is_blank b ≡ t → ks ≡ flat_map piece_symbols ps
    → (are_spaced ks ≡ true → IsTextLine ps ks) → are_spaced (mark_symbols t b ++ ks) ≡ true → IsTextLine (Other b ∷ ps) (mark_symbols t b ++ ks)
other_line b ps ks true e same others h =
    let rest = others h in
    record {
      spaced = blank_is_spaced b ps e rest.spaced;
      spelled = rw e rest.spelled;
      no_hash = rw e rest.no_hash;
      plain = rest.plain;
    }
other_line b ps ks false e same others h =
    let mark = mark_checked b ks h in
    let rest = others mark.spaced in
    let other = not-true (b == 35) (of_all (λ c. not (c == 35)) (codes "(){};=+-") b refl mark.one) in
    let apart = subst (λ js. (may_go_on b && begin_with_mark js) ≡ false) same mark.alone in
    record {
      spaced = (is_kept_mark b mark.one, mark_stands b ps other apart, rest.spaced);
      spelled = rw e (ap (λ ss. spelling kind.Punctuator (b ∷ []) ∷ ss) rest.spelled);
      no_hash = rw e (and_left (b == 35) true other);
      plain = rest.plain;
    }

no_hash_word : (w : List ℕ) → IsWord w → bytes_eq w (codes "#") ≡ false
no_hash_word [] h = absurd h
no_hash_word (b ∷ w) h = other_text b h.0 w (codes "#") refl

text_line : (ps : List Piece) → ArePieces ps → are_spaced (flat_map piece_symbols ps) ≡ true → IsTextLine ps (flat_map piece_symbols ps)
text_line [] pieces h = record { spaced = tt; spelled = refl; no_hash = refl; plain = refl }
text_line (Word w ∷ ps) pieces h =
    let ks = flat_map piece_symbols ps in
    let word = word_checked w ks h in
    let rest = text_line ps pieces.2 word.spaced in
    record {
      spaced = (word.fine, rest.spaced);
      spelled = ap (λ ss. spelling (word_kind w) w ∷ ss) rest.spelled ∙ ap (λ ss. ss ++ flat_map spelled_symbol ks) (sym word.spelled);
      no_hash = no_hash_word w pieces.0;
      plain = or_from (is_directive (word_symbol w)) (list_any is_directive ks) word.plain rest.plain;
    }
text_line (Other b ∷ ps) pieces h = other_line b ps (flat_map piece_symbols ps) (is_blank b) refl refl (text_line ps pieces.2) h

text_checked : (ps : List Piece) → ArePieces ps → are_spaced (flat_map piece_symbols ps) ≡ true → AreChecked ps (flat_map piece_symbols ps)
text_checked ps pieces h =
    let line = text_line ps pieces h in
    record { spaced = line.spaced; spelled = line.spelled; form = subst (λ t. AreOfLine t (flat_map piece_symbols ps)) (sym line.no_hash) line.plain }

-- ---- directive lines

-- the pieces but for blanks
abbrev solid : List Piece → List Piece
solid ps = filter (λ p. not (is_blank_piece p)) ps

stands_solid_at : (b c : ℕ) (ps : List Piece) (t : Bool) → is_blank c ≡ t → MayStand b (cond (not t) (Other c ∷ ps) ps)
    → (may_begin b && makes_longer c) ≡ false
stands_solid_at b c ps true e h = before_blank b c e
stands_solid_at b c ps false e h = h

stands_solid : (b : ℕ) (ps : List Piece) → MayStand b (solid ps) → MayStand b ps
stands_solid b [] h = tt
stands_solid b (Word w ∷ ps) h = tt
stands_solid b (Other c ∷ ps) h = stands_solid_at b c (solid ps) (is_blank c) refl h

spaced_solid_at : (b : ℕ) (ps : List Piece) (t : Bool) → is_blank b ≡ t → (AreSpaced (solid ps) → AreSpaced ps)
    → AreSpaced (cond (not t) (Other b ∷ solid ps) (solid ps)) → AreSpaced (Other b ∷ ps)
spaced_solid_at b ps true e others h = blank_is_spaced b ps e (others h)
spaced_solid_at b ps false e others h = (h.0, stands_solid b ps h.1, others h.2)

spaced_solid : (ps : List Piece) → AreSpaced (solid ps) → AreSpaced ps
spaced_solid [] h = tt
spaced_solid (Word w ∷ ps) h = (h.0, spaced_solid ps h.1)
spaced_solid (Other b ∷ ps) h = spaced_solid_at b ps (is_blank b) refl (spaced_solid ps) h

spelled_solid_at : (b : ℕ) (ps : List Piece) (t : Bool) → is_blank b ≡ t
    → flat_map piece_spelling (cond (not t) (Other b ∷ ps) ps) ≡ mark_spelling t b ++ flat_map piece_spelling ps
spelled_solid_at b ps true e = refl
spelled_solid_at b ps false e = rw e refl

spelled_solid : (ps : List Piece) → flat_map piece_spelling (solid ps) ≡ flat_map piece_spelling ps
spelled_solid [] = refl
spelled_solid (Word w ∷ ps) = ap (λ ss. spelling (word_kind w) w ∷ ss) (spelled_solid ps)
spelled_solid (Other b ∷ ps) =
    spelled_solid_at b (solid ps) (is_blank b) refl ∙ ap (λ ss. piece_spelling (Other b) ++ ss) (spelled_solid ps)

solid_checked : (ps : List Piece) (own : List Symbol) → AreChecked (solid ps) own → AreChecked ps own
solid_checked ps own h = record {
  spaced = spaced_solid ps h.spaced;
  spelled = sym (spelled_solid ps) ∙ h.spelled;
  form = subst (λ ss. AreOfLine (begin_with_hash ss) own) (spelled_solid ps) h.form;
}

fixed_directive : (d word : List ℕ) (k : Symbol) → bytes_eq d word ≡ true
    → is_fine word ≡ true → spelled_symbol k ≡ hash ∷ spelling (word_kind word) word ∷ [] → is_directive k ≡ true
    → AreChecked (Other 35 ∷ Word d ∷ []) (k ∷ [])
fixed_directive d word k e fine spelled is =
    subst (λ v. AreChecked (Other 35 ∷ Word v ∷ []) (k ∷ [])) (sym ((bytes_eq-Decides d word).0 e))
    (record { spaced = (refl, tt, (fine, tt)); spelled = ap (λ ss. ss ++ []) (sym spelled); form = (k, refl, is) })

tested : (d n : List ℕ) → bytes_eq d (codes "ifdef") ≡ true → is_name n ≡ true → AreChecked (Other 35 ∷ Word d ∷ Word n ∷ []) (Ifdef n ∷ [])
tested d n e h =
    let name = named n [] h refl in
    subst (λ v. AreChecked (Other 35 ∷ Word v ∷ Word n ∷ []) (Ifdef n ∷ [])) (sym ((bytes_eq-Decides d (codes "ifdef")).0 e))
    (record {
      spaced = (refl, tt, (refl, (name.fine, tt)));
      spelled = ap (λ ss. hash ∷ spelling kind.Name (codes "ifdef") ∷ ss) (sym name.spelled);
      form = (Ifdef n, refl, refl);
    })

never : (b : ℕ) (ps : List Piece) → are_spaced (Malformed ∷ []) ≡ true → AreChecked (Other b ∷ ps) (Malformed ∷ [])
never b ps h = absurd (both_ways false refl h)

directed : (ps : List Piece) → are_spaced (directive_symbol ps ∷ []) ≡ true → AreChecked (Other 35 ∷ ps) (directive_symbol ps ∷ [])
directed [] = never 35 []
directed (Word d ∷ []) =
    let Goal : Symbol → Type 0 = λ k. are_spaced (k ∷ []) ≡ true → AreChecked (Other 35 ∷ Word d ∷ []) (k ∷ []) in
    cond_both (bytes_eq d (codes "else")) Else _ Goal (λ e h. fixed_directive d (codes "else") Else e refl refl refl) (λ _.
    cond_both (bytes_eq d (codes "endif")) Endif Malformed Goal (λ e h. fixed_directive d (codes "endif") Endif e refl refl refl)
    (λ _ h. never 35 _ h))
directed (Word d ∷ Word n ∷ []) =
    let Goal : Symbol → Type 0 = λ k. are_spaced (k ∷ []) ≡ true → AreChecked (Other 35 ∷ Word d ∷ Word n ∷ []) (k ∷ []) in
    cond_both (bytes_eq d (codes "ifdef")) _ Malformed Goal (λ e.
    cond_both (is_name n) (Ifdef n) Malformed Goal (λ f h. tested d n e f) (λ _ h. never 35 _ h)) (λ _ h. never 35 _ h)
directed (Word d ∷ Word n ∷ p ∷ ps) = never 35 _
directed (Word d ∷ Other b ∷ ps) = never 35 _
directed (Other b ∷ ps) = never 35 _

directive_checked : (ps : List Piece) → is_directive_line ps ≡ true → are_spaced (directive_symbol (after_first_piece ps) ∷ []) ≡ true
    → AreChecked ps (directive_symbol (after_first_piece ps) ∷ [])
directive_checked [] e h = absurd (both_ways false refl e)
directive_checked (Word w ∷ ps) e h = absurd (both_ways false refl e)
directive_checked (Other b ∷ ps) e h =
    subst (λ c. AreChecked (Other c ∷ ps) (directive_symbol ps ∷ [])) (sym (eqb-true b 35 e)) (directed ps h)

-- ---- all lines

line_checked : (line : List ℕ) → IsOneLine line → are_spaced (line_symbols line) ≡ true → AreChecked (pieces_of line) (line_symbols line)
line_checked line one =
    cond_both (is_directive_line (solid_pieces line)) _ (flat_map piece_symbols (pieces_of line))
    (λ own. are_spaced own ≡ true → AreChecked (pieces_of line) own)
    (λ e h. solid_checked (pieces_of line) _ (directive_checked (solid_pieces line) e h))
    (λ e h. text_checked (pieces_of line) (ArePieces-pieces_of line one) h)

begin_apart : (b : ℕ) (ks js : List Symbol) → (may_go_on b && begin_with_mark (ks ++ js)) ≡ false → (may_go_on b && begin_with_mark ks) ≡ false
begin_apart b [] js h = and_right (may_go_on b) false refl
begin_apart b (Mark c ∷ ks) js h = h
begin_apart b (k ∷ ks) js h = h

spaced_parts : (ks js : List Symbol) → are_spaced (ks ++ js) ≡ true → (are_spaced ks ≡ true) × (are_spaced js ≡ true)
spaced_parts [] js h = (refl, h)
spaced_parts (Malformed ∷ ks) js h = absurd (both_ways false refl h)
spaced_parts (Mark b ∷ ks) js h =
    let mark = mark_checked b (ks ++ js) h in
    let rest = spaced_parts ks js mark.spaced in
    let apart = not_from_false (may_go_on b && begin_with_mark ks) (begin_apart b ks js mark.alone) in
    (and_from _ (are_spaced ks) (and_from _ (not (may_go_on b && begin_with_mark ks)) mark.one apart) rest.0, rest.1)
spaced_parts (k ∷ ks) js h = spaced_parts ks js h

abbrev pub AllChecked : List (List ℕ) → Type 0
AllChecked = AllByRecursion (λ l. AreChecked (pieces_of l) (line_symbols l))

pub lines_checked : (ls : List (List ℕ)) → AreLines ls → are_spaced (flat_map line_symbols ls) ≡ true → AllChecked ls
lines_checked [] lines h = tt
lines_checked (l ∷ ls) lines h =
    let parts = spaced_parts (line_symbols l) (flat_map line_symbols ls) h in
    (line_checked l lines.0 parts.0, lines_checked ls lines.1 parts.1)
