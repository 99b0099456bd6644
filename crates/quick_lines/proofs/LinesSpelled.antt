-- The lines that C makes of the pieces spell the symbols, line by line.
use Rattle.std.proofs.Common.{◌≡◌, ℕ, suc, Bool, true, false, cond, List, [], ◌∷◌, ◌++◌, length, refl, sym, ap, subst, ◌∙◌}
use Rattle.std.specs.List.{flat_map}
use Rattle.std.proofs.lemmas.Bool.{cond_both}
use Rattle.std.proofs.lemmas.List.Splits.{join_with_byte-slice_split}
use Rattle.c_text.specs.declared.token.TokenKind.TheVariants as kind
use Rattle.c_text.specs.Token.{PlainToken}
use Rattle.c_text.specs.Splices.{spliced}
use Rattle.c_text.specs.Pieces.{PieceKind, space, token}
use Rattle.c_text.specs.Lines as lines
use Rattle.c_text.specs.Lines.{AreItsPieces, Run, run, runs_of, with_first, by_line_end, with_piece, tokens_among, begin_directive, line_of}
use Rattle.quick_form.specs.Words.{is_blank}
use Rattle.quick_form.specs.Symbols.{Symbol, Piece, Word, Other, piece_bytes, pieces_of, line_symbols, lines_of}
use Rattle.quick_lines.specs.Laws.{TextsAreSpelled}
use Rattle.quick_lines.specs.Spellings.{Spelling, spelling, spellings_of}
use Rattle.quick_lines.specs.SpelledLines.{AreOfLine, SpellsLine, SpellLines}
use Rattle.quick_lines.proofs.Marks.{mark_kind}
use Rattle.quick_lines.proofs.WordPieces.{word_kind}
use Rattle.quick_lines.proofs.Spacing.{AllSpaced, are_lines}
use Rattle.quick_lines.proofs.Splicing.{behind, placed_bytes}
use Rattle.quick_lines.proofs.Cutting.{piece_at, placed_pieces, newline_at, text_pieces, cut_text}
use Rattle.quick_lines.proofs.Unspliced.{text_stays}
use Rattle.quick_lines.proofs.LineChecks.{mark_spelling, piece_spelling, begin_with_hash, AreChecked, AllChecked, lines_checked}

-- the pieces of one line
abbrev line_pieces : ℕ → List Piece → List lines.Piece
line_pieces at ps = placed_pieces at ps (λ end. [])

-- ---- tokens

mark_spelled : (file : ℕ) (joined : Bool) (at b : ℕ) (k : PieceKind) (others : Bool → List PlainToken) (t : Bool) (rest : List Spelling)
    → ((joins : Bool) → spellings_of (others joins) ≡ rest)
    → spellings_of (with_piece file joined (piece_at at (b ∷ []) k) (cond t space (token kind.Punctuator)) others) ≡ mark_spelling t b ++ rest
mark_spelled file joined at b k others true rest h = h false
mark_spelled file joined at b k others false rest h = ap (λ ss. spelling kind.Punctuator (b ∷ []) ∷ ss) (h true)

tokens_spelled : (file : ℕ) (joined : Bool) (at : ℕ) (ps : List Piece)
    → spellings_of (tokens_among file joined (line_pieces at ps)) ≡ flat_map piece_spelling ps
tokens_spelled file joined at [] = refl
tokens_spelled file joined at (Word w ∷ ps) =
    let others = line_pieces (behind at w) ps in
    ap (λ v. spelling (word_kind w) v ∷ spellings_of (tokens_among file true others)) (placed_bytes at w)
    ∙ ap (λ ss. spelling (word_kind w) w ∷ ss) (tokens_spelled file true (behind at w) ps)
tokens_spelled file joined at (Other b ∷ ps) =
    mark_spelled file joined at b (mark_kind b) (λ joins. tokens_among file joins (line_pieces (suc at) ps)) (is_blank b) (flat_map piece_spelling ps)
    (λ joins. tokens_spelled file joins (suc at) ps)

directive_is : (tokens : List PlainToken) → begin_directive tokens ≡ begin_with_hash (spellings_of tokens)
directive_is [] = refl
directive_is (first ∷ rest) = refl

line_spelled : (file start end at : ℕ) (ps : List Piece) (own : List Symbol) → AreChecked ps own
    → SpellsLine (line_of file (run start end (line_pieces at ps))) own
line_spelled file start end at ps own h =
    let tokens = tokens_among file false (line_pieces at ps) in
    let spelled = tokens_spelled file false at ps in
    record {
      tokens = spelled ∙ h.spelled;
      form = subst (λ t. AreOfLine t own) (sym (directive_is tokens ∙ ap begin_with_hash spelled)) h.form;
    }

-- ---- runs

-- the offset behind the pieces
abbrev end_at : ℕ → List Piece → ℕ
end_at at [] = at
end_at at (p ∷ ps) = end_at (behind at (piece_bytes p)) ps

-- a mark or a blank stays in its line
mark_in_line : (start end : ℕ) (piece : lines.Piece) (b : ℕ) (others : ℕ → List Run)
    → by_line_end start end piece (mark_kind b) others ≡ with_first start end piece (others start)
mark_in_line start end piece b others =
    cond_both (is_blank b) space (token kind.Punctuator) (λ k. by_line_end start end piece k others ≡ with_first start end piece (others start))
    (λ _. refl) (λ _. refl)

run_before : (start end at : ℕ) (ps : List Piece) (others : ℕ → List lines.Piece)
    → runs_of start end (placed_pieces at ps (λ e. newline_at e ∷ others e))
    ≡ run start (end_at at ps) (line_pieces at ps) ∷ runs_of (suc (end_at at ps)) end (others (end_at at ps))
run_before start end at [] others = refl
run_before start end at (Word w ∷ ps) others =
    ap (with_first start end (piece_at at w (token (word_kind w)))) (run_before start end (behind at w) ps others)
run_before start end at (Other b ∷ ps) others =
    let piece = piece_at at (b ∷ []) (mark_kind b) in
    mark_in_line start end piece b (λ next. runs_of next end (placed_pieces (suc at) ps (λ e. newline_at e ∷ others e)))
    ∙ ap (with_first start end piece) (run_before start end (suc at) ps others)

-- the last line has no newline behind it, and is none if it is empty
abbrev last_runs : ℕ → ℕ → List lines.Piece → List Run
last_runs start end [] = []
last_runs start end (p ∷ ps) = run start end (p ∷ ps) ∷ []

more_first : (start end : ℕ) (piece : lines.Piece) (pieces : List lines.Piece)
    → with_first start end piece (last_runs start end pieces) ≡ run start end (piece ∷ pieces) ∷ []
more_first start end piece [] = refl
more_first start end piece (p ∷ ps) = refl

run_last : (start end at : ℕ) (ps : List Piece) → runs_of start end (line_pieces at ps) ≡ last_runs start end (line_pieces at ps)
run_last start end at [] = refl
run_last start end at (Word w ∷ ps) =
    let piece = piece_at at w (token (word_kind w)) in
    ap (with_first start end piece) (run_last start end (behind at w) ps) ∙ more_first start end piece (line_pieces (behind at w) ps)
run_last start end at (Other b ∷ ps) =
    let piece = piece_at at (b ∷ []) (mark_kind b) in
    mark_in_line start end piece b (λ next. runs_of next end (line_pieces (suc at) ps))
    ∙ ap (with_first start end piece) (run_last start end (suc at) ps) ∙ more_first start end piece (line_pieces (suc at) ps)

-- ---- lines

last_spelled : (file start end at : ℕ) (ps : List Piece) (own : List Symbol) → AreChecked ps own → (ps ≡ [] → own ≡ [])
    → SpellLines (lines.lines_of file (last_runs start end (line_pieces at ps))) (own ++ [])
last_spelled file start end at [] own h none = ap (λ ks. ks ++ []) (none refl)
last_spelled file start end at (p ∷ ps) own h none = (own, [], refl, line_spelled file start end at (p ∷ ps) own h, refl)

no_symbols : (line : List ℕ) → pieces_of line ≡ [] → line_symbols line ≡ []
no_symbols line e = rw e refl

text_spelled : (file start end at : ℕ) (ls : List (List ℕ)) → AllChecked ls
    → SpellLines (lines.lines_of file (runs_of start end (text_pieces at ls))) (flat_map line_symbols ls)
text_spelled file start end at [] h = refl
text_spelled file start end at (l ∷ []) h =
    subst (λ runs. SpellLines (lines.lines_of file runs) (line_symbols l ++ [])) (sym (run_last start end at (pieces_of l)))
    (last_spelled file start end at (pieces_of l) (line_symbols l) h.0 (no_symbols l))
text_spelled file start end at (l ∷ m ∷ ls) h =
    let ps = pieces_of l in
    let stop = end_at at ps in
    let runs_are = run_before start end at ps (λ e. text_pieces (suc e) (m ∷ ls)) in
    let first = line_spelled file start stop at ps (line_symbols l) h.0 in
    let others = text_spelled file (suc stop) end (suc stop) (m ∷ ls) h.1 in
    subst (λ runs. SpellLines (lines.lines_of file runs) (flat_map line_symbols (l ∷ m ∷ ls))) (sym runs_are)
    (line_symbols l, flat_map line_symbols (m ∷ ls), refl, first, others)

all_spaced : (ls : List (List ℕ)) → AllChecked ls → AllSpaced ls
all_spaced [] h = tt
all_spaced (l ∷ ls) h = (h.0.spaced, all_spaced ls h.1)

pub texts_are_spelled_lem : TextsAreSpelled
texts_are_spelled_lem file text h =
    let ls = lines_of text in
    let one_lines = are_lines text in
    let checked = lines_checked ls one_lines h in
    let spaced = all_spaced ls checked in
    let pieces = text_pieces 0 ls in
    let cut = subst (λ placed. AreItsPieces placed pieces) (sym (text_stays ls one_lines spaced)) (cut_text 0 ls one_lines spaced) in
    let are_pieces = subst (λ bytes. AreItsPieces (spliced bytes) pieces) (join_with_byte-slice_split 10 text) cut in
    let spelled = text_spelled file 0 (length text) 0 ls checked in
    (lines.lines_of file (runs_of 0 (length text) pieces), record { pieces = pieces; are_pieces = are_pieces; lines_are = refl }, spelled)
