-- Pieces of a buffer stay what they are when the buffer grows, and so do the files made of them.
use Rattle.std.proofs.Common.{◌≡◌, ℕ, ◌+◌, ◌-◌, ◌<◌, ◌≤◌, Bool, true, false, cond, List, [], ◌∷◌, ◌++◌, length, get_or, set, drop, All, Result, Ok, Err, OnErr, refl, sym, ◌∙◌, ap, subst, arith, length-append, length-drop}
use Rattle.std.proofs.lemmas.List.{take-append-le, drop-append-le, drop_at, take_all, map-append, map-set, get_or-map}
use Rattle.std.proofs.lemmas.List.Elements.{All-head, All-tail, All-weaker, All-push, All-get_or}
use Rattle.text_edits.specs.Files.{PlainFile}
use Rattle.project_store.specs.declared.packed.Piece.{Piece}
use Rattle.project_store.specs.declared.packed.Entry.{Entry}
use Rattle.project_store.specs.Packed.{bytes_at, file_at, files_at, IsPieceWithin, IsWithin}

-- a piece within the front of a buffer
pub bytes_at-append : (front more : List ℕ) (piece : Piece) → IsPieceWithin (length front) piece → bytes_at (front ++ more) piece ≡ bytes_at front piece
bytes_at-append front more piece h =
    let start : piece.start ≤ length front = omega (arith, h.ordered, h.within) in
    let fits : piece.end - piece.start ≤ length (drop piece.start front) = omega (arith, h.ordered, h.within, length-drop piece.start front) in
    rw (drop-append-le) (rw (take-append-le) refl)

-- the piece that was appended last
pub bytes_at-last : (front bytes : List ℕ) (piece : Piece) → piece.start ≡ length front → piece.end ≡ length front + length bytes → bytes_at (front ++ bytes) piece ≡ bytes
bytes_at-last front bytes piece start end =
    rw (drop_at front bytes piece.start (sym start)) (take_all (piece.end - piece.start) bytes (omega arith))

pub file_at-append : (front more : List ℕ) (entry : Entry) → IsWithin (length front) entry → file_at (front ++ more) entry ≡ file_at front entry
file_at-append front more entry h =
    rw (bytes_at-append front more entry.name h.name, bytes_at-append front more entry.content h.content) refl

-- the files of entries within the front of a buffer
pub files_at-append : (front more : List ℕ) (entries : List Entry) → All (IsWithin (length front)) entries → files_at (front ++ more) entries ≡ files_at front entries
files_at-append front more [] h = refl
files_at-append front more (e ∷ es) h =
    rw (file_at-append front more e (All-head (IsWithin (length front)) e es h), files_at-append front more es (All-tail (IsWithin (length front)) e es h)) refl

pub IsPieceWithin-more : (n m : ℕ) (piece : Piece) → n ≤ m → IsPieceWithin n piece → IsPieceWithin m piece
IsPieceWithin-more n m piece le w = record { ordered = w.ordered; within = omega (arith, w.within) }

pub All-within-more : (n m : ℕ) (entries : List Entry) → n ≤ m → All (IsWithin n) entries → All (IsWithin m) entries
All-within-more n m entries le h =
    All-weaker (IsWithin n) (IsWithin m) (λ e w. record { name = IsPieceWithin-more n m e.name le w.name; content = IsPieceWithin-more n m e.content le w.content }) entries h

-- a push that may have failed keeps what holds of each element
pub All-pushed : {X : Type 0} (P : X → Type 0) (pushed : Bool) (xs : List X) (x : X) → All P xs → P x → All P (cond pushed (xs ++ x ∷ []) xs)
All-pushed P true xs x h p = All-push P xs x h p
All-pushed P false xs x h p = h

pub on_err : {T E P : Type 0} (r : Result T E) → P → OnErr r P
on_err (Ok x) p = tt
on_err (Err e) p = p

-- a name and a content are appended, and an entry for them
pub files_at-added : (buffer name bytes : List ℕ) (entries : List Entry) (entry : Entry) → All (IsWithin (length buffer)) entries → entry.name.start ≡ length buffer → entry.name.end ≡ length buffer + length name → entry.content.start ≡ length buffer + length name → entry.content.end ≡ length buffer + length name + length bytes → files_at ((buffer ++ name) ++ bytes) (entries ++ entry ∷ []) ≡ files_at buffer entries ++ record { name = name; bytes = bytes } ∷ []
files_at-added buffer name bytes entries entry h name_start name_end start end =
    let longer : length (buffer ++ name) ≡ length buffer + length name = length-append buffer name in
    let old : files_at ((buffer ++ name) ++ bytes) entries ≡ files_at buffer entries = files_at-append (buffer ++ name) bytes entries (All-within-more (length buffer) (length (buffer ++ name)) entries (omega arith) h) ∙ files_at-append buffer name entries h in
    let in_front : IsPieceWithin (length (buffer ++ name)) entry.name = record { ordered = omega arith; within = omega arith } in
    let named : bytes_at ((buffer ++ name) ++ bytes) entry.name ≡ name = bytes_at-append (buffer ++ name) bytes entry.name in_front ∙ bytes_at-last buffer name entry.name name_start name_end in
    let holds : bytes_at ((buffer ++ name) ++ bytes) entry.content ≡ bytes = bytes_at-last (buffer ++ name) bytes entry.content (omega arith) (omega arith) in
    rw (map-append (file_at ((buffer ++ name) ++ bytes)) entries (entry ∷ []), old, named, holds) refl

-- a content is appended, and becomes that of an entry
pub files_at-replaced : (buffer bytes : List ℕ) (entries : List Entry) (at : ℕ) (was entry : Entry) (d : PlainFile) → All (IsWithin (length buffer)) entries → at < length entries → was ≡ get_or entries at was → entry.name ≡ was.name → entry.content.start ≡ length buffer → entry.content.end ≡ length buffer + length bytes → files_at (buffer ++ bytes) (set entries at entry) ≡ set (files_at buffer entries) at record { name = (get_or (files_at buffer entries) at d).name; bytes = bytes }
files_at-replaced buffer bytes entries at was entry d h fits reads same start end =
    let within : IsWithin (length buffer) was = subst (IsWithin (length buffer)) (sym reads) (All-get_or (IsWithin (length buffer)) entries at was fits h) in
    let named : bytes_at (buffer ++ bytes) entry.name ≡ (get_or (files_at buffer entries) at d).name = ap (bytes_at (buffer ++ bytes)) same ∙ bytes_at-append buffer bytes was.name within.name ∙ ap (λ e. bytes_at buffer e.name) reads ∙ ap (λ f. f.name) (sym (get_or-map (file_at buffer) entries at was d fits)) in
    let holds : bytes_at (buffer ++ bytes) entry.content ≡ bytes = bytes_at-last buffer bytes entry.content start end in
    rw (map-set (file_at (buffer ++ bytes)) entries at entry, files_at-append buffer bytes entries h, named, holds) refl
