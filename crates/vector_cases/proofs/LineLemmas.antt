-- How words and files are read one after the other.
use Rattle.std.proofs.Common.{◌≡◌, ℕ, List, [], ◌∷◌, ◌++◌, length, map, sym, subst, ap, ◌∙◌}
use Rattle.std.specs.List.{AllZip, flat_map}
use Rattle.std.proofs.lemmas.List.{append-nil, map-append}
use Rattle.std.proofs.lemmas.Grind.{flat_map-append}
use Rattle.text_edits.specs.Files.{PlainFile}
use Rattle.vector_cases.specs.declared.fields.Fields.{Fields}
use Rattle.vector_cases.specs.Fields.{Value, number, bytes, Spells, Reads, fields_left, parted}
use Rattle.vector_cases.specs.Lines.{file_values, files_values, words_values}
use Rattle.vector_cases.proofs.FieldLemmas.{reads_both}

pub one_word : (before between after : Fields) (words : List (List ℕ)) (word : List ℕ) → Reads before between (map bytes words) → Reads between after (bytes word ∷ [])
    → Reads before after (map bytes (words ++ word ∷ []))
one_word before between after words word h k = subst (Reads before after) (sym (map-append bytes words (word ∷ []))) (reads_both before between after (map bytes words) (bytes word ∷ []) h k)

pub one_file : (before between named after : Fields) (files : List PlainFile) (file : PlainFile) → Reads before between (flat_map file_values files) → Reads between named (bytes file.name ∷ [])
    → Reads named after (bytes file.bytes ∷ []) → Reads before after (flat_map file_values (files ++ file ∷ []))
one_file before between named after files file h name content =
    subst (Reads before after) (sym (flat_map-append file_values files (file ∷ [])))
    (reads_both before between after (flat_map file_values files) (file_values file) h (reads_both between named after (bytes file.name ∷ []) (bytes file.bytes ∷ []) name content))

pub all_words : (before counted after : Fields) (count : ℕ) (words : List (List ℕ)) → length words ≡ count → Reads before counted (number count ∷ []) → Reads counted after (map bytes words)
    → Reads before after (words_values words)
all_words before counted after count words is h k =
    subst (λ n. Reads before after (number n ∷ map bytes words)) (sym is) (reads_both before counted after (number count ∷ []) (map bytes words) h k)

pub all_files : (before counted after : Fields) (count : ℕ) (files : List PlainFile) → length files ≡ count → Reads before counted (number count ∷ [])
    → Reads counted after (flat_map file_values files) → Reads before after (files_values files)
all_files before counted after count files is h k =
    subst (λ n. Reads before after (number n ∷ flat_map file_values files)) (sym is) (reads_both before counted after (number count ∷ []) (flat_map file_values files) h k)

-- all fields of a line, one after the other
pub whole_line : (line : List ℕ) (a b c d e f g : Fields) (files words values : List Value) (status : ℕ) (printed label : List ℕ) → fields_left a ≡ parted line → fields_left g ≡ []
    → Reads a b files → Reads b c words → Reads c d (number status ∷ []) → Reads d e (bytes printed ∷ []) → Reads e f values → Reads f g (bytes label ∷ [])
    → AllZip Spells (parted line) (files ++ (words ++ (number status ∷ bytes printed ∷ values ++ bytes label ∷ [])))
whole_line line a b c d e f g files words values status printed label begins ends of_files of_words of_status of_printed of_values of_label =
    subst (λ fields. AllZip Spells fields (files ++ (words ++ (number status ∷ bytes printed ∷ values ++ bytes label ∷ []))))
    (sym (sym begins ∙ all.joined ∙ ap (λ l. all.read ++ l) ends ∙ append-nil all.read)) all.spelled
  where
    behind : List Value
    behind = values ++ bytes label ∷ []

    all : Reads a g (files ++ (words ++ (number status ∷ bytes printed ∷ behind)))
    all =
        reads_both a b g files (words ++ (number status ∷ bytes printed ∷ behind)) of_files
        (reads_both b c g words (number status ∷ bytes printed ∷ behind) of_words
        (reads_both c d g (number status ∷ []) (bytes printed ∷ behind) of_status
        (reads_both d e g (bytes printed ∷ []) behind of_printed (reads_both e f g values (bytes label ∷ []) of_values of_label))))
