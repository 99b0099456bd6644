-- Files that are copied one after the other.
use Rattle.std.proofs.Common.{◌≡◌, ℕ, ◌+◌, ◌<◌, List, [], ◌∷◌, ◌++◌, drop, length, get_or, map, sym, ap, ◌∙◌, append_assoc}
use Rattle.std.proofs.lemmas.List.{at_drop_more, map-append}
use Rattle.text_edits.specs.declared.files.SourceFile.{SourceFile}
use Rattle.text_edits.specs.Files.{PlainFile, plain_file}

-- one copy more
pub one-more : (files done new : List SourceFile) (file copy : SourceFile) (i : ℕ) → i < length files → file ≡ get_or files i file → plain_file copy ≡ plain_file file
    → new ≡ done ++ copy ∷ [] → map plain_file done ++ map plain_file (drop i files) ≡ map plain_file files
    → map plain_file new ++ map plain_file (drop (i + 1) files) ≡ map plain_file files
one-more files done new file copy i within is same pushed before =
    ap (λ l. map plain_file l ++ behind) pushed
    ∙ (ap (λ l. l ++ behind) (map-append plain_file done (copy ∷ []))
    ∙ (append_assoc (map plain_file done) (plain_file copy ∷ []) behind
    ∙ (ap (λ f. map plain_file done ++ f ∷ behind) same
    ∙ (ap (λ f. map plain_file done ++ map plain_file (f ∷ drop (i + 1) files)) is
    ∙ (sym (at_drop_more (λ rest. map plain_file done ++ map plain_file rest) files i file within)
    ∙ before)))))
  where
    behind : List PlainFile
    behind = map plain_file (drop (i + 1) files)
