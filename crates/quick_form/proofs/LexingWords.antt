-- A word as a symbol, with one name made another.
use Rattle.std.proofs.Common.{◌≡◌, ℕ, Bool, true, false, ◌&&◌, not, List, [], ◌∷◌, codes, refl, sym, ap, ◌∙◌, subst}
use Rattle.std.specs.List.{list_all}
use Rattle.std.specs.Str.{bytes_eq}
use Rattle.std.proofs.lemmas.Bool.{both_ways, false_from_ne_true, and_parts, or_left, cond-true, cond-false, cond_both}
use Rattle.std.proofs.lemmas.Slice.Eq.{bytes_eq-Decides}
use Rattle.quick_form.specs.Words.{is_word_byte, is_nondigit, is_digit, is_identifier, is_keyword, is_name, is_number}
use Rattle.quick_form.specs.Symbols.{Symbol, Int, Void, While, Return, Putchar, Main, Name, Number, Malformed, word_symbol}
use Rattle.quick_form.specs.Renaming.{renamed_word, renamed_symbol}
use Rattle.quick_form.proofs.LexingPieces.{IsWord}

pub IsWord-identifier : (w : List ℕ) → is_identifier w ≡ true → IsWord w
IsWord-identifier [] h = absurd (both_ways false refl h)
IsWord-identifier (b ∷ w) h =
    let p = and_parts (is_nondigit b) (list_all is_word_byte w) h in
    (or_left (is_nondigit b) (is_digit b) p.0, p.1)

pub is_identifier-name : (w : List ℕ) → is_name w ≡ true → is_identifier w ≡ true
is_identifier-name w h =
    let p = and_parts (is_identifier w && not (is_keyword w) && not (bytes_eq w (codes "putchar"))) (not (bytes_eq w (codes "main"))) h in
    let q = and_parts (is_identifier w && not (is_keyword w)) (not (bytes_eq w (codes "putchar"))) p.0 in
    (and_parts (is_identifier w) (not (is_keyword w)) q.0).0

pub IsWord-name : (w : List ℕ) → is_name w ≡ true → IsWord w
IsWord-name w h = IsWord-identifier w (is_identifier-name w h)

-- a name differs from what is no name
pub bytes_eq-name : (w k : List ℕ) → is_name w ≡ true → is_name k ≡ false → bytes_eq w k ≡ false
bytes_eq-name w k h n =
    false_from_ne_true (bytes_eq w k)
    (λ e. both_ways (is_name k) n (subst (λ v. is_name v ≡ true) ((bytes_eq-Decides w k).0 e) h))

pub word_symbol-name : (w : List ℕ) → is_name w ≡ true → word_symbol w ≡ Name w
word_symbol-name w h =
    cond-false (bytes_eq w (codes "int")) Int _ (bytes_eq-name w (codes "int") h refl)
    ∙ cond-false (bytes_eq w (codes "void")) Void _ (bytes_eq-name w (codes "void") h refl)
    ∙ cond-false (bytes_eq w (codes "while")) While _ (bytes_eq-name w (codes "while") h refl)
    ∙ cond-false (bytes_eq w (codes "return")) Return _ (bytes_eq-name w (codes "return") h refl)
    ∙ cond-false (bytes_eq w (codes "putchar")) Putchar _ (bytes_eq-name w (codes "putchar") h refl)
    ∙ cond-false (bytes_eq w (codes "main")) Main _ (bytes_eq-name w (codes "main") h refl)
    ∙ cond-true (is_name w) (Name w) _ h

-- the symbol of a word that stays
word_symbol-kept : (old new w : List ℕ) → renamed_word old new w ≡ w → renamed_symbol old new (word_symbol w) ≡ word_symbol w
word_symbol-kept old new w e =
    let Stays : Symbol → Type 0 = λ s. renamed_symbol old new s ≡ s in
    cond_both (bytes_eq w (codes "int")) Int _ Stays (λ _. refl) (λ _.
    cond_both (bytes_eq w (codes "void")) Void _ Stays (λ _. refl) (λ _.
    cond_both (bytes_eq w (codes "while")) While _ Stays (λ _. refl) (λ _.
    cond_both (bytes_eq w (codes "return")) Return _ Stays (λ _. refl) (λ _.
    cond_both (bytes_eq w (codes "putchar")) Putchar _ Stays (λ _. refl) (λ _.
    cond_both (bytes_eq w (codes "main")) Main _ Stays (λ _. refl) (λ _.
    cond_both (is_name w) (Name w) _ Stays (λ _. ap Name e) (λ _.
    cond_both (is_number w) (Number w) Malformed Stays (λ _. refl) (λ _. refl))))))))

word_symbol-renamed_as : (old new w : List ℕ) (t : Bool) → is_name old ≡ true → is_name new ≡ true → bytes_eq w old ≡ t → word_symbol (renamed_word old new w) ≡ renamed_symbol old new (word_symbol w)
word_symbol-renamed_as old new w true ho hn e =
    let r = cond-true (bytes_eq w old) new w e in
    let named = word_symbol-name w (subst (λ v. is_name v ≡ true) (sym ((bytes_eq-Decides w old).0 e)) ho) in
    ap word_symbol r ∙ word_symbol-name new hn ∙ sym (ap (renamed_symbol old new) named ∙ ap Name r)
word_symbol-renamed_as old new w false ho hn e =
    let r = cond-false (bytes_eq w old) new w e in
    ap word_symbol r ∙ sym (word_symbol-kept old new w r)

pub word_symbol-renamed : (old new w : List ℕ) → is_name old ≡ true → is_name new ≡ true → word_symbol (renamed_word old new w) ≡ renamed_symbol old new (word_symbol w)
word_symbol-renamed old new w ho hn = word_symbol-renamed_as old new w (bytes_eq w old) ho hn refl
