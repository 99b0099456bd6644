-- What a word is by the list of those with a meaning of their own.
use Rattle.std.proofs.Common.{◌≡◌, ℕ, Bool, true, false, cond, List, [], ◌∷◌, Option, Some, unwrap_or, if◌then◌else◌, refl, sym, ap, ◌∙◌}
use Rattle.std.specs.Map.{lookup}
use Rattle.std.specs.Str.{bytes_eq}
use Rattle.quick_form.specs.Words.{is_name, is_number}
use Rattle.quick_form.specs.Symbols as spec
use Rattle.quick_lexer.specs.Reserved.{reserved}

-- the tests of a list one after the other, and what holds where none passes
abbrev tested : {K X : Type 0} → (K → Bool) → List (K × X) → X → X
tested test [] other = other
tested test (e ∷ es) other = cond (test e.0) e.1 (tested test es other)

one_more : {X : Type 0} (passes : Bool) (x rest : X) (found : Option X) (other : X) → rest ≡ unwrap_or found other → cond passes x rest ≡ unwrap_or (cond passes (Some x) found) other
one_more true x rest found other h = refl
one_more false x rest found other h = h

tested-lookup : {K X : Type 0} (test : K → Bool) (es : List (K × X)) (other : X) → tested test es other ≡ unwrap_or (lookup test es) other
tested-lookup test [] other = refl
tested-lookup test (e ∷ es) other = one_more (test e.0) e.1 (tested test es other) (lookup test es) other (tested-lookup test es other)

-- what a word is that has no meaning of its own
abbrev other_word : List ℕ → spec.Symbol
other_word w = if is_name w then spec.Name w else if is_number w then spec.Number w else spec.Malformed

pub reserved_word : (w : List ℕ) (symbol : spec.Symbol) → lookup (bytes_eq w) reserved ≡ Some symbol → symbol ≡ spec.word_symbol w
reserved_word w symbol h =
    let by : spec.word_symbol w ≡ unwrap_or (lookup (bytes_eq w) reserved) (other_word w) = tested-lookup (bytes_eq w) reserved (other_word w)
    in sym (by ∙ ap (λ found. unwrap_or found (other_word w)) h)
