-- What is found is refused, or a condition that is tested beside it.
use Rattle.std.proofs.Common.{◌≡◌, Bool, true, false, ◌&&◌, ◌||◌, ap, ap₂, ◌∙◌}

pub not_both : (a b c found f : Bool) → f ≡ (a || found) → a ≡ (b && c) → b ≡ true → c ≡ false → f ≡ found
not_both a b c found f is_f is_a is_b is_c = is_f ∙ ap (λ (x : Bool). x || found) (is_a ∙ ap₂ (λ (x y : Bool). x && y) is_b is_c)

pub are_both : (a b c found f : Bool) → f ≡ (a || found) → a ≡ (b && c) → b ≡ true → c ≡ true → f ≡ true
are_both a b c found f is_f is_a is_b is_c = is_f ∙ ap (λ (x : Bool). x || found) (is_a ∙ ap₂ (λ (x y : Bool). x && y) is_b is_c)

pub neither : (a b c found f : Bool) → f ≡ (a || found) → a ≡ (b && c) → b ≡ false → found ≡ false → f ≡ false
neither a b c found f is_f is_a is_b is_found = is_f ∙ ap₂ (λ (x y : Bool). x || y) (is_a ∙ ap (λ (x : Bool). x && c) is_b) is_found
