-- A new name is a name of the quick form.
use Rattle.std.proofs.Common.{◌≡◌, ℕ, Bool, true, false, not, ◌&&◌, List, refl, codes, drop, nat_eq}
use Rattle.std.proofs.lemmas.Bool.{or_parts}
use Rattle.std.specs.List.{list_any, starts_with}
use Rattle.std.specs.Str.{bytes_eq}
use Rattle.quick_form.specs.Words.{is_name}
use Rattle.c_names.specs.Names.{is_identifier, is_keyword, taken_names, is_new_name}

and_parts : (a b : Bool) → (a && b) ≡ true → (a ≡ true) × (b ≡ true)
and_parts true b h = (refl, h)
and_parts false b h = cc

and_join : (a b : Bool) → a ≡ true → b ≡ true → (a && b) ≡ true
and_join a b p q = rw (p, q) refl

not_true : (a : Bool) → not a ≡ true → a ≡ false
not_true true h = cc
not_true false h = refl

to_not : (a : Bool) → a ≡ false → not a ≡ true
to_not a h = rw h refl

pub new_name_is_name : (w : List ℕ) → is_new_name w ≡ true → is_name w ≡ true
new_name_is_name w h =
    let identifier = is_identifier w in
    let unreserved = not (is_keyword w) in
    let untaken = not (list_any (bytes_eq w) taken_names) in
    let front = (and_parts (identifier && unreserved && untaken) (not (starts_with nat_eq w (codes "__"))) h).0 in
    let more = and_parts (identifier && unreserved) untaken front in
    let kept = and_parts identifier unreserved more.0 in
    let taken = not_true (list_any (bytes_eq w) taken_names) more.1 in
    let a = or_parts (bytes_eq w (codes "defined")) (list_any (bytes_eq w) (drop 1 taken_names)) taken in
    let b = or_parts (bytes_eq w (codes "_Pragma")) (list_any (bytes_eq w) (drop 2 taken_names)) a.1 in
    let c = or_parts (bytes_eq w (codes "main")) (list_any (bytes_eq w) (drop 3 taken_names)) b.1 in
    let d = or_parts (bytes_eq w (codes "putchar")) (list_any (bytes_eq w) (drop 4 taken_names)) c.1 in
    and_join (identifier && unreserved && not (bytes_eq w (codes "putchar"))) (not (bytes_eq w (codes "main")))
    (and_join (identifier && unreserved) (not (bytes_eq w (codes "putchar"))) (and_join identifier unreserved kept.0 kept.1) (to_not (bytes_eq w (codes "putchar")) d.0))
    (to_not (bytes_eq w (codes "main")) c.0)
