-- The program of items whose names are changed is the program with its names changed; a change that undoes itself keeps acceptance.
use Rattle.std.proofs.Common.{◌≡◌, ◌<◌, ◌↔◌, ℕ, Bool, true, false, List, [], ◌∷◌, ◌++◌, map, refl, sym, ◌∙◌, ap, subst, cond, All, Contains}
use Rattle.std.proofs.lemmas.List.{map-append, length-map, get_or-map}
use Rattle.std.proofs.lemmas.List.Elements.{All-map, All-weaker}
use Rattle.std.specs.List.{IsDistinct, AllByRecursion}
use Rattle.std.specs.Str.{bytes_eq}
use Rattle.quick_form.specs.Words.{value_of}
use Rattle.quick_form.specs.Form.{Operand, Named, Literal, Term, Sum, Statements, no_more, assignment, output, return_of, loop, group, choice, Items, no_item, variable, initialised, main_with, item_group, item_choice}
use Rattle.quick_form.specs.Renaming.{changed_operand, changed_term, changed_sum, changed_statements, changed_items}
use Rattle.quick_form.specs.Program.{Code, done, assign, put, give, while_, Declaration, object, function, chosen_code, program, operand_names, term_names, sum_names, used_names, object_names, visible_names, bodies, IsAccepted}
use Rattle.quick_form.proofs.Swap.{Undoes, bytes_eq-changed}

abbrev pub changed_code : (List ℕ → List ℕ) → Code → Code
changed_code f done = done
changed_code f (assign x s c) = assign (f x) (changed_sum f s) (changed_code f c)
changed_code f (put s c) = put (changed_sum f s) (changed_code f c)
changed_code f (give s c) = give (changed_sum f s) (changed_code f c)
changed_code f (while_ s b c) = while_ (changed_sum f s) (changed_code f b) (changed_code f c)

abbrev pub changed_declaration : (List ℕ → List ℕ) → Declaration → Declaration
changed_declaration f (object x v) = object (f x) v
changed_declaration f (function c) = function (changed_code f c)

-- a function of a choice
pub chosen_by : {A B : Type 0} (g : A → B) (b : Bool) {x y : A} {x' y' : B} → x' ≡ g x → y' ≡ g y → cond b x' y' ≡ g (cond b x y)
chosen_by g true p q = p
chosen_by g false p q = q

code_changed : (on : List ℕ → Bool) (f : List ℕ → List ℕ) (t : Statements) (k : Code) → chosen_code on (changed_statements f t) (changed_code f k) ≡ changed_code f (chosen_code on t k)
code_changed on f no_more k = refl
code_changed on f (assignment x s t) k = ap (assign (f x) (changed_sum f s)) (code_changed on f t k)
code_changed on f (output s t) k = ap (put (changed_sum f s)) (code_changed on f t k)
code_changed on f (return_of s t) k = ap (give (changed_sum f s)) (code_changed on f t k)
code_changed on f (loop s b t) k =
    let body = code_changed on f b done in
    let rest = code_changed on f t k in cc
code_changed on f (group n b t) k =
    chosen_by (changed_code f) (on n)
    (ap (chosen_code on (changed_statements f b)) (code_changed on f t k) ∙ code_changed on f b (chosen_code on t k))
    (code_changed on f t k)
code_changed on f (choice n b o t) k =
    chosen_by (changed_code f) (on n)
    (ap (chosen_code on (changed_statements f b)) (code_changed on f t k) ∙ code_changed on f b (chosen_code on t k))
    (ap (chosen_code on (changed_statements f o)) (code_changed on f t k) ∙ code_changed on f o (chosen_code on t k))

pub program_changed : (on : List ℕ → Bool) (f : List ℕ → List ℕ) (t : Items) → program on (changed_items f t) ≡ map (changed_declaration f) (program on t)
program_changed on f no_item = refl
program_changed on f (variable x t) = ap (λ p. object (f x) 0 ∷ p) (program_changed on f t)
program_changed on f (initialised x d t) = ap (λ p. object (f x) (value_of d) ∷ p) (program_changed on f t)
program_changed on f (main_with b t) =
    let body = code_changed on f b done in
    let rest = program_changed on f t in cc
program_changed on f (item_group n b t) =
    let front = chosen_by (map (changed_declaration f)) (on n) {y = []} (program_changed on f b) refl in
    let rest = program_changed on f t in
    ap (λ p. p ++ program on (changed_items f t)) front ∙ (ap (λ p. map (changed_declaration f) (cond (on n) (program on b) []) ++ p) rest ∙ sym (map-append (changed_declaration f) (cond (on n) (program on b) []) (program on t)))
program_changed on f (item_choice n b o t) =
    let front = chosen_by (map (changed_declaration f)) (on n) (program_changed on f b) (program_changed on f o) in
    let rest = program_changed on f t in
    ap (λ p. p ++ program on (changed_items f t)) front ∙ (ap (λ p. map (changed_declaration f) (cond (on n) (program on b) (program on o)) ++ p) rest ∙ sym (map-append (changed_declaration f) (cond (on n) (program on b) (program on o)) (program on t)))

pub bodies_changed : (f : List ℕ → List ℕ) (p : List Declaration) → bodies (map (changed_declaration f) p) ≡ map (changed_code f) (bodies p)
bodies_changed f [] = refl
bodies_changed f (object x v ∷ p) = bodies_changed f p
bodies_changed f (function c ∷ p) = ap (λ cs. changed_code f c ∷ cs) (bodies_changed f p)

object_names_changed : (f : List ℕ → List ℕ) (p : List Declaration) → object_names (map (changed_declaration f) p) ≡ map f (object_names p)
object_names_changed f [] = refl
object_names_changed f (object x v ∷ p) = ap (λ xs. f x ∷ xs) (object_names_changed f p)
object_names_changed f (function c ∷ p) = object_names_changed f p

visible_names_changed : (f : List ℕ → List ℕ) (p : List Declaration) → visible_names (map (changed_declaration f) p) ≡ map f (visible_names p)
visible_names_changed f [] = refl
visible_names_changed f (object x v ∷ p) = ap (λ xs. f x ∷ xs) (visible_names_changed f p)
visible_names_changed f (function c ∷ p) = refl

operand_names_changed : (f : List ℕ → List ℕ) (o : Operand) → operand_names (changed_operand f o) ≡ map f (operand_names o)
operand_names_changed f (Named x) = refl
operand_names_changed f (Literal d) = refl

term_names_changed : (f : List ℕ → List ℕ) (ts : List Term) → term_names (map (changed_term f) ts) ≡ map f (term_names ts)
term_names_changed f [] = refl
term_names_changed f (t ∷ ts) =
    let a = operand_names_changed f t.operand in
    let b = term_names_changed f ts in
    let c = map-append f (operand_names t.operand) (term_names ts) in cc

sum_names_changed : (f : List ℕ → List ℕ) (s : Sum) → sum_names (changed_sum f s) ≡ map f (sum_names s)
sum_names_changed f s =
    let a = operand_names_changed f s.first in
    let b = term_names_changed f s.more in
    let c = map-append f (operand_names s.first) (term_names s.more) in cc

used_names_changed : (f : List ℕ → List ℕ) (c : Code) → used_names (changed_code f c) ≡ map f (used_names c)
used_names_changed f done = refl
used_names_changed f (assign x s c) =
    let a = sum_names_changed f s in
    let b = used_names_changed f c in
    let e = map-append f (sum_names s) (used_names c) in cc
used_names_changed f (put s c) =
    let a = sum_names_changed f s in
    let b = used_names_changed f c in
    let e = map-append f (sum_names s) (used_names c) in cc
used_names_changed f (give s c) =
    let a = sum_names_changed f s in
    let b = used_names_changed f c in
    let e = map-append f (sum_names s) (used_names c) in cc
used_names_changed f (while_ s d c) =
    let a = sum_names_changed f s in
    let b = used_names_changed f d in
    let g = used_names_changed f c in
    let e = map-append f (used_names d) (used_names c) in
    let h = map-append f (sum_names s) (used_names d ++ used_names c) in cc

differs_changed : (f : List ℕ → List ℕ) → Undoes f → (x : List ℕ) (ys : List (List ℕ)) → AllByRecursion (λ y. bytes_eq x y ≡ false) ys → AllByRecursion (λ y. bytes_eq (f x) y ≡ false) (map f ys)
differs_changed f u x [] h = tt
differs_changed f u x (y ∷ ys) h = (bytes_eq-changed f u x y ∙ h.0, differs_changed f u x ys h.1)

distinct_changed : (f : List ℕ → List ℕ) → Undoes f → (xs : List (List ℕ)) → IsDistinct bytes_eq xs → IsDistinct bytes_eq (map f xs)
unfolding IsDistinct
distinct_changed f u [] h = tt
distinct_changed f u (x ∷ xs) h = (differs_changed f u x xs h.0, distinct_changed f u xs h.1)

contains_changed : (f : List ℕ → List ℕ) (xs : List (List ℕ)) (x : List ℕ) → Contains xs x → Contains (map f xs) (f x)
contains_changed f xs x h =
    (h.0, let e = length-map xs f in subst (λ n. h.0 < n) (sym e) h.1, get_or-map f xs h.0 x (f x) h.1 ∙ ap f h.2)

known_changed : (f : List ℕ → List ℕ) (xs ys : List (List ℕ)) → All (Contains xs) ys → All (Contains (map f xs)) (map f ys)
known_changed f xs ys h =
    All-map (Contains (map f xs)) f ys
    (All-weaker (Contains xs) (λ y. Contains (map f xs) (f y)) (contains_changed f xs) ys h)

accepted_changed : (f : List ℕ → List ℕ) → Undoes f → (p : List Declaration) → IsAccepted p → IsAccepted (map (changed_declaration f) p)
accepted_changed f u p a = record {
  body = changed_code f a.body;
  once = bodies_changed f p ∙ ap (map (changed_code f)) a.once;
  distinct = subst (IsDistinct bytes_eq) (sym (object_names_changed f p)) (distinct_changed f u (object_names p) a.distinct);
  known =
      subst (λ us. All (Contains (visible_names (map (changed_declaration f) p))) us) (sym (used_names_changed f a.body))
      (subst (λ vs. All (Contains vs) (map f (used_names a.body))) (sym (visible_names_changed f p))
      (known_changed f (visible_names p) (used_names a.body) a.known));
}

-- changing twice changes nothing
operand_back : (f : List ℕ → List ℕ) → Undoes f → (o : Operand) → changed_operand f (changed_operand f o) ≡ o
operand_back f u (Named x) = ap Named (u.back x)
operand_back f u (Literal d) = refl

terms_back : (f : List ℕ → List ℕ) → Undoes f → (ts : List Term) → map (changed_term f) (map (changed_term f) ts) ≡ ts
terms_back f u [] = refl
terms_back f u (t ∷ ts) =
    let g : Operand → Term = λ o. record { subtracted = t.subtracted; operand = o } in
    let head : changed_term f (changed_term f t) ≡ t = ap g (operand_back f u t.operand) in
    let rest = terms_back f u ts in cc

sum_back : (f : List ℕ → List ℕ) → Undoes f → (s : Sum) → changed_sum f (changed_sum f s) ≡ s
sum_back f u s =
    let g : Operand → Sum = λ o. record { first = o; more = map (changed_term f) (map (changed_term f) s.more) } in
    let h : List Term → Sum = λ ts. record { first = s.first; more = ts } in
    ap g (operand_back f u s.first) ∙ ap h (terms_back f u s.more)

code_back : (f : List ℕ → List ℕ) → Undoes f → (c : Code) → changed_code f (changed_code f c) ≡ c
code_back f u done = refl
code_back f u (assign x s c) =
    let name = u.back x in
    let sum = sum_back f u s in
    let rest = code_back f u c in cc
code_back f u (put s c) =
    let sum = sum_back f u s in
    let rest = code_back f u c in cc
code_back f u (give s c) =
    let sum = sum_back f u s in
    let rest = code_back f u c in cc
code_back f u (while_ s d c) =
    let sum = sum_back f u s in
    let body = code_back f u d in
    let rest = code_back f u c in cc

program_back : (f : List ℕ → List ℕ) → Undoes f → (p : List Declaration) → map (changed_declaration f) (map (changed_declaration f) p) ≡ p
program_back f u [] = refl
program_back f u (object x v ∷ p) =
    let name = u.back x in
    let rest = program_back f u p in cc
program_back f u (function c ∷ p) =
    let code = code_back f u c in
    let rest = program_back f u p in cc

pub accepted_either_way : (f : List ℕ → List ℕ) → Undoes f → (p : List Declaration) → IsAccepted p ↔ IsAccepted (map (changed_declaration f) p)
accepted_either_way f u p =
    (accepted_changed f u p, λ a. subst IsAccepted (program_back f u p) (accepted_changed f u (map (changed_declaration f) p) a))
