-- Units that are judged one after another.
use Rattle.std.proofs.Common.{◌≡◌, ℕ, ◌+◌, List, [], ◌∷◌, ◌++◌, refl, ap, ◌∙◌, append_assoc, sym, zero, suc, ◌<◌, length, get_or, slice_get, drop, add-one, drop-cons, subst, arith}
use Rattle.std.specs.Result.{MatchResult, IsErrAnd}
use Rattle.std.specs.Prelude.{Some, Result, Ok, Err}
use Rattle.c_tree.specs.Trees.{PlainTree}
use Rattle.core_meaning.specs.Checking.{Checked, fine, refused, broken, with_bindings, ◌>>=◌, give}
use Rattle.core_meaning.specs.Entities.{Struct, Numbers}
use Rattle.core_meaning.specs.UnitNames.{judged_unit}
use Rattle.core_meaning.specs.Linking.{closed, Units, judged_units}
use Rattle.plain_link.specs.PlainUnits.{plain_unit}
use Rattle.std.proofs.lemmas.List.{append-nil, map-append}
use Rattle.plain_link.specs.declared.left.Left.{Left}
use Rattle.plain_scope.specs.declared.errors.ElabError.{ElabError}
use Rattle.plain_scope.specs.declared.errors.ElabError.TheVariants.{BadType, Link, Memory}
use Rattle.plain_scope.specs.Judgements.{RefusedAs}
use Rattle.plain_elab.specs.PlainStates.{behind_units}

pub behind_none : (globals : ℕ) (c : Checked Units) → behind_units [] globals c ≡ c
behind_none globals (fine x bindings) = refl
behind_none globals (refused kind token) = refl
behind_none globals broken = refl

pub behind_refused : (globals : ℕ) (front : List Left) (c : Checked Units) (e : ElabError) → RefusedAs c e → RefusedAs (behind_units front globals c) e
behind_refused globals front c (BadType kind at) h =
    record { token = h.token; judged = ap (behind_units front globals) h.judged; stands = h.stands }
behind_refused globals front c (Link kind name) h = absurd h
behind_refused globals front c Memory h = tt

after_one : (globals : ℕ) (front : List Left) (one : Left) (c : Checked Units) → behind_units front globals (with_bindings [] (c >>= (λ others. give (record { units = plain_unit globals one ∷ others.units; structs = others.structs })))) ≡ behind_units (front ++ one ∷ []) globals c
after_one globals front one (fine x bindings) = rw (append-nil bindings, map-append (plain_unit globals) front (one ∷ []), append_assoc) refl
after_one globals front one (refused kind token) = refl
after_one globals front one broken = refl

pub behind_one : (N : ℕ → Numbers) (globals i : ℕ) (structs : List Struct) (tree : PlainTree) (rest : List PlainTree) (front : List Left) (one : Left) (all : List Struct) → closed (judged_unit globals structs (N i) tree) ≡ give (record { units = plain_unit globals one ∷ []; structs = all }) → behind_units front globals (judged_units N globals i structs (tree ∷ rest)) ≡ behind_units (front ++ one ∷ []) globals (judged_units N globals (i + 1) all rest)
behind_one N globals i structs tree rest front one all h =
    ap (λ (c : Checked Units). behind_units front globals (c >>= (λ first. judged_units N globals (i + 1) first.structs rest >>= (λ others. give (record { units = first.units ++ others.units; structs = others.structs }))))) h
    ∙ after_one globals front one (judged_units N globals (i + 1) all rest)

then_refused : {A B : Type 0} (c : Checked A) (f : A → Checked B) (e : ElabError) → RefusedAs c e → RefusedAs (c >>= f) e
then_refused {A} c f (BadType kind at) h = record { token = h.token; judged = ap (λ (x : Checked A). x >>= f) h.judged; stands = h.stands }
then_refused c f (Link kind name) h = absurd h
then_refused c f Memory h = tt

pub units_refused : (N : ℕ → Numbers) (globals i : ℕ) (structs : List Struct) (tree : PlainTree) (rest : List PlainTree) (e : ElabError) → RefusedAs (closed (judged_unit globals structs (N i) tree)) e → RefusedAs (judged_units N globals i structs (tree ∷ rest)) e
units_refused N globals i structs tree rest e h =
    then_refused (closed (judged_unit globals structs (N i) tree)) (λ first. judged_units N globals (i + 1) first.structs rest >>= (λ others. give (record { units = first.units ++ others.units; structs = others.structs }))) e h

pub found_at : {A : Type 0} (xs : List A) (i : ℕ) (x : A) → i < length xs → x ≡ get_or xs i x → slice_get xs i ≡ Some x
found_at [] i x h e = absurd (omega arith)
found_at (y ∷ xs) zero x h e = ap (λ z. Some z) (sym e)
found_at (y ∷ xs) (suc i) x h e = found_at xs i x (omega arith) e

pub drop_at : {A : Type 0} (xs : List A) (i : ℕ) (x : A) → i < length xs → x ≡ get_or xs i x → drop i xs ≡ x ∷ drop (i + 1) xs
drop_at xs i x h e = rw add-one (drop-cons xs i x h ∙ ap (λ y. y ∷ drop (suc i) xs) (sym e))

pub passed_on : {T : Type 0} (r : Result T ElabError) (e : ElabError) (P : T → Type 0) (Q : ElabError → Type 0) → IsErrAnd r (λ x. x ≡ e) → Q e → MatchResult r P Q
passed_on (Ok x) e P Q h q = absurd h
passed_on (Err x) e P Q h q = subst Q (sym h) q
