-- What is added to a run, seen in a configuration.
use Rattle.std.proofs.Common.{◌≡◌, ℕ, Bool, true, false, ◌&&◌, ◌||◌, List, [], ◌∷◌, ◌++◌, map, Option, Some, refl, sym, ap, ◌∙◌, append-nil}
use Rattle.std.specs.Prelude.{if◌then◌else◌}
use Rattle.std.specs.Option.{option_map}
use Rattle.std.proofs.lemmas.List.{map-append}
use Rattle.c_text.specs.Token.{PlainToken}
use Rattle.c_text.specs.Macros as spec
use Rattle.cond_formula.specs.Conditions.{value}
use Rattle.conditional.specs.Entries.{Entry, seen, under}
use Rattle.cond_runs.specs.Looked.{looked, unless}
use Rattle.cond_runs.specs.Pieces.{Held, Piece, unless_refused, also, under_piece, items_piece, given_piece, open_piece, some_open, ended, without_calls}
use Rattle.cond_runs.proofs.Sites.{brought-cores, looked_cores}

abbrev pub run_of : Bool → Bool → List spec.Item → List Held → Option Piece
run_of exact refused done calls = unless_refused refused (record { done = map (looked exact) done; open_calls = calls })

pub items_pushed : (exact refused : Bool) (done new : List spec.Item) (calls : List Held) (w : Bool) (items : List spec.Item) → new ≡ done ++ under w items →
    run_of exact refused new calls ≡ also (run_of exact refused done calls) (under_piece w (items_piece exact items))
items_pushed exact true done new calls w items e = refl
items_pushed exact false done new calls true items e =
    ap (λ (l : List spec.Item). run_of exact false l calls) e
    ∙ ap (λ (l : List spec.Item). Some (record { done = l; open_calls = calls })) (map-append (looked exact) done items)
    ∙ ap (λ (l : List Held). Some (record { done = map (looked exact) done ++ map (looked exact) items; open_calls = l })) (sym (append-nil calls))
items_pushed exact false done new calls false items e =
    ap (λ (l : List spec.Item). run_of exact false l calls) (e ∙ append-nil done)
    ∙ ap (λ (l : List spec.Item). Some (record { done = l; open_calls = calls })) (sym (append-nil (map (looked exact) done)))
    ∙ ap (λ (l : List Held). Some (record { done = map (looked exact) done ++ []; open_calls = l })) (sym (append-nil calls))

pub call_pushed : (exact refused : Bool) (done : List spec.Item) (calls new : List Held) (w : Bool) (held : Held) → new ≡ calls ++ under w (held ∷ []) →
    run_of exact refused done new ≡ also (run_of exact refused done calls) (under_piece w (open_piece (held ∷ [])))
call_pushed exact true done calls new w held e = refl
call_pushed exact false done calls new true held e =
    ap (λ (l : List Held). run_of exact false done l) e
    ∙ ap (λ (l : List spec.Item). Some (record { done = l; open_calls = calls ++ held ∷ [] })) (sym (append-nil (map (looked exact) done)))
call_pushed exact false done calls new false held e =
    ap (λ (l : List Held). run_of exact false done l) e
    ∙ ap (λ (l : List spec.Item). Some (record { done = l; open_calls = calls ++ [] })) (sym (append-nil (map (looked exact) done)))

pub call_taken : (exact refused after given_refused : Bool) (done new : List spec.Item) (calls : List Held) (w : Bool) (first last : PlainToken) (items : List spec.Item) →
    after ≡ (refused || (w && given_refused)) → new ≡ done ++ under w (map (spec.brought first last) items) →
    run_of exact after new calls ≡ also (run_of exact refused done calls) (under_piece w (given_piece exact (option_map (map (spec.brought first last)) (unless given_refused (Some (map (looked false) items))))))
call_taken exact true after given_refused done new calls w first last items is e = ap (λ (b : Bool). run_of exact b new calls) is
call_taken exact false after true done new calls true first last items is e = ap (λ (b : Bool). run_of exact b new calls) is
call_taken exact false after false done new calls true first last items is e =
    ap (λ (b : Bool). run_of exact b new calls) is
    ∙ items_pushed exact false done new calls true (map (spec.brought first last) items) e
    ∙ ap (λ (l : List spec.Item). also (run_of exact false done calls) (items_piece exact l)) (sym (ap (map (spec.brought first last)) (looked_cores items) ∙ brought-cores first last items))
call_taken exact false after given_refused done new calls false first last items is e =
    ap (λ (b : Bool). run_of exact b new calls) is
    ∙ items_pushed exact false done new calls false (map (spec.brought first last) items) e

pub run_ended : (exact refused after : Bool) (done : List spec.Item) (calls : List Held) → after ≡ (refused || some_open calls) → unless after (Some (map (looked exact) done)) ≡ ended (run_of exact refused done calls)
run_ended exact true after done calls is = ap (λ (b : Bool). unless b (Some (map (looked exact) done))) is
run_ended exact false after done [] is = ap (λ (b : Bool). unless b (Some (map (looked exact) done))) is
run_ended exact false after done (held ∷ calls) is = ap (λ (b : Bool). unless b (Some (map (looked exact) done))) is

-- ---- open calls

pub held_pushed : (on : ℕ → Bool) (xs : List (Entry Held)) (x : Entry Held) → seen on (xs ++ x ∷ []) ≡ seen on xs ++ under (value on x.when) (x.what ∷ [])
held_pushed on [] x = one (value on x.when) where
  one : (t : Bool) → (if◌then◌else◌ t (x.what ∷ []) []) ≡ under t (x.what ∷ [])
  one true = refl
  one false = refl
held_pushed on (y ∷ xs) x = by_test (value on y.when) (held_pushed on xs x) where
  by_test : (t : Bool) → seen on (xs ++ x ∷ []) ≡ seen on xs ++ under (value on x.when) (x.what ∷ []) →
      (if◌then◌else◌ t (y.what ∷ seen on (xs ++ x ∷ [])) (seen on (xs ++ x ∷ []))) ≡ (if◌then◌else◌ t (y.what ∷ seen on xs) (seen on xs)) ++ under (value on x.when) (x.what ∷ [])
  by_test true e = ap (λ (l : List Held). y.what ∷ l) e
  by_test false e = e

pub open_cases : (s t all : Bool) (held : Held) (rest : List Held) → (s || some_open (if◌then◌else◌ t (held ∷ rest) rest)) ≡ all → ((s || t) || some_open rest) ≡ all
open_cases true t all held rest e = e
open_cases false true all held rest e = e
open_cases false false all held rest e = e

pub calls_taken : (exact refused : Bool) (done : List spec.Item) (calls new : List Held) → new ≡ [] → run_of exact refused done new ≡ without_calls (run_of exact refused done calls)
calls_taken exact true done calls new e = refl
calls_taken exact false done calls new e = ap (λ (l : List Held). run_of exact false done l) e

pub unless_either : (a b : Bool) (items : Option (List spec.Item)) → unless (a || b) items ≡ unless b (unless a items)
unless_either true true items = refl
unless_either true false items = refl
unless_either false b items = refl

-- ---- calls that are read

pub call_lengthened : (call : spec.Call) (t : Bool) (item : spec.Item) (last : List spec.Item) → last ≡ call.last ++ under t (item ∷ []) → record call { last = last } ≡ (if◌then◌else◌ t (spec.with_item call item) call)
call_lengthened call true item last e = ap (λ (l : List spec.Item). record call { last = l }) e
call_lengthened call false item last e = ap (λ (l : List spec.Item). record call { last = l }) (e ∙ append-nil call.last)
