use Rattle.std.proofs.Common.{◌≡◌, ℕ, ◌+◌, ℤ, ◌≤◌, Bool, true, ◌&&◌, ◌||◌, List, [], ◌∷◌, ◌++◌, length, take, drop, Bor, Option, None, Some, is_some, refl, sym, ap, ◌∙◌, subst, arith, rules, vec_len}
use Rattle.std.specs.Option.{option_copied}
use Rattle.std.proofs.lemmas.List.Elements.{All-append}
use Rattle.std.proofs.lemmas.List.{drop_all, append-nil, take_all}
use Rattle.refute_check.specs.declared.marks.Mark.{Mark}
use Rattle.refute_check.specs.declared.store.Stored.{Stored}
use Rattle.refute_check.specs.Refutations.{has_no_literals}
use Rattle.refute_check.specs.Clauses.{variable_of, is_clause}
use Rattle.refute_check.specs.Entries.{entry, clauses_of, has_empty_step}
use Rattle.refute_check.specs.Storage.{entries_in, AreOver}
use Rattle.refute_check.specs.Marks.{UpTo}
use Rattle.refute_check.specs.Progress.{Progress, fault_in}
use Rattle.refute_check.proofs.FormLaws.{clause_over}
use Rattle.refute_check.proofs.CheckerLaws.{Follow, follow_more, has_empty_step-more, formed_from_fine}
use Rattle.refute_check.proofs.checker.Checker.check.Goals as goal

none_left : {X : Type 0} (o : Option X) → ((x : X) → o ≡ Some x → ⊥) → o ≡ None
none_left None never = refl
none_left (Some x) never = absurd (never x refl)

copied_is_some : (hints : Option (Bor (List ℕ))) → is_some hints ≡ is_some (option_copied hints)
copied_is_some None = refl
copied_is_some (Some hints) = refl

written_back : (now before : List Mark) (count : ℕ) → length now ≡ length before → length before ≡ count → take count (now ++ drop (length now) before) ≡ now
written_back now before count same is =
    let nothing : drop (length now) before ≡ [] = drop_all (length now) before (omega arith) in
    rw nothing (rw (append-nil now) (take_all count now (omega arith)))

over_more : (vars : ℕ) (literals clause : List ℤ) → AreOver vars literals → is_clause vars clause ≡ true → AreOver vars (literals ++ clause)
over_more vars literals clause over formed = record {
  each = All-append (λ (literal : ℤ). variable_of literal ≤ vars) literals clause over.each (clause_over vars clause formed);
}

pub invariant_of-self-2 : goal.invariant_of-self-2
invariant_of-self-2 c =
    let inside = c.self.inside in
    let old = c.self.invariant in
    let clause = c.args.clause.now in
    let hints = option_copied c.args.hints in
    let entries = entries_in inside.literals.items inside.clauses.items in
    let clause_room : 1 ≤ inside.spare_clauses = rw (ap (λ (p : Progress). p.spare_clauses) c.self.view_is) c.requires.clause_room in
    let literal_room : length clause ≤ inside.spare_literals = rw (ap (λ (p : Progress). p.spare_literals) c.self.view_is) c.requires.literal_room in
    let fine : fault_in inside.vars (clauses_of entries) clause hints ≡ None =
    sym (
    c.find_fault-fault.ensures.fault
    ∙ ap (λ (literals : List ℤ). fault_in inside.vars (clauses_of (entries_in literals c.deref-2.result.now)) clause hints) c.deref.ensures.value
    ∙ ap (λ (clauses : List Stored). fault_in inside.vars (clauses_of (entries_in inside.literals.items clauses)) clause hints) c.deref-2.ensures.value
    ) ∙ none_left c.find_fault-fault.result c.in_default-fault.not-Some in
    let derived : c.is_some-derived.result ≡ is_some hints = (let e = c.is_some-derived.ensures in e ∙ copied_is_some c.args.hints) in
    let added : entries_in c.store.new.literals.items c.store.new.clauses.items ≡ entries ++ entry clause (is_some hints) ∷ [] =
    c.store.ensures.entries old.within ∙ ap (λ (b : Bool). entries ++ entry clause b ∷ []) derived in
    record {
      sized = old.sized;
      small = old.small;
      within = c.store.ensures.within old.within;
      over = rw c.store.ensures.literals (over_more inside.vars inside.literals.items clause old.over (formed_from_fine inside.vars (clauses_of entries) clause hints fine));
      fresh = λ _.
          let marked : UpTo (c.len.result + 1) c.find_fault-fault.new.marks = c.find_fault-fault.ensures.numbers in
          let number : c.len.result + 1 ≡ vec_len c.store.new.clauses = omega arith in
          rw (written_back c.find_fault-fault.new.marks inside.marks.items inside.marks.len (search rules) (search rules)) (subst (λ (n : ℕ). UpTo n c.find_fault-fault.new.marks) number marked);
      numbered = omega arith;
      clause_room = omega arith;
      literal_room = omega arith;
      ended =
          let now = c.is_refuted_by-self-inside.ensures in
          now
          ∙ ap (λ (b : Bool). b || (c.is_some-derived.result && has_no_literals clause)) old.ended
          ∙ ap (λ (b : Bool). has_empty_step entries || (b && has_no_literals clause)) derived
          ∙ sym (ap has_empty_step added ∙ has_empty_step-more entries clause (is_some hints));
      sound = subst Follow (sym added) (follow_more inside.vars entries clause hints old.sound fine);
    }
