-- Lines that spell a nest form a part that gives what is present of it.
use Rattle.std.proofs.Common.{◌≡◌, ℕ, zero, suc, ◌+◌, ◌≤◌, Bool, true, false, List, [], ◌∷◌, ◌++◌, length, refl, sym, ap, subst, ◌∙◌, arith, length-append}
use Rattle.std.specs.List.{list_any}
use Rattle.std.proofs.lemmas.Bool.{both_ways, or_parts}
use Rattle.std.proofs.lemmas.List.{append_assoc, append-nil}
use Rattle.c_text.specs.Lines.{PlainLine}
use Rattle.quick_form.specs.Symbols.{Symbol, Ifdef, Else, Endif}
use Rattle.quick_lines.specs.Spellings.{is_directive}
use Rattle.quick_lines.specs.SpelledLines.{AreOfLine, SpellsLine, SpellLines}
use Rattle.quick_units.specs.Units.{is_on}
use Rattle.quick_units.proofs.Nests.{Nest, nothing, symbol, one_branch, two_branches, write, present, IsPlain}
use Rattle.quick_units.proofs.Parts.{Gives, gives-none, gives-text, gives-group, gives-choice}

-- what stands behind a branch: nothing, or a directive line
abbrev Stops : List Symbol → Type 0
Stops [] = Unit {0}
Stops (k ∷ c) = is_directive k ≡ true

-- the lines begin with that directive line
abbrev Ends : List PlainLine → List Symbol → Type 0
Ends lines [] = lines ≡ []
Ends lines (k ∷ c) = (line : PlainLine) × (rest : List PlainLine) × (lines ≡ line ∷ rest) × SpellsLine line (k ∷ []) × SpellLines rest c

-- ---- symbols of one line, taken from a nest

record Peeled (on : List ℕ → Bool) (a : Nest) (own rest c : List Symbol) : Type 0 where
  nest : Nest
  writes : rest ≡ write nest c
  gives : present on a ≡ own ++ present on nest
  plain : IsPlain nest

module _ (on : List ℕ → Bool) where
  with-first : (s k : Symbol) (a : Nest) (own rest c : List Symbol) → s ≡ k → Peeled on a own rest c → Peeled on (symbol s a) (k ∷ own) rest c
  with-first s k a own rest c e p = record {
    nest = p.nest;
    writes = p.writes;
    gives = ap (λ x. x ∷ present on a) e ∙ ap (λ l. k ∷ l) p.gives;
    plain = p.plain;
  }

  peel : (own rest c : List Symbol) (a : Nest) → Stops c → IsPlain a → list_any is_directive own ≡ false → write a c ≡ own ++ rest → Peeled on a own rest c
  peel [] rest c a stops p e w = record { nest = a; writes = sym w; gives = refl; plain = p }
  peel (k ∷ own) rest [] nothing stops p e w = cc
  peel (k ∷ own) rest (d ∷ c) nothing stops p e w =
      let same : d ≡ k = cc in
      absurd (both_ways (is_directive k) (or_parts (is_directive k) (list_any is_directive own) e).0 (ap is_directive (sym same) ∙ stops))
  peel (k ∷ own) rest c (symbol s a) stops p e w =
      let first : s ≡ k = cc in
      let others : write a c ≡ own ++ rest = cc in
      with-first s k a own rest c first (peel own rest c a stops p.1 (or_parts (is_directive k) (list_any is_directive own) e).1 others)
  peel (k ∷ own) rest c (one_branch n body more) stops p e w =
      let first : Ifdef n ≡ k = cc in
      absurd (both_ways (is_directive k) (or_parts (is_directive k) (list_any is_directive own) e).0 (ap is_directive (sym first)))
  peel (k ∷ own) rest c (two_branches n body other more) stops p e w =
      let first : Ifdef n ≡ k = cc in
      absurd (both_ways (is_directive k) (or_parts (is_directive k) (list_any is_directive own) e).0 (ap is_directive (sym first)))

-- ---- the lines of a nest

module _ (names : List (List ℕ)) where
  record Taken (lines : List PlainLine) (a : Nest) (c : List Symbol) : Type 0 where
    before : List PlainLine
    after : List PlainLine
    split : lines ≡ before ++ after
    gives : Gives names before (present (is_on names) a)
    ends : Ends after c

  taken-none : (lines : List PlainLine) (c : List Symbol) → Ends lines c → Taken lines nothing c
  taken-none lines c e = record { before = []; after = lines; split = refl; gives = gives-none names; ends = e }

  -- behind a line of text
  taken-text : (line : PlainLine) (lines : List PlainLine) (own rest c : List Symbol) (a : Nest) (p : Peeled (is_on names) a own rest c) → line.directive ≡ false → SpellsLine line own → Taken lines p.nest c → Taken (line ∷ lines) a c
  taken-text line lines own rest c a p e h t = record {
    before = line ∷ t.before;
    after = t.after;
    split = ap (λ l. line ∷ l) t.split;
    gives = subst (λ out. Gives names (line ∷ t.before) out) (sym p.gives) (gives-text names line own h.tokens t.before (present (is_on names) p.nest) e t.gives);
    ends = t.ends;
  }

  -- a part of a list is no longer than the list
  part-length : (fuel : ℕ) (lines before rest : List PlainLine) (line : PlainLine) → lines ≡ before ++ (line ∷ rest) → length lines ≤ fuel → length rest ≤ fuel
  part-length fuel lines before rest line e h =
      let all : length lines ≡ length before + suc (length rest) = ap length e ∙ length-append before (line ∷ rest) in
      omega (arith, all, h)

  -- what is shown of no more lines than these
  abbrev Known : ℕ → Type 0
  Known fuel =
      (lines : List PlainLine) (a : Nest) (c : List Symbol) → length lines ≤ fuel → IsPlain a → Stops c → SpellLines lines (write a c)
      → Taken lines a c

  module _ (fuel : ℕ) (known : Known fuel) (line : PlainLine) (lines : List PlainLine) (size : length lines ≤ fuel) where
    taken-group : (n : List ℕ) (body more : Nest) (c : List Symbol) → IsPlain more → Stops c → SpellsLine line (Ifdef n ∷ []) → Taken lines body (Endif ∷ write more c) → Taken (line ∷ lines) (one_branch n body more) c
    taken-group n body more c p stops begin t =
        let last = t.ends.0 in
        let inner = t.ends.1 in
        let all = t.split ∙ ap (λ x. t.before ++ x) t.ends.2 in
        let u = known inner more c (part-length fuel lines t.before inner last all size) p stops t.ends.4 in
        record {
          before = line ∷ t.before ++ (last ∷ u.before);
          after = u.after;
          split = ap (λ x. line ∷ x) (all ∙ ap (λ x. t.before ++ (last ∷ x)) u.split ∙ sym (append_assoc t.before (last ∷ u.before) u.after));
          gives = gives-group names n line last t.before u.before (present (is_on names) body) (present (is_on names) more) begin t.ends.3 t.gives u.gives;
          ends = u.ends;
        }

    taken-choice : (n : List ℕ) (body other more : Nest) (c : List Symbol) → IsPlain other → IsPlain more → Stops c → SpellsLine line (Ifdef n ∷ []) → Taken lines body (Else ∷ write other (Endif ∷ write more c)) → Taken (line ∷ lines) (two_branches n body other more) c
    taken-choice n body other more c q p stops begin t =
        let middle = t.ends.0 in
        let inner = t.ends.1 in
        let all = t.split ∙ ap (λ x. t.before ++ x) t.ends.2 in
        let inner-size = part-length fuel lines t.before inner middle all size in
        let u = known inner other (Endif ∷ write more c) inner-size q refl t.ends.4 in
        let last = u.ends.0 in
        let outer = u.ends.1 in
        let others = u.split ∙ ap (λ x. u.before ++ x) u.ends.2 in
        let v = known outer more c (part-length fuel inner u.before outer last others inner-size) p stops u.ends.4 in
        record {
          before = line ∷ t.before ++ (middle ∷ u.before ++ (last ∷ v.before));
          after = v.after;
          split =
              ap (λ x. line ∷ x)
              (all ∙ ap (λ x. t.before ++ (middle ∷ x)) (others ∙ ap (λ x. u.before ++ (last ∷ x)) v.split ∙ sym (append_assoc u.before (last ∷ v.before) v.after))
              ∙ sym (append_assoc t.before (middle ∷ u.before ++ (last ∷ v.before)) v.after));
          gives =
              gives-choice names n line middle last t.before u.before v.before (present (is_on names) body) (present (is_on names) other)
              (present (is_on names) more) begin t.ends.3 u.ends.3 t.gives u.gives v.gives;
          ends = v.ends;
        }

    by-directive : (a : Nest) (c rest : List Symbol) (k : Symbol) → is_directive k ≡ true → IsPlain a → Stops c → write a c ≡ k ∷ rest → SpellsLine line (k ∷ []) → SpellLines lines rest → Taken (line ∷ lines) a c
    by-directive nothing [] rest k is p stops e spelled others = cc
    by-directive nothing (d ∷ c) rest k is p stops e spelled others =
        let first : d ≡ k = cc in
        let behind : c ≡ rest = cc in
        taken-none (line ∷ lines) (d ∷ c)
        (line, lines, refl, subst (λ x. SpellsLine line (x ∷ [])) (sym first) spelled, subst (λ x. SpellLines lines x) (sym behind) others)
    by-directive (symbol s a) c rest k is p stops e spelled others =
        let first : s ≡ k = cc in
        absurd (both_ways (is_directive k) (ap is_directive (sym first) ∙ p.0) is)
    by-directive (one_branch n body more) c rest k is p stops e spelled others =
        let first : Ifdef n ≡ k = cc in
        let behind : write body (Endif ∷ write more c) ≡ rest = cc in
        let begin = subst (λ x. SpellsLine line (x ∷ [])) (sym first) spelled in
        taken-group n body more c p.1 stops begin
        (known lines body (Endif ∷ write more c) size p.0 refl (subst (λ x. SpellLines lines x) (sym behind) others))
    by-directive (two_branches n body other more) c rest k is p stops e spelled others =
        let first : Ifdef n ≡ k = cc in
        let behind : write body (Else ∷ write other (Endif ∷ write more c)) ≡ rest = cc in
        let begin = subst (λ x. SpellsLine line (x ∷ [])) (sym first) spelled in
        taken-choice n body other more c p.1 p.2 stops begin
        (known lines body (Else ∷ write other (Endif ∷ write more c)) size p.0 refl (subst (λ x. SpellLines lines x) (sym behind) others))

    by-line : (a : Nest) (c own rest : List Symbol) (directive : Bool) → line.directive ≡ directive → AreOfLine directive own → IsPlain a → Stops c → write a c ≡ own ++ rest → SpellsLine line own → SpellLines lines rest → Taken (line ∷ lines) a c
    by-line a c own rest false d form p stops e spelled others =
        let peeled = peel (is_on names) own rest c a stops p form e in
        taken-text line lines own rest c a peeled d spelled
        (known lines peeled.nest c size peeled.plain stops (subst (λ x. SpellLines lines x) peeled.writes others))
    by-line a c own rest true d (k, same, is) p stops e spelled others =
        by-directive a c rest k is p stops (e ∙ ap (λ x. x ++ rest) same) (subst (λ x. SpellsLine line x) same spelled) others

  take-lines : (fuel : ℕ) → Known fuel
  take-lines fuel [] nothing [] size p stops h = taken-none [] [] refl
  take-lines fuel [] nothing (k ∷ c) size p stops h = cc
  take-lines fuel [] (symbol s a) c size p stops h = cc
  take-lines fuel [] (one_branch n body rest) c size p stops h = cc
  take-lines fuel [] (two_branches n body other rest) c size p stops h = cc
  take-lines zero (line ∷ lines) a c size p stops h = absurd (omega (arith, size))
  take-lines (suc fuel) (line ∷ lines) a c size p stops (own, rest, e, spelled, others) =
      by-line fuel (take-lines fuel) line lines (omega (arith, size)) a c own rest line.directive refl spelled.form p stops e spelled others

  -- the lines of a whole file
  pub whole-lines : (lines : List PlainLine) (a : Nest) → IsPlain a → SpellLines lines (write a []) → Gives names lines (present (is_on names) a)
  whole-lines lines a p h =
      let t = take-lines (length lines) lines a [] (omega arith) p tt h in
      let all : lines ≡ t.before = t.split ∙ ap (λ x. t.before ++ x) t.ends ∙ append-nil t.before in
      subst (λ x. Gives names x (present (is_on names) a)) (sym all) t.gives
