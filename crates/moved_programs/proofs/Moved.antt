-- What comes of units whose tokens stand elsewhere.
use Rattle.std.proofs.Common.{◌≡◌, ℕ, Bool, true, false, List, map, refl, sym, ap, ◌∙◌, arith}
use Rattle.std.specs.List.{list_any}
use Rattle.c_text.specs.Token.{PlainToken}
use Rattle.c_tree.specs.Trees.{PlainTree}
use Rattle.core_meaning.specs.declared.refusals.TypeKind.{TypeKind}
use Rattle.core_meaning.specs.declared.refusals.LinkKind.{LinkKind}
use Rattle.core_meaning.specs.Program.{PlainProgram}
use Rattle.core_meaning.specs.Checking.{Binding, Checked, fine, refused, broken}
use Rattle.core_meaning.specs.Linking.{Units, judged_program, program_of, IsElaborated, IsBadlyTyped, IsBadlyLinked}
use Rattle.moved_programs.specs.Trees.{moved_tree, tokens_of, OnlyMoves, WasBadlyTyped}
use Rattle.moved_programs.specs.Laws.{PlacesDontMatter}
use Rattle.moved_programs.proofs.Moves.{elsewhere, moved_checked, stays}
use Rattle.moved_programs.proofs.Tokens.{same_token}
use Rattle.moved_programs.proofs.Places.{same_units, extended, at_listed, at_other, is_listed, extended_apart}
use Rattle.moved_programs.proofs.Programs.{same_program, program_moves}

-- ---- a judgement of which it is known what it gives elsewhere

was_fine : (h : PlainToken → PlainToken) (c : Checked Units) (linked : Units) (bindings : List Binding) → moved_checked h stays c ≡ fine linked bindings → c ≡ fine linked bindings
was_fine h (fine x before) linked bindings e = e
was_fine h (refused kind token) linked bindings e = absurd cc
was_fine h broken linked bindings e = absurd cc

was_refused : (h : PlainToken → PlainToken) (c : Checked Units) (kind : TypeKind) (token : PlainToken) → moved_checked h stays c ≡ refused kind token → (before : PlainToken) × (c ≡ refused kind before)
was_refused h (fine x before) kind token e = absurd cc
was_refused h (refused k before) kind token e = let same : k ≡ kind = cc in (before, ap (λ (k : TypeKind). refused k before) same)
was_refused h broken kind token e = absurd cc

module _ (f : PlainToken → PlainToken) (units : List PlainTree) (only : OnlyMoves f (tokens_of units)) where
  abbrev at_site : ℕ → PlainToken → PlainToken
  at_site site = extended f (tokens_of units) only site

  moved_is : (site : ℕ) → map (moved_tree f) units ≡ map (moved_tree (elsewhere (at_site site))) units
  moved_is site = same_units f (elsewhere (at_site site)) units (λ t h. sym (at_listed f (tokens_of units) only site t h))

  judged_is : (site : ℕ) → judged_program (map (moved_tree f) units) ≡ moved_checked (at_site site) stays (judged_program units)
  judged_is site = ap judged_program (moved_is site) ∙ (program_moves (at_site site) (extended_apart f (tokens_of units) only site) units).holds

  program_is : (linked : Units) → program_of (map (moved_tree f) units) linked ≡ program_of units linked
  program_is linked = ap (λ trees. program_of trees linked) (moved_is 0) ∙ same_program (at_site 0) units linked

  pub elaborated_moves : (p : PlainProgram) → IsElaborated units p → IsElaborated (map (moved_tree f) units) p
  elaborated_moves p e = record {
    linked = e.linked;
    bindings = e.bindings;
    judged = judged_is 0 ∙ ap (moved_checked (at_site 0) stays) e.judged;
    links = e.links;
    program = e.program ∙ sym (program_is e.linked);
  }

  pub unlinked_moves : (kind : LinkKind) (name : List ℕ) → IsBadlyLinked units kind name → IsBadlyLinked (map (moved_tree f) units) kind name
  unlinked_moves kind name e = record {
    linked = e.linked;
    bindings = e.bindings;
    judged = judged_is 0 ∙ ap (moved_checked (at_site 0) stays) e.judged;
    first = e.first;
  }

  refused_is : (site : ℕ) (kind : TypeKind) (token : PlainToken) → judged_program units ≡ refused kind token → judged_program (map (moved_tree f) units) ≡ refused kind (elsewhere (at_site site) token)
  refused_is site kind token e = judged_is site ∙ ap (moved_checked (at_site site) stays) e

  token_of : (kind : TypeKind) (a b : PlainToken) (c : Checked Units) → c ≡ refused kind a → c ≡ refused kind b → a ≡ b
  token_of kind a b c e i = cc

  -- A refused token is one of the units: of any other, functions that differ in it alone would give two refusals of the same trees.
  refused_at : (kind : TypeKind) (token : PlainToken) (b : Bool) → list_any (same_token token) (tokens_of units) ≡ b → judged_program units ≡ refused kind token → elsewhere (at_site 0) token ≡ f token
  refused_at kind token true listed e = at_listed f (tokens_of units) only 0 token (is_listed f (tokens_of units) only token listed)
  refused_at kind token false listed e =
      let same_ : elsewhere (at_site 0) token ≡ elsewhere (at_site 1) token = token_of kind _ _ (judged_program (map (moved_tree f) units)) (refused_is 0 kind token e) (refused_is 1 kind token e) in
      let files : ◌≡◌ {A = ℕ} 0 1 = ap (λ t. t.origin.site_file) (sym (at_other f (tokens_of units) only 0 token listed) ∙ same_ ∙ at_other f (tokens_of units) only 1 token listed) in
      absurd (omega (arith, files))

  pub refused_moves : (kind : TypeKind) (token : PlainToken) → IsBadlyTyped units kind token → IsBadlyTyped (map (moved_tree f) units) kind (f token)
  refused_moves kind token e = record {
    judged = refused_is 0 kind token e.judged ∙ ap (refused kind) (refused_at kind token (list_any (same_token token) (tokens_of units)) refl e.judged);
  }

  -- ---- and back

  fine_before : (linked : Units) (bindings : List Binding) → judged_program (map (moved_tree f) units) ≡ fine linked bindings → judged_program units ≡ fine linked bindings
  fine_before linked bindings e = was_fine (at_site 0) (judged_program units) linked bindings (sym (judged_is 0) ∙ e)

  pub was_elaborated : (p : PlainProgram) → IsElaborated (map (moved_tree f) units) p → IsElaborated units p
  was_elaborated p e = record {
    linked = e.linked;
    bindings = e.bindings;
    judged = fine_before e.linked e.bindings e.judged;
    links = e.links;
    program = e.program ∙ program_is e.linked;
  }

  pub was_unlinked : (kind : LinkKind) (name : List ℕ) → IsBadlyLinked (map (moved_tree f) units) kind name → IsBadlyLinked units kind name
  was_unlinked kind name e = record {
    linked = e.linked;
    bindings = e.bindings;
    judged = fine_before e.linked e.bindings e.judged;
    first = e.first;
  }

  pub was_badly_typed : (kind : TypeKind) (token : PlainToken) → IsBadlyTyped (map (moved_tree f) units) kind token → WasBadlyTyped f units kind token
  was_badly_typed kind token e =
      let before = was_refused (at_site 0) (judged_program units) kind token (sym (judged_is 0) ∙ e.judged) in
      let was : IsBadlyTyped units kind before.0 = record { judged = before.1 } in
      record {
        before = before.0;
        refused = was;
        moved = token_of kind token (f before.0) (judged_program (map (moved_tree f) units)) e.judged (refused_moves kind before.0 was).judged;
      }

pub places_dont_matter : PlacesDontMatter
places_dont_matter = record {
  programs = elaborated_moves;
  types = refused_moves;
  links = unlinked_moves;
  programs_before = was_elaborated;
  types_before = was_badly_typed;
  links_before = was_unlinked;
}
