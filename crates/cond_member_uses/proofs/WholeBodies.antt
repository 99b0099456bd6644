-- The block of a function is noted by its parts.
use Rattle.std.proofs.Common.{true, false, ◌++◌, sym, ap, subst, ◌∙◌}
use Rattle.c_tree.specs.declared.kinds.Kind.{Kind}
use Rattle.c_tree.specs.Trees.{PlainTrees, leaf, node}
use Rattle.c_text.specs.Token.{PlainToken}
use Rattle.statement_readings.specs.Walks.{is_refused}
use Rattle.statement_readings.specs.Laws.{starting, BodiesAreRead}
use Rattle.member_uses.specs.Laws.{BodiesAreUsed}
use Rattle.cond_statements.specs.Ready.{Ready}
use Rattle.cond_statements.specs.Readings.{Stand}
use Rattle.cond_statements.proofs.DerivedParts.{block_ready}
use Rattle.cond_member_uses.specs.Noted.{Noted, Notes, NotesBody}
use Rattle.cond_member_uses.proofs.Noting.{names_followed}

pub token_body : (token : PlainToken) (a : Noted) → NotesBody (leaf token) a a
token_body token a = record { notes = λ by result scope slots items bindings names pieces derived follows judged. absurd cc }

pub body_noted : BodiesAreRead → BodiesAreUsed → (kind : Kind) (parts : PlainTrees) (a b : Noted) → Notes kind parts a b → NotesBody (node kind parts) a b
body_noted read used kind parts a b x = record {
  notes = λ by result scope slots items bindings names pieces derived follows judged.
      let is = block_ready derived in
      let unrefused = read result scope slots (node kind parts) derived ∙ ap is_refused judged in
      let comes =
      x.notes by result false false true (starting scope slots) names pieces (subst (λ (m : Kind). Ready m true parts) (sym is.0) is.1) (subst (λ (m : Kind). Stand m true by a.tables scope) (sym is.0) follows) unrefused in
      comes.noted ∙ ap (λ l. a.uses ++ l) (used by result scope (names_followed a.tables scope follows.follows.follows names) slots (node kind parts) derived pieces items bindings judged);
}
